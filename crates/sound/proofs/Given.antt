-- The highest key given beside the live ones: the last live key is the highest, and soundness is that of the firings and of the key.
-- Assumes nothing.
use mathlib.Core.Path.{◌≡◌, refl, sym, ◌∙◌, ap, subst}
use mathlib.Core.Bool.{Bool, true, false, ◌&&◌, and-false, and_assoc}
use mathlib.Core.List.{List, [], ◌∷◌, ◌++◌}
use Prim.Native.Nat.{ℕ, zero, suc, ◌-◌, ◌<◌, ◌≤◌}
use native.Mathlib.Omega.{arith}
use lib.Dec.{leb}
use lib.ListN.{length, get_or}
use borrow.Author.Tests.{ne_eqb, leb-true, le-leb, lt-leb}
use Rattle.causal.proofs.Lists.{mem-mid}
use Rattle.net.specs.Limits.{max_live, max_key}
use Rattle.net.specs.Tests.{pick, table}
use Rattle.net.specs.Journal.{key, LiveLine, highest_live}
use Rattle.net.specs.History.{lines_in_form, replays, given_in_form}
use Rattle.net.specs.declared.Key.{Key}
use Rattle.net.proofs.Tests.{and_l, and_r}
use Rattle.net.proofs.Tables.{table-snoc}
use Rattle.net.proofs.Keys.{Up, highest-snoc}
use Rattle.net.proofs.History.{ascends-up}
use Rattle.format.specs.Parts.{bases_of}
use Rattle.format.specs.NetOf.{net_of}
use Rattle.marking.specs.Form.{marking_of, in_form}
use Rattle.marking.specs.declared.Marking.{Marking}
use Rattle.firings.specs.Lines.{firing_at, as_line, lines_in}
use Rattle.firings.specs.Form.{firings_in_form}
use Rattle.firings.specs.Search.{last_key}
use Rattle.firings.specs.declared.Firings.{Firings}
use Rattle.sound.specs.Soundness.{journal_in, formed, sound_in, runs_in}

up-below : (xs : List LiveLine) (l : LiveLine) → Up (xs ++ (l ∷ [])) → (highest_live xs).0 ≤ l.key.0
up-below [] l u = omega arith
up-below (x ∷ xs) l u = let a = u.0 l (mem-mid l xs []) in let b = up-below xs l u.1 in omega arith

last_of : (g : ℕ → LiveLine) (k : ℕ) → Up (table (suc k) g) → (highest_live (table (suc k) g)).0 ≡ (g k).key.0
last_of g k u =
    let u' : Up (table k g ++ (g k ∷ [])) = subst (λ (x : List LiveLine). Up x) (table-snoc k g) u in
    ap (λ (ls : List LiveLine). (highest_live ls).0) (table-snoc k g) ∙ highest-snoc (table k g) (g k) (up-below (table k g) (g k) u')

pub last-given : (n : ℕ) (f : Firings) → Up (lines_in n f) → last_key f.live f.keys ≡ highest_live (lines_in n f)
last-given n f u = go f.live u
  where
    at : ℕ → LiveLine
    at i = as_line n (firing_at f.transitions f.keys f.moved i)

    go : (k : ℕ) → Up (table k at) → last_key k f.keys ≡ highest_live (table k at)
    go zero v = refl
    go (suc k) v =
        let e : suc k - 1 ≡ k = omega arith in
        ap (λ (b : Bool). pick b (key 0) (key (get_or f.keys (suc k - 1) 0))) (ne_eqb (suc k) 0 (λ h. omega arith)) ∙ ap (λ (j : ℕ). key (get_or f.keys j 0)) e
        ∙ ap key (sym (last_of at k v))

-- ---- soundness

module _ (s : List ℕ) (m : Marking) (f : Firings) (k : Key) where
  abbrev ls : List LiveLine
  ls = lines_in (bases_of s) f

  -- the firings', and the key's
  parted : sound_in s m f k ≡ (runs_in s m f && given_in_form (journal_in (bases_of s) m f k))
  unfolding sound_in runs_in
  parted = sym (and_assoc (formed (bases_of s) m f) (lines_in_form ls && replays (net_of s) (net_of s).start ls (marking_of (bases_of s) m)) (given_in_form (journal_in (bases_of s) m f k)))

  pub not-run : runs_in s m f ≡ false → sound_in s m f k ≡ false
  not-run h = parted ∙ ap (λ (b : Bool). b && given_in_form (journal_in (bases_of s) m f k)) h

  module _ (h : runs_in s m f ≡ true) where
    pub live-most : f.live ≤ max_live
    unfolding runs_in
    live-most = leb-true f.live max_live (and_l _ (firings_in_form (bases_of s) f) (and_r (in_form (bases_of s) m) _ (and_l (formed (bases_of s) m f) _ h)))

    ups : Up ls
    unfolding runs_in
    ups = ascends-up ls (and_l _ _ (and_r (leb (length ls) max_live) _ (and_l (lines_in_form ls) _ (and_r (formed (bases_of s) m f) _ h))))

    highest-is : (highest_live ls).0 ≡ (last_key f.live f.keys).0
    highest-is = ap (λ (x : Key). x.0) (sym (last-given (bases_of s) f ups))

    pub key_below : (last : Key) → last ≡ last_key f.live f.keys → k.0 < last.0 → sound_in s m f k ≡ false
    key_below last e l =
        let q : last.0 ≡ (last_key f.live f.keys).0 = ap (λ (x : Key). x.0) e in
        let d = highest-is in
        parted ∙ ap (λ (b : Bool). runs_in s m f && (b && leb k.0 max_key)) (lt-leb (highest_live ls).0 k.0 (omega arith)) ∙ and-false (runs_in s m f)

    pub key_above : (last : Key) → last ≡ last_key f.live f.keys → last.0 ≤ k.0 → k.0 ≤ max_key → sound_in s m f k ≡ true
    key_above last e l t =
        let q : last.0 ≡ (last_key f.live f.keys).0 = ap (λ (x : Key). x.0) e in
        let d = highest-is in
        parted ∙ (λ i. h i && (le-leb (highest_live ls).0 k.0 (omega arith) i && le-leb k.0 max_key t i))
