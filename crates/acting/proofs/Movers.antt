-- The table of last movers beside a command in place: what the lamp says of a live firing, and the table after a firing and after a
-- taking back. Assumes that what is lent passes 1 to 10.
use mathlib.Core.Path.{◌≡◌, refl, sym, ◌∙◌, ap, subst}
use mathlib.Core.Logic.{inr}
use mathlib.Core.Bool.{false, not}
use mathlib.Core.List.{List, [], ◌∷◌, ◌++◌}
use Prim.Native.Nat.{ℕ, zero, suc, ◌^◌, ◌<◌, ◌≤◌}
use native.Mathlib.Omega.{arith}
use native.Mathlib.Nat.{le_of_suc-le-suc, not-suc-le-zero}
use lib.ListN.{length, get_or}
use Rattle.causal.specs.Lists.{Mem}
use Rattle.causal.proofs.Tests.{both}
use Rattle.causal.proofs.Lists.{mem-mid, mem-right}
use Rattle.net.specs.Limits.{max_bases}
use Rattle.net.specs.Tests.{table}
use Rattle.net.specs.Journal.{LiveLine, Journal, no_line, line_of, without, common, built_on}
use Rattle.net.specs.declared.Key.{Key}
use Rattle.net.proofs.Tests.{fails}
use Rattle.net.proofs.Tables.{length-table, get_d-table, table-cong, table-list}
use Rattle.net.proofs.Keys.{Up, without-split, up-after, built-i}
use Rattle.format.specs.Parts.{bases_of}
use Rattle.format.specs.NetOf.{net_of}
use Rattle.words.specs.Sets.{set_of, packed}
use Rattle.words.proofs.Bits.{set-packed, packed_lt}
use Rattle.marking.specs.declared.Marking.{Marking}
use Rattle.firings.specs.Lines.{firing_at, as_line}
use Rattle.firings.specs.declared.Firings.{Firings}
use Rattle.movers.specs.Lamp.{last_mover, last_movers, key_at_all, on_top, marked, given_back}
use Rattle.movers.proofs.Lamp.{movers-fire, movers-undo, top-says}
use Rattle.sound.specs.Soundness.{journal_in, Passed, Kept}
use Rattle.sound.proofs.Holds.{few, held}
use Rattle.sound.proofs.Fits.{run-flags}
use Rattle.sound.proofs.Movers.{marked-set, top_set, firsts, back-set, sets-low}
use Rattle.undoing.proofs.Places.{Found}

-- the first of a table, where it is the first of a list
front : (n : ℕ) (f : ℕ → LiveLine) (xs ys : List LiveLine) → table n f ≡ xs ++ ys → length xs ≤ n → table (length xs) f ≡ xs
front n f xs ys e h = table-cong (length xs) f (λ p. get_or xs p no_line) (λ p k. sym (get_d-table n f p no_line (omega arith)) ∙ ap (λ (l : List LiveLine). get_or l p no_line) e ∙ getD-left xs ys p k) ∙ table-list xs no_line
  where
    getD-left : (xs ys : List LiveLine) (p : ℕ) → p < length xs → get_or (xs ++ ys) p no_line ≡ get_or xs p no_line
    getD-left [] ys p h = absurd (not-suc-le-zero h)
    getD-left (x ∷ xs) ys zero h = refl
    getD-left (x ∷ xs) ys (suc p) h = getD-left xs ys p (le_of_suc-le-suc h)

module _ (s : List ℕ) (m : Marking) (f : Firings) (g : Key) (P : Passed s m f g) where
  abbrev n : ℕ
  n = bases_of s

  abbrev j : Journal
  j = journal_in n m f g

  abbrev ls : List LiveLine
  ls = j.lines

  abbrev at : ℕ → LiveLine
  at i = as_line n (firing_at f.transitions f.keys f.moved i)

  flags : (l : LiveLine) → Mem l ls → length l.moved ≡ n
  unfolding net_of
  flags = run-flags (net_of s) ls (net_of s).start j.marking (held s m f g P).run

  module _ (i : ℕ) (h : i < f.live) (k : Key) (F : Found k ls i) where
    line-is : at i ≡ line_of k ls
    line-is = sym (get_d-table f.live at i no_line h) ∙ F.line no_line

    -- what the lamp looks at, by the set as a word and by the line
    pub top-line : (ms : List ℕ) → key_at_all max_bases ms (set_of max_bases (get_or f.moved i 0)) k.0 ≡ on_top max_bases ms (line_of k ls)
    top-line ms = top_set n (get_or f.moved i 0) (few s m f g P) (sets-low s m f g P i h) k.0 ms
        ∙ ap (key_at_all max_bases ms (at i).moved) (sym F.key ∙ ap (λ (l : LiveLine). l.key.0) (sym line-is))
        ∙ ap (on_top max_bases ms) line-is

module _ (s : List ℕ) (m : Marking) (f : Firings) (g : Key) (ms : List ℕ) (K : Kept s m f g ms) where
  -- the table has its full length
  pub movers-full : length ms ≡ max_bases
  movers-full = ap length K.movers ∙ length-table max_bases (λ p. last_mover p (ls s m f g K.passed))

  -- after a firing: l is its line, w its moved set as a word
  pub movers-fired : (l : LiveLine) (k w : ℕ) → k ≡ l.key.0 → w ≡ packed l.moved → length l.moved ≡ bases_of s → marked max_bases (set_of max_bases w) k ms ≡ last_movers max_bases (ls s m f g K.passed ++ (l ∷ []))
  movers-fired l k w ek ew size =
      let n : ℕ = bases_of s in
      let set : set_of n w ≡ l.moved = (λ i. set_of (sym size i) (ew i)) ∙ set-packed l.moved in
      let low : w < 2 ^ n = rw (ew, ← size) (packed_lt l.moved) in
      marked-set n w (few s m f g K.passed) low k ms
      ∙ (λ i. marked max_bases (set i) (ek i) (K.movers i))
      ∙ sym (movers-fire max_bases (ls s m f g K.passed) l)

  module _ (i : ℕ) (h : i < f.live) (k : Key) (F : Found k (ls s m f g K.passed) i) where
    abbrev l : LiveLine
    l = line_of k (ls s m f g K.passed)

    up : Up (F.before ++ l ∷ F.after)
    up = subst (λ (x : List LiveLine). Up x) F.split (held s m f g K.passed).up

    mine : Mem l (ls s m f g K.passed)
    mine = subst (λ (x : List LiveLine). Mem l x) (sym F.split) (mem-mid l F.before F.after)

    -- the lamp is lit where no firing was built on it
    pub top-is : on_top max_bases ms l ≡ not (built_on (ls s m f g K.passed) l)
    top-is = ap (λ (t : List ℕ). on_top max_bases t l) K.movers
        ∙ top-says max_bases (ls s m f g K.passed) (held s m f g K.passed).up l mine (let a = flags s m f g K.passed l mine in let b = few s m f g K.passed in omega arith)

    -- after a taking back
    pub movers-undone : built_on (ls s m f g K.passed) l ≡ false
        → given_back max_bases (firsts f max_bases i) (set_of max_bases (get_or f.moved i 0)) ms ≡ last_movers max_bases (without k (ls s m f g K.passed))
    movers-undone b =
        let P = K.passed in
        let xs : List LiveLine = F.before in
        let ys : List LiveLine = F.after in
        let before : table i (at s m f g P) ≡ xs = ap (λ (x : ℕ). table x (at s m f g P)) (sym F.place) ∙ front f.live (at s m f g P) xs (l ∷ ys) F.split (let e = F.place in omega arith) in
        let free : (x : LiveLine) → Mem x ys → common l.moved x.moved ≡ false = λ x q. fails (common l.moved x.moved) (λ e. both (built_on (ls s m f g P) l)
        (built-i (ls s m f g P) l x (subst (λ (z : List LiveLine). Mem x z) (sym F.split) (mem-right xs (l ∷ ys) x (inr q))) (up-after l xs ys up x q) e) b) in
        back-set (bases_of s) f (few s m f g P) (sets-low s m f g P) i h ms
        ∙ (λ x. given_back max_bases (before x) (line-is s m f g P i h k F x).moved (K.movers x))
        ∙ ap (λ (x : List LiveLine). given_back max_bases xs l.moved (last_movers max_bases x)) F.split
        ∙ sym (movers-undo max_bases l xs ys free)
        ∙ ap (last_movers max_bases) (sym (ap (without k) F.split ∙ without-split k l xs ys F.key up))
