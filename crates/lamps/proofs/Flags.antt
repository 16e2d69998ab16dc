-- The lamps of the live firings; and that lines alike have the same lamps.
-- Assumes keys that ascend.
use mathlib.Core.Path.{◌≡◌, refl, sym, ◌∙◌, ap, ap₂}
use mathlib.Core.Bool.{Bool, true, false, ◌&&◌}
use mathlib.Core.List.{List}
use Prim.Native.Nat.{ℕ, ◌<◌, ◌≤◌}
use native.Mathlib.Omega.{arith}
use lib.Dec.{eqb, ltb}
use lib.ListN.{length, get_or}
use borrow.Author.Tests.{le-ltb, lt-ltb}
use Rattle.net.specs.Limits.{max_bases, max_live}
use Rattle.net.specs.Tests.{table}
use Rattle.net.specs.Journal.{LiveLine, no_line, line_of}
use Rattle.net.specs.declared.Key.{Key}
use Rattle.firings.specs.declared.Firings.{Firings}
use Rattle.net.proofs.Tables.{get_d-table}
use Rattle.net.proofs.Firsts.{first-inside, first-outside, first_holds}
use Rattle.net.proofs.Keys.{Up, same_key_lem, line-live, own_line}
use Rattle.firings.specs.Lines.{lines_in}
use Rattle.firings.specs.Search.{keys_in, index_of}
use Rattle.firings.specs.Form.{climbs}
use Rattle.firings.proofs.Keys.{keys-up, live-keys}
use Rattle.firings.proofs.Laid.{mem-at}
use Rattle.words.specs.Sets.{set_of}
use Rattle.movers.specs.Lamp.{key_at_all, on_top, lamp}
use Rattle.firings.proofs.Lines.{SameLines, same_length, same_at, lines-length, line-at}
use Rattle.movers.proofs.Alike.{lamp-alike}
use Rattle.lamps.specs.Lamps.{flag_at, lit_of, shown}
use Rattle.net.specs.declared.Verdict.TheVariants.{Accepted}

-- ---- of lines

-- the lamp of a line's own key: whether the line is on top
pub own-lamp : (t : List ℕ) (ls : List LiveLine) → Up ls → (i : ℕ) → i < length ls → on_top max_bases t (get_or ls i no_line) ≡ lamp max_bases t ls (get_or ls i no_line).key
own-lamp t ls u i h =
    let l : LiveLine = get_or ls i no_line in
    let m = mem-at ls no_line i h in
    sym (λ x. line-live ls l l.key m refl x && on_top max_bases t (own_line ls u l m x))

-- lines alike
module _ (t : List ℕ) (ls ks : List LiveLine) (h : SameLines ls ks) where
  flag-alike : (i : ℕ) → flag_at t ls i ≡ flag_at t ks i
  flag-alike i = ap₂ ◌&&◌ (ap (ltb i) (same_length ls ks h)) (lamp-alike max_bases t ls ks h (get_or ls i no_line).key ∙ ap (lamp max_bases t ks) (same_at ls ks h i).key)

  pub shown-alike : shown t ls ≡ shown t ks
  shown-alike = λ x. record { answer = Accepted; count = same_length ls ks h x; lit = table max_live (λ i. flag-alike i x) }

-- ---- of live firings

module _ (f : Firings) where
  abbrev lines : List LiveLine
  lines = lines_in max_bases f

  -- the flag of the firing at i
  pub flag-live : climbs 0 (keys_in f.live f.keys) ≡ true → (t : List ℕ) (i : ℕ) → i < f.live → key_at_all max_bases t (set_of max_bases (get_or f.moved i 0)) (get_or f.keys i 0) ≡ flag_at t lines i
  flag-live c t i h =
      let e = lines-length max_bases f in
      ap (on_top max_bases t) (sym (line-at max_bases f i h)) ∙ own-lamp t lines (keys-up max_bases f c) i (omega arith)
      ∙ sym (ap (λ (b : Bool). b && lamp max_bases t lines (get_or lines i no_line).key) (lt-ltb i (length lines) (omega arith)))

  pub flag-after : (t : List ℕ) (i : ℕ) → f.live ≤ i → false ≡ flag_at t lines i
  flag-after t i h = let e = lines-length max_bases f in sym (ap (λ (b : Bool). b && lamp max_bases t lines (get_or lines i no_line).key) (le-ltb i (length lines) (omega arith)))

  pub all_shown : (t : List ℕ) (lit : List Bool) → lit ≡ lit_of t lines → record { answer = Accepted; count = f.live; lit = lit } ≡ shown t lines
  all_shown t lit e = λ x. record { answer = Accepted; count = sym (lines-length max_bases f) x; lit = e x }

  -- the place of a key
  module _ (k : Key) (i : ℕ) (at : i ≡ index_of k (keys_in f.live f.keys)) where
    pub lamp-found : i < f.live → (t : List ℕ) → flag_at t lines i ≡ lamp max_bases t lines k
    lamp-found h t =
        let e = lines-length max_bases f in
        let is : eqb (get_or (keys_in f.live f.keys) i 0) k.0 ≡ true =
        ap (λ (y : ℕ). eqb (get_or (keys_in f.live f.keys) y 0) k.0) at ∙ first_holds (λ x. eqb x k.0) (keys_in f.live f.keys) 0 (first-inside (λ x. eqb x k.0) f.live (λ j. get_or f.keys j 0) i at h) in
        let same : (get_or lines i no_line).key ≡ k =
        ap (λ (l : LiveLine). l.key) (line-at max_bases f i h) ∙ same_key_lem _ k (ap (λ (y : ℕ). eqb y k.0) (sym (get_d-table f.live (λ j. get_or f.keys j 0) i 0 h)) ∙ is) in
        ap₂ ◌&&◌ (lt-ltb i (length lines) (omega arith)) (ap (lamp max_bases t lines) same)

    pub lamp-dead : f.live ≤ i → (t : List ℕ) → false ≡ lamp max_bases t lines k
    lamp-dead h t = sym (ap (λ (b : Bool). b && on_top max_bases t (line_of k lines))
        (sym (live-keys max_bases f k) ∙ first-outside (λ x. eqb x k.0) f.live (λ j. get_or f.keys j 0) i at h))
