-- Live firings in their form are laid out as their lines are, and lines in arrays are read back whole.
-- Assumes nothing.
use mathlib.Core.Path.{◌≡◌, refl, sym, ◌∙◌, ap}
use mathlib.Core.Logic.{inl, inr}
use mathlib.Core.Bool.{Bool, true, ◌&&◌}
use mathlib.Core.List.{List, [], ◌∷◌, ◌++◌, map}
use Prim.Native.Nat.{ℕ, zero, suc, ◌-◌, ◌^◌, ◌<◌, ◌≤◌}
use native.Mathlib.Omega.{arith}
use native.Mathlib.Nat.{le_of_suc-le-suc, not-suc-le-zero}
use lib.Dec.{leb}
use lib.Pow.{pow_pos}
use lib.ListN.{length, get_or, replicate, length-map, get_or-append}
use borrow.Author.Tests.{leb-true, le-leb}
use Rattle.causal.specs.Lists.{Mem}
use Rattle.net.specs.Limits.{max_live}
use Rattle.net.specs.Tests.{all, table}
use Rattle.net.specs.Journal.{LiveLine, no_line, transition, key, line_keys}
use Rattle.net.proofs.Tests.{and_l, and_r, and_i}
use Rattle.net.proofs.Tables.{length-table, table-cong, table-list}
use Rattle.bonds.proofs.Fill.{map-table}
use Rattle.words.specs.Sets.{set_of, packed}
use Rattle.words.proofs.Bits.{set-packed, packed-set, packed_lt}
use Rattle.marking.specs.Form.{padded, zero_from}
use Rattle.marking.proofs.Padding.{zero-padded, padded-zero, length-padded}
use Rattle.bonds.proofs.InPlace.{table-take}
use Rattle.firings.specs.Lines.{lying, firing_at, as_line, lines_in, steps_of, sets_of, firings_of}
use Rattle.firings.specs.Form.{all_within, used_in_form, unused_in_form}
use Rattle.firings.specs.declared.Firings.{Firings}

-- ---- from the arrays to the lines and back

-- the arrays' lengths, which the struct's type gives
pub record Sized (f : Firings) : Type 0 where
  pub transitions : length f.transitions ≡ max_live
  pub keys : length f.keys ≡ max_live
  pub moved : length f.moved ≡ max_live

-- what passes for all of a table passes for each
all-at : (t : ℕ → Bool) (n : ℕ) (f : ℕ → ℕ) → all t (table n f) ≡ true → (i : ℕ) → i < n → t (f i) ≡ true
all-at t zero f h i k = absurd (not-suc-le-zero k)
all-at t (suc n) f h zero k = and_l (t (f zero)) _ h
all-at t (suc n) f h (suc i) k = all-at t n (λ j. f (suc j)) (and_r (t (f zero)) _ h) i (le_of_suc-le-suc k)

module _ (n : ℕ) (f : Firings) where
  abbrev at : ℕ → LiveLine
  at i = as_line n (firing_at f.transitions f.keys f.moved i)

  -- an array that is 0 from the live ones on, and what g reads of the lines there
  array-laid : (g : LiveLine → ℕ) (a : List ℕ) → length a ≡ max_live → f.live ≤ max_live → zero_from f.live a ≡ true
      → ((i : ℕ) → i < f.live → g (at i) ≡ get_or a i 0) → a ≡ padded max_live (map g (lines_in n f))
  array-laid g a size few zeros same =
      zero-padded a f.live max_live size few zeros
      ∙ ap (padded max_live) (sym (map-table g f.live at ∙ table-cong f.live (λ i. g (at i)) (λ i. get_or a i 0) same ∙ table-take f.live a 0 (omega arith)))

  pub firings-laid : Sized f → f.live ≤ max_live → used_in_form n f ≡ true → unused_in_form f ≡ true → f ≡ firings_of (lines_in n f)
  firings-laid S few used free =
      let rest : (zero_from f.live f.keys && zero_from f.live f.moved) ≡ true = and_r (zero_from f.live f.transitions) _ free in
      let live : f.live ≡ length (lines_in n f) = sym (length-table f.live at) in
      let low : (i : ℕ) → i < f.live → get_or f.moved i 0 < 2 ^ n = λ i h.
      let top = leb-true (get_or f.moved i 0) (2 ^ n - 1) (all-at (λ w. leb w (2 ^ n - 1)) f.live (λ j. get_or f.moved j 0) used i h) in
      let some = pow_pos n in omega arith in
      let a = array-laid (λ (l : LiveLine). l.transition.0) f.transitions S.transitions few (and_l _ _ free) (λ i h. refl) in
      let b = array-laid (λ (l : LiveLine). l.key.0) f.keys S.keys few (and_l _ _ rest) (λ i h. refl) in
      let c = array-laid (λ (l : LiveLine). packed l.moved) f.moved S.moved few (and_r (zero_from f.live f.keys) _ rest) (λ i h. packed-set n (get_or f.moved i 0) (low i h)) in
      λ i. lying (live i) (a i) (b i) (c i)

-- ---- lines in arrays

pub get_d_front : {X : Type 0} (g : X → ℕ) (xs : List X) (r : List ℕ) (d : X) (i : ℕ) → i < length xs → get_or (map g xs ++ r) i 0 ≡ g (get_or xs i d)
get_d_front g [] r d i h = absurd (not-suc-le-zero h)
get_d_front g (x ∷ xs) r d zero h = refl
get_d_front g (x ∷ xs) r d (suc i) h = get_d_front g xs r d i (le_of_suc-le-suc h)

pub mem-at : {X : Type 0} (xs : List X) (d : X) (i : ℕ) → i < length xs → Mem (get_or xs i d) xs
mem-at [] d i h = absurd (not-suc-le-zero h)
mem-at (x ∷ xs) d zero h = inl refl
mem-at (x ∷ xs) d (suc i) h = inr (mem-at xs d i (le_of_suc-le-suc h))

module _ (n : ℕ) (ls : List LiveLine) (flags : (l : LiveLine) → Mem l ls → length l.moved ≡ n) where
  -- each line is read back
  line-back : (i : ℕ) → i < length ls → as_line n (firing_at (firings_of ls).transitions (firings_of ls).keys (firings_of ls).moved i) ≡ get_or ls i no_line
  line-back i h =
      let l : LiveLine = get_or ls i no_line in
      let t = get_d_front (λ (x : LiveLine). x.transition.0) ls _ no_line i h in
      let k = get_d_front (λ (x : LiveLine). x.key.0) ls _ no_line i h in
      let w = get_d_front (λ (x : LiveLine). packed x.moved) ls _ no_line i h in
      let m : set_of n (get_or (firings_of ls).moved i 0) ≡ l.moved = ap (set_of n) w ∙ ap (λ (j : ℕ). set_of j (packed l.moved)) (sym (flags l (mem-at ls no_line i h))) ∙ set-packed l.moved in
      λ j. record { transition = transition (t j); key = key (k j); moved = m j }

  pub lines-back : lines_in n (firings_of ls) ≡ ls
  lines-back = table-cong (length ls) (λ i. as_line n (firing_at (firings_of ls).transitions (firings_of ls).keys (firings_of ls).moved i)) (λ i. get_or ls i no_line) line-back ∙ table-list ls no_line

  within-each : (xs : List LiveLine) → ((l : LiveLine) → Mem l xs → length l.moved ≡ n) → all_within (2 ^ n - 1) (sets_of xs) ≡ true
  within-each [] h = refl
  within-each (l ∷ xs) h =
      let e : length l.moved ≡ n = h l (inl refl) in
      let a : packed l.moved < 2 ^ n = rw (← e) (packed_lt l.moved) in
      let b : packed l.moved ≤ 2 ^ n - 1 = omega arith in
      and_i (leb (packed l.moved) (2 ^ n - 1)) (all_within (2 ^ n - 1) (sets_of xs)) (le-leb (packed l.moved) (2 ^ n - 1) b) (within-each xs (λ k m. h k (inr m)))

  pub lines-used : length ls ≤ max_live → used_in_form n (firings_of ls) ≡ true
  lines-used few =
      let size : length (sets_of ls) ≡ length ls = length-map ls (λ (l : LiveLine). packed l.moved) in
      let read : table (length ls) (λ i. get_or (firings_of ls).moved i 0) ≡ sets_of ls =
      ap (λ (k : ℕ). table k (λ i. get_or (firings_of ls).moved i 0)) (sym size)
      ∙ table-cong (length (sets_of ls)) (λ i. get_or (firings_of ls).moved i 0) (λ i. get_or (sets_of ls) i 0) (λ i h. get_or-append (sets_of ls) (replicate (max_live - length (sets_of ls)) 0) 0 i h) ∙ table-list (sets_of ls) 0 in
      ap (all_within (2 ^ n - 1)) read ∙ within-each ls flags

  pub lines-unused : unused_in_form (firings_of ls) ≡ true
  lines-unused = rw (
    padded-zero (steps_of ls) max_live (length ls) (length-map ls (λ (l : LiveLine). l.transition.0)),
    padded-zero (line_keys ls) max_live (length ls) (length-map ls (λ (l : LiveLine). l.key.0)),
    padded-zero (sets_of ls) max_live (length ls) (length-map ls (λ (l : LiveLine). packed l.moved)),
  )

-- the arrays of lines have their full length
pub sized_of : (ls : List LiveLine) → length ls ≤ max_live → Sized (firings_of ls)
sized_of ls few = record {
  transitions = length-padded (steps_of ls) max_live (rw (length-map ls (λ (l : LiveLine). l.transition.0)) few);
  keys = length-padded (line_keys ls) max_live (rw (length-map ls (λ (l : LiveLine). l.key.0)) few);
  moved = length-padded (sets_of ls) max_live (rw (length-map ls (λ (l : LiveLine). packed l.moved)) few);
}
