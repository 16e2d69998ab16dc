-- Laws of searches through the live firings: a key found by counting the lower ones, the keys as those of the lines.
-- Assumes nothing.
use mathlib.Core.Path.{◌≡◌, refl, sym, ◌∙◌, ap}
use mathlib.Core.Bool.{Bool, true, false, ◌&&◌}
use mathlib.Core.List.{List, [], ◌∷◌}
use Prim.Native.Nat.{ℕ, suc, ◌<◌, ◌≤◌}
use native.Mathlib.Omega.{arith}
use lib.Dec.{eqb, ltb, leb}
use lib.ListN.{length, get_or, get_or-eq_default}
use borrow.Author.Tests.{eq-eqb, ne_eqb, ltb-true, ltb-false, le-ltb}
use Rattle.causal.proofs.Tests.{test}
use Rattle.net.specs.Limits.{max_key}
use Rattle.net.specs.declared.Key.{Key}
use Rattle.net.specs.Tests.{pick, count}
use Rattle.net.specs.Journal.{LiveLine, line_keys}
use Rattle.net.proofs.Tests.{and_l, and_r}
use Rattle.net.proofs.Tables.{length-table, get_d-table}
use Rattle.bonds.proofs.Fill.{map-table}
use Rattle.firings.specs.Lines.{firing_at, as_line, lines_in}
use Rattle.firings.specs.Search.{keys_in, index_of}
use Rattle.firings.specs.Form.{climbs}
use Rattle.firings.specs.declared.Firings.{Firings}

-- ---- a key among ascending ones

-- how many are less
abbrev lower : Key → List ℕ → ℕ
lower k xs = count (λ x. ltb x k.0) xs

-- none of those above k is k, or less
above : (k : Key) (x : ℕ) (xs : List ℕ) → climbs x xs ≡ true → k.0 ≤ x → (lower k xs ≡ 0) × (index_of k xs ≡ length xs)
above k x [] h l = (refl, refl)
above k x (y ∷ ys) h l =
    let a : x < y = ltb-true x y (and_l (ltb x y) _ (and_l (ltb x y && leb y max_key) _ h)) in
    let (p, q) = above k y ys (and_r (ltb x y && leb y max_key) _ h) (omega arith) in
    let u : k.0 ≤ y = omega arith in
    let v : y ≡ k.0 → ⊥ = λ e. omega arith in
    rw (le-ltb y k.0 u, ne_eqb y k.0 v) (omega arith, ap suc q)

-- the place of a key: as many as are less, where the key stands there
place : (k : Key) (last : ℕ) (xs : List ℕ) → climbs last xs ≡ true → index_of k xs ≡ pick (eqb (get_or xs (lower k xs) (suc k.0)) k.0) (lower k xs) (length xs)
place k last [] h = let no : suc k.0 ≡ k.0 → ⊥ = λ e. omega arith in rw (ne_eqb (suc k.0) k.0 no)
place k last (x ∷ xs) h = test (ltb x k.0) (less (place k x xs (and_r (ltb last x && leb x max_key) _ h))) more
  where
    rest : climbs x xs ≡ true
    rest = and_r (ltb last x && leb x max_key) _ h

    less : index_of k xs ≡ pick (eqb (get_or xs (lower k xs) (suc k.0)) k.0) (lower k xs) (length xs) → ltb x k.0 ≡ true
        → index_of k (x ∷ xs) ≡ pick (eqb (get_or (x ∷ xs) (lower k (x ∷ xs)) (suc k.0)) k.0) (lower k (x ∷ xs)) (suc (length xs))
    less ih e =
        let l : x < k.0 = ltb-true x k.0 e in
        let no : x ≡ k.0 → ⊥ = λ q. omega arith in
        let one : lower k (x ∷ xs) ≡ suc (lower k xs) = rw e (omega arith) in
        rw (ne_eqb x k.0 no, one) (ap suc ih ∙ up (eqb (get_or xs (lower k xs) (suc k.0)) k.0))
      where
        up : (b : Bool) → suc (pick b (lower k xs) (length xs)) ≡ pick b (suc (lower k xs)) (suc (length xs))
        up true = refl
        up false = refl

    more : ltb x k.0 ≡ false → index_of k (x ∷ xs) ≡ pick (eqb (get_or (x ∷ xs) (lower k (x ∷ xs)) (suc k.0)) k.0) (lower k (x ∷ xs)) (suc (length xs))
    more e =
        let l : k.0 ≤ x = ltb-false x k.0 e in
        let (p, q) = above k x xs rest l in
        let none : lower k (x ∷ xs) ≡ 0 = rw e (omega arith) in
        rw (none, q) refl

module _ (k : Key) (keys : List ℕ) (live n : ℕ) (c : climbs 0 (keys_in live keys) ≡ true) (e : n ≡ count (λ x. ltb x k.0) (keys_in live keys)) where
  by_place : (b : Bool) → eqb (get_or (keys_in live keys) n (suc k.0)) k.0 ≡ b → index_of k (keys_in live keys) ≡ pick b n live
  by_place b q = place k 0 (keys_in live keys) c
      ∙ (λ i. pick (eqb (get_or (keys_in live keys) (e' i) (suc k.0)) k.0) (e' i) (length-table live (λ j. get_or keys j 0) i))
      ∙ ap (λ (x : Bool). pick x n live) q
    where
      e' : count (λ x. ltb x k.0) (keys_in live keys) ≡ n
      e' = sym e

  pub all-lower : live ≤ n → live ≡ index_of k (keys_in live keys)
  all-lower h =
      let no : suc k.0 ≡ k.0 → ⊥ = λ q. omega arith in
      sym (by_place false (ap (λ (x : ℕ). eqb x k.0) (get_or-eq_default (keys_in live keys) (suc k.0) (rw length-table h)) ∙ ne_eqb (suc k.0) k.0 no))

  pub other_key : n < live → (get_or keys n 0 ≡ k.0 → ⊥) → live ≡ index_of k (keys_in live keys)
  other_key h q = sym (by_place false (ap (λ (x : ℕ). eqb x k.0) (get_d-table live (λ j. get_or keys j 0) n (suc k.0) h) ∙ ne_eqb (get_or keys n 0) k.0 q))

  pub this_key : n < live → get_or keys n 0 ≡ k.0 → n ≡ index_of k (keys_in live keys)
  this_key h q = sym (by_place true (ap (λ (x : ℕ). eqb x k.0) (get_d-table live (λ j. get_or keys j 0) n (suc k.0) h) ∙ eq-eqb (get_or keys n 0) k.0 q))

-- ---- the live keys are the keys of the lines that the firings hold

pub keys-of-lines : (n : ℕ) (f : Firings) → keys_in f.live f.keys ≡ line_keys (lines_in n f)
keys-of-lines n f = sym (map-table (λ (l : LiveLine). l.key.0) f.live (λ i. as_line n (firing_at f.transitions f.keys f.moved i)))
