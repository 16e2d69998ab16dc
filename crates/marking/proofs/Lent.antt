-- Arrays that hold a marking in its form: their lengths, and zeros behind the bonds where there is one bond more or less.
-- Assumes nothing.
use mathlib.Core.Path.{◌≡◌, sym, ◌∙◌, ap}
use mathlib.Core.List.{List, ◌∷◌, ◌++◌}
use Prim.Native.Nat.{ℕ, suc, ◌+◌, ◌-◌, ◌<◌, ◌≤◌}
use native.Mathlib.Omega.{arith}
use lib.ListN.{length, drop, replicate, length-map}
use lib.Seq.{drop-drop, drop_at}
use Rattle.net.specs.Limits.{max_bonds}
use Rattle.net.specs.Tests.{table}
use Rattle.net.proofs.Tables.{length-table}
use Rattle.marking.specs.declared.Marking.{Marking}
use Rattle.marking.specs.Form.{padded, los, his, bonds_of, InOrder}
use Rattle.marking.proofs.Padding.{drop-replicate, length-padded}

-- behind n elements there are zeros
pub behind : (n N : ℕ) (l a : List ℕ) → length l ≡ n → a ≡ padded N l → drop n a ≡ replicate (N - n) 0
behind n N l a s e = ap (drop n) e ∙ drop_at l (replicate (N - length l) 0) n s ∙ ap (λ (k : ℕ). replicate (N - k) 0) s

-- one element more before the zeros
more-padded : (g : ℕ → ℕ) (n N : ℕ) (l a now : List ℕ) → length l ≡ n → a ≡ padded N l → now ≡ table (n + 1) g ++ drop (n + 1) a → now ≡ padded N (table (n + 1) g)
more-padded g n N l a now s e q =
    let r : drop (n + 1) a ≡ replicate (N - n - 1) 0 = sym (drop-drop 1 n a) ∙ ap (drop 1) (behind n N l a s e) ∙ drop-replicate 1 (N - n) 0 in
    let t : N - n - 1 ≡ N - length (table (n + 1) g) = rw (length-table (n + 1) g) (omega arith) in
    q ∙ ap (λ (k : List ℕ). table (n + 1) g ++ k) (r ∙ ap (λ (k : ℕ). replicate k 0) t)

-- one element less before the zeros
less-padded : (g : ℕ → ℕ) (n N : ℕ) (l a now : List ℕ) → 0 < n → n ≤ N → length l ≡ n → a ≡ padded N l → now ≡ table (n - 1) g ++ (0 ∷ drop n a)
    → now ≡ padded N (table (n - 1) g)
less-padded g n N l a now p r s e q =
    let t : suc (N - n) ≡ N - length (table (n - 1) g) = rw (length-table (n - 1) g) (omega arith) in
    q ∙ ap (λ (k : List ℕ). table (n - 1) g ++ (0 ∷ k)) (behind n N l a s e) ∙ ap (λ (k : ℕ). table (n - 1) g ++ replicate k 0) t

module _ (m : Marking) where
  length-bonds : length (bonds_of m) ≡ m.count
  length-bonds = length-table m.count _

  length-los : length (los (bonds_of m)) ≡ m.count
  length-los = length-map (bonds_of m) _ ∙ length-bonds

  length-his : length (his (bonds_of m)) ≡ m.count
  length-his = length-map (bonds_of m) _ ∙ length-bonds

  -- arrays of the full length
  pub lo-length : InOrder m → length m.lo ≡ max_bonds
  lo-length I = ap (λ (x : Marking). length x.lo) I.form ∙ length-padded (los (bonds_of m)) max_bonds (rw length-los I.room)

  pub hi-length : InOrder m → length m.hi ≡ max_bonds
  hi-length I = ap (λ (x : Marking). length x.hi) I.form ∙ length-padded (his (bonds_of m)) max_bonds (rw length-his I.room)

  -- the ends after a bond went in
  pub lo-more : InOrder m → (g : ℕ → ℕ) (now : List ℕ) → now ≡ table (m.count + 1) g ++ drop (m.count + 1) m.lo → now ≡ padded max_bonds (table (m.count + 1) g)
  lo-more I g now q = more-padded g m.count max_bonds (los (bonds_of m)) m.lo now length-los (ap (λ (x : Marking). x.lo) I.form) q

  pub hi-more : InOrder m → (g : ℕ → ℕ) (now : List ℕ) → now ≡ table (m.count + 1) g ++ drop (m.count + 1) m.hi → now ≡ padded max_bonds (table (m.count + 1) g)
  hi-more I g now q = more-padded g m.count max_bonds (his (bonds_of m)) m.hi now length-his (ap (λ (x : Marking). x.hi) I.form) q

  -- the ends after one went out
  pub lo-less : InOrder m → 0 < m.count → (g : ℕ → ℕ) (now : List ℕ) → now ≡ table (m.count - 1) g ++ (0 ∷ drop m.count m.lo) → now ≡ padded max_bonds (table (m.count - 1) g)
  lo-less I h g now q = less-padded g m.count max_bonds (los (bonds_of m)) m.lo now h I.room length-los (ap (λ (x : Marking). x.lo) I.form) q

  pub hi-less : InOrder m → 0 < m.count → (g : ℕ → ℕ) (now : List ℕ) → now ≡ table (m.count - 1) g ++ (0 ∷ drop m.count m.hi) → now ≡ padded max_bonds (table (m.count - 1) g)
  hi-less I h g now q = less-padded g m.count max_bonds (his (bonds_of m)) m.hi now h I.room length-his (ap (λ (x : Marking). x.hi) I.form) q
