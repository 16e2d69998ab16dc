-- Arrays made by a function of the place, as `from_fn` makes them, are tables.
-- Assumes nothing.
use mathlib.Core.Path.{◌≡◌, sym, ◌∙◌, ap, subst}
use mathlib.Core.List.{List}
use Prim.Native.Nat.{ℕ, zero, suc, ◌+◌, ◌<◌, ◌≤◌}
use native.Mathlib.Omega.{arith}
use lib.Dec.{ltb}
use lib.ListN.{get_or}
use denote.Param.Members.{Mut}
use borrow.Author.Tests.{ltb-true, ltb-false}
use Rattle.std.specs.Array.{IsFromFnResult, IsFromFnResultFrom}
use Rattle.std.specs.Fn.{Called}
use Rattle.causal.proofs.Tests.{test}
use Rattle.net.specs.Tests.{table}
use Rattle.net.proofs.Tables.{table-cong, table-list}

-- each call leaves the closure as it was, and gives h of its place
module _ {F B : Type 0} (g : Mut F (ℕ × Unit {0}) B) (h : ℕ → B) (f : F) (gives : (i : ℕ) (y : B) (q : F) → Called g f (i, tt) y q → (q ≡ f) × (y ≡ h i)) where
  each-at : (ys : List B) (n i k : ℕ) (d : B) → IsFromFnResultFrom g f ys i n → i ≤ k → k < i + n → get_or ys k d ≡ h k
  each-at ys zero i k d e a b = absurd (let z : ⊥ = omega arith in z)
  each-at ys (suc n) i k d (q, y, is, call, rest) a b =
      let (same, at) = gives i y q call in
      test (ltb i k)
      (λ t. let lt = ltb-true i k t in each-at ys n (i + 1) k d (subst (λ (w : F). IsFromFnResultFrom g w ys (i + 1) n) same rest) (omega arith) (omega arith))
      (λ t. let ge = ltb-false i k t in let e : k ≡ i = omega arith in ap (λ (j : ℕ). get_or ys j d) e ∙ is.1 d ∙ at ∙ ap h (sym e))

  pub made-table : (ys : List B) (n : ℕ) → IsFromFnResult g f ys n → ys ≡ table n h
  made-table ys n r =
      let d : B = h 0 in
      sym (table-list ys d) ∙ ap (λ (m : ℕ). table m (λ i. get_or ys i d)) r.long ∙ table-cong n (λ i. get_or ys i d) h (λ i lt. each-at ys n 0 i d r.each (omega arith) (omega arith))
