-- Which bases are connected (01, firing and taking back): as a chain of bonds, and by labels that can be computed.
-- Definitions only. That the two say the same is a theorem (proofs/Connection).
use Rattle.std.specs.Prelude.{◌≡◌, Bool, true, ◌||◌, List, [], ◌∷◌, ℕ, eqb}
use Rattle.net.specs.Tests.{pick}
use Rattle.net.specs.Net.{bond, has_bond}
use Rattle.net.specs.declared.Bond.{Bond}

-- p and q are bonded
abbrev pub bonded : List Bond → ℕ → ℕ → Bool
bonded bs p q = has_bond (bond p q) bs || has_bond (bond q p) bs

-- Bonds lead from p to q.
pub data Leads (bs : List Bond) : ℕ → ℕ → Type 0 where
  here : {p q : ℕ} → p ≡ q → Leads bs p q
  along : {p r q : ℕ} → bonded bs p r ≡ true → Leads bs r q → Leads bs p q

-- A labelling after one more bond: the label of the bond's second end gives way to that of its first.
abbrev pub relabelled : (ℕ → ℕ) → Bond → ℕ → ℕ
relabelled f b =
    let h : ℕ = f b.hi in
    let l : ℕ = f b.lo in
    λ p. let x : ℕ = f p in pick (eqb x h) l x

-- A labelling after a list of bonds, taken in order.
abbrev pub labelling : (ℕ → ℕ) → List Bond → ℕ → ℕ
labelling f [] = f
labelling f (b ∷ bs) = labelling (relabelled f b) bs

-- A base's label: at first each base has itself.
abbrev pub label : List Bond → ℕ → ℕ
label bs = labelling (λ p. p) bs

-- Connected bases have one label.
abbrev pub connected : List Bond → ℕ → ℕ → Bool
connected bs p q = eqb (label bs p) (label bs q)
