-- Lines of a history, when two of them are independent, and the reorderings of a history.
-- Definitions only. Document 01's words: a line of the session book; a common part; a reordering.
use Rattle.std.specs.Prelude.{◌≡◌, Bool, true, false, List, [], ◌∷◌}
use Rattle.causal.specs.Lists.{Mem, Before, Distinct}

-- One firing of a history: its transition, its key, the bases that it moved.
-- (01, the session book: a line is a step, a serial, moved parts.)
pub record Line (A K M : Type 0) : Type 0 where
  pub transition : A
  pub key : K
  pub moved : M

-- Lines are told apart by key (01, the session book: by serial).
abbrev pub DistinctKeys : {A K M : Type 0} → List (Line A K M) → Type 0
DistinctKeys {A} {K} {M} ls = Distinct (λ (l : Line A K M). l.key) ls

-- `has m p`: the base p is in the set m.
module _ {M P : Type 0} (has : M → P → Bool) where
  -- no common base
  abbrev pub Independent : M → M → Type 0
  Independent m n = (p : P) → has m p ≡ true → has n p ≡ false

  -- a common base
  abbrev pub Dependent : M → M → Type 0
  Dependent m n = (p : P) × (has m p ≡ true) × (has n p ≡ true)

module _ {A K M P : Type 0} (has : M → P → Bool) where
  -- m has no base in common with any of the lines
  abbrev pub IndependentOfAll : M → List (Line A K M) → Type 0
  IndependentOfAll m [] = Unit {0}
  IndependentOfAll m (l ∷ ls) = Independent has m l.moved × IndependentOfAll m ls

  -- A reordering of ls: each line of ls exactly once, and any two lines that moved a common base in their old order.
  pub record Reordering (ls ms : List (Line A K M)) : Type 0 where
    pub only : (l : Line A K M) → Mem l ms → Mem l ls
    pub every : (l : Line A K M) → Mem l ls → Mem l ms
    pub once : DistinctKeys ms
    pub kept : (l k : Line A K M) → Dependent has l.moved k.moved → Before l k ls → Before l k ms

  -- ms comes from ls by swapping neighbours that moved no common base, any number of times.
  pub data Swapped : List (Line A K M) → List (Line A K M) → Type 0 where
    stay : {ls : List (Line A K M)} → Swapped ls ls
    swap : {l k : Line A K M} {ls : List (Line A K M)} → Independent has l.moved k.moved → Swapped (l ∷ k ∷ ls) (k ∷ l ∷ ls)
    under : {l : Line A K M} {ls ms : List (Line A K M)} → Swapped ls ms → Swapped (l ∷ ls) (l ∷ ms)
    chain : {ls ms ns : List (Line A K M)} → Swapped ls ms → Swapped ms ns → Swapped ls ns
