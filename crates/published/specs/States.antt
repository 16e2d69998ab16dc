-- Markings, histories and connected components: the text between Definitions 3 and 4 (004, section 3.2).
-- Definitions only.
use Rattle.std.specs.Prelude.{◌≡◌, ◌⊎◌, List, [], ◌∷◌, ℕ}
use Rattle.causal.specs.Lists.{Mem}
use Rattle.net.specs.declared.Bond.{Bond}
use Rattle.net.specs.declared.Transition.{Transition}
use Rattle.published.specs.Sets.{Item, base, bond, Items, Between}
use Rattle.published.specs.Nets.{PetriNet, Known}

-- A marking gives each place a subset of A ∪ B.
abbrev pub Marks : Type 1
Marks = ℕ → Items

-- the base a is in some place
abbrev pub Somewhere : Marks → ℕ → Type 0
Somewhere M a = (x : ℕ) × M x (base a)

-- What is asked of a marking: only places have something in them, only bases and bonds of the net are there, and a bond is
-- where its two bases are.
pub record IsMarking (N : PetriNet) (M : Marks) : Type 0 where
  pub known : (x : ℕ) (i : Item) → M x i → N.is_place x × Known N i
  pub ends : (x : ℕ) (β : Bond) → M x (bond β) → M x (base β.lo) × M x (base β.hi)

-- Each base is in exactly one place (asked of the initial marking).
abbrev pub EachInOnePlace : PetriNet → Marks → Type 0
EachInOnePlace N M = (a : ℕ) → N.is_base a → (x : ℕ) × M x (base a) × ((y : ℕ) → M y (base a) → y ≡ x)

-- A history gives each transition a set of keys; at first it is empty.
abbrev pub Keys : Type 1
Keys = Transition → ℕ → Type 0

abbrev pub no_keys : Keys
no_keys t k = ⊥

-- path(a, w, C), by recursion on w: the first bond of w is in C and leads from a to a base c of C, and the rest of w is a
-- path from c.
abbrev pub Path : ℕ → List Bond → Items → Type 0
Path a [] C = Unit {0}
Path a (β ∷ w) C = (c : ℕ) × Between a c β × C (bond β) × C (base c) × Path c w C

-- a bond, and its two bases
abbrev pub Of : Bond → Items
Of β i = (i ≡ bond β) ⊎ ((i ≡ base β.lo) ⊎ (i ≡ base β.hi))

-- con(a, C): a itself if it is in C, and every bond of a path from a, with the bond's bases.
abbrev pub Con : ℕ → Items → Items
Con a C i = (C (base a) × (i ≡ base a)) ⊎ ((w : List Bond) × Path a w C × (β : Bond) × Mem β w × Of β i)
