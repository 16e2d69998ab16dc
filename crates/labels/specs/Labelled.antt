-- Labels that say which bases are connected by bonds bs (01, connected parts), whatever the labels' values are; and beside
-- them the set of the bases of each label, as a word. Definitions only. N is the number of labels.
use Rattle.std.specs.Prelude.{◌≡◌, List, ℕ, ◌<◌, eqb, length, get_or}
use Rattle.net.specs.Limits.{max_bases}
use Rattle.net.specs.Tests.{pick, table}
use Rattle.net.specs.Connection.{connected}
use Rattle.net.specs.declared.Bond.{Bond}
use Rattle.words.specs.Sets.{set_of}

-- the label of a base in a list of labels
abbrev pub label_in : List ℕ → ℕ → ℕ
label_in l p = get_or l p 0

-- Two bases have one label exactly where they are connected.
pub record Parted (N : ℕ) (l : List ℕ) (bs : List Bond) : Type 0 where
  pub size : length l ≡ N
  pub low : (p : ℕ) → p < N → label_in l p < N
  pub says : (p q : ℕ) → p < N → q < N → eqb (label_in l p) (label_in l q) ≡ connected bs p q

-- And at each label in use stands the set of the bases that have it.
pub record Labelled (l members : List ℕ) (bs : List Bond) : Type 0 where
  pub parted : Parted max_bases l bs
  pub size : length members ≡ max_bases
  pub holds : (p : ℕ) → p < max_bases
      → set_of max_bases (get_or members (label_in l p) 0) ≡ table max_bases (λ q. eqb (label_in l p) (label_in l q))

-- a label after one label gave way to another
abbrev pub renamed : ℕ → ℕ → ℕ → ℕ
renamed from to x = pick (eqb x from) to x

-- a bond whose ends have labels
abbrev pub Within : ℕ → Bond → Type 0
Within N b = (b.lo < N) × (b.hi < N)

-- arrays of labels and of their sets, where each label has a set
abbrev pub Fits : List ℕ → List ℕ → Type 0
Fits l members = (length l ≡ max_bases) × (length members ≡ max_bases) × ((p : ℕ) → p < max_bases → label_in l p < max_bases)
