-- `places` is given once: behind a line `places`, wherever it stands, a second is a mistake.
-- Assumes nothing.
use mathlib.Core.Path.{◌≡◌, refl}
use mathlib.Core.Bool.{Bool, true, false, not, ◌&&◌}
use Prim.Native.Nat.{ℕ, suc}
use mathlib.Core.List.{List, [], ◌∷◌, ◌++◌}
use Rattle.net.specs.Tests.{pick}
use Rattle.net.specs.Net.{Net}
use Rattle.net.proofs.Tests.{or_r}
use Rattle.sheet_text.specs.declared.Line.{Line}
use Rattle.sheet_text.specs.declared.Line.TheVariants.{Places}
use Rattle.sheet_text.specs.Reading.{none, is_places, admits, added, Reading, mistake, read_from}

-- some line from here on is a mistake
abbrev Mistaken : Reading → Type 0
Mistaken r = (i : ℕ) × (l : Line) × (r ≡ mistake i l)

-- a line that may stand here or not, before lines with a mistake
before : (b : Bool) (k : ℕ) (l : Line) (r : Reading) → Mistaken r → Mistaken (pick b r (mistake k l))
before true k l r m = m
before false k l r m = (k, l, refl)

again : (k : ℕ) (net : Net) (xs : List Line) (m : ℕ) (ys : List Line) → Mistaken (read_from k true net (xs ++ (Places m ∷ ys)))
again k net [] m ys = (k, Places m, refl)
again k net (x ∷ xs) m ys =
    rw (or_r (is_places x) true refl)
    (before (admits true net x) k x (read_from (suc k) true (added net x) (xs ++ (Places m ∷ ys))) (again (suc k) (added net x) xs m ys))

pub places-once : (k : ℕ) (told : Bool) (net : Net) (n : ℕ) (xs : List Line) (m : ℕ) (ys : List Line)
    → Mistaken (read_from k told net (Places n ∷ (xs ++ (Places m ∷ ys))))
places-once k told net n xs m ys =
    before (not told && none net.transitions) k (Places n) (read_from (suc k) true (added net (Places n)) (xs ++ (Places m ∷ ys))) (again (suc k) (added net (Places n)) xs m ys)
