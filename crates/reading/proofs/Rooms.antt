-- A part of a room is lent and comes back with other bytes: what lies before it stays.
-- Assumes nothing.
use mathlib.Core.Path.{◌≡◌}
use mathlib.Core.List.{List, ◌++◌}
use Prim.Native.Nat.{ℕ, ◌≤◌}
use lib.ListN.{length, take}
use lib.Seq.{take_at, length-take-le}
use Rattle.reading.specs.declared.Got.{Got}
use Rattle.reading.specs.declared.Got.TheVariants.{Full, Ended, Failed}
use Rattle.reading.specs.Got.{IfFull}

pub front-stays : (at : ℕ) (room rest : List ℕ) → at ≤ length room → take at (take at room ++ rest) ≡ take at room
front-stays at room rest h = take_at (take at room) rest at (length-take-le at room h)

-- a fact of the bytes that gives another
pub IfFull-weaker : (r : Got) (P Q : ℕ → Type 0) → ((n : ℕ) → P n → Q n) → IfFull r P → IfFull r Q
IfFull-weaker (Full n) P Q f h = f n h
IfFull-weaker (Ended n) P Q f h = tt
IfFull-weaker (Failed n) P Q f h = tt
