-- The test that a flag itself is, for loops that gather flags over an index.
-- Assumes nothing.
use mathlib.Core.Bool.{Bool}

abbrev pub self : Bool → Bool
self b = b
