-- Which live firings depend on a given one (02, T-08), as a chain; what they moved; and which are left without them.
-- Definitions only. That what is computed is the chain is a law (proofs/Chains).
use Rattle.std.specs.Prelude.{◌≡◌, Bool, true, List, [], ◌∷◌, ℕ, suc, ◌<◌, get_or, drop}
use Rattle.causal.specs.Lists.{Mem}
use Rattle.net.specs.Tests.{pick}
use Rattle.net.specs.Journal.{LiveLine, no_line, same_key, common}
use Rattle.net.specs.declared.Key.{Key}
use Rattle.words.specs.Sets.{either}

-- The line m of ls depends on the line l, directly or through others, or is l: a later firing depends on an earlier one that
-- moved a common base.
pub data Depends (ls : List LiveLine) (l : LiveLine) : LiveLine → Type 0 where
  itself : Depends ls l l
  through : {k m : LiveLine} → Depends ls l k → Mem m ls → k.key.0 < m.key.0 → common k.moved m.moved ≡ true → Depends ls l m

-- ---- As it is computed: one pass over the lines after the given one

-- A set spreads over lines, one after the other: what a line moved that has a base of it is added to it, ..
abbrev pub spread : List Bool → List LiveLine → List Bool
spread m [] = m
spread m (l ∷ ls) = pick (common m l.moved) (spread (either m l.moved) ls) (spread m ls)

-- .. and a line that has none is left.
abbrev pub others : List Bool → List LiveLine → List LiveLine
others m [] = []
others m (l ∷ ls) = pick (common m l.moved) (others (either m l.moved) ls) (l ∷ others m ls)

-- where the line at i spreads: over those after it
abbrev pub spread_from : ℕ → List LiveLine → List Bool
spread_from i ls = spread (get_or ls i no_line).moved (drop (suc i) ls)

-- The bases to which the firing of a live key spreads: those that it moved, or that a firing moved that depends on it (02, T-08).
-- None where the key is not live.
abbrev pub spread_of : Key → List LiveLine → List Bool
spread_of k [] = []
spread_of k (l ∷ ls) = pick (same_key l.key k) (spread l.moved ls) (spread_of k ls)

-- the lines that remain: all but that firing and those that depend on it
abbrev pub remaining : Key → List LiveLine → List LiveLine
remaining k [] = []
remaining k (l ∷ ls) = pick (same_key l.key k) (others l.moved ls) (l ∷ remaining k ls)
