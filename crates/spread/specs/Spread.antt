-- What a call for the spread of a firing gives (02, T-08): a flag for each part, or a refusal with none.
-- Definitions only.
use Rattle.std.specs.Prelude.{Bool, false, not, List, [], ◌∷◌, ℕ, replicate}
use Rattle.net.specs.Limits.{max_bases}
use Rattle.net.specs.Tests.{pick, table}
use Rattle.net.specs.Checks.{Check, check}
use Rattle.net.specs.Firing.{in_set}
use Rattle.net.specs.Journal.{LiveLine, is_live}
use Rattle.net.specs.declared.Key.{Key}
use Rattle.spread.specs.Depends.{spread_of}
use Rattle.net.specs.declared.Verdict.TheVariants.{Accepted, Refused}
use Rattle.spread.specs.declared.Spread.{Spread}

-- a set as flags, one for each part that a sheet can have; no after those of the set
abbrev pub told : List Bool → Spread
told m = record { answer = Accepted; parts = table max_bases (in_set m) }

-- a refused call: the empty set
unfoldable pub not_told : ℕ → Spread
not_told n = record { answer = Refused n; parts = replicate max_bases false }

-- The call's own check, behind 1 to 10: 19, the serial is not live.
abbrev pub own_checks : List LiveLine → Key → List Check
own_checks ls k = check 19 (not (is_live k ls)) ∷ []

-- What is told of the firing of a key among lines: where it spreads; 19 where it is not live.
abbrev pub spread_among : Key → List LiveLine → Spread
spread_among k ls = pick (is_live k ls) (told (spread_of k ls)) (not_told 19)
