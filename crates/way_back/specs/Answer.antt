-- What a call for the way back gives (02, T-04): the keys in descending order, or a refusal with none.
-- Definitions only.
use Rattle.std.specs.Prelude.{List, [], ◌∷◌, ℕ, length, replicate}
use Rattle.net.specs.Limits.{max_live}
use Rattle.net.specs.Tests.{pick}
use Rattle.net.specs.Checks.{Check, check, clear, first}
use Rattle.net.specs.Net.{Net}
use Rattle.net.specs.Journal.{Journal, key}
use Rattle.net.specs.declared.Key.{Key}
use Rattle.layout.specs.Layout.{unfit_layout}
use Rattle.marking.specs.Form.{padWith}
use Rattle.way_back.specs.Ways.{no_way, way_back}
use Rattle.net.specs.declared.Verdict.TheVariants.{Accepted, Refused}
use Rattle.way_back.specs.declared.WayBack.{WayBack}

-- a set of keys in its order, with their number; every entry after them holds 0
abbrev pub way_of : List Key → WayBack
way_of ks = record { answer = Accepted; count = length ks; keys = padWith (key 0) max_live ks }

-- a refused call: the empty set
unfoldable pub no_way_back : ℕ → WayBack
no_way_back n = record { answer = Refused n; count = 0; keys = replicate max_live (key 0) }

-- A call's own checks, behind 1 to 10: 27, then 28.
abbrev pub way_checks : Net → List ℕ → Journal → List Check
way_checks net w j = check 27 (unfit_layout net.bases net.places w) ∷ check 28 (no_way net w j) ∷ []

-- 27, 28, or the way back
unfoldable pub way_from : Net → List ℕ → Journal → WayBack
way_from net w j = pick (clear (way_checks net w j)) (way_of (way_back net w j)) (no_way_back (first (way_checks net w j)))
