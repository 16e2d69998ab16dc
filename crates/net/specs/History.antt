-- Sound histories (01, commands, record, tally: when a record is sound), as a test on a journal.
-- Definitions only. The form of a record's arrays (unused entries hold 0) is in marking, firings and sound.
use Rattle.std.specs.Prelude.{Bool, ◌&&◌, List, [], ◌∷◌, eqb, ltb, leb, length}
use Rattle.std.specs.Bool.{beq}
use Rattle.net.specs.Limits.{max_live, max_key}
use Rattle.net.specs.Tests.{all, same_list}
use Rattle.net.specs.Sorted.{ascends}
use Rattle.net.specs.Net.{Marking, Net, same_bond, arcs_of}
use Rattle.net.specs.Firing.{moved, fire}
use Rattle.net.specs.Checks.{clear}
use Rattle.net.specs.Journal.{LiveLine, Journal, highest_live, enable_checks}

abbrev pub same_marking : Marking → Marking → Bool
same_marking s z = same_list eqb s.places z.places && same_list same_bond s.bonds z.bonds

-- a line is accepted on s (none of 12 to 16 holds) with the moved bases on it
abbrev pub accepts : Net → Marking → LiveLine → Bool
accepts net s l = clear (enable_checks net s l.transition) && same_list beq l.moved (moved net.bases (arcs_of net l.transition) s)

-- The lines, run forward alone from s in this order, are each accepted with the moved bases on the line, and end in z.
-- 17 and 18 play no part: at most 256 lines are run, with keys of their own from 1 up.
abbrev pub replays : Net → Marking → List LiveLine → Marking → Bool
replays net s [] z = same_marking s z
replays net s (l ∷ ls) z = accepts net s l && replays net (fire net.bases (arcs_of net l.transition) s) ls z

-- Keys strictly ascend, from 1 to 65,535; at most 256 firings are live.
abbrev pub keys_in_order : List LiveLine → Bool
keys_in_order ls = ascends (λ (l k : LiveLine). ltb l.key.0 k.key.0) ls
    && all (λ (l : LiveLine). ltb 0 l.key.0 && leb l.key.0 max_key) ls

abbrev pub lines_in_form : List LiveLine → Bool
lines_in_form ls = leb (length ls) max_live && keys_in_order ls

-- The highest key given is at least as high as every live one (02, T-03), and a key; with nothing live it may be any.
abbrev pub given_in_form : Journal → Bool
given_in_form j = leb (highest_live j.lines).0 j.given.0 && leb j.given.0 max_key

abbrev pub sound : Net → Journal → Bool
sound net j = (lines_in_form j.lines && replays net net.start j.lines j.marking) && given_in_form j
