-- What is known where a transition of a sheet is looked at: the sheet is accepted, and the marking is a good one of its
-- net, in its form. Definitions only. Every marking of a sound record is such.
use Rattle.std.specs.Prelude.{◌≡◌, true, List, ℕ}
use Rattle.net.specs.Checks.{clear}
use Rattle.net.specs.Marking.{Good}
use Rattle.format.specs.Parts.{bases_of}
use Rattle.format.specs.NetOf.{net_of}
use Rattle.sheet.specs.Checks.{sheet_checks}
use Rattle.marking.specs.Form.{marking_of, laid}
use Rattle.marking.specs.declared.Marking.{Marking}

pub record Placed (s : List ℕ) (m : Marking) : Type 0 where
  pub accepted : clear (sheet_checks s) ≡ true
  pub form : m ≡ laid (marking_of (bases_of s) m)
  pub good : Good (net_of s) (marking_of (bases_of s) m)
