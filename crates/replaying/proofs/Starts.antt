-- The start of an accepted sheet: placed, within the arrays, and what a run from it as it was read is.
-- Assumes an accepted sheet.
use mathlib.Core.Path.{◌≡◌, ap}
use mathlib.Core.Bool.{true}
use mathlib.Core.List.{List}
use Prim.Native.Nat.{ℕ, ◌≤◌, ◌*◌, ◌-◌}
use native.Mathlib.Omega.{arith}
use lib.ListN.{length}
use Rattle.net.specs.Limits.{max_bases}
use Rattle.net.specs.Checks.{clear}
use Rattle.net.specs.Net as Net
use Rattle.net.specs.History.{replays}
use Rattle.net.specs.Marking.{Good}
use Rattle.net.proofs.Tables.{length-table}
use Rattle.net.proofs.Rules.{start-good}
use Rattle.format.specs.Parts.{bases_of}
use Rattle.format.specs.NetOf.{start_bond_count, nth_start_bond, start_marking, net_of}
use Rattle.sheet.specs.Checks.{sheet_checks}
use Rattle.sheet.proofs.Accepted.{promised}
use Rattle.marking.specs.Form.{marking_of, laid}
use Rattle.marking.proofs.Forms.{marking-laid}
use Rattle.marking.proofs.Room.{bonds-fit}
use Rattle.fresh_marking.specs.Start.{StartFits}
use Rattle.steps.specs.Placed.{Placed}
use Rattle.replaying.proofs.Lines.{placed-laid}

-- ---- the start of an accepted sheet

module _ (s : List ℕ) (a : clear (sheet_checks s) ≡ true) where
  start-of-good : Good (net_of s) (start_marking s)
  unfolding net_of
  start-of-good = start-good (net_of s) (promised s a).rule

  pub start-placed : Placed s (laid (start_marking s))
  start-placed = placed-laid s (start_marking s) a start-of-good

  pub start_fits : StartFits s
  unfolding net_of
  start_fits =
      let few = (promised s a).bases.1 in
      let size : length (start_marking s).places ≡ bases_of s = (promised s a).start_size in
      let count : length (start_marking s).bonds ≡ start_bond_count s = length-table (start_bond_count s) (nth_start_bond s) in
      let most : 2 * length (start_marking s).bonds ≤ max_bases * (max_bases - 1) = bonds-fit (bases_of s) max_bases few (start_marking s).bonds start-of-good.order start-of-good.range in
      record { places = omega arith; bonds = omega arith }

  -- the run from the start that was read
  pub from_start : (ls : List _) (z : Net.Marking) → replays (net_of s) (marking_of (bases_of s) (laid (start_marking s))) ls z ≡ replays (net_of s) (net_of s).start ls z
  unfolding net_of
  from_start ls z = ap (λ (y : Net.Marking). replays (net_of s) y ls z) (marking-laid (start_marking s) (bases_of s) start-of-good.size)
