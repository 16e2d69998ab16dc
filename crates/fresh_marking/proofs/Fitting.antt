-- The start of an accepted sheet fits into a marking: it is a good marking (net's Rules), and good markings fit.
-- Assumes nothing.
use mathlib.Core.List.{List}
use Prim.Native.Nat.{ℕ, ◌≤◌}
use native.Mathlib.Omega.{arith}
use Rattle.net.specs.Limits.{max_bases}
use Rattle.net.specs.Net.{Net}
use Rattle.net.specs.Marking.{Good}
use Rattle.net.proofs.Tables.{length-table}
use Rattle.format.specs.NetOf.{start_bond_count, nth_start_bond, start_marking}
use Rattle.marking.proofs.Room.{good-room}
use Rattle.fresh_marking.specs.Start.{StartFits}

pub good_start : (s : List ℕ) (net : Net) → net.bases ≤ max_bases → Good net (start_marking s) → StartFits s
good_start s net few G =
    let r = good-room net few (start_marking s) G in
    let c = length-table (start_bond_count s) (nth_start_bond s) in
    let z = G.size in
    record { places = omega arith; bonds = omega arith }
