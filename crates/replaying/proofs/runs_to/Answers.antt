-- `replaying::runs_to`: the answers to the goals that the check leaves.
-- the function's start, the marking that the run begins with, the lines, and the end that is looked for
use native.Mathlib.Omega.{arith}
use mathlib.Core.Path.{◌≡◌, sym, ◌∙◌, ap, subst}
use Rattle.net.specs.Net as Net
use Rattle.net.specs.History.{replays}
use Rattle.net.specs.Journal.{LiveLine}
use Rattle.format.specs.Parts.{bases_of}
use Rattle.format.specs.NetOf.{net_of}
use Rattle.marking.specs.declared.Marking.{Marking}
use Rattle.marking.specs.Form.{marking_of}
use Rattle.firings.specs.Lines.{lines_in}
use Rattle.steps.specs.Placed.{Placed}
use Rattle.steps.proofs.Readiness.{few-bases}
use mathlib.Core.List.{List}
use Rattle.replaying.proofs.Lines.{placed-room, placed-ends, run-refused, run-compared}
use Rattle.replaying.proofs.Starts.{start-placed, start_fits, from_start}
use Rattle.replaying.proofs.runs_to.Goals as goal
use Rattle.replaying.proofs.runs_to.Goals.{After-start_marking-begin}

begin-placed : (b : After-start_marking-begin) → Placed b.args.sheet.now b.start_marking-begin.result
begin-placed b = subst (λ (m : Marking). Placed b.args.sheet.now m) (sym b.start_marking-begin.ensures) (start-placed b.args.sheet.now b.requires.sheet_value.0)

abbrev lines : After-start_marking-begin → List LiveLine
lines b = lines_in (bases_of b.args.sheet.now) b.args.f.now

abbrev sought : After-start_marking-begin → Net.Marking
sought b = marking_of (bases_of b.args.sheet.now) b.args.m.now

-- the run of the contract is the run from the marking that was read
from-begin : (b : After-start_marking-begin) → replays (net_of b.args.sheet.now) (marking_of (bases_of b.args.sheet.now) b.start_marking-begin.result) (lines b) (sought b)
    ≡ replays (net_of b.args.sheet.now) (net_of b.args.sheet.now).start (lines b) (sought b)
from-begin b =
    let s : List _ = b.args.sheet.now in
    ap (λ (m : Marking). replays (net_of s) (marking_of (bases_of s) m) (lines b) (sought b)) b.start_marking-begin.ensures ∙ from_start s b.requires.sheet_value.0 (lines b) (sought b)

pub start_marking-begin-requires : goal.start_marking-begin-requires
start_marking-begin-requires c = start_fits _ c.requires.sheet_value.0

pub of_marking-labels-requires : goal.of_marking-labels-requires
of_marking-labels-requires c =
    let P = begin-placed (goal.at.of_marking-labels-requires c).After-start_marking-begin in
    record {
      count_in_bounds = placed-room c.args.sheet.now c.start_marking-begin.result P;
      by_index = placed-ends c.args.sheet.now c.start_marking-begin.result P;
    }

pub replay-requires : goal.replay-requires
replay-requires c =
    record {
      placed = (begin-placed (goal.at.replay-requires c).After-start_marking-begin, c.of_marking-labels.ensures, c.requires.sheet_value.1);
      by_index = c.requires.by_index;
    }

pub returns-then-not-replay : goal.returns-then-not-replay
returns-then-not-replay c = run-refused _ c.replay.result _ (c.replay.ensures.z_value (sought (goal.at.returns-then-not-replay c).After-start_marking-begin)) c.if-not-replay.true ∙ from-begin (goal.at.returns-then-not-replay c).After-start_marking-begin

pub same_marking-requires : goal.same_marking-requires
same_marking-requires c =
    let e = c.base_count-n.ensures in
    let h = few-bases c.args.sheet.now c.start_marking-begin.result (begin-placed (goal.at.same_marking-requires c).After-start_marking-begin) in
    (omega arith, c.replay.ensures.count_le_max_bonds c.if-not-replay.false, c.requires.sheet_value.2)

pub returns : goal.returns
returns c =
    run-compared (bases_of c.args.sheet.now) c.base_count-n.result c.replay.new.m c.args.m.now _ c.replay.result _
    c.base_count-n.ensures (c.replay.ensures.z_value (sought (goal.at.returns c).After-start_marking-begin)) c.if-not-replay.false c.same_marking.ensures
    ∙ from-begin (goal.at.returns c).After-start_marking-begin
