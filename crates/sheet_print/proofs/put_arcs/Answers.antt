-- `sheet_print::put_arcs`: the answers to the goals that the check leaves.
use native.Mathlib.Omega.{arith}
use Rattle.format.specs.Arcs.{entry_count, in_count}
use Rattle.sheet_print.proofs.Lists.{moves-upto, before-upto}
use Rattle.sheet_print.proofs.Steps.{wrote-arcs}
use Rattle.sheet_print.proofs.put_arcs.Goals as goal

pub put_befores-b-requires : goal.put_befores-b-requires
put_befores-b-requires c = omega (arith, moves-upto c.args.bytes.now (entry_count c.args.bytes.now))

pub put_afters-requires : goal.put_afters-requires
put_afters-requires c =
    let b = c.args.bytes.now in
    omega (arith, moves-upto b (entry_count b), before-upto b (in_count b))

pub returns : goal.returns
returns c = wrote-arcs c.args.buf.now c.args.at c.args.bytes.now c.put_moves-a.ensures c.put_befores-b.ensures c.put_afters.ensures
