-- `output::write_output`: the answers to the goals that the check leaves.
use Rattle.output.proofs.Starts.{start-accepted, start-refused, few_bytes, written-accepted, written-refused}
use Rattle.output.proofs.write_output.Goals as goal

pub put_session-requires : goal.put_session-requires
put_session-requires c =
    let sheet = c.sheet_in-sheet.result.now in
    let told = start-accepted sheet c.start-begun.result c.start-begun.ensures.value c.in-Accepted.is in
    (c.requires, few_bytes c.args.input.now _ c.commands_in.ensures, told.0, told.1)

pub returns-in-Accepted : goal.returns-in-Accepted
returns-in-Accepted c =
    let input = c.args.input.now in
    let sheet = c.sheet_in-sheet.result.now in
    let told = start-accepted sheet c.start-begun.result c.start-begun.ensures.value c.in-Accepted.is in
    record {
      filled = written-accepted input sheet _ c.args.buf.now c.sheet_in-sheet.ensures c.commands_in.ensures told.0 c.put_session.ensures.filled;
      upper_bound = c.put_session.ensures.upper_bound;
    }

pub returns-in-Refused : goal.returns-in-Refused
returns-in-Refused c =
    let input = c.args.input.now in
    let sheet = c.sheet_in-sheet.result.now in
    let told = start-refused sheet c.start-begun.result c.start-begun.ensures.value _ c.in-Refused.is in
    record {
      filled = written-refused input sheet _ c.args.buf.now c.sheet_in-sheet.ensures told.0 told.1 c.put_refused.ensures.filled;
      upper_bound = c.put_refused.ensures.upper_bound;
    }
