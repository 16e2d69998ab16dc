-- `report::answer_line`: the answers to the goals that the check leaves.
use borrow.Author.Tests.{lt-ltb, le-ltb}
use Rattle.report.specs.declared.Written.{Written}
use Rattle.report.specs.Lines.{min_line, written_of, buffer_of}
use Rattle.report.proofs.Pieces.{value_low, told}
use native.Mathlib.Omega.{arith}
use mathlib.Core.Path.{refl, ap}
use Prim.Native.Nat.{ℕ, ◌<◌, ◌≤◌}
use lib.ListN.{length}
use borrow.Author.Rules.{rules}
use Rattle.report.proofs.answer_line.Goals as goal

abbrev accepted : ℕ → Written
accepted n = record { refusal = 0; length = n }

pub returns-then-buf-lt-MIN_LINE : goal.returns-then-buf-lt-MIN_LINE
unfolding written_of buffer_of
returns-then-buf-lt-MIN_LINE c =
    let short : length c.args.buf.now < min_line = omega arith in
    rw (lt-ltb _ _ short) record {
      value = refl;
      buf_after = refl;
    }

pub put_line-end-requires : goal.put_line-end-requires
put_line-end-requires c =
    let word = c.word_of-word.ensures in
    let low = value_low c.args.answer _ c.value_of-value.ensures.upper_bound in
    (search rules, rw word low)

pub returns : goal.returns
unfolding written_of buffer_of
returns c =
    let done = c.put_line-end.ensures in
    let long : min_line ≤ length c.args.buf.now = omega arith in
    let word = c.word_of-word.ensures in
    let value = c.value_of-value.ensures.value in
    let line = told _ _ _ _ c.args.answer c.args.key word value done.wrote in
    rw (le-ltb _ _ long) record {
      value = ap accepted line.0;
      buf_after = line.1;
    }
