-- `lexing::value_of`: the answers to the goals that the check leaves.
use Rattle.std.proofs.Common.{◌∙◌, slice_range, rules, tests}
use Rattle.std.proofs.lemmas.Iterator.{YieldsList-from_slice}
use Rattle.std.proofs.lemmas.Iterator.Consumers.{fold_from_yields_List}
use Rattle.lexing.specs.Tokens.{more}
use Rattle.lexing.proofs.Scans.{value-slice}
use Rattle.lexing.proofs.value_of.Goals as goal

pub returns : goal.returns
returns c =
    let ds = slice_range c.args.text.now c.args.from c.args.to in
    fold_from_yields_List _ more 0 _ c.fold.ensures.ran (YieldsList-from_slice ds cc) (λ a x b q k. search (rules, tests)) ∙ value-slice c.args.text.now c.args.from c.args.to c.requires.0
