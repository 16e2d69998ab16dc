-- `format::part`: the answers to the goals that the check leaves.
use Rattle.std.proofs.Common.{refl}
use Rattle.format.proofs.Parts.{part_read}
use Rattle.format.proofs.part.Goals as goal

pub returns-clause-result_value : goal.returns-clause-result_value
returns-clause-result_value c =
    part_read _ _ _ _ c.pair_offset-from.ensures.value c.pair_length.ensures.value c.get.result _ refl c.get.ensures.lookup.0 _ c.unwrap_or.ensures
