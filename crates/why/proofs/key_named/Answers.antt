-- `why::key_named`: the answers to the goals that the check leaves.
use mathlib.Core.Path.{ap, ◌∙◌}
use Rattle.net.specs.Journal.{key, highest_live, number_of}
use Rattle.format.specs.Parts.{bases_of}
use Rattle.session.specs.Records.{held_in}
use Rattle.sound.proofs.Given.{last-given}
use Rattle.sound.proofs.Holds.{live-few, held}
use Rattle.why.proofs.Latest.{kind-last, kind-key}
use Rattle.why.proofs.key_named.Goals as goal

pub last_key-requires : goal.last_key-requires
last_key-requires c = live-few c.args.sheet.now c.args.r.marking c.args.r.firings c.args.r.given c.requires.passed

pub returns-then-byte_at-eq2 : goal.returns-then-byte_at-eq2
returns-then-byte_at-eq2 c =
    c.last_key.ensures ∙ last-given (bases_of c.args.sheet.now) c.args.r.firings (held c.args.sheet.now c.args.r.marking c.args.r.firings c.args.r.given c.requires.passed).up
    ∙ kind-last c.args.bytes.now c.byte_at.result c.byte_at.ensures (highest_live (held_in c.args.sheet.now c.args.r).lines) (key (number_of c.args.bytes.now)) c.if-byte_at-eq2.true

pub returns-else-byte_at-eq2 : goal.returns-else-byte_at-eq2
returns-else-byte_at-eq2 c = ap key c.word_at.ensures.value ∙ kind-key c.args.bytes.now c.byte_at.result c.byte_at.ensures (highest_live (held_in c.args.sheet.now c.args.r).lines) (key (number_of c.args.bytes.now)) c.if-byte_at-eq2.false
