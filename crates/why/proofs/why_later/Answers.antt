-- `why::why_later`: the answers to the goals that the check leaves.
use native.Mathlib.Omega.{arith}
use Rattle.net.specs.Limits.{max_bases}
use Rattle.words.specs.Sets.{set_of}
use Rattle.sound.proofs.Holds.{live-few, keys-rise}
use Rattle.why.proofs.Latest.{part_low, live_here, later-here, later-is}
use Rattle.why.proofs.why_later.Goals as goal

pub key_named-k-requires : goal.key_named-k-requires
key_named-k-requires c = c.requires.sound

pub index_of-requires : goal.index_of-requires
index_of-requires c = (live-few c.args.sheet.now c.args.r.marking c.args.r.firings c.args.r.given c.requires.sound.passed, keys-rise c.args.sheet.now c.args.r.marking c.args.r.firings c.args.r.given c.requires.sound.passed)

-- the command is refused by 20, so its firing is live
pub unreachable-requires : goal.unreachable-requires
unreachable-requires c =
    let h = live_here c.args.sheet.now c.args.r c.args.bytes.now c.requires.sound c.requires.answer c.key_named-k.result c.key_named-k.ensures c.args.r.firings.live c.in_default.ensures in
    omega arith

pub first_later-at-requires : goal.first_later-at-requires
first_later-at-requires c = (live_here c.args.sheet.now c.args.r c.args.bytes.now c.requires.sound c.requires.answer c.key_named-k.result c.key_named-k.ensures c.in-Some.i c.in-Some.ensures.0, live-few c.args.sheet.now c.args.r.marking c.args.r.firings c.args.r.given c.requires.sound.passed)

pub firing_at-mine-requires : goal.firing_at-mine-requires
firing_at-mine-requires c =
    let h = live_here c.args.sheet.now c.args.r c.args.bytes.now c.requires.sound c.requires.answer c.key_named-k.result c.key_named-k.ensures c.in-Some.i c.in-Some.ensures.0 in
    let f = live-few c.args.sheet.now c.args.r.marking c.args.r.firings c.args.r.given c.requires.sound.passed in
    omega arith

pub firing_at-other-requires : goal.firing_at-other-requires
firing_at-other-requires c =
    let h = later-here c.args.sheet.now c.args.r c.args.bytes.now c.requires.sound c.requires.answer c.key_named-k.result c.key_named-k.ensures c.in-Some.i c.in-Some.ensures.0
    c.first_later-at.result c.first_later-at.ensures in
    let f = live-few c.args.sheet.now c.args.r.marking c.args.r.firings c.args.r.given c.requires.sound.passed in
    omega arith

pub overflow_cast-result : goal.overflow_cast-result
overflow_cast-result c =
    let e = c.first_common-p.ensures in
    let h = part_low (set_of max_bases c.firing_at-mine.result.moved) (set_of max_bases c.firing_at-other.result.moved) in
    record { fits = omega arith }

pub returns : goal.returns
returns c =
    later-is c.args.sheet.now c.args.r c.args.bytes.now c.requires.sound c.requires.answer c.key_named-k.result c.key_named-k.ensures c.in-Some.i c.in-Some.ensures.0
    c.first_later-at.result c.first_later-at.ensures
    c.firing_at-mine.result c.firing_at-other.result c.firing_at-mine.ensures c.firing_at-other.ensures c.first_common-p.result c.first_common-p.ensures
