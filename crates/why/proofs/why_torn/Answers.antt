-- `why::why_torn`: the answers to the goals that the check leaves.
use Rattle.replaying.proofs.Lines.{placed-room, placed-ends}
use Rattle.session.specs.Records.{held_in}
use Rattle.sound.proofs.Holds.{placed}
use Rattle.why.proofs.Items.{bonds-ready, entries-low, outs-low, torn-low, pair_is}
use Rattle.why.proofs.why_torn.Goals as goal

pub kept_labels-labels-requires : goal.kept_labels-labels-requires
kept_labels-labels-requires c =
    let P = placed c.args.sheet.now c.args.r.marking c.args.r.firings c.args.r.given c.requires.sound.passed in
    record {
      in_order = (placed-room c.args.sheet.now c.args.r.marking P, (bonds-ready c.args.sheet.now c.args.r c.args.bytes.now c.requires.sound).1);
      by_index = placed-ends c.args.sheet.now c.args.r.marking P;
    }

pub join_out_bonds-requires : goal.join_out_bonds-requires
join_out_bonds-requires c =
    let L = c.kept_labels-labels.ensures in
    ((L.parted.size, L.size, L.parted.low), outs-low c.args.sheet.now c.args.r c.args.bytes.now c.requires.sound c.step_named-step.result.now c.step_named-step.ensures)

pub first_torn-i-requires : goal.first_torn-i-requires
first_torn-i-requires c = entries-low c.args.sheet.now c.args.r c.args.bytes.now c.requires.sound c.step_named-step.result.now c.step_named-step.ensures

pub first_partner-k-requires : goal.first_partner-k-requires
first_partner-k-requires c =
    let m = (held_in c.args.sheet.now c.args.r).marking in
    let parted = (c.join_out_bonds.ensures _ c.kept_labels-labels.ensures).parted in
    record {
      base_lt_max_bases = torn-low c.args.sheet.now c.args.r c.args.bytes.now c.requires.sound c.step_named-step.result.now c.step_named-step.ensures c.requires c.first_torn-i.result (c.first_torn-i.ensures m parted) c.entry-e.result c.entry-e.ensures;
      by_index = entries-low c.args.sheet.now c.args.r c.args.bytes.now c.requires.sound c.step_named-step.result.now c.step_named-step.ensures;
    }

pub returns : goal.returns
returns c =
    let m = (held_in c.args.sheet.now c.args.r).marking in
    let parted = (c.join_out_bonds.ensures _ c.kept_labels-labels.ensures).parted in
    pair_is c.args.sheet.now c.args.r c.args.bytes.now c.requires.sound c.step_named-step.result.now c.step_named-step.ensures c.requires c.first_torn-i.result (c.first_torn-i.ensures m parted) c.entry-e.result c.entry-e.ensures
    c.first_partner-k.result (c.first_partner-k.ensures m parted) c.entry-d.result c.entry-d.ensures
