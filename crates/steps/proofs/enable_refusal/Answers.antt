-- `steps::enable_refusal`: the answers to the goals that the check leaves.
use Rattle.std.proofs.Common.{◌≡◌, refl, false, ◌<◌, sym, ◌∙◌, arith}
use Rattle.net.specs.Net.{arcs_of}
use Rattle.net.specs.Firing.{misplaced, bond_absent, bond_present, torn_apart}
use Rattle.format.specs.Parts.{bases_of, transitions_of}
use Rattle.format.specs.Arcs.{arcs_in}
use Rattle.format.specs.NetOf.{net_of}
use Rattle.marking.specs.Form.{marking_of}
use Rattle.enabling.specs.Ready.{Ready}
use Rattle.enabling.proofs.Readiness.{room, ends_low, entries-low}
use Rattle.steps.proofs.Refusals.{ready_at, on-net, misplaced-at, torn-at, refused-12, refused-13, refused-14, refused-15, refused-16, enabled}
use Rattle.steps.proofs.enable_refusal.Goals as goal
use Rattle.steps.proofs.enable_refusal.Goals.{After-transition_bytes-step, Else-misplaced, Else-bond_absent, Else-bond_present}

-- the transition is on the sheet
below : (c : After-transition_bytes-step) → c.args.t.0 < transitions_of c.args.sheet.now
below c = let e = c.transition_count.ensures in let h = c.if-transition_count-t.false in omega arith

ready : (c : After-transition_bytes-step) → Ready (bases_of c.args.sheet.now) (arcs_in c.transition_bytes-step.result.now) c.args.m.now
ready c = ready_at c.args.sheet.now c.args.m.now c.args.t (bases_of c.args.sheet.now) _ refl c.transition_bytes-step.ensures c.requires.0 (below c)

-- 13 to 15 do not hold
not-13 : (c : Else-misplaced) → misplaced (arcs_of (net_of c.args.sheet.now) c.args.t) (marking_of (bases_of c.args.sheet.now) c.args.m.now) ≡ false
not-13 c =
    let e = c.transition_count.ensures in
    let h = c.if-transition_count-t.false in
    sym (misplaced-at c.args.sheet.now c.args.m.now c.args.t (bases_of c.args.sheet.now) _ refl c.transition_bytes-step.ensures c.requires.0 (omega arith) _ c.misplaced.ensures) ∙ c.if-misplaced.false

not-14 : (c : Else-bond_absent) → bond_absent (arcs_of (net_of c.args.sheet.now) c.args.t) (marking_of (bases_of c.args.sheet.now) c.args.m.now) ≡ false
not-14 c =
    sym (c.bond_absent.ensures (bases_of c.args.sheet.now) ∙ on-net c.args.sheet.now c.args.m.now c.args.t (bases_of c.args.sheet.now) _ refl c.transition_bytes-step.ensures bond_absent) ∙ c.if-bond_absent.false

not-15 : (c : Else-bond_present) → bond_present (arcs_of (net_of c.args.sheet.now) c.args.t) (marking_of (bases_of c.args.sheet.now) c.args.m.now) ≡ false
not-15 c =
    sym (c.bond_present.ensures (bases_of c.args.sheet.now) ∙ on-net c.args.sheet.now c.args.m.now c.args.t (bases_of c.args.sheet.now) _ refl c.transition_bytes-step.ensures bond_present) ∙ c.if-bond_present.false

pub returns-then-transition_count-t : goal.returns-then-transition_count-t
returns-then-transition_count-t c =
    let e = c.transition_count.ensures in
    let h = c.if-transition_count-t.true in
    refused-12 c.args.sheet.now c.args.t (marking_of (bases_of c.args.sheet.now) c.args.m.now) (omega arith)

pub misplaced-requires : goal.misplaced-requires
misplaced-requires c = entries-low _ _ _ (ready (goal.at.misplaced-requires c).After-transition_bytes-step)

pub returns-then-misplaced : goal.returns-then-misplaced
returns-then-misplaced c =
    let h = below (goal.at.returns-then-misplaced c).After-transition_bytes-step in
    refused-13 c.args.sheet.now c.args.t _ h
    (sym (misplaced-at c.args.sheet.now c.args.m.now c.args.t (bases_of c.args.sheet.now) _ refl c.transition_bytes-step.ensures c.requires.0 h _ c.misplaced.ensures) ∙ c.if-misplaced.true)

pub bond_absent-requires : goal.bond_absent-requires
bond_absent-requires c = let R = ready (goal.at.bond_absent-requires c).After-transition_bytes-step in (room _ _ _ R, R.order)

pub returns-then-bond_absent : goal.returns-then-bond_absent
returns-then-bond_absent c =
    refused-14 c.args.sheet.now c.args.t _ (below (goal.at.returns-then-bond_absent c).After-transition_bytes-step) (not-13 (goal.at.returns-then-bond_absent c).Else-misplaced)
    (sym (c.bond_absent.ensures (bases_of c.args.sheet.now) ∙ on-net c.args.sheet.now c.args.m.now c.args.t (bases_of c.args.sheet.now) _ refl c.transition_bytes-step.ensures bond_absent) ∙ c.if-bond_absent.true)

pub bond_present-requires : goal.bond_present-requires
bond_present-requires c = let R = ready (goal.at.bond_present-requires c).After-transition_bytes-step in (room _ _ _ R, R.order)

pub returns-then-bond_present : goal.returns-then-bond_present
returns-then-bond_present c =
    refused-15 c.args.sheet.now c.args.t _ (below (goal.at.returns-then-bond_present c).After-transition_bytes-step) (not-13 (goal.at.returns-then-bond_present c).Else-misplaced)
    (not-14 (goal.at.returns-then-bond_present c).Else-bond_absent)
    (sym (c.bond_present.ensures (bases_of c.args.sheet.now) ∙ on-net c.args.sheet.now c.args.m.now c.args.t (bases_of c.args.sheet.now) _ refl c.transition_bytes-step.ensures bond_present) ∙ c.if-bond_present.true)

pub torn_apart-requires : goal.torn_apart-requires
torn_apart-requires c =
    let R = ready (goal.at.torn_apart-requires c).After-transition_bytes-step in
    record {
      in_order = (room _ _ _ R, R.order);
      by_index = ends_low _ _ _ R;
      by_index_2 = (entries-low _ _ _ R, c.requires.1);
    }

pub returns-then-torn_apart : goal.returns-then-torn_apart
returns-then-torn_apart c =
    let h = below (goal.at.returns-then-torn_apart c).After-transition_bytes-step in
    refused-16 c.args.sheet.now c.args.t _ h (not-13 (goal.at.returns-then-torn_apart c).Else-misplaced) (not-14 (goal.at.returns-then-torn_apart c).Else-bond_absent) (not-15 (goal.at.returns-then-torn_apart c).Else-bond_present)
    (sym (c.torn_apart.ensures ∙ torn-at c.args.sheet.now c.args.m.now c.args.t (bases_of c.args.sheet.now) _ refl c.transition_bytes-step.ensures c.requires.0 h
    ∙ on-net c.args.sheet.now c.args.m.now c.args.t (bases_of c.args.sheet.now) _ refl c.transition_bytes-step.ensures torn_apart) ∙ c.if-torn_apart.true)

pub returns : goal.returns
returns c =
    let h = below (goal.at.returns c).After-transition_bytes-step in
    enabled c.args.sheet.now c.args.t _ h (not-13 (goal.at.returns c).Else-misplaced) (not-14 (goal.at.returns c).Else-bond_absent) (not-15 (goal.at.returns c).Else-bond_present)
    (sym (c.torn_apart.ensures ∙ torn-at c.args.sheet.now c.args.m.now c.args.t (bases_of c.args.sheet.now) _ refl c.transition_bytes-step.ensures c.requires.0 h
    ∙ on-net c.args.sheet.now c.args.m.now c.args.t (bases_of c.args.sheet.now) _ refl c.transition_bytes-step.ensures torn_apart) ∙ c.if-torn_apart.false)
