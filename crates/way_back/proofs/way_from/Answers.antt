-- `way_back::way_from`: the answers to the goals that the check leaves.
use native.Mathlib.Omega.{arith}
use mathlib.Core.Path.{◌≡◌, sym, ◌∙◌}
use Rattle.format.specs.Parts.{bases_of, places_of}
use Rattle.layout.specs.Layout.{unfit_layout}
use Rattle.sound.proofs.Holds.{placed, few, live-few, keys-rise}
use Rattle.replaying.proofs.Lines.{placed-room, placed-ends}
use Rattle.way_back.proofs.Ending.{not-fit, fits, no-way-left, way-found}
use Rattle.way_back.proofs.way_from.Goals as goal
use Rattle.way_back.proofs.way_from.Goals.{After-unfit_layout-unfit}

-- the test for 27, by the sheet's own counts
abbrev tested : (u : After-unfit_layout-unfit) → u.unfit_layout-unfit.result ≡ unfit_layout (bases_of u.args.sheet.now) (places_of u.args.sheet.now) u.args.layout.now
tested u = u.unfit_layout-unfit.ensures ∙ (λ i. unfit_layout (u.base_count-n.ensures i) (u.place_count.ensures i) u.args.layout.now)

pub returns-then-unfit : goal.returns-then-unfit
returns-then-unfit c = λ k P. c.no_way.ensures ∙ not-fit c.args.sheet.now c.args.layout.now c.args.m c.args.f _ (tested (goal.at.returns-then-unfit c).After-unfit_layout-unfit) c.if-unfit.true k

pub of_marking-labels-requires : goal.of_marking-labels-requires
of_marking-labels-requires c =
    let P = placed c.args.sheet.now c.args.m c.args.f c.requires.0 c.requires.1 in
    record { count_in_bounds = placed-room c.args.sheet.now c.args.m P; by_index = placed-ends c.args.sheet.now c.args.m P }

pub retreat_in-requires : goal.retreat_in-requires
retreat_in-requires c =
    record {
      passed = c.requires;
      labelled = (c.of_marking-labels.ensures, fits c.args.sheet.now c.args.layout.now c.args.m c.args.f _ (tested (goal.at.retreat_in-requires c).After-unfit_layout-unfit) c.if-unfit.false);
    }

pub wrong_base-wrong-requires : goal.wrong_base-wrong-requires
wrong_base-wrong-requires c =
    let e = c.base_count-n.ensures in
    let h = few c.args.sheet.now c.args.m c.args.f c.requires.0 c.requires.1 in
    let l = fits c.args.sheet.now c.args.layout.now c.args.m c.args.f _ (tested (goal.at.wrong_base-wrong-requires c).After-unfit_layout-unfit) c.if-unfit.false in
    (omega arith, omega arith)

pub returns-then-wrong-n : goal.returns-then-wrong-n
returns-then-wrong-n c =
    let e = c.base_count-n.ensures in
    let q = rw e at c.wrong_base-wrong.ensures in
    λ k P. c.no_way-then-wrong-n.ensures ∙ no-way-left c.args.sheet.now c.args.layout.now c.args.m c.args.f _ (tested (goal.at.returns-then-wrong-n c).After-unfit_layout-unfit) c.if-unfit.false _ _ c.retreat_in.ensures k P _ q (λ d. c.if-wrong-n.true (d ∙ sym e))

pub gone_keys-requires : goal.gone_keys-requires
gone_keys-requires c =
    let P = c.retreat_in.ensures.stays c.requires.0 c.requires.1 in
    (live-few c.args.sheet.now c.args.m c.args.f c.requires.0 c.requires.1, live-few c.args.sheet.now _ _ c.requires.0 P, keys-rise c.args.sheet.now _ _ c.requires.0 P)

pub returns : goal.returns
returns c =
    let e = c.base_count-n.ensures in
    let q = rw e at c.wrong_base-wrong.ensures in
    λ k P. c.gone_keys.ensures (bases_of c.args.sheet.now) ∙ way-found c.args.sheet.now c.args.layout.now c.args.m c.args.f _ (tested (goal.at.returns c).After-unfit_layout-unfit) c.if-unfit.false _ _ c.retreat_in.ensures k P _ q (c.if-wrong-n.false ∙ e)
