-- `sound::is_sound`: the answers to the goals that the check leaves.
use borrow.Author.Tests.{leb-true}
use mathlib.Core.Path.{◌≡◌, refl, sym, ◌∙◌, subst}
use mathlib.Core.Bool.{true, false, ◌&&◌}
use Prim.Native.Nat.{ℕ, ◌≤◌}
use Rattle.causal.proofs.Tests.{both}
use Rattle.net.specs.Limits.{max_bases}
use Rattle.net.proofs.Tests.{and_l, and_r}
use Rattle.format.specs.Parts.{bases_of}
use Rattle.sheet.proofs.Accepted.{promised}
use Rattle.marking.specs.Form.{in_form, marking_of, laid}
use Rattle.firings.specs.Lines.{lines_in, firings_of}
use Rattle.firings.specs.Search.{keys_in}
use Rattle.firings.specs.Form.{used_in_form, firings_in_form, climbs}
use Rattle.sound.proofs.Tests.{too_many, unsound, by-run, low-sets}
use Rattle.sound.proofs.is_sound.Goals as goal

pub returns-then-f-gt-MAX_LIVE : goal.returns-then-f-gt-MAX_LIVE
returns-then-f-gt-MAX_LIVE c =
    record {
      value = too_many c.args.sheet.now c.args.m.now c.args.f.now c.if-f-gt-MAX_LIVE.true;
      laid_out = λ h. both false h refl;
    }

pub in_form-listed-requires : goal.in_form-listed-requires
in_form-listed-requires c = (rw c.base_count-n.ensures (promised c.args.sheet.now c.requires).bases.1, c.if-f-gt-MAX_LIVE.false)

pub returns-then-not-formed-listed : goal.returns-then-not-formed-listed
returns-then-not-formed-listed c =
    record {
      value = unsound c.args.sheet.now c.args.m.now c.args.f.now c.if-f-gt-MAX_LIVE.false (sym ((let own : (c.in_form-formed.result && (c.in_form-listed.result && c.keys_climb-rising.result)) ≡ (in_form (bases_of c.args.sheet.now) c.args.m.now && (firings_in_form (bases_of c.args.sheet.now) c.args.f.now && climbs 0 (keys_in c.args.f.now.live c.args.f.now.keys))) = let n = c.base_count-n.ensures in (λ i. c.in_form-formed.ensures.value i && (c.in_form-listed.ensures.value i && c.keys_climb-rising.ensures i)) ∙ (λ i. in_form (n i) c.args.m.now && (firings_in_form (n i) c.args.f.now && climbs 0 (keys_in c.args.f.now.live c.args.f.now.keys))) in own)) ∙ c.if-not-formed-listed.true);
      laid_out = λ h. both false h refl;
    }

pub runs_to-requires : goal.runs_to-requires
runs_to-requires c =
    let n : ℕ = bases_of c.args.sheet.now in
    let p = (let own : (in_form (bases_of c.args.sheet.now) c.args.m.now && (firings_in_form (bases_of c.args.sheet.now) c.args.f.now && climbs 0 (keys_in c.args.f.now.live c.args.f.now.keys))) ≡ true = sym ((let own : (c.in_form-formed.result && (c.in_form-listed.result && c.keys_climb-rising.result)) ≡ (in_form (bases_of c.args.sheet.now) c.args.m.now && (firings_in_form (bases_of c.args.sheet.now) c.args.f.now && climbs 0 (keys_in c.args.f.now.live c.args.f.now.keys))) = let n = c.base_count-n.ensures in (λ i. c.in_form-formed.ensures.value i && (c.in_form-listed.ensures.value i && c.keys_climb-rising.ensures i)) ∙ (λ i. in_form (n i) c.args.m.now && (firings_in_form (n i) c.args.f.now && climbs 0 (keys_in c.args.f.now.live c.args.f.now.keys))) in own)) ∙ c.if-not-formed-listed.false in own) in
    let f = and_l (firings_in_form n c.args.f.now) _ (and_r (in_form n c.args.m.now) _ p) in
    record {
      sheet_value = (c.requires, c.if-f-gt-MAX_LIVE.false, leb-true _ _ (and_l _ _ (and_l (in_form n c.args.m.now) _ p)));
      by_index = low-sets n c.args.f.now (and_l (used_in_form n c.args.f.now) _ f);
    }

pub returns : goal.returns
returns c =
    let n = c.base_count-n.ensures in
    let test = c.if-not-formed-listed.false in
    let m = c.in_form-formed.ensures.laid_out (and_l _ _ test) ((let own : c.base_count-n.result ≤ max_bases = rw c.base_count-n.ensures (promised c.args.sheet.now c.requires).bases.1 in own)) in
    let f = c.in_form-listed.ensures.laid_out (and_l _ _ (and_r c.in_form-formed.result _ test)) in record {
      value = c.runs_to.ensures ∙ by-run c.args.sheet.now c.args.m.now c.args.f.now c.if-f-gt-MAX_LIVE.false ((let own : (in_form (bases_of c.args.sheet.now) c.args.m.now && (firings_in_form (bases_of c.args.sheet.now) c.args.f.now && climbs 0 (keys_in c.args.f.now.live c.args.f.now.keys))) ≡ true = sym ((let own : (c.in_form-formed.result && (c.in_form-listed.result && c.keys_climb-rising.result)) ≡ (in_form (bases_of c.args.sheet.now) c.args.m.now && (firings_in_form (bases_of c.args.sheet.now) c.args.f.now && climbs 0 (keys_in c.args.f.now.live c.args.f.now.keys))) = let n = c.base_count-n.ensures in (λ i. c.in_form-formed.ensures.value i && (c.in_form-listed.ensures.value i && c.keys_climb-rising.ensures i)) ∙ (λ i. in_form (n i) c.args.m.now && (firings_in_form (n i) c.args.f.now && climbs 0 (keys_in c.args.f.now.live c.args.f.now.keys))) in own)) ∙ c.if-not-formed-listed.false in own));
      laid_out = λ _. (
        subst (λ (j : ℕ). c.args.m.now ≡ laid (marking_of j c.args.m.now)) n m,
        subst (λ (j : ℕ). c.args.f.now ≡ firings_of (lines_in j c.args.f.now)) n f,
      );
    }
