-- `sound::record_refusal`: the answers to the goals that the check leaves.
use borrow.Author.Rules.{rules}
use borrow.Author.Tests.{eqb-true}
use mathlib.Core.Path.{◌≡◌, sym, ◌∙◌, ap}
use mathlib.Core.Bool.{Bool, true, ◌&&◌}
use lib.Dec.{eqb}
use native.Mathlib.Omega.{arith}
use Rattle.net.specs.Checks.{clear}
use Rattle.net.proofs.Tests.{same-e}
use Rattle.format.specs.Parts.{bases_of}
use Rattle.sheet.specs.Checks.{sheet_checks}
use Rattle.sound.specs.Soundness.{sound_in, runs_in, movers_fit}
use Rattle.sound.proofs.Given.{not-run, live-most, key_below, key_above}
use Rattle.sound.proofs.Movers.{fit_is}
use Rattle.sound.proofs.Refusing.{sheet-clear, by-sheet, by-record, by-none}
use Rattle.sound.proofs.record_refusal.Goals as goal

pub returns-then-refusal-ne0 : goal.returns-then-refusal-ne0
returns-then-refusal-ne0 c =
    record {
      value = by-sheet c.args.sheet.now c.args.m.now c.args.f.now c.args.given c.args.movers.now _ (c.number-refusal.ensures ∙ c.check_sheet-checked.ensures.result_value) c.if-refusal-ne0.true;
      kept = λ z. absurd (c.if-refusal-ne0.true z);
    }

pub is_sound-requires : goal.is_sound-requires
is_sound-requires c = (let own : clear (sheet_checks c.args.sheet.now) ≡ true = sheet-clear c.args.sheet.now _ (c.number-refusal.ensures ∙ c.check_sheet-checked.ensures.result_value) c.if-refusal-ne0.false in own)

pub returns-then-not-is_sound : goal.returns-then-not-is_sound
returns-then-not-is_sound c =
    let no = not-run c.args.sheet.now c.args.m.now c.args.f.now c.args.given (sym c.is_sound.ensures.value ∙ c.if-not-is_sound.true) in
    record {
      value = by-record c.args.sheet.now c.args.m.now c.args.f.now c.args.given c.args.movers.now ((let own : clear (sheet_checks c.args.sheet.now) ≡ true = sheet-clear c.args.sheet.now _ (c.number-refusal.ensures ∙ c.check_sheet-checked.ensures.result_value) c.if-refusal-ne0.false in own)) (ap (λ (b : Bool). b && movers_fit (bases_of c.args.sheet.now) c.args.f.now c.args.movers.now) no);
      kept = λ z. absurd (let q : ⊥ = omega arith in q);
    }

pub last_key-last-requires : goal.last_key-last-requires
last_key-last-requires c = live-most c.args.sheet.now c.args.m.now c.args.f.now c.args.given ((let own : runs_in c.args.sheet.now c.args.m.now c.args.f.now ≡ true = sym c.is_sound.ensures.value ∙ c.if-not-is_sound.false in own))

pub returns-then-given-last : goal.returns-then-given-last
returns-then-given-last c =
    let no = key_below c.args.sheet.now c.args.m.now c.args.f.now c.args.given ((let own : runs_in c.args.sheet.now c.args.m.now c.args.f.now ≡ true = sym c.is_sound.ensures.value ∙ c.if-not-is_sound.false in own)) c.last_key-last.result c.last_key-last.ensures c.if-given-last.true in
    record {
      value = by-record c.args.sheet.now c.args.m.now c.args.f.now c.args.given c.args.movers.now ((let own : clear (sheet_checks c.args.sheet.now) ≡ true = sheet-clear c.args.sheet.now _ (c.number-refusal.ensures ∙ c.check_sheet-checked.ensures.result_value) c.if-refusal-ne0.false in own)) (ap (λ (b : Bool). b && movers_fit (bases_of c.args.sheet.now) c.args.f.now c.args.movers.now) no);
      kept = λ z. absurd (let q : ⊥ = omega arith in q);
    }

pub fits-requires : goal.fits-requires
fits-requires c = live-most c.args.sheet.now c.args.m.now c.args.f.now c.args.given ((let own : runs_in c.args.sheet.now c.args.m.now c.args.f.now ≡ true = sym c.is_sound.ensures.value ∙ c.if-not-is_sound.false in own))

pub returns-then-fits : goal.returns-then-fits
returns-then-fits c =
    let yes = (let own : sound_in c.args.sheet.now c.args.m.now c.args.f.now c.args.given ≡ true = key_above c.args.sheet.now c.args.m.now c.args.f.now c.args.given ((let own : runs_in c.args.sheet.now c.args.m.now c.args.f.now ≡ true = sym c.is_sound.ensures.value ∙ c.if-not-is_sound.false in own)) c.last_key-last.result c.last_key-last.ensures c.if-given-last.false (search rules) in own) in
    let fit = sym ((let own : c.fits.result ≡ movers_fit (bases_of c.args.sheet.now) c.args.f.now c.args.movers.now = c.fits.ensures ∙ fit_is c.args.sheet.now c.args.m.now c.args.f.now c.args.movers.now ((let own : clear (sheet_checks c.args.sheet.now) ≡ true = sheet-clear c.args.sheet.now _ (c.number-refusal.ensures ∙ c.check_sheet-checked.ensures.result_value) c.if-refusal-ne0.false in own)) ((let own : runs_in c.args.sheet.now c.args.m.now c.args.f.now ≡ true = sym c.is_sound.ensures.value ∙ c.if-not-is_sound.false in own)) in own)) ∙ c.if-fits.true in
    record {
      value = by-none c.args.sheet.now c.args.m.now c.args.f.now c.args.given c.args.movers.now ((let own : clear (sheet_checks c.args.sheet.now) ≡ true = sheet-clear c.args.sheet.now _ (c.number-refusal.ensures ∙ c.check_sheet-checked.ensures.result_value) c.if-refusal-ne0.false in own)) (λ i. yes i && fit i);
      kept = λ _. record {
        passed = record { accepted = (let own : clear (sheet_checks c.args.sheet.now) ≡ true = sheet-clear c.args.sheet.now _ (c.number-refusal.ensures ∙ c.check_sheet-checked.ensures.result_value) c.if-refusal-ne0.false in own); sound = yes; laid_out = c.is_sound.ensures.laid_out c.if-not-is_sound.false };
        movers = same-e eqb eqb-true c.args.movers.now _ fit;
      };
    }

pub returns-else-fits : goal.returns-else-fits
returns-else-fits c =
    let no = sym ((let own : c.fits.result ≡ movers_fit (bases_of c.args.sheet.now) c.args.f.now c.args.movers.now = c.fits.ensures ∙ fit_is c.args.sheet.now c.args.m.now c.args.f.now c.args.movers.now ((let own : clear (sheet_checks c.args.sheet.now) ≡ true = sheet-clear c.args.sheet.now _ (c.number-refusal.ensures ∙ c.check_sheet-checked.ensures.result_value) c.if-refusal-ne0.false in own)) ((let own : runs_in c.args.sheet.now c.args.m.now c.args.f.now ≡ true = sym c.is_sound.ensures.value ∙ c.if-not-is_sound.false in own)) in own)) ∙ c.if-fits.false in
    record {
      value = by-record c.args.sheet.now c.args.m.now c.args.f.now c.args.given c.args.movers.now ((let own : clear (sheet_checks c.args.sheet.now) ≡ true = sheet-clear c.args.sheet.now _ (c.number-refusal.ensures ∙ c.check_sheet-checked.ensures.result_value) c.if-refusal-ne0.false in own)) (λ i. (let own : sound_in c.args.sheet.now c.args.m.now c.args.f.now c.args.given ≡ true = key_above c.args.sheet.now c.args.m.now c.args.f.now c.args.given ((let own : runs_in c.args.sheet.now c.args.m.now c.args.f.now ≡ true = sym c.is_sound.ensures.value ∙ c.if-not-is_sound.false in own)) c.last_key-last.result c.last_key-last.ensures c.if-given-last.false (search rules) in own) i && no i);
      kept = λ z. absurd (let q : ⊥ = omega arith in q);
    }
