-- `firings::Firings::in_form`: the answers to the goals that the check leaves.
use borrow.Author.Rules.{rules}
use native.Mathlib.Omega.{arith}
use mathlib.Core.Path.{◌≡◌, sym, ◌∙◌}
use mathlib.Core.Bool.{◌&&◌, true}
use Prim.Native.Nat.{◌-◌, ◌^◌, ◌≤◌}
use lib.Dec.{leb, eqb}
use lib.ListN.{length, take, drop}
use Rattle.std.proofs.lemmas.Iterator.{YieldsList-from_slice}
use Rattle.std.proofs.lemmas.Iterator.Consumers.{fold_from_yields_List}
use Rattle.bonds.proofs.InPlace.{table-take}
use Rattle.net.proofs.Tests.{and_l, and_r}
use Rattle.firings.specs.Form.{all_within, used_in_form, firings_in_form}
use Rattle.firings.proofs.Laid.{Sized, firings-laid}
use Rattle.firings.proofs.Loops.{fold-all, rest-of}
use Rattle.firings.proofs.Firings.in_form.Goals as goal

pub returns : goal.returns
returns c =
    let f = c.args.self.now in
    let n = c.args.n in
    let few = c.requires.1 in
    let S : Sized f = record { transitions = search rules; keys = search rules; moved = search rules } in
    let w = c.low_bits-top.result in
    let top : w ≡ 2 ^ n - 1 = let e = c.low_bits-top.ensures in omega arith in
    let size : f.live ≤ length f.moved = rw S.moved few in
    let used : c.fold-used.result ≡ used_in_form n f =
    fold_from_yields_List _ (λ ok x. ok && leb x w) true _ c.fold-used.ensures.ran (YieldsList-from_slice (take f.live f.moved) c.iter.ensures.rest) (λ a x b q. search rules)
    ∙ fold-all (λ x. leb x w) true (take f.live f.moved) ∙ (λ i. all_within (top i) (sym (table-take f.live f.moved 0 size) i)) in
    let steps = fold_from_yields_List _ (λ ok x. ok && eqb x 0) true _ c.fold-steps.ensures.ran (YieldsList-from_slice (drop f.live f.transitions) (c.iter-2.ensures.rest ∙ rest-of f.live f.transitions S.transitions)) (λ a x b q. search rules)
    ∙ fold-all (λ x. eqb x 0) true (drop f.live f.transitions) in
    let serials = fold_from_yields_List _ (λ ok x. ok && eqb x 0) true _ c.fold-serials.ensures.ran (YieldsList-from_slice (drop f.live f.keys) (c.iter-3.ensures.rest ∙ rest-of f.live f.keys S.keys)) (λ a x b q. search rules)
    ∙ fold-all (λ x. eqb x 0) true (drop f.live f.keys) in
    let sets = fold_from_yields_List _ (λ ok x. ok && eqb x 0) true _ c.fold-sets.ensures.ran (YieldsList-from_slice (drop f.live f.moved) (c.iter-4.ensures.rest ∙ rest-of f.live f.moved S.moved)) (λ a x b q. search rules)
    ∙ fold-all (λ x. eqb x 0) true (drop f.live f.moved) in
    let value : (c.fold-used.result && (c.fold-steps.result && (c.fold-serials.result && c.fold-sets.result))) ≡ firings_in_form n f = λ i. used i && (steps i && (serials i && sets i)) in
    record {
      value = value;
      laid_out = λ h. let t = sym value ∙ h in firings-laid n f S few (and_l _ _ t) (and_r (used_in_form n f) _ t);
    }
