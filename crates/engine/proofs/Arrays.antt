-- Firing and taking back in place: what the calls of `fire_in` and `undo_in` ask, and what they leave.
-- Assumes nothing.
use mathlib.Core.Path.{◌≡◌, sym, ◌∙◌, ap, subst}
use mathlib.Core.Bool.{Bool, true, false, not, ◌&&◌}
use mathlib.Core.List.{List}
use Prim.Native.Nat.{ℕ, ◌<◌, ◌≤◌}
use lib.Dec.{eqb}
use lib.ListN.{get_or}
use borrow.Author.Tests.{eqb-true}
use Rattle.net.specs.Limits.{max_bases, max_bonds}
use Rattle.net.specs.Tests.{pick, keep, table}
use Rattle.net.specs.Sorted.{puts}
use Rattle.net.specs.Net.{same_bond, less_bond, has_bond, arcs_bonds}
use Rattle.net.specs.Firing.{broken_bond, breaks_none, bonds_seen, fire, new_bond, bonds_back, undo}
use Rattle.net.specs.declared.Bond.{Bond}
use Rattle.net.proofs.Tests.{and_l, and_r}
use Rattle.format.specs.Arcs.{arcs_in, out_count, nth_out_bond}
use Rattle.words.specs.Sets.{set_of}
use Rattle.labels.specs.Labelled.{label_in, Labelled, Within, Fits}
use Rattle.marking.specs.declared.Marking.{Marking}
use Rattle.marking.specs.Form.{bonds_of, marking_of, with_bonds, laid}
use Rattle.marking.specs.Held.{holding}
use Rattle.groups.specs.Groups.{firsts, side}
use Rattle.enabling.specs.Ready.{Ready}
use Rattle.enabling.proofs.Readiness.{room, ends_low, outs-within}
use Rattle.engine.specs.Change.{HasRoom, goes_in}
use Rattle.engine.proofs.Labels.{labels-fit}
use Rattle.engine.proofs.Whole.{fits, ready-cut, fired-bonds, fired-whole, fire-made, undone-bonds, undone-whole, undo-made, undo-low}

-- the places ps with the bonds of b
abbrev over : List ℕ → Marking → Marking
over ps b = holding ps b.count b.lo b.hi

-- one has the bonds of m but those of g, and two those of one and the bonds cs
abbrev Cut : (Bond → Bool) → Marking → Marking → Type 0
Cut g m one = one ≡ with_bonds m (keep (λ b. not (g b)) (bonds_of m))

abbrev Put : List Bond → Marking → Marking → Type 0
Put cs one two = two ≡ with_bonds one (puts same_bond less_bond cs (bonds_of one))

-- the ends of the bonds are bases that an array holds
abbrev EndsLow : Marking → Type 0
EndsLow m = (i : ℕ) → i < m.count → (get_or m.lo i 0 < max_bases) × (get_or m.hi i 0 < max_bases)

-- the transition in the bytes `step` is ready at m
module _ (n : ℕ) (step : List ℕ) (m : Marking) (R : Ready n (arcs_in step) m) where
  -- room for the bonds of a side, once those of g went out
  pub side-room : (g : Bond → Bool) (one : Marking) → Cut g m one → (bs : List Bond) → ((b : Bond) → has_bond b bs ≡ true → has_bond b (arcs_bonds (arcs_in step)) ≡ true) → HasRoom bs one
  side-room g one p bs h = fits n (arcs_in step) one (ready-cut n (arcs_in step) m R (λ b. not (g b)) one p) bs h

  -- firing
  module _ (one two : Marking) (p : Cut (broken_bond (arcs_in step)) m one) (q : Put (keep (goes_in (arcs_in step) true) (arcs_in step).out_bonds) one two) where
    fired : (two ≡ with_bonds m (bonds_seen (arcs_in step) (bonds_of m))) × Ready n (arcs_in step) two
    fired = fired-bonds n (arcs_in step) m R one two p q

    pub fired-fits : (l w : List ℕ) → Labelled l w (bonds_of m) → (Fits l w × (two.count ≤ max_bonds)) × (((i : ℕ) → i < out_count step → Within max_bases (nth_out_bond step i)) × EndsLow two)
    fired-fits l w L = (
      (labels-fit l w (bonds_of m) L, room n (arcs_in step) two fired.1),
      (outs-within n step m R, ends_low n (arcs_in step) two fired.1),
    )

    -- labels l and w once the bonds were joined or labelled anew, and places ps once the entries sent them
    pub fired-end : (l₀ w₀ l w ps : List ℕ) → Labelled l₀ w₀ (bonds_of m)
        → ((bs : List Bond) → Labelled l₀ w₀ bs → (eqb one.count m.count ≡ true → bonds_of two ≡ puts same_bond less_bond (arcs_in step).out_bonds bs) → Labelled l w (bonds_of two))
        → ps ≡ table max_bases (λ x. firsts (side false) (label_in l) (arcs_in step).entries (get_or two.places x 0) (label_in l x))
        → (over ps two ≡ laid (fire n (arcs_in step) (marking_of n m))) × Labelled l w (bonds_of two)
    fired-end l₀ w₀ l w ps L f e =
        let whole : eqb one.count m.count ≡ true → bonds_of two ≡ puts same_bond less_bond (arcs_in step).out_bonds (bonds_of m)
        = λ h. fired-whole n (arcs_in step) m R one two p q (eqb-true one.count m.count h) in
        let K : Labelled l w (bonds_of two) = f (bonds_of m) L whole in
        (fire-made n (arcs_in step) m R two fired.0 fired.1 l K.parted ps e, K)

  -- taking back
  module _ (one two : Marking) (p : Cut (new_bond (arcs_in step)) m one) (q : Put (keep (broken_bond (arcs_in step)) (arcs_in step).in_bonds) one two) where
    undone : (two ≡ with_bonds m (bonds_back (arcs_in step) (bonds_of m))) × Ready n (arcs_in step) two
    undone = undone-bonds n (arcs_in step) m R one two p q

    pub undone-fits : (l w : List ℕ) → Labelled l w (bonds_of m) → (whole : Bool) → whole ≡ breaks_none (arcs_in step)
        → (two.count ≤ max_bonds) × (EndsLow two × (whole && eqb one.count m.count ≡ true → Labelled l w (bonds_of two)))
    undone-fits l w L whole k = (
      room n (arcs_in step) two undone.1,
      (
        ends_low n (arcs_in step) two undone.1,
        λ e. subst (Labelled l w) (undone-whole n (arcs_in step) m R one two p undone.0
            (eqb-true one.count m.count (and_r whole (eqb one.count m.count) e)) (sym k ∙ and_l whole (eqb one.count m.count) e)) L,
      ),
    )

    pub undone-end : (l w ps : List ℕ) (moved : ℕ) → Labelled l w (bonds_of two)
        → ps ≡ table max_bases (λ x. pick (get_or (set_of max_bases moved) x false) (firsts (side true) (label_in l) (arcs_in step).entries (get_or two.places x 0) (label_in l x)) (get_or two.places x 0))
        → over ps two ≡ laid (undo n (arcs_in step) (set_of n moved) (marking_of n m))
    undone-end l w ps moved L e =
        undo-made n (arcs_in step) m R two undone.0 undone.1 l L.parted (set_of max_bases moved) ps e
        ∙ ap laid (undo-low n (arcs_in step) m R moved)
