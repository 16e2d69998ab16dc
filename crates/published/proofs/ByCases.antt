-- Definitions 5, 7, 22 and 24 as they stand here are the source's cases; at a place that is both incoming and outgoing, one
-- after the other. For every net and marking. Of a sheet's net it is decided which places are incoming and outgoing.
-- Assumes nothing.
use mathlib.Core.Path.{refl}
use mathlib.Core.Logic.{◌⊎◌, inl, inr}
use mathlib.Core.List.{List}
use Prim.Native.Nat.{ℕ}
use lib.Dec.{eqb}
use borrow.Author.Tests.{eqb-true, eq-eqb}
use Rattle.causal.proofs.Tests.{test, both}
use Rattle.net.specs.Tests.{any}
use Rattle.net.specs.Net.{Net, arcs_of}
use Rattle.net.specs.declared.Bond.{Bond}
use Rattle.net.specs.declared.Entry.{Entry}
use Rattle.net.specs.declared.Transition.{Transition}
use Rattle.net.proofs.Tests.{any-e, any-no}
use Rattle.published.specs.Sets.{Item, Items, base, minus, union}
use Rattle.published.specs.Nets.{PetriNet, Incoming, Outgoing}
use Rattle.published.specs.States.{Marks}
use Rattle.published.specs.Forward.{leaves, comes, fired_marks}
use Rattle.published.specs.Backtracking.{leaves_back, comes_back, reversed_marks}
use Rattle.published.specs.Uncoupling.{comes22, comes24}
use Rattle.published.specs.Sheets.{label_at, petri_net, marks_of}
use Rattle.published.specs.Uncouples.{StepByCases, Fired22ByCases, Reversed24ByCases, UncouplesByCases}
use Rattle.published.specs.Claims.{FiredByCases, ReversedByCases, ByCases}

-- Definitions 22 and 24: what goes goes by an arc from the place, and what comes by one to it
step-by-cases : (T P : Type 0) (had out came : Items) → ((i : Item) → out i → T) → ((i : Item) → came i → P) → StepByCases T P had out came (union (minus had out) came)
step-by-cases T P had out came off onto = record {
  taken = λ none i. ((λ h. only none i h), λ h. inl h);
  put = λ none i. (whole i, some none i);
  neither = λ none none' i. ((λ h. (only none' i h).0), λ h. some none i (inl h));
  both = λ _ _ i. ((λ h. h), λ h. h);
}
  where
    only : (P → ⊥) → (i : Item) → union (minus had out) came i → minus had out i
    only none i (inl h) = h
    only none i (inr h) = absurd (none (onto i h))

    whole : (i : Item) → union (minus had out) came i → union had came i
    whole i (inl (h, _)) = inl h
    whole i (inr h) = inr h

    some : (T → ⊥) → (i : Item) → union had came i → union (minus had out) came i
    some none i (inl h) = inl (h, λ k. none (off i k))
    some none i (inr h) = inr h

module _ (N : PetriNet) (M : Marks) (t : Transition) (x : ℕ) (p : N.is_place x) where
  none-taken : (Incoming N t x → ⊥) → (i : Item) → N.takes x t i → ⊥
  none-taken out i h = out (p, i, h)

  none-put : (Outgoing N t x → ⊥) → (i : Item) → N.puts t x i → ⊥
  none-put out i h = out (p, i, h)

  only-leaves : (Outgoing N t x → ⊥) → (i : Item) → fired_marks N M t x i → minus (M x) (leaves N M t x) i
  only-leaves out i (inl h) = h
  only-leaves out i (inr (inl h)) = absurd (none-put out i h)
  only-leaves out i (inr (inr (a, y, h, _, _))) = absurd (none-put out (base a) h)

  only-comes : (i : Item) → fired_marks N M t x i → union (M x) (union (N.puts t x) (comes N M t x)) i
  only-comes i (inl (h, _)) = inl h
  only-comes i (inr h) = inr h

  nothing-leaves : (Incoming N t x → ⊥) → (i : Item) → union (M x) (union (N.puts t x) (comes N M t x)) i → fired_marks N M t x i
  nothing-leaves out i (inl h) = inl (h, λ (a, k, _). none-taken out (base a) k)
  nothing-leaves out i (inr h) = inr h

  fired-by-cases : FiredByCases N M t x
  fired-by-cases = record {
    incoming = λ out i. (only-leaves out i, λ h. inl h);
    outgoing = λ out i. (only-comes i, nothing-leaves out i);
    neither = λ out out' i. ((λ h. (only-leaves out' i h).0), λ h. nothing-leaves out i (inl h));
    both = λ _ _ i. ((λ h. h), λ h. h);
  }

  only-comes-back : (i : Item) → reversed_marks N M t x i → union (M x) (comes_back N M t x) i
  only-comes-back i (inl (h, _)) = inl h
  only-comes-back i (inr h) = inr h

  nothing-leaves-back : (Outgoing N t x → ⊥) → (i : Item) → union (M x) (comes_back N M t x) i → reversed_marks N M t x i
  nothing-leaves-back out i (inl h) = inl (h, λ (a, k, _). none-put out (base a) k)
  nothing-leaves-back out i (inr h) = inr h

  only-leaves-back : (Incoming N t x → ⊥) → (i : Item) → reversed_marks N M t x i → minus (M x) (leaves_back N M t x) i
  only-leaves-back out i (inl h) = h
  only-leaves-back out i (inr (y, a, _, h, _, _)) = absurd (none-taken out (base a) h)

  reversed-by-cases : ReversedByCases N M t x
  reversed-by-cases = record {
    incoming = λ out i. (only-comes-back i, nothing-leaves-back out i);
    outgoing = λ out i. (only-leaves-back out i, λ h. inl h);
    neither = λ out out' i. ((λ h. (only-leaves-back out i h).0), λ h. nothing-leaves-back out' i (inl h));
    both = λ _ _ i. ((λ h. h), λ h. h);
  }

  fired22-by-cases : Fired22ByCases N M t x
  fired22-by-cases = step-by-cases (Incoming N t x) (Outgoing N t x) (M x) (leaves N M t x) (comes22 N M t x) (λ i (a, k, _). (p, base a, k)) (λ i (a, _, k, _, _). (p, base a, k))

  reversed24-by-cases : Reversed24ByCases N M t x
  reversed24-by-cases = step-by-cases (Outgoing N t x) (Incoming N t x) (M x) (leaves_back N M t x) (comes24 N M t x) (λ i (a, k, _). (p, base a, k)) (λ i (_, a, _, k, _, _). (p, base a, k))

-- ---- the net of a sheet

-- whether a place has something on its arc
labelled : (side : Entry → ℕ) (es : List Entry) (bs : List Bond) (x : ℕ) → ((i : Item) × label_at side es bs x i) ⊎ ((i : Item) → label_at side es bs x i → ⊥)
labelled side es bs x = test (any (λ (e : Entry). eqb (side e) x) es)
    (λ h. let (e, m, q) = any-e (λ (d : Entry). eqb (side d) x) es h in inl (base e.base, (tt, e, m, refl, eqb-true (side e) x q)))
    (λ h. inr (λ i (_, e, m, _, q). both (eqb (side e) x) (eq-eqb (side e) x q) (any-no (λ (d : Entry). eqb (side d) x) es h e m)))

module _ (net : Net) (t : Transition) (x : ℕ) (p : (petri_net net).is_place x) where
  is-incoming : Incoming (petri_net net) t x ⊎ (Incoming (petri_net net) t x → ⊥)
  is-incoming = elim (labelled (λ (e : Entry). e.from) (arcs_of net t).entries (arcs_of net t).in_bonds x) [ inl (i, h) ↦ inl (p, i, h) | inr none ↦ inr (λ (_, i, h). none i h) ]

  is-outgoing : Outgoing (petri_net net) t x ⊎ (Outgoing (petri_net net) t x → ⊥)
  is-outgoing = elim (labelled (λ (e : Entry). e.to) (arcs_of net t).entries (arcs_of net t).out_bonds x) [ inl (i, h) ↦ inl (p, i, h) | inr none ↦ inr (λ (_, i, h). none i h) ]

pub by_cases : (net : Net) → ByCases net
by_cases net = record {
  decided = λ t x p. (is-incoming net t x p, is-outgoing net t x p);
  fired = λ s t x p. fired-by-cases (petri_net net) (marks_of net s) t x p;
  reversed = λ s t x p. reversed-by-cases (petri_net net) (marks_of net s) t x p;
}

pub uncouples-by-cases : (net : Net) → UncouplesByCases net
uncouples-by-cases net = record {
  fired = λ s t x p. fired22-by-cases (petri_net net) (marks_of net s) t x p;
  reversed = λ s t x p. reversed24-by-cases (petri_net net) (marks_of net s) t x p;
}
