-- The net of a sheet is one of Definition 2, and well-formed by Definition 20; by Definition 3 too exactly where no step breaks
-- a bond. A good marking is a marking, with each base in exactly one place. Assumes that the net meets the sheet's rules.
use mathlib.Core.Path.{◌≡◌, refl, sym, ◌∙◌, ap}
use mathlib.Core.Bool.{Bool, true, false, not}
use mathlib.Core.List.{List, [], ◌∷◌}
use Prim.Native.Nat.{ℕ, suc, ◌<◌}
use native.Mathlib.Omega.{arith}
use lib.ListN.{get_or, length}
use Rattle.causal.specs.Lists.{Mem}
use Rattle.causal.proofs.Tests.{both}
use Rattle.net.specs.Tests.{all}
use Rattle.net.specs.Net.{Arcs, Marking, Net, has_bond, place, no_arcs, arcs_of}
use Rattle.net.specs.Rules.{net_rule}
use Rattle.net.specs.Marking.{Good}
use Rattle.net.specs.Firing.{broken_bond, breaks_none}
use Rattle.net.specs.Journal.{transition}
use Rattle.net.specs.declared.Bond.{Bond}
use Rattle.net.specs.declared.Entry.{Entry}
use Rattle.net.specs.declared.Transition.{Transition}
use Rattle.net.proofs.Tests.{fails, and_l, and_r, and_i, all-e, all-i, all-at}
use Rattle.net.proofs.Bonds.{has-mem, mem-has}
use Rattle.net.proofs.Moves.{Joins}
use Rattle.net.proofs.Rules.{fits}
use Rattle.published.specs.Sets.{Iff, Item, base, bond}
use Rattle.published.specs.Nets.{Known, Definition2, Pre, WellFormed}
use Rattle.published.specs.States.{IsMarking, EachInOnePlace}
use Rattle.published.specs.Uncoupling.{WellFormed20, Keeps}
use Rattle.published.specs.Sheets.{breaks_nothing, petri_net, marks_of}
use Rattle.published.proofs.Arcs.{one_each}

-- a test of every element, from each place of the list
all_of : {X : Type 0} (f : X → Bool) (xs : List X) (d : X) → ((n : ℕ) → n < length xs → f (get_or xs n d) ≡ true) → all f xs ≡ true
all_of f [] d h = refl
all_of f (x ∷ xs) d h = and_i (f x) (all f xs) (h 0 (omega arith)) (all_of f xs d (λ n k. h (suc n) (omega arith)))

-- ---- the arcs of one transition

-- a bond whose entries agree on a side is on one arc with its bases
ends_on : (side : Entry → ℕ) (t : Arcs) (x : ℕ) (β : Bond) (e d c : Entry) → ((y z : Entry) → Mem y t.entries → Mem z t.entries → y.base ≡ z.base → y ≡ z)
    → Joins t β e d → side e ≡ side d → Mem c t.entries → c.base ≡ β.lo → side c ≡ x → side d ≡ x
ends_on side t x β e d c one J q m b s = sym q ∙ ap side (one e c J.first m (J.lo ∙ sym b)) ∙ s

module _ (net : Net) (ok : net_rule net ≡ true) where
  taken-known : (x : ℕ) (t : Transition) (i : Item) → t.0 < length net.transitions → (petri_net net).takes x t i → (x < net.places) × Known (petri_net net) i
  taken-known x t (base a) h (u, e, m, b, q) = let F = fits net ok t h in (rw (← q) (F.from e m), rw (← b) (F.bases e m))
  taken-known x t (bond β) h (u, e, m, b, q) =
      let F = fits net ok t h in
      let (_, d, J, _) = F.ins β u in
      (rw (← q) (F.from e m), (F.low_in β u, rw (← J.hi) (F.bases d J.second)))

  put-known : (x : ℕ) (t : Transition) (i : Item) → t.0 < length net.transitions → (petri_net net).puts t x i → (x < net.places) × Known (petri_net net) i
  put-known x t (base a) h (u, e, m, b, q) = let F = fits net ok t h in (rw (← q) (F.to e m), rw (← b) (F.bases e m))
  put-known x t (bond β) h (u, e, m, b, q) =
      let F = fits net ok t h in
      let (_, d, J, _) = F.outs β u in
      (rw (← q) (F.to e m), (F.low β u, rw (← J.hi) (F.bases d J.second)))

  taken-ends : (x : ℕ) (t : Transition) (β : Bond) → t.0 < length net.transitions → (petri_net net).takes x t (bond β)
      → (petri_net net).takes x t (base β.lo) × (petri_net net).takes x t (base β.hi)
  taken-ends x t β h (u, c, m, b, q) =
      let (e, d, J, s) = (fits net ok t h).ins β u in
      ((tt, c, m, b, q), (tt, d, J.second, J.hi, ends_on (λ (y : Entry). y.from) (arcs_of net t) x β e d c (one_each net ok t h) J s m b q))

  put-ends : (x : ℕ) (t : Transition) (β : Bond) → t.0 < length net.transitions → (petri_net net).puts t x (bond β)
      → (petri_net net).puts t x (base β.lo) × (petri_net net).puts t x (base β.hi)
  put-ends x t β h (u, c, m, b, q) =
      let (e, d, J, s) = (fits net ok t h).outs β u in
      ((tt, c, m, b, q), (tt, d, J.second, J.hi, ends_on (λ (y : Entry). y.to) (arcs_of net t) x β e d c (one_each net ok t h) J s m b q))

  pub definition2 : Definition2 (petri_net net)
  definition2 = record {
    bases = (net.bases, λ k h. h);
    places = (net.places, λ k h. h);
    transitions = (length net.transitions, λ k h. h);
    bonds = λ β h. let a = h.0 in let b = h.1 in (omega arith, b);
    taken = taken-known;
    put = put-known;
    taken_ends = taken-ends;
    put_ends = put-ends;
  }

  once-put : (t : Transition) (x y : ℕ) (i : Item) → t.0 < length net.transitions → (petri_net net).puts t x i → (petri_net net).puts t y i → x ≡ y
  once-put t x y i h (u, e, m, b, q) (v, d, n, c, r) = sym q ∙ ap (λ (z : Entry). z.to) (one_each net ok t h e d m n (b ∙ sym c)) ∙ r

  pub well-formed20 : WellFormed20 (petri_net net)
  well-formed20 = record {
    same_bases = λ t a h. (
      (λ (x, k, (u, e, m, b, q)). (e.to, (fits net ok t h).to e m, (tt, e, m, b, refl))),
      (λ (x, k, (u, e, m, b, q)). (e.from, (fits net ok t h).from e m, (tt, e, m, b, refl))),
    );
    once_put = λ t x y i h _ _ ne u v. ne (once-put t x y i h u v);
  }

  -- ---- Definition 3(2)

  pub in-pre : (t : Transition) → t.0 < length net.transitions → (β : Bond) → has_bond β (arcs_of net t).in_bonds ≡ true → Pre (petri_net net) t (bond β)
  in-pre t h β i = let F = fits net ok t h in let (e, d, J, _) = F.ins β i in (e.from, F.from e J.first, (i, e, J.first, J.lo, refl))

  -- a transition that keeps its bonds breaks none
  pub unbroken : (t : Transition) → t.0 < length net.transitions → Keeps (petri_net net) t → (β : Bond) → broken_bond (arcs_of net t) β ≡ false
  unbroken t h K β = fails (broken_bond (arcs_of net t) β) (λ k.
      let i : has_bond β (arcs_of net t).in_bonds ≡ true = and_l (has_bond β (arcs_of net t).in_bonds) (not (has_bond β (arcs_of net t).out_bonds)) k in
      let (_, _, (o, _, _, _, _)) = K β (in-pre t h β i) in
      both (not (has_bond β (arcs_of net t).out_bonds)) (and_r (has_bond β (arcs_of net t).in_bonds) (not (has_bond β (arcs_of net t).out_bonds)) k) (ap not o))

  pub none-broken : WellFormed (petri_net net) → (t : Transition) → t.0 < length net.transitions → (β : Bond) → broken_bond (arcs_of net t) β ≡ false
  none-broken W t h = unbroken t h (λ β. W.kept_bonds t β h)

  pub keeps-iff : (t : Transition) → t.0 < length net.transitions → Iff (Keeps (petri_net net) t) (breaks_none (arcs_of net t) ≡ true)
  keeps-iff t h = (
    (λ K. all-i (λ (β : Bond). has_bond β (arcs_of net t).out_bonds) (arcs_of net t).in_bonds (λ β m. (K β (in-pre t h β (mem-has (arcs_of net t).in_bonds β m))).2.0)),
    (λ k β (x, _, (u, e, m, b, q)).
        let out : has_bond β (arcs_of net t).out_bonds ≡ true = all-e (λ (c : Bond). has_bond c (arcs_of net t).out_bonds) (arcs_of net t).in_bonds k β (has-mem (arcs_of net t).in_bonds β u) in
        (e.to, (fits net ok t h).to e m, (out, e, m, b, refl))),
  )

  pub well-formed-iff : Iff (WellFormed (petri_net net)) (breaks_nothing net ≡ true)
  well-formed-iff = (
    (λ W. all_of breaks_none net.transitions no_arcs (λ n h. (keeps-iff (transition n) h).0 (λ β. W.kept_bonds (transition n) β h))),
    (λ w. record {
      same_bases = well-formed20.same_bases;
      kept_bonds = λ t β h. (keeps-iff t h).1 (all-at breaks_none net.transitions no_arcs t.0 w h) β;
      once_put = well-formed20.once_put;
    }),
  )

-- ---- a good marking

module _ (net : Net) (s : Marking) (G : Good net s) where
  marks-known : (x : ℕ) (i : Item) → marks_of net s x i → (x < net.places) × Known (petri_net net) i
  marks-known x (base a) (u, q) = (rw (← q) (G.within a u), u)
  marks-known x (bond β) (u, q) = let r = G.range β u in let a = r.0 in let b = r.1 in (rw (← q) (G.within β.lo (omega arith)), r)

  pub is-marking : IsMarking (petri_net net) (marks_of net s)
  is-marking = record {
    known = marks-known;
    ends = λ x β (u, q). let r = G.range β u in let a = r.0 in let b = r.1 in ((omega arith, q), (b, sym (G.share β u) ∙ q));
  }

  pub each-in-one-place : EachInOnePlace (petri_net net) (marks_of net s)
  each-in-one-place a h = (place s a, (h, refl), λ y (_, q). sym q)
