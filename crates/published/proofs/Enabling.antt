-- None of 12 to 16 holds exactly where the transition is forward-enabled by Definition 4, if it breaks no bond; and 13 to 15
-- by what Definitions 4 and 21 have in common. Assumes that the net meets the sheet's rules, and a good marking.
use mathlib.Core.Path.{◌≡◌, refl, sym, ◌∙◌, ap}
use mathlib.Core.Bool.{true, false, not, ◌&&◌}
use Prim.Native.Nat.{ℕ, ◌<◌}
use lib.Dec.{eqb}
use lib.ListN.{length}
use borrow.Author.Tests.{eqb-true, eq-eqb, lt-leb, not-true, not-false}
use Rattle.causal.specs.Lists.{Mem}
use Rattle.causal.proofs.Tests.{test, both}
use Rattle.net.specs.Net.{Arcs, Marking, Net, has_bond, place, arcs_of}
use Rattle.net.specs.Rules.{net_rule}
use Rattle.net.specs.Marking.{Good}
use Rattle.net.specs.Firing.{broken_bond, misplaced, bond_absent, bond_present, torn_apart}
use Rattle.net.specs.Checks.{clear}
use Rattle.net.specs.Journal.{enable_checks}
use Rattle.net.specs.declared.Bond.{Bond}
use Rattle.net.specs.declared.Entry.{Entry}
use Rattle.net.specs.declared.Transition.{Transition}
use Rattle.net.proofs.Tests.{fails, and_l, and_r, any-e, any-no}
use Rattle.net.proofs.Bonds.{has-mem, mem-has}
use Rattle.net.proofs.Connection.{connected-leads, leads-connected}
use Rattle.net.proofs.Uncoupling.{torn-no, no-torn, kept-torn}
use Rattle.net.proofs.Rules.{fits}
use Rattle.net.proofs.Journal.{enabled-fires}
use Rattle.published.specs.Sets.{Iff, base, bond}
use Rattle.published.specs.Nets.{PetriNet, Incoming, Outgoing}
use Rattle.published.specs.States.{Marks, Con}
use Rattle.published.specs.Forward.{Enabled}
use Rattle.published.specs.Sheets.{petri_net, marks_of}
use Rattle.published.proofs.Components.{con-leads, leads-con}

-- what 13 says of an entry: its base is at the in-place
pub at_home : (t : Arcs) (s : Marking) → misplaced t s ≡ false → (e : Entry) → Mem e t.entries → place s e.base ≡ e.from
at_home t s r e m = eqb-true (place s e.base) e.from
    (not-false (eqb (place s e.base) e.from) (any-no (λ (d : Entry). not (eqb (place s d.base) d.from)) t.entries r e m))

-- 4(1), 4(2) and 4(4); the first two are 21(1)
pub record Ready (N : PetriNet) (M : Marks) (t : Transition) : Type 0 where
  pub bases : (a x : ℕ) → Incoming N t x → N.takes x t (base a) → M x (base a)
  pub bonds : (β : Bond) (x : ℕ) → Incoming N t x → N.takes x t (bond β) → M x (bond β)
  pub fresh : (β : Bond) (x y : ℕ) → Outgoing N t x → N.puts t x (bond β) → Incoming N t y → M y (bond β) → N.takes y t (bond β)

ready-4 : {N : PetriNet} {M : Marks} {t : Transition} → Enabled N M t → Ready N M t
ready-4 D = record { bases = D.bases; bonds = D.bonds; fresh = D.fresh }

module _ (net : Net) (ok : net_rule net ≡ true) (s : Marking) (G : Good net s) (t : Transition) (h : t.0 < length net.transitions) where
  pub entry-incoming : (e : Entry) → Mem e (arcs_of net t).entries → Incoming (petri_net net) t e.from
  entry-incoming e m = ((fits net ok t h).from e m, base e.base, (tt, e, m, refl, refl))

  pub entry-outgoing : (e : Entry) → Mem e (arcs_of net t).entries → Outgoing (petri_net net) t e.to
  entry-outgoing e m = ((fits net ok t h).to e m, base e.base, (tt, e, m, refl, refl))

  -- ---- 13 to 15 by what Definitions 4 and 21 have in common

  module _ (D : Ready (petri_net net) (marks_of net s) t) where
    pub home : (e : Entry) → Mem e (arcs_of net t).entries → place s e.base ≡ e.from
    home e m = (D.bases e.base e.from (entry-incoming e m) (tt, e, m, refl, refl)).1

    pub ready-13 : misplaced (arcs_of net t) s ≡ false
    ready-13 = fails (misplaced (arcs_of net t) s) (λ k.
        let (e, m, p) = any-e (λ (d : Entry). not (eqb (place s d.base) d.from)) (arcs_of net t).entries k in
        both (eqb (place s e.base) e.from) (eq-eqb (place s e.base) e.from (home e m)) (not-true (eqb (place s e.base) e.from) p))

    pub ready-14 : bond_absent (arcs_of net t) s ≡ false
    ready-14 = fails (bond_absent (arcs_of net t) s) (λ k.
        let (β, m, p) = any-e (λ (c : Bond). not (has_bond c s.bonds)) (arcs_of net t).in_bonds k in
        let u : has_bond β (arcs_of net t).in_bonds ≡ true = mem-has (arcs_of net t).in_bonds β m in
        let (e, d, J, _) = (fits net ok t h).ins β u in
        both (has_bond β s.bonds) (D.bonds β e.from (entry-incoming e J.first) (u, e, J.first, J.lo, refl)).0 (not-true (has_bond β s.bonds) p))

    pub ready-15 : bond_present (arcs_of net t) s ≡ false
    ready-15 = fails (bond_present (arcs_of net t) s) (λ k.
        let (β, m, p) = any-e (λ (c : Bond). not (has_bond c (arcs_of net t).in_bonds) && has_bond c s.bonds) (arcs_of net t).out_bonds k in
        let u : has_bond β (arcs_of net t).out_bonds ≡ true = mem-has (arcs_of net t).out_bonds β m in
        let (e, d, J, _) = (fits net ok t h).outs β u in
        let r : has_bond β s.bonds ≡ true = and_r (not (has_bond β (arcs_of net t).in_bonds)) (has_bond β s.bonds) p in
        both (has_bond β (arcs_of net t).in_bonds)
        (D.fresh β e.to e.from (entry-outgoing e J.first) (u, e, J.first, J.lo, refl) (entry-incoming e J.first) (r, ap (place s) (sym J.lo) ∙ home e J.first)).0
        (not-true (has_bond β (arcs_of net t).in_bonds) (and_l (not (has_bond β (arcs_of net t).in_bonds)) (has_bond β s.bonds) p)))

  module _ (r13 : misplaced (arcs_of net t) s ≡ false) (r14 : bond_absent (arcs_of net t) s ≡ false) (r15 : bond_present (arcs_of net t) s ≡ false) where
    has_base : (a x : ℕ) → (petri_net net).takes x t (base a) → marks_of net s x (base a)
    has_base a x (u, e, m, b, q) = rw (← b) ((fits net ok t h).bases e m, at_home (arcs_of net t) s r13 e m ∙ q)

    has-bond : (β : Bond) (x : ℕ) → (petri_net net).takes x t (bond β) → marks_of net s x (bond β)
    has-bond β x (u, e, m, b, q) = (
      not-false (has_bond β s.bonds) (any-no (λ (c : Bond). not (has_bond c s.bonds)) (arcs_of net t).in_bonds r14 β (has-mem (arcs_of net t).in_bonds β u)),
      ap (place s) (sym b) ∙ at_home (arcs_of net t) s r13 e m ∙ q,
    )

    in-bond : (β : Bond) (x y : ℕ) → (petri_net net).puts t x (bond β) → marks_of net s y (bond β) → (petri_net net).takes y t (bond β)
    in-bond β x y (u, e, m, b, q) (k, r) = (
      test (has_bond β (arcs_of net t).in_bonds) (λ i. i) (λ i. both (not (has_bond β (arcs_of net t).in_bonds) && has_bond β s.bonds) (rw (i, k))
          (any-no (λ (c : Bond). not (has_bond c (arcs_of net t).in_bonds) && has_bond c s.bonds) (arcs_of net t).out_bonds r15 β (has-mem (arcs_of net t).out_bonds β u))),
      e,
      m,
      b,
      sym (at_home (arcs_of net t) s r13 e m) ∙ ap (place s) b ∙ r,
    )

    pub checks-ready : Ready (petri_net net) (marks_of net s) t
    checks-ready = record { bases = λ a x _ k. has_base a x k; bonds = λ β x _ k. has-bond β x k; fresh = λ β x y _ k _ m. in-bond β x y k m }

  -- ---- 16 by Definition 4(3), for a transition that breaks nothing

  module _ (unbroken : (β : Bond) → broken_bond (arcs_of net t) β ≡ false) where
    enabled-16 : Enabled (petri_net net) (marks_of net s) t → torn_apart (arcs_of net t) s ≡ false
    enabled-16 D = kept-torn (arcs_of net t) unbroken net (fits net ok t h) s ∙ no-torn (arcs_of net t) s.bonds (λ e d m n c.
        let F = fits net ok t h in
        let at : (x : Entry) → Mem x (arcs_of net t).entries → place s x.base ≡ x.from = home (ready-4 D) in
        test (eqb e.to d.to) (eqb-true e.to d.to) (λ r. absurd (
        D.apart e.base d.base e.to d.to (tt, e, m, refl, refl) (tt, d, n, refl, refl) (λ q. both (eqb e.to d.to) (eq-eqb e.to d.to q) r)
        e.from (entry-incoming e m) (leads-con net s G e.from e.base (base d.base) (F.bases e m) (at e m) (F.bases d n) (connected-leads s.bonds e.base d.base c)))))

    kept-together : torn_apart (arcs_of net t) s ≡ false → (a b y z : ℕ) → (petri_net net).puts t y (base a) → (petri_net net).puts t z (base b) → (x : ℕ) → Con a (marks_of net s x) (base b) → y ≡ z
    kept-together r16 a b y z (_, e, m, p, q) (_, d, n, r, w) x c =
        let (_, _, _, l) = con-leads net s G x a (base b) c in
        sym q ∙ torn-no (arcs_of net t) s.bonds (sym (kept-torn (arcs_of net t) unbroken net (fits net ok t h) s) ∙ r16) e d m n (leads-connected s.bonds e.base d.base (rw (p, r) l)) ∙ w

    checks-enabled : misplaced (arcs_of net t) s ≡ false → bond_absent (arcs_of net t) s ≡ false → bond_present (arcs_of net t) s ≡ false → torn_apart (arcs_of net t) s ≡ false
        → Enabled (petri_net net) (marks_of net s) t
    checks-enabled r13 r14 r15 r16 =
        let D = checks-ready r13 r14 r15 in
        record { bases = D.bases; bonds = D.bonds; apart = λ a b y z k l ne x _ c. ne (kept-together r16 a b y z k l x c); fresh = D.fresh }

module _ (net : Net) (ok : net_rule net ≡ true) (s : Marking) (G : Good net s) (t : Transition) (unbroken : t.0 < length net.transitions → (β : Bond) → broken_bond (arcs_of net t) β ≡ false) where
  pub enabled-iff : Iff (clear (enable_checks net s t) ≡ true) ((petri_net net).is_transition t × Enabled (petri_net net) (marks_of net s) t)
  enabled-iff = (
    (λ k. let f = enabled-fires net s t k in (f.listed, checks-enabled net ok s G t f.listed (unbroken f.listed) f.placed f.present f.absent f.together)),
    (λ (h, D).
        let R = ready-4 D in
        rw (lt-leb (length net.transitions) t.0 h, ready-13 net ok s G t h R, ready-14 net ok s G t h R, ready-15 net ok s G t h R, enabled-16 net ok s G t h (unbroken h) D)),
  )
