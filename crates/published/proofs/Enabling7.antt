-- None of 12 to 16 holds exactly where the transition is enabled by Definition 21 as the customer has it (`Enabled7`), whether
-- it breaks a bond or not. Assumes that the net meets the sheet's rules, and a good marking.
use mathlib.Core.Path.{◌≡◌, refl, sym, ◌∙◌, ap}
use mathlib.Core.Logic.{◌⊎◌, inl, inr}
use mathlib.Core.Bool.{true, false}
use mathlib.Core.List.{List}
use Prim.Native.Nat.{ℕ, ◌<◌}
use lib.Dec.{eqb}
use lib.ListN.{length}
use borrow.Author.Tests.{eqb-true, eq-eqb, lt-leb}
use Rattle.causal.specs.Lists.{Mem}
use Rattle.causal.proofs.Tests.{test, both}
use Rattle.net.specs.Tests.{any}
use Rattle.net.specs.Net.{Arcs, Marking, Net, has_bond, place, arcs_of}
use Rattle.net.specs.Net as N
use Rattle.net.specs.Rules.{net_rule}
use Rattle.net.specs.Connection.{bonded, Leads, here, along}
use Rattle.net.specs.Marking.{Good}
use Rattle.net.specs.Firing.{bonds_seen, torn_apart}
use Rattle.net.specs.Checks.{clear}
use Rattle.net.specs.Journal.{enable_checks}
use Rattle.net.specs.declared.Bond.{Bond}
use Rattle.net.specs.declared.Entry.{Entry}
use Rattle.net.specs.declared.Transition.{Transition}
use Rattle.net.proofs.Tests.{fails, or-e, or_l, or_r, any-e, any-no}
use Rattle.net.proofs.Connection.{leads-trans, connected-leads, leads-connected}
use Rattle.net.proofs.Moves.{Fit}
use Rattle.net.proofs.Uncoupling.{torn-no, no-torn}
use Rattle.net.proofs.Rules.{fits}
use Rattle.net.proofs.Journal.{enabled-fires}
use Rattle.published.specs.Sets.{Iff, base, bond}
use Rattle.published.specs.States.{Con}
use Rattle.published.specs.Uncoupling.{exchanged, Enabled7, Separate, Enabled21}
use Rattle.published.specs.Sheets.{petri_net, marks_of}
use Rattle.published.proofs.Components.{con-led, led-con, leads-place, leads-below}
use Rattle.published.proofs.Exchange.{rest, rest-e, rest-i, wider}
use Rattle.published.proofs.Enabling.{Ready, entry-incoming, home, ready-13, ready-14, ready-15, checks-ready}
use Rattle.published.proofs.Firing22.{after-out, after-stay, after-from}
use Rattle.published.proofs.Nets.{in-pre}

module _ (net : Net) (ok : net_rule net ≡ true) (s : Marking) (G : Good net s) (t : Transition) (h : t.0 < length net.transitions) where
  abbrev a : Arcs
  a = arcs_of net t

  F : Fit net (arcs_of net t)
  F = fits net ok t h

  -- ---- from 16 to 21(3)

  exchanged-after : (x : ℕ) (β : Bond) → exchanged (petri_net net) (marks_of net s) t x (bond β) → has_bond β (bonds_seen a s.bonds) ≡ true
  exchanged-after x β (inl ((u, q), out)) = after-stay a s.bonds β u (fails (has_bond β a.in_bonds) (λ k. out (in-pre net ok t h β k)))
  exchanged-after x β (inr (_, _, (o, _, _, _, _))) = after-out a s.bonds β o

  together : torn_apart a s ≡ false → (b c y z : ℕ) → (petri_net net).puts t y (base b) → (petri_net net).puts t z (base c) → (x : ℕ) → Con c (exchanged (petri_net net) (marks_of net s) t x) (base b) → y ≡ z
  together r16 b c y z (_, e, m, p, q) (_, d, n, r, w) x k =
      let (_, l) = con-led (exchanged (petri_net net) (marks_of net s) t x) (bonds_seen a s.bonds) (exchanged-after x) c (base b) k in
      let l' : Leads (bonds_seen a s.bonds) d.base e.base = rw (p, r) l in
      sym q ∙ sym (torn-no a (bonds_seen a s.bonds) r16 d e n m (leads-connected (bonds_seen a s.bonds) d.base e.base l')) ∙ w

  -- ---- and back: a chain by the bonds after the firing, cut at its out-bonds

  module _ (D : Enabled7 (petri_net net) (marks_of net s) t) where
    ready : Ready (petri_net net) (marks_of net s) t
    ready = record { bases = D.bases; bonds = D.bonds; fresh = D.fresh }

    abbrev stays : List Bond
    stays = rest (arcs_of net t).in_bonds s

    rest-before : {p q : ℕ} → Leads stays p q → Leads s.bonds p q
    rest-before l = wider a.in_bonds s s.bonds (λ β k. (rest-e a.in_bonds s β k).0) l

    module _ (e : Entry) (m : Mem e (arcs_of net t).entries) where
      base_there : (p : ℕ) → Leads stays e.base p → exchanged (petri_net net) (marks_of net s) t e.from (base p)
      base_there p l = test (any (λ (d : Entry). eqb d.base p) a.entries)
          (λ k. let (d, n, q) = any-e (λ (c : Entry). eqb c.base p) a.entries k in inr (d.to, F.to d n, (tt, d, n, eqb-true d.base p q, refl)))
          (λ k. inl (
            (leads-below net s G (rest-before l) (F.bases e m), sym (leads-place net s G (rest-before l)) ∙ home net ok s G t h ready e m),
            λ (_, _, (_, d, n, b, _)). both (eqb d.base p) (eq-eqb d.base p b) (any-no (λ (c : Entry). eqb c.base p) a.entries k d n),
          ))

      bond-there : (β : Bond) → has_bond β stays ≡ true → Leads stays e.base β.lo → exchanged (petri_net net) (marks_of net s) t e.from (bond β)
      bond-there β k l =
          let (u, v) = rest-e a.in_bonds s β k in
          inl ((u, sym (leads-place net s G (rest-before l)) ∙ home net ok s G t h ready e m), λ (_, _, (i, _, _, _, _)). both (has_bond β a.in_bonds) i v)

      -- entries that the bonds that stay connect have one out-place
      one_out : (d : Entry) → Mem d a.entries → Leads stays e.base d.base → e.to ≡ d.to
      one_out d n l = test (eqb d.to e.to) (λ k. sym (eqb-true d.to e.to k)) (λ k. absurd (
          D.apart d.base e.base d.to e.to (tt, d, n, refl, refl) (tt, e, m, refl, refl) (λ q. both (eqb d.to e.to) (eq-eqb d.to e.to q) k)
          e.from (entry-incoming net ok s G t h e m) (led-con (exchanged (petri_net net) (marks_of net s) t e.from) stays (λ p. Leads stays e.base p) base_there bond-there
          (λ p q o c. leads-trans o (along c (here refl))) e.base (base d.base) (here refl) tt l)))

    module _ (e : Entry) (m : Mem e (arcs_of net t).entries) where
      -- p is led to from an entry of e's out-place, by the bonds that stay
      abbrev Near : ℕ → Type 0
      Near p = (d : Entry) × Mem d (arcs_of net t).entries × Leads stays d.base p × (e.to ≡ d.to)

      near-out : (p q : ℕ) → Near p → (x y : Entry) → Mem x a.entries → Mem y a.entries → x.base ≡ p → y.base ≡ q → x.to ≡ y.to → Near q
      near-out p q (d, n, l, w) x y k o b c same = (y, o, here c, w ∙ one_out d n x k (rw b l) ∙ same)

      near-stay : (p q : ℕ) → Near p → bonded stays p q ≡ true → Near q
      near-stay p q (d, n, l, w) c = (d, n, leads-trans l (along c (here refl)), w)

      near_step : (p q : ℕ) → Near p → bonded (bonds_seen a s.bonds) p q ≡ true → Near q
      near_step p q n c = go (or-e (has_bond (N.bond p q) (bonds_seen a s.bonds)) (has_bond (N.bond q p) (bonds_seen a s.bonds)) c)
        where
          first : (has_bond (N.bond p q) a.out_bonds ≡ true) ⊎ ((has_bond (N.bond p q) s.bonds ≡ true) × (has_bond (N.bond p q) a.in_bonds ≡ false)) → Near q
          first (inl o) = let (x, y, J, w) = F.outs (N.bond p q) o in near-out p q n x y J.first J.second J.lo J.hi w
          first (inr (u, v)) = near-stay p q n (or_l (has_bond (N.bond p q) stays) (has_bond (N.bond q p) stays) (rest-i a.in_bonds s (N.bond p q) u v))

          second : (has_bond (N.bond q p) a.out_bonds ≡ true) ⊎ ((has_bond (N.bond q p) s.bonds ≡ true) × (has_bond (N.bond q p) a.in_bonds ≡ false)) → Near q
          second (inl o) = let (x, y, J, w) = F.outs (N.bond q p) o in near-out p q n y x J.second J.first J.hi J.lo (sym w)
          second (inr (u, v)) = near-stay p q n (or_r (has_bond (N.bond p q) stays) (has_bond (N.bond q p) stays) (rest-i a.in_bonds s (N.bond q p) u v))

          go : (has_bond (N.bond p q) (bonds_seen a s.bonds) ≡ true) ⊎ (has_bond (N.bond q p) (bonds_seen a s.bonds) ≡ true) → Near q
          go (inl k) = first (after-from a s.bonds (N.bond p q) k)
          go (inr k) = second (after-from a s.bonds (N.bond q p) k)

      near : {p q : ℕ} → Leads (bonds_seen a s.bonds) p q → Near p → Near q
      near (here k) (d, n, l, w) = (d, n, rw k at l, w)
      near (along {p = p} {r = r} c l) n = near l (near_step p r n c)

    ready-16 : torn_apart a s ≡ false
    ready-16 = no-torn a (bonds_seen a s.bonds) (λ e d m n c.
        let (x, o, l, w) = near e m (connected-leads (bonds_seen a s.bonds) e.base d.base c) (e, m, here refl, refl) in
        w ∙ one_out x o d n l)

  -- ---- Definition 21 itself

  -- 4(4) follows from 21(1) and 21(2)
  separate-fresh : Enabled21 (petri_net net) (marks_of net s) t → (β : Bond) (x y : ℕ) → (petri_net net).puts t x (bond β) → marks_of net s y (bond β) → (petri_net net).takes y t (bond β)
  separate-fresh D β x y (o, _, _, _, _) (u, q) =
      let (e, d, J, _) = F.outs β o in
      let at : (c : Entry) → Mem c a.entries → place s c.base ≡ c.from = λ c n. (D.bases c.base c.from (entry-incoming net ok s G t h c n) (tt, c, n, refl, refl)).1 in
      let low : e.from ≡ y = sym (at e J.first) ∙ ap (place s) J.lo ∙ q in
      let high : d.from ≡ y = sym (at d J.second) ∙ ap (place s) J.hi ∙ sym (G.share β u) ∙ q in
      D.separate β y (rw (← low) (F.from e J.first), base e.base, (tt, e, J.first, refl, low)) (tt, e, J.first, J.lo, low) (tt, d, J.second, J.hi, high) (u, q)

  pub enabled21-iff : Iff (Enabled21 (petri_net net) (marks_of net s) t) (Enabled7 (petri_net net) (marks_of net s) t × Separate (petri_net net) (marks_of net s) t)
  enabled21-iff = (
    (λ D. (record { bases = D.bases; bonds = D.bonds; fresh = λ β x y _ p _ k. separate-fresh D β x y p k; apart = D.apart }, D.separate)),
    (λ (D, two). record { bases = D.bases; bonds = D.bonds; separate = two; apart = D.apart }),
  )

module _ (net : Net) (ok : net_rule net ≡ true) (s : Marking) (G : Good net s) (t : Transition) where
  pub enabled7-iff : Iff (clear (enable_checks net s t) ≡ true) ((petri_net net).is_transition t × Enabled7 (petri_net net) (marks_of net s) t)
  enabled7-iff = (
    (λ k.
        let f = enabled-fires net s t k in
        let D = checks-ready net ok s G t f.listed f.placed f.present f.absent in
        (f.listed, record { bases = D.bases; bonds = D.bonds; fresh = D.fresh; apart = λ b c y z p q ne x _ w. ne (together net ok s G t f.listed f.together b c y z p q x w) })),
    (λ (h, D).
        let R = ready net ok s G t h D in
        rw (lt-leb (length net.transitions) t.0 h, ready-13 net ok s G t h R, ready-14 net ok s G t h R, ready-15 net ok s G t h R, ready-16 net ok s G t h D)),
  )
