-- The local laws of one step (causal's `Laws`), for firing and taking back as document 01 has them.
-- Assumes what the rules give of each transition on the sheet (`Fit`).
use mathlib.Core.Path.{◌≡◌, refl, sym, ◌∙◌, subst⁻¹}
use mathlib.Core.Logic.{◌⊎◌, inl, inr}
use mathlib.Core.Bool.{Bool, true, false, and-true}
use mathlib.Core.List.{List}
use Prim.Native.Nat.{ℕ, ◌<◌}
use lib.ListN.{length}
use lib.Seq.{ext_get_or}
use Rattle.causal.specs.Runs.{Laws}
use Rattle.causal.proofs.Tests.{both}
use Rattle.net.specs.Net.{Arcs, Marking, Net, bond, same_bond, less_bond, has_bond, place, arcs_of}
use Rattle.net.specs.Marking.{Good}
use Rattle.net.specs.Firing.{in_set, moves, bonds_seen, fire, undo, Fires}
use Rattle.net.specs.declared.Bond.{Bond}
use Rattle.net.specs.declared.Entry.{Entry}
use Rattle.net.specs.declared.Transition.{Transition}
use Rattle.net.proofs.Tests.{fails}
use Rattle.net.proofs.Sorted.{ascending-ext}
use Rattle.net.proofs.Bonds.{bond-order}
use Rattle.net.proofs.Moves.{sent-none, Fit, view, see, seen-place, seen_first, mem-moved, in-moves, out-moves}
use Rattle.net.proofs.Change.{none_after}
use Rattle.net.proofs.Fire.{place-fire, has-fire, fire-good, misplaced-like, bond_absent-like, bond_present-like, torn_apart-like, moved-like, fire-like}
use Rattle.net.proofs.Undo.{undo-good, undo-on, undo-off}

module _ (net : Net) (fits : (t : Transition) → t.0 < length net.transitions → Fit net (arcs_of net t)) where
  law-ext : (s z : Marking) → Good net s → Good net z → ((p : ℕ) → view s p ≡ view z p) → s ≡ z
  law-ext s z g h e =
      let ps : s.places ≡ z.places = ext_get_or 0 s.places z.places (g.size ∙ sym h.size) (λ i _. seen-place s z i (e i)) in
      let bs : s.bonds ≡ z.bonds = ascending-ext same_bond less_bond bond-order s.bonds z.bonds g.order h.order (λ b. seen_first s z b.lo (e b.lo) b.hi) in
      λ i. record { places = ps i; bonds = bs i }

  law-good : {s z : Marking} {a : Transition} {m : List Bool} → Good net s → Fires net s a m z → Good net z
  law-good {s} {z} {a} g f = rw f.gives (fire-good net s g (arcs_of net a) (fits a f.listed))

  law-frame : {s z : Marking} {a : Transition} {m : List Bool} → Good net s → Fires net s a m z → (p : ℕ) → in_set m p ≡ false → view s p ≡ view z p
  law-frame {s} {z} {a} {m} g f p h =
      let t : Arcs = arcs_of net a in
      let F : Fit net t = fits a f.listed in
      let off : moves s.bonds t.entries p ≡ false = sym (mem-moved net s g t F p) ∙ rw (← f.moves_m) h in
      let no-out : (b : Bond) → (b.lo ≡ p) ⊎ (b.hi ≡ p) → has_bond b t.out_bonds ≡ false = λ b k. fails (has_bond b t.out_bonds) (λ x. ends b (out-moves net s g t F b x) off k) in
      let no-in : (b : Bond) → (b.lo ≡ p) ⊎ (b.hi ≡ p) → has_bond b t.in_bonds ≡ false = λ b k. fails (has_bond b t.in_bonds) (λ x. ends b (in-moves net s g t F b x) off k) in
      rw f.gives (see s (fire net.bases t s) p
      (sym (place-fire net s g t F p ∙ sent-none (λ (e : Entry). e.to) (bonds_seen t s.bonds) t.entries p (place s p) (none_after net s g t F p off)))
      (λ q. sym (has-fire net s g t F (bond p q) ∙ rw (no-out (bond p q) (inl refl), no-in (bond p q) (inl refl)) (and-true (has_bond (bond p q) s.bonds))))
      (λ q. sym (has-fire net s g t F (bond q p) ∙ rw (no-out (bond q p) (inr refl), no-in (bond q p) (inr refl)) (and-true (has_bond (bond q p) s.bonds)))))
    where
      ends : (b : Bond) → (moves s.bonds (arcs_of net a).entries b.lo ≡ true) × (moves s.bonds (arcs_of net a).entries b.hi ≡ true) → moves s.bonds (arcs_of net a).entries p ≡ false
          → (b.lo ≡ p) ⊎ (b.hi ≡ p) → ⊥
      ends b m o (inl e) = both (moves s.bonds (arcs_of net a).entries p) (rw e at m.0) o
      ends b m o (inr e) = both (moves s.bonds (arcs_of net a).entries p) (rw e at m.1) o

  law-local : {s z s' : Marking} {a : Transition} {m : List Bool} → Good net s → Good net s' → Fires net s a m z → ((p : ℕ) → in_set m p ≡ true → view s p ≡ view s' p)
      → (z' : Marking) × Fires net s' a m z' × ((p : ℕ) → in_set m p ≡ true → view z p ≡ view z' p)
  law-local {s} {z} {s'} {a} {m} g g' f like =
      let t : Arcs = arcs_of net a in
      let F : Fit net t = fits a f.listed in
      let on : (p : ℕ) → in_set m p ≡ moves s.bonds t.entries p = λ p. rw f.moves_m (mem-moved net s g t F p) in
      let like' : (p : ℕ) → moves s.bonds t.entries p ≡ true → view s p ≡ view s' p = λ p h. like p (on p ∙ h) in (
        fire net.bases t s',
        record {
          listed = f.listed;
          placed = sym (misplaced-like net s g s' t F like') ∙ f.placed;
          present = sym (bond_absent-like net s g s' t F like') ∙ f.present;
          absent = sym (bond_present-like net s g s' t F like') ∙ f.absent;
          together = sym (torn_apart-like net s g s' t F like') ∙ f.together;
          moves_m = f.moves_m ∙ moved-like net s g s' t F like';
          gives = refl;
        },
        λ p h. rw f.gives (fire-like net s g s' t F like' g' p (sym (on p) ∙ h)),
      )

  law-back : {s z z' : Marking} {a : Transition} {m : List Bool} → Good net s → Good net z' → Fires net s a m z → ((p : ℕ) → in_set m p ≡ true → view z p ≡ view z' p)
      → Good net (undo net.bases (arcs_of net a) m z') × ((p : ℕ) → in_set m p ≡ true → view s p ≡ view (undo net.bases (arcs_of net a) m z') p)
      × ((p : ℕ) → in_set m p ≡ false → view z' p ≡ view (undo net.bases (arcs_of net a) m z') p)
  law-back {s} {z} {z'} {a} {m} g g' f like =
      let t : Arcs = arcs_of net a in
      let F : Fit net t = fits a f.listed in
      let on : (p : ℕ) → in_set m p ≡ moves s.bonds t.entries p = λ p. rw f.moves_m (mem-moved net s g t F p) in
      let like' : (p : ℕ) → moves s.bonds t.entries p ≡ true → view (fire net.bases t s) p ≡ view z' p = λ p h. rw f.gives at (like p (on p ∙ h)) in
      subst⁻¹ (λ (k : List Bool). Good net (undo net.bases t k z') × ((p : ℕ) → in_set k p ≡ true → view s p ≡ view (undo net.bases t k z') p) × ((p : ℕ) → in_set k p ≡ false → view z' p ≡ view (undo net.bases t k z') p))
      f.moves_m (
        undo-good net s g t F f.placed f.present f.absent z' g' like',
        (λ p h. undo-on net s g t F f.placed f.present f.absent z' g' like' p (sym (mem-moved net s g t F p) ∙ h)),
        λ p h. undo-off net s g t F f.placed f.present f.absent z' g' like' p (sym (mem-moved net s g t F p) ∙ h),
      )

  pub laws : Laws in_set view (Good net) (Fires net) (λ s a m. undo net.bases (arcs_of net a) m s)
  laws = record { ext = law-ext; good = law-good; frame = law-frame; local = law-local; back = law-back }
