-- Lines of a forward run from the start, and so of a journal that a session can reach: each was fired from a good marking; where
-- no later line has a common base, its moved bases look as the firing left them; and where no step breaks a bond, they are
-- still led to from its entries. Assumes that the net meets the sheet's rules.
use mathlib.Core.Path.{◌≡◌, refl, sym, ◌∙◌, ap}
use mathlib.Core.Logic.{◌⊎◌, inl, inr}
use mathlib.Core.Bool.{Bool, true, false, not, ◌&&◌}
use mathlib.Core.List.{List, [], ◌∷◌, ◌++◌}
use Prim.Native.Nat.{ℕ, ◌<◌}
use lib.ListN.{length}
use Rattle.causal.specs.Lists.{Mem}
use Rattle.causal.specs.Reorderings.{IndependentOfAll}
use Rattle.causal.specs.Runs.{Run}
use Rattle.causal.proofs.Lists.{mem-split}
use Rattle.causal.proofs.Runs.{run-split, shift, run-good}
use Rattle.net.specs.Net.{Marking, Net, has_bond, arcs_of}
use Rattle.net.specs.Net as N
use Rattle.net.specs.Rules.{net_rule}
use Rattle.net.specs.Connection.{bonded, Leads, here, along}
use Rattle.net.specs.Marking.{Good}
use Rattle.net.specs.Firing.{in_set, moves, broken_bond, undo, Fires}
use Rattle.net.specs.Journal.{LiveLine, Journal}
use Rattle.net.specs.declared.Bond.{Bond}
use Rattle.net.specs.declared.Entry.{Entry}
use Rattle.net.specs.declared.Transition.{Transition}
use Rattle.net.proofs.Tests.{or-e, or_l, or_r}
use Rattle.net.proofs.Moves.{view, entry-moves, mem-moved}
use Rattle.net.proofs.Fire.{has-fire}
use Rattle.net.proofs.Laws.{laws}
use Rattle.net.proofs.Rules.{fits, start-good}
use Rattle.net.proofs.Journal.{Held}
use Rattle.published.proofs.Firing.{moves-led}
use Rattle.published.proofs.TakenBack.{Untouched}

-- more bonds lead to more
more-leads : (bs cs : List Bond) → ((b : Bond) → has_bond b bs ≡ true → has_bond b cs ≡ true) → {p q : ℕ} → Leads bs p q → Leads cs p q
more-leads bs cs f (here e) = here e
more-leads bs cs f (along {p = p} {r = r} c l) = along (go (or-e (has_bond (N.bond p r) bs) (has_bond (N.bond r p) bs) c)) (more-leads bs cs f l)
  where
    go : (has_bond (N.bond p r) bs ≡ true) ⊎ (has_bond (N.bond r p) bs ≡ true) → bonded cs p r ≡ true
    go (inl e) = or_l (has_bond (N.bond p r) cs) (has_bond (N.bond r p) cs) (f (N.bond p r) e)
    go (inr e) = or_r (has_bond (N.bond p r) cs) (has_bond (N.bond r p) cs) (f (N.bond r p) e)

module _ (net : Net) (ok : net_rule net ≡ true) where
  abbrev back : Marking → Transition → List Bool → Marking
  back s t m = undo net.bases (arcs_of net t) m s

  pub good-after : (ls : List LiveLine) (s : Marking) → Run (Fires net) net.start ls s → Good net s
  good-after ls s r = run-good in_set view (Good net) (Fires net) back (laws net (fits net ok)) ls net.start s (start-good net ok) r

  pub good-now : (j : Journal) → Held net j → Good net j.marking
  good-now j H = good-after j.lines j.marking H.run

  -- ---- a line of a run

  -- The markings just before and after its firing.
  pub record Origin (l : LiveLine) : Type 0 where
    pub before : Marking
    pub after : Marking
    pub good : Good net before
    pub fires : Fires net before l.transition l.moved after

  pub in_moved : (l : LiveLine) (O : Origin l) (p : ℕ) → in_set l.moved p ≡ moves O.before.bonds (arcs_of net l.transition).entries p
  in_moved l O p = ap (λ (m : List Bool). in_set m p) O.fires.moves_m ∙ mem-moved net O.before O.good (arcs_of net l.transition) (fits net ok l.transition O.fires.listed) p

  module _ (ls : List LiveLine) (s : Marking) (r : Run (Fires net) net.start ls s) where
    split-origin : (l : LiveLine) (xs ys : List LiveLine) → ls ≡ xs ++ l ∷ ys → Origin l
    split-origin l xs ys q =
        let (y, r₁, r₂) = run-split (Fires net) xs (l ∷ ys) net.start s (rw q at r) in
        record { before = y; after = r₂.0; good = good-after xs y r₁; fires = r₂.1 }

    pub origin : (l : LiveLine) → Mem l ls → Origin l
    origin l m = let (xs, ys, q) = mem-split l ls m in split-origin l xs ys q

    -- its entries' bases are among its moved bases
    pub entry-in-run : (l : LiveLine) → Mem l ls → (e : Entry) → Mem e (arcs_of net l.transition).entries → in_set l.moved e.base ≡ true
    entry-in-run l m e n =
        let O = origin l m in
        in_moved l O e.base ∙ entry-moves net O.before O.good (arcs_of net l.transition) (fits net ok l.transition O.fires.listed) e n

    -- a line that nothing later was built on
    pub untouched : (l : LiveLine) (xs ys : List LiveLine) → ls ≡ xs ++ l ∷ ys → IndependentOfAll in_set l.moved ys → Untouched net l.transition l.moved s
    untouched l xs ys q away =
        let L = laws net (fits net ok) in
        let (y, r₁, r₂) = run-split (Fires net) xs (l ∷ ys) net.start s (rw q at r) in
        let g : Good net y = good-after xs y r₁ in
        let f : Fires net y l.transition l.moved r₂.0 = r₂.1 in
        let (_, _, _, _, u, _) = shift in_set view (Good net) (Fires net) back L l.moved ys r₂.0 s y (L.good g f) g r₂.2 (λ p k. sym (L.frame g f p k)) away in
        let O : Origin l = record { before = y; after = r₂.0; good = g; fires = f } in
        record {
          before = y;
          good = g;
          fires = record { listed = f.listed; placed = f.placed; present = f.present; absent = f.absent; together = f.together; moves_m = f.moves_m; gives = refl };
          like = λ p k. ap (λ (x : Marking). view x p) (sym f.gives) ∙ u p (in_moved l O p ∙ k);
        }

  module _ (j : Journal) (H : Held net j) (l : LiveLine) (m : Mem l j.lines) where
    pub line-listed : l.transition.0 < length net.transitions
    line-listed = (origin j.lines j.marking H.run l m).fires.listed

    pub entry-in-line : (e : Entry) → Mem e (arcs_of net l.transition).entries → in_set l.moved e.base ≡ true
    entry-in-line = entry-in-run j.lines j.marking H.run l m

  -- ---- where no step breaks a bond, bonds only grow on a forward run

  module _ (unbroken : (t : Transition) → t.0 < length net.transitions → (β : Bond) → broken_bond (arcs_of net t) β ≡ false) where
    fire-grows : (s z : Marking) (t : Transition) (m : List Bool) → Good net s → Fires net s t m z → (b : Bond) → has_bond b s.bonds ≡ true → has_bond b z.bonds ≡ true
    fire-grows s z t m g f b h = rw f.gives (has-fire net s g (arcs_of net t) (fits net ok t f.listed) b
        ∙ or_r (has_bond b (arcs_of net t).out_bonds) (has_bond b s.bonds && not (broken_bond (arcs_of net t) b)) (rw (h, unbroken t f.listed b)))

    run-grows : (ls : List LiveLine) (s z : Marking) → Good net s → Run (Fires net) s ls z → (b : Bond) → has_bond b s.bonds ≡ true → has_bond b z.bonds ≡ true
    run-grows [] s z g e b h = rw (← e) h
    run-grows (l ∷ ls) s z g r b h =
        run-grows ls r.0 z ((laws net (fits net ok)).good g r.1) r.2 b (fire-grows s r.0 l.transition l.moved g r.1 b h)

    -- each moved base of a line is still led to from one of its entries
    pub still-carried : (xs : List LiveLine) (l : LiveLine) (ys : List LiveLine) (s : Marking) → Run (Fires net) net.start (xs ++ l ∷ ys) s → (p : ℕ) → in_set l.moved p ≡ true
        → (e : Entry) × Mem e (arcs_of net l.transition).entries × Leads s.bonds e.base p
    still-carried xs l ys s r p h =
        let (y, r₁, r₂) = run-split (Fires net) xs (l ∷ ys) net.start s r in
        let O : Origin l = record { before = y; after = r₂.0; good = good-after xs y r₁; fires = r₂.1 } in
        let (e, n, k) = moves-led (arcs_of net l.transition) y.bonds p (sym (in_moved l O p) ∙ h) in
        (e, n, more-leads y.bonds s.bonds (run-grows (l ∷ ys) y s O.good r₂) k)
