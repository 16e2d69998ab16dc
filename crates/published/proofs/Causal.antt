-- 19 and 20 refuse exactly where Definition 11 does; kind 2's key is Definition 6's; and taking back gives Definition 24's marking,
-- and Definition 7's where the firing broke no bond. Assumes that the net meets the sheet's rules, and a journal that commands keep.
use mathlib.Core.Path.{◌≡◌, refl, sym, ◌∙◌, ap, subst}
use mathlib.Core.Logic.{◌⊎◌, inl, inr}
use mathlib.Core.Bool.{Bool, true, false, not, ◌&&◌}
use mathlib.Core.List.{List, ◌∷◌, ◌++◌}
use Prim.Native.Nat.{ℕ, ◌<◌, ◌≤◌}
use native.Mathlib.Omega.{arith}
use lib.ListN.{length}
use Rattle.causal.specs.Lists.{Mem}
use Rattle.causal.specs.Reorderings.{Dependent}
use Rattle.causal.proofs.Tests.{both}
use Rattle.net.specs.Net.{Marking, Net, has_bond, place, arcs_of}
use Rattle.net.specs.Rules.{net_rule}
use Rattle.net.specs.Connection.{here}
use Rattle.net.specs.Firing.{in_set, broken_bond, fire}
use Rattle.net.specs.Checks.{clear}
use Rattle.net.specs.Journal.{LiveLine, Journal, highest_live, is_live, line_of, built_on, undo_checks, undo_reply}
use Rattle.net.specs.declared.Bond.{Bond}
use Rattle.net.specs.declared.Entry.{Entry}
use Rattle.net.specs.declared.Key.{Key}
use Rattle.net.specs.declared.Transition.{Transition}
use Rattle.net.proofs.Tests.{fails, or_l}
use Rattle.net.proofs.Moves.{Fit, view, seen-place, seen_first, entry-moves}
use Rattle.net.proofs.Fire.{has-fire}
use Rattle.net.proofs.Rules.{fits}
use Rattle.net.proofs.Keys.{mem-highest, up-after, one_line, line-live, live-split, live-line, independent-later, built_on-after}
use Rattle.net.proofs.Journal.{Held}
use Rattle.published.specs.Sets.{Iff, Item, base, bond, Max}
use Rattle.published.specs.States.{Somewhere}
use Rattle.published.specs.Backtracking.{BacktrackEnabled, leaves_back, reversed_marks}
use Rattle.published.specs.Causal.{Order, CausalEnabled}
use Rattle.published.specs.Uncoupling.{reversed24}
use Rattle.published.specs.Sheets.{anchor, Allowed, Present, petri_net, marks_of, history_of}
use Rattle.published.proofs.Firing.{goes_to}
use Rattle.published.proofs.TakenBack.{Untouched, in-flags, moved-leave-back, leave-back-moved}
use Rattle.published.proofs.Reversal.{reversed-iff}
use Rattle.published.proofs.Reversal24.{reversed24-iff}
use Rattle.published.proofs.Lines.{highest-is, built_on-e, built_on-i}
use Rattle.published.proofs.Sessions.{good-now, line-listed, untouched}
use Rattle.published.proofs.Common.{entry-common, successors}
use Rattle.published.proofs.Keys.{one-max, undo-live, undo-free, undo-mem, undo-key, undo-latest}
use Rattle.published.proofs.Order.{Agrees}

module _ (net : Net) (ok : net_rule net ≡ true) (j : Journal) (H : Held net j) where
  -- ---- a firing that 19 and 20 do not refuse

  module _ (k : Key) (e : clear (undo_checks j k) ≡ true) where
    pub left_alone : Untouched net (line_of k j.lines).transition (line_of k j.lines).moved j.marking
    left_alone =
        let (xs, ys, q, r) = live-split k j.lines (undo-live net ok j H k e) in
        go (line_of k j.lines) xs ys q (undo-free net ok j H k e)
      where
        go : (h : LiveLine) (xs ys : List LiveLine) → j.lines ≡ xs ++ h ∷ ys → built_on j.lines h ≡ false → Untouched net h.transition h.moved j.marking
        go h xs ys q d = untouched net ok j.lines j.marking H.run h xs ys q (independent-later h ys (up-after h xs ys (rw q at H.up)) (built_on-after h xs ys (rw q at d)))

    pub undo-listed : (line_of k j.lines).transition.0 < length net.transitions
    undo-listed = left_alone.fires.listed

    -- Definition 7's marking
    pub reversed-marks : ((β : Bond) → broken_bond (arcs_of net (line_of k j.lines).transition) β ≡ false)
        → (x : ℕ) (i : Item) → Iff (marks_of net (undo_reply net j k).journal.marking x i) (reversed_marks (petri_net net) (marks_of net j.marking) (line_of k j.lines).transition x i)
    reversed-marks unbroken = reversed-iff net ok (line_of k j.lines).transition (line_of k j.lines).moved j.marking (good-now net ok j H) left_alone unbroken

    -- Definition 24's
    pub reversed24-marks : (x : ℕ) (i : Item) → Iff (marks_of net (undo_reply net j k).journal.marking x i) (reversed24 (petri_net net) (marks_of net j.marking) (line_of k j.lines).transition x i)
    reversed24-marks = reversed24-iff net ok (line_of k j.lines).transition (line_of k j.lines).moved j.marking (good-now net ok j H) left_alone

    -- the bases that leave by both
    pub moved_back : (b : ℕ) → Iff (in_set (line_of k j.lines).moved b ≡ true) (Somewhere (leaves_back (petri_net net) (marks_of net j.marking) (line_of k j.lines).transition) b)
    moved_back b =
        let t : Transition = (line_of k j.lines).transition in
        let m : List Bool = (line_of k j.lines).moved in
        let its = in-flags net ok t m j.marking (good-now net ok j H) left_alone b in (
          (λ h. moved-leave-back net ok t m j.marking (good-now net ok j H) left_alone b (sym its ∙ h)),
          (λ h. its ∙ leave-back-moved net ok t m j.marking (good-now net ok j H) left_alone b h),
        )

  -- ---- all that a firing put is where it put it, while its bases are left alone

  module _ (l : LiveLine) (U : Untouched net l.transition l.moved j.marking) where
    fit : Fit net (arcs_of net l.transition)
    fit = fits net ok l.transition U.fires.listed

    abbrev after : Marking
    after = fire net.bases (arcs_of net l.transition) U.before

    entry-like : (d : Entry) → Mem d (arcs_of net l.transition).entries → view after d.base ≡ view j.marking d.base
    entry-like d m = U.like d.base (entry-moves net U.before U.good (arcs_of net l.transition) fit d m)

    there : (i : Item) (d : Entry) → Mem d (arcs_of net l.transition).entries → Allowed (arcs_of net l.transition).out_bonds i → d.base ≡ anchor i → Present net j.marking i
    there (base b) d m u e = rw (← e) (fit.bases d m)
    there (bond β) d m u e =
        let v : view after β.lo ≡ view j.marking β.lo = subst (λ (p : ℕ). view after p ≡ view j.marking p) e (entry-like d m) in
        sym (seen_first after j.marking β.lo v β.hi) ∙ has-fire net U.before U.good (arcs_of net l.transition) fit β
        ∙ or_l (has_bond β (arcs_of net l.transition).out_bonds) (has_bond β U.before.bonds && not (broken_bond (arcs_of net l.transition) β)) u

    all_there : (x : ℕ) (i : Item) → (petri_net net).puts l.transition x i → marks_of net j.marking x i
    all_there x i (u, d, m, b, q) = (
      there i d m u b,
      ap (place j.marking) (sym b) ∙ sym (seen-place after j.marking d.base (entry-like d m))
          ∙ goes_to net U.before U.good (arcs_of net l.transition) fit U.fires.together d m d.base (here refl) ∙ q,
    )

  -- ---- Definition 11

  module _ (R : Order) (A : Agrees net j R) where
    enabled-undo : (k : Key) (t : Transition) → CausalEnabled (petri_net net) (marks_of net j.marking) (history_of j) R t → Max (history_of j t) k.0
        → (clear (undo_checks j k) ≡ true) × ((line_of k j.lines).transition ≡ t)
    enabled-undo k t D ((l, m, p, q), top) =
        let live : is_live k j.lines ≡ true = line-live j.lines l k m q in
        let (m', q'') = live-line j.lines k live in
        let same : line_of k j.lines ≡ l = one_line j.lines H.up (line_of k j.lines) l m' m (q'' ∙ sym q) in
        let free : built_on j.lines (line_of k j.lines) ≡ false = rw same (fails (built_on j.lines l) (λ b. no-later (built_on-e j.lines l b))) in
        (rw (live, free), ap (λ (y : LiveLine). y.transition) same ∙ p)
      where
        no-later : (h : LiveLine) × Mem h j.lines × (l.key.0 < h.key.0) × Dependent in_set l.moved h.moved → ⊥
        no-later (h, n, lt, c) =
            let (u, i, w) = (successors net ok j H.run H.up t k.0).1 (h.transition, h.key.0, (l, h, m, n, p, q, refl, refl, rw (← q) lt, c)) in
            let (_, g, _, o, _, _, p', q', _, _) = w in
            D.unused k.0 ((l, m, p, q), top) u i (g, o, p', q') ((A t k.0 u i).1 w)

    undo-enabled : (k : Key) → clear (undo_checks j k) ≡ true → CausalEnabled (petri_net net) (marks_of net j.marking) (history_of j) R (line_of k j.lines).transition
    undo-enabled k e = record {
      occurs = (k.0, (undo-latest net ok j H k e).0);
      available = λ x i _ u. all_there (line_of k j.lines) (left_alone k e) x i u;
      unused = λ n x u i _ r. no-later n x u i r;
    }
      where
        no-later : (n : ℕ) → Max (history_of j (line_of k j.lines).transition) n → (u : Transition) (i : ℕ) → R (line_of k j.lines).transition n u i → ⊥
        no-later n x u i r =
            let (l, h, a, b, p, q, p', q', lt, c) = entry-common net ok j H.run H.up (line_of k j.lines).transition n u i ((A (line_of k j.lines).transition n u i).0 r) in
            let d : n ≡ k.0 = one-max (history_of j (line_of k j.lines).transition) n k.0 x (undo-latest net ok j H k e) in
            let same : l ≡ line_of k j.lines = one_line j.lines H.up l (line_of k j.lines) a (undo-mem net ok j H k e) (q ∙ d ∙ sym (undo-key net ok j H k e)) in
            both (built_on j.lines (line_of k j.lines)) (subst (λ (y : LiveLine). built_on j.lines y ≡ true) same (built_on-i j.lines l h b (rw (q, q') lt) c)) (undo-free net ok j H k e)

    pub undo-iff : (k : Key) (t : Transition) → Iff
        ((clear (undo_checks j k) ≡ true) × ((line_of k j.lines).transition ≡ t))
        (CausalEnabled (petri_net net) (marks_of net j.marking) (history_of j) R t × Max (history_of j t) k.0)
    undo-iff k t = (
      (λ (e, q). subst (λ (w : Transition). CausalEnabled (petri_net net) (marks_of net j.marking) (history_of j) R w × Max (history_of j w) k.0) q (undo-enabled k e, undo-latest net ok j H k e)),
      (λ (D, x). enabled-undo k t D x),
    )

  -- ---- Definition 6

  abbrev last : Key
  last = highest_live j.lines

  not-built-on : (l : LiveLine) → Mem l j.lines → l.key.0 ≡ (highest_live j.lines).0 → built_on j.lines l ≡ false
  not-built-on l m e = fails (built_on j.lines l) (λ b. go (built_on-e j.lines l b))
    where
      go : (h : LiveLine) × Mem h j.lines × (l.key.0 < h.key.0) × Dependent in_set l.moved h.moved → ⊥
      go (h, n, lt, _) = let a = mem-highest j.lines h n in omega arith

  pub last-iff : (t : Transition) → Iff
      ((clear (undo_checks j (highest_live j.lines)) ≡ true) × ((line_of (highest_live j.lines) j.lines).transition ≡ t))
      (BacktrackEnabled (petri_net net) (history_of j) t)
  last-iff t = (
    (λ (e, q). ((highest_live j.lines).0, (line_of last j.lines, undo-mem net ok j H last e, q, undo-key net ok j H last e), λ u i _ (h, n, _, d). let a = mem-highest j.lines h n in omega arith)),
    (λ (k, (l, m, p, q), top). latest k l m p q (highest k l m q top)),
  )
    where
      highest : (k : ℕ) (l : LiveLine) → Mem l j.lines → l.key.0 ≡ k → ((u : Transition) (i : ℕ) → (petri_net net).is_transition u → history_of j u i → i ≤ k) → l.key.0 ≡ (highest_live j.lines).0
      highest k l m q top = go (highest-is j.lines)
        where
          go : ((highest_live j.lines).0 ≡ 0) ⊎ ((h : LiveLine) × Mem h j.lines × (h.key.0 ≡ (highest_live j.lines).0)) → l.key.0 ≡ (highest_live j.lines).0
          go (inl e) = let a = mem-highest j.lines l m in omega arith
          go (inr (h, n, e)) = let a = mem-highest j.lines l m in let b = top h.transition h.key.0 (line-listed net ok j H h n) (h, n, refl, refl) in omega arith

      latest : (k : ℕ) (l : LiveLine) → Mem l j.lines → l.transition ≡ t → l.key.0 ≡ k → l.key.0 ≡ (highest_live j.lines).0
          → (clear (undo_checks j (highest_live j.lines)) ≡ true) × ((line_of (highest_live j.lines) j.lines).transition ≡ t)
      latest k l m p q e =
          let live : is_live (highest_live j.lines) j.lines ≡ true = line-live j.lines l (highest_live j.lines) m e in
          let (m', q') = live-line j.lines (highest_live j.lines) live in
          let same : line_of (highest_live j.lines) j.lines ≡ l = one_line j.lines H.up (line_of (highest_live j.lines) j.lines) l m' m (q' ∙ sym e) in
          (rw (live, not-built-on (line_of (highest_live j.lines) j.lines) m' q'), ap (λ (y : LiveLine). y.transition) same ∙ p)
