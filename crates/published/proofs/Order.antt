-- On every state that a session can reach, the relation ≺ that Definitions 10 and 12 keep is "of higher key, and moved the base
-- of an entry of the earlier". Assumes that the net meets the sheet's rules.
use mathlib.Core.Path.{◌≡◌, refl, sym, ◌∙◌, ap, subst}
use mathlib.Core.Logic.{◌⊎◌, inl, inr}
use mathlib.Core.Bool.{Bool, true, false}
use mathlib.Core.List.{List, [], ◌∷◌}
use Prim.Native.Nat.{ℕ, ◌<◌, ◌≤◌}
use native.Mathlib.Omega.{arith}
use lib.Dec.{eqb}
use lib.ListN.{length}
use Rattle.causal.specs.Lists.{Mem}
use Rattle.causal.proofs.Tests.{both}
use Rattle.causal.proofs.Lists.{mem-mid, mem-left}
use Rattle.net.specs.Tests.{pick}
use Rattle.net.specs.Net.{Net, arcs_of}
use Rattle.net.specs.Rules.{net_rule}
use Rattle.net.specs.Connection.{Leads}
use Rattle.net.specs.Firing.{in_set, moves, moved}
use Rattle.net.specs.Checks.{clear}
use Rattle.net.specs.Journal.{LiveLine, Journal, Reply, highest_live, line_of, built_on, kind_of, enable_checks, space_checks, fire_checks, undo_checks, checks, transition_named, key_named, new_line, fire_reply, undo_reply, begin, act, play}
use Rattle.net.specs.declared.Entry.{Entry}
use Rattle.net.specs.declared.Key.{Key}
use Rattle.net.specs.declared.Transition.{Transition}
use Rattle.net.proofs.Tests.{and_l, pick-case}
use Rattle.net.proofs.Checks.{clear-append}
use Rattle.net.proofs.Moves.{mem-moved}
use Rattle.net.proofs.Rules.{fits}
use Rattle.net.proofs.Keys.{key_of, mem-highest, mem-snoc, one_line, mem-without, without-mem}
use Rattle.net.proofs.Journal.{Held, enabled-fires, checks-kind, act-held, begin-held}
use Rattle.published.specs.Sets.{Iff, base, Max}
use Rattle.published.specs.Causal.{Uses, Order, no_order, fired_order, reversed_order}
use Rattle.published.specs.Sheets.{petri_net, marks_of, history_of, order_step, order_after, with_line, MovesEntry, later_with_entry}
use Rattle.published.proofs.Components.{con-leads, leads-con}
use Rattle.published.proofs.Enabling.{at_home}
use Rattle.published.proofs.Firing.{led-moves, moves-led}
use Rattle.published.proofs.Lines.{built_on-i}
use Rattle.published.proofs.Sessions.{good-now, line-listed, entry-in-line}
use Rattle.published.proofs.Keys.{one-max, undo-free, undo-mem, undo-key, undo-latest}

-- The relation is what the lines say.
abbrev pub Agrees : Net → Journal → Order → Type 0
Agrees net j R = (u : Transition) (i : ℕ) (t : Transition) (k : ℕ) → Iff (R u i t k) (later_with_entry net j u i t k)

module _ (net : Net) (ok : net_rule net ≡ true) (j : Journal) (H : Held net j) where
  -- ---- a firing uses something of another exactly where it moves the base of an entry of it

  module _ (t : Transition) (e : clear (enable_checks net j.marking t) ≡ true) where
    new-moves : (p : ℕ) → in_set (new_line net j t).moved p ≡ moves j.marking.bonds (arcs_of net t).entries p
    new-moves p = mem-moved net j.marking (good-now net ok j H) (arcs_of net t) (fits net ok t (enabled-fires net j.marking t e).listed) p

    entry-uses : (v : Transition) → v.0 < length net.transitions → (f : Entry) → Mem f (arcs_of net v).entries → in_set (new_line net j t).moved f.base ≡ true
        → Uses (petri_net net) (marks_of net j.marking) t v
    entry-uses v w f o k =
        let F = fits net ok t (enabled-fires net j.marking t e).listed in
        let F' = fits net ok v w in
        let (d, n, g) = moves-led (arcs_of net t) j.marking.bonds f.base (sym (new-moves f.base) ∙ k) in (
          d.base,
          d.from,
          base f.base,
          (tt, d, n, refl, refl),
          leads-con net j.marking (good-now net ok j H) d.from d.base (base f.base) (F.bases d n) (at_home (arcs_of net t) j.marking (enabled-fires net j.marking t e).placed d n) (F'.bases f o) g,
          (f.to, F'.to f o, (tt, f, o, refl, refl)),
        )

    uses-entry : (v : Transition) → Uses (petri_net net) (marks_of net j.marking) t v → (f : Entry) × Mem f (arcs_of net v).entries × (in_set (new_line net j t).moved f.base ≡ true)
    uses-entry v (a, x, i, (_, d, n, b, _), c, (y, _, (_, f, o, q, _))) =
        let (_, _, _, g) = con-leads net j.marking (good-now net ok j H) x a i c in
        let g₁ : Leads j.marking.bonds d.base f.base = rw (b, q) g in
        (f, o, new-moves f.base ∙ led-moves (arcs_of net t) j.marking.bonds d n f.base g₁)

  -- ---- Definition 10

  -- of a line that is fired with any key above those of the others
  module _ (R : Order) (A : Agrees net j R) (new : LiveLine) (e : clear (enable_checks net j.marking new.transition) ≡ true)
      (its : new.moved ≡ moved net.bases (arcs_of net new.transition) j.marking) (high : (highest_live j.lines).0 < new.key.0) where
    abbrev t : Transition
    t = new.transition

    abbrev j' : Journal
    j' = with_line net j new

    abbrev R' : Order
    R' = fired_order (petri_net net) (marks_of net j.marking) (history_of (with_line net j new)) R new.transition

    -- the new key is the highest
    newest : Max (history_of j' t) new.key.0
    newest = ((new, mem-mid new j.lines [], refl, refl), λ i (l, m, _, q). below i l q (mem-snoc j.lines new l m))
      where
        below : (i : ℕ) (l : LiveLine) → l.key.0 ≡ i → Mem l j.lines ⊎ (l ≡ new) → i ≤ new.key.0
        below i l q (inl m) = let a = mem-highest j.lines l m in omega arith
        below i l q (inr d) = let a = key_of d in omega arith

    fired-order-to : (u : Transition) (i : ℕ) (v : Transition) (k : ℕ) → R' u i v k → later_with_entry net j' u i v k
    fired-order-to u i v k (inl r) =
        let (l, h, a, b, p, q, p', q', lt, c) = (A u i v k).0 r in
        (l, h, mem-left j.lines (new ∷ []) l a, mem-left j.lines (new ∷ []) h b, p, q, p', q', lt, c)
    fired-order-to u i v k (inr (same, (o, (l, m, p, q), x, lt, uses))) =
        go (one-max (history_of j' t) k new.key.0 x newest) (mem-snoc j.lines new l m)
      where
        go : k ≡ new.key.0 → Mem l j.lines ⊎ (l ≡ new) → later_with_entry net (with_line net j new) u i v k
        go top (inl n) = (
          l,
          new,
          m,
          mem-mid new j.lines [],
          p,
          q,
          sym same,
          sym top,
          lt,
          subst (λ (m : List Bool). MovesEntry net l (record { transition = new.transition; key = new.key; moved = m })) (sym its)
              (uses-entry new.transition e l.transition (subst (λ (w : Transition). Uses (petri_net net) (marks_of net j.marking) new.transition w) (sym p) uses)),
        )
        go top (inr d) = let a = key_of d in absurd (let z : ⊥ = omega arith in z)

    fired-order-from : (u : Transition) (i : ℕ) (v : Transition) (k : ℕ) → later_with_entry net j' u i v k → R' u i v k
    fired-order-from u i v k (l, h, a, b, p, q, p', q', lt, c) = go (mem-snoc j.lines new l a) (mem-snoc j.lines new h b)
      where
        go : Mem l j.lines ⊎ (l ≡ new) → Mem h j.lines ⊎ (h ≡ new) → fired_order (petri_net net) (marks_of net j.marking) (history_of (with_line net j new)) R new.transition u i v k
        go (inl m) (inl n) = inl ((A u i v k).1 (l, h, m, n, p, q, p', q', lt, c))
        go (inr d) (inl n) = let x = mem-highest j.lines h n in let y = key_of d in absurd (let z : ⊥ = omega arith in z)
        go (inr d) (inr f) = let x = key_of d in let y = key_of f in absurd (let z : ⊥ = omega arith in z)
        go (inl m) (inr f) =
            let top : new.key.0 ≡ k = sym (key_of f) ∙ q' in
            let (o, low) = subst (Max (history_of j' t)) top newest in
            let (g, n, w) = c in
            let w' : in_set (new_line net j new.transition).moved g.base ≡ true = ap (λ (m : List Bool). in_set m g.base) (sym (ap (λ (x : LiveLine). x.moved) f ∙ its)) ∙ w in
            inr (
              sym p' ∙ ap (λ (x : LiveLine). x.transition) f,
              (
                o,
                (l, a, p, q),
                (o, low),
                lt,
                subst (λ (w : Transition). Uses (petri_net net) (marks_of net j.marking) new.transition w) p (entry-uses new.transition e l.transition (line-listed net ok j H l m) g n w'),
              ),
            )

    pub line-order : Agrees net (with_line net j new) (fired_order (petri_net net) (marks_of net j.marking) (history_of (with_line net j new)) R new.transition)
    line-order u i v k = (fired-order-to u i v k, fired-order-from u i v k)

  pub fired-order : (R : Order) → Agrees net j R → (t : Transition) → clear (enable_checks net j.marking t) ≡ true
      → Agrees net (fire_reply net j t).journal (fired_order (petri_net net) (marks_of net j.marking) (history_of (fire_reply net j t).journal) R t)
  fired-order R A t e = let top = H.top in line-order R A (new_line net j t) e refl (omega arith)

  -- ---- Definition 12

  module _ (R : Order) (A : Agrees net j R) (k : Key) (e : clear (undo_checks j k) ≡ true) where
    abbrev old : LiveLine
    old = line_of k j.lines

    reversed-order-to : (u : Transition) (i : ℕ) (v : Transition) (n : ℕ) → reversed_order (history_of j) R old.transition u i v n → later_with_entry net (undo_reply net j k).journal u i v n
    reversed-order-to u i v n (r, out) =
        let (l, h, a, b, p, q, p', q', lt, c) = (A u i v n).0 r in
        let h-stays : h.key.0 ≡ k.0 → ⊥ = λ d. out (subst (Max (history_of j old.transition)) (sym d ∙ q') (undo-latest net ok j H k e)) in
        let l-stays : l.key.0 ≡ k.0 → ⊥ = λ d. taken l h a b d (rw (q, q') lt) c in
        (l, h, without-mem k j.lines l a l-stays, without-mem k j.lines h b h-stays, p, q, p', q', lt, c)
      where
        taken : (l h : LiveLine) → Mem l j.lines → Mem h j.lines → l.key.0 ≡ k.0 → l.key.0 < h.key.0 → MovesEntry net l h → ⊥
        taken l h a b d lt (f, n, w) =
            let same : l ≡ old = one_line j.lines H.up l old a (undo-mem net ok j H k e) (d ∙ sym (undo-key net ok j H k e)) in
            both (built_on j.lines old) (subst (λ (x : LiveLine). built_on j.lines x ≡ true) same (built_on-i j.lines l h b lt (f.base, entry-in-line net ok j H l a f n, w))) (undo-free net ok j H k e)

    reversed-order-from : (u : Transition) (i : ℕ) (v : Transition) (n : ℕ) → later_with_entry net (undo_reply net j k).journal u i v n → reversed_order (history_of j) R old.transition u i v n
    reversed-order-from u i v n (l, h, a, b, p, q, p', q', lt, c) =
        let (a', _) = mem-without k j.lines l a in
        let (b', other) = mem-without k j.lines h b in
        ((A u i v n).1 (l, h, a', b', p, q, p', q', lt, c), λ x. other (q' ∙ one-max (history_of j old.transition) n k.0 x (undo-latest net ok j H k e)))

    pub reversed-order : Agrees net (undo_reply net j k).journal (reversed_order (history_of j) R old.transition)
    reversed-order u i v n = (reversed-order-to u i v n, reversed-order-from u i v n)

-- ---- every command, and a list of commands

module _ (net : Net) (ok : net_rule net ≡ true) where
  act-order : (j : Journal) → Held net j → (R : Order) → Agrees net j R → (c : List ℕ) → Agrees net (act net j c).journal (order_step net j c (act net j c).journal (act net j c).answer R)
  act-order j H R A c = pick-case (λ (y : Reply). Agrees net y.journal (order_step net j c y.journal y.answer R)) (clear (checks net j c)) _ _
      (λ e. by_kind (eqb (kind_of c) 1) (checks-kind net j c e)) (λ _. A)
    where
      by_kind : (b : Bool) → clear (pick b (fire_checks net j (transition_named c)) (undo_checks j (key_named j c))) ≡ true
          → Agrees net (pick b (fire_reply net j (transition_named c)) (undo_reply net j (key_named j c))).journal
          (order_step net j c (pick b (fire_reply net j (transition_named c)) (undo_reply net j (key_named j c))).journal (pick b (fire_reply net j (transition_named c)) (undo_reply net j (key_named j c))).answer R)
      by_kind true e = fired-order net ok j H R A (transition_named c)
          (and_l _ (clear (space_checks j)) (sym (clear-append (enable_checks net j.marking (transition_named c)) (space_checks j)) ∙ e))
      by_kind false e = reversed-order net ok j H R A (key_named j c) e

  play-order : (cs : List (List ℕ)) (j : Journal) → Held net j → (R : Order) → Agrees net j R → Agrees net (play net cs j) (order_after net cs j R)
  play-order [] j H R A = A
  play-order (c ∷ cs) j H R A = play-order cs (act net j c).journal (act-held net ok j c H) (order_step net j c (act net j c).journal (act net j c).answer R) (act-order j H R A c)

  pub order_is : (cs : List (List ℕ)) → Agrees net (play net cs (begin net)) (order_after net cs (begin net) no_order)
  order_is cs = play-order cs (begin net) (begin-held net ok) no_order (λ u i t k. ((λ r. absurd r), λ (l, h, m, _, _, _, _, _, _, _). absurd m))
