-- Two journals have one listing exactly if the lines of the one can be turned into the other's, serials apart (02, T-09).
-- Assumes that the net meets the sheet's rules.
use mathlib.Core.Path.{◌≡◌, refl, sym, ◌∙◌, ap, subst}
use mathlib.Core.Logic.{inl, inr}
use mathlib.Core.Bool.{Bool, true}
use mathlib.Core.List.{List, [], ◌∷◌, nil≢cons, cons≢nil, head-eq_of_cons-eq, tail-eq_of_cons-eq}
use Prim.Native.Nat.{ℕ, ◌<◌}
use native.Mathlib.Omega.{arith}
use lib.ListN.{length}
use borrow.Author.Tests.{ltb-true}
use Rattle.causal.specs.Lists.{Mem}
use Rattle.causal.specs.Reorderings.{Swapped, stay, swap, under, chain}
use Rattle.causal.specs.Runs.{Run, Laws}
use Rattle.causal.proofs.Reorderings.{swapped-sym}
use Rattle.causal.proofs.Runs.{swapped-run}
use Rattle.net.specs.Tests.{all}
use Rattle.net.specs.Net.{Marking, Net, no_arcs, arcs_of}
use Rattle.net.specs.Rules.{start_places_rule, start_bonds_rule, arcs_rule, net_rule}
use Rattle.net.specs.Marking.{Good}
use Rattle.net.specs.Firing.{in_set, moved, fire, undo, Fires}
use Rattle.net.specs.Journal.{LiveLine, Journal}
use Rattle.net.specs.declared.Entry.{Entry}
use Rattle.net.specs.declared.Transition.{Transition}
use Rattle.net.proofs.Tests.{and_l, and_r, all-at}
use Rattle.net.proofs.Moves.{Fit, view, mem-moved, entry-moves}
use Rattle.net.proofs.Laws.{laws}
use Rattle.net.proofs.Rules.{fits, start-good}
use Rattle.net.proofs.Keys.{up-distinct}
use Rattle.net.proofs.Journal.{Held}
use Rattle.firings.specs.Lines.{steps_of}
use Rattle.listing.specs.First.{SerialsApart, TurnsInto, ordered, listing}
use Rattle.listing.proofs.Ordered.{ordered-swapped}
use Rattle.listing.proofs.First.{Rivals, listing-swapped}
use Rattle.listing.proofs.Alike.{listing-apart}

-- ---- runs of the same steps

-- from one marking they move the same bases and end alike
pub same-steps : (net : Net) (ls ks : List LiveLine) (s z y : Marking) → Run (Fires net) s ls z → Run (Fires net) s ks y → steps_of ls ≡ steps_of ks → SerialsApart ls ks × (z ≡ y)
same-steps net [] [] s z y r q e = (tt, sym r ∙ q)
same-steps net [] (k ∷ ks) s z y r q e = absurd (nil≢cons e)
same-steps net (l ∷ ls) [] s z y r q e = absurd (cons≢nil e)
same-steps net (l ∷ ls) (k ∷ ks) s z y r q e =
    let t : l.transition ≡ k.transition = λ n. record { 0 = head-eq_of_cons-eq e n } in
    let m : l.moved ≡ k.moved = r.1.moves_m ∙ ap (λ (x : Transition). moved net.bases (arcs_of net x) s) t ∙ sym q.1.moves_m in
    let g : r.0 ≡ q.0 = r.1.gives ∙ ap (λ (x : Transition). fire net.bases (arcs_of net x) s) t ∙ sym q.1.gives in
    let (a, d) = same-steps net ls ks q.0 z y (subst (λ (x : Marking). Run (Fires net) x ls z) g r.2) q.2 (tail-eq_of_cons-eq e) in
    ((t, m, a), d)

-- ---- swaps go over to lines that are the same but for their serials

swapped-apart : {ms ns : List LiveLine} → Swapped in_set ms ns → (ls : List LiveLine) → SerialsApart ls ms → (ks : List LiveLine) × Swapped in_set ls ks × SerialsApart ks ns
swapped-apart stay ls a = (ls, stay, a)
swapped-apart (swap h) [] a = absurd a
swapped-apart (swap h) (l ∷ []) a = absurd a.2
swapped-apart (swap h) (l ∷ k ∷ ls) a =
    (k ∷ l ∷ ls, swap (λ p e. ap (λ (m : List Bool). in_set m p) a.2.1 ∙ h p (ap (λ (m : List Bool). in_set m p) (sym a.1) ∙ e)), (a.2.0, a.2.1, (a.0, a.1, a.2.2)))
swapped-apart (under t) [] a = absurd a
swapped-apart (under t) (l ∷ ls) a = let (ks, s, b) = swapped-apart t ls a.2 in (l ∷ ks, under s, (a.0, a.1, b))
swapped-apart (chain t u) ls a = let (ks, s, b) = swapped-apart t ls a in let (js, v, c) = swapped-apart u ks b in (js, chain s v, c)

-- ---- each firing moved the base of its step's first entry

abbrev pub first_base : List Entry → ℕ
first_base [] = 0
first_base (e ∷ es) = e.base

at_first : (f : ℕ → Bool) (es : List Entry) → 0 < length es → ((e : Entry) → Mem e es → f e.base ≡ true) → f (first_base es) ≡ true
at_first f [] w h = absurd (let z : ⊥ = omega arith in z)
at_first f (e ∷ es) w h = h e (inl refl)

module _ (net : Net) (ok : net_rule net ≡ true) where
  L : Laws in_set view (Good net) (Fires net) (λ s a m. undo net.bases (arcs_of net a) m s)
  L = laws net (fits net ok)

  -- a transition of the sheet has an entry
  pub some-entry : (t : Transition) → t.0 < length net.transitions → 0 < length (arcs_of net t).entries
  some-entry t h =
      let rules : all (arcs_rule net.places net.bases) net.transitions ≡ true =
      and_r (start_bonds_rule net.bases net.start) _ (and_r (start_places_rule net.places net.bases net.start.places) _ ok) in
      ltb-true 0 (length (arcs_of net t).entries) (and_l _ _ (all-at (arcs_rule net.places net.bases) net.transitions no_arcs t.0 rules h))

  pub fires-first : (s z : Marking) (t : Transition) (m : List Bool) → Good net s → Fires net s t m z → in_set m (first_base (arcs_of net t).entries) ≡ true
  fires-first s z t m g F =
      let fit : Fit net (arcs_of net t) = fits net ok t F.listed in
      at_first (in_set m) (arcs_of net t).entries (some-entry t F.listed) (λ e h.
      ap (λ (x : List Bool). in_set x e.base) F.moves_m ∙ mem-moved net s g (arcs_of net t) fit e.base ∙ entry-moves net s g (arcs_of net t) fit e h)

  run-first : (ls : List LiveLine) (s z : Marking) → Good net s → Run (Fires net) s ls z → (l : LiveLine) → Mem l ls → in_set l.moved (first_base (arcs_of net l.transition).entries) ≡ true
  run-first [] s z g r l h = absurd h
  run-first (k ∷ ls) s z g r l (inl e) =
      ap (λ (x : LiveLine). in_set x.moved (first_base (arcs_of net x.transition).entries)) e ∙ fires-first s r.0 k.transition k.moved g r.1
  run-first (k ∷ ls) s z g r l (inr h) = run-first ls r.0 z (L.good g r.1) r.2 l h

  pub rivals : (j : Journal) → Held net j → Rivals j.lines
  rivals j H l k u v e =
      let first = run-first j.lines net.start j.marking (start-good net ok) H.run in
      (first_base (arcs_of net l.transition).entries, first l u, ap (λ (t : Transition). in_set k.moved (first_base (arcs_of net t).entries)) e ∙ first k v)

  -- ---- journals that commands keep

  pub swapped-listing : (j : Journal) → Held net j → (ls : List LiveLine) → Swapped in_set j.lines ls → listing j.lines ≡ listing ls
  swapped-listing j H ls t = listing-swapped j.lines ls (up-distinct j.lines H.up) (rivals j H) t

  -- the order of the listing runs forward from the start to the journal's marking
  pub ordered-run : (j : Journal) → Held net j → Run (Fires net) net.start (ordered (length j.lines) j.lines) j.marking
  ordered-run j H = swapped-run in_set view (Good net) (Fires net) (λ s a m. undo net.bases (arcs_of net a) m s) L (ordered-swapped j.lines) net.start j.marking (start-good net ok) H.run

  pub turns-list : (j i : Journal) → Held net j → Held net i → TurnsInto j.lines i.lines → listing j.lines ≡ listing i.lines
  turns-list j i H I T = swapped-listing j H T.turned T.by ∙ listing-apart T.turned i.lines T.apart

  pub list-turns : (j i : Journal) → Held net j → Held net i → listing j.lines ≡ listing i.lines → TurnsInto j.lines i.lines
  list-turns j i H I e =
      let (ks, s, a) = swapped-apart (swapped-sym in_set (ordered-swapped i.lines)) (ordered (length j.lines) j.lines)
      (same-steps net (ordered (length j.lines) j.lines) (ordered (length i.lines) i.lines) net.start j.marking i.marking (ordered-run j H) (ordered-run i I) e).0 in
      record { turned = ks; by = chain (ordered-swapped j.lines) s; apart = a }

  -- journals with one listing have one marking
  pub list-marking : (j i : Journal) → Held net j → Held net i → listing j.lines ≡ listing i.lines → j.marking ≡ i.marking
  list-marking j i H I e =
      (same-steps net (ordered (length j.lines) j.lines) (ordered (length i.lines) i.lines) net.start j.marking i.marking (ordered-run j H) (ordered-run i I) e).1
