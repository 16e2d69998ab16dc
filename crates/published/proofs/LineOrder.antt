-- The relation ≺ that Definition 10 gives on the forward run of a sound history's lines, each with its own key, is "of higher
-- key, and moved the base of an entry of the earlier". Assumes that the net meets the sheet's rules.
use mathlib.Core.Path.{◌≡◌, refl, sym, subst}
use mathlib.Core.Bool.{true}
use mathlib.Core.List.{List, [], ◌∷◌, ◌++◌, append_assoc, append-nil}
use Prim.Native.Nat.{◌≤◌, ◌<◌}
use native.Mathlib.Omega.{arith}
use lib.ListN.{length, length-append}
use borrow.Author.Tests.{lt-leb}
use Rattle.causal.specs.Runs.{Run}
use Rattle.causal.proofs.Lists.{mem-mid, mem-left}
use Rattle.causal.proofs.Runs.{run_join}
use Rattle.net.specs.Net.{Marking, Net, arcs_of}
use Rattle.net.specs.Rules.{net_rule}
use Rattle.net.specs.Firing.{fire, Fires}
use Rattle.net.specs.Checks.{clear}
use Rattle.net.specs.Limits.{max_key}
use Rattle.net.specs.Journal.{LiveLine, Journal, key, highest_live, enable_checks}
use Rattle.net.specs.declared.Key.{Key}
use Rattle.net.proofs.Keys.{Up, mem-highest, highest-snoc}
use Rattle.net.proofs.Journal.{Held}
use Rattle.published.specs.Causal.{Order, no_order, fired_order}
use Rattle.published.specs.Sheets.{petri_net, marks_of, history_of, with_line, order_over, order_of_lines}
use Rattle.published.proofs.Order.{Agrees, line-order}

-- ---- the first lines of a list

up_left : (xs ys : List LiveLine) → Up (xs ++ ys) → Up xs
up_left [] ys u = tt
up_left (x ∷ xs) ys u = ((λ j m. u.0 j (mem-left xs ys j m)), up_left xs ys u.1)

-- a line's key is above those before it
highest-below : (xs : List LiveLine) (l : LiveLine) (ys : List LiveLine) → 0 < l.key.0 → Up (xs ++ l ∷ ys) → (highest_live xs).0 < l.key.0
highest-below [] l ys p u = p
highest-below (x ∷ xs) l ys p u = let a = u.0 l (mem-mid l xs ys) in let b = highest-below xs l ys p u.1 in omega arith

-- ---- the run

module _ (net : Net) (ok : net_rule net ≡ true) where
  abbrev state : Marking → List LiveLine → Key → Journal
  state s ls g = record { marking = s; lines = ls; given = g }

  fires-enabled : (s z : Marking) (l : LiveLine) → Fires net s l.transition l.moved z → clear (enable_checks net s l.transition) ≡ true
  fires-enabled s z l F = rw (lt-leb (length net.transitions) l.transition.0 F.listed, F.placed, F.present, F.absent, F.together)

  -- the lines that were run so far, with any key given that is high enough
  held-left : (xs ys : List LiveLine) (y : Marking) (g : Key) → Run (Fires net) net.start xs y → (highest_live xs).0 ≤ g.0 → g.0 ≤ max_key
      → (z : Marking) (n : Key) → Held net (state z (xs ++ ys) n) → Held net (state y xs g)
  held-left xs ys y g r top low z n H =
      let a = length-append xs ys in
      let few = H.few in
      record { run = r; up = up_left xs ys H.up; few = omega arith; top = top; low = low; above = λ l m. H.above l (mem-left xs ys l m) }

  over : (ys xs : List LiveLine) (y : Marking) (g : Key) → Run (Fires net) net.start xs y → (highest_live xs).0 ≤ g.0 → g.0 ≤ max_key
      → (z : Marking) (n : Key) → Run (Fires net) y ys z → Held net (state z (xs ++ ys) n)
      → (R : Order) → Agrees net (state y xs g) R → Agrees net (state z (xs ++ ys) n) (order_over net ys (state y xs g) R)
  over [] xs y g r top low z n q H R A = subst (λ (ls : List LiveLine). Agrees net (state z ls n) R) (sym (append-nil xs)) A
  over (l ∷ ys) xs y g r top low z n (y₁, F, q) H R A =
      let y₂ : Marking = fire net.bases (arcs_of net l.transition) y in
      let F₂ : Fires net y l.transition l.moved y₂ = subst (Fires net y l.transition l.moved) F.gives F in
      let r₂ : Run (Fires net) net.start (xs ++ (l ∷ [])) y₂ = run_join (Fires net) xs (l ∷ []) net.start y y₂ r (y₂, F₂, refl) in
      let q₂ : Run (Fires net) y₂ ys z = subst (λ (x : Marking). Run (Fires net) x ys z) F.gives q in
      let e : (xs ++ (l ∷ [])) ++ ys ≡ xs ++ l ∷ ys = append_assoc xs (l ∷ []) ys in
      let H₂ : Held net (state z ((xs ++ (l ∷ [])) ++ ys) n) = subst (λ (ls : List LiveLine). Held net (state z ls n)) (sym e) H in
      let R₂ : Order = fired_order (petri_net net) (marks_of net y) (history_of (with_line net (state y xs g) l)) R l.transition in
      let high : (highest_live xs).0 < l.key.0 = highest-below xs l ys (H.above l (mem-mid l xs ys)) H.up in
      let top₂ : (highest_live (xs ++ (l ∷ []))).0 ≤ l.key.0 = rw (highest-snoc xs l (omega arith)) (omega arith) in
      let low₂ : l.key.0 ≤ max_key = (let a = mem-highest (xs ++ l ∷ ys) l (mem-mid l xs ys) in let b = H.top in let c = H.low in omega arith) in
      let A₂ : Agrees net (with_line net (state y xs g) l) R₂ = line-order net ok (state y xs g) (held-left xs (l ∷ ys) y g r top low z n H) R A l (fires-enabled y y₁ l F) F.moves_m high in
      subst (λ (ls : List LiveLine). Agrees net (state z ls n) (order_over net ys (with_line net (state y xs g) l) R₂)) e (over ys (xs ++ (l ∷ [])) y₂ l.key r₂ top₂ low₂ z n q₂ H₂ R₂ A₂)

  pub lines-order : (j : Journal) → Held net j → Agrees net j (order_of_lines net j.lines)
  lines-order j H =
      over j.lines [] net.start (key 0) refl (omega arith) (omega arith) j.marking j.given H.run H no_order (λ u i t k. ((λ r. absurd r), λ (l, h, m, _, _, _, _, _, _, _). absurd m))
