-- The search ends in the least set with the wanted effect, or there is none (02, T-04): the proofs of specs/Claims.
-- Assumes that the net meets the sheet's rules.
use mathlib.Core.Path.{◌≡◌, refl, sym, ◌∙◌, ap}
use mathlib.Core.Bool.{Bool, true, false, not, ◌&&◌}
use mathlib.Core.List.{List}
use Prim.Native.Nat.{ℕ, ◌<◌}
use native.Mathlib.Omega.{arith}
use lib.Dec.{eqb}
use lib.ListN.{length}
use borrow.Author.Tests.{not-false, not-true, eqb-true, eqb-false}
use Rattle.causal.specs.Lists.{Mem}
use Rattle.causal.proofs.Tests.{both}
use Rattle.net.specs.Net.{Marking, Net}
use Rattle.net.specs.Rules.{net_rule}
use Rattle.net.specs.Journal.{LiveLine, Journal, same_key, is_live, play}
use Rattle.net.specs.History.{sound}
use Rattle.net.specs.Claims.{undo_commands}
use Rattle.net.specs.declared.Key.{Key}
use Rattle.net.proofs.Tests.{fails, and_l, and_r, and_i, any-e, keep-mem, mem-keep}
use Rattle.net.proofs.Keys.{same_key_lem, line-live}
use Rattle.net.proofs.Journal.{Held}
use Rattle.net.proofs.History.{sound-held}
use Rattle.net.proofs.Undoing.{accepted-answers, takeAll, take-held, among, among-mem, lines_left, left-cong, take-lines, after, held_after}
use Rattle.way_back.specs.Ways.{misfit, AtPlaces, HasEffect, ClosedUpward, descending, wrong_base, retreated, no_way, gone, way_back}
use Rattle.way_back.specs.Claims.{ClosedSets, LeastWay}
use Rattle.way_back.proofs.Sets.{descending-mem, descending-falls, accepted-closed, closed-accepted, descending-lines, taken-closed, taken-gives, closed-taken, Wanted, wanted-part, effect-wanted, wanted-effect, moved-there, last_goes}
use Rattle.movers.specs.Tops.{sharing}
use Rattle.way_back.proofs.Tops.{LastTop, top-at}
use Rattle.way_back.proofs.Retreat.{wrong-none, wrong-some, Found, retreats}

module _ (net : Net) (ok : net_rule net ≡ true) where
  -- ---- sets that can be taken back

  pub closed-sets : (j : Journal) → Held net j → ClosedSets net j
  closed-sets j H = record {
    closed = taken-closed net ok j H;
    descends = λ f c. accepted-answers net (descending f j.lines) j (closed-accepted net ok f j H c);
    taken = closed-taken net ok j H;
    only_one = λ f y z T U. taken-gives net ok j H f y T ∙ sym (taken-gives net ok j H f z U);
  }

  module _ (w : List ℕ) (j : Journal) (H : Held net j) where
    -- ---- the firings that went

    found : Found net ok w j (retreated net w j)
    found = retreats net ok w (length j.lines) j H (omega arith)

    left-lines : (retreated net w j).lines ≡ lines_left (among found.order) j.lines
    left-lines = ap (λ (i : Journal). i.lines) (sym found.gives) ∙ take-lines net found.order j

    stayed : (x : LiveLine) → Mem x (retreated net w j).lines → among found.order x.key ≡ false
    stayed x n = not-true (among found.order x.key) (keep-mem (λ (y : LiveLine). not (among found.order y.key)) j.lines x (rw left-lines at n)).1

    stays : (x : LiveLine) → Mem x j.lines → among found.order x.key ≡ false → Mem x (retreated net w j).lines
    stays x m e = rw left-lines (mem-keep (λ (y : LiveLine). not (among found.order y.key)) j.lines x m (ap not e))

    -- a live firing went exactly if the search took it back
    gone-is : (l : LiveLine) → Mem l j.lines → gone net w j l.key ≡ among found.order l.key
    gone-is l m = go (is_live l.key (retreated net w j).lines) (among found.order l.key) refl refl
      where
        go : (a b : Bool) → is_live l.key (retreated net w j).lines ≡ a → among found.order l.key ≡ b → not a ≡ b
        go true false p q = refl
        go false true p q = refl
        go true true p q =
            let (x, n, e) = any-e (λ (y : LiveLine). same_key y.key l.key) (retreated net w j).lines p in
            both (among found.order l.key) q (ap (among found.order) (sym (same_key_lem x.key l.key e)) ∙ stayed x n)
        go false false p q = both (is_live l.key (retreated net w j).lines) (line-live (retreated net w j).lines l l.key (stays l m q) refl) p

    gone-closed : ClosedUpward j.lines (gone net w j)
    gone-closed l k m n h c e = gone-is k n ∙ accepted-closed net ok found.order j H found.accepted l k m n h c (sym (gone-is l m) ∙ e)

    pub retreated-held : Held net (retreated net w j)
    retreated-held = rw found.gives at (take-held net ok found.order j found.accepted H)

    gone-ends : after net net.start (lines_left (gone net w j) j.lines) ≡ (retreated net w j).marking
    gone-ends = ap (after net net.start) (left-cong (gone net w j) (among found.order) j.lines gone-is ∙ sym left-lines) ∙ sym (held_after net (retreated net w j) retreated-held)

    -- ---- refusal 28

    all_there : no_way net w j ≡ false → AtPlaces net w (retreated net w j).marking
    all_there e = wrong-none net w (retreated net w j).marking
        (eqb-true (wrong_base net w (retreated net w j).marking) net.bases (not-false (eqb (wrong_base net w (retreated net w j).marking) net.bases) e))

    some-way : (f : Key → Bool) → HasEffect net w j f → no_way net w j ≡ false
    some-way f E = fails (no_way net w j) (λ e.
        let p : ℕ = wrong_base net w (retreated net w j).marking in
        let (lt, bad) = wrong-some net w (retreated net w j).marking (eqb-false p net.bases (not-true (eqb p net.bases) e)) in
        both (misfit w (retreated net w j).marking p) bad (found.fits f (effect-wanted net ok w j H f E) p lt))

    -- ---- intersections

    abbrev shared : (Key → Bool) → (Key → Bool) → Key → Bool
    shared f g k = f k && g k

    meets : (f g : Key → Bool) → Wanted net w j f → Wanted net w j g → Wanted net w j (shared f g)
    meets f g F G = (closed, λ p b. ap (λ (s : Marking). misfit w s p) ends ∙ fails (misfit w i.marking p) (λ bad. clash p b bad (top-at sharing p i.lines I.up (moved-there net ok w i I f F' p b bad))))
      where
        closed : ClosedUpward j.lines (shared f g)
        closed l k m n h c e = and_i (f k.key) (g k.key) (F.0 l k m n h c (and_l (f l.key) (g l.key) e)) (G.0 l k m n h c (and_r (f l.key) (g l.key) e))

        -- the members of both are taken back
        i : Journal
        i = takeAll net j (descending (shared f g) j.lines)

        I : Held net i
        I = take-held net ok (descending (shared f g) j.lines) j (closed-accepted net ok (shared f g) j H closed) H

        lines : i.lines ≡ lines_left (shared f g) j.lines
        lines = descending-lines net ok (shared f g) j

        ends : after net net.start (lines_left (shared f g) j.lines) ≡ i.marking
        ends = ap (after net net.start) (sym lines) ∙ sym (held_after net i I)

        F' : Wanted net w i f
        F' = wanted-part net w i j (shared f g) f (λ k e. and_l (f k) (g k) e) lines F

        G' : Wanted net w i g
        G' = wanted-part net w i j (shared f g) g (λ k e. and_r (f k) (g k) e) lines G

        -- the last line that moved a base in a wrong place would be in both, and is left
        clash : (p : ℕ) → p < net.bases → misfit w i.marking p ≡ true → LastTop sharing p i.lines → ⊥
        clash p b bad T =
            let a : f T.line.key ≡ true = last_goes net ok w i I f F' p b bad T.line T.there T.moves T.last in
            let c : g T.line.key ≡ true = last_goes net ok w i I g G' p b bad T.line T.there T.moves T.last in
            let (m, d) = keep-mem (λ (y : LiveLine). not (f y.key && g y.key)) j.lines T.line (rw lines at T.there) in
            both (f T.line.key && g T.line.key) (and_i _ _ a c) (not-true (f T.line.key && g T.line.key) d)

    -- ---- the least set

    way-ends : (play net (undo_commands (way_back net w j)) j).marking ≡ (retreated net w j).marking
    way-ends = taken-gives net ok j H (gone net w j) _ (closed-taken net ok j H (gone net w j) gone-closed) ∙ gone-ends

    pub least-way : LeastWay net w j
    least-way = record {
      meet = λ f g E D. wanted-effect net ok w j H (λ k. f k && g k) (meets f g (effect-wanted net ok w j H f E) (effect-wanted net ok w j H g D));
      falls = descending-falls (gone net w j) j.lines H.up;
      accepted = accepted-answers net (way_back net w j) j (closed-accepted net ok (gone net w j) j H gone-closed);
      ends = way-ends;
      reaches = λ e p h. ap (λ (s : Marking). misfit w s p) way-ends ∙ all_there e p h;
      effect = λ e. wanted-effect net ok w j H (gone net w j) (gone-closed, λ p h. ap (λ (s : Marking). misfit w s p) gone-ends ∙ all_there e p h);
      least = λ f E k m.
          let (l, n, q, d) = descending-mem (gone net w j) j.lines k m in
          found.within f (effect-wanted net ok w j H f E) k (among-mem found.order k (ap (among found.order) (sym q) ∙ sym (gone-is l n) ∙ ap (gone net w j) q ∙ d));
      none = λ e f E. both (no_way net w j) e (some-way f E);
      some = some-way;
    }

  -- ---- of every sound journal

  pub sound-closed-sets : (j : Journal) → sound net j ≡ true → ClosedSets net j
  sound-closed-sets j s = closed-sets j (sound-held net j s)

  pub sound-least-way : (w : List ℕ) (j : Journal) → sound net j ≡ true → LeastWay net w j
  sound-least-way w j s = least-way w j (sound-held net j s)
