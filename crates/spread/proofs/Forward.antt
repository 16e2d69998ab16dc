-- The lines that are left run forward, and off what the given one spreads to the end is as it is now (02, T-08).
-- Assumes that the net meets the sheet's rules.
use mathlib.Core.Path.{◌≡◌, refl, sym, ◌∙◌, ap}
use mathlib.Core.Bool.{Bool, true, false, ◌||◌}
use mathlib.Core.List.{List, [], ◌∷◌, ◌++◌}
use Prim.Native.Nat.{ℕ, ◌≤◌}
use native.Mathlib.Omega.{arith}
use lib.ListN.{length}
use Rattle.causal.specs.Reorderings.{Independent}
use Rattle.causal.proofs.Tests.{test}
use Rattle.net.specs.Tests.{pick}
use Rattle.net.specs.Firing.{in_set}
use Rattle.net.specs.Journal.{LiveLine, common}
use Rattle.net.specs.declared.Key.{Key}
use Rattle.net.proofs.Keys.{Up}
use Rattle.words.specs.Sets.{either}
use Rattle.words.proofs.Bits.{either-at}
use Rattle.spread.specs.Depends.{spread, others, spread_of, remaining}
use Rattle.causal.specs.Runs.{Run, AgreeOff, Laws}
use Rattle.causal.proofs.Reorderings.{independent-sym, reordering-same}
use Rattle.causal.proofs.Runs.{run-split, run_join, run-good}
use Rattle.net.specs.Limits.{max_live}
use Rattle.net.specs.Net.{Marking, Net, arcs_of, bond, has_bond, place}
use Rattle.net.specs.Rules.{net_rule}
use Rattle.net.specs.Marking.{Good}
use Rattle.net.specs.Firing.{undo, Fires}
use Rattle.net.specs.Journal.{Journal, highest_live, is_live, line_of}
use Rattle.net.specs.History.{sound}
use Rattle.net.proofs.Tests.{or-no-l, or-no-r}
use Rattle.net.proofs.Claimed.{Forward}
use Rattle.net.proofs.Moves.{view, seen-place, seen_first, seen-second}
use Rattle.net.proofs.Laws.{laws}
use Rattle.net.proofs.Rules.{fits, start-good}
use Rattle.net.proofs.Keys.{live-split, up-distinct}
use Rattle.net.proofs.Journal.{Held}
use Rattle.net.proofs.Demand3.{held_forward}
use Rattle.net.proofs.History.{sound-held}
use Rattle.spread.proofs.Sets.{common-no}
use Rattle.spread.proofs.Left.{rest-mem, rest_up, rest-length, rest-highest}
use Rattle.spread.proofs.Chains.{Facts, facts, spread-split, remaining-split}

-- ---- the run without what depends on a set

module _ (net : Net) (ok : net_rule net ≡ true) where
  L : Laws in_set view (Good net) (Fires net) (λ s a m. undo net.bases (arcs_of net a) m s)
  L = laws net (fits net ok)

  others-run : (m : List Bool) (ls : List LiveLine) (a b a' : Marking) → Good net a → Good net a' → Run (Fires net) a ls b → AgreeOff in_set view m a a'
      → (b' : Marking) × Run (Fires net) a' (others m ls) b' × AgreeOff in_set view (spread m ls) b b'
  others-run m [] a b a' g g' e o = (a', refl, rw (← e) o)
  others-run m (l ∷ ls) a b a' g g' r o = go (common m l.moved) refl (λ k z gz q. others-run k ls r.0 b z (L.good g r.1) gz r.2 q)
    where
      go : (c : Bool) → common m l.moved ≡ c
          → ((k : List Bool) (z : Marking) → Good net z → AgreeOff in_set view k r.0 z → (b' : Marking) × Run (Fires net) z (others k ls) b' × AgreeOff in_set view (spread k ls) b b')
          → (b' : Marking) × Run (Fires net) a' (pick c (others (either m l.moved) ls) (l ∷ others m ls)) b'
          × AgreeOff in_set view (pick c (spread (either m l.moved) ls) (spread m ls)) b b'
      go true e ih = ih (either m l.moved) a' g' (λ p q.
          let q' : (in_set m p || in_set l.moved p) ≡ false = sym (either-at m l.moved p) ∙ q in
          sym (L.frame g r.1 p (or-no-r (in_set m p) (in_set l.moved p) q')) ∙ o p (or-no-l (in_set m p) (in_set l.moved p) q'))
      go false e ih =
          let away : Independent in_set l.moved m = independent-sym in_set {m = m} {n = l.moved} (common-no m l.moved e) in
          let (z, f, ag) = L.local g g' r.1 (λ p q. o p (away p q)) in
          let (b', r', o') = ih m z (L.good g' f) (λ p q. test (in_set l.moved p) (ag p) (λ x. sym (L.frame g r.1 p x) ∙ o p q ∙ L.frame g' f p x)) in
          (b', (z, f, r'), o')

  -- The lines but l and what depends on it run forward, and off what l spreads to the end is as it is now.
  slip-run : (xs ys : List LiveLine) (l : LiveLine) (s z : Marking) → Good net s → Run (Fires net) s (xs ++ l ∷ ys) z
      → (z' : Marking) × Run (Fires net) s (xs ++ others l.moved ys) z' × AgreeOff in_set view (spread l.moved ys) z z'
  slip-run xs ys l s z g r =
      let (y, r₁, r₂) = run-split (Fires net) xs (l ∷ ys) s z r in
      let gy : Good net y = run-good in_set view (Good net) (Fires net) (λ s a m. undo net.bases (arcs_of net a) m s) L xs s y g r₁ in
      let (z', r', o) = others-run l.moved ys r₂.0 z y (L.good gy r₂.1) gy r₂.2 (λ p q. sym (L.frame gy r₂.1 p q)) in
      (z', run_join (Fires net) xs (others l.moved ys) s y z' r₁ r', o)

-- What is proved of every live key of every journal that a record can hold: the set and the lines that remain are by the chain;
-- these run forward, and every base outside the set has there the place and the bonds that it has now.
pub record JournalSlip (net : Net) (j : Journal) (k : Key) : Type 0 where
  pub chain : Facts j.lines (line_of k j.lines) (spread_of k j.lines) (remaining k j.lines)
  pub up : Up (remaining k j.lines)
  pub marking : Marking
  pub forward : Forward net (remaining k j.lines) marking
  pub places : (p : ℕ) → in_set (spread_of k j.lines) p ≡ false → place marking p ≡ place j.marking p
  pub bonds : (p q : ℕ) → in_set (spread_of k j.lines) p ≡ false
      → (has_bond (bond p q) marking.bonds ≡ has_bond (bond p q) j.marking.bonds) × (has_bond (bond q p) marking.bonds ≡ has_bond (bond q p) j.marking.bonds)

module _ (net : Net) (ok : net_rule net ≡ true) (j : Journal) (H : Held net j) (k : Key) where
  slip-of : (l : LiveLine) (xs ys : List LiveLine) → line_of k j.lines ≡ l → j.lines ≡ xs ++ l ∷ ys → l.key.0 ≡ k.0 → JournalSlip net j k
  slip-of l xs ys is q e =
      let u : Up (xs ++ l ∷ ys) = rw q at H.up in
      let S : spread_of k j.lines ≡ spread l.moved ys = ap (spread_of k) q ∙ spread-split k l ys e xs u in
      let R : remaining k j.lines ≡ xs ++ others l.moved ys = ap (remaining k) q ∙ remaining-split k l ys e xs u in
      let F : Facts j.lines (line_of k j.lines) (spread_of k j.lines) (remaining k j.lines) = turned l xs ys is q S R (facts xs ys l u) in
      let (z, r, o) = slip-run net ok xs ys l net.start j.marking (start-good net ok) (rw q at H.run) in
      let few : length (xs ++ l ∷ ys) ≤ max_live = rw q at H.few in
      let top : (highest_live (xs ++ l ∷ ys)).0 ≤ j.given.0 = rw q at H.top in
      let a = rest-length l ys l.moved xs in
      let b = rest-highest l ys l.moved xs in
      let up : Up (xs ++ others l.moved ys) = rest_up l ys l.moved xs u in
      let I : Held net (record { marking = z; lines = xs ++ others l.moved ys; given = j.given }) = record {
        run = r;
        up = up;
        few = omega arith;
        top = omega arith;
        low = H.low;
        above = λ x h. H.above x (rw q (rest-mem l ys l.moved xs x h));
      } in
      let fw : Forward net (xs ++ others l.moved ys) z =
      held_forward net ok (record { marking = z; lines = xs ++ others l.moved ys; given = j.given }) I (xs ++ others l.moved ys) (reordering-same in_set (xs ++ others l.moved ys) (up-distinct (xs ++ others l.moved ys) up)) in
      record {
        chain = F;
        up = rw R up;
        marking = z;
        forward = rw R fw;
        places = λ p h. sym (seen-place j.marking z p (o p (rw S at h)));
        bonds = λ p b h. (sym (seen_first j.marking z p (o p (rw S at h)) b), sym (seen-second j.marking z p (o p (rw S at h)) b));
      }
    where
      turned : (l : LiveLine) (xs ys : List LiveLine) → line_of k j.lines ≡ l → j.lines ≡ xs ++ l ∷ ys → spread_of k j.lines ≡ spread l.moved ys → remaining k j.lines ≡ xs ++ others l.moved ys
          → Facts (xs ++ l ∷ ys) l (spread l.moved ys) (xs ++ others l.moved ys) → Facts j.lines (line_of k j.lines) (spread_of k j.lines) (remaining k j.lines)
      turned l xs ys is q S R F = rw (is, S, R) (rw q F)

  pub slip : is_live k j.lines ≡ true → JournalSlip net j k
  slip live = let (xs, ys, q, e) = live-split k j.lines live in slip-of (line_of k j.lines) xs ys refl q e

pub sound-slip : (net : Net) → net_rule net ≡ true → (j : Journal) → sound net j ≡ true → (k : Key) → is_live k j.lines ≡ true → JournalSlip net j k
sound-slip net ok j s k live = slip net ok j (sound-held net j s) k live
