-- The keys that went, from the last down, as a loop over a place stores them.
-- Assumes nothing.
use mathlib.Core.Path.{◌≡◌, refl, sym, ◌∙◌, ap}
use mathlib.Core.Bool.{Bool, true, false, not}
use mathlib.Core.List.{List, [], ◌∷◌, ◌++◌, append_assoc, append-nil}
use Prim.Native.Nat.{ℕ, suc, ◌+◌, ◌<◌, ◌≤◌}
use native.Mathlib.Omega.{arith}
use lib.ListN.{get_or, length, set, replicate, length-append}
use Rattle.net.specs.Limits.{max_live}
use Rattle.net.specs.Tests.{pick}
use Rattle.net.specs.Journal.{LiveLine, key, no_line}
use Rattle.net.specs.declared.Key.{Key}
use Rattle.marking.specs.Form.{padWith}
use Rattle.marking.proofs.Padding.{pad-more, pad-same}
use Rattle.way_back.specs.Ways.{descending_to, descending}
use Rattle.way_back.specs.Answer.{way_of}
use Rattle.net.specs.declared.Verdict.TheVariants.{Accepted}

-- g says which keys went
module _ (g : Key → Bool) (ls : List LiveLine) where
  -- Before the turn for the line at i - 1: the keys stored so far and those that are to come are all.
  pub record InHand (i : ℕ) (keys : List Key) (count : ℕ) : Type 0 where
    pub stored : List Key
    pub all-of-them : stored ++ descending_to g ls i ≡ descending g ls
    pub laid : keys ≡ padWith (key 0) max_live stored
    pub counted : count ≡ length stored
    pub few : count + i ≤ length ls

  pub hand-none : (i : ℕ) → i ≡ length ls → (keys : List Key) → keys ≡ replicate max_live (key 0) → InHand i keys 0
  hand-none i s keys e = record { stored = []; all-of-them = ap (descending_to g ls) s; laid = e; counted = refl; few = omega arith }

  -- the line at i has the key k, and `here` says that it did not go
  module _ (i : ℕ) (k : Key) (at : (get_or ls i no_line).key ≡ k) where
    one_more : (b : Bool) → g k ≡ b → descending_to g ls (suc i) ≡ pick b (k ∷ descending_to g ls i) (descending_to g ls i)
    one_more b e = (λ x. pick (g (at x)) (at x ∷ descending_to g ls i) (descending_to g ls i)) ∙ ap (λ (c : Bool). pick c (k ∷ descending_to g ls i) (descending_to g ls i)) e

    pub hand-turn : (keys : List Key) (count : ℕ) → length ls ≤ max_live → InHand (suc i) keys count
        → (here : Bool) → g k ≡ not here → (y : Key) → y ≡ pick here (key 0) k → (n : ℕ) → n ≡ pick here 0 1 → InHand i (set keys count y) (count + n)
    hand-turn keys count room H true e y ey n en =
        let h : List Key = H.stored in
        let c : length h < max_live = (let a = H.few in let b = H.counted in omega arith) in
        record {
          stored = h;
          all-of-them = ap (λ (r : List Key). h ++ r) (sym (one_more false e)) ∙ H.all-of-them;
          laid = (λ x. set (H.laid x) (H.counted x) (ey x)) ∙ pad-more (key 0) max_live h (key 0) c ∙ pad-same (key 0) max_live h c;
          counted = (let a = H.counted in omega arith);
          few = (let a = H.few in omega arith);
        }
    hand-turn keys count room H false e y ey n en =
        let h : List Key = H.stored in
        let c : length h < max_live = (let a = H.few in let b = H.counted in omega arith) in
        record {
          stored = h ++ (k ∷ []);
          all-of-them = append_assoc h (k ∷ []) (descending_to g ls i) ∙ ap (λ (r : List Key). h ++ r) (sym (one_more true e)) ∙ H.all-of-them;
          laid = (λ x. set (H.laid x) (H.counted x) (ey x)) ∙ pad-more (key 0) max_live h k c;
          counted = (let a = H.counted in let b = length-append h (k ∷ []) in omega arith);
          few = (let a = H.few in omega arith);
        }

  pub hand-all : (i : ℕ) (keys : List Key) (count : ℕ) → i ≡ 0 → InHand i keys count → record { answer = Accepted; count = count; keys = keys } ≡ way_of (descending g ls)
  hand-all i keys count e H =
      let q : H.stored ≡ descending g ls = sym (append-nil H.stored) ∙ ap (λ (n : ℕ). H.stored ++ descending_to g ls n) (sym e) ∙ H.all-of-them in
      λ x. record { answer = Accepted; count = (H.counted ∙ ap length q) x; keys = (H.laid ∙ ap (padWith (key 0) max_live) q) x }
