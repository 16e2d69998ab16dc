-- What the local laws of one step give, for any number of steps: taking back a line on which nothing later depends,
-- swapping independent neighbours, running any reordering. Assumes nothing but the laws handed in.
use mathlib.Core.Path.{◌≡◌, refl, sym, ◌∙◌}
use mathlib.Core.Bool.{Bool}
use mathlib.Core.List.{List, [], ◌∷◌, ◌++◌}
use Rattle.causal.specs.Reorderings.{Line, DistinctKeys, Independent, IndependentOfAll, Reordering, Swapped, stay, swap, under, chain}
use Rattle.causal.specs.Runs.{Run, AgreeOn, AgreeOff, Laws}
use Rattle.causal.proofs.Tests.{test}
use Rattle.causal.proofs.Reorderings.{independent-sym, reordering-swapped}

module _ {S A K M : Type 0} (Fires : S → A → M → S → Type 0) where
  -- A run of two stretches is a run of the one and then of the other.
  pub run-split : (ls ms : List (Line A K M)) (s z : S) → Run Fires s (ls ++ ms) z → (y : S) × Run Fires s ls y × Run Fires y ms z
  run-split [] ms s z r = (s, refl, r)
  run-split (l ∷ ls) ms s z r = let (y, r₁, r₂) = run-split ls ms r.0 z r.2 in (y, (r.0, r.1, r₁), r₂)

  pub run_join : (ls ms : List (Line A K M)) (s y z : S) → Run Fires s ls y → Run Fires y ms z → Run Fires s (ls ++ ms) z
  run_join [] ms s y z e r = rw e r
  run_join (l ∷ ls) ms s y z r r' = (r.0, r.1, run_join ls ms r.0 y z r.2 r')

module _ {S A K M P W : Type 0} (has : M → P → Bool) (view : S → P → W) (Good : S → Type 0) (Fires : S → A → M → S → Type 0) (undo : S → A → M → S) where
  module _ (L : Laws has view Good Fires undo) where
    -- Firings that touch no part of m go the same way from two states that differ on m alone, and leave m as it was.
    pub shift : (m : M) (ls : List (Line A K M)) (a b a' : S) → Good a → Good a' → Run Fires a ls b → AgreeOff has view m a a' → IndependentOfAll has m ls
        → (b' : S) × Good b' × Run Fires a' ls b' × AgreeOff has view m b b' × AgreeOn has view m a b × AgreeOn has view m a' b'
    shift m [] a b a' g g' e o h = (a', g', refl, rw (← e) o, (λ p _. rw e), λ p _. refl)
    shift m (l ∷ ls) a b a' g g' r o h =
        let n : M = l.moved in
        let away : Independent has n m = independent-sym has h.0 in
        let (z, f, ag) = L.local g g' r.1 (λ p q. o p (away p q)) in
        let fr : AgreeOff has view n a r.0 = L.frame g r.1 in
        let fr' : AgreeOff has view n a' z = L.frame g' f in
        let o₁ : AgreeOff has view m r.0 z = λ p q. test (has n p) (ag p) (λ e. sym (fr p e) ∙ o p q ∙ fr' p e) in
        let (b', g₁, r', o₂, u, u') = shift m ls r.0 b z (L.good g r.1) (L.good g' f) r.2 o₁ h.1 in
        (b', g₁, (z, f, r'), o₂, (λ p q. fr p (h.0 p q) ∙ u p q), λ p q. fr' p (h.0 p q) ∙ u' p q)

    pub run-good : (ls : List (Line A K M)) (s z : S) → Good s → Run Fires s ls z → Good z
    run-good [] s z g e = rw (← e) g
    run-good (l ∷ ls) s z g r = run-good ls r.0 z (L.good g r.1) r.2

    -- Taking back a line: what is left, run forward alone, ends in what taking back gives.
    pub take_back : (ls ms : List (Line A K M)) (l : Line A K M) (s z : S) → Good s → Run Fires s (ls ++ l ∷ ms) z → IndependentOfAll has l.moved ms
        → Run Fires s (ls ++ ms) (undo z l.transition l.moved)
    take_back ls ms l s z g r h =
        let m : M = l.moved in
        let (y, r₁, r₂) = run-split Fires ls (l ∷ ms) s z r in
        let gy : Good y = run-good ls s y g r₁ in
        let f : Fires y l.transition m r₂.0 = r₂.1 in
        let gx : Good r₂.0 = L.good gy f in
        let (w, gw, rw', o, u, u') = shift m ms r₂.0 z y gx gy r₂.2 (λ p q. sym (L.frame gy f p q)) h in
        let (gu, on, off) = L.back gy (run-good ms r₂.0 z gx r₂.2) f u in
        let same : w ≡ undo z l.transition m =
        L.ext w (undo z l.transition m) gw gu (λ p. test (has m p) (λ e. sym (u' p e) ∙ on p e) (λ e. sym (o p e) ∙ off p e)) in
        rw (← same) (run_join Fires ls ms s y w r₁ rw')

    -- Two neighbours that moved no common part change places.
    pub run-swap : (l k : Line A K M) (ls : List (Line A K M)) (s z : S) → Good s → Independent has l.moved k.moved → Run Fires s (l ∷ k ∷ ls) z → Run Fires s (k ∷ l ∷ ls) z
    run-swap l k ls s z g h r =
        let m : M = l.moved in
        let n : M = k.moved in
        let s₁ : S = r.0 in
        let s₂ : S = r.2.0 in
        let f₁ : Fires s l.transition m s₁ = r.1 in
        let f₂ : Fires s₁ k.transition n s₂ = r.2.1 in
        let g₁ : Good s₁ = L.good g f₁ in
        let away : Independent has n m = independent-sym has h in
        let fr₁ : AgreeOff has view m s s₁ = L.frame g f₁ in
        let fr₂ : AgreeOff has view n s₁ s₂ = L.frame g₁ f₂ in
        let (t₁, e₁, ag₁) = L.local g₁ g f₂ (λ p q. sym (fr₁ p (away p q))) in
        let gt₁ : Good t₁ = L.good g e₁ in
        let fe₁ : AgreeOff has view n s t₁ = L.frame g e₁ in
        let (t₂, e₂, ag₂) = L.local g gt₁ f₁ (λ p q. fe₁ p (h p q)) in
        let fe₂ : AgreeOff has view m t₁ t₂ = L.frame gt₁ e₂ in
        let same : s₂ ≡ t₂ = L.ext s₂ t₂ (L.good g₁ f₂) (L.good gt₁ e₂) (λ p. test (has m p) (λ e. sym (fr₂ p (h p e)) ∙ ag₂ p e) (λ e.
        test (has n p) (λ d. ag₁ p d ∙ fe₂ p e) (λ d. sym (fr₂ p d) ∙ sym (fr₁ p e) ∙ fe₁ p d ∙ fe₂ p e))) in
        (t₁, e₁, (t₂, e₂, rw same at r.2.2))

    pub swapped-run : {ls ms : List (Line A K M)} → Swapped has ls ms → (s z : S) → Good s → Run Fires s ls z → Run Fires s ms z
    swapped-run stay s z g r = r
    swapped-run (swap {l = l} {k = k} {ls = ls} h) s z g r = run-swap l k ls s z g h r
    swapped-run (under t) s z g r = (r.0, r.1, swapped-run t r.0 z (L.good g r.1) r.2)
    swapped-run (chain t u) s z g r = swapped-run u s z g (swapped-run t s z g r)

    -- Every reordering of the lines runs forward to the same end.
    pub reordered-run : (ls ms : List (Line A K M)) → DistinctKeys ls → Reordering has ls ms → (s z : S) → Good s → Run Fires s ls z → Run Fires s ms z
    reordered-run ls ms d R s z g r = swapped-run (reordering-swapped has ms ls d R) s z g r
