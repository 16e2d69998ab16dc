-- Where a transition and a marking are ready: the word of the moved bases holds no base above those of the net.
-- Assumes nothing.
use mathlib.Core.Path.{◌≡◌, refl, sym, ◌∙◌, ap}
use mathlib.Core.Bool.{Bool, false}
use mathlib.Core.List.{List, [], ◌∷◌, ◌++◌}
use Prim.Native.Nat.{ℕ, zero, suc, ◌+◌, ◌-◌, ◌*◌, ◌^◌, ◌<◌, ◌≤◌}
use native.Mathlib.Omega.{arith}
use Rattle.causal.proofs.Tests.{both}
use Rattle.net.specs.Limits.{max_bases}
use Rattle.net.specs.Tests.{pick, table}
use Rattle.net.specs.Net.{Arcs}
use Rattle.net.specs.Connection.{connected}
use Rattle.net.specs.Firing.{moves, moved}
use Rattle.net.specs.declared.Entry.{Entry}
use Rattle.net.proofs.Tests.{fails, any-e}
use Rattle.net.proofs.Tables.{table-cong}
use Rattle.words.specs.Sets.{set_of, packed}
use Rattle.words.proofs.Bits.{packed-set}
use Rattle.marking.specs.declared.Marking.{Marking}
use Rattle.marking.specs.Form.{bonds_of, marking_of}
use Rattle.enabling.specs.Ready.{Ready}
use Rattle.engine.proofs.Sending.{table-split, apart}

packed_none : (k : ℕ) → packed (table k (λ j. false)) ≡ 0
unfolding packed
packed_none zero = refl
packed_none (suc k) = let a = packed_none k in omega arith

packed-end : (l : List Bool) (k : ℕ) → packed (l ++ table k (λ j. false)) ≡ packed l
unfolding packed
packed-end [] k = packed_none k
packed-end (b ∷ l) k = ap (λ (x : ℕ). x * 2 + pick b 1 0) (packed-end l k)

module _ (n : ℕ) (t : Arcs) (m : Marking) (R : Ready n t m) where
  stays : (p : ℕ) → n ≤ p → moves (bonds_of m) t.entries p ≡ false
  stays p h = fails (moves (bonds_of m) t.entries p)
      (λ k. let (e, d, c) = any-e (λ (e : Entry). connected (bonds_of m) e.base p) t.entries k in
      both (connected (bonds_of m) e.base p) c (apart n t m R e d p h))

  pub moved-packed : (w : ℕ) → w < 2 ^ max_bases → set_of max_bases w ≡ table max_bases (moves (bonds_of m) t.entries) → w ≡ packed (moved n t (marking_of n m))
  moved-packed w h e =
      let f = R.few in
      let g : ℕ → Bool = moves (bonds_of m) t.entries in
      let N : max_bases ≡ n + (max_bases - n) = omega arith in
      let high : table (max_bases - n) (λ j. g (n + j)) ≡ table (max_bases - n) (λ j. false) =
      table-cong (max_bases - n) (λ j. g (n + j)) (λ j. false) (λ j _. stays (n + j) (omega arith)) in
      sym (packed-set max_bases w h) ∙ ap packed (e ∙ ap (λ (k : ℕ). table k g) N ∙ table-split n (max_bases - n) g ∙ ap (λ (r : List Bool). table n g ++ r) high)
      ∙ packed-end (table n g) (max_bases - n)
