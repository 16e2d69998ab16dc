-- Laws of the word of the moved bases: the union of the sets of the groups that entries hit.
-- Assumes nothing.
use mathlib.Core.Path.{◌≡◌, sym, ◌∙◌, ap, subst}
use mathlib.Core.Logic.{inl, inr}
use mathlib.Core.Bool.{Bool, ◌||◌}
use mathlib.Core.List.{List}
use Prim.Native.Nat.{ℕ, zero, suc, ◌+◌, ◌<◌}
use native.Mathlib.Omega.{arith}
use lib.Dec.{eqb}
use Rattle.causal.specs.Lists.{Mem}
use Rattle.net.specs.Tests.{any, table}
use Rattle.net.specs.Connection.{connected}
use Rattle.net.specs.Firing.{moves}
use Rattle.net.specs.declared.Bond.{Bond}
use Rattle.net.specs.declared.Entry.{Entry}
use Rattle.net.proofs.Tests.{any-cong}
use Rattle.net.proofs.Tables.{table-cong, any-more}
use Rattle.words.specs.Sets.{set_of, either}
use Rattle.words.proofs.Bits.{either-table}
use Rattle.labels.specs.Labelled.{label_in, Parted}

-- what holds of all elements of a table
pub table-each : {X : Type 0} (Q : X → Type 0) (n : ℕ) (f : ℕ → X) → ((i : ℕ) → i < n → Q (f i)) → (x : X) → Mem x (table n f) → Q x
table-each Q zero f h x m = absurd m
table-each Q (suc n) f h x (inl e) = subst Q (sym e) (h zero (omega arith))
table-each Q (suc n) f h x (inr m) = table-each Q n (λ i. f (suc i)) (λ i k. h (suc i) (omega arith)) x m

-- an entry hits the group of p
abbrev pub moves_by : (ℕ → ℕ) → List Entry → ℕ → Bool
moves_by lab es p = any (λ (e : Entry). eqb (lab e.base) (lab p)) es

pub moves-parted : (N : ℕ) (l : List ℕ) (bs : List Bond) → Parted N l bs → (es : List Entry) → ((e : Entry) → Mem e es → e.base < N)
    → table N (moves_by (label_in l) es) ≡ table N (moves bs es)
moves-parted N l bs P es h = table-cong N (moves_by (label_in l) es) (moves bs es)
    (λ p k. any-cong (λ (e : Entry). eqb (label_in l e.base) (label_in l p)) (λ (e : Entry). connected bs e.base p) es (λ e m. P.says e.base p (h e m) k))

-- one entry more: r is the union of w and of the set of its group
pub moves-turn : (N : ℕ) (lab : ℕ → ℕ) (i : ℕ) (f : ℕ → Entry) (e : Entry) (w m r : ℕ) → e ≡ f i → set_of N w ≡ table N (moves_by lab (table i f))
    → set_of N m ≡ table N (λ q. eqb (lab e.base) (lab q)) → set_of N r ≡ either (set_of N w) (set_of N m)
    → set_of N r ≡ table N (moves_by lab (table (i + 1) f))
moves-turn N lab i f e w m r q a b c =
    c ∙ (λ j. either (a j) (b j)) ∙ either-table N (moves_by lab (table i f)) (λ p. eqb (lab e.base) (lab p))
    ∙ table-cong N (λ p. moves_by lab (table i f) p || eqb (lab e.base) (lab p)) (moves_by lab (table (i + 1) f))
    (λ p _. ap (λ (d : Entry). moves_by lab (table i f) p || eqb (lab d.base) (lab p)) q ∙ sym (any-more (λ (d : Entry). eqb (lab d.base) (lab p)) i f))
