-- Labels by the bonds that a transition does not break (02, T-07): one bond after the other, those that it breaks left out.
-- Assumes nothing.
use mathlib.Core.Path.{◌≡◌, refl, sym, ◌∙◌, ap, subst}
use mathlib.Core.Bool.{Bool, true, false, not, ◌||◌}
use mathlib.Core.List.{List, [], ◌∷◌, ◌++◌}
use Prim.Native.Nat.{ℕ, ◌+◌}
use Rattle.net.specs.Tests.{pick, keep, table}
use Rattle.net.specs.Sorted.{put}
use Rattle.net.specs.Net.{Arcs, same_bond, less_bond, has_bond}
use Rattle.net.specs.Firing.{broken_bond, breaks_none}
use Rattle.net.specs.declared.Bond.{Bond}
use Rattle.net.proofs.Tests.{keep-cong, keep-yes}
use Rattle.net.proofs.Uncoupling.{kept-none}
use Rattle.net.proofs.Tables.{table_more}
use Rattle.net.proofs.Sorted.{has-put}
use Rattle.net.proofs.Bonds.{bond-order}
use Rattle.labels.specs.Labelled.{Labelled}
use Rattle.labels.proofs.Joining.{connected-same}

-- labels of bonds are labels of any list that has the same ones
pub labelled-same : (l m : List ℕ) (bs cs : List Bond) → ((b : Bond) → has_bond b bs ≡ has_bond b cs) → Labelled l m bs → Labelled l m cs
labelled-same l m bs cs h L = record {
  parted = record { size = L.parted.size; low = L.parted.low; says = λ p q u v. L.parted.says p q u v ∙ connected-same bs cs h p q };
  size = L.size;
  holds = L.holds;
}

pub labelled-is : (l m : List ℕ) (bs cs : List Bond) → bs ≡ cs → Labelled l m bs → Labelled l m cs
labelled-is l m bs cs e = subst (λ (x : List Bond). Labelled l m x) e

-- a transition that breaks nothing leaves all bonds
pub left-all : (t : Arcs) → breaks_none t ≡ true → (bs : List Bond) → keep (λ (b : Bond). not (broken_bond t b)) bs ≡ bs
left-all t h bs = keep-cong (λ (b : Bond). not (broken_bond t b)) (λ (b : Bond). true) bs (λ b _. ap not (kept-none t h b)) ∙ keep-yes bs

module _ (t : Arcs) where
  abbrev left : List Bond → List Bond
  left bs = keep (λ (b : Bond). not (broken_bond t b)) bs

  keep_append : (f : Bond → Bool) (xs ys : List Bond) → keep f (xs ++ ys) ≡ keep f xs ++ keep f ys
  keep_append f [] ys = refl
  keep_append f (x ∷ xs) ys = go (f x) (keep_append f xs ys)
    where
      go : (b : Bool) → keep f (xs ++ ys) ≡ keep f xs ++ keep f ys → pick b (x ∷ keep f (xs ++ ys)) (keep f (xs ++ ys)) ≡ pick b (x ∷ keep f xs) (keep f xs) ++ keep f ys
      go true e = ap (λ (l : List Bond). x ∷ l) e
      go false e = e

  has-append : (z : Bond) (xs ys : List Bond) → has_bond z (xs ++ ys) ≡ (has_bond z xs || has_bond z ys)
  has-append z [] ys = refl
  has-append z (x ∷ xs) ys = go (same_bond z x) (has-append z xs ys)
    where
      go : (b : Bool) → has_bond z (xs ++ ys) ≡ (has_bond z xs || has_bond z ys) → (b || has_bond z (xs ++ ys)) ≡ ((b || has_bond z xs) || has_bond z ys)
      go true e = refl
      go false e = e

  -- one bond more, unless it is broken
  pub left-turn : (i : ℕ) (f : ℕ → Bond) (b : Bond) → b ≡ f i → (z : Bond)
      → has_bond z (pick (broken_bond t b) (left (table i f)) (put same_bond less_bond b (left (table i f)))) ≡ has_bond z (left (table (i + 1) f))
  left-turn i f b e z = go (broken_bond t b) refl ∙ sym (ap (λ (l : List Bond). has_bond z (left l)) (table_more i f ∙ ap (λ (c : Bond). table i f ++ (c ∷ [])) (sym e)) ∙ ap (has_bond z) (keep_append (λ (c : Bond). not (broken_bond t c)) (table i f) (b ∷ [])) ∙ has-append z (left (table i f)) (left (b ∷ [])))
    where
      swap : (x y : Bool) → (x || y) ≡ (y || (x || false))
      swap true true = refl
      swap true false = refl
      swap false true = refl
      swap false false = refl

      none : (x : Bool) → x ≡ (x || false)
      none true = refl
      none false = refl

      go : (g : Bool) → broken_bond t b ≡ g → has_bond z (pick g (left (table i f)) (put same_bond less_bond b (left (table i f)))) ≡ (has_bond z (left (table i f)) || has_bond z (left (b ∷ [])))
      go true q = none (has_bond z (left (table i f))) ∙ ap (λ (c : Bool). has_bond z (left (table i f)) || has_bond z (pick (not c) (b ∷ []) [])) (sym q)
      go false q = has-put same_bond less_bond bond-order z b (left (table i f)) ∙ swap (same_bond z b) (has_bond z (left (table i f))) ∙ ap (λ (c : Bool). has_bond z (left (table i f)) || has_bond z (pick (not c) (b ∷ []) [])) (sym q)
