-- Refusal 16, as the code tests it: once all entries were sent, an entry's base is not at its out-place.
-- Assumes nothing. N is the number of labels.
use mathlib.Core.Path.{◌≡◌, refl, sym, ◌∙◌, ap}
use mathlib.Core.Logic.{◌⊎◌, inl, inr}
use mathlib.Core.Bool.{Bool, true, false, not, ◌&&◌, ◌||◌}
use mathlib.Core.List.{List, [], ◌∷◌}
use Prim.Native.Nat.{ℕ, ◌<◌}
use native.Mathlib.Omega.{arith}
use lib.Dec.{eqb}
use lib.ListN.{length, get_or}
use borrow.Author.Tests.{eqb-true, eqb-false, eq-eqb, ne_eqb, not-true}
use Rattle.causal.specs.Lists.{Mem}
use Rattle.causal.proofs.Tests.{test}
use Rattle.net.specs.Tests.{any, table}
use Rattle.net.specs.Net.{Arcs}
use Rattle.net.specs.Connection.{connected}
use Rattle.net.specs.Firing.{torn_with}
use Rattle.net.specs.declared.Bond.{Bond}
use Rattle.net.specs.declared.Entry.{Entry}
use Rattle.net.proofs.Tests.{same_test, and_l, and_r, and_i, any-e, any-i, any-cong}
use Rattle.net.proofs.Tables.{get_d-table}
use Rattle.labels.specs.Labelled.{label_in, Parted}
use Rattle.groups.specs.Groups.{firsts, side}

-- by labels: two entries with different out-places have bases with one label
abbrev torn_in : (ℕ → ℕ) → List Entry → Bool
torn_in lab es = any (λ (e : Entry). any (λ (d : Entry). eqb (lab e.base) (lab d.base) && not (eqb e.to d.to)) es) es

module _ (lab : ℕ → ℕ) where
  abbrev to : List Entry → ℕ → ℕ → ℕ
  to es d x = firsts (side false) lab es d x

  -- where an entry has the label, what stood there plays no part
  first_any : (es : List Entry) (d c : ℕ) (e : Entry) → Mem e es → to es d (lab e.base) ≡ to es c (lab e.base)
  first_any [] d c e m = absurd m
  first_any (a ∷ es) d c e m = test (eqb (lab a.base) (lab e.base)) (λ k. rw k) (λ k. later k (first_any es d c e) m)
    where
      later : eqb (lab a.base) (lab e.base) ≡ false → (Mem e es → to es d (lab e.base) ≡ to es c (lab e.base)) → (e ≡ a) ⊎ Mem e es
          → to (a ∷ es) d (lab e.base) ≡ to (a ∷ es) c (lab e.base)
      later k ih (inl q) = absurd (eqb-false (lab a.base) (lab e.base) k (ap (λ (z : Entry). lab z.base) (sym q)))
      later k ih (inr r) = rw k (ih r)

  -- and the first that has it gives what is found
  first-has : (es : List Entry) (d : ℕ) (e : Entry) → Mem e es → (w : Entry) × Mem w es × (lab w.base ≡ lab e.base) × (to es d (lab e.base) ≡ w.to)
  first-has [] d e m = absurd m
  first-has (a ∷ es) d e m = test (eqb (lab a.base) (lab e.base))
      (λ k. (a, inl refl, eqb-true (lab a.base) (lab e.base) k, rw k))
      (λ k. later k (first-has es d e) m)
    where
      later : eqb (lab a.base) (lab e.base) ≡ false
          → (Mem e es → (w : Entry) × Mem w es × (lab w.base ≡ lab e.base) × (to es d (lab e.base) ≡ w.to)) → (e ≡ a) ⊎ Mem e es
          → (w : Entry) × Mem w (a ∷ es) × (lab w.base ≡ lab e.base) × (to (a ∷ es) d (lab e.base) ≡ w.to)
      later k ih (inl q) = absurd (eqb-false (lab a.base) (lab e.base) k (ap (λ (z : Entry). lab z.base) (sym q)))
      later k ih (inr r) = let (w, u, v, z) = ih r in (w, inr u, v, rw k z)

  torn-first : (es : List Entry) (old : ℕ → ℕ) → any (λ (e : Entry). not (eqb e.to (to es (old e.base) (lab e.base)))) es ≡ torn_in lab es
  torn-first es old = any-cong (λ (e : Entry). not (eqb e.to (to es (old e.base) (lab e.base)))) (λ (e : Entry). not (eqb e.to (first e))) es
      (λ e m. ap (λ (x : ℕ). not (eqb e.to x)) (first_any es (old e.base) 0 e m))
      ∙ same_test (any (λ (e : Entry). not (eqb e.to (first e))) es) (any pairs es) one two
    where
      first : Entry → ℕ
      first e = to es 0 (lab e.base)

      pairs : Entry → Bool
      pairs e = any (λ (d : Entry). eqb (lab e.base) (lab d.base) && not (eqb e.to d.to)) es

      one : any (λ (e : Entry). not (eqb e.to (first e))) es ≡ true → any pairs es ≡ true
      one h =
          let (e, m, k) = any-e (λ (x : Entry). not (eqb x.to (first x))) es h in
          let (w, u, v, z) = first-has es 0 e m in
          any-i pairs es e m (any-i (λ (d : Entry). eqb (lab e.base) (lab d.base) && not (eqb e.to d.to)) es w u
          (and_i (eqb (lab e.base) (lab w.base)) (not (eqb e.to w.to)) (eq-eqb (lab e.base) (lab w.base) (sym v)) (ap (λ (x : ℕ). not (eqb e.to x)) (sym z) ∙ k)))

      two : any pairs es ≡ true → any (λ (e : Entry). not (eqb e.to (first e))) es ≡ true
      two h =
          let (e, m, k) = any-e pairs es h in
          let (d, u, v) = any-e (λ (x : Entry). eqb (lab e.base) (lab x.base) && not (eqb e.to x.to)) es k in
          let same : lab e.base ≡ lab d.base = eqb-true (lab e.base) (lab d.base) (and_l (eqb (lab e.base) (lab d.base)) (not (eqb e.to d.to)) v) in
          let differ : eqb e.to d.to ≡ false = not-true (eqb e.to d.to) (and_r (eqb (lab e.base) (lab d.base)) (not (eqb e.to d.to)) v) in
          test (eqb e.to (first e))
          (λ p. any-i (λ (x : Entry). not (eqb x.to (first x))) es d u (ap not (ne_eqb d.to (first d) (λ q. eqb-false e.to d.to differ
          (eqb-true e.to (first e) p ∙ ap (to es 0) same ∙ sym q)))))
          (λ p. any-i (λ (x : Entry). not (eqb x.to (first x))) es e m (ap not p))

-- ---- labels that are a partition by the bonds

module _ (N : ℕ) (l : List ℕ) (t : Arcs) (bs : List Bond) (P : Parted N l bs) (h : (e : Entry) → Mem e t.entries → e.base < N) where
  torn-parted : torn_in (label_in l) t.entries ≡ torn_with t bs
  torn-parted = any-cong (λ (e : Entry). any (λ (d : Entry). eqb (label_in l e.base) (label_in l d.base) && not (eqb e.to d.to)) t.entries)
      (λ (e : Entry). any (λ (d : Entry). connected bs e.base d.base && not (eqb e.to d.to)) t.entries) t.entries
      (λ e m. any-cong (λ (d : Entry). eqb (label_in l e.base) (label_in l d.base) && not (eqb e.to d.to))
      (λ (d : Entry). connected bs e.base d.base && not (eqb e.to d.to)) t.entries
      (λ d k. ap (λ (x : Bool). x && not (eqb e.to d.to)) (P.says e.base d.base (h e m) (h d k))))

  -- once all entries were sent in a copy of the places
  pub torn-sent : (old next : List ℕ) → next ≡ table N (λ p. firsts (side false) (label_in l) t.entries (get_or old p 0) (label_in l p))
      → any (λ (e : Entry). not (eqb e.to (get_or next e.base 0))) t.entries ≡ torn_with t bs
  torn-sent old next q =
      let g : ℕ → ℕ = λ p. firsts (side false) (label_in l) t.entries (get_or old p 0) (label_in l p) in
      any-cong (λ (e : Entry). not (eqb e.to (get_or next e.base 0))) (λ (e : Entry). not (eqb e.to (g e.base))) t.entries
      (λ e m. ap (λ (x : ℕ). not (eqb e.to x)) (ap (λ (r : List ℕ). get_or r e.base 0) q ∙ get_d-table N g e.base 0 (h e m)))
      ∙ torn-first (label_in l) t.entries (λ p. get_or old p 0) ∙ torn-parted

-- one entry has none to differ from
pub few-together : (t : Arcs) (bs : List Bond) (n : ℕ) → n ≡ length t.entries → n < 2 → false ≡ torn_with t bs
few-together t bs n e h = go t.entries (let z = e in omega arith)
  where
    go : (es : List Entry) → length es < 2 → false ≡ any (λ (e : Entry). any (λ (d : Entry). connected bs e.base d.base && not (eqb e.to d.to)) es) es
    go [] h = refl
    go (a ∷ []) h = rw (eq-eqb a.to a.to refl) (sym (none (connected bs a.base a.base)))
      where
        none : (b : Bool) → (b && false || false || false) ≡ false
        none true = refl
        none false = refl
    go (a ∷ b ∷ es) h = absurd (let z : ⊥ = omega arith in z)
