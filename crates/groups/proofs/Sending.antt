-- Laws of a list of places sent entry by entry, from the last to the first: what each element is then. And any labels that
-- are a partition by the bonds send bases along the bonds. Assumes nothing. N is the length.
use mathlib.Core.Path.{◌≡◌, refl, sym, ◌∙◌, ap}
use mathlib.Core.Logic.{inl, inr}
use mathlib.Core.Bool.{Bool, true, false, ◌&&◌}
use mathlib.Core.List.{List, [], ◌∷◌}
use Prim.Native.Nat.{ℕ, ◌-◌, ◌<◌, ◌≤◌}
use native.Mathlib.Omega.{arith}
use lib.Dec.{eqb}
use lib.ListN.{length, get_or, drop, drop_of_length-le}
use Rattle.causal.specs.Lists.{Mem}
use Rattle.net.specs.Tests.{pick, table}
use Rattle.net.specs.Firing.{sent}
use Rattle.net.specs.declared.Bond.{Bond}
use Rattle.net.specs.declared.Entry.{Entry}
use Rattle.net.proofs.Tests.{pick_same}
use Rattle.net.proofs.Tables.{length-table, get_d-table, table-cong, table-list}
use Rattle.words.specs.Sets.{inside}
use Rattle.words.proofs.Bits.{inside-e}
use Rattle.bonds.proofs.Fill.{drop-back}
use Rattle.labels.specs.Labelled.{label_in, Parted}
use Rattle.groups.specs.Groups.{firsts}

-- an entry sends of its group what may go, on top of what the later ones sent
one_more : (may own : Bool) (v x old : ℕ) → pick (may && own) v (pick may x old) ≡ pick may (pick own v x) old
one_more true true v x old = refl
one_more true false v x old = refl
one_more false own v x old = refl

-- the bases of `may` go, the others stay
module _ (N n : ℕ) (may : ℕ → Bool) (give : Entry → ℕ) (lab : ℕ → ℕ) (f : ℕ → Entry) (l₀ : List ℕ) where
  -- where p is once the entries es were looked at
  abbrev place : List Entry → ℕ → ℕ
  place es p = pick (may p) (firsts give lab es (get_or l₀ p 0) (lab p)) (get_or l₀ p 0)

  -- the list where the entries from L on were looked at
  abbrev pub sentFrom : ℕ → List ℕ
  sentFrom L = table N (place (drop L (table n f)))

  pub sent-none : (L : ℕ) → L ≡ n → length l₀ ≡ N → l₀ ≡ sentFrom L
  sent-none L e s =
      let h : length (table n f) ≤ L = rw (length-table n f) (omega arith) in
      sym (table-list l₀ 0) ∙ ap (λ (k : ℕ). table k (λ p. get_or l₀ p 0)) s
      ∙ table-cong N (λ p. get_or l₀ p 0) (place []) (λ p _. sym (pick_same (may p) (get_or l₀ p 0)))
      ∙ ap (λ (es : List Entry). table N (place es)) (sym (drop_of_length-le (table n f) h))

  pub sent-turn : (L : ℕ) (e : Entry) (x v : ℕ) (l k : List ℕ) → 0 < L → L ≤ n → e ≡ f (L - 1) → x ≡ lab e.base → v ≡ give e
      → l ≡ sentFrom L → k ≡ table N (λ p. pick (may p && eqb x (lab p)) v (get_or l p 0)) → k ≡ sentFrom (L - 1)
  sent-turn L e x v l k a b q u w z y =
      y
      ∙ table-cong N (λ p. pick (may p && eqb x (lab p)) v (get_or l p 0)) (place (e ∷ drop L (table n f)))
      (λ p h. (λ i. pick (may p && eqb (u i) (lab p)) (w i) (get_or l p 0)) ∙ ap (λ (o : ℕ). pick (may p && eqb (lab e.base) (lab p)) (give e) o)
      (ap (λ (r : List ℕ). get_or r p 0) z ∙ get_d-table N (place (drop L (table n f))) p 0 h)
      ∙ one_more (may p) (eqb (lab e.base) (lab p)) (give e) (firsts give lab (drop L (table n f)) (get_or l₀ p 0) (lab p)) (get_or l₀ p 0))
      ∙ ap (λ (es : List Entry). table N (place es)) (ap (λ (d : Entry). d ∷ drop L (table n f)) q ∙ sym (drop-back n L f a b))

  pub sent-length : (L : ℕ) (l : List ℕ) → l ≡ sentFrom L → length l ≡ N
  sent-length L l z = ap length z ∙ length-table N (place (drop L (table n f)))

-- ---- a group that moved whole

own-goes : (may own : Bool) → (own ≡ true → may ≡ true) → own ≡ (may && own)
own-goes true own h = refl
own-goes false true h = sym (h refl)
own-goes false false h = refl

-- m is the set of the bases with label x, and they are all in w: sending them is sending those of w
pub whole-goes : (N x : ℕ) (lab : ℕ → ℕ) (m w : List Bool) → m ≡ table N (λ p. eqb x (lab p)) → inside m w ≡ true → (v : ℕ) (old : ℕ → ℕ)
    → table N (λ p. pick (eqb x (lab p)) v (old p)) ≡ table N (λ p. pick (get_or w p false && eqb x (lab p)) v (old p))
whole-goes N x lab m w e h v old = table-cong N (λ p. pick (eqb x (lab p)) v (old p)) (λ p. pick (get_or w p false && eqb x (lab p)) v (old p))
    (λ p k. ap (λ (b : Bool). pick b v (old p)) (own-goes (get_or w p false) (eqb x (lab p))
    (λ q. inside-e m w h p (ap (λ (s : List Bool). get_or s p false) e ∙ get_d-table N (λ r. eqb x (lab r)) p false k ∙ q))))

-- ---- any partition

-- where a base goes
pub sent-parted : (N : ℕ) (l : List ℕ) (bs : List Bond) → Parted N l bs → (give : Entry → ℕ) (es : List Entry) → ((e : Entry) → Mem e es → e.base < N)
    → (p old : ℕ) → p < N → firsts give (label_in l) es old (label_in l p) ≡ sent give bs es p old
sent-parted N l bs P give [] h p old k = refl
sent-parted N l bs P give (e ∷ es) h p old k = λ i. pick (P.says e.base p (h e (inl refl)) k i) (give e) (sent-parted N l bs P give es (λ d m. h d (inr m)) p old k i)
