-- Laws of parents that are never higher: two trees united, and the trees flattened.
-- Assumes nothing. N is the number of bases.
use mathlib.Core.Path.{◌≡◌, refl, sym, ◌∙◌, ap}
use mathlib.Core.Bool.{Bool, true, false, ◌||◌, and_comm, or_comm}
use mathlib.Core.List.{List, [], ◌++◌}
use Prim.Native.Nat.{ℕ, ◌+◌, ◌<◌, ◌≤◌}
use native.Mathlib.Omega.{arith}
use lib.Dec.{eqb, ltb}
use lib.ListN.{length, get_or, drop, set, length-set, get_or-append}
use lib.Seq.{get_or-set_same, get_or-set_other}
use borrow.Author.Tests.{eqb-true, eqb-false, eq-eqb, ltb-true, ltb-false}
use Rattle.causal.proofs.Tests.{test}
use Rattle.net.specs.Tests.{pick, table}
use Rattle.net.specs.Sorted.{put}
use Rattle.net.specs.Net.{bond, same_bond, less_bond, has_bond}
use Rattle.net.specs.Connection.{bonded, label, connected}
use Rattle.net.specs.declared.Bond.{Bond}
use Rattle.net.proofs.Tests.{pick-case, pick_same}
use Rattle.net.proofs.Tables.{length-table, get_d-table}
use Rattle.net.proofs.Sorted.{has-put}
use Rattle.net.proofs.Bonds.{bond-order}
use Rattle.net.proofs.Connection.{connected-alike}
use Rattle.bonds.proofs.Fill.{has_more}
use Rattle.bonds.proofs.InPlace.{read-ahead}
use Rattle.labels.specs.Labelled.{Parted, Within}
use Rattle.labels.proofs.Joining.{connected-same, connected-put, joined-alike, renamed-same}
use Rattle.labels.specs.Forest.{Forest, Spans}

-- ---- a bond turned round connects the same bases

abbrev pub turned : Bond → Bond
turned b = bond b.hi b.lo

or_turn : (a b h k : Bool) → ((b || h) || (a || k)) ≡ ((a || h) || (b || k))
or_turn true true true k = refl
or_turn true true false k = refl
or_turn true false true k = refl
or_turn true false false k = refl
or_turn false true true k = refl
or_turn false true false k = refl
or_turn false false true k = refl
or_turn false false false k = refl

pub connected-turned : (bs : List Bond) (b : Bond) (p q : ℕ) → connected (put same_bond less_bond (turned b) bs) p q ≡ connected (put same_bond less_bond b bs) p q
connected-turned bs b p q = connected-alike (λ _. true) (put same_bond less_bond (turned b) bs) (put same_bond less_bond b bs) (λ _ _ _ _. refl) (λ x y _. alike x y) p q refl
  where
    alike : (x y : ℕ) → bonded (put same_bond less_bond (turned b) bs) x y ≡ bonded (put same_bond less_bond b bs) x y
    alike x y =
        (λ i. has-put same_bond less_bond bond-order (bond x y) (turned b) bs i || has-put same_bond less_bond bond-order (bond y x) (turned b) bs i)
        ∙ (λ i. (and_comm (eqb x b.hi) (eqb y b.lo) i || has_bond (bond x y) bs) || (and_comm (eqb y b.hi) (eqb x b.lo) i || has_bond (bond y x) bs))
        ∙ or_turn (same_bond (bond x y) b) (same_bond (bond y x) b) (has_bond (bond x y) bs) (has_bond (bond y x) bs)
        ∙ sym (λ i. has-put same_bond less_bond bond-order (bond x y) b bs i || has-put same_bond less_bond bond-order (bond y x) b bs i)

module _ (N : ℕ) (l : List ℕ) (f : ℕ → ℕ) (F : Forest N l f) where
  -- the higher root goes under the lower
  module _ (c : Bond) (w : Within N c) (x y : ℕ) (ex : f c.lo ≡ x) (ey : f c.hi ≡ y) (le : x ≤ y) (tx : get_or l x 0 ≡ x) (ty : get_or l y 0 ≡ y) where
    y-low : y < N
    y-low = let h = F.low c.hi w.1 in let k = w.1 in omega arith

    at_y : get_or (set l y x) y 0 ≡ x
    at_y = get_or-set_same l y x 0 (let s = F.size in let h = y-low in omega arith)

    other : (p : ℕ) → eqb p y ≡ false → get_or (set l y x) p 0 ≡ get_or l p 0
    other p e = get_or-set_other l y p x 0 (eqb-false p y e)

    abbrev g : ℕ → ℕ
    g p = pick (eqb (f p) y) x (f p)

    g-x : g x ≡ x
    g-x = ap (λ (z : ℕ). pick (eqb z y) x z) (F.top x (let h = y-low in omega arith) tx) ∙ pick_same (eqb x y) x

    g-y : g y ≡ x
    g-y = ap (λ (z : ℕ). pick (eqb z y) x z) (F.top y y-low ty) ∙ ap (λ (b : Bool). pick b x y) (eq-eqb y y refl)

    united : Forest N (set l y x) g
    united = record {
      size = length-set l y x ∙ F.size;
      down = λ p k. test (eqb p y)
          (λ e. let q : p ≡ y = eqb-true p y e in let z : get_or (set l y x) p 0 ≡ x = ap (λ (j : ℕ). get_or (set l y x) j 0) q ∙ at_y in omega arith)
          (λ e. let z = other p e in let d = F.down p k in omega arith);
      low = λ p k. pick-case (λ (z : ℕ). z ≤ p) (eqb (f p) y) x (f p) (λ e. let q : f p ≡ y = eqb-true (f p) y e in let d = F.low p k in omega arith) (λ e. F.low p k);
      up = λ p k. test (eqb p y)
          (λ e. let q : p ≡ y = eqb-true p y e in ap g (ap (λ (j : ℕ). get_or (set l y x) j 0) q ∙ at_y) ∙ g-x ∙ sym g-y ∙ ap g (sym q))
          (λ e. ap g (other p e) ∙ ap (λ (z : ℕ). pick (eqb z y) x z) (F.up p k));
      top = λ p k t. test (eqb p y)
          (λ e. let q : p ≡ y = eqb-true p y e in
          ap g q ∙ g-y ∙ sym at_y ∙ ap (λ (j : ℕ). get_or (set l y x) j 0) (sym q) ∙ t)
          (λ e. let r : f p ≡ p = F.top p k (sym (other p e) ∙ t) in
          ap (λ (z : ℕ). pick (eqb z y) x z) r ∙ ap (λ (b : Bool). pick b x p) e);
      fixed = λ p k. pick-case (λ (z : ℕ). get_or (set l y x) z 0 ≡ z) (eqb (f p) y) x (f p)
          (λ _. test (eqb x y) (λ e. ap (λ (j : ℕ). get_or (set l y x) j 0) (eqb-true x y e) ∙ at_y) (λ e. other x e ∙ tx))
          (λ e. other (f p) e ∙ F.fixed p k);
    }

    united-says : (bs : List Bond) → ((p q : ℕ) → p < N → q < N → eqb (f p) (f q) ≡ connected bs p q) → (p q : ℕ) → p < N → q < N → eqb (g p) (g q) ≡ connected (put same_bond less_bond c bs) p q
    united-says bs S p q j k =
        sym (λ i. eqb (pick (eqb (f p) (ey i)) (ex i) (f p)) (pick (eqb (f q) (ey i)) (ex i) (f q)))
        ∙ joined-alike f (label bs) c p q (S p q j k) (S p c.hi j w.1) (S q c.hi k w.1) (S p c.lo j w.0) (S c.lo q w.0 k) (S c.lo c.lo w.0 w.0)
        ∙ connected-put bs c p q

  -- one turn of the flattening pass: the parent's entry is its root already
  pub flat-turn : (p : ℕ) (r : List ℕ) → p < N → r ≡ table p f ++ drop p l → get_or r (get_or r p 0) 0 ≡ f p
  flat-turn p r h e =
      let a : get_or r p 0 ≡ get_or l p 0 = read-ahead f p p l r 0 (omega arith) e in
      let d = F.down p h in
      test (ltb (get_or l p 0) p)
      (λ k. let u : get_or l p 0 < p = ltb-true (get_or l p 0) p k in
      ap (λ (j : ℕ). get_or r j 0) a ∙ ap (λ (z : List ℕ). get_or z (get_or l p 0) 0) e
      ∙ get_or-append (table p f) (drop p l) 0 (get_or l p 0) (rw (length-table p f) u) ∙ get_d-table p f (get_or l p 0) 0 u ∙ F.up p h)
      (λ k. let v : p ≤ get_or l p 0 = ltb-false (get_or l p 0) p k in
      let q : get_or l p 0 ≡ p = omega arith in
      ap (λ (j : ℕ). get_or r j 0) (a ∙ q) ∙ a ∙ q ∙ sym (F.top p h q))

module _ (N : ℕ) where
  -- the first end's root is not higher
  pub spans-up : (l : List ℕ) (b : Bond) → Within N b → (x y : ℕ) → x ≤ y → get_or l x 0 ≡ x → get_or l y 0 ≡ y
      → ((f : ℕ → ℕ) → Forest N l f → f x ≡ f b.lo) → ((f : ℕ → ℕ) → Forest N l f → f y ≡ f b.hi) → x < N → y < N
      → (bs : List Bond) → Spans N l bs → Spans N (set l y x) (put same_bond less_bond b bs)
  spans-up l b w x y le tx ty rx ry hx hy bs S =
      let f = S.root in
      let F = S.forest in
      let ex : f b.lo ≡ x = sym (rx f F) ∙ F.top x hx tx in
      let ey : f b.hi ≡ y = sym (ry f F) ∙ F.top y hy ty in
      record {
        root = λ p. pick (eqb (f p) y) x (f p);
        forest = united N l f F b w x y ex ey le tx ty;
        says = united-says N l f F b w x y ex ey le tx ty bs S.says;
      }

  -- the second end's root is not higher
  pub spans-down : (l : List ℕ) (b : Bond) → Within N b → (x y : ℕ) → y ≤ x → get_or l x 0 ≡ x → get_or l y 0 ≡ y
      → ((f : ℕ → ℕ) → Forest N l f → f x ≡ f b.lo) → ((f : ℕ → ℕ) → Forest N l f → f y ≡ f b.hi) → x < N → y < N
      → (bs : List Bond) → Spans N l bs → Spans N (set l x y) (put same_bond less_bond b bs)
  spans-down l b w x y le tx ty rx ry hx hy bs S =
      let T = spans-up l (turned b) (w.1, w.0) y x le ty tx ry rx hy hx bs S in
      record { root = T.root; forest = T.forest; says = λ p q j k. T.says p q j k ∙ connected-turned bs b p q }

  pub spans-down-kept : (l : List ℕ) (x y : ℕ) → ((p : ℕ) → p < N → get_or l p 0 ≤ p) → length l ≡ N → y < N → x ≤ y → (p : ℕ) → p < N → get_or (set l y x) p 0 ≤ p
  spans-down-kept l x y d s h le p k = test (eqb p y)
      (λ e. let q : p ≡ y = eqb-true p y e in
      let z : get_or (set l y x) p 0 ≡ x = ap (λ (j : ℕ). get_or (set l y x) j 0) q ∙ get_or-set_same l y x 0 (omega arith) in omega arith)
      (λ e. let z : get_or (set l y x) p 0 ≡ get_or l p 0 = get_or-set_other l y p x 0 (eqb-false p y e) in let v = d p k in omega arith)

  -- flattened parents are labels
  pub flat-parted : (l r : List ℕ) (bs : List Bond) → ((f : ℕ → ℕ) → Forest N l f → r ≡ table N f) → Spans N l bs → Parted N r bs
  flat-parted l r bs h S =
      let f = S.root in
      let F = S.forest in
      let e = h f F in
      let at : (p : ℕ) → p < N → get_or r p 0 ≡ f p = λ p k. ap (λ (z : List ℕ). get_or z p 0) e ∙ get_d-table N f p 0 k in
      record {
        size = ap length e ∙ length-table N f;
        low = λ p k. let a = at p k in let b = F.low p k in omega arith;
        says = λ p q j k. (λ i. eqb (at p j i) (at q k i)) ∙ S.says p q j k;
      }

  -- at first each base is its own parent
  pub spans-own : (l : List ℕ) → l ≡ table N (λ p. p) → Spans N l []
  spans-own l e =
      let at : (p : ℕ) → p < N → get_or l p 0 ≡ p = λ p k. ap (λ (z : List ℕ). get_or z p 0) e ∙ get_d-table N (λ p. p) p 0 k in
      record {
        root = λ p. p;
        forest = record {
          size = ap length e ∙ length-table N (λ p. p);
          down = λ p k. let a = at p k in omega arith;
          low = λ p k. omega arith;
          up = λ p k. at p k;
          top = λ p k t. refl;
          fixed = at;
        };
        says = λ p q j k. refl;
      }

  -- such parents are labels where there is no bond
  pub parted-own : (l : List ℕ) → l ≡ table N (λ p. p) → Parted N l []
  unfolding spans-own
  parted-own l e =
      let at : (p : ℕ) → p < N → get_or l p 0 ≡ p = λ p k. ap (λ (z : List ℕ). get_or z p 0) e ∙ get_d-table N (λ p. p) p 0 k in
      record {
        size = ap length e ∙ length-table N (λ p. p);
        low = λ p k. let a = at p k in omega arith;
        says = λ p q j k. (λ i. eqb (at p j i) (at q k i)) ∙ (spans-own l e).says p q j k;
      }

  -- a bond of two bases with one root changes nothing
  pub spans-stay : (l : List ℕ) (b : Bond) → Within N b → (bs : List Bond) (S : Spans N l bs) → S.root b.lo ≡ S.root b.hi → Spans N l (put same_bond less_bond b bs)
  spans-stay l b w bs S e =
      let f = S.root in
      record {
        root = f;
        forest = S.forest;
        says = λ p q j k. (λ i. eqb (renamed-same (f b.lo) (f b.hi) (f p) e i) (renamed-same (f b.lo) (f b.hi) (f q) e i))
            ∙ joined-alike f (label bs) b p q (S.says p q j k) (S.says p b.hi j w.1) (S.says q b.hi k w.1)
            (S.says p b.lo j w.0) (S.says b.lo q w.0 k) (S.says b.lo b.lo w.0 w.0)
            ∙ connected-put bs b p q;
      }

  -- the first i bonds were united, and the next one
  pub spans-more : (l : List ℕ) (i : ℕ) (g : ℕ → Bond) → Spans N l (put same_bond less_bond (g i) (table i g)) → Spans N l (table (i + 1) g)
  spans-more l i g S = record {
    root = S.root;
    forest = S.forest;
    says = λ p q j k. S.says p q j k ∙ connected-same (put same_bond less_bond (g i) (table i g)) (table (i + 1) g)
        (λ z. has-put same_bond less_bond bond-order z (g i) (table i g) ∙ or_comm (same_bond z (g i)) (has_bond z (table i g)) ∙ sym (has_more same_bond z i g)) p q;
  }
