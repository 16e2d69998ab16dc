-- Laws of a table that is marked: an empty set changes nothing; keys given back from the last line down; one line on that way.
-- Assumes nothing.
use mathlib.Core.Path.{◌≡◌, refl, sym, ◌∙◌, ap, ap₂}
use mathlib.Core.Bool.{Bool, true, false, not, ◌&&◌, ◌||◌}
use mathlib.Core.List.{List, [], ◌∷◌}
use Prim.Native.Nat.{ℕ, zero, suc, ◌-◌, ◌<◌}
use native.Mathlib.Omega.{arith}
use lib.Dec.{eqb, ltb}
use lib.ListN.{length, get_or, set}
use lib.Seq.{get_or-set_same, get_or-set_other}
use borrow.Author.Tests.{eqb-true, eqb-false, eq-eqb, ne_eqb, lt-ltb}
use Rattle.causal.proofs.Tests.{both}
use Rattle.net.specs.Limits.{max_bases}
use Rattle.net.specs.Tests.{pick, all, table}
use Rattle.net.specs.Firing.{in_set}
use Rattle.net.specs.Journal.{LiveLine, common}
use Rattle.net.proofs.Tests.{fails, all-i, all-at}
use Rattle.net.proofs.Keys.{common-i}
use Rattle.net.proofs.Tables.{length-table, get_d-table, get_d-table-all, table-cong, table-list, table-snoc}
use Rattle.words.specs.Sets.{set_of, either, meet, minus}
use Rattle.words.proofs.Bits.{either-at, no-bases, low_of, meet-at, minus-at}
use Rattle.movers.specs.Lamp.{last_mover, last_movers, key_at_all, marked, given_back}
use Rattle.movers.proofs.Lamp.{mover-append}

-- no base is in the set of the word 0
none_in : (N p : ℕ) → in_set (set_of N 0) p ≡ false
none_in N p = ap (λ (l : List Bool). in_set l p) (no-bases N) ∙ get_d-table-all N (λ q. false) false p (λ h. refl)

-- every base is in the set of all
all_in : (p : ℕ) → p < max_bases → in_set (set_of max_bases 18446744073709551615) p ≡ true
all_in p h = ap (λ (l : List Bool). in_set l p) (low_of max_bases max_bases 18446744073709551615 (omega arith) refl) ∙ get_d-table max_bases (λ q. ltb q max_bases) p false h ∙ lt-ltb p max_bases h

module _ (N : ℕ) where
  pub marked-size : (m : List Bool) (k : ℕ) (t : List ℕ) → length (marked N m k t) ≡ N
  marked-size m k t = length-table N (λ p. pick (in_set m p) k (get_or t p 0))

  -- an empty set changes nothing
  pub mark-none : (k : ℕ) (t : List ℕ) → length t ≡ N → marked N (set_of N 0) k t ≡ t
  mark-none k t e = table-cong N _ (λ p. get_or t p 0) (λ p h. ap (λ (b : Bool). pick b k (get_or t p 0)) (none_in N p))
      ∙ ap (λ (n : ℕ). table n (λ p. get_or t p 0)) (sym e) ∙ table-list t 0

  -- one base more has the key, and one less is left
  pub mark-turn : (m : List Bool) (p k : ℕ) (t : List ℕ) → p < length m → p < length t → in_set m p ≡ true → marked N (set m p false) k (set t p k) ≡ marked N m k t
  mark-turn m p k t a b e = table-cong N _ _ (λ q h. at q (eqb q p) refl)
    where
      at : (q : ℕ) (same : Bool) → eqb q p ≡ same → pick (in_set (set m p false) q) k (get_or (set t p k) q 0) ≡ pick (in_set m q) k (get_or t q 0)
      at q true d =
          let x : q ≡ p = eqb-true q p d in
          rw x ((λ i. pick (get_or-set_same m p false false a i) k (get_or-set_same t p k 0 b i)) ∙ sym (ap (λ (y : Bool). pick y k (get_or t p 0)) e))
      at q false d =
          let x : q ≡ p → ⊥ = eqb-false q p d in
          λ i. pick (get_or-set_other m p q false false x i) k (get_or-set_other t p q k 0 x i)

-- ---- what a lamp looks at

-- tests that agree below n
same_tests : (f g : ℕ → Bool) (n : ℕ) (h : ℕ → ℕ) → ((p : ℕ) → p < n → f (h p) ≡ g (h p)) → all f (table n h) ≡ all g (table n h)
same_tests f g zero h e = refl
same_tests f g (suc n) h e = ap₂ ◌&&◌ (e zero (omega arith)) (same_tests f g n (λ p. h (suc p)) (λ p k. e (suc p) (omega arith)))

module _ (N : ℕ) (t : List ℕ) where
  pub top-none : (k : ℕ) → key_at_all N t (set_of N 0) k ≡ true
  top-none k = (λ i. all (λ (p : ℕ). not (none_in N p i) || eqb (get_or t p 0) k) (table N (λ p. p))) ∙ all-i (λ (p : ℕ). true) (table N (λ p. p)) (λ p m. refl)

  -- a base of the set has the key: it need not be looked at again
  pub top-turn : (m : List Bool) (p k : ℕ) → p < length m → get_or t p 0 ≡ k → key_at_all N t (set m p false) k ≡ key_at_all N t m k
  top-turn m p k a e = same_tests _ _ N (λ q. q) (λ q h. at q (eqb q p) refl)
    where
      yes : (b : Bool) → (not b || true) ≡ true
      yes true = refl
      yes false = refl

      at : (q : ℕ) (same : Bool) → eqb q p ≡ same → (not (in_set (set m p false) q) || eqb (get_or t q 0) k) ≡ (not (in_set m q) || eqb (get_or t q 0) k)
      at q true d =
          let x : q ≡ p = eqb-true q p d in
          rw x ((λ i. not (get_or-set_same m p false false a i) || eqb (get_or t p 0) k) ∙ sym (ap (λ (b : Bool). not (in_set m p) || b) (eq-eqb (get_or t p 0) k e) ∙ yes (in_set m p)))
      at q false d = ap (λ (b : Bool). not b || eqb (get_or t q 0) k) (get_or-set_other m p q false false (eqb-false q p d))

  -- a base of the set has another key
  pub top-off : (m : List Bool) (p k : ℕ) → p < N → in_set m p ≡ true → (get_or t p 0 ≡ k → ⊥) → key_at_all N t m k ≡ false
  top-off m p k h e d = fails (key_at_all N t m k) (λ top.
      let tested : ℕ → Bool = λ q. not (in_set m q) || eqb (get_or t q 0) k in
      let passes : tested (get_or (table N (λ q. q)) p 0) ≡ true = all-at tested (table N (λ q. q)) 0 p top (rw length-table h) in
      let no : tested p ≡ false = (λ i. not (e i) || ne_eqb (get_or t p 0) k d i) in
      both (tested p) (ap tested (sym (get_d-table N (λ (q : ℕ). q) p 0 h)) ∙ passes) no)

-- ---- given back

-- what is left, and what a line on the way down takes of it
one-base : (a b : Bool) (key low old : ℕ) → pick (a && not b) low (pick (a && b) key old) ≡ pick a (pick b key low) old
one-base true true key low old = refl
one-base true false key low old = refl
one-base false b key low old = refl

-- of four keys none is taken
passed : (a b c d : Bool) (ka kb kc kd low : ℕ) → ((a || b) || (c || d)) ≡ false → pick a ka (pick b kb (pick c kc (pick d kd low))) ≡ low
passed true b c d ka kb kc kd low e = both true refl e
passed false true c d ka kb kc kd low e = both true refl e
passed false false true d ka kb kc kd low e = both true refl e
passed false false false true ka kb kc kd low e = both true refl e
passed false false false false ka kb kc kd low e = refl

-- the lines are the first of f 0, f 1, ..
module _ (N : ℕ) (f : ℕ → LiveLine) where
  -- one line more
  mover-next : (p i : ℕ) → last_mover p (table (suc i) f) ≡ pick (in_set (f i).moved p) (f i).key.0 (last_mover p (table i f))
  mover-next p i = ap (last_mover p) (table-snoc i f) ∙ mover-append p (table i f) (f i ∷ []) 0

  -- one line on the way down
  pub back-turn : (i : ℕ) (m : List Bool) (t : List ℕ)
      → given_back N (table i f) (minus m (f i).moved) (marked N (meet m (f i).moved) (f i).key.0 t) ≡ given_back N (table (suc i) f) m t
  back-turn i m t = table-cong N _ _ (λ p h.
      let w : List Bool = (f i).moved in
      let k : ℕ = (f i).key.0 in
      let low : ℕ = last_mover p (table i f) in
      let q : get_or (marked N (meet m w) k t) p 0 ≡ pick (in_set m p && in_set w p) k (get_or t p 0) =
      get_d-table N (λ q. pick (in_set (meet m w) q) k (get_or t q 0)) p 0 h ∙ ap (λ (b : Bool). pick b k (get_or t p 0)) (meet-at m w p) in
      ap₂ (λ (b : Bool) (x : ℕ). pick b low x) (minus-at m w p) q
      ∙ one-base (in_set m p) (in_set w p) k low (get_or t p 0) ∙ ap (λ (x : ℕ). pick (in_set m p) x (get_or t p 0)) (sym (mover-next p i)))

  -- four lines, of which none moved a base of the set, change nothing of what is given back
  module _ (i : ℕ) where
    abbrev four : List Bool
    four = either (either (f (suc (suc (suc i)))).moved (f (suc (suc i))).moved) (either (f (suc i)).moved (f i).moved)

    four-at : (p : ℕ) → in_set four p ≡ ((in_set (f (suc (suc (suc i)))).moved p || in_set (f (suc (suc i))).moved p) || (in_set (f (suc i)).moved p || in_set (f i).moved p))
    four-at p = either-at (either (f (suc (suc (suc i)))).moved (f (suc (suc i))).moved) (either (f (suc i)).moved (f i).moved) p
        ∙ (λ j. either-at (f (suc (suc (suc i)))).moved (f (suc (suc i))).moved p j || either-at (f (suc i)).moved (f i).moved p j)

    mover-four : (p : ℕ) → in_set four p ≡ false → last_mover p (table i f) ≡ last_mover p (table (suc (suc (suc (suc i)))) f)
    mover-four p none =
        sym (mover-next p (suc (suc (suc i))) ∙ ap (pick (in_set (f (suc (suc (suc i)))).moved p) (f (suc (suc (suc i)))).key.0) (mover-next p (suc (suc i))
        ∙ ap (pick (in_set (f (suc (suc i))).moved p) (f (suc (suc i))).key.0) (mover-next p (suc i) ∙ ap (pick (in_set (f (suc i)).moved p) (f (suc i)).key.0) (mover-next p i)))
        ∙ passed (in_set (f (suc (suc (suc i)))).moved p) (in_set (f (suc (suc i))).moved p) (in_set (f (suc i)).moved p) (in_set (f i).moved p) _ _ _ _ _ (sym (four-at p) ∙ none))

    back-four : (m : List Bool) (t : List ℕ) → common four m ≡ false → given_back N (table i f) m t ≡ given_back N (table (suc (suc (suc (suc i)))) f) m t
    back-four m t apart = table-cong N _ _ (λ p h. at p (in_set m p) refl)
      where
        at : (p : ℕ) (b : Bool) → in_set m p ≡ b → pick (in_set m p) (last_mover p (table i f)) (get_or t p 0) ≡ pick (in_set m p) (last_mover p (table (suc (suc (suc (suc i)))) f)) (get_or t p 0)
        at p true e =
            let none : in_set four p ≡ false = fails (in_set four p) (λ g. both (common four m) (common-i four m p g e) apart) in
            ap (λ (x : ℕ). pick (in_set m p) x (get_or t p 0)) (mover-four p none)
        at p false e = rw e

  -- the last four of the first i, joined two and two as they are looked at
  pub back-passed : (i : ℕ) → 4 < i
      → (u l w : List Bool) → u ≡ either (f (i - 1)).moved (f (i - 2)).moved → l ≡ either (f (i - 3)).moved (f (i - 4)).moved → w ≡ either u l
      → (m : List Bool) → common w m ≡ false → (t : List ℕ) → given_back N (table (i - 4) f) m t ≡ given_back N (table i f) m t
  back-passed i h u l w eu el ew m apart t =
      let j : ℕ = i - 4 in
      let a : i - 1 ≡ suc (suc (suc j)) = omega arith in
      let b : i - 2 ≡ suc (suc j) = omega arith in
      let c : i - 3 ≡ suc j = omega arith in
      let z : suc (suc (suc (suc j))) ≡ i = omega arith in
      let q : w ≡ four j = ew ∙ ap₂ either (eu ∙ (λ k. either (f (a k)).moved (f (b k)).moved)) (el ∙ ap (λ (k : ℕ). either (f k).moved (f j).moved) c) in
      back-four j m t (ap (λ (s : List Bool). common s m) (sym q) ∙ apart) ∙ ap (λ (k : ℕ). given_back N (table k f) m t) z

-- nothing is left: the way down ends
pub back_none : (N : ℕ) (ls : List LiveLine) (left : ℕ) (t : List ℕ) → left ≡ 0 → length t ≡ N → t ≡ given_back N ls (set_of N left) t
back_none N ls left t z e = sym (mark-none N 0 t e) ∙ table-cong N _ _ (λ p h.
    ap (λ (b : Bool). pick b 0 (get_or t p 0)) (none_in N p)
    ∙ sym (ap (λ (b : Bool). pick b (last_mover p ls) (get_or t p 0)) (ap (λ (w : ℕ). in_set (set_of N w) p) z ∙ none_in N p)))

-- given back to all bases, whatever the table was: the whole table of the lines
pub movers-all : (ls : List LiveLine) (t : List ℕ) → given_back max_bases ls (set_of max_bases 18446744073709551615) t ≡ last_movers max_bases ls
movers-all ls t = table-cong max_bases _ _ (λ p h. ap (λ (b : Bool). pick b (last_mover p ls) (get_or t p 0)) (all_in p h))

-- ---- two tables
