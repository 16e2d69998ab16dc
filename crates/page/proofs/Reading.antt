-- Laws of a list of firings read into arrays: the rows of the arrays are those of the list, and a page of them is one of it.
-- Assumes nothing.
use mathlib.Core.Path.{◌≡◌, refl, sym, ap, ◌∙◌}
use mathlib.Core.Bool.{Bool, true, false, not}
use mathlib.Core.List.{List, [], ◌∷◌, ◌++◌, map, foldl, append-nil, append_assoc}
use Prim.Native.Nat.{ℕ, suc, ◌+◌, ◌<◌, ◌≤◌}
use native.Mathlib.Omega.{arith}
use native.Mathlib.Nat.{add-zero}
use lib.Dec.{ltb}
use lib.ListN.{length, get_or, set, take, drop, replicate, length-set, length-replicate}
use lib.Seq.{get_or-set_same, get_or-set_other, take_all, length-take-le}
use borrow.Author.Tests.{lt-leb, ltb-true, ltb-false}
use Rattle.causal.proofs.Tests.{test}
use Rattle.net.specs.Limits.{max_bases, max_live}
use Rattle.net.specs.Tests.{pick, table}
use Rattle.net.specs.Checks.{check}
use Rattle.net.proofs.Tables.{table_more, table-cong, table-list}
use Rattle.words.specs.Sets.{set_of, size_of}
use Rattle.firings.specs.declared.Firing.{Firing}
use Rattle.live_list.specs.List.{no_firing}
use Rattle.page_lines.specs.Page.{Row, row, rows_in, page_bytes, page_text}
use Rattle.page_lines.specs.Answers.{is_page, written_if, Laid}
use Rattle.net.specs.declared.Verdict.{Verdict}
use Rattle.page.specs.declared.Rows.{Rows}
use Rattle.page.specs.Rows.{row_of, no_rows, with_firing, lent_firings, Paged}

-- the first n rows of the arrays
abbrev rows_to : Rows → ℕ → List Row
rows_to r n = rows_in r.keys r.steps r.moved n

-- the arrays have their full length
record Full (r : Rows) : Type 0 where
  keys : length r.keys ≡ max_live
  steps : length r.steps ≡ max_live
  moved : length r.moved ≡ max_live

full-more : (r : Rows) (f : Firing) → r.count < max_live → Full r → Full (with_firing r f)
unfolding with_firing
full-more r f h u = rw (lt-leb max_live r.count h) record {
  keys = length-set r.keys r.count f.key.0 ∙ u.keys;
  steps = length-set r.steps r.count f.transition ∙ u.steps;
  moved = length-set r.moved r.count (size_of (set_of max_bases f.moved)) ∙ u.moved;
}

count-more : (r : Rows) (f : Firing) → r.count < max_live → (with_firing r f).count ≡ r.count + 1
unfolding with_firing
count-more r f h = rw (lt-leb max_live r.count h)

other : (l : List ℕ) (i j x : ℕ) → j < i → get_or (set l i x) j 0 ≡ get_or l j 0
other l i j x h = get_or-set_other l i j x 0 (λ e. let z : ⊥ = omega arith in z)

-- one row more
rows_more : (r : Rows) (f : Firing) → r.count < max_live → Full r → rows_to (with_firing r f) (r.count + 1) ≡ rows_to r r.count ++ (row_of f ∷ [])
unfolding with_firing
rows_more r f h u =
    let n = r.count in
    let ks = set r.keys n f.key.0 in
    let ss = set r.steps n f.transition in
    let ms = set r.moved n (size_of (set_of max_bases f.moved)) in
    let at : ℕ → Row = λ i. row (get_or ks i 0) (get_or ss i 0) (get_or ms i 0) in
    let old : ℕ → Row = λ i. row (get_or r.keys i 0) (get_or r.steps i 0) (get_or r.moved i 0) in
    let same : table n at ≡ table n old = table-cong n at old (λ p l i. row (other r.keys n p f.key.0 l i) (other r.steps n p f.transition l i) (other r.moved n p (size_of (set_of max_bases f.moved)) l i)) in
    let new : at n ≡ row_of f = λ i. row (get_or-set_same r.keys n f.key.0 0 (omega (arith, u.keys)) i) (get_or-set_same r.steps n f.transition 0 (omega (arith, u.steps)) i) (get_or-set_same r.moved n (size_of (set_of max_bases f.moved)) 0 (omega (arith, u.moved)) i) in
    rw (lt-leb max_live n h) (table_more n at ∙ (λ i. same i ++ (new i ∷ [])))

rows_all : (fs : List Firing) (r : Rows) → Full r → r.count + length fs ≤ max_live → rows_to (foldl with_firing r fs) (r.count + length fs) ≡ rows_to r r.count ++ map row_of fs
rows_all [] r u h = ap (rows_to r) (add-zero r.count) ∙ sym (append-nil (rows_to r r.count))
rows_all (f ∷ fs) r u h =
    let s = with_firing r f in
    let l : r.count < max_live = omega (arith, h) in
    let e = count-more r f l in
    let q : r.count + suc (length fs) ≡ s.count + length fs = omega arith in
    let more : rows_to s s.count ≡ rows_to r r.count ++ (row_of f ∷ []) = ap (rows_to s) e ∙ rows_more r f l u in
    ap (rows_to (foldl with_firing s fs)) q
    ∙ rows_all fs s (full-more r f l u) (omega arith)
    ∙ ap (λ (t : List Row). t ++ map row_of fs) more
    ∙ append_assoc (rows_to r r.count) (row_of f ∷ []) (map row_of fs)

-- the rows of all that was gathered, where the list is not too long
pub rows-gathered : (fs : List Firing) → length fs ≤ max_live → rows_to (foldl with_firing no_rows fs) (length fs) ≡ map row_of fs
unfolding no_rows
rows-gathered fs h =
    let u : Full no_rows = record { keys = length-replicate {A = ℕ} max_live 0; steps = length-replicate {A = ℕ} max_live 0; moved = length-replicate {A = ℕ} max_live 0 } in
    let e : 0 + length fs ≡ length fs = omega arith in
    ap (rows_to (foldl with_firing no_rows fs)) (sym e) ∙ rows_all fs no_rows u (omega arith)

-- where the second test holds, nothing is written
unwritten : (a d : Bool) (t u b : List ℕ) → written_if (check 23 a ∷ check 24 true ∷ check 25 d ∷ []) t b ≡ written_if (check 23 a ∷ check 24 true ∷ check 25 d ∷ []) u b
unfolding written_if
unwritten true d t u b = refl
unwritten false d t u b = refl

-- A page of what was gathered is a page of the list: one that is too long is refused, and no row of it is looked at.
pub paged-of : (fs : List Firing) (k : ℕ) (b : List ℕ) (a : Verdict) (b' : List ℕ) (r : Rows) → r ≡ foldl with_firing no_rows fs → Laid (rows_to r (length fs)) (length fs) k b a b' → Paged fs k b a b'
paged-of fs k b a b' r e w = (
  w.0,
  w.1 ∙ test (ltb max_live (length fs))
      (λ h. rw h (unwritten (ltb (length b) page_bytes) (not (is_page (length fs) k)) (page_text (rows_to r (length fs)) k) (page_text (map row_of fs) k) b))
      (λ h. rw (e, rows-gathered fs (ltb-false max_live (length fs) h))),
  w.2,
)

-- n, and no more than a list has, is how many its first n are
pub cut-length : {X : Type 0} (xs : List X) (n m : ℕ) → length xs ≡ lent_firings → m ≡ pick (ltb n lent_firings) n lent_firings → m ≡ length (take n xs)
cut-length xs n m l e = e ∙ test (ltb n lent_firings)
    (λ h. rw h (sym (length-take-le n xs (let z = ltb-true n lent_firings h in omega arith))))
    (λ h. rw h (sym l ∙ ap length (sym (take_all n xs (let z = ltb-false n lent_firings h in omega arith)))))

-- the first of them are the first n
pub cut-same : {X : Type 0} (xs : List X) (n m : ℕ) → length xs ≡ lent_firings → m ≡ pick (ltb n lent_firings) n lent_firings → take m xs ≡ take n xs
cut-same xs n m l e = ap (λ (k : ℕ). take k xs) e ∙ test (ltb n lent_firings)
    (λ h. rw h refl)
    (λ h. let far = ltb-false n lent_firings h in rw h (take_all lent_firings xs (omega arith) ∙ sym (take_all n xs (omega arith))))

-- a list of the full length that was copied into a longer array of zeros
pub lent-all : (list a : List Firing) (i : ℕ) → i ≡ max_live → length list ≡ max_live → a ≡ table i (λ j. get_or list j no_firing) ++ drop i (replicate lent_firings no_firing) → a ≡ list ++ (no_firing ∷ [])
lent-all list a i e l q =
    q
    ∙ ap (λ (k : ℕ). table k (λ j. get_or list j no_firing) ++ drop k (replicate lent_firings no_firing)) (e ∙ sym l)
    ∙ ap (λ (t : List Firing). t ++ drop (length list) (replicate lent_firings no_firing)) (table-list list no_firing)
    ∙ ap (λ (k : ℕ). list ++ drop k (replicate lent_firings no_firing)) l
