-- Writers of acts: one act more, a step's three lists, stretches and pairs one behind the other.
-- Assumes nothing.
use mathlib.Core.Path.{◌≡◌, refl, ap, subst, ◌∙◌}
use mathlib.Core.Bool.{true, ◌&&◌}
use Prim.Native.Nat.{ℕ, zero, suc, ◌+◌, ◌*◌, ◌-◌, ◌<◌, ◌≤◌}
use native.Mathlib.Omega.{arith}
use native.Mathlib.Nat.{mul-le-mul, zero-add}
use mathlib.Core.List.{List, [], ◌∷◌, ◌++◌}
use lib.Dec.{eqb, leb}
use lib.ListN.{length, get_or, take, length-append}
use borrow.Author.Tests.{leb-true}
use Rattle.net.specs.Tests.{pick, table}
use Rattle.net.proofs.Tests.{and_l, and_r}
use Rattle.net.proofs.Tables.{table_more, length-table}
use Rattle.text.specs.Joined.{joined}
use Rattle.text.specs.Writes.{Wrote, Filled}
use Rattle.text.proofs.Writes.{Written, written_none, written-more, written-pair}
use Rattle.text.proofs.Joined.{joined-more}
use Rattle.encode.specs.Encoding.{word, pairs}
use Rattle.sheet_draft.specs.Acts.{tag_of, part_tag, coupled_tag, move_tag, before_tag, after_tag}
use Rattle.sheet_draft.specs.Bytes.{bytes_at, tagged, count_of, counted, step_bytes, step_fits, stretch_at, stretch_fits, stretches_in, sheet_in}
use Rattle.sheet_draft.proofs.Tagged.{tagged-more}

-- one act more
pub tagged-written : {l now : List ℕ} {at k : ℕ} (w t : ℕ) (acts : List ℕ) (i v : ℕ) {k' : ℕ} {now' : List ℕ} → i < length acts → v ≡ pick (eqb (tag_of (get_or acts i 0)) t) w 0
    → Written l at (tagged w t (take i acts)) k now → Wrote (bytes_at v (get_or acts i 0)) k now k' now' → Written l at (tagged w t (take (i + 1) acts)) k' now'
tagged-written w t acts i v h e p q = rw (tagged-more w t acts i h, ← e) (written-more (bytes_at v (get_or acts i 0)) p q)

-- a list after its count
pub counted-written : (b : List ℕ) (at : ℕ) {c d : List ℕ} {k r : ℕ} (w t : ℕ) (acts : List ℕ) (n : ℕ) → n ≡ count_of t acts → Wrote (n ∷ []) at b k c → Wrote (tagged w t acts) k c r d → Wrote (counted w t acts) at b r d
counted-written b at {c} {d} {k} {r} w t acts n e p q =
    let one : List ℕ = n ∷ [] in
    written-pair (subst (λ (m : ℕ). Written b at (m ∷ tagged w t acts) r d) e (written-more (tagged w t acts) (written-more one (written_none b at) p) q))

-- ---- a step

pub three-length : (x y z : List ℕ) → length (x ++ y ++ z) ≡ length x + length y + length z
three-length x y z = length-append (x ++ y) z ∙ ap (λ (k : ℕ). k + length z) (length-append x y)

module _ (acts : List ℕ) (k : ℕ) (h : step_fits acts k ≡ true) where
  pub few-moves : count_of (move_tag k) acts ≤ 255
  few-moves = leb-true (count_of (move_tag k) acts) 255 (and_l (leb (count_of (move_tag k) acts) 255) (leb (count_of (before_tag k) acts) 255 && leb (count_of (after_tag k) acts) 255) h)

  both : (leb (count_of (before_tag k) acts) 255 && leb (count_of (after_tag k) acts) 255) ≡ true
  both = and_r (leb (count_of (move_tag k) acts) 255) (leb (count_of (before_tag k) acts) 255 && leb (count_of (after_tag k) acts) 255) h

  pub few-befores : count_of (before_tag k) acts ≤ 255
  few-befores = leb-true (count_of (before_tag k) acts) 255 (and_l (leb (count_of (before_tag k) acts) 255) (leb (count_of (after_tag k) acts) 255) both)

  pub few-afters : count_of (after_tag k) acts ≤ 255
  few-afters = leb-true (count_of (after_tag k) acts) 255 (and_r (leb (count_of (before_tag k) acts) 255) (leb (count_of (after_tag k) acts) 255) both)

pub step-length : (acts : List ℕ) (k : ℕ) → length (step_bytes acts k) ≡ length (tagged 3 (move_tag k) acts) + length (tagged 2 (before_tag k) acts) + length (tagged 2 (after_tag k) acts) + 3
unfolding step_bytes
step-length acts k = three-length (counted 3 (move_tag k) acts) (counted 2 (before_tag k) acts) (counted 2 (after_tag k) acts) ∙ omega arith

-- the three lists of a step, one behind the other
pub step-written : (b : List ℕ) (at : ℕ) {c d e : List ℕ} {k l r : ℕ} (acts : List ℕ) (n : ℕ) → Wrote (counted 3 (move_tag n) acts) at b k c → Wrote (counted 2 (before_tag n) acts) k c l d → Wrote (counted 2 (after_tag n) acts) l d r e → Wrote (step_bytes acts n) at b r e
unfolding step_bytes
step-written b at acts n p q s =
    let x : List ℕ = counted 3 (move_tag n) acts in
    let y : List ℕ = counted 2 (before_tag n) acts in
    let z : List ℕ = counted 2 (after_tag n) acts in
    written-pair (written-more z (written-more y (written-more x (written_none b at) p) q) s)

-- ---- a stretch by its number

pub stretch-first : (acts : List ℕ) (j : ℕ) → j ≡ 0 → stretch_at acts j ≡ tagged 1 part_tag acts
stretch-first acts j e = ap (stretch_at acts) e

pub stretch-second : (acts : List ℕ) (j : ℕ) → j ≡ 1 → stretch_at acts j ≡ tagged 2 coupled_tag acts
stretch-second acts j e = ap (stretch_at acts) e

pub stretch-step : (acts : List ℕ) (j : ℕ) → (j ≡ 0 → ⊥) → (j ≡ 1 → ⊥) → stretch_at acts j ≡ step_bytes acts (j - 2)
stretch-step acts zero p q = absurd (p refl)
stretch-step acts (suc zero) p q = absurd (q refl)
stretch-step acts (suc (suc k)) p q = let e : suc (suc k) - 2 ≡ k = omega arith in rw e

pub fits-step : (acts : List ℕ) (j : ℕ) → (j ≡ 0 → ⊥) → (j ≡ 1 → ⊥) → stretch_fits acts j ≡ true → step_fits acts (j - 2) ≡ true
fits-step acts zero p q h = absurd (p refl)
fits-step acts (suc zero) p q h = absurd (q refl)
fits-step acts (suc (suc k)) p q h = let e : suc (suc k) - 2 ≡ k = omega arith in rw e h

-- ---- texts of a table: one more is within all

pub joined-upto : (f : ℕ → List ℕ) (n i : ℕ) → i < n → length (joined (table i f)) + length (f i) ≤ length (joined (table n f))
joined-upto f zero i h = absurd (let z : ⊥ = omega arith in z)
joined-upto f (suc n) zero h = let e = length-append (f zero) (joined (table n (λ k. f (suc k)))) in omega arith
joined-upto f (suc n) (suc i) h =
    let e = length-append (f zero) (joined (table n (λ k. f (suc k)))) in
    let d = length-append (f zero) (joined (table i (λ k. f (suc k)))) in
    omega (arith, joined-upto (λ k. f (suc k)) n i (omega arith))

pub times-upto : (w n : ℕ) → w ≤ 3 → n ≤ 65535 → w * n ≤ 196605
times-upto w n h k = mul-le-mul h k

-- ---- pairs

pub pairs-length : (at : ℕ) (xs : List (List ℕ)) → length (pairs at xs) ≡ 4 * length xs
pairs-length at [] = refl
pairs-length at (x ∷ xs) = let e = pairs-length (at + length x) xs in omega arith

pairs-snoc : (at : ℕ) (xs : List (List ℕ)) (x : List ℕ) → pairs at (xs ++ (x ∷ [])) ≡ pairs at xs ++ (word (at + length (joined xs)) ++ word (length x))
pairs-snoc at [] x = let e : at ≡ at + 0 = omega arith in ap (λ (k : ℕ). word k ++ word (length x)) e
pairs-snoc at (y ∷ xs) x =
    let e : at + length y + length (joined xs) ≡ at + length (y ++ joined xs) = omega (arith, length-append y (joined xs)) in
    ap (λ (l : List ℕ). word at ++ word (length y) ++ l) (pairs-snoc (at + length y) xs x ∙ ap (λ (k : ℕ). pairs (at + length y) xs ++ (word k ++ word (length x))) e)

-- one pair more
pub pairs-written : {l now : List ℕ} {at k : ℕ} (from : ℕ) (f : ℕ → List ℕ) (j offset size : ℕ) {k' : ℕ} {now' : List ℕ} → offset ≡ from + length (joined (table j f)) → size ≡ length (f j)
    → Written l at (pairs from (table j f)) k now → Wrote (word offset ++ word size) k now k' now' → Written l at (pairs from (table (j + 1) f)) k' now'
pairs-written from f j offset size e d p q =
    rw (table_more j f, pairs-snoc from (table j f) (f j), ← e, ← d) (written-more (word offset ++ word size) p q)

pub joined-length-more : (f : ℕ → List ℕ) (j : ℕ) → length (joined (table (j + 1) f)) ≡ length (joined (table j f)) + length (f j)
joined-length-more f j = ap length (joined-more j f) ∙ length-append (joined (table j f)) (f j)

pub all-pairs : (from n : ℕ) (acts : List ℕ) → length (pairs from (stretches_in n acts)) ≡ 4 * n
all-pairs from n acts = pairs-length from (stretches_in n acts) ∙ ap (λ (k : ℕ). 4 * k) (length-table n (stretch_at acts))

-- ---- the sheet

pub sheet-length : (places steps : ℕ) (acts : List ℕ) → length (sheet_in places steps acts) ≡ 4 * (steps + 2) + 4 + length (joined (stretches_in (steps + 2) acts))
unfolding sheet_in
sheet-length places steps acts =
    let from : ℕ = 4 * (steps + 2) + 4 in
    let all : List (List ℕ) = stretches_in (steps + 2) acts in
    let a = three-length (1 ∷ places ∷ count_of part_tag acts ∷ steps ∷ []) (pairs from all) (joined all) in
    let b = all-pairs from (steps + 2) acts in
    omega arith

pub sheet-written : (b : List ℕ) {c d e : List ℕ} {k l r : ℕ} (places parts steps : ℕ) (acts : List ℕ) → parts ≡ count_of part_tag acts → Wrote (1 ∷ places ∷ parts ∷ steps ∷ []) 0 b k c
    → Wrote (pairs (4 * (steps + 2) + 4) (stretches_in (steps + 2) acts)) k c l d → Wrote (joined (stretches_in (steps + 2) acts)) l d r e → Filled (sheet_in places steps acts) b r e
unfolding sheet_in
sheet-written b {c} {d} {e} {k} {l} {r} places parts steps acts h p q s =
    let head : List ℕ = 1 ∷ places ∷ count_of part_tag acts ∷ steps ∷ [] in
    let p' : Wrote head 0 b k c = subst (λ (n : ℕ). Wrote (1 ∷ places ∷ n ∷ steps ∷ []) 0 b k c) h p in
    let ps : List ℕ = pairs (4 * (steps + 2) + 4) (stretches_in (steps + 2) acts) in
    let ss : List ℕ = joined (stretches_in (steps + 2) acts) in
    let w : Wrote (head ++ ps ++ ss) 0 b r e = written-pair (written-more ss (written-more ps (written-more head (written_none b 0) p') q) s) in
    (w.0 ∙ zero-add (length (head ++ ps ++ ss)), w.1)
