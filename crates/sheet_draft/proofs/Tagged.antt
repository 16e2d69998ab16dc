-- The acts of one tag among the first i acts: how many, their bytes, and how long these are.
-- Assumes nothing.
use mathlib.Core.Path.{◌≡◌, refl, sym, ap, ◌∙◌}
use mathlib.Core.Bool.{Bool, true, false}
use Prim.Native.Nat.{ℕ, suc, ◌+◌, ◌*◌, ◌/◌, ◌<◌, ◌≤◌}
use native.Mathlib.Omega.{arith}
use native.Mathlib.Numerals.{add-one}
use native.Mathlib.Nat.{mul-zero, mul-suc}
use mathlib.Core.List.{List, [], ◌∷◌, ◌++◌, map, map-append, append_assoc, append-nil}
use lib.Dec.{eqb}
use lib.ListN.{length, get_or, take, drop, length-append, take-append-drop}
use lib.Seq.{take-suc, length-take-le}
use Rattle.std.proofs.Common.{count_by, nat_eq, cond}
use Rattle.std.proofs.lemmas.List.Sums.{sum_by-cons}
use Rattle.net.specs.Tests.{pick, keep}
use Rattle.text.specs.Joined.{joined}
use Rattle.sheet_draft.specs.Acts.{tag_of, first_of, second_of, third_of, of_tag}
use Rattle.sheet_draft.specs.Bytes.{bytes_at, tagged, count_of}

module _ {X : Type 0} where
  pub keep_append : (f : X → Bool) (xs ys : List X) → keep f (xs ++ ys) ≡ keep f xs ++ keep f ys
  keep_append f [] ys = refl
  keep_append f (x ∷ xs) ys = go (f x) (keep_append f xs ys)
    where
      go : (b : Bool) → keep f (xs ++ ys) ≡ keep f xs ++ keep f ys → pick b (x ∷ keep f (xs ++ ys)) (keep f (xs ++ ys)) ≡ pick b (x ∷ keep f xs) (keep f xs) ++ keep f ys
      go true e = ap (λ (l : List X). x ∷ l) e
      go false e = e

pub joined-append : (xs ys : List (List ℕ)) → joined (xs ++ ys) ≡ joined xs ++ joined ys
joined-append [] ys = refl
joined-append (x ∷ xs) ys = ap (λ (l : List ℕ). x ++ l) (joined-append xs ys) ∙ sym (append_assoc x (joined xs) (joined ys))

pub of-append : (t : ℕ) (xs ys : List ℕ) → of_tag t (xs ++ ys) ≡ of_tag t xs ++ of_tag t ys
of-append t xs ys = keep_append (λ (w : ℕ). eqb (tag_of w) t) xs ys

-- ---- how many

pub count-append : (t : ℕ) (xs ys : List ℕ) → count_of t (xs ++ ys) ≡ count_of t xs + count_of t ys
count-append t xs ys = ap length (of-append t xs ys) ∙ length-append (of_tag t xs) (of_tag t ys)

count-one : (b : Bool) (x : ℕ) → length (pick b (x ∷ []) []) ≡ pick b 1 0
count-one true x = refl
count-one false x = refl

pub count-more : (t : ℕ) (acts : List ℕ) (i : ℕ) → i < length acts → count_of t (take (i + 1) acts) ≡ count_of t (take i acts) + pick (eqb (tag_of (get_or acts i 0)) t) 1 0
count-more t acts i h =
    let x : ℕ = get_or acts i 0 in
    ap (λ (k : ℕ). count_of t (take k acts)) (add-one i) ∙ ap (count_of t) (take-suc acts i 0 h) ∙ count-append t (take i acts) (x ∷ [])
    ∙ ap (λ (k : ℕ). count_of t (take i acts) + k) (count-one (eqb (tag_of x) t) x)

count-here : (b : Bool) (x : ℕ) (xs : List ℕ) (n : ℕ) → length xs ≤ n → length (pick b (x ∷ xs) xs) ≤ n + 1
count-here true x xs n h = omega arith
count-here false x xs n h = omega arith

pub count-upto : (t : ℕ) (acts : List ℕ) → count_of t acts ≤ length acts
count-upto t [] = omega arith
count-upto t (x ∷ acts) = let h = count-here (eqb (tag_of x) t) x (of_tag t acts) (length acts) (count-upto t acts) in omega arith

-- as std counts them
count-cond : (b : Bool) (x : ℕ) (xs : List ℕ) (n : ℕ) → n ≡ length xs → cond b 1 0 + n ≡ length (pick b (x ∷ xs) xs)
count-cond true x xs n e = omega arith
count-cond false x xs n e = omega arith

pub count_by-of : (t : ℕ) (acts : List ℕ) → count_by (λ (x : ℕ). nat_eq (x / 16777216) t) acts ≡ count_of t acts
count_by-of t [] = refl
count_by-of t (x ∷ acts) = sum_by-cons (λ (y : ℕ). cond (nat_eq (y / 16777216) t) 1 0) x acts ∙ count-cond (nat_eq (x / 16777216) t) x (of_tag t acts) _ (count_by-of t acts)

-- ---- their bytes

module _ (w t : ℕ) where
  pub tagged-append : (xs ys : List ℕ) → tagged w t (xs ++ ys) ≡ tagged w t xs ++ tagged w t ys
  tagged-append xs ys =
      ap (λ (l : List ℕ). joined (map (bytes_at w) l)) (of-append t xs ys)
      ∙ ap joined (map-append (bytes_at w) (of_tag t xs) (of_tag t ys))
      ∙ joined-append (map (bytes_at w) (of_tag t xs)) (map (bytes_at w) (of_tag t ys))

  one : (b : Bool) (x : ℕ) → joined (map (bytes_at w) (pick b (x ∷ []) [])) ≡ bytes_at (pick b w 0) x
  one true x = append-nil (bytes_at w x)
  one false x = refl

  module _ (acts : List ℕ) (i : ℕ) (h : i < length acts) where
    abbrev x : ℕ
    x = get_or acts i 0

    pub tagged-more : tagged w t (take (i + 1) acts) ≡ tagged w t (take i acts) ++ bytes_at (pick (eqb (tag_of x) t) w 0) x
    tagged-more =
        ap (λ (k : ℕ). tagged w t (take k acts)) (add-one i) ∙ ap (tagged w t) (take-suc acts i 0 h) ∙ tagged-append (take i acts) (x ∷ [])
        ∙ ap (λ (l : List ℕ). tagged w t (take i acts) ++ l) (one (eqb (tag_of x) t) x)

  pub tagged-upto : (acts : List ℕ) (i : ℕ) → length (tagged w t (take i acts)) ≤ length (tagged w t acts)
  tagged-upto acts i =
      let a : length (tagged w t acts) ≡ length (tagged w t (take i acts) ++ tagged w t (drop i acts)) =
      ap length (ap (tagged w t) (sym (take-append-drop i acts)) ∙ tagged-append (take i acts) (drop i acts)) in
      omega (arith, length-append (tagged w t (take i acts)) (tagged w t (drop i acts)))

-- the first w of three bytes are w bytes
pub bytes-length : (w x : ℕ) → w ≤ 3 → length (bytes_at w x) ≡ w
bytes-length w x h = length-take-le w (first_of x ∷ second_of x ∷ third_of x ∷ []) h

picked-upto : (b : Bool) (w m : ℕ) → w ≤ m → pick b w 0 ≤ m
picked-upto true w m h = h
picked-upto false w m h = omega arith

pub width-upto : (x t w m v : ℕ) → v ≡ pick (eqb (tag_of x) t) w 0 → w ≤ m → v ≤ m
width-upto x t w m v e h = rw e (picked-upto (eqb (tag_of x) t) w m h)

-- one act more is within the bytes of all
pub room-one : (w t : ℕ) (acts : List ℕ) (i v : ℕ) → w ≤ 3 → i < length acts → v ≡ pick (eqb (tag_of (get_or acts i 0)) t) w 0 → (v ≤ 3) × (length (tagged w t (take i acts)) + v ≤ length (tagged w t acts))
room-one w t acts i v l h e =
    let x : ℕ = get_or acts i 0 in
    let p : v ≤ 3 = width-upto x t w 3 v e l in
    let a : length (tagged w t (take (i + 1) acts)) ≡ length (tagged w t (take i acts) ++ bytes_at v x) =
    ap length (tagged-more w t acts i h) ∙ ap (λ (k : ℕ). length (tagged w t (take i acts) ++ bytes_at k x)) (sym e) in
    (p, omega (arith, a, tagged-upto w t acts (i + 1), length-append (tagged w t (take i acts)) (bytes_at v x), bytes-length v x p))

all-length : (w : ℕ) (xs : List ℕ) → w ≤ 3 → length (joined (map (bytes_at w) xs)) ≡ w * length xs
all-length w [] h = sym (mul-zero w)
all-length w (x ∷ xs) h =
    let m : w * suc (length xs) ≡ w * length xs + w = mul-suc w (length xs) in
    omega (arith, length-append (bytes_at w x) (joined (map (bytes_at w) xs)), bytes-length w x h, all-length w xs h)

pub tagged-length : (w t : ℕ) (acts : List ℕ) → w ≤ 3 → length (tagged w t acts) ≡ w * count_of t acts
tagged-length w t acts h = all-length w (of_tag t acts) h
