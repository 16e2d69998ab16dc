-- Laws of passes over the live firings: tests of all entries, keys that climb.
-- Assumes nothing.
use mathlib.Core.Path.{◌≡◌, refl, sym, ◌∙◌, ap}
use Rattle.std.specs.Prelude.{fold}
use mathlib.Core.Bool.{Bool, true, false, ◌&&◌, and_assoc, and-true}
use mathlib.Core.List.{List, [], ◌∷◌}
use Prim.Native.Nat.{ℕ, suc, ◌+◌, ◌-◌, ◌<◌, ◌≤◌}
use native.Mathlib.Numerals.{add-one}
use lib.ListN.{length, get_or, take, drop, length-take, drop_of_length-le}
use Rattle.std.proofs.lemmas.List.{get_or-take, take_all, length-drop}
use lib.Seq.{drop-cons}
use native.Mathlib.Omega.{arith}
use mir.Val.{bool_byte}
use lib.Dec.{ltb, leb}
use Rattle.net.specs.Limits.{max_key, max_live}
use Rattle.net.specs.Tests.{pick, all, table}
use Rattle.net.proofs.Tables.{length-table, get_d-table}
use Rattle.firings.specs.Form.{climbs}

-- one turn, and the end
pub climb-turn : (f : ℕ → ℕ) (n i last : ℕ) (w ok : Bool) → i < n → w ≡ (ok && climbs last (drop i (table n f)))
    → w ≡ ((ok && (ltb last (f i) && leb (f i) max_key)) && climbs (f i) (drop (i + 1) (table n f)))
climb-turn f n i last w ok h e =
    let size : i < length (table n f) = rw length-table h in
    e ∙ ap (λ (k : List ℕ). ok && climbs last k) (drop-cons (table n f) i 0 size)
    ∙ ap (λ (x : ℕ). ok && ((ltb last x && leb x max_key) && climbs x (drop (suc i) (table n f)))) (get_d-table n f i 0 h)
    ∙ sym (and_assoc ok (ltb last (f i) && leb (f i) max_key) (climbs (f i) (drop (suc i) (table n f))))
    ∙ ap (λ (k : ℕ). (ok && (ltb last (f i) && leb (f i) max_key)) && climbs (f i) (drop k (table n f))) (sym (add-one i))

pub climb-end : (f : ℕ → ℕ) (n i last : ℕ) (w ok : Bool) → n ≤ i → w ≡ (ok && climbs last (drop i (table n f))) → ok ≡ w
climb-end f n i last w ok h e =
    let size : length (table n f) ≤ i = rw length-table h in
    sym (e ∙ ap (λ (k : List ℕ). ok && climbs last k) (drop_of_length-le (table n f) size) ∙ and-true ok)

-- a test of every entry, with no early exit
pub fold-all : (t : ℕ → Bool) (ok : Bool) (xs : List ℕ) → fold (λ b x. b && t x) ok xs ≡ (ok && all t xs)
fold-all t ok [] = sym (and-true ok)
fold-all t ok (x ∷ xs) = fold-all t (ok && t x) xs ∙ and_assoc ok (t x) (all t xs)

-- a test as a number
pub byte-pick : (b : Bool) → bool_byte b ≡ pick b 1 0
byte-pick true = refl
byte-pick false = refl

pub byte-le : (b : Bool) → bool_byte b ≤ 1
byte-le true = omega arith
byte-le false = omega arith

-- the first n of a list, read one by one
pub front-in : (n i : ℕ) (l : List ℕ) → i < length (take n l) → i < n
front-in n i l h = let e = length-take n l in omega arith

pub front-at : (n i : ℕ) (l : List ℕ) → i < length (take n l) → get_or (take n l) i 0 ≡ get_or l i 0
front-at n i l h = get_or-take n l i 0 (front-in n i l h)

pub front-long : (n i : ℕ) (l : List ℕ) → n ≤ length l → i ≤ length (take n l) → length (take n l) ≤ i → i ≡ n
front-long n i l h a b = let e = length-take n l in omega arith

-- what stands after the first n
pub rest-of : (n : ℕ) (l : List ℕ) → length l ≡ max_live → take (max_live - n) (drop n l) ≡ drop n l
rest-of n l h = take_all (max_live - n) (drop n l) (let e = length-drop n l in omega arith)
