-- Laws of the runs of letters that a chain counts, of the numbers that a fold reads, and of what is found there.
-- Assumes nothing.
use Rattle.std.specs.List.{fold, slice_range, prefix_len}
use Rattle.std.proofs.lemmas.List.{drop-take, take_rest}
use Rattle.std.proofs.lemmas.List.Sums.{prefix_len-le-length}
use Rattle.std.proofs.lemmas.List.Folds.{length-prefix_len}
use mathlib.Core.Path.{◌≡◌, refl, sym, ap, ◌∙◌}
use mathlib.Core.Bool.{Bool, true, false, cond}
use Prim.Native.Nat.{ℕ, suc, ◌+◌, ◌-◌, ◌<◌, ◌≤◌}
use native.Mathlib.Omega.{arith}
use native.Mathlib.Numerals.{add-one}
use borrow.Author.Tests.{ltb-true, ltb-false}
use lib.Dec.{ltb}
use mathlib.Core.List.{List, [], ◌∷◌, ◌++◌, foldl}
use lib.ListN.{length, get_or, take, drop, length-append, length-drop, take-append-drop, drop_of_length-le}
use lib.Seq.{drop-cons, slice, length-slice, length-take-le, drop-append-le, drop-drop, take_at}
use Rattle.net.specs.Tests.{pick}
use Rattle.lexing.specs.Tokens.{word, number, letter, digit, in_line, past, front, more, value, ends, joins, Next, worded, numbered, ended}
use Rattle.lexing.specs.Found.{passes, Reaches, Stands}
use Rattle.lexing.specs.declared.Class.{Class}
use Rattle.lexing.specs.declared.Class.TheVariants.{Letter, Digit, InLine}
use Rattle.lexing.specs.declared.Kind.TheVariants.{Word, Number, Line}

-- ---- a run by how many letters pass

past-prefix : (f : ℕ → Bool) (l : List ℕ) → drop (prefix_len f l) l ≡ past f l
past-prefix f [] = refl
past-prefix f (c ∷ l) = go (past-prefix f l) (f c)
  where
    go : drop (prefix_len f l) l ≡ past f l → (b : Bool) → drop (cond b (1 + prefix_len f l) 0) (c ∷ l) ≡ pick b (past f l) (c ∷ l)
    go ih true = let e : 1 + prefix_len f l ≡ suc (prefix_len f l) = omega arith in rw e ih
    go ih false = refl

pub reaches-count : (s : List ℕ) (at : ℕ) (class : Class) (n : ℕ) → at ≤ length s
    → n ≡ length (take (prefix_len (passes class) (slice_range s at (length s))) (slice_range s at (length s))) → Reaches s at class (at + n)
reaches-count s at class n h e =
    let f : ℕ → Bool = passes class in
    let k : n ≡ prefix_len f (drop at s) = e ∙ length-prefix_len f (slice_range s at (length s)) ∙ ap (prefix_len f) (take_rest s at) in
    let b : prefix_len f (drop at s) ≤ length (drop at s) = prefix_len-le-length f (drop at s) in
    record {
      rest = sym (drop-drop n at s) ∙ rw (k) (past-prefix f (drop at s));
      from = omega arith;
      to = omega (arith, length-drop at s);
    }

-- ---- a run letter by letter

module _ (f : ℕ → Bool) (s : List ℕ) (i : ℕ) where
  -- the letter at i fails: the run ends here
  pub past-here : i < length s → f (get_or s i 0) ≡ false → drop i s ≡ past f (drop i s)
  past-here h e = rw (drop-cons s i 0 h, e)

  -- it passes: the run goes on
  pub past-on : i < length s → f (get_or s i 0) ≡ true → past f (drop (i + 1) s) ≡ past f (drop i s)
  past-on h e = rw (drop-cons s i 0 h, e, add-one i)

  -- the text ends
  pub past_end : length s ≤ i → drop i s ≡ past f (drop i s)
  past_end h = rw (drop_of_length-le s h)

-- ---- a number by its digits

fold-value : (v : ℕ) (l : List ℕ) → fold more v l ≡ foldl more v l
fold-value v [] = refl
fold-value v (c ∷ l) = fold-value (more v c) l

-- the part of a slice that the code takes, in the words of the clauses
pub slice_range-slice : (s : List ℕ) (from to : ℕ) → from ≤ to → slice_range s from to ≡ slice from to s
slice_range-slice s from to h =
    let e : from + (to - from) ≡ to = omega arith in
    sym (drop-take from (to - from) s) ∙ ap (λ (k : ℕ). drop from (take k s)) e

pub value-slice : (s : List ℕ) (from to : ℕ) → from ≤ to → fold more 0 (slice_range s from to) ≡ value (slice from to s)
value-slice s from to h = fold-value 0 (slice_range s from to) ∙ ap value (slice_range-slice s from to h)

-- ---- a run by its two ends

front-past : (f : ℕ → Bool) (l : List ℕ) → front f l ++ past f l ≡ l
front-past f [] = refl
front-past f (c ∷ l) = go (front-past f l) (f c)
  where
    go : front f l ++ past f l ≡ l → (b : Bool) → pick b (c ∷ front f l) [] ++ pick b (past f l) (c ∷ l) ≡ c ∷ l
    go ih true = ap (λ (k : List ℕ). c ∷ k) ih
    go ih false = refl

pub slice-rest : (s : List ℕ) (a b : ℕ) → a ≤ b → b ≤ length s → drop a s ≡ slice a b s ++ drop b s
slice-rest s a b h k =
    let n : length (take b s) ≡ b = length-take-le b s k in
    ap (drop a) (sym (take-append-drop b s)) ∙ drop-append-le a (take b s) (drop b s) (omega arith)

pub front-slice : (s : List ℕ) (a : ℕ) (class : Class) (b : ℕ) → Reaches s a class b → slice a b s ≡ front (passes class) (drop a s)
front-slice s a class b r =
    let f : ℕ → Bool = passes class in
    let h : a ≤ b = r.from in
    let k : b ≤ length s = r.to in
    let e : front f (drop a s) ++ drop b s ≡ drop a s = ap (λ (x : List ℕ). front f (drop a s) ++ x) r.rest ∙ front-past f (drop a s) in
    let p : length (front f (drop a s)) ≡ b - a = omega (arith, length-append (front f (drop a s)) (drop b s), ap length e, length-drop a s, length-drop b s) in
    sym (take_at (slice a b s) (drop b s) (b - a) (length-slice a b s k))
    ∙ ap (take (b - a)) (sym (slice-rest s a b h k) ∙ sym e)
    ∙ take_at (front f (drop a s)) (drop b s) (b - a) p

-- a hyphen stands in the text
pub joins-within : (s : List ℕ) (b : ℕ) → joins (drop b s) ≡ true → b < length s
joins-within s b j = go (ltb b (length s)) refl
  where
    go : (c : Bool) → ltb b (length s) ≡ c → b < length s
    go true e = ltb-true b (length s) e
    go false e = let z : joins (drop b s) ≡ false = ap joins (drop_of_length-le s (ltb-false b (length s) e)) in absurd (let y : ◌≡◌ {A = ℕ} 0 1 = cc in let f : ⊥ = omega arith in f)

-- ---- what was found, by the run

module _ (s : List ℕ) (a b : ℕ) where
  module _ (r : Reaches s a Letter b) where
    abbrev theWord : Next
    theWord = worded (front letter (drop a s)) (past letter (drop a s))

    after-word : (c : Bool) → ends (drop b s) ≡ c → ends (past letter (drop a s)) ≡ c
    after-word c e = ap ends (sym r.rest) ∙ e

    pub word_stands : ends (drop b s) ≡ true → Stands s (record { kind = Word; from = a; to = b }) theWord
    word_stands e = rw (after-word true e) (record { token = ap word (front-slice s a Letter b r); rest = r.rest; order = r.from; within = r.to })

  module _ (r : Reaches s a Digit b) where
    abbrev theNumber : Next
    theNumber = numbered (value (front digit (drop a s))) (past digit (drop a s))

    after-number : (c : Bool) → ends (drop b s) ≡ c → ends (past digit (drop a s)) ≡ c
    after-number c e = ap ends (sym r.rest) ∙ e

    joined_number : (c : Bool) → joins (drop b s) ≡ c → joins (past digit (drop a s)) ≡ c
    joined_number c e = ap joins (sym r.rest) ∙ e

    of-digits : (n : ℕ) → n ≡ value (slice a b s) → number n ≡ number (value (front digit (drop a s)))
    of-digits n e = ap number (e ∙ ap value (front-slice s a Digit b r))

    pub number-stands : (n : ℕ) → n ≡ value (slice a b s) → ends (drop b s) ≡ true → Stands s (record { kind = Number n; from = a; to = b }) theNumber
    number-stands n e d = rw (after-number true d) (record { token = of-digits n e; rest = r.rest; order = r.from; within = r.to })

    pub number-joins : (n : ℕ) → n ≡ value (slice a b s) → ends (drop b s) ≡ false → joins (drop b s) ≡ true
        → Stands s (record { kind = Number n; from = a; to = b + 1 }) theNumber
    number-joins n e d j =
        let h : b < length s = joins-within s b j in
        let f : a ≤ b = r.from in
        rw (after-number false d, joined_number true j)
        (record { token = of-digits n e; rest = sym (drop-drop 1 b s) ∙ ap (drop 1) r.rest; order = omega arith; within = omega arith })

  pub line-stands : Reaches s a InLine b → b < length s → Stands s (record { kind = Line; from = b; to = b + 1 }) (ended (past in_line (drop a s)))
  line-stands r h =
      let e : past in_line (drop a s) ≡ get_or s b 0 ∷ drop (suc b) s = sym r.rest ∙ drop-cons s b 0 h in
      rw e (record { token = refl; rest = rw (add-one b); order = omega arith; within = omega arith })
