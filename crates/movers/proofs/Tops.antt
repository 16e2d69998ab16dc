-- The search for the top above the last line that moved a base, by any relation: line by line, as loops over a place go.
-- Assumes nothing.
use mathlib.Core.Path.{◌≡◌, sym, ◌∙◌, ap}
use Rattle.std.specs.Prelude.{Option, None, Some, MatchOption}
use mathlib.Core.Bool.{Bool, true, false, ◌||◌, or-false}
use mathlib.Core.List.{List, [], ◌∷◌, ◌++◌}
use Prim.Native.Nat.{ℕ, suc, ◌+◌, ◌<◌, ◌≤◌}
use native.Mathlib.Omega.{arith}
use native.Mathlib.Numerals.{add-one}
use lib.ListN.{get_or, length, take, drop, drop_of_length-le}
use lib.Seq.{drop-cons, split_at, drop-append-le}
use Rattle.causal.proofs.Tests.{both}
use Rattle.net.specs.Tests.{pick, table}
use Rattle.net.specs.Firing.{in_set}
use Rattle.net.specs.Journal.{LiveLine, no_line}
use Rattle.net.proofs.Tests.{or_l, or_r, any-i, any_append}
use Rattle.net.proofs.Tables.{length-table, get_d-table, table_more}
use Rattle.firings.proofs.Laid.{mem-at}
use Rattle.movers.specs.Tops.{moved_in, top_of, top_at, LastAt, TopPlace}

-- ---- the last line that moved p

module _ (p : ℕ) where
  moved-end : (ls : List LiveLine) (n : ℕ) → length ls ≤ n → moved_in p (drop n ls) ≡ false
  moved-end ls n h = ap (moved_in p) (drop_of_length-le ls h)

  moved-snoc : (xs : List LiveLine) (x : LiveLine) → moved_in p (xs ++ (x ∷ [])) ≡ (moved_in p xs || in_set x.moved p)
  moved-snoc xs x = any_append (λ (l : LiveLine). in_set l.moved p) xs (x ∷ []) ∙ ap (λ (b : Bool). moved_in p xs || b) (or-false (in_set x.moved p))

  -- the lines are the first of f 0, f 1, ..
  module _ (f : ℕ → LiveLine) where
    -- of the first n the one at c was the last that moved p, or none did
    abbrev pub Last : ℕ → Option ℕ → Type 0
    Last n None = moved_in p (table n f) ≡ false
    Last n (Some c) = (c < n) × (in_set (f c).moved p ≡ true) × (moved_in p (drop (suc c) (table n f)) ≡ false)

    more : (n : ℕ) → table (n + 1) f ≡ table n f ++ (f n ∷ [])
    more n = table_more n f

    -- one line more, which moved p, or did not
    pub last_moves : (n : ℕ) → in_set (f n).moved p ≡ true → Last (n + 1) (Some n)
    last_moves n m = (omega arith, m, moved-end (table (n + 1) f) (suc n) (rw length-table (omega arith)))

    pub last_stays : (n : ℕ) (o : Option ℕ) → in_set (f n).moved p ≡ false → Last n o → Last (n + 1) o
    last_stays n None m none = ap (moved_in p) (more n) ∙ moved-snoc (table n f) (f n) ∙ (λ i. none i || m i)
    last_stays n (Some c) m (lt, d, later) = (
      omega arith,
      d,
      ap (λ (l : List LiveLine). moved_in p (drop (suc c) l)) (more n)
          ∙ ap (moved_in p) (drop-append-le (suc c) (table n f) (f n ∷ []) (rw length-table lt)) ∙ moved-snoc (drop (suc c) (table n f)) (f n) ∙ (λ i. later i || m i),
    )

  -- all lines were looked at
  pub last-all : (n : ℕ) (f : ℕ → LiveLine) (o : Option ℕ) → Last f n o → MatchOption o (LastAt p (table n f) n) (λ c. LastAt p (table n f) c × (c < n))
  last-all n f None free = record {
    none = λ _. sym (length-table n f);
    below = λ m. both (moved_in p (table n f)) m free;
    moves = λ m. both (moved_in p (table n f)) m free;
    last = moved-end (table n f) (suc n) (rw length-table (omega arith));
  }
  last-all n f (Some c) (lt, e, later) =
      let at : in_set (get_or (table n f) c no_line).moved p ≡ true = ap (λ (l : LiveLine). in_set l.moved p) (get_d-table n f c no_line lt) ∙ e in
      let low : c < length (table n f) = rw length-table lt in (
        record {
          none = λ m. both (moved_in p (table n f)) (any-i (λ (l : LiveLine). in_set l.moved p) (table n f) (get_or (table n f) c no_line) (mem-at (table n f) no_line c low) at) m;
          below = λ _. low;
          moves = λ _. at;
          last = later;
        },
        lt,
      )

-- ---- the way up from it

module _ (dep : LiveLine → LiveLine → Bool) where
  top_split : (p : ℕ) (xs : List LiveLine) (l : LiveLine) (ys : List LiveLine) → in_set l.moved p ≡ true → moved_in p ys ≡ false → top_at dep p (xs ++ l ∷ ys) ≡ top_of dep l ys
  top_split p [] l ys i e = rw e
  top_split p (x ∷ xs) l ys i e = ap (λ (b : Bool). pick b (top_at dep p (xs ++ l ∷ ys)) (top_of dep x (xs ++ l ∷ ys))) (moved-mid xs) ∙ top_split p xs l ys i e
    where
      moved-mid : (xs : List LiveLine) → moved_in p (xs ++ l ∷ ys) ≡ true
      moved-mid [] = or_l (in_set l.moved p) (moved_in p ys) i
      moved-mid (x ∷ xs) = or_r (in_set x.moved p) (moved_in p (xs ++ l ∷ ys)) (moved-mid xs)

  -- one line further: the one at c is in hand, and gives way to the one at i or does not
  module _ (n : ℕ) (f : ℕ → LiveLine) where
    abbrev ls : List LiveLine
    ls = table n f

    turn : (c i : ℕ) → c < n → i < n → top_of dep (pick (dep (f c) (f i)) (get_or ls i no_line) (get_or ls c no_line)) (drop (i + 1) ls) ≡ top_of dep (get_or ls c no_line) (drop i ls)
    turn c i k h =
        let x : LiveLine = get_or ls c no_line in
        let y : LiveLine = get_or ls i no_line in
        ap (λ (m : ℕ). top_of dep (pick (dep (f c) (f i)) y x) (drop m ls)) (add-one i)
        ∙ sym (λ j. top_of dep (pick (dep (get_d-table n f c no_line k j) (get_d-table n f i no_line h j)) y x) (drop (suc i) ls))
        ∙ sym (ap (top_of dep x) (drop-cons ls i no_line (rw length-table h)))

    pub top-gives : (c i : ℕ) → c < n → i < n → dep (f c) (f i) ≡ true → top_of dep (get_or ls i no_line) (drop (i + 1) ls) ≡ top_of dep (get_or ls c no_line) (drop i ls)
    top-gives c i k h e = ap (λ (b : Bool). top_of dep (pick b (get_or ls i no_line) (get_or ls c no_line)) (drop (i + 1) ls)) (sym e) ∙ turn c i k h

    pub top-stays : (c i : ℕ) → c < n → i < n → dep (f c) (f i) ≡ false → top_of dep (get_or ls c no_line) (drop (i + 1) ls) ≡ top_of dep (get_or ls c no_line) (drop i ls)
    top-stays c i k h e = ap (λ (b : Bool). top_of dep (pick b (get_or ls i no_line) (get_or ls c no_line)) (drop (i + 1) ls)) (sym e) ∙ turn c i k h

  pub top-end : (ls : List LiveLine) (l : LiveLine) (n : ℕ) → length ls ≤ n → top_of dep l (drop n ls) ≡ l
  top-end ls l n h = ap (top_of dep l) (drop_of_length-le ls h)

  module _ (p : ℕ) (ls : List LiveLine) (c : ℕ) (L : LastAt p ls c) where
    -- none moved p
    pub top-none : length ls ≤ c → (r : ℕ) → r ≡ length ls → TopPlace dep p ls r
    top-none h r e =
        let free : moved_in p ls ≡ true → ⊥ = λ m. let d = L.below m in let z : ⊥ = omega arith in z in
        record { none = λ _. e; below = λ m. absurd (free m); top = λ m. absurd (free m) }

    -- the line at r is the top above the one at c
    pub top-found : c < length ls → (r : ℕ) → r < length ls → get_or ls r no_line ≡ top_of dep (get_or ls c no_line) (drop (suc c) ls) → TopPlace dep p ls r
    top-found h r low e = record {
      none = λ m. absurd (let d = L.none m in let z : ⊥ = omega arith in z);
      below = λ _. low;
      top = λ m. e ∙ sym (ap (top_at dep p) (split_at ls c no_line h) ∙ top_split p (take c ls) (get_or ls c no_line) (drop (suc c) ls) (L.moves m) L.last);
    }
