-- Where a firing spreads: over one line more, as the loop adds it; by the place of its key; and that sets of more
-- flags, none of them set, spread alike. Assumes nothing.
use mathlib.Core.Path.{◌≡◌, refl, sym, ◌∙◌, ap}
use mathlib.Core.Bool.{Bool, true, false, ◌||◌}
use mathlib.Core.List.{List, [], ◌∷◌}
use Prim.Native.Nat.{ℕ, zero, suc, ◌+◌, ◌<◌, ◌≤◌}
use native.Mathlib.Omega.{arith}
use native.Mathlib.Numerals.{add-one}
use lib.ListN.{length, get_or, take, drop, drop_of_length-le}
use Rattle.std.proofs.lemmas.List.{get_or-take, get_or-drop, length-drop, length-take-le}
use lib.Seq.{drop-cons}
use Rattle.net.specs.Limits.{max_bases}
use Rattle.net.specs.Tests.{pick, table}
use Rattle.net.specs.Firing.{in_set}
use Rattle.net.specs.Journal.{LiveLine, no_line, same_key, line_keys, is_live, common}
use Rattle.net.specs.declared.Key.{Key}
use Rattle.net.proofs.Tables.{table-cong}
use Rattle.words.specs.Sets.{set_of, either}
use Rattle.firings.specs.Lines.{lines_in}
use Rattle.firings.specs.declared.Firings.{Firings}
use Rattle.firings.specs.Search.{keys_in, index_of}
use Rattle.firings.proofs.Search.{keys-of-lines}
use Rattle.firings.proofs.Lines.{lines-length, moved_at, Alike, common-alike, either-alike, SameLine}
use Rattle.net.specs.declared.Verdict.TheVariants.{Accepted}
use Rattle.spread.specs.Depends.{spread, spread_from, spread_of}
use Rattle.spread.specs.Spread.{told, not_told, spread_among}
use Rattle.spread.specs.declared.Spread.{Spread}

-- ---- one line more

spread-next : (m : List Bool) (l : LiveLine) (ls : List LiveLine) → spread m (l ∷ ls) ≡ spread (pick (common m l.moved) (either m l.moved) m) ls
spread-next m l ls = go (common m l.moved)
  where
    go : (c : Bool) → pick c (spread (either m l.moved) ls) (spread m ls) ≡ spread (pick c (either m l.moved) m) ls
    go true = refl
    go false = refl

module _ (f : Firings) where
  abbrev ls : List LiveLine
  ls = lines_in max_bases f

  -- the loop over the lines after the one at i: it begins, goes on and ends
  pub from_one : (i : ℕ) → i < f.live → spread (set_of max_bases (get_or f.moved i 0)) (drop (i + 1) ls) ≡ spread_from i ls
  from_one i h = λ x. spread (sym (moved_at max_bases f i h) x) (drop (add-one i x) ls)

  pub from_more : (j : ℕ) → j < f.live → (m r s : List Bool) → spread m (drop j ls) ≡ s
      → r ≡ pick (common m (set_of max_bases (get_or f.moved j 0))) (either m (set_of max_bases (get_or f.moved j 0))) m → spread r (drop (j + 1) ls) ≡ s
  from_more j h m r s e q =
      let size : j < length ls = rw (lines-length max_bases f) h in
      let at : set_of max_bases (get_or f.moved j 0) ≡ (get_or ls j no_line).moved = sym (moved_at max_bases f j h) in
      (λ x. spread ((q ∙ ap (λ (n : List Bool). pick (common m n) (either m n) m) at) x) (drop (add-one j x) ls))
      ∙ sym (spread-next m (get_or ls j no_line) (drop (suc j) ls)) ∙ ap (spread m) (sym (drop-cons ls j no_line size)) ∙ e

  pub from_end : (j : ℕ) → f.live ≤ j → (m s : List Bool) → spread m (drop j ls) ≡ s → m ≡ s
  from_end j h m s e =
      let size : length ls ≤ j = rw (lines-length max_bases f) h in
      ap (spread m) (sym (drop_of_length-le ls size)) ∙ e

-- those from k on, n of them, read one by one
pub part-at : (k n x : ℕ) (l : List ℕ) → x < n → get_or (take n (drop k l)) x 0 ≡ get_or l (k + x) 0
part-at k n x l h = get_or-take n (drop k l) x 0 h ∙ get_or-drop k l x 0

pub part-long : (k n : ℕ) (l : List ℕ) → k + n ≤ length l → length (take n (drop k l)) ≡ n
part-long k n l h = let e = length-drop k l in length-take-le n (drop k l) (omega arith)

-- ---- by the place of the key

found : (k : Key) (ls : List LiveLine) → index_of k (line_keys ls) < length ls → (is_live k ls ≡ true) × (spread_of k ls ≡ spread_from (index_of k (line_keys ls)) ls)
found k [] h = absurd (let z : ⊥ = omega arith in z)
found k (l ∷ ls) h = go (same_key l.key k) h (found k ls)
  where
    i : ℕ
    i = index_of k (line_keys ls)

    go : (c : Bool) → pick c 0 (suc i) < suc (length ls) → (i < length ls → (is_live k ls ≡ true) × (spread_of k ls ≡ spread_from i ls))
        → ((c || is_live k ls) ≡ true) × (pick c (spread l.moved ls) (spread_of k ls) ≡ spread_from (pick c 0 (suc i)) (l ∷ ls))
    go true h ih = (refl, refl)
    go false h ih = ih (omega arith)

missing : (k : Key) (ls : List LiveLine) → length ls ≤ index_of k (line_keys ls) → is_live k ls ≡ false
missing k [] h = refl
missing k (l ∷ ls) h = go (same_key l.key k) h (missing k ls)
  where
    go : (c : Bool) → suc (length ls) ≤ pick c 0 (suc (index_of k (line_keys ls))) → (length ls ≤ index_of k (line_keys ls) → is_live k ls ≡ false) → (c || is_live k ls) ≡ false
    go true h ih = absurd (let z : ⊥ = omega arith in z)
    go false h ih = ih (omega arith)

-- the key's place among the live keys
module _ (f : Firings) (k : Key) (x : Spread) where
  abbrev own : List LiveLine
  own = lines_in max_bases f

  place : (i : ℕ) → i ≡ index_of k (keys_in f.live f.keys) → i ≡ index_of k (line_keys own)
  place i e = e ∙ ap (index_of k) (keys-of-lines max_bases f)

  pub told-live : (i : ℕ) → i ≡ index_of k (keys_in f.live f.keys) → i < f.live → x ≡ told (spread_from i own) → x ≡ spread_among k own
  told-live i e h q =
      let size = lines-length max_bases f in
      let at = place i e in
      let (a, b) = found k own (omega arith) in
      q ∙ ap told (ap (λ (j : ℕ). spread_from j own) at ∙ sym b) ∙ ap (λ (c : Bool). pick c (told (spread_of k own)) (not_told 19)) (sym a)

  pub told-missing : f.live ≡ index_of k (keys_in f.live f.keys) → x ≡ not_told 19 → x ≡ spread_among k own
  told-missing e q =
      let size = lines-length max_bases f in
      let at = place f.live e in
      q ∙ ap (λ (c : Bool). pick c (told (spread_of k own)) (not_told 19)) (sym (missing k own (omega arith)))

-- ---- lines of other numbers of flags

pick-alike : (c d : Bool) → c ≡ d → (x y u v : List Bool) → Alike x y → Alike u v → Alike (pick c x u) (pick d y v)
pick-alike c d q x y u v s t = rw q (side d)
  where
    side : (d : Bool) → Alike (pick d x u) (pick d y v)
    side true = s
    side false = t

spread-alike : (n : ℕ) (f g : ℕ → LiveLine) → ((i : ℕ) → i < n → SameLine (f i) (g i)) → (a b : List Bool) → Alike a b → Alike (spread a (table n f)) (spread b (table n g))
spread-alike zero f g h a b e = e
spread-alike (suc n) f g h a b e =
    let m : Alike (f zero).moved (g zero).moved = (h zero (omega arith)).moved in
    let ih : (x y : List Bool) → Alike x y → Alike (spread x (table n (λ i. f (suc i)))) (spread y (table n (λ i. g (suc i)))) =
    spread-alike n (λ i. f (suc i)) (λ i. g (suc i)) (λ i u. h (suc i) (omega arith)) in
    pick-alike (common a (f zero).moved) (common b (g zero).moved) (common-alike a b (f zero).moved (g zero).moved e m) _ _ _ _
    (ih (either a (f zero).moved) (either b (g zero).moved) (either-alike a b (f zero).moved (g zero).moved e m)) (ih a b e)

of-alike : (k : Key) (n : ℕ) (f g : ℕ → LiveLine) → ((i : ℕ) → i < n → SameLine (f i) (g i)) → Alike (spread_of k (table n f)) (spread_of k (table n g))
of-alike k zero f g h = λ p. refl
of-alike k (suc n) f g h =
    let rest : (i : ℕ) → i < n → SameLine (f (suc i)) (g (suc i)) = λ i u. h (suc i) (omega arith) in
    let z : SameLine (f zero) (g zero) = h zero (omega arith) in
    pick-alike (same_key (f zero).key k) (same_key (g zero).key k) (ap (λ (j : Key). same_key j k) z.key) _ _ _ _
    (spread-alike n (λ i. f (suc i)) (λ i. g (suc i)) rest (f zero).moved (g zero).moved z.moved) (of-alike k n (λ i. f (suc i)) (λ i. g (suc i)) rest)

live_alike : (k : Key) (n : ℕ) (f g : ℕ → LiveLine) → ((i : ℕ) → i < n → SameLine (f i) (g i)) → is_live k (table n f) ≡ is_live k (table n g)
live_alike k zero f g h = refl
live_alike k (suc n) f g h =
    let e = (h zero (omega arith)).key in
    let r = live_alike k n (λ i. f (suc i)) (λ i. g (suc i)) (λ i u. h (suc i) (omega arith)) in
    λ x. same_key (e x) k || r x

-- the same is told of them
pub among-alike : (k : Key) (n : ℕ) (f g : ℕ → LiveLine) → ((i : ℕ) → i < n → SameLine (f i) (g i)) → spread_among k (table n f) ≡ spread_among k (table n g)
among-alike k n f g h =
    let flags : table max_bases (in_set (spread_of k (table n f))) ≡ table max_bases (in_set (spread_of k (table n g))) =
    table-cong max_bases (in_set (spread_of k (table n f))) (in_set (spread_of k (table n g))) (λ p _. of-alike k n f g h p) in
    λ x. pick (live_alike k n f g h x) (record { answer = Accepted; parts = flags x }) (not_told 19)
