-- Sets of live firings (02, T-04): those taken back are those closed upward, also in descending keys; the last line that moved
-- a base in a wrong place is in each set with the wanted effect. Assumes that the net meets the sheet's rules.
use mathlib.Core.Path.{◌≡◌, refl, sym, ◌∙◌, ap, subst}
use mathlib.Core.Logic.{◌⊎◌, inl, inr}
use mathlib.Core.Bool.{Bool, true, false, not, ◌||◌}
use mathlib.Core.List.{List, [], ◌∷◌}
use Prim.Native.Nat.{ℕ, zero, suc, ◌<◌, ◌≤◌}
use native.Mathlib.Omega.{arith}
use lib.Dec.{ltb}
use lib.ListN.{get_or, length, take, drop}
use lib.Seq.{take-suc, take-length, split_at}
use borrow.Author.Tests.{not-false, eqb-false, ltb-true, ltb-false, lt-ltb}
use Rattle.causal.specs.Lists.{Mem}
use Rattle.causal.proofs.Tests.{test, both}
use Rattle.causal.proofs.Lists.{mem-mid, mem-left}
use Rattle.net.specs.Tests.{pick}
use Rattle.net.specs.Sorted.{ascends}
use Rattle.net.specs.Net.{Marking, Net, place}
use Rattle.net.specs.Rules.{net_rule}
use Rattle.net.specs.Firing.{in_set}
use Rattle.net.specs.Checks.{clear}
use Rattle.net.specs.Journal.{LiveLine, Journal, no_line, same_key, is_live, line_of, without, common, built_on, undo_checks, undo_reply, play}
use Rattle.net.specs.Claims.{undo_commands}
use Rattle.net.specs.declared.Key.{Key}
use Rattle.net.proofs.Tests.{fails, same_test, and_i, or_l, or_r, pick-case, any-no, keep-mem}
use Rattle.net.proofs.Checks.{clear-off}
use Rattle.net.proofs.Keys.{Up, key_of, mem-snoc, up-before, same_key_lem, line-live, live-line, own_line, mem-without, without-mem, built-e, built-i, common-i}
use Rattle.net.proofs.Journal.{Held, undo-held}
use Rattle.net.proofs.Undoing.{Accepted, takeAll, accepted-play, accepted-answers, answers-accepted, take-held, among, mem-among, among-mem, lines_left, left-cong, left-left, take-lines, after, held_after, undo-place}
use Rattle.layout.specs.Layout.{elsewhere}
use Rattle.way_back.specs.Ways.{misfit, AtPlaces, TakenBack, HasEffect, ClosedUpward, descending_to, descending, higher}
use Rattle.movers.specs.Tops.{moved_in}

-- ---- the first n lines, and the members' keys among them

module _ (ls : List LiveLine) (n : ℕ) (h : n < length ls) where
  pub line-at : Mem (get_or ls n no_line) ls
  line-at = subst (λ (x : List LiveLine). Mem (get_or ls n no_line) x) (sym (split_at ls n no_line h)) (mem-mid (get_or ls n no_line) (take n ls) (drop (suc n) ls))

  one_more : (l : LiveLine) → Mem l (take (suc n) ls) → Mem l (take n ls) ⊎ (l ≡ get_or ls n no_line)
  one_more l m = mem-snoc (take n ls) (get_or ls n no_line) l (rw (take-suc ls n no_line h) at m)

  still-there : (l : LiveLine) → Mem l (take n ls) → Mem l (take (suc n) ls)
  still-there l m = rw (take-suc ls n no_line h) (mem-left (take n ls) (get_or ls n no_line ∷ []) l m)

  last-there : Mem (get_or ls n no_line) (take (suc n) ls)
  last-there = rw (take-suc ls n no_line h) (mem-mid (get_or ls n no_line) (take n ls) [])

  lower : Up ls → (l : LiveLine) → Mem l (take n ls) → l.key.0 < (get_or ls n no_line).key.0
  lower u l m = up-before (get_or ls n no_line) (take n ls) (drop (suc n) ls) (subst Up (split_at ls n no_line h) u) l m

module _ (f : Key → Bool) (ls : List LiveLine) where
  mem-to : (n : ℕ) → n ≤ length ls → (l : LiveLine) → Mem l (take n ls) → f l.key ≡ true → Mem l.key (descending_to f ls n)
  mem-to zero h l m e = absurd m
  mem-to (suc n) h l m e = go (one_more ls n h l m) (λ i. mem-to n (omega arith) l i e)
    where
      go : Mem l (take n ls) ⊎ (l ≡ get_or ls n no_line) → (Mem l (take n ls) → Mem l.key (descending_to f ls n)) → Mem l.key (descending_to f ls (suc n))
      go (inl i) ih = pick-case (λ (ks : List Key). Mem l.key ks) (f (get_or ls n no_line).key) _ _ (λ _. inr (ih i)) (λ _. ih i)
      go (inr q) ih = rw (ap (λ (x : LiveLine). f x.key) (sym q) ∙ e) (inl (ap (λ (x : LiveLine). x.key) q))

  to_mem : (n : ℕ) → n ≤ length ls → (k : Key) → Mem k (descending_to f ls n) → (l : LiveLine) × Mem l (take n ls) × (l.key ≡ k) × (f k ≡ true)
  to_mem zero h k m = absurd m
  to_mem (suc n) h k m = go (f (get_or ls n no_line).key) refl m (λ i. let (l, a, q, e) = to_mem n (omega arith) k i in (l, still-there ls n h l a, q, e))
    where
      go : (b : Bool) → f (get_or ls n no_line).key ≡ b → Mem k (pick b ((get_or ls n no_line).key ∷ descending_to f ls n) (descending_to f ls n))
          → (Mem k (descending_to f ls n) → (l : LiveLine) × Mem l (take (suc n) ls) × (l.key ≡ k) × (f k ≡ true)) → (l : LiveLine) × Mem l (take (suc n) ls) × (l.key ≡ k) × (f k ≡ true)
      go true e (inl q) ih = (get_or ls n no_line, last-there ls n h, sym q, ap f q ∙ e)
      go true e (inr i) ih = ih i
      go false e i ih = ih i

  -- each is higher than the next
  falls-to : Up ls → (n : ℕ) → n ≤ length ls → ascends higher (descending_to f ls n) ≡ true
  falls-to u zero h = refl
  falls-to u (suc n) h = pick-case (λ (ks : List Key). ascends higher ks ≡ true) (f (get_or ls n no_line).key) _ _
      (λ _. above (descending_to f ls n) (λ i m. let (l, a, q, _) = to_mem n (omega arith) i m in rw (← q) (lower ls n h u l a)) (falls-to u n (omega arith)))
      (λ _. falls-to u n (omega arith))
    where
      above : (ks : List Key) → ((i : Key) → Mem i ks → i.0 < (get_or ls n no_line).key.0) → ascends higher ks ≡ true → ascends higher ((get_or ls n no_line).key ∷ ks) ≡ true
      above [] g e = refl
      above (i ∷ ks) g e = and_i _ _ (lt-ltb i.0 (get_or ls n no_line).key.0 (g i (inl refl))) e

  pub descending-falls : Up ls → ascends higher (descending f ls) ≡ true
  descending-falls u = falls-to u (length ls) (omega arith)

  pub mem-descending : (l : LiveLine) → Mem l ls → f l.key ≡ true → Mem l.key (descending f ls)
  mem-descending l m e = mem-to (length ls) (omega arith) l (rw (take-length ls) m) e

  pub descending-mem : (k : Key) → Mem k (descending f ls) → (l : LiveLine) × Mem l ls × (l.key ≡ k) × (f k ≡ true)
  descending-mem k m = let (l, a, q, e) = to_mem (length ls) (omega arith) k m in (l, rw (take-length ls) at a, q, e)

-- ---- what 19 and 20 say of a line

module _ (j : Journal) (u : Up j.lines) (l : LiveLine) (m : Mem l j.lines) where
  pub clear-undo : ((k : LiveLine) → Mem k j.lines → l.key.0 < k.key.0 → common l.moved k.moved ≡ false) → clear (undo_checks j l.key) ≡ true
  clear-undo h =
      let free : built_on j.lines l ≡ false = fails (built_on j.lines l) (λ b. let (k, n, d, c) = built-e j.lines l b in both (common l.moved k.moved) c (h k n d)) in
      rw (line-live j.lines l l.key m refl, own_line j.lines u l m, free)

  undo-clear : clear (undo_checks j l.key) ≡ true → (k : LiveLine) → Mem k j.lines → l.key.0 < k.key.0 → common l.moved k.moved ≡ false
  undo-clear c k n h = fails (common l.moved k.moved) (λ d.
      both (built_on j.lines l) (built-i j.lines l k n h d) (ap (built_on j.lines) (sym (own_line j.lines u l m)) ∙ clear-off (undo_checks j l.key) c 20))

-- ---- accepted keys, and sets closed upward

module _ (net : Net) (ok : net_rule net ≡ true) where
  -- what is taken back is closed upward
  pub accepted-closed : (ks : List Key) (j : Journal) → Held net j → Accepted net j ks → ClosedUpward j.lines (among ks)
  accepted-closed [] j H a l k m n h c f = f
  accepted-closed (i ∷ ks) j H a l k m n h c f =
      test (same_key i l.key)
      (λ e. both (common l.moved k.moved) c (undo-clear j H.up l m (subst (λ (x : Key). clear (undo_checks j x) ≡ true) (same_key_lem i l.key e) a.0) k n h))
      (λ e. test (same_key i k.key)
      (λ d. or_l (same_key i k.key) (among ks k.key) d)
      (λ d. or_r (same_key i k.key) (among ks k.key)
      (accepted-closed ks (undo_reply net j i).journal (undo-held net ok j i a.0 H) a.1 l k (other l m e) (other k n d) h c (rw e at f))))
    where
      other : (x : LiveLine) → Mem x j.lines → same_key i x.key ≡ false → Mem x (without i j.lines)
      other x w e = without-mem i j.lines x w (λ q. eqb-false i.0 x.key.0 e (sym q))

  -- What taking back the members among the lines from n on has left: no member but among the first n, and all of these.
  record Down (f : Key → Bool) (ls : List LiveLine) (n : ℕ) (j : Journal) : Type 0 where
    pub there : (x : LiveLine) → Mem x (take n ls) → Mem x j.lines
    pub was : (x : LiveLine) → Mem x j.lines → Mem x ls
    pub low : (x : LiveLine) → Mem x j.lines → f x.key ≡ true → Mem x (take n ls)

  -- a set closed upward is taken back in descending keys
  descend : (f : Key → Bool) (ls : List LiveLine) → Up ls → ClosedUpward ls f → (n : ℕ) → n ≤ length ls → (j : Journal) → Held net j → Down f ls n j → Accepted net j (descending_to f ls n)
  descend f ls u cl zero h j H D = tt
  descend f ls u cl (suc n) h j H D =
      let x : LiveLine = get_or ls n no_line in
      let rest : (i : Journal) → Held net i → Down f ls n i → Accepted net i (descending_to f ls n) = descend f ls u cl n (omega arith) in
      pick-case (Accepted net j) (f x.key) (x.key ∷ descending_to f ls n) (descending_to f ls n)
      (λ e. (free e, rest (undo_reply net j x.key).journal (undo-held net ok j x.key (free e) H) (with_it e))) (λ e. rest j H (without-it e))
    where
      free : f (get_or ls n no_line).key ≡ true → clear (undo_checks j (get_or ls n no_line).key) ≡ true
      free e = clear-undo j H.up (get_or ls n no_line) (D.there (get_or ls n no_line) (last-there ls n h)) (λ k m d. fails (common (get_or ls n no_line).moved k.moved) (λ c.
          high k d (one_more ls n h k (D.low k m (cl (get_or ls n no_line) k (line-at ls n h) (D.was k m) d c e)))))
        where
          high : (k : LiveLine) → (get_or ls n no_line).key.0 < k.key.0 → Mem k (take n ls) ⊎ (k ≡ get_or ls n no_line) → ⊥
          high k d (inl m) = let a = lower ls n h u k m in omega arith
          high k d (inr q) = let a = key_of q in omega arith

      with_it : f (get_or ls n no_line).key ≡ true → Down f ls n (undo_reply net j (get_or ls n no_line).key).journal
      with_it e = record {
        there = λ y m. without-mem (get_or ls n no_line).key j.lines y (D.there y (still-there ls n h y m)) (λ q. let a = lower ls n h u y m in omega arith);
        was = λ y m. D.was y (mem-without (get_or ls n no_line).key j.lines y m).0;
        low = λ y m g. let (i, ne) = mem-without (get_or ls n no_line).key j.lines y m in elim (one_more ls n h y (D.low y i g)) [ inl b ↦ b | inr q ↦ absurd (ne (key_of q)) ];
      }

      without-it : f (get_or ls n no_line).key ≡ false → Down f ls n j
      without-it e = record {
        there = λ y m. D.there y (still-there ls n h y m);
        was = D.was;
        low = λ y m g. elim (one_more ls n h y (D.low y m g)) [ inl b ↦ b | inr q ↦ both (f y.key) g (ap (λ (z : LiveLine). f z.key) q ∙ e) ];
      }

  pub closed-accepted : (f : Key → Bool) (j : Journal) → Held net j → ClosedUpward j.lines f → Accepted net j (descending f j.lines)
  closed-accepted f j H cl = descend f j.lines H.up cl (length j.lines) (omega arith) j H
      (record { there = λ x m. rw (take-length j.lines) at m; was = λ x m. m; low = λ x m _. rw (take-length j.lines) m })

  -- what is left of a set taken back in descending keys
  pub descending-lines : (f : Key → Bool) (j : Journal) → (takeAll net j (descending f j.lines)).lines ≡ lines_left f j.lines
  descending-lines f j = take-lines net (descending f j.lines) j ∙ left-cong (among (descending f j.lines)) f j.lines (λ l m. same_test (among (descending f j.lines) l.key) (f l.key)
      (λ a. (descending-mem f j.lines l.key (among-mem (descending f j.lines) l.key a)).3)
      (λ a. mem-among (descending f j.lines) l.key (mem-descending f j.lines l m a)))

  -- a set taken back in any order: it is closed upward, and the end is where the lines that are left run to
  module _ (j : Journal) (H : Held net j) (f : Key → Bool) (z : Marking) (T : TakenBack net j f z) where
    taken-accepted : Accepted net j T.order
    taken-accepted = answers-accepted net T.order j T.accepted

    taken-same : (l : LiveLine) → Mem l j.lines → among T.order l.key ≡ f l.key
    taken-same l m = same_test (among T.order l.key) (f l.key) (λ a. T.only l.key (among-mem T.order l.key a)) (λ a. mem-among T.order l.key (T.every l m a))

    pub taken-closed : ClosedUpward j.lines f
    taken-closed l k m n h c e = sym (taken-same k n) ∙ accepted-closed T.order j H taken-accepted l k m n h c (taken-same l m ∙ e)

    pub taken-gives : z ≡ after net net.start (lines_left f j.lines)
    taken-gives =
        sym T.gives ∙ ap (λ (i : Journal). i.marking) (accepted-play net T.order j taken-accepted)
        ∙ held_after net (takeAll net j T.order) (take-held net ok T.order j taken-accepted H)
        ∙ ap (after net net.start) (take-lines net T.order j ∙ left-cong (among T.order) f j.lines taken-same)

  pub closed-taken : (j : Journal) → Held net j → (f : Key → Bool) → ClosedUpward j.lines f → TakenBack net j f (play net (undo_commands (descending f j.lines)) j).marking
  closed-taken j H f cl = record {
    order = descending f j.lines;
    only = λ k m. (descending-mem f j.lines k m).3;
    every = mem-descending f j.lines;
    accepted = accepted-answers net (descending f j.lines) j (closed-accepted f j H cl);
    gives = refl;
  }

-- ---- the wanted effect

-- closed upward, and where the lines that are left run to, each base is where it is wanted
abbrev pub Wanted : Net → List ℕ → Journal → (Key → Bool) → Type 0
Wanted net w j f = ClosedUpward j.lines f × AtPlaces net w (after net net.start (lines_left f j.lines))

-- a set with the wanted effect has it still when a part of it has been taken back
pub wanted-part : (net : Net) (w : List ℕ) (i j : Journal) (g f : Key → Bool) → ((k : Key) → g k ≡ true → f k ≡ true) → i.lines ≡ lines_left g j.lines → Wanted net w j f → Wanted net w i f
wanted-part net w i j g f sub e (cl, at) = ((λ l k m n. cl l k (was l m) (was k n)), λ p h. ap (λ (ls : List LiveLine). misfit w (after net net.start ls) p) same ∙ at p h)
  where
    was : (l : LiveLine) → Mem l i.lines → Mem l j.lines
    was l m = (keep-mem (λ (y : LiveLine). not (g y.key)) j.lines l (rw e at m)).0

    either : (k : Key) (b : Bool) → g k ≡ b → (b || f k) ≡ f k
    either k true q = sym (sub k q)
    either k false q = refl

    same : lines_left f i.lines ≡ lines_left f j.lines
    same = ap (lines_left f) e ∙ left-left f g j.lines ∙ left-cong (λ k. g k || f k) f j.lines (λ l _. either l.key (g l.key) refl)

module _ (net : Net) (ok : net_rule net ≡ true) where
  pub effect-wanted : (w : List ℕ) (j : Journal) → Held net j → (f : Key → Bool) → HasEffect net w j f → Wanted net w j f
  effect-wanted w j H f (z, T, at) = (taken-closed net ok j H f z T, λ p h. ap (λ (s : Marking). misfit w s p) (sym (taken-gives net ok j H f z T)) ∙ at p h)

  pub wanted-effect : (w : List ℕ) (j : Journal) → Held net j → (f : Key → Bool) → Wanted net w j f → HasEffect net w j f
  wanted-effect w j H f (cl, at) =
      let T = closed-taken net ok j H f cl in
      ((play net (undo_commands (descending f j.lines)) j).marking, T, λ p h. ap (λ (s : Marking). misfit w s p) (taken-gives net ok j H f _ T) ∙ at p h)

  -- a base that no line of the set moved stays where it is
  take-place : (p : ℕ) → p < net.bases → (ks : List Key) (j : Journal) → Accepted net j ks → ((l : LiveLine) → Mem l j.lines → Mem l.key ks → in_set l.moved p ≡ false)
      → place (takeAll net j ks).marking p ≡ place j.marking p
  take-place p h [] j a away = refl
  take-place p h (k ∷ ks) j a away =
      let (m, e) = live-line j.lines k (not-false (is_live k j.lines) (clear-off (undo_checks j k) a.0 19)) in
      take-place p h ks (undo_reply net j k).journal a.1 (λ l n i. away l (mem-without k j.lines l n).0 (inr i))
      ∙ undo-place net j k p h (away (line_of k j.lines) m (inl (λ i. record { 0 = e i })))

  stays_put : (p : ℕ) → p < net.bases → (j : Journal) → Held net j → (f : Key → Bool) → ClosedUpward j.lines f
      → ((l : LiveLine) → Mem l j.lines → f l.key ≡ true → in_set l.moved p ≡ false)
      → place (after net net.start (lines_left f j.lines)) p ≡ place j.marking p
  stays_put p h j H f cl away =
      let ks : List Key = descending f j.lines in
      let a : Accepted net j ks = closed-accepted net ok f j H cl in
      ap (λ (s : Marking). place s p) (ap (after net net.start) (sym (descending-lines net ok f j)) ∙ sym (held_after net (takeAll net j ks) (take-held net ok ks j a H)))
      ∙ take-place p h ks j a (λ l m i. away l m (descending-mem f j.lines l.key i).3)

  -- a base in a wrong place: some line of the set moved it
  module _ (w : List ℕ) (j : Journal) (H : Held net j) (f : Key → Bool) (W : Wanted net w j f) (p : ℕ) (h : p < net.bases) (wrong : misfit w j.marking p ≡ true) where
    must-move : ((l : LiveLine) → Mem l j.lines → f l.key ≡ true → in_set l.moved p ≡ false) → ⊥
    must-move away = both (misfit w j.marking p) wrong
        (ap (λ (x : ℕ). elsewhere (get_or w p 0) x) (sym (stays_put p h j H f W.0 away)) ∙ W.1 p h)

    pub moved-there : moved_in p j.lines ≡ true
    moved-there = test (moved_in p j.lines) (λ e. e) (λ e. absurd (must-move (λ l m _. any-no (λ (l : LiveLine). in_set l.moved p) j.lines e l m)))

    -- the last line that moved it is in the set
    pub last_goes : (l : LiveLine) → Mem l j.lines → in_set l.moved p ≡ true → ((k : LiveLine) → Mem k j.lines → l.key.0 < k.key.0 → in_set k.moved p ≡ false) → f l.key ≡ true
    last_goes l m i last = test (f l.key) (λ e. e) (λ e. absurd (must-move (λ x n g. fails (in_set x.moved p) (λ q. clash e x n g q))))
      where
        clash : f l.key ≡ false → (x : LiveLine) → Mem x j.lines → f x.key ≡ true → in_set x.moved p ≡ true → ⊥
        clash e x n g q = test (ltb x.key.0 l.key.0)
            (λ a. both (f l.key) (W.0 x l n m (ltb-true x.key.0 l.key.0 a) (common-i x.moved l.moved p q i) g) e)
            (λ a. test (ltb l.key.0 x.key.0)
            (λ b. both (in_set x.moved p) q (last x n (ltb-true l.key.0 x.key.0 b)))
            (λ b. let c = ltb-false x.key.0 l.key.0 a in let d = ltb-false l.key.0 x.key.0 b in
            let same : x.key.0 ≡ l.key.0 = omega arith in
            both (f x.key) g (ap f (λ t. record { 0 = same t }) ∙ e)))
