-- A key is given once (02, T-03): the keys of the answers `fired` strictly ascend, and a key that was taken back is never live again.
-- Assumes that the net meets the sheet's rules.
use mathlib.Core.Path.{◌≡◌, refl, sym, ◌∙◌, ap, subst}
use mathlib.Core.Logic.{inl, inr}
use mathlib.Core.Bool.{Bool, true, false, not}
use mathlib.Core.List.{List, [], ◌∷◌}
use Prim.Native.Nat.{ℕ, suc, ◌≤◌}
use native.Mathlib.Omega.{arith}
use lib.Dec.{eqb, ltb}
use borrow.Author.Tests.{lt-ltb, ne_eqb, not-false}
use Rattle.causal.specs.Lists.{Mem}
use Rattle.causal.proofs.Lists.{mem-mid}
use Rattle.net.specs.Tests.{pick}
use Rattle.net.specs.Net.{Net}
use Rattle.net.specs.Rules.{net_rule}
use Rattle.net.specs.Checks.{clear}
use Rattle.net.specs.Journal.{LiveLine, Journal, Reply, Answer, fired, undone, refused, key, same_key, is_live, line_of, without, kind_of, fire_checks, undo_checks, checks, transition_named, key_named, new_line, fire_reply, undo_reply, begin, act, play, answers}
use Rattle.net.specs.Cases.{net_b, fire_of, undo_last}
use Rattle.net.specs.Claims.{key_first, keys_fired, rises}
use Rattle.net.specs.declared.Key.{Key}
use Rattle.net.proofs.Tests.{pick-case, and_i, or-no-l, or-no-r, any_append}
use Rattle.net.proofs.Checks.{clear-off}
use Rattle.net.proofs.Keys.{mem-highest, live-split}
use Rattle.net.proofs.Journal.{Held, checks-kind, act-held, begin-held}
use Rattle.net.proofs.Cases.{net_b-rule}

-- ---- the keys that are given ascend

module _ (net : Net) where
  -- one command, whatever ascends after it
  step-rises : (j : Journal) (c : List ℕ) (ks : List ℕ) → rises (act net j c).journal.given.0 ks ≡ true → rises j.given.0 (key_first (act net j c).answer ks) ≡ true
  step-rises j c ks = pick-case (λ (y : Reply). rises y.journal.given.0 ks ≡ true → rises j.given.0 (key_first y.answer ks) ≡ true) (clear (checks net j c)) _ _ (λ _. done (eqb (kind_of c) 1)) (λ _ h. h)
    where
      done : (b : Bool) → rises (pick b (fire_reply net j (transition_named c)) (undo_reply net j (key_named j c))).journal.given.0 ks ≡ true
          → rises j.given.0 (key_first (pick b (fire_reply net j (transition_named c)) (undo_reply net j (key_named j c))).answer ks) ≡ true
      done true h = and_i (ltb j.given.0 (suc j.given.0)) (rises (suc j.given.0) ks) (lt-ltb j.given.0 (suc j.given.0) (omega arith)) h
      done false h = h

  pub fired-rise : (cs : List (List ℕ)) (j : Journal) → rises j.given.0 (keys_fired (answers net cs j)) ≡ true
  fired-rise [] j = refl
  fired-rise (c ∷ cs) j = step-rises j c (keys_fired (answers net cs (act net j c).journal)) (fired-rise cs (act net j c).journal)

-- ---- a key that is not live and was given stays so

-- it will never be live again
abbrev pub Gone : Key → Journal → Type 0
Gone k j = (is_live k j.lines ≡ false) × (k.0 ≤ j.given.0)

without_gone : (k i : Key) (ls : List LiveLine) → is_live k ls ≡ false → is_live k (without i ls) ≡ false
without_gone k i [] h = refl
without_gone k i (l ∷ ls) h = go (same_key l.key i) (without_gone k i ls (or-no-r (same_key l.key k) (is_live k ls) h))
  where
    go : (b : Bool) → is_live k (without i ls) ≡ false → is_live k (pick (not b) (l ∷ without i ls) (without i ls)) ≡ false
    go true e = e
    go false e = rw (or-no-l (same_key l.key k) (is_live k ls) h, e)

without-own : (k : Key) (ls : List LiveLine) → is_live k (without k ls) ≡ false
without-own k [] = refl
without-own k (l ∷ ls) = go (same_key l.key k) refl (without-own k ls)
  where
    go : (b : Bool) → same_key l.key k ≡ b → is_live k (without k ls) ≡ false → is_live k (pick (not b) (l ∷ without k ls) (without k ls)) ≡ false
    go true q e = e
    go false q e = rw (q, e)

module _ (net : Net) where
  act-gone : (k : Key) (j : Journal) (c : List ℕ) → Gone k j → Gone k (act net j c).journal
  act-gone k j c (h, low) = pick-case (λ (y : Reply). Gone k y.journal) (clear (checks net j c)) _ _ (λ _. done (eqb (kind_of c) 1)) (λ _. (h, low))
    where
      done : (b : Bool) → Gone k (pick b (fire_reply net j (transition_named c)) (undo_reply net j (key_named j c))).journal
      done true = (
        any_append (λ (l : LiveLine). same_key l.key k) j.lines (new_line net j (transition_named c) ∷ []) ∙ rw (h, ne_eqb (suc j.given.0) k.0 (λ e. omega arith)),
        omega arith,
      )
      done false = (without_gone k (key_named j c) j.lines h, low)

  pub play-gone : (k : Key) (cs : List (List ℕ)) (j : Journal) → Gone k j → Gone k (play net cs j)
  play-gone k [] j g = g
  play-gone k (c ∷ cs) j g = play-gone k cs (act net j c).journal (act-gone k j c g)

module _ (net : Net) (ok : net_rule net ≡ true) where
  -- the key of an answer `undone`
  undone-gone : (k : Key) (j : Journal) (c : List ℕ) → Held net j → (act net j c).answer ≡ undone k → Gone k (act net j c).journal
  undone-gone k j c H = pick-case (λ (y : Reply). y.answer ≡ undone k → Gone k y.journal) (clear (checks net j c)) _ _ (λ e. done (eqb (kind_of c) 1) (checks-kind net j c e)) (λ _ e. absurd (other e))
    where
      is_undone : Answer → Type 0
      is_undone (fired i) = ⊥
      is_undone (undone i) = Unit {0}
      is_undone (refused n) = ⊥

      keyIn : Answer → Key
      keyIn (fired i) = k
      keyIn (undone i) = i
      keyIn (refused n) = k

      other : {n : ℕ} → refused n ≡ undone k → ⊥
      other e = subst is_undone (sym e) tt

      done : (b : Bool) → clear (pick b (fire_checks net j (transition_named c)) (undo_checks j (key_named j c))) ≡ true → (pick b (fire_reply net j (transition_named c)) (undo_reply net j (key_named j c))).answer ≡ undone k
          → Gone k (pick b (fire_reply net j (transition_named c)) (undo_reply net j (key_named j c))).journal
      done true e a = absurd (subst is_undone (sym a) tt)
      done false e a =
          let same : key_named j c ≡ k = ap keyIn a in
          let (xs, ys, q, d) = live-split (key_named j c) j.lines (not-false _ (clear-off (undo_checks j (key_named j c)) e 19)) in
          let l : LiveLine = line_of (key_named j c) j.lines in
          let top = mem-highest j.lines l (subst (λ (ls : List LiveLine). Mem l ls) (sym q) (mem-mid l xs ys)) in
          let low = H.top in
          subst (λ (i : Key). Gone i (undo_reply net j (key_named j c)).journal) same (without-own (key_named j c) j.lines, omega arith)

  pub taken_back : (k : Key) (cs : List (List ℕ)) (j : Journal) → Held net j → Mem (undone k) (answers net cs j) → Gone k (play net cs j)
  taken_back k [] j H m = absurd m
  taken_back k (c ∷ cs) j H (inl e) = play-gone net k cs (act net j c).journal (undone-gone k j c H (sym e))
  taken_back k (c ∷ cs) j H (inr m) = taken_back k cs (act net j c).journal (act-held net ok j c H) m

-- ---- on sheet B: fired 1, undone 1, fired 2; and 1 is never live again

abbrev again : List (List ℕ)
again = fire_of 0 ∷ undo_last ∷ fire_of 0 ∷ []

pub again-B : answers net_b again (begin net_b) ≡ fired (key 1) ∷ undone (key 1) ∷ fired (key 2) ∷ []
again-B = refl

pub gone-B : (cs : List (List ℕ)) → is_live (key 1) (play net_b cs (play net_b again (begin net_b))).lines ≡ false
gone-B cs = (play-gone net_b (key 1) cs (play net_b again (begin net_b)) (taken_back net_b net_b-rule (key 1) again (begin net_b) (begin-held net_b net_b-rule) (inr (inl refl)))).0
