-- Laws of the lamp (02, T-06): what the table of last movers says, how it changes, and that the lamp is what kind 3 checks.
-- Assumes keys in order, and room in the table for each moved base; nothing of a net.
use mathlib.Core.Path.{◌≡◌, refl, sym, ◌∙◌, ap}
use mathlib.Core.Logic.{inl, inr}
use mathlib.Core.Bool.{Bool, true, false, not, ◌&&◌, ◌||◌, and-true}
use mathlib.Core.List.{List, [], ◌∷◌, ◌++◌}
use Prim.Native.Nat.{ℕ, ◌<◌, ◌≤◌}
use native.Mathlib.Omega.{arith}
use lib.Dec.{eqb, ltb}
use lib.ListN.{length, get_or, get_or-eq_default}
use borrow.Author.Tests.{not-true, eqb-true, eq-eqb, ltb-true, ltb-false}
use Rattle.causal.specs.Lists.{Mem}
use Rattle.causal.proofs.Tests.{test, both}
use Rattle.net.specs.Tests.{pick, table}
use Rattle.net.specs.Firing.{in_set}
use Rattle.net.specs.Checks.{clear}
use Rattle.net.specs.Journal.{LiveLine, Journal, is_live, line_of, common, built_on, undo_checks}
use Rattle.net.specs.declared.Key.{Key}
use Rattle.net.proofs.Tests.{pick-case, all-at, all-i, fails, same_test}
use Rattle.net.proofs.Tables.{length-table, get_d-table, table-cong}
use Rattle.net.proofs.Keys.{Up, key_of, common-i, common-e, built-i, built-e, live-line}
use Rattle.movers.specs.Lamp.{mover_from, last_mover, last_movers, on_top, lamp, marked, given_back}

-- ---- the last line that moved a base

module _ (p : ℕ) where
  pub mover-append : (xs ys : List LiveLine) (a : ℕ) → mover_from p a (xs ++ ys) ≡ mover_from p (mover_from p a xs) ys
  mover-append [] ys a = refl
  mover-append (x ∷ xs) ys a = mover-append xs ys (pick (in_set x.moved p) x.key.0 a)

  pub mover-none : (ls : List LiveLine) (a : ℕ) → ((l : LiveLine) → Mem l ls → in_set l.moved p ≡ false) → mover_from p a ls ≡ a
  mover-none [] a h = refl
  mover-none (l ∷ ls) a h = rw (h l (inl refl)) (mover-none ls a (λ k m. h k (inr m)))

  -- a line that moved p gives its key, where no line of higher key moved p
  mover-last : (ls : List LiveLine) (a : ℕ) → Up ls → (l : LiveLine) → Mem l ls → in_set l.moved p ≡ true
      → ((h : LiveLine) → Mem h ls → l.key.0 < h.key.0 → in_set h.moved p ≡ false) → mover_from p a ls ≡ l.key.0
  mover-last [] a u l m i last = absurd m
  mover-last (x ∷ ls) a u l (inl q) i last =
      let moves : in_set x.moved p ≡ true = ap (λ (y : LiveLine). in_set y.moved p) (sym q) ∙ i in
      let same : l.key.0 ≡ x.key.0 = key_of q in
      ap (λ (b : Bool). mover_from p (pick b x.key.0 a) ls) moves
      ∙ mover-none ls x.key.0 (λ h n. last h (inr n) (let c = u.0 h n in omega arith)) ∙ sym same
  mover-last (x ∷ ls) a u l (inr m) i last = mover-last ls (pick (in_set x.moved p) x.key.0 a) u.1 l m i (λ h n. last h (inr n))

  mover-from : (ls : List LiveLine) (a : ℕ) → Up ls → ((l : LiveLine) → Mem l ls → a ≤ l.key.0) → a ≤ mover_from p a ls
  mover-from [] a u h = omega arith
  mover-from (l ∷ ls) a u h = pick-case (λ (k : ℕ). a ≤ mover_from p k ls) (in_set l.moved p) l.key.0 a
      (λ _. let b = mover-from ls l.key.0 u.1 (λ k m. let c = u.0 k m in omega arith) in let d = h l (inl refl) in omega arith)
      (λ _. mover-from ls a u.1 (λ k m. h k (inr m)))

  -- no line that moved p has a higher key
  mover-high : (ls : List LiveLine) (a : ℕ) → Up ls → (l : LiveLine) → Mem l ls → in_set l.moved p ≡ true → l.key.0 ≤ mover_from p a ls
  mover-high [] a u l m i = absurd m
  mover-high (x ∷ ls) a u l (inl q) i =
      let moves : in_set x.moved p ≡ true = ap (λ (y : LiveLine). in_set y.moved p) (sym q) ∙ i in
      let same : l.key.0 ≡ x.key.0 = key_of q in
      let b : x.key.0 ≤ mover_from p x.key.0 ls = mover-from ls x.key.0 u.1 (λ h n. let c = u.0 h n in omega arith) in
      rw moves (let b' = b in omega arith)
  mover-high (x ∷ ls) a u l (inr m) i = mover-high ls (pick (in_set x.moved p) x.key.0 a) u.1 l m i

  pub none-moved : (ls : List LiveLine) → ((l : LiveLine) → Mem l ls → in_set l.moved p ≡ false) → last_mover p ls ≡ 0
  none-moved ls h = mover-none ls 0 h

  pub last-moved : (ls : List LiveLine) → Up ls → (l : LiveLine) → Mem l ls → in_set l.moved p ≡ true
      → ((h : LiveLine) → Mem h ls → l.key.0 < h.key.0 → in_set h.moved p ≡ false) → last_mover p ls ≡ l.key.0
  last-moved ls u l m i last = mover-last ls 0 u l m i last

-- ---- how the table changes

module _ (N : ℕ) where
  entry : (ls : List LiveLine) (p : ℕ) → p < N → get_or (last_movers N ls) p 0 ≡ last_mover p ls
  entry ls p h = get_d-table N (λ p. last_mover p ls) p 0 h

  -- a firing: its moved bases get its key
  pub movers-fire : (ls : List LiveLine) (l : LiveLine)
      → last_movers N (ls ++ (l ∷ [])) ≡ marked N l.moved l.key.0 (last_movers N ls)
  movers-fire ls l = table-cong N _ _ (λ p h. mover-append p ls (l ∷ []) 0 ∙ ap (pick (in_set l.moved p) l.key.0) (sym (entry ls p h)))

  -- a taking back: its moved bases get the last of the lines before it
  pub movers-undo : (l : LiveLine) (xs ys : List LiveLine) → ((h : LiveLine) → Mem h ys → common l.moved h.moved ≡ false)
      → last_movers N (xs ++ ys) ≡ given_back N xs l.moved (last_movers N (xs ++ l ∷ ys))
  movers-undo l xs ys free = table-cong N _ _ (λ p h. mover-append p xs ys 0 ∙ go p h (in_set l.moved p) refl)
    where
      go : (p : ℕ) → p < N → (b : Bool) → in_set l.moved p ≡ b
          → mover_from p (last_mover p xs) ys ≡ pick b (last_mover p xs) (get_or (last_movers N (xs ++ l ∷ ys)) p 0)
      go p h true e = mover-none p ys (last_mover p xs) (λ k m.
          fails (in_set k.moved p) (λ d. both (common l.moved k.moved) (common-i l.moved k.moved p e d) (free k m)))
      go p h false e =
          ap (λ (b : Bool). mover_from p (pick b l.key.0 (last_mover p xs)) ys) (sym e)
          ∙ sym (mover-append p xs (l ∷ ys) 0) ∙ sym (entry (xs ++ l ∷ ys) p h)

  -- ---- the lamp

  module _ (ls : List LiveLine) (u : Up ls) (l : LiveLine) (m : Mem l ls) (size : length l.moved ≤ N) where
    abbrev tested : ℕ → Bool
    tested p = not (in_set l.moved p) || eqb (get_or (last_movers N ls) p 0) l.key.0

    moved-below : (p : ℕ) → in_set l.moved p ≡ true → p < N
    moved-below p e = test (ltb p N) (λ h. ltb-true p N h)
        (λ h. let a = ltb-false p N h in both (in_set l.moved p) e (get_or-eq_default l.moved false (let c : length l.moved ≤ p = omega arith in c)))

    -- on top, no later line has moved one of the bases
    top-free : on_top N (last_movers N ls) l ≡ true → not (built_on ls l) ≡ true
    top-free t = rw (fails (built_on ls l) (λ c.
        let (h, n, lower, shared) = built-e ls l c in
        let (p, a, b) = common-e l.moved h.moved shared in
        let lt : p < N = moved-below p a in
        let passes : tested (get_or (table N (λ p. p)) p 0) ≡ true = all-at tested (table N (λ p. p)) 0 p t (rw length-table lt) in
        let is : get_or (last_movers N ls) p 0 ≡ l.key.0 = eqb-true _ l.key.0 (second (in_set l.moved p) _ a (rw (get_d-table N (λ (p : ℕ). p) p 0 lt) at passes)) in
        let get = entry ls p lt in
        let high : h.key.0 ≤ last_mover p ls = mover-high p ls 0 u h n b in
        let z : ⊥ = omega arith in z)) refl
      where
        second : (a b : Bool) → a ≡ true → (not a || b) ≡ true → b ≡ true
        second true b e h = h
        second false b e h = both false e refl

    free-top : not (built_on ls l) ≡ true → on_top N (last_movers N ls) l ≡ true
    free-top free = all-i tested (table N (λ p. p)) (λ p _. at p (in_set l.moved p) refl)
      where
        later : (p : ℕ) → in_set l.moved p ≡ true → (h : LiveLine) → Mem h ls → l.key.0 < h.key.0 → in_set h.moved p ≡ false
        later p e h n lower = fails (in_set h.moved p) (λ d.
            both (built_on ls l) (built-i ls l h n lower (common-i l.moved h.moved p e d)) (not-true (built_on ls l) free))

        at : (p : ℕ) (b : Bool) → in_set l.moved p ≡ b → (not b || eqb (get_or (last_movers N ls) p 0) l.key.0) ≡ true
        at p false e = refl
        at p true e = eq-eqb (get_or (last_movers N ls) p 0) l.key.0 (entry ls p (moved-below p e) ∙ last-moved p ls u l m e (later p e))

    pub top-says : on_top N (last_movers N ls) l ≡ not (built_on ls l)
    top-says = same_test (on_top N (last_movers N ls) l) (not (built_on ls l)) top-free free-top

  pub lamp-says : (j : Journal) → Up j.lines → ((l : LiveLine) → Mem l j.lines → length l.moved ≤ N) → (k : Key)
      → lamp N (last_movers N j.lines) j.lines k ≡ clear (undo_checks j k)
  lamp-says j u size k = go (is_live k j.lines) refl
    where
      built : Bool
      built = built_on j.lines (line_of k j.lines)

      go : (b : Bool) → is_live k j.lines ≡ b → (b && on_top N (last_movers N j.lines) (line_of k j.lines)) ≡ (not (not b) && (not built && true))
      go true e = let n = (live-line j.lines k e).0 in top-says j.lines u (line_of k j.lines) n (size (line_of k j.lines) n) ∙ sym (and-true (not built))
      go false e = refl
