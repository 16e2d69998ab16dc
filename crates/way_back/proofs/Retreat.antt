-- The search (02, T-04): each turn takes back a line that every set with the wanted effect has; at the end there is such a set
-- exactly if each base is where it is wanted. Assumes that the net meets the sheet's rules.
use mathlib.Core.Path.{◌≡◌, refl, sym, ◌∙◌, ap, subst}
use mathlib.Core.Logic.{◌⊎◌, inl, inr, ◌≢◌}
use mathlib.Core.Bool.{Bool, true, false, not, ◌||◌}
use mathlib.Core.List.{List, [], ◌∷◌, ◌++◌}
use Prim.Native.Nat.{ℕ, zero, suc, ◌<◌, ◌≤◌}
use native.Mathlib.Omega.{arith}
use lib.Dec.{eqb, ltb}
use lib.ListN.{length, length-append}
use borrow.Author.Tests.{not-false, not-true, eqb-true, eqb-false, eq-eqb, ne_eqb, ltb-true, ltb-false}
use Rattle.causal.specs.Lists.{Mem}
use Rattle.causal.proofs.Tests.{test, both}
use Rattle.causal.proofs.Lists.{mem-split}
use Rattle.net.specs.Tests.{table}
use Rattle.net.specs.Net.{Marking, Net}
use Rattle.net.specs.Rules.{net_rule}
use Rattle.net.specs.Checks.{clear}
use Rattle.net.specs.Journal.{LiveLine, Journal, same_key, is_live, line_of, without, undo_checks, undo_reply}
use Rattle.net.specs.History.{sound}
use Rattle.net.specs.declared.Key.{Key}
use Rattle.net.proofs.Tests.{fails, or-e, or_l, or_r, or-no-l, or-no-r, pick-case}
use Rattle.net.proofs.Tables.{length-table, get_d-table}
use Rattle.net.proofs.Keys.{Up, same_key_lem, line-live, own_line, without-split}
use Rattle.net.proofs.Journal.{Held, undo-held}
use Rattle.net.proofs.History.{held-sound}
use Rattle.net.proofs.Undoing.{Accepted, takeAll}
use Rattle.net.proofs.Firsts.{first-most, first-before, first_holds, first-inside}
use Rattle.way_back.specs.Ways.{misfit, AtPlaces, wrong_base, retreat}
use Rattle.movers.specs.Tops.{sharing, moved_in, top_at}
use Rattle.way_back.proofs.Sets.{clear-undo, Wanted, wanted-part, moved-there, last_goes}
use Rattle.way_back.proofs.Tops.{LastTop, top-at}

-- ---- the first base in a wrong place

module _ (net : Net) (w : List ℕ) (s : Marking) where
  pub wrong-none : wrong_base net w s ≡ net.bases → AtPlaces net w s
  wrong-none e p h = ap (misfit w s) (sym (get_d-table net.bases (λ q. q) p 0 h)) ∙ first-before (misfit w s) (table net.bases (λ q. q)) 0 p (rw e h)

  pub wrong-some : wrong_base net w s ≢ net.bases → (wrong_base net w s < net.bases) × (misfit w s (wrong_base net w s) ≡ true)
  wrong-some e =
      let m = first-most (misfit w s) (table net.bases (λ q. q)) in
      let n = length-table net.bases (λ q. q) in
      let lt : wrong_base net w s < net.bases = test (ltb (wrong_base net w s) net.bases) (ltb-true (wrong_base net w s) net.bases) (λ g. absurd (e (let a = ltb-false (wrong_base net w s) net.bases g in omega arith))) in (
        lt,
        ap (misfit w s) (sym (get_d-table net.bases (λ q. q) (wrong_base net w s) 0 lt))
            ∙ first_holds (misfit w s) (table net.bases (λ q. q)) 0 (first-inside (misfit w s) net.bases (λ q. q) (wrong_base net w s) refl lt),
      )

-- ---- one turn

-- one line fewer is left
fewer-lines : (ls : List LiveLine) → Up ls → (l : LiveLine) → Mem l ls → length (without l.key ls) < length ls
fewer-lines ls u l m = let (xs, ys, q) = mem-split l ls m in go xs ys q
  where
    go : (xs ys : List LiveLine) → ls ≡ xs ++ l ∷ ys → length (without l.key ls) < length ls
    go xs ys q =
        let a : length (without l.key ls) ≡ length (xs ++ ys) = ap length (ap (without l.key) q ∙ without-split l.key l xs ys refl (subst Up q u)) in
        let b : length ls ≡ length (xs ++ l ∷ ys) = ap length q in
        let c = length-append xs ys in
        let d = length-append xs (l ∷ ys) in
        omega arith

-- What a turn needs of the line t: it is a line, of a live key, and the line of that key; neither 19 nor 20 holds of it; one
-- line fewer is left, and what is left is sound.
pub record Turn (net : Net) (j : Journal) (t : LiveLine) : Type 0 where
  pub there : Mem t j.lines
  pub live : is_live t.key j.lines ≡ true
  pub line : line_of t.key j.lines ≡ t
  pub free : clear (undo_checks j t.key) ≡ true
  pub fewer : length (undo_reply net j t.key).journal.lines < length j.lines
  pub held : Held net (undo_reply net j t.key).journal
  pub stays : sound net (undo_reply net j t.key).journal ≡ true

module _ (net : Net) (ok : net_rule net ≡ true) (j : Journal) (H : Held net j) where
  turn-top : (p : ℕ) → LastTop sharing p j.lines → Turn net j (top_at sharing p j.lines)
  turn-top p T =
      let t : LiveLine = top_at sharing p j.lines in
      let m : Mem t j.lines = T.top.there in
      let c : clear (undo_checks j t.key) ≡ true = clear-undo j H.up t m T.top.free in
      let I : Held net (undo_reply net j t.key).journal = undo-held net ok j t.key c H in
      record {
        there = m;
        live = line-live j.lines t t.key m refl;
        line = own_line j.lines H.up t m;
        free = c;
        fewer = fewer-lines j.lines H.up t m;
        held = I;
        stays = held-sound net (undo_reply net j t.key).journal I;
      }

  pub turn : (p : ℕ) → moved_in p j.lines ≡ true → Turn net j (top_at sharing p j.lines)
  turn p m = turn-top p (top-at sharing p j.lines H.up m)

-- for a loop that follows the search: when it stops, one turn, and what it leaves alone
module _ (net : Net) (w : List ℕ) where
  pub retreat-stops : (n : ℕ) (j : Journal) → (wrong_base net w j.marking ≡ net.bases) ⊎ (moved_in (wrong_base net w j.marking) j.lines ≡ false) → retreat net w n j ≡ j
  retreat-stops zero j h = refl
  retreat-stops (suc n) j (inl e) = rw (or_l _ (not (moved_in (wrong_base net w j.marking) j.lines)) (eq-eqb _ _ e))
  retreat-stops (suc n) j (inr e) = rw (or_r (eqb (wrong_base net w j.marking) net.bases) _ (ap not e))

  pub retreat-turns : (n : ℕ) (j : Journal) → wrong_base net w j.marking < net.bases → moved_in (wrong_base net w j.marking) j.lines ≡ true
      → retreat net w (suc n) j ≡ retreat net w n (undo_reply net j (top_at sharing (wrong_base net w j.marking) j.lines).key).journal
  retreat-turns n j h e = rw (ne_eqb (wrong_base net w j.marking) net.bases (λ q. omega arith), e)

  pub retreat-given : (n : ℕ) (j : Journal) → (retreat net w n j).given ≡ j.given
  retreat-given zero j = refl
  retreat-given (suc n) j =
      let p : ℕ = wrong_base net w j.marking in
      let i : Journal = (undo_reply net j (top_at sharing p j.lines).key).journal in
      pick-case (λ (k : Journal). k.given ≡ j.given) (eqb p net.bases || not (moved_in p j.lines)) j (retreat net w n i) (λ _. refl) (λ _. retreat-given n i)

-- ---- what a search finds

no_lines : (p : ℕ) (ls : List LiveLine) → length ls ≤ 0 → moved_in p ls ≡ true → ⊥
no_lines p [] h e = both false e refl
no_lines p (l ∷ ls) h e = let z : ⊥ = omega arith in z

module _ (net : Net) (ok : net_rule net ≡ true) (w : List ℕ) where
  -- From i to j: keys that are accepted in turn and lead there, all in each set with the wanted effect; and if there is such a
  -- set, each base is at j where it is wanted.
  pub record Found (i j : Journal) : Type 0 where
    pub order : List Key
    pub accepted : Accepted net i order
    pub gives : takeAll net i order ≡ j
    pub within : (f : Key → Bool) → Wanted net w i f → (k : Key) → Mem k order → f k ≡ true
    pub fits : (f : Key → Bool) → Wanted net w i f → AtPlaces net w j.marking

  -- nothing more is taken back, since no set has the wanted effect while a base is in a wrong place
  stop : (j : Journal) → ((p : ℕ) → p < net.bases → misfit w j.marking p ≡ true → (f : Key → Bool) → Wanted net w j f → ⊥) → Found j j
  stop j h = record {
    order = [];
    accepted = tt;
    gives = refl;
    within = λ f W k m. absurd m;
    fits = λ f W p b. fails (misfit w j.marking p) (λ e. h p b e f W);
  }

  -- every base is where it is wanted, or the first that is not was moved by no line
  ended : (j : Journal) → Held net j → (wrong_base net w j.marking ≡ net.bases) ⊎ (moved_in (wrong_base net w j.marking) j.lines ≡ false) → Found j j
  ended j H h = stop j (λ p b e f W. test (eqb (wrong_base net w j.marking) net.bases)
      (λ q. both (misfit w j.marking p) e (wrong-none net w j.marking (eqb-true (wrong_base net w j.marking) net.bases q) p b))
      (λ q. let ne = eqb-false (wrong_base net w j.marking) net.bases q in
      let (lt, bad) = wrong-some net w j.marking ne in
      unmoved f W lt bad ne h))
    where
      unmoved : (f : Key → Bool) → Wanted net w j f → wrong_base net w j.marking < net.bases → misfit w j.marking (wrong_base net w j.marking) ≡ true → wrong_base net w j.marking ≢ net.bases
          → (wrong_base net w j.marking ≡ net.bases) ⊎ (moved_in (wrong_base net w j.marking) j.lines ≡ false) → ⊥
      unmoved f W lt bad ne (inl q) = ne q
      unmoved f W lt bad ne (inr q) = both (moved_in (wrong_base net w j.marking) j.lines) (moved-there net ok w j H f W (wrong_base net w j.marking) lt bad) q

  -- one turn: the top above the last line that moved a base in a wrong place
  step : (j : Journal) → Held net j → (p : ℕ) → p < net.bases → misfit w j.marking p ≡ true → LastTop sharing p j.lines
      → (z : Journal) → Found (undo_reply net j (top_at sharing p j.lines).key).journal z → Found j z
  step j H p lt bad T z F =
      let t : LiveLine = top_at sharing p j.lines in
      let has : (f : Key → Bool) → Wanted net w j f → f t.key ≡ true = λ f W. T.top.above f W.0 (last_goes net ok w j H f W p lt bad T.line T.there T.moves T.last) in
      let on : (f : Key → Bool) → Wanted net w j f → Wanted net w (undo_reply net j t.key).journal f =
      λ f W. wanted-part net w (undo_reply net j t.key).journal j (λ k. same_key k t.key) f (λ k q. ap f (same_key_lem k t.key q) ∙ has f W) refl W in
      record {
        order = t.key ∷ F.order;
        accepted = ((turn-top net ok j H p T).free, F.accepted);
        gives = F.gives;
        within = λ f W k m. either f k (has f W) (F.within f (on f W) k) m;
        fits = λ f W. F.fits f (on f W);
      }
    where
      either : (f : Key → Bool) (k : Key) → f (top_at sharing p j.lines).key ≡ true → (Mem k F.order → f k ≡ true) → (k ≡ (top_at sharing p j.lines).key) ⊎ Mem k F.order → f k ≡ true
      either f k e h (inl q) = ap f q ∙ e
      either f k e h (inr m) = h m

  pub retreats : (n : ℕ) (j : Journal) → Held net j → length j.lines ≤ n → Found j (retreat net w n j)
  retreats zero j H few = stop j (λ p b e f W. no_lines p j.lines few (moved-there net ok w j H f W p b e))
  retreats (suc n) j H few =
      let p : ℕ = wrong_base net w j.marking in
      pick-case (Found j) (eqb p net.bases || not (moved_in p j.lines)) j (retreat net w n (undo_reply net j (top_at sharing p j.lines).key).journal)
      (λ e. ended j H (elim (or-e (eqb p net.bases) (not (moved_in p j.lines)) e) [ inl q ↦ inl (eqb-true p net.bases q) | inr q ↦ inr (not-true (moved_in p j.lines) q) ]))
      (λ e.
      let m : moved_in p j.lines ≡ true = not-false (moved_in p j.lines) (or-no-r (eqb p net.bases) _ e) in
      let (lt, bad) = wrong-some net w j.marking (eqb-false p net.bases (or-no-l _ _ e)) in
      let T = turn net ok j H p m in
      let less = T.fewer in
      step j H p lt bad (top-at sharing p j.lines H.up m) _ (retreats n (undo_reply net j (top_at sharing p j.lines).key).journal T.held (omega arith)))
