-- One turn of the search, on what a record holds: it stops, or the firing on top is taken back.
-- Assumes what is held passes 1 to 10.
use mathlib.Core.Path.{◌≡◌, sym, ◌∙◌, ap, subst}
use mathlib.Core.Logic.{inl, inr}
use mathlib.Core.Bool.{true, false}
use mathlib.Core.List.{List}
use Prim.Native.Nat.{ℕ, suc, ◌-◌, ◌<◌, ◌≤◌}
use native.Mathlib.Omega.{arith}
use lib.ListN.{length, get_or, take}
use lib.Seq.{get_or-take}
use Rattle.causal.proofs.Tests.{test}
use Rattle.net.specs.Limits.{max_bases}
use Rattle.net.specs.Checks.{clear}
use Rattle.net.specs.Tests.{table}
use Rattle.net.specs.Journal.{LiveLine, Journal, undo_checks, undo_reply}
use Rattle.net.specs.declared.Key.{Key}
use Rattle.net.proofs.Tests.{fails}
use Rattle.net.proofs.Tables.{length-table}
use Rattle.net.proofs.Firsts.{first-most, first_alike}
use Rattle.format.specs.Parts.{bases_of}
use Rattle.format.specs.NetOf.{net_of}
use Rattle.layout.specs.Layout as L
use Rattle.layout.specs.Layout.{elsewhere, astray}
use Rattle.movers.specs.Tops.{sharing, moved_in, top_at, TopPlace}
use Rattle.firings.proofs.Lines.{SameLines, common-alike}
use Rattle.movers.proofs.Alike.{moved-alike, place-alike}
use Rattle.marking.specs.declared.Marking.{Marking}
use Rattle.firings.specs.Lines.{firing_at, as_line, lines_in}
use Rattle.firings.specs.declared.Firings.{Firings}
use Rattle.sound.specs.Soundness.{journal_in, Passed}
use Rattle.sound.proofs.Holds.{rule, held}
use Rattle.sound.proofs.Movers.{held-alike}
use Rattle.undoing.specs.Back.{line_at, UndoneAt}
use Rattle.undoing.proofs.Backs.{found_at, back-passed, back-journal}
use Rattle.way_back.specs.Ways.{wrong_base, retreat}
use Rattle.way_back.specs.Search.{Searched}
use Rattle.way_back.proofs.Retreat.{Turn, turn, retreat-stops, retreat-turns}

-- the first base that is not where it is wanted, by the array or by its first n entries
wrong-taken : (n : ℕ) (w ps : List ℕ) → L.wrong_base n w ps ≡ L.wrong_base n w (take n ps)
wrong-taken n w ps = first_alike (astray w ps) (astray w (take n ps)) n (λ p. p) (λ p h. ap (elsewhere (get_or w p 0)) (sym (get_or-take n ps p 0 h)))

module _ (s w : List ℕ) (m : Marking) (f : Firings) where
  abbrev j : Key → Journal
  j k = journal_in (bases_of s) m f k

  pub wrong-held : (k : Key) → L.wrong_base (bases_of s) w m.places ≡ wrong_base (net_of s) w (j k).marking
  unfolding net_of
  wrong-held k = wrong-taken (bases_of s) w m.places

  module _ (p : ℕ) (ep : p ≡ L.wrong_base (bases_of s) w m.places) where
    module _ (k : Key) (P : Passed s m f k) where
      abbrev ls : List LiveLine
      ls = (j k).lines

      wrong : p ≡ wrong_base (net_of s) w (j k).marking
      wrong = ep ∙ wrong-held k

      -- the lines with as many flags as an array holds
      wide : SameLines (lines_in max_bases f) ls
      wide = held-alike s m f k P

      all_right : bases_of s ≤ p → (n : ℕ) → retreat (net_of s) w n (j k) ≡ j k
      unfolding net_of
      all_right h n =
          let a = first-most (astray w (j k).marking.places) (table (bases_of s) (λ q. q)) in
          let b = length-table (bases_of s) (λ q. q) in
          let c = wrong in
          let e : wrong_base (net_of s) w (j k).marking ≡ bases_of s = omega arith in
          retreat-stops (net_of s) w n (j k) (inl e)

      -- i is the place that the search among those finds
      module _ (i : ℕ) (T : TopPlace sharing p (lines_in max_bases f) i) where
        size : length (lines_in max_bases f) ≡ f.live
        size = length-table f.live (λ x. as_line max_bases (firing_at f.transitions f.keys f.moved x))

        unmoved : f.live ≤ i → moved_in p ls ≡ false
        unmoved h = fails (moved_in p ls) (λ e. let a = T.below (moved-alike p (lines_in max_bases f) ls wide ∙ e) in let b = size in let z : ⊥ = omega arith in z)

        some-moved : i < f.live → moved_in p ls ≡ true
        some-moved h = test (moved_in p ls) (λ e. e) (λ e. absurd (let a = T.none (moved-alike p (lines_in max_bases f) ls wide ∙ e) in let b = size in let z : ⊥ = omega arith in z))

        not-moved : f.live ≤ i → (n : ℕ) → retreat (net_of s) w n (j k) ≡ j k
        not-moved h n = retreat-stops (net_of s) w n (j k) (inr (subst (λ (q : ℕ). moved_in q ls ≡ false) wrong (unmoved h)))

        top_key : i < f.live → (line_at s f i).key ≡ (top_at sharing p ls).key
        top_key h = place-alike sharing sharing (λ l x y z u v. common-alike l.moved y.moved x.moved z.moved u.moved v.moved) p i (lines_in max_bases f) ls wide T (some-moved h)

      module _ (lt : p < bases_of s) (i : ℕ) (T : TopPlace sharing p (lines_in max_bases f) i) (h : i < f.live) (m' : Marking) (f' : Firings) (U : UndoneAt s m f i m' f') where
        turned : Turn (net_of s) (j k) (top_at sharing p ls)
        turned = turn (net_of s) (rule s m f k P) (j k) (held s m f k P) p (some-moved i T h)

        clear_at : clear (undo_checks (j k) (line_at s f i).key) ≡ true
        clear_at = subst (λ (x : Key). clear (undo_checks (j k) x) ≡ true) (sym (top_key i T h)) turned.free

        pub passed_on : Passed s m' f' k
        passed_on = back-passed s m f k P i h (line_at s f i).key (found_at s m f k P i h) m' f' U clear_at

        pub turned_on : (n : ℕ) → retreat (net_of s) w n (journal_in (bases_of s) m' f' k) ≡ retreat (net_of s) w (suc n) (j k)
        unfolding net_of
        turned_on n =
            let b : journal_in (bases_of s) m' f' k ≡ (undo_reply (net_of s) (j k) (line_at s f i).key).journal =
            back-journal s m f k P i h (line_at s f i).key (found_at s m f k P i h) m' f' U clear_at in
            let c : wrong_base (net_of s) w (j k).marking < bases_of s = (let e = wrong in omega arith) in
            ap (retreat (net_of s) w n) (b ∙ ap (λ (x : Key). (undo_reply (net_of s) (j k) x).journal) (top_key i T h) ∙ ap (λ (q : ℕ). (undo_reply (net_of s) (j k) (top_at sharing q ls).key).journal) wrong)
            ∙ sym (retreat-turns (net_of s) w n (j k) c (subst (λ (q : ℕ). moved_in q ls ≡ true) wrong (some-moved i T h)))

    -- ---- the three ways in which a turn ends

    pub stops-right : (n : ℕ) → bases_of s ≤ p → Searched s w m f n m f 0
    stops-right n h = record { stays = λ k P. P; same = λ k P. sym (all_right k P h n) }

    pub stops-unmoved : (n i : ℕ) → TopPlace sharing p (lines_in max_bases f) i → f.live ≤ i → Searched s w m f n m f 0
    stops-unmoved n i T h = record { stays = λ k P. P; same = λ k P. sym (not-moved k P i T h n) }

    pub takes_back : (n : ℕ) → 0 < n → p < bases_of s → (i : ℕ) → TopPlace sharing p (lines_in max_bases f) i → i < f.live → (m' : Marking) (f' : Firings) → UndoneAt s m f i m' f'
        → Searched s w m f n m' f' (n - 1)
    takes_back n pos lt i T h m' f' U =
        let e : suc (n - 1) ≡ n = omega arith in
        record {
          stays = λ k P. passed_on k P lt i T h m' f' U;
          same = λ k P. turned_on k P lt i T h m' f' U (n - 1) ∙ ap (λ (x : ℕ). retreat (net_of s) w x (j k)) e;
        }

-- one search after another
pub searched-on : (s w : List ℕ) (m : Marking) (f : Firings) (n : ℕ) (m' : Marking) (f' : Firings) (n' : ℕ) (m'' : Marking) (f'' : Firings) (n'' : ℕ)
    → Searched s w m f n m' f' n' → Searched s w m' f' n' m'' f'' n'' → Searched s w m f n m'' f'' n''
searched-on s w m f n m' f' n' m'' f'' n'' A B = record {
  stays = λ k P. B.stays k (A.stays k P);
  same = λ k P. B.same k (A.stays k P) ∙ A.same k P;
}
