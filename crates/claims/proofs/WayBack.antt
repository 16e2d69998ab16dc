-- The way back asked of a record: by the journal that it holds, whose commands the record's are.
-- Assumes nothing.
use mathlib.Core.Path.{◌≡◌, refl, sym, ◌∙◌, ap, subst}
use mathlib.Core.Bool.{Bool, true, false, not, ◌&&◌}
use mathlib.Core.List.{List, [], ◌∷◌, map}
use Prim.Native.Nat.{ℕ, suc, ◌-◌}
use lib.Dec.{eqb}
use lib.ListN.{length, get_or, replicate}
use lib.Seq.{get_or-take, take_at}
use native.Mathlib.Omega.{arith}
use borrow.Author.Tests.{eqb-true, eqb-false, eq-eqb, ne_eqb, not-false}
use Rattle.causal.specs.Lists.{Mem}
use Rattle.causal.proofs.Tests.{test, both}
use Rattle.net.specs.Limits.{max_live}
use Rattle.net.specs.Tests.{pick}
use Rattle.net.specs.Checks.{Check, check, clear, first}
use Rattle.net.specs.Net.{Net, Marking}
use Rattle.net.specs.Rules.{net_rule}
use Rattle.net.specs.Journal as J
use Rattle.net.specs.Journal.{Journal, key, line_of, play, answers}
use Rattle.net.specs.Claims.{undo_command, undo_commands, all_undone}
use Rattle.net.specs.declared.Key.{Key}
use Rattle.net.proofs.Checks.{clear-append}
use Rattle.net.proofs.Keys.{line-live, live-line}
use Rattle.format.specs.Parts.{bases_of, places_of}
use Rattle.format.specs.NetOf.{net_of}
use Rattle.layout.specs.Layout.{any_place, unfit_layout}
use Rattle.sheet.specs.Checks.{sheet_checks}
use Rattle.sheet.proofs.Accepted.{promised}
use Rattle.marking.specs.Form.{padWith}
use Rattle.tally.specs.declared.Tally.{Tally}
use Rattle.way_back.specs.Ways.{AtPlaces, TakenBack, HasEffect, no_way, gone, way_back}
use Rattle.way_back.specs.Claims.{LeastWay}
use Rattle.way_back.specs.Answer.{way_of, no_way_back, way_checks}
use Rattle.net.specs.declared.Verdict.{Verdict}
use Rattle.net.specs.declared.Verdict.TheVariants.{Accepted, Refused}
use Rattle.way_back.specs.declared.WayBack.{WayBack}
use Rattle.way_back.proofs.Least.{least-way}
use Rattle.session.specs.Records.{held_in, sound_for}
use Rattle.session.specs.Commands.{Result, command_of}
use Rattle.session.specs.Runs.{Answered, answered, run_of}
use Rattle.questions.specs.Ways.{way_back_checks, way_back_of}
use Rattle.session.specs.declared.Record.{Record}
use Rattle.session.proofs.Steps.{first-clear}
use Rattle.claims.specs.Serials.{took_back}
use Rattle.claims.specs.WayBack.{CanGo, Arranged, Serves, keys_given, Smallest, layout_checks, Ways}
use Rattle.claims.proofs.Records.{passes-held, answer-is, key-is, journal-is, passes-after}
use Rattle.claims.proofs.Serials.{heard}

-- ---- answers of the session and of the journal

told : (ks : List Key) → map answered (all_undone ks) ≡ map took_back ks
told [] = refl
told (k ∷ ks) = λ i. took_back k ∷ told ks i

tail_of : List Answered → List Answered
tail_of [] = []
tail_of (a ∷ l) = l

head_of : Answered → List Answered → Answered
head_of d [] = d
head_of d (a ∷ l) = a

all-heard : (ks : List Key) (l : List J.Answer) → length ks ≡ length l → map answered l ≡ map took_back ks → l ≡ all_undone ks
unfolding tail_of head_of
all-heard [] [] n e = refl
all-heard [] (a ∷ l) n e = absurd (let z : ⊥ = omega arith in z)
all-heard (k ∷ ks) [] n e = absurd (let z : ⊥ = omega arith in z)
all-heard (k ∷ ks) (a ∷ l) n e =
    let h : J.undone k ≡ a = heard a k (sym (ap (head_of (took_back k)) e)) in
    let t = all-heard ks l (omega arith) (ap tail_of e) in
    λ i. sym h i ∷ t i

answers-many : (net : Net) (ks : List Key) (j : Journal) → length ks ≡ length (answers net (undo_commands ks) j)
answers-many net [] j = refl
answers-many net (k ∷ ks) j = ap suc (answers-many net ks (J.act net j (undo_command k)).journal)

module _ (s : List ℕ) (accepted : clear (sheet_checks s) ≡ true) (ok : net_rule (net_of s) ≡ true) where
  -- a list of commands on a record that passes does what it does to the journal
  pub record Ran (cs : List (List ℕ)) (r : Record) (t : Tally) : Type 0 where
    pub held : held_in s (run_of s cs r t).session ≡ play (net_of s) cs (held_in s r)
    pub answers-are : (run_of s cs r t).answers ≡ map answered (answers (net_of s) cs (held_in s r))

  pub ran : (cs : List (List ℕ)) (r : Record) (t : Tally) → sound_for s r ≡ true → Ran cs r t
  ran [] r t h = record { held = refl; answers-are = refl }
  ran (c ∷ cs) r t h =
      let y : Result = command_of s r t c in
      let e : held_in s y.outcome.session ≡ (J.act (net_of s) (held_in s r) c).journal = journal-is s accepted ok r h t c in
      let ih = ran cs y.outcome.session y.tally (passes-after s accepted ok r h t c) in
      record {
        held = ih.held ∙ ap (play (net_of s) cs) e;
        answers-are = λ i. record { answer = answer-is s accepted ok r h t c i; key = key-is s accepted ok r h t c i } ∷ (ih.answers-are ∙ ap (λ (j : Journal). map answered (answers (net_of s) cs j)) e) i;
      }

  -- ---- sets of the record and of the journal

  module _ (r : Record) (passes : sound_for s r ≡ true) (t : Tally) where
    abbrev of : Journal
    of = held_in s r

    pub taken : (f : Key → Bool) (z : Record) → CanGo s r t f z → TakenBack (net_of s) of f (held_in s z).marking
    taken f z g =
        let y = ran (undo_commands g.order) r t passes in
        record {
          order = g.order;
          only = g.only;
          every = λ l m e. g.every l.key (line-live of.lines l l.key m refl) e;
          accepted = all-heard g.order (answers (net_of s) (undo_commands g.order) of) (answers-many (net_of s) g.order of) (sym y.answers-are ∙ g.accepted);
          gives = ap (λ (i : Journal). i.marking) (sym y.held ∙ ap (held_in s) g.gives);
        }

    pub can-go : (f : Key → Bool) (z : Marking) (T : TakenBack (net_of s) of f z) → CanGo s r t f (run_of s (undo_commands T.order) r t).session
    can-go f z T =
        let y = ran (undo_commands T.order) r t passes in
        record {
          order = T.order;
          only = T.only;
          every = λ k h e.
              let (m, q) = live-line of.lines k h in
              let d : (line_of k of.lines).key ≡ k = λ i. record { 0 = q i } in
              subst (λ (i : Key). Mem i T.order) d (T.every (line_of k of.lines) m (ap f d ∙ e));
          accepted = y.answers-are ∙ ap (map answered) T.accepted ∙ told T.order;
          gives = refl;
        }

  module _ (r : Record) (passes : sound_for s r ≡ true) (w : List ℕ) (t : Tally) where
    abbrev j : Journal
    j = held_in s r

    least : LeastWay (net_of s) w j
    least = least-way (net_of s) ok w j (passes-held s accepted ok r passes)

    -- ---- places

    arranged : (z : Record) → AtPlaces (net_of s) w (held_in s z).marking → Arranged s w z
    unfolding net_of
    arranged z at p h named =
        let e : get_or (held_in s z).marking.places p 0 ≡ get_or z.marking.places p 0 = get_or-take (bases_of s) z.marking.places p 0 h in
        let n : not (eqb (get_or w p 0) any_place) ≡ true = ap not (ne_eqb (get_or w p 0) any_place named) in
        let a : not (eqb (get_or (held_in s z).marking.places p 0) (get_or w p 0)) ≡ false = ap (λ (b : Bool). b && not (eqb (get_or (held_in s z).marking.places p 0) (get_or w p 0))) (sym n) ∙ at p h in
        sym e ∙ eqb-true _ _ (not-false _ a)

    at_places : (z : Record) → Arranged s w z → AtPlaces (net_of s) w (held_in s z).marking
    unfolding net_of
    at_places z a p h = test (eqb (get_or w p 0) any_place)
        (λ e. ap (λ (b : Bool). not b && not (eqb (get_or (held_in s z).marking.places p 0) (get_or w p 0))) e)
        (λ e.
        let q : get_or (held_in s z).marking.places p 0 ≡ get_or w p 0 = get_or-take (bases_of s) z.marking.places p 0 h ∙ a p h (eqb-false (get_or w p 0) any_place e) in
        rw (e, eq-eqb (get_or (held_in s z).marking.places p 0) (get_or w p 0) q))

    has-effect : (f : Key → Bool) → Serves s r t w f → HasEffect (net_of s) w j f
    has-effect f (z, g, a) = ((held_in s z).marking, taken r passes t f z g, at_places z a)

    serves : (f : Key → Bool) → HasEffect (net_of s) w j f → Serves s r t w f
    serves f (z, T, at) =
        let y = ran (undo_commands T.order) r t passes in
        let x : Record = (run_of s (undo_commands T.order) r t).session in
        (x, can-go r passes t f z T, arranged x (subst (AtPlaces (net_of s) w) (sym (ap (λ (i : Journal). i.marking) y.held ∙ T.gives)) at))

    pub smallest : no_way (net_of s) w j ≡ false → Smallest s r t w (way_back (net_of s) w j)
    smallest e =
        let ks = way_back (net_of s) w j in
        let y = ran (undo_commands ks) r t passes in
        record {
          falls = least.falls;
          accepted = y.answers-are ∙ ap (map answered) least.accepted ∙ told ks;
          arranged = arranged (run_of s (undo_commands ks) r t).session (subst (AtPlaces (net_of s) w) (sym (ap (λ (i : Journal). i.marking) y.held)) (least.reaches e));
          within = λ f S. least.least f (has-effect f S);
        }

    pub none-serves : no_way (net_of s) w j ≡ true → (f : Key → Bool) → Serves s r t w f → ⊥
    none-serves e f S = least.none e f (has-effect f S)

    pub one-serves : no_way (net_of s) w j ≡ false → Serves s r t w (gone (net_of s) w j)
    one-serves e = serves (gone (net_of s) w j) (least.effect e)

-- ---- what the call answers

is_found : Verdict → Bool
is_found Accepted = true
is_found (Refused n) = false

module _ (s : List ℕ) (r : Record) (w : List ℕ) (t : Tally) where
  abbrev unfit : Bool
  unfit = unfit_layout (net_of s).bases (net_of s).places w

  abbrev own : List Check
  own = way_checks (net_of s) w (held_in s r)

  by-clear : (a : Bool) → clear (way_back_checks s r w) ≡ a → way_back_of s r w ≡ pick a (way_of (way_back (net_of s) w (held_in s r))) (no_way_back (first (way_back_checks s r w)))
  unfolding way_back_of
  by-clear a e = ap (λ (x : Bool). pick x (way_of (way_back (net_of s) w (held_in s r))) (no_way_back (first (way_back_checks s r w)))) e

  clear-is : clear (way_back_checks s r w) ≡ (clear (sheet_checks s) && (not (not (sound_for s r)) && (not unfit && (not (no_way (net_of s) w (held_in s r)) && true))))
  clear-is = clear-append (sheet_checks s) (check 10 (not (sound_for s r)) ∷ own)

  found-clear : (way_back_of s r w).answer ≡ Accepted → clear (way_back_checks s r w) ≡ true
  unfolding no_way_back is_found
  found-clear e = test (clear (way_back_checks s r w)) (λ h. h) (λ h. both true refl (sym (ap is_found e) ∙ ap (λ (y : WayBack). is_found y.answer) (by-clear false h)))

  -- the tests where no check holds, and where none of 1 to 10 and 27 does
  pub record Passes : Type 0 where
    pub sheet : clear (sheet_checks s) ≡ true
    pub record-passes : sound_for s r ≡ true
    pub fit : unfit ≡ false

  front : (a b c : Bool) → (a && (not (not b) && (not c && true))) ≡ true → (a ≡ true) × (b ≡ true) × (c ≡ false)
  front true true false e = (refl, refl, refl)
  front true true true e = both false e refl
  front true false c e = both false e refl
  front false b c e = both false e refl

  passes : clear (layout_checks s r w) ≡ true → Passes
  unfolding net_of
  passes h =
      let (a, b, c) = front (clear (sheet_checks s)) (sound_for s r) (unfit_layout (bases_of s) (places_of s) w) (sym (clear-append (sheet_checks s) (check 10 (not (sound_for s r)) ∷ check 27 (unfit_layout (bases_of s) (places_of s) w) ∷ [])) ∙ h) in
      record { sheet = a; record-passes = b; fit = c }

  whole : (a b c d : Bool) → (a && (not (not b) && (not c && (not d && true)))) ≡ true → (a ≡ true) × (b ≡ true) × (c ≡ false) × (d ≡ false)
  whole true true false false e = (refl, refl, refl, refl)
  whole true true false true e = both false e refl
  whole true true true d e = both false e refl
  whole true false c d e = both false e refl
  whole false b c d e = both false e refl

  given : clear (way_back_checks s r w) ≡ true → keys_given (way_back_of s r w) ≡ way_back (net_of s) w (held_in s r)
  given h =
      let ks = way_back (net_of s) w (held_in s r) in
      ap keys_given (by-clear true h) ∙ take_at ks (replicate (max_live - length ks) (key 0)) (length ks) refl

  found : (way_back_of s r w).answer ≡ Accepted → Smallest s r t w (keys_given (way_back_of s r w))
  found e =
      let h = found-clear e in
      let (a, b, c, d) = whole (clear (sheet_checks s)) (sound_for s r) unfit (no_way (net_of s) w (held_in s r)) (sym clear-is ∙ h) in
      subst (Smallest s r t w) (sym (given h)) (smallest s a (promised s a).rule r b w t d)

  -- 28, by the search
  answered-by : Passes → (d : Bool) → no_way (net_of s) w (held_in s r) ≡ d → (way_back_of s r w).answer ≡ pick d (Refused 28) Accepted
  unfolding no_way_back
  answered-by p false e = ap (λ (y : WayBack). y.answer) (by-clear true (clear-is ∙ rw (p.sheet, p.record-passes, p.fit, e)))
  answered-by p true e =
      let f : first (way_back_checks s r w) ≡ 28 = first-clear (sheet_checks s) (check 10 (not (sound_for s r)) ∷ own) p.sheet ∙ rw (p.record-passes, p.fit, e) in
      ap (λ (y : WayBack). y.answer) (by-clear false (clear-is ∙ rw (p.sheet, p.record-passes, p.fit, e)) ∙ ap no_way_back f)

  none_only : Passes → (way_back_of s r w).answer ≡ Refused 28 → no_way (net_of s) w (held_in s r) ≡ true
  unfolding is_found
  none_only p e = test (no_way (net_of s) w (held_in s r)) (λ h. h) (λ h. both true refl (ap is_found (sym (answered-by p false h) ∙ e)))

  pub ways : Ways s r w t
  ways = record {
    found = found;
    unused = λ e. ap (λ (y : WayBack). y.keys) (by-clear true (found-clear e)) ∙ ap (padWith (key 0) max_live) (sym (given (found-clear e)));
    none = λ h. let p = passes h in (
      (λ e. none-serves s p.sheet (promised s p.sheet).rule r p.record-passes w t (none_only p e)),
      λ n. test (no_way (net_of s) w (held_in s r)) (λ d. answered-by p true d)
          (λ d. absurd (n (gone (net_of s) w (held_in s r)) (one-serves s p.sheet (promised s p.sheet).rule r p.record-passes w t d))),
    );
    some = λ h f S. let p = passes h in test (no_way (net_of s) w (held_in s r))
        (λ d. absurd (none-serves s p.sheet (promised s p.sheet).rule r p.record-passes w t d f S)) (λ d. answered-by p false d);
    away = λ h. by-clear false h;
  }
