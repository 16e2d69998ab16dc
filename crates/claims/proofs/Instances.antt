-- Document 01's sheets A and B: the premises of the demands are met. A refused sheet; and three commands on sheet B, one of each
-- kind, that do what chapter 3 does. Assumes nothing.
use mathlib.Core.Path.{◌≡◌, refl, sym, ◌∙◌, ap, subst, subst⁻¹}
use mathlib.Core.Bool.{Bool, true, false}
use mathlib.Core.List.{List, [], ◌∷◌, ◌++◌, map}
use Prim.Native.Nat.{ℕ, zero, suc}
use lib.Dec.{eqb}
use lib.ListN.{set, take}
use Rattle.causal.specs.Reorderings.{Independent, Reordering, Swapped, swap, under, chain}
use Rattle.causal.proofs.Tests.{both}
use Rattle.causal.proofs.Reorderings.{swapped-reordering}
use Rattle.net.specs.Limits.{max_bases}
use Rattle.net.specs.Tests.{any}
use Rattle.net.specs.Net.{Net}
use Rattle.net.specs.Checks.{Check, clear, first}
use Rattle.net.specs.Firing.{in_set}
use Rattle.net.specs.Journal.{LiveLine, Journal, transition, key, begin, act, answers, play}
use Rattle.net.specs.Cases.{net_b, line, fire_of, undo_last, undo_of}
use Rattle.net.proofs.Tests.{fails}
use Rattle.net.proofs.Checks.{clear-append}
use Rattle.net.proofs.Keys.{up-distinct}
use Rattle.net.proofs.Journal.{played}
use Rattle.net.specs.declared.Key.{Key}
use Rattle.net.specs.declared.Transition.{Transition}
use Rattle.published.specs.Sets.{Iff, Max}
use Rattle.published.specs.Backtracking.{BacktrackEnabled}
use Rattle.published.specs.Causal.{CausalEnabled}
use Rattle.published.specs.Sheets.{petri_net, breaks_nothing, order_of_lines}
use Rattle.format.specs.NetOf.{net_of}
use Rattle.sheet.specs.Checks.{sheet_checks}
use Rattle.sheet.specs.Samples.{sheet_a, sheet_b}
use Rattle.sheet.proofs.Accepted.{promised}
use Rattle.sheet.proofs.Samples.{sheet_a-accepted, sheet_b-accepted, sheet_b-net, earlier-step-first}
use Rattle.command_list.specs.Commands.{commands_in}
use Rattle.tally.specs.declared.Tally.{Tally}
use Rattle.way_back.specs.Ways.{way_back}
use Rattle.way_back.specs.Answer.{way_of, no_way_back, way_checks}
use Rattle.way_back.specs.declared.WayBack.{WayBack}
use Rattle.movers.specs.Lamp.{last_movers}
use Rattle.listing.specs.First.{TurnsInto, listing}
use Rattle.listing.specs.declared.Listing as L
use Rattle.listing.specs.Listing.{listing_of}
use Rattle.spread.specs.Depends.{spread_of}
use Rattle.spread.specs.Spread.{told, own_checks}
use Rattle.session.specs.Records.{held_in, record_of, sound_for, Sound}
use Rattle.session.specs.Commands.{fresh_of, zero_record, start_of, record_checks, command_of}
use Rattle.commands.specs.Answers.{answer_of, word_of, value_of}
use Rattle.session.specs.Runs.{Answered, answered}
use Rattle.session.specs.Block.{block_checks, block_of}
use Rattle.questions.specs.Lamps.{can_undo}
use Rattle.questions.specs.Ways.{way_back_checks, way_back_of}
use Rattle.questions.specs.Spread.{spread_checks, spread_for}
use Rattle.questions.specs.Listing.{listing_for}
use Rattle.session.specs.declared.Record.{Record}
use Rattle.net.specs.declared.Verdict.TheVariants.{Refused}
use Rattle.session.proofs.Steps.{first-clear}
use Rattle.session.proofs.Begins.{fresh-sound}
use Rattle.claims.specs.Sessions.{journal_after, session_after, ForwardRun}
use Rattle.claims.specs.States.{marks_in, history_in, order_in}
use Rattle.claims.specs.Published.{CommandFires, CommandTakesBack, RecordAsPublished, FollowsPublished}
use Rattle.claims.specs.WayBack.{Serves, keys_given, Smallest, layout_checks}
use Rattle.claims.specs.Spread.{Slip}
use Rattle.claims.specs.Listing.{numbers_in, Listing}
use Rattle.claims.specs.Demands.{Demand3}
use Rattle.claims.proofs.Records.{answer-is}
use Rattle.claims.proofs.Sessions.{holds}
use Rattle.claims.proofs.Published.{session-passes}
use Rattle.claims.proofs.Lamps.{no-refusal}
use Rattle.claims.proofs.Demands.{demands}

-- ---- A and B are accepted; a damaged A is refused, and starts no session

accepted-A : clear (sheet_checks sheet_a) ≡ true
accepted-A = (demands.sheets sheet_a).accepted.0 sheet_a-accepted

accepted-B : clear (sheet_checks sheet_b) ≡ true
accepted-B = (demands.sheets sheet_b).accepted.0 sheet_b-accepted

pub not-started : start_of (set (set sheet_a 33 2) 34 0) ≡ record { answer = Refused 9; session = zero_record }
not-started = (demands.starts (set (set sheet_a 33 2) 34 0)).refused 9 earlier-step-first

-- ---- so demand 3 holds of every list of commands on them, and they do what the published definition does

pub demand3-A : (cs : List (List ℕ)) (t : Tally) → Demand3 sheet_a cs t
demand3-A = demands.demand3 sheet_a accepted-A

pub demand3-B : (cs : List (List ℕ)) (t : Tally) → Demand3 sheet_b cs t
demand3-B = demands.demand3 sheet_b accepted-B

pub published-A : FollowsPublished sheet_a
published-A = demands.published sheet_a accepted-A

pub published-B : FollowsPublished sheet_b
published-B = demands.published sheet_b accepted-B

-- M4's firings
abbrev firings : List (List ℕ)
firings = fire_of 0 ∷ fire_of 1 ∷ fire_of 2 ∷ []

-- an order of the lines after M4 that is not their own: step 2, which moved base 1 alone, before 0 and 1, which moved 0, 2 and 3

abbrev turned_lines : List LiveLine
turned_lines = line 2 3 (false ∷ true ∷ false ∷ false ∷ []) ∷ line 0 1 (true ∷ false ∷ true ∷ true ∷ []) ∷ line 1 2 (true ∷ false ∷ true ∷ true ∷ []) ∷ []

apart-B : Independent in_set (true ∷ false ∷ true ∷ true ∷ []) (false ∷ true ∷ false ∷ false ∷ [])
apart-B zero e = refl
apart-B (suc zero) e = both false e refl
apart-B (suc (suc zero)) e = refl
apart-B (suc (suc (suc zero))) e = refl
apart-B (suc (suc (suc (suc p)))) e = refl

pub reordered-B : Reordering in_set (journal_after sheet_b firings).lines turned_lines
reordered-B =
    let swaps : Swapped in_set (play net_b firings (begin net_b)).lines turned_lines = chain (under (swap apart-B)) (swap apart-B) in
    swapped-reordering in_set (subst⁻¹ (λ (n : Net). Swapped in_set (play n firings (begin n)).lines turned_lines) sheet_b-net swaps)
    (up-distinct (journal_after sheet_b firings).lines (played (net_of sheet_b) (promised sheet_b accepted-B).rule firings).up)

pub runs-turned-B : (t t' : Tally) → ForwardRun sheet_b turned_lines (journal_after sheet_b firings).marking t'
runs-turned-B t t' = (demand3-B firings t).reordered turned_lines reordered-B t'

-- ---- what is asked of records is met: of the inner commands' by fresh ones, of those that are handed in by every record of a
-- session

pub sound-A : Sound sheet_a (fresh_of sheet_a)
sound-A = fresh-sound sheet_a accepted-A

pub sound-B : Sound sheet_b (fresh_of sheet_b)
sound-B = fresh-sound sheet_b accepted-B

pub passes-B : (cs : List (List ℕ)) (t : Tally) → sound_for sheet_b (session_after sheet_b cs t).session ≡ true
passes-B cs t = let P = promised sheet_b accepted-B in session-passes sheet_b accepted-B P.rule cs t

-- ---- M1, M4 and M5 on records: kind 1 fires transition 0; after M4, kind 2 takes back the last firing, and kind 3 that of serial 2

abbrev record_b : List (List ℕ) → Tally → Record
record_b cs t = (session_after sheet_b cs t).session

answer-B : (cs : List (List ℕ)) (t : Tally) (c : List ℕ) → (command_of sheet_b (record_b cs t) t c).outcome.answer ≡ answer_of (act net_b (play net_b cs (begin net_b)) c).answer
answer-B cs t c =
    let P = promised sheet_b accepted-B in
    answer-is sheet_b accepted-B P.rule (record_b cs t) (passes-B cs t) t c
    ∙ ap (λ (j : Journal). answer_of (act (net_of sheet_b) j c).answer) (holds sheet_b accepted-B P.rule cs t)
    ∙ ap (λ (n : Net). answer_of (act n (play n cs (begin n)) c).answer) sheet_b-net

shown : (cs : List (List ℕ)) (t : Tally) → RecordAsPublished sheet_b (record_b cs t) (order_in sheet_b cs)
shown cs t = published-B.sessions (published-B.well_formed.1 (ap breaks_nothing sheet_b-net)) cs t

pub fires-M1 : (t : Tally) → CommandFires sheet_b (record_b [] t) (order_in sheet_b []) t (fire_of 0) (transition 0)
fires-M1 t = ((shown [] t).fires_only t (fire_of 0) (answer-B [] t (fire_of 0))).3

pub last-M4 : (t : Tally) → (v : Transition) × (petri_net (net_of sheet_b)).is_transition v × BacktrackEnabled (petri_net (net_of sheet_b)) (history_in sheet_b (record_b firings t)) v
    × CommandTakesBack sheet_b (record_b firings t) (order_in sheet_b firings) t undo_last v
last-M4 t = (shown firings t).undoes_last_only t undo_last refl (answer-B firings t undo_last)

pub taken-back-M5 : (t : Tally) → (v : Transition) × (petri_net (net_of sheet_b)).is_transition v
    × CausalEnabled (petri_net (net_of sheet_b)) (marks_in sheet_b (record_b firings t)) (history_in sheet_b (record_b firings t)) (order_in sheet_b firings) v
    × Max (history_in sheet_b (record_b firings t) v) 2 × CommandTakesBack sheet_b (record_b firings t) (order_in sheet_b firings) t (undo_of 2) v
taken-back-M5 t = (shown firings t).undoes_only t (undo_of 2) refl (answer-B firings t (undo_of 2))

-- and so where the same record is handed in
pub handed-in-M5 : (t : Tally) → RecordAsPublished sheet_b (record_b firings t) (order_of_lines (net_of sheet_b) (held_in sheet_b (record_b firings t)).lines)
handed-in-M5 t = published-B.sound (published-B.well_formed.1 (ap breaks_nothing sheet_b-net)) (record_b firings t) (passes-B firings t)

-- ---- T-02: a block of four commands on a fresh record of sheet B, the last cut short, with lists of five entries

abbrev block : List ℕ
block = 1 ∷ 0 ∷ 0 ∷ 1 ∷ 1 ∷ 0 ∷ 1 ∷ 2 ∷ 0 ∷ 2 ∷ []

abbrev nines : List ℕ
nines = 9 ∷ 9 ∷ 9 ∷ 9 ∷ 9 ∷ []

block-passes : clear (block_checks sheet_b (fresh_of sheet_b) block 5 5) ≡ true
block-passes = clear-append (sheet_checks sheet_b) _ ∙ rw (accepted-B, (demands.soundness sheet_b accepted-B).fresh)

block-answers : (t : Tally) → (session_after sheet_b (commands_in block) t).answers ≡ map answered (answers net_b (commands_in block) (begin net_b))
block-answers t = (demand3-B (commands_in block) t).answers ∙ ap (λ (n : Net). map answered (answers n (commands_in block) (begin n))) sheet_b-net

-- fired 1, fired 2, fired 3, refused 21; the fifth entry stays
pub block_words : (t : Tally) → (block_of sheet_b (fresh_of sheet_b) t block nines nines).words ≡ 0 ∷ 0 ∷ 0 ∷ 2 ∷ 9 ∷ []
block_words t =
    ((demands.blocks sheet_b (fresh_of sheet_b) t block nines nines).singly block-passes).words_are
    ∙ ap (λ (l : List Answered). map (λ (a : Answered). word_of a.answer) l ++ (9 ∷ [])) (block-answers t)

pub block-values : (t : Tally) → (block_of sheet_b (fresh_of sheet_b) t block nines nines).values ≡ 1 ∷ 2 ∷ 3 ∷ 21 ∷ 9 ∷ []
block-values t =
    ((demands.blocks sheet_b (fresh_of sheet_b) t block nines nines).singly block-passes).values_are
    ∙ ap (λ (l : List Answered). map (λ (a : Answered). value_of a.answer a.key) l ++ (9 ∷ [])) (block-answers t)

-- ---- T-04: after M4 on sheet B, base 0 wanted at place 1, the others anywhere: firing 2 alone has to go

abbrev wanted : List ℕ
wanted = 1 ∷ 255 ∷ 255 ∷ 255 ∷ []

held-B : (t : Tally) → held_in sheet_b (record_b firings t) ≡ play (net_of sheet_b) firings (begin (net_of sheet_b))
held-B t = holds sheet_b accepted-B (promised sheet_b accepted-B).rule firings t

way-passes : (t : Tally) → clear (way_back_checks sheet_b (record_b firings t) wanted) ≡ true
way-passes t =
    let own : clear (way_checks (net_of sheet_b) wanted (held_in sheet_b (record_b firings t))) ≡ true =
    ap (λ (j : Journal). clear (way_checks (net_of sheet_b) wanted j)) (held-B t) ∙ ap (λ (n : Net). clear (way_checks n wanted (play n firings (begin n)))) sheet_b-net in
    clear-append (sheet_checks sheet_b) _ ∙ rw (accepted-B, passes-B firings t) own

way-given : (t : Tally) → way_back_of sheet_b (record_b firings t) wanted ≡ way_of (key 2 ∷ [])
unfolding way_back_of
way-given t =
    rw (way-passes t)
    (ap way_of (ap (way_back (net_of sheet_b) wanted) (held-B t) ∙ ap (λ (n : Net). way_back n wanted (play n firings (begin n))) sheet_b-net))

pub way-B : (t : Tally) → Smallest sheet_b (record_b firings t) t wanted (key 2 ∷ [])
way-B t =
    subst (λ (y : WayBack). Smallest sheet_b (record_b firings t) t wanted (keys_given y)) (way-given t)
    ((demands.ways sheet_b (record_b firings t) wanted t).found (ap (λ (y : WayBack). y.answer) (way-given t)))

-- base 1 wanted at place 2, where no firing took it: no set of firings does it, and the call answers 28

abbrev unreachable : List ℕ
unreachable = 255 ∷ 2 ∷ 255 ∷ 255 ∷ []

way-own : {X : Type 0} (f : List Check → X) (t : Tally) → f (way_checks (net_of sheet_b) unreachable (held_in sheet_b (record_b firings t))) ≡ f (way_checks net_b unreachable (play net_b firings (begin net_b)))
way-own f t = ap (λ (j : Journal). f (way_checks (net_of sheet_b) unreachable j)) (held-B t) ∙ ap (λ (n : Net). f (way_checks n unreachable (play n firings (begin n)))) sheet_b-net

pub way-none : (t : Tally) → way_back_of sheet_b (record_b firings t) unreachable ≡ no_way_back 28
way-none t =
    let held : clear (way_back_checks sheet_b (record_b firings t) unreachable) ≡ false = clear-append (sheet_checks sheet_b) _ ∙ rw (accepted-B, passes-B firings t) (way-own clear t) in
    let number : first (way_back_checks sheet_b (record_b firings t) unreachable) ≡ 28 = first-clear (sheet_checks sheet_b) _ accepted-B ∙ rw (passes-B firings t) (way-own first t) in
    (demands.ways sheet_b (record_b firings t) unreachable t).away held ∙ ap no_way_back number

pub none-serves-B : (t : Tally) (f : Key → Bool) → Serves sheet_b (record_b firings t) t unreachable f → ⊥
unfolding no_way_back
none-serves-B t =
    let fits : clear (layout_checks sheet_b (record_b firings t) unreachable) ≡ true = clear-append (sheet_checks sheet_b) _ ∙ rw (accepted-B, passes-B firings t) refl in
    ((demands.ways sheet_b (record_b firings t) unreachable t).none fits).0 (ap (λ (y : WayBack). y.answer) (way-none t))

-- ---- T-06: after M4 on sheet B the lamps of 2 and 3 are lit; that of 1 is not, since 2 was built on it

pub lit-B : (t : Tally) → (can_undo sheet_b (record_b firings t) (key 2) ≡ true) × (can_undo sheet_b (record_b firings t) (key 3) ≡ true)
lit-B t = let L = demands.lamps sheet_b (record_b firings t) t in ((L.says (key 2)).1 (answer-B firings t (undo_of 2)), (L.says (key 3)).1 (answer-B firings t (undo_of 3)))

pub dark-B : (t : Tally) → can_undo sheet_b (record_b firings t) (key 1) ≡ false
dark-B t = fails (can_undo sheet_b (record_b firings t) (key 1)) (λ e. no-refusal 20 (sym (answer-B firings t (undo_of 1)) ∙ ((demands.lamps sheet_b (record_b firings t) t).says (key 1)).0 e))

-- ---- T-08: after M4 on sheet B, 1 spreads to what it and 2 moved, the bases 0, 2 and 3; base 1, which 3 moved, is outside

spread-passes : (t : Tally) → clear (spread_checks sheet_b (record_b firings t) (key 1)) ≡ true
spread-passes t =
    let own : clear (own_checks (held_in sheet_b (record_b firings t)).lines (key 1)) ≡ true =
    ap (λ (j : Journal). clear (own_checks j.lines (key 1))) (held-B t) ∙ ap (λ (n : Net). clear (own_checks (play n firings (begin n)).lines (key 1))) sheet_b-net in
    clear-append (sheet_checks sheet_b) _ ∙ rw (accepted-B, passes-B firings t) own

pub spread-B : (t : Tally) → spread_for sheet_b (record_b firings t) (key 1) ≡ told (true ∷ false ∷ true ∷ true ∷ [])
unfolding spread_for
spread-B t =
    rw (spread-passes t)
    (ap told (ap (λ (j : Journal). spread_of (key 1) j.lines) (held-B t) ∙ ap (λ (n : Net). spread_of (key 1) (play n firings (begin n)).lines) sheet_b-net))

pub slip-B : (t : Tally) → Slip sheet_b (record_b firings t) (key 1) t
slip-B t = (demands.spreads sheet_b (record_b firings t) (key 1) t).told (spread-passes t)

-- ---- T-09: fired 2, 0, 1 on sheet B, the steps are listed 0, 1, 2: step 2 moved base 1 alone, and 0 and 1 no base of it

abbrev turned : List (List ℕ)
turned = fire_of 2 ∷ fire_of 0 ∷ fire_of 1 ∷ []

listing-passes : (cs : List (List ℕ)) (t : Tally) → clear (record_checks sheet_b (record_b cs t) []) ≡ true
listing-passes cs t = clear-append (sheet_checks sheet_b) _ ∙ rw (accepted-B, passes-B cs t)

pub listing-B : (t : Tally) → listing_for sheet_b (record_b turned t) ≡ listing_of (0 ∷ 1 ∷ 2 ∷ [])
unfolding listing_for
listing-B t =
    rw (listing-passes turned t)
    (ap listing_of (ap (λ (j : Journal). listing j.lines) (holds sheet_b accepted-B (promised sheet_b accepted-B).rule turned t) ∙ ap (λ (n : Net). listing (play n turned (begin n)).lines) sheet_b-net))

pub listed-B : (t : Tally) → Listing sheet_b (record_b turned t)
listed-B t = (demands.listings sheet_b (record_b turned t)).given (listing-passes turned t)

-- fired 0, 1, 2 they are listed so too: the one's firings can be turned into the other's; those of 0 alone and of 2 alone cannot
listing-of : (cs : List (List ℕ)) (t : Tally) → listing_for sheet_b (record_b cs t) ≡ listing_of (listing (play net_b cs (begin net_b)).lines)
unfolding listing_for
listing-of cs t =
    rw (listing-passes cs t)
    (ap listing_of (ap (λ (j : Journal). listing j.lines) (holds sheet_b accepted-B (promised sheet_b accepted-B).rule cs t) ∙ ap (λ (n : Net). listing (play n cs (begin n)).lines) sheet_b-net))

same-B : (cs ds : List (List ℕ)) (t : Tally) → Iff (listing_for sheet_b (record_b cs t) ≡ listing_for sheet_b (record_b ds t)) (TurnsInto (held_in sheet_b (record_b cs t)).lines (held_in sheet_b (record_b ds t)).lines)
same-B cs ds t = ((demands.listings sheet_b (record_b cs t)).given (listing-passes cs t)).same (record_b ds t) (listing-passes ds t)

pub turned-B : (t : Tally) → TurnsInto (held_in sheet_b (record_b turned t)).lines (held_in sheet_b (record_b firings t)).lines
turned-B t = (same-B turned firings t).0 (listing-of turned t ∙ sym (listing-of firings t))

pub not-turned-B : (t : Tally) → TurnsInto (held_in sheet_b (record_b (fire_of 0 ∷ []) t)).lines (held_in sheet_b (record_b (fire_of 2 ∷ []) t)).lines → ⊥
not-turned-B t T =
    let e : listing_of (0 ∷ []) ≡ listing_of (2 ∷ []) = sym (listing-of (fire_of 0 ∷ []) t) ∙ (same-B (fire_of 0 ∷ []) (fire_of 2 ∷ []) t).1 T ∙ listing-of (fire_of 2 ∷ []) t in
    both false (ap (λ (y : L.Listing). any (eqb 2) (numbers_in y)) e) refl

-- ---- T-06: after M4 base 0 was last moved by 2; after M5, when 2 is taken back, by 1 again
abbrev taken_back : List (List ℕ)
taken_back = fire_of 0 ∷ fire_of 1 ∷ fire_of 2 ∷ undo_of 2 ∷ []

table-B : (cs : List (List ℕ)) (t : Tally) → (record_b cs t).movers ≡ last_movers max_bases (play net_b cs (begin net_b)).lines
unfolding record_of
table-B cs t = ap (λ (r : Record). r.movers) (demand3-B cs t).session ∙ ap (λ (n : Net). last_movers max_bases (play n cs (begin n)).lines) sheet_b-net

pub movers-M4 : (t : Tally) → take 5 (record_b firings t).movers ≡ 2 ∷ 3 ∷ 2 ∷ 2 ∷ 0 ∷ []
movers-M4 t = ap (take 5) (table-B firings t)

pub movers-M5 : (t : Tally) → take 5 (record_b taken_back t).movers ≡ 1 ∷ 3 ∷ 1 ∷ 1 ∷ 0 ∷ []
movers-M5 t = ap (take 5) (table-B taken_back t)
