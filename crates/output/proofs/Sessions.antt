-- What a session from a fresh record comes to, as text: the run's words and values, its record and its tally give the text
-- that the journal gives. Assumes an accepted sheet.
use mathlib.Core.Path.{◌≡◌, refl, sym, ap, ◌∙◌, subst}
use mathlib.Core.Bool.{true}
use mathlib.Core.List.{List, [], ◌∷◌, ◌++◌, map}
use Prim.Native.Nat.{ℕ, suc, ◌<◌, ◌≤◌}
use native.Mathlib.Omega.{arith}
use native.Mathlib.Nat.{zero-add}
use lib.ListN.{length, get_or, drop, length-map, get_or-append}
use lib.Seq.{sets}
use borrow.Author.Tests.{leb-true}
use Rattle.net.specs.Limits.{max_bonds, max_live}
use Rattle.net.specs.Tests.{all}
use Rattle.net.specs.Checks.{clear}
use Rattle.net.specs.Journal as J
use Rattle.net.specs.Journal.{Journal, begin, play, answers}
use Rattle.net.proofs.Tests.{and_l}
use Rattle.net.proofs.Tables.{length-table, table-cong}
use Rattle.net.proofs.Journal.{play-held, begin-held}
use Rattle.format.specs.Parts.{bases_of}
use Rattle.format.specs.NetOf.{net_of}
use Rattle.sheet.specs.Checks.{sheet_checks}
use Rattle.sheet.proofs.Accepted.{promised}
use Rattle.tally.specs.Counts.{zero_tally}
use Rattle.tally.specs.declared.Tally.{Tally}
use Rattle.text.specs.Joined.{joined}
use Rattle.text.specs.Writes.{Wrote, Filled}
use Rattle.text.proofs.Writes.{sets-front, written_none, written-more}
use Rattle.sound.specs.Soundness.{journal_in, sound_in}
use Rattle.sound.proofs.Holds.{live-few}
use Rattle.session.specs.Records.{held_in, record_of, Sound}
use Rattle.session.specs.Commands.{fresh_of}
use Rattle.commands.specs.Answers.{answer_of, key_of, word_of, value_of}
use Rattle.session.specs.Runs.{answered, Answered, Session}
use Rattle.session.specs.declared.Record.{Record}
use Rattle.session.proofs.Steps.{follows-fresh, held_back}
use Rattle.session.proofs.Begins.{fresh-sound}
use Rattle.command_list.specs.Commands.{how_many, command_at, commands_in}
use Rattle.session.specs.Lists.{low_refusal, words_of, values_of, ran_of, RunGives}
use Rattle.session.proofs.Turns.{run_length, ran-sound, tally-follows}
use Rattle.session.proofs.Values.{all-low}
use Rattle.report.specs.Lines.{told_line}
use Rattle.runs.specs.Running.{tallied}
use Rattle.final_lines.specs.Final.{closing_of}
use Rattle.report.specs.Said.{line_at, lines_upto, LowValues}
use Rattle.output.specs.Output.{answer_lines, session_text}
use Rattle.output.proofs.Answers.{answered_lines, told-lines, low_values}

-- ---- Lists that were stored from the front of a longer one

stored : (l vs : List ℕ) (i : ℕ) → length vs ≤ length l → i < length vs → get_or (sets l 0 vs) i 0 ≡ get_or vs i 0
stored l vs i h e = ap (λ (k : List ℕ). get_or k i 0) (sets-front vs l h) ∙ get_or-append vs (drop (length vs) l) 0 i e

-- ---- The journal's answers

answered-lines : (k : ℕ) (l : List J.Answer) → answered_lines k (map answered l) ≡ answer_lines k l
answered-lines k [] = refl
answered-lines k (a ∷ rest) = ap (λ (t : List ℕ). told_line (suc k) (answer_of a) (key_of a) ++ t) (answered-lines (suc k) rest)

-- ---- A session on an accepted sheet, b being the commands' bytes

module _ (s b : List ℕ) (accepted : clear (sheet_checks s) ≡ true) where
  -- the journal after the commands, its answers, and the run
  abbrev journal : Journal
  journal = play (net_of s) (commands_in b) (begin (net_of s))

  abbrev replies : List J.Answer
  replies = answers (net_of s) (commands_in b) (begin (net_of s))

  abbrev pub ran : Session
  ran = ran_of s b (fresh_of s) zero_tally

  answers-are : ran.answers ≡ map answered replies
  unfolding ran_of
  answers-are = (follows-fresh s accepted (commands_in b) zero_tally).answers

  session_is : ran.session ≡ record_of journal
  unfolding ran_of
  session_is = (follows-fresh s accepted (commands_in b) zero_tally).session

  tally_is : ran.tally ≡ tallied replies zero_tally
  unfolding ran_of fresh_of
  tally_is = tally-follows s accepted (commands_in b) (begin (net_of s)) zero_tally (begin-held (net_of s) (promised s accepted).rule)

  -- the record holds the journal
  holds : held_in s ran.session ≡ journal
  holds =
      let P = promised s accepted in
      ap (held_in s) session_is ∙ held_back s accepted journal (play-held (net_of s) P.rule (commands_in b) (begin (net_of s)) (begin-held (net_of s) P.rule))

  low : all (λ (a : Answered). low_refusal a.answer) ran.answers ≡ true
  unfolding ran_of
  low = all-low s (commands_in b) (fresh_of s) zero_tally (fresh-sound s accepted)

  many : length ran.answers ≡ how_many b
  unfolding ran_of
  many = run_length s (commands_in b) (fresh_of s) zero_tally ∙ length-table (how_many b) (command_at b)

  -- what the closing lines ask of the record
  pub few-live : ran.session.firings.live ≤ max_live
  few-live = live-few s ran.session.marking ran.session.firings ran.session.given (ran-sound s b (fresh_of s) zero_tally (fresh-sound s accepted)).passed

  pub few-bonds : ran.session.marking.count ≤ max_bonds
  unfolding sound_in
  few-bonds = leb-true ran.session.marking.count max_bonds (and_l _ _ (and_l _ _ (and_l _ _ (ran-sound s b (fresh_of s) zero_tally (fresh-sound s accepted)).passed.sound)))

  -- words and values that were stored in longer lists
  words-many : length (words_of ran) ≡ how_many b
  words-many = length-map ran.answers (λ (a : Answered). word_of a.answer) ∙ many

  values-many : length (values_of ran) ≡ how_many b
  values-many = length-map ran.answers (λ (a : Answered). value_of a.answer a.key) ∙ many

  module _ (words₀ values₀ : List ℕ) (room : how_many b ≤ length words₀) (space : how_many b ≤ length values₀) where
    word_at : (i : ℕ) → i < how_many b → get_or (sets words₀ 0 (words_of ran)) i 0 ≡ get_or (words_of ran) i 0
    word_at i h = let e = words-many in stored words₀ (words_of ran) i (omega arith) (omega arith)

    value-at : (i : ℕ) → i < how_many b → get_or (sets values₀ 0 (values_of ran)) i 0 ≡ get_or (values_of ran) i 0
    value-at i h = let e = values-many in stored values₀ (values_of ran) i (omega arith) (omega arith)

    low-stored : LowValues (sets words₀ 0 (words_of ran)) (sets values₀ 0 (values_of ran)) (how_many b)
    low-stored i h = let m = many in rw (word_at i h, value-at i h) (low_values ran.answers low i (omega arith))

    -- the lines of what was stored are the answers' lines
    lines_stored : lines_upto (sets words₀ 0 (words_of ran)) (sets values₀ 0 (values_of ran)) (how_many b) ≡ answer_lines 0 replies
    lines_stored =
        ap joined (table-cong (how_many b) (line_at (sets words₀ 0 (words_of ran)) (sets values₀ 0 (values_of ran))) (line_at (words_of ran) (values_of ran)) same)
        ∙ ap (λ (n : ℕ). lines_upto (words_of ran) (values_of ran) n) (sym many)
        ∙ told-lines ran.answers
        ∙ ap (answered_lines 0) answers-are
        ∙ answered-lines 0 replies
      where
        same : (i : ℕ) → i < how_many b → line_at (sets words₀ 0 (words_of ran)) (sets values₀ 0 (values_of ran)) i ≡ line_at (words_of ran) (values_of ran) i
        same i h = rw (word_at i h, value-at i h)

-- ---- What the code has in hand

-- what `run` was given, a fresh record and room, and what it gave
pub record Ran (s b : List ℕ) (r : Record) (words₀ values₀ : List ℕ) (session : Record) (tally : Tally) (words values : List ℕ) : Type 0 where
  pub accepted : clear (sheet_checks s) ≡ true
  pub fresh : r ≡ fresh_of s
  pub room : how_many b ≤ length words₀
  pub space : how_many b ≤ length values₀
  pub gives : RunGives (ran_of s b r zero_tally) words₀ values₀ session tally words values

pub starts-sound : (s : List ℕ) (r : Record) → clear (sheet_checks s) ≡ true → r ≡ fresh_of s → Sound s r
starts-sound s r accepted fresh = subst (Sound s) (sym fresh) (fresh-sound s accepted)

module _ (s b : List ℕ) (r : Record) (words₀ values₀ : List ℕ) (session : Record) (tally : Tally) (words values : List ℕ) (G : Ran s b r words₀ values₀ session tally words values) where
  given : RunGives (ran s b G.accepted) words₀ values₀ session tally words values
  given = subst (λ (x : Record). RunGives (ran_of s b x zero_tally) words₀ values₀ session tally words values) G.fresh G.gives

  pub values_low : LowValues words values (how_many b)
  values_low = rw (given.words_are, given.values_are) (low-stored s b G.accepted words₀ values₀ G.room G.space)

  pub live-low : session.firings.live ≤ max_live
  live-low = subst (λ (x : Record). x.firings.live ≤ max_live) (sym given.session_is) (few-live s b G.accepted)

  pub bonds-low : session.marking.count ≤ max_bonds
  bonds-low = subst (λ (x : Record). x.marking.count ≤ max_bonds) (sym given.session_is) (few-bonds s b G.accepted)

  -- the two writers, one after the other, leave the session's text
  pub session-pieces : (buf : List ℕ) {buf₁ buf₂ : List ℕ} {k₁ k₂ : ℕ} (n : ℕ) → n ≡ bases_of s
      → Filled (lines_upto words values (how_many b)) buf k₁ buf₁
      → Wrote (closing_of (journal_in n session.marking session.firings session.given) tally) k₁ buf₁ k₂ buf₂
      → Filled (session_text (net_of s) (commands_in b)) buf k₂ buf₂
  unfolding session_text
  session-pieces buf n bases w₁ w₂ =
      let first = lines_upto words values (how_many b) in
      let last = closing_of (journal_in n session.marking session.firings session.given) tally in
      let one : first ≡ answer_lines 0 (replies s b G.accepted) = (λ i. lines_upto (given.words_are i) (given.values_are i) (how_many b)) ∙ lines_stored s b G.accepted words₀ values₀ G.room G.space in
      let two : last ≡ closing_of (journal s b G.accepted) (tallied (replies s b G.accepted) zero_tally) =
      (λ i. closing_of (journal_in (bases i) (given.session_is i).marking (given.session_is i).firings (given.session_is i).given) (given.tally_is i))
      ∙ λ i. closing_of (holds s b G.accepted i) (tally_is s b G.accepted i) in
      let all = written-more last (written-more first (written_none buf 0) (w₁.0 ∙ sym (zero-add (length first)), w₁.1)) w₂ in
      rw (← one, ← two) (all.count ∙ zero-add (length (first ++ last)), all.list)
