-- The customer's three demands, document 01's totals and document 02's requests, as statements about `checked`, `start_of`, `command_of` and its fold
-- over a list of commands. The contracts of check_sheet, start and the public command equate the calls with the first three.
-- Statements only; proofs/ proves each.
--
-- Not stated here: that a call reads and writes nothing outside what it was lent. That is the checker's own part: it
-- proves of every function that each index is within its slice or array.
use Rattle.std.specs.Prelude.{◌≡◌, true, false, List, ◌∷◌, ◌++◌, map, ℕ, ◌+◌, ◌<◌, ◌≤◌, eqb, length, get_or}
use Rattle.causal.specs.Lists.{Mem}
use Rattle.causal.specs.Reorderings.{Reordering}
use Rattle.net.specs.Limits.{max_bases}
use Rattle.net.specs.Checks.{Check, check, clear, first, verdict_number}
use Rattle.net.specs.Firing.{in_set}
use Rattle.net.specs.Connection.{Leads, connected}
use Rattle.net.specs.Journal.{LiveLine, kind_of, transition_named, key_named, fire_reply, undo_reply, begin, answers}
use Rattle.net.specs.History.{lines_in_form}
use Rattle.net.specs.Claims.{Totals}
use Rattle.net.specs.declared.Bond.{Bond}
use Rattle.net.specs.declared.Key.{Key}
use Rattle.published.specs.Sets.{Iff}
use Rattle.format.specs.NetOf.{net_of}
use Rattle.sheet.specs.Checks.{sheet_checks, checked}
use Rattle.tally.specs.Counts.{max_count, one_more, zero_tally}
use Rattle.tally.specs.declared.Tally.{Tally}
use Rattle.session.specs.declared.Record.{Record}
use Rattle.session.specs.Records.{held_in, record_of, sound_for}
use Rattle.session.specs.Commands.{fresh_of, zero_record, start_of, refusal, outcome_of, command_checks, command_of}
use Rattle.commands.specs.Answers.{answer_number}
use Rattle.session.specs.Runs.{answered}
use Rattle.net.specs.declared.Verdict.TheVariants as Verdict
use Rattle.commands.specs.declared.Answer.TheVariants.{Refused}
use Rattle.claims.specs.Sessions.{journal_after, session_after, ForwardRun}
use Rattle.firings.specs.declared.Firing.{Firing}
use Rattle.claims.specs.Published.{Demand2Published}
use Rattle.claims.specs.Pages.{Pages, listed_lines, LiveListed}
use Rattle.claims.specs.Blocks.{Blocks}
use Rattle.claims.specs.Serials.{Serials}
use Rattle.claims.specs.WayBack.{Ways}
use Rattle.claims.specs.Lamps.{Lamps}
use Rattle.claims.specs.Spread.{Spreads}
use Rattle.claims.specs.Listing.{Listings}

-- ---- What the definitions of firing rest on

-- `connected`, which is computed, is document 01's "couplings lead from one to the other".
abbrev pub Connection : Type 0
Connection = (bs : List Bond) (p q : ℕ) → Iff (connected bs p q ≡ true) (Leads bs p q)

-- ---- Demand 1: every sheet, record and command, however mangled, is answered by acceptance or by one number

-- The check of number n is the first that holds: those before it do not.
abbrev pub FirstHolds : ℕ → List Check → Type 0
FirstHolds n cs = (before : List Check) × (after : List Check) × (cs ≡ before ++ check n true ∷ after) × (clear before ≡ true)

-- A sheet alone.
pub record SheetAnswered (s : List ℕ) : Type 0 where
  -- it is accepted exactly where none of its checks holds, and refused by n exactly where n is the first that does
  pub accepted : Iff (checked s ≡ Verdict.Accepted) (clear (sheet_checks s) ≡ true)
  pub refused : (n : ℕ) → Iff (checked s ≡ Verdict.Refused n) (FirstHolds n (sheet_checks s))
  -- which is one of 1 to 9
  pub numbers : (n : ℕ) → checked s ≡ Verdict.Refused n → (1 ≤ n) × (n ≤ 9)
  pub number : verdict_number (checked s) ≡ first (sheet_checks s)

-- Starting a session on a sheet: the fresh record, or a record of zeros with the sheet's refusal.
pub record SheetStarts (s : List ℕ) : Type 0 where
  pub accepted : checked s ≡ Verdict.Accepted → start_of s ≡ record { answer = Verdict.Accepted; session = fresh_of s }
  pub refused : (n : ℕ) → checked s ≡ Verdict.Refused n → start_of s ≡ record { answer = Verdict.Refused n; session = zero_record }
  pub number : verdict_number (start_of s).answer ≡ verdict_number (checked s)

-- A command.

-- the tally with one more fired, undone or refused; a count at 65,535 stays there
abbrev pub one_more_fired : Tally → Tally
one_more_fired t = record { fired = one_more t.fired; undone = t.undone; refused = t.refused }

abbrev pub one_more_undone : Tally → Tally
one_more_undone t = record { fired = t.fired; undone = one_more t.undone; refused = t.refused }

abbrev pub one_more_refused : Tally → Tally
one_more_refused t = record { fired = t.fired; undone = t.undone; refused = one_more t.refused }

pub record Demand1 (s : List ℕ) (r : Record) (t : Tally) (c : List ℕ) : Type 0 where
  -- the answer's number is that of the first check that holds, 0 where the command is accepted
  pub number : answer_number (command_of s r t c).outcome.answer ≡ first (command_checks s r c)
  -- and 0 is the number of no check
  pub accepted : first (command_checks s r c) ≡ 0 → clear (command_checks s r c) ≡ true
  -- a refused command leaves the record as it was, gives key 0 and adds one to refused
  pub refused : (n : ℕ) → (command_of s r t c).outcome.answer ≡ Refused n
      → command_of s r t c ≡ record { outcome = refusal r n; tally = one_more_refused t }
  -- and is refused by one of 1 to 21
  pub numbers : (n : ℕ) → (command_of s r t c).outcome.answer ≡ Refused n → (1 ≤ n) × (n ≤ 21)

-- ---- Demand 2: firing and taking back give exactly what document 01's definitions give. (That these are the published ones
-- is `Demand2Published`.)

pub record Demand2 (s : List ℕ) (r : Record) (t : Tally) (c : List ℕ) : Type 0 where
  -- a firing that no check refuses is the journal's firing, on what the record holds
  pub fires : clear (command_checks s r c) ≡ true → eqb (kind_of c) 1 ≡ true
      → (command_of s r t c).outcome ≡ outcome_of (fire_reply (net_of s) (held_in s r) (transition_named c))
  -- and so with a taking back
  pub undoes : clear (command_checks s r c) ≡ true → eqb (kind_of c) 1 ≡ false
      → (command_of s r t c).outcome ≡ outcome_of (undo_reply (net_of s) (held_in s r) (key_named (held_in s r) c))
  -- the one counts as fired, the other as undone
  pub counts_fired : clear (command_checks s r c) ≡ true → eqb (kind_of c) 1 ≡ true → (command_of s r t c).tally ≡ one_more_fired t
  pub counts_undone : clear (command_checks s r c) ≡ true → eqb (kind_of c) 1 ≡ false → (command_of s r t c).tally ≡ one_more_undone t
  -- a refusal is given where its condition is the first that holds
  pub refuses : (n : ℕ) → FirstHolds n (command_checks s r c) → (command_of s r t c).outcome.answer ≡ Refused n
  -- and never otherwise
  pub otherwise : (n : ℕ) → (command_of s r t c).outcome.answer ≡ Refused n → FirstHolds n (command_checks s r c)

-- ---- Demand 3: one claim about a whole list of commands on an accepted sheet, from a fresh record

pub record Demand3 (s : List ℕ) (cs : List (List ℕ)) (t : Tally) : Type 0 where
  -- the record is the journal in the record's form, and each answer was the journal's
  pub session : (session_after s cs t).session ≡ record_of (journal_after s cs)
  -- a form that loses nothing: what the record holds is the journal
  pub held : held_in s (session_after s cs t).session ≡ journal_after s cs
  pub answers : (session_after s cs t).answers ≡ map answered (answers (net_of s) cs (begin (net_of s)))
  -- the lines left stand in the order of their keys, which strictly ascend from 1 to 65,535; they are at most 256
  pub serials : lines_in_form (journal_after s cs).lines ≡ true
  -- the firings not taken back run forward to the session's places and bonds, in their own order
  pub in_order : (t' : Tally) → ForwardRun s (journal_after s cs).lines (journal_after s cs).marking t'
  -- and in every reordering that keeps the order of any two that moved a common base
  pub reordered : (ls : List LiveLine) → Reordering in_set (journal_after s cs).lines ls → (t' : Tally) → ForwardRun s ls (journal_after s cs).marking t'

-- k is the key of the last of the lines that moved the base p: of one that moved it, where none of a higher key did; 0 where
-- none moved it.
pub record LastToMove (p : ℕ) (ls : List LiveLine) (k : ℕ) : Type 0 where
  pub last : (l : LiveLine) → Mem l ls → in_set l.moved p ≡ true → ((h : LiveLine) → Mem h ls → l.key.0 < h.key.0 → in_set h.moved p ≡ false) → k ≡ l.key.0
  pub none : ((l : LiveLine) → Mem l ls → in_set l.moved p ≡ false) → k ≡ 0

-- Sound records (01, commands, record, tally), those that refusal 10 lets pass, handed in or not: a fresh one is sound; a command
-- on a sound one hands back a sound one; its live firings, given as commands from a fresh record, run forward to what it
-- holds; and its table is that of its live firings: for each base the key of the last that moved it (02, T-06).
pub record Soundness (s : List ℕ) : Type 0 where
  pub fresh : sound_for s (fresh_of s) ≡ true
  pub stays : (r : Record) (t : Tally) (c : List ℕ) → sound_for s r ≡ true → sound_for s (command_of s r t c).outcome.session ≡ true
  pub forward : (r : Record) → sound_for s r ≡ true → (t : Tally) → ForwardRun s (held_in s r).lines (held_in s r).marking t
  pub movers : (r : Record) → sound_for s r ≡ true → (p : ℕ) → p < max_bases → LastToMove p (held_in s r).lines (get_or r.movers p 0)
  -- and has no entry but those
  pub size : (r : Record) → sound_for s r ≡ true → length r.movers ≡ max_bases

-- ---- Document 01's totals

pub record SessionTotals (s : List ℕ) (cs : List (List ℕ)) : Type 0 where
  -- at every point each base is in one place, bonded bases share a place, and the bonds with those that live firings broke are
  -- as many as those of the start with those that live firings made (02, T-07)
  pub marking : Totals (net_of s) (journal_after s cs)
  -- over at most 65,535 commands from a tally of zeros, fired less undone is the number of live firings
  pub live : length cs ≤ max_count → (session_after s cs zero_tally).tally.fired ≡ (session_after s cs zero_tally).tally.undone + (session_after s cs zero_tally).session.firings.live

-- ---- All of it: 1 and 2 of every sheet, record, tally and command; the published definition, 3 and the totals of every accepted
-- sheet

pub record Demands : Type 0 where
  pub connection : Connection
  pub sheets : (s : List ℕ) → SheetAnswered s
  pub starts : (s : List ℕ) → SheetStarts s
  pub demand1 : (s : List ℕ) (r : Record) (t : Tally) (c : List ℕ) → Demand1 s r t c
  pub demand2 : (s : List ℕ) (r : Record) (t : Tally) (c : List ℕ) → Demand2 s r t c
  pub published : Demand2Published
  pub soundness : (s : List ℕ) → clear (sheet_checks s) ≡ true → Soundness s
  pub demand3 : (s : List ℕ) → clear (sheet_checks s) ≡ true → (cs : List (List ℕ)) (t : Tally) → Demand3 s cs t
  pub totals : (s : List ℕ) → clear (sheet_checks s) ≡ true → (cs : List (List ℕ)) → SessionTotals s cs
  -- document 02's requests, each by its file
  pub pages : (fs : List Firing) → Pages fs
  pub lists : (s : List ℕ) (r : Record) → LiveListed s r
  -- a session's list is the lines of the session book
  pub booked : (s : List ℕ) → clear (sheet_checks s) ≡ true → (cs : List (List ℕ)) (t : Tally) → listed_lines s (session_after s cs t).session ≡ (journal_after s cs).lines
  pub serials : (s : List ℕ) → clear (sheet_checks s) ≡ true → (cs : List (List ℕ)) (t : Tally) → Serials s cs t
  pub blocks : (s : List ℕ) (r : Record) (t : Tally) (b words values : List ℕ) → Blocks s r t b words values
  pub ways : (s : List ℕ) (r : Record) (w : List ℕ) (t : Tally) → Ways s r w t
  pub lamps : (s : List ℕ) (r : Record) (t : Tally) → Lamps s r t
  pub spreads : (s : List ℕ) (r : Record) (k : Key) (t : Tally) → Spreads s r k t
  pub listings : (s : List ℕ) (r : Record) → Listings s r
