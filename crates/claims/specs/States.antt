-- The marking, the history and ≺ of a record, as the published definition has them, and the record after a command.
-- Definitions only.
--
-- M and H are the marking and the history that a record holds, place by place and transition by transition; ≺ is what
-- Definitions 10 and 12 keep over the session's commands. Two sets are the same where each has what the other has.
use Rattle.std.specs.Prelude.{◌≡◌, true, List, ℕ}
use Rattle.net.specs.Firing.{in_set}
use Rattle.net.specs.Journal.{LiveLine, begin}
use Rattle.net.specs.declared.Transition.{Transition}
use Rattle.published.specs.Sets.{Iff}
use Rattle.published.specs.States.{Marks, Somewhere, Keys}
use Rattle.published.specs.Causal.{Order, no_order}
use Rattle.published.specs.Sheets.{marks_of, history_of, order_after}
use Rattle.format.specs.NetOf.{net_of}
use Rattle.tally.specs.declared.Tally.{Tally}
use Rattle.session.specs.declared.Record.{Record}
use Rattle.session.specs.Records.{held_in}
use Rattle.session.specs.Commands.{command_of}

-- ---- The state that a record holds

abbrev pub marks_in : List ℕ → Record → Marks
marks_in s r = marks_of (net_of s) (held_in s r).marking

abbrev pub history_in : List ℕ → Record → Keys
history_in s r = history_of (held_in s r)

-- ≺ after the commands, from the empty relation
abbrev pub order_in : List ℕ → List (List ℕ) → Order
order_in s cs = order_after (net_of s) cs (begin (net_of s)) no_order

-- ---- What a command does

-- the record that a command hands back
abbrev pub record_after : List ℕ → Record → Tally → List ℕ → Record
record_after s r t c = (command_of s r t c).outcome.session

-- The line l is a firing of v, with the answer's key, and the moved bases on it are those that leave some place.
pub record LineMoves (s : List ℕ) (r : Record) (t : Tally) (c : List ℕ) (v : Transition) (leaving : Marks) (l : LiveLine) : Type 0 where
  pub transition : l.transition ≡ v
  pub key : l.key ≡ (command_of s r t c).outcome.key
  pub moved : (a : ℕ) → Iff (in_set l.moved a ≡ true) (Somewhere leaving a)
