-- Whether a live firing can come off (02, T-06): what is claimed of every sheet, record, serial and tally, by the command of kind 3.
-- Definitions only. What the table of a sound record has is said with soundness (Demands).
use Rattle.std.specs.Prelude.{◌≡◌, true, false, List, [], ℕ, ◌<◌, ◌≤◌, length, get_or}
use Rattle.net.specs.Limits.{max_bases}
use Rattle.net.specs.Firing.{in_set}
use Rattle.net.specs.Checks.{clear, first}
use Rattle.net.specs.Journal.{no_line, is_live, line_of}
use Rattle.net.specs.Claims.{undo_command}
use Rattle.net.specs.declared.Key.{Key}
use Rattle.published.specs.Sets.{Iff}
use Rattle.tally.specs.declared.Tally.{Tally}
use Rattle.commands.specs.declared.Answer.TheVariants.{Undone}
use Rattle.movers.specs.Lamp.{lamp}
use Rattle.lamps.specs.Lamps.{not_shown}
use Rattle.session.specs.Records.{held_in}
use Rattle.session.specs.Commands.{record_checks, command_of}
use Rattle.questions.specs.Lamps.{can_undo, lamps_of}
use Rattle.session.specs.declared.Record.{Record}

-- kind 3 with that serial would be answered `undone`
abbrev pub ComesOff : List ℕ → Record → Tally → Key → Type 0
ComesOff s r t k = (command_of s r t (undo_command k)).outcome.answer ≡ Undone

-- The lamps of the record r on the sheet s; t is the tally of the command that is spoken of.
pub record Lamps (s : List ℕ) (r : Record) (t : Tally) : Type 0 where
  -- yes exactly if kind 3 with that serial would be answered `undone`
  pub says : (k : Key) → Iff (can_undo s r k ≡ true) (ComesOff s r t k)
  -- no where 1 to 10 would refuse, and no for a serial that is not live
  pub refused : clear (record_checks s r []) ≡ false → (k : Key) → can_undo s r k ≡ false
  pub dead : (k : Key) → is_live k (held_in s r).lines ≡ false → can_undo s r k ≡ false
  -- else only the entries for that firing's moved parts are looked at: yes exactly if each of them has the serial
  pub looks : clear (record_checks s r []) ≡ true → (k : Key) → is_live k (held_in s r).lines ≡ true
      → Iff (can_undo s r k ≡ true) ((p : ℕ) → in_set (line_of k (held_in s r).lines).moved p ≡ true → get_or r.movers p 0 ≡ k.0)
  -- and no other entry: by a table that has the same entries for them, whatever its others are, the lamp is the same
  pub only : (k : Key) (u : List ℕ) → ((p : ℕ) → in_set (line_of k (held_in s r).lines).moved p ≡ true → get_or u p 0 ≡ get_or r.movers p 0)
      → lamp max_bases u (held_in s r).lines k ≡ lamp max_bases r.movers (held_in s r).lines k
  -- all lamps in one call: as many as firings are live, each in its place, and no after them
  pub count : clear (record_checks s r []) ≡ true → (lamps_of s r).count ≡ length (held_in s r).lines
  pub each : (i : ℕ) → i < length (held_in s r).lines → get_or (lamps_of s r).lit i false ≡ can_undo s r (get_or (held_in s r).lines i no_line).key
  pub unused : (i : ℕ) → length (held_in s r).lines ≤ i → get_or (lamps_of s r).lit i false ≡ false
  -- what is refused is refused by the first of 1 to 10 that holds, and no lamp is lit
  pub away : clear (record_checks s r []) ≡ false → lamps_of s r ≡ not_shown (first (record_checks s r []))
