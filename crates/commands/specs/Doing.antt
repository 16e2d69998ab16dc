-- What a command in place does to what is lent: a marking, live firings, last movers and the highest key given.
-- Definitions only. The journal's own reply says all of it (net/specs/Journal).
use Rattle.std.specs.Prelude.{◌≡◌, List, ℕ}
use Rattle.net.specs.Limits.{max_bases}
use Rattle.net.specs.Tests.{pick}
use Rattle.net.specs.Net.{Net}
use Rattle.net.specs.Checks.{clear, first}
use Rattle.net.specs.Journal.{Journal, Reply, key, fire_checks, undo_checks, fire_reply, undo_reply, refuse}
use Rattle.net.specs.declared.Key.{Key}
use Rattle.net.specs.declared.Transition.{Transition}
use Rattle.marking.specs.Form.{laid}
use Rattle.marking.specs.declared.Marking.{Marking}
use Rattle.firings.specs.Lines.{firings_of}
use Rattle.firings.specs.declared.Firings.{Firings}
use Rattle.movers.specs.Lamp.{last_movers}
use Rattle.commands.specs.Answers.{answer_of, key_of}
use Rattle.commands.specs.declared.Done.{Done}
use Rattle.commands.specs.declared.Answer.TheVariants.{Refused}

-- A firing: 12 to 18 in order, or the journal's firing.
abbrev pub fire_act : Net → Journal → Transition → Reply
fire_act net j t = pick (clear (fire_checks net j t)) (fire_reply net j t) (refuse j (first (fire_checks net j t)))

-- A taking back: 19 or 20, or the journal's taking back.
abbrev pub undo_act : Net → Journal → Key → Reply
undo_act net j k = pick (clear (undo_checks j k)) (undo_reply net j k) (refuse j (first (undo_checks j k)))

-- The reply y was given: the answer and its key, and what is held then, laid out with 0 in every unused entry.
pub record Did (y : Reply) (d : Done) (m : Marking) (f : Firings) (t : List ℕ) : Type 0 where
  pub answer : d.answer ≡ answer_of y.answer
  pub key : d.key ≡ key_of y.answer
  pub marking : m ≡ laid y.journal.marking
  pub firings : f ≡ firings_of y.journal.lines
  pub movers : t ≡ last_movers max_bases y.journal.lines
  pub given : d.given ≡ y.journal.given

-- a refusal: nothing changes, and the key is 0
abbrev pub refused_in : ℕ → Key → Done
refused_in n k = record { answer = Refused n; key = key 0; given = k }
