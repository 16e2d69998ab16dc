-- Any command on any record and sheet: refused by one of 1 to 10.
-- Assumes nothing.
use mathlib.Core.Path.{◌≡◌, sym}
use mathlib.Core.Bool.{Bool, false}
use mathlib.Core.List.{List, []}
use Prim.Native.Nat.{ℕ}
use Rattle.net.specs.Tests.{pick}
use Rattle.net.specs.Checks.{Check, clear, first}
use Rattle.net.specs.Journal.{checks}
use Rattle.format.specs.NetOf.{net_of}
use Rattle.sound.proofs.Refusing.{refused-first, refused-clear}
use Rattle.session.specs.Records.{held_in}
use Rattle.session.specs.Commands.{refusal, accept_of, record_checks, command_checks, outcome_for}
use Rattle.session.specs.declared.Record.{Record}

module _ (s : List ℕ) (r : Record) (c : List ℕ) where
  by_first : (a : Bool) (n : ℕ) → clear (command_checks s r c) ≡ a → first (command_checks s r c) ≡ n → outcome_for s r c ≡ pick a (accept_of s r c) (refusal r n)
  unfolding outcome_for
  by_first a n e f = λ i. pick (e i) (accept_of s r c) (refusal r (f i))

  pub refused-by : (n : ℕ) → n ≡ first (record_checks s r []) → (n ≡ 0 → ⊥) → refusal r n ≡ outcome_for s r c
  refused-by n e h =
      let own : List Check = checks (net_of s) (held_in s r) c in
      sym (by_first false n (refused-clear s r.marking r.firings r.given r.movers n e h own) (sym (refused-first s r.marking r.firings r.given r.movers n e h own)))
