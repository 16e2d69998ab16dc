-- The whole output by what starting a session answers: the session's text, or the sheet's refusal.
-- Assumes nothing.
use mathlib.Core.Path.{◌≡◌, refl, sym, ap, ◌∙◌, subst}
use mathlib.Core.Bool.{Bool, true, false}
use mathlib.Core.List.{List}
use Prim.Native.Nat.{ℕ, ◌+◌, ◌*◌, ◌≤◌}
use native.Mathlib.Omega.{arith}
use lib.ListN.{length, take, drop, length-take}
use lib.Seq.{sets}
use Rattle.causal.proofs.Tests.{both}
use Rattle.net.specs.Tests.{pick}
use Rattle.net.specs.Checks.{clear, first, verdict_number}
use Rattle.format.specs.Bytes.{word_at}
use Rattle.format.specs.NetOf.{net_of}
use Rattle.sheet.specs.Checks.{sheet_checks}
use Rattle.session.specs.Commands.{fresh_of, zero_record, start_of}
use Rattle.net.specs.declared.Verdict.{Verdict}
use Rattle.net.specs.declared.Verdict.TheVariants.{Accepted, Refused}
use Rattle.session.specs.declared.Start.{Start}
use Rattle.command_list.specs.Commands.{commands_in}
use Rattle.report.specs.Said.{max_commands}
use Rattle.output.specs.Output.{sheet_in, command_bytes, refused_sheet, session_text, output}

is_started : Verdict → Bool
is_started Accepted = true
is_started (Refused n) = false

module _ (s : List ℕ) (x : Start) (e : x ≡ start_of s) where
  abbrev made : Bool → Start
  made b = pick b (record { answer = Accepted; session = fresh_of s }) (record { answer = Refused (first (sheet_checks s)); session = zero_record })

  by-checks : (b : Bool) → clear (sheet_checks s) ≡ b → x ≡ made b
  unfolding start_of
  by-checks b q = e ∙ ap made q

  -- a session that is started: the sheet is accepted, and the record is fresh
  pub start-accepted : x.answer ≡ Accepted → (clear (sheet_checks s) ≡ true) × (x.session ≡ fresh_of s)
  unfolding is_started
  start-accepted a = go (clear (sheet_checks s)) refl
    where
      go : (b : Bool) → clear (sheet_checks s) ≡ b → (b ≡ true) × (x.session ≡ fresh_of s)
      go true q = (refl, ap (λ (z : Start). z.session) (by-checks true q))
      go false q = both (is_started x.answer) (ap is_started a) (ap (λ (z : Start). is_started z.answer) (by-checks false q))

  -- one that is not: some check holds, and the answer has the first one's number
  pub start-refused : (n : ℕ) → x.answer ≡ Refused n → (clear (sheet_checks s) ≡ false) × (n ≡ first (sheet_checks s))
  unfolding is_started
  start-refused n a = go (clear (sheet_checks s)) refl
    where
      go : (b : Bool) → clear (sheet_checks s) ≡ b → (b ≡ false) × (n ≡ first (sheet_checks s))
      go true q = both (is_started x.answer) (ap (λ (z : Start). is_started z.answer) (by-checks true q)) (ap is_started a)
      go false q = (refl, sym (ap verdict_number a) ∙ ap (λ (z : Start). verdict_number z.answer) (by-checks false q))

-- ---- The whole output

take-few : (n : ℕ) (l : List ℕ) → length (take n l) ≤ n
take-few n l = omega (arith, length-take n l)

-- no more bytes than the commands that are read have
pub few_bytes : (input b : List ℕ) → b ≡ command_bytes input → length b ≤ 3 * max_commands
few_bytes input b e = subst (λ (l : List ℕ). length l ≤ 3 * max_commands) (sym e) (take-few (3 * max_commands) (drop (2 + word_at input 0) input))

module _ (input : List ℕ) where
  abbrev by : Bool → List ℕ
  by b = pick b (session_text (net_of (sheet_in input)) (commands_in (command_bytes input))) (refused_sheet (first (sheet_checks (sheet_in input))))

  output-by : (b : Bool) → clear (sheet_checks (sheet_in input)) ≡ b → output input ≡ by b
  unfolding output
  output-by b q = ap by q

  -- what was written for an accepted sheet, and for a refused one
  pub written-accepted : (s b buf : List ℕ) {buf' : List ℕ} {k : ℕ} → s ≡ sheet_in input → b ≡ command_bytes input → clear (sheet_checks s) ≡ true
      → (k ≡ length (session_text (net_of s) (commands_in b))) × (buf' ≡ sets buf 0 (session_text (net_of s) (commands_in b)))
      → (k ≡ length (output input)) × (buf' ≡ sets buf 0 (output input))
  written-accepted s b buf e d q w =
      let o = (λ i. session_text (net_of (e i)) (commands_in (d i))) ∙ sym (output-by true (ap (λ (x : List ℕ). clear (sheet_checks x)) (sym e) ∙ q)) in
      rw (← o) w

  pub written-refused : (s : List ℕ) (n : ℕ) (buf : List ℕ) {buf' : List ℕ} {k : ℕ} → s ≡ sheet_in input → clear (sheet_checks s) ≡ false → n ≡ first (sheet_checks s)
      → (k ≡ length (refused_sheet n)) × (buf' ≡ sets buf 0 (refused_sheet n))
      → (k ≡ length (output input)) × (buf' ≡ sets buf 0 (output input))
  written-refused s n buf e q f w =
      let o = ap refused_sheet (f ∙ ap (λ (x : List ℕ). first (sheet_checks x)) e) ∙ sym (output-by false (ap (λ (x : List ℕ). clear (sheet_checks x)) (sym e) ∙ q)) in
      rw (← o) w
