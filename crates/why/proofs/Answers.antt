-- The reason of any command on any record and sheet: by the sheet, by the record, by the command's own number.
-- Assumes nothing.
use mathlib.Core.Path.{◌≡◌, refl, sym, ◌∙◌, ap}
use mathlib.Core.Bool.{true}
use mathlib.Core.List.{List, []}
use Prim.Native.Nat.{ℕ, suc, ◌<◌}
use native.Mathlib.Omega.{arith}
use borrow.Author.Tests.{ne_eqb, lt-ltb}
use Rattle.net.specs.Checks.{clear, first}
use Rattle.net.specs.Net.{Net}
use Rattle.net.specs.Journal.{Journal, begin, play, checks}
use Rattle.net.proofs.Journal.{Held, played}
use Rattle.format.specs.NetOf.{net_of}
use Rattle.sheet.specs.Checks.{sheet_checks}
use Rattle.sheet.proofs.Accepted.{promised}
use Rattle.sound.proofs.Refusing.{refused-first, of-sheet, kept-is}
use Rattle.tally.specs.declared.Tally.{Tally}
use Rattle.session.specs.Records.{held_in, record_of, Sound}
use Rattle.session.specs.Commands.{record_checks, command_checks, fresh_of}
use Rattle.session.specs.Runs.{run_of}
use Rattle.session.specs.declared.Record.{Record}
use Rattle.session.proofs.Steps.{held_back, held-sound, follows-fresh}
use Rattle.why.specs.Why.{reason_for, why_of}
use Rattle.why.specs.Turned.{Turned}
use Rattle.why.specs.declared.Reason.{Reason}
use Rattle.why.proofs.Numbers.{sheet-low, act-refused, first-own}

sheet-reason : (net : Net) (j : Journal) (c : List ℕ) (n : ℕ) → (n ≡ 0 → ⊥) → n < 10 → Reason.Sheet ≡ reason_for net j c n
unfolding reason_for
sheet-reason net j c n h l = rw (ne_eqb n 0 h, lt-ltb n 10 l)

record-reason : (net : Net) (j : Journal) (c : List ℕ) → Reason.Record ≡ reason_for net j c 10
unfolding reason_for
record-reason net j c = refl

module _ (s : List ℕ) (r : Record) (c : List ℕ) where
  -- what the inner functions ask, by the number of the command's own checks
  pub turned : Sound s r → (n : ℕ) → n ≡ first (checks (net_of s) (held_in s r) c) → (k : ℕ) → n ≡ suc k → Turned s r c (suc k)
  turned S n e k h = record { sound = S; answer = act-refused (net_of s) (held_in s r) c (suc k) (sym h ∙ e) (λ z. omega arith) }

  -- by the number of the command's answer
  pub why-by : (n : ℕ) → n ≡ first (command_checks s r c) → (y : Reason) → y ≡ reason_for (net_of s) (held_in s r) c n → y ≡ why_of s r c
  unfolding why_of
  why-by n e y h = h ∙ ap (reason_for (net_of s) (held_in s r) c) e

  pub why-sheet : (n : ℕ) → n ≡ first (record_checks s r []) → (n ≡ 0 → ⊥) → (n ≡ 10 → ⊥) → Reason.Sheet ≡ why_of s r c
  why-sheet n e h t =
      why-by n (refused-first s r.marking r.firings r.given r.movers n e h (checks (net_of s) (held_in s r) c)) Reason.Sheet
      (sheet-reason (net_of s) (held_in s r) c n h (sheet-low s n (of-sheet s r.marking r.firings r.given r.movers n e h t) h))

  pub why-record : (n : ℕ) → n ≡ first (record_checks s r []) → n ≡ 10 → Reason.Record ≡ why_of s r c
  why-record n e t =
      let q : 10 ≡ first (record_checks s r []) = sym t ∙ e in
      why-by 10 (refused-first s r.marking r.firings r.given r.movers 10 q (λ z. omega arith) (checks (net_of s) (held_in s r) c)) Reason.Record (record-reason (net_of s) (held_in s r) c)

-- ---- the record of a journal

module _ (s : List ℕ) (accepted : clear (sheet_checks s) ≡ true) where
  -- by the journal alone
  pub why-journal : (j : Journal) → Held (net_of s) j → (c : List ℕ) → why_of s (record_of j) c ≡ reason_for (net_of s) j c (first (checks (net_of s) j c))
  why-journal j H c =
      sym (why-by s (record_of j) c _ (sym (first-own s (record_of j) c accepted (kept-is s (record_of j).marking (record_of j).firings (record_of j).given (record_of j).movers (held-sound s accepted j H)))) _ refl)
      ∙ ap (λ (h : Journal). reason_for (net_of s) h c (first (checks (net_of s) h c))) (held_back s accepted j H)

  -- after commands on a fresh record
  pub why-session : (cs : List (List ℕ)) (t : Tally) (c : List ℕ) → why_of s (run_of s cs (fresh_of s) t).session c
      ≡ (let j = play (net_of s) cs (begin (net_of s)) in reason_for (net_of s) j c (first (checks (net_of s) j c)))
  why-session cs t c =
      let P = promised s accepted in
      ap (λ (r : Record). why_of s r c) (follows-fresh s accepted cs t).session
      ∙ why-journal (play (net_of s) cs (begin (net_of s))) (played (net_of s) P.rule cs) c
