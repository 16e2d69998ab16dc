-- What a reason names holds the condition of its number: specs/Claims, of any sheet, record and command.
-- Assumes nothing.
use mathlib.Core.Path.{◌≡◌, refl, sym, ◌∙◌, ap}
use mathlib.Core.Bool.{Bool, true, false, not}
use mathlib.Core.List.{List}
use Prim.Native.Nat.{ℕ, ◌<◌}
use native.Mathlib.Omega.{arith}
use lib.Dec.{eqb}
use lib.ListN.{get_or}
use borrow.Author.Tests.{eq-eqb}
use Rattle.causal.proofs.Tests.{both, test}
use Rattle.net.specs.Checks.{clear, first}
use Rattle.net.specs.Net.{Arcs, Marking, bond, has_bond, place}
use Rattle.net.specs.Connection.{connected}
use Rattle.net.specs.Firing.{bonds_seen}
use Rattle.net.specs.Journal.{LiveLine, no_line, refused, key_named, act}
use Rattle.net.specs.declared.Bond.{Bond}
use Rattle.net.specs.declared.Entry.{Entry}
use Rattle.net.specs.declared.Key.{Key}
use Rattle.net.proofs.Tests.{and_l, and_r}
use Rattle.format.specs.NetOf.{net_of}
use Rattle.sheet.specs.Checks.{sheet_checks}
use Rattle.sheet.proofs.Order.{clear_first}
use Rattle.firings.proofs.Laid.{mem-at}
use Rattle.session.specs.Records.{held_in, sound_for}
use Rattle.session.specs.Commands.{command_checks}
use Rattle.commands.specs.Answers.{answer_number}
use Rattle.session.specs.declared.Record.{Record}
use Rattle.sound.specs.Soundness.{sound_in}
use Rattle.sound.proofs.Refusing.{sheet-positive}
use Rattle.session.proofs.Answers.{answer-number}
use Rattle.undoing.proofs.Places.{place_found}
use Rattle.reasons.proofs.Named.{away-holds, absent-holds, present-holds, torn-holds}
use Rattle.why.specs.Why.{no_entry, away_entry, absent_bond, present_bond, torn_entry, partner_of, later_place, later_part, away_by, absent_by, present_by, torn_by, later_by, reason_for, why_of}
use Rattle.why.specs.Claims.{IsAway, IsAbsent, IsPresent, IsTorn, CameAfter, step_of, RefusedBy, Named}
use Rattle.why.specs.declared.Reason.{Reason}
use Rattle.why.proofs.Numbers.{sheet-low, first-sheet, first-record, first-own, act-refused}
use Rattle.why.proofs.Answers.{why-by}
use Rattle.why.proofs.Latest.{came}

-- a test that was turned round
off : (b : Bool) → not b ≡ true → b ≡ false
off true h = both false h refl
off false h = refl

differ : (a b : ℕ) → not (eqb a b) ≡ true → a ≡ b → ⊥
differ a b h e = both (eqb a b) (eq-eqb a b e) (off (eqb a b) h)

-- ---- what is known where the command is refused by a number from 11 on

module _ (s : List ℕ) (r : Record) (c : List ℕ) (n : ℕ) (high : 10 < n) (R : RefusedBy s r c n) where
  number : first (command_checks s r c) ≡ n
  number = sym (answer-number s r c) ∙ ap answer_number R

  accepted : clear (sheet_checks s) ≡ true
  accepted = test (clear (sheet_checks s)) (λ h. h) (λ h.
      let z : first (sheet_checks s) ≡ 0 → ⊥ = λ e. both (clear (sheet_checks s)) (clear_first (sheet_checks s) (sheet-positive s) ∙ ap (λ (k : ℕ). eqb k 0) e) h in
      let a = first-sheet s r c (first (sheet_checks s)) refl z in
      let b = sheet-low s (first (sheet_checks s)) refl z in
      let e = number in
      absurd (let y : ⊥ = omega arith in y))

  sound : sound_for s r ≡ true
  sound = test (sound_for s r) (λ h. h) (λ h.
      let a = first-record s r c accepted h in
      let e = number in
      absurd (let y : ⊥ = omega arith in y))

  answered : (act (net_of s) (held_in s r) c).answer ≡ refused n
  answered = act-refused (net_of s) (held_in s r) c n (sym number ∙ first-own s r c accepted sound) (λ z. omega arith)

  because : (y : Reason) → y ≡ reason_for (net_of s) (held_in s r) c n → why_of s r c ≡ y
  because y h = sym (why-by s r c n (sym number) y h)

-- ---- each number

module _ (s : List ℕ) (r : Record) (c : List ℕ) where
  abbrev t : Arcs
  t = step_of s c

  abbrev m : Marking
  m = (held_in s r).marking

  is-away : RefusedBy s r c 13 → (e : Entry) × (p : ℕ) × (why_of s r c ≡ Reason.Away e p) × IsAway t m e p
  unfolding reason_for
  is-away R =
      let N = away-holds (net_of s) (held_in s r) c (answered s r c 13 (omega arith) R) in
      let e : Entry = away_entry t m in (
        e,
        place m e.base,
        because s r c 13 (omega arith) R (away_by t m) refl,
        record { entry = mem-at t.entries no_entry _ N.on; here = refl; elsewhere = differ (place m e.base) e.from (N.holds no_entry) },
      )

  is-absent : RefusedBy s r c 14 → (b : Bond) × (why_of s r c ≡ Reason.Absent b) × IsAbsent t m b
  unfolding reason_for
  is-absent R =
      let N = absent-holds (net_of s) (held_in s r) c (answered s r c 14 (omega arith) R) in (
        absent_bond t m,
        because s r c 14 (omega arith) R (absent_by t m) refl,
        record { coupling = mem-at t.in_bonds (bond 0 0) _ N.on; absent = off (has_bond (absent_bond t m) m.bonds) (N.holds (bond 0 0)) },
      )

  is-present : RefusedBy s r c 15 → (b : Bond) × (why_of s r c ≡ Reason.Present b) × IsPresent t m b
  unfolding reason_for
  is-present R =
      let N = present-holds (net_of s) (held_in s r) c (answered s r c 15 (omega arith) R) in
      let b : Bond = present_bond t m in
      let h = N.holds (bond 0 0) in (
        b,
        because s r c 15 (omega arith) R (present_by t m) refl,
        record {
          coupling = mem-at t.out_bonds (bond 0 0) _ N.on;
          new = off (has_bond b t.in_bonds) (and_l (not (has_bond b t.in_bonds)) (has_bond b m.bonds) h);
          present = and_r (not (has_bond b t.in_bonds)) (has_bond b m.bonds) h;
        },
      )

  is-torn : RefusedBy s r c 16 → (e : Entry) × (d : Entry) × (why_of s r c ≡ Reason.Torn e d) × IsTorn t m e d
  unfolding reason_for
  is-torn R =
      let (N, M) = torn-holds (net_of s) (held_in s r) c (answered s r c 16 (omega arith) R) in
      let e : Entry = torn_entry t m in
      let d : Entry = partner_of t m e in
      let h = (M no_entry).holds no_entry in (
        e,
        d,
        because s r c 16 (omega arith) R (torn_by t m) refl,
        record {
          first = mem-at t.entries no_entry _ N.on;
          second = mem-at t.entries no_entry _ (M no_entry).on;
          together = and_l (connected (bonds_seen t m.bonds) e.base d.base) (not (eqb e.to d.to)) h;
          apart = differ e.to d.to (and_r (connected (bonds_seen t m.bonds) e.base d.base) (not (eqb e.to d.to)) h);
        },
      )

  abbrev ls : List LiveLine
  ls = (held_in s r).lines

  abbrev mine : Key
  mine = key_named (held_in s r) c

  is_later : RefusedBy s r c 20 → (k : Key) × (p : ℕ) × (why_of s r c ≡ Reason.Later k p) × CameAfter ls mine k p
  unfolding reason_for
  is_later R =
      let C = came s r (accepted s r c 20 (omega arith) R) (and_l (sound_in s r.marking r.firings r.given) _ (sound s r c 20 (omega arith) R)) c (answered s r c 20 (omega arith) R) in
      let l : LiveLine = get_or ls (later_place ls mine) no_line in
      let F = place_found mine ls (let h = C.there in omega arith) in (
        l.key,
        later_part ls mine,
        because s r c 20 (omega arith) R (later_by ls mine) refl,
        record {
          other = l;
          live = mem-at ls no_line (later_place ls mine) C.there;
          key = refl;
          later = (let h = C.later in let e = F.key in omega arith);
          moved = C.other;
          both = C.mine;
        },
      )

pub named : (s : List ℕ) (r : Record) (c : List ℕ) → Named s r c
named s r c = record { away = is-away s r c; absent = is-absent s r c; present = is-present s r c; torn = is-torn s r c; later = is_later s r c }
