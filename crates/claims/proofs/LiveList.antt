-- The list of a record's live firings, which pages are asked of: the record's lines, and in a session those of the session book.
-- Assumes nothing.
use mathlib.Core.Path.{◌≡◌, refl, sym, ◌∙◌, ap}
use mathlib.Core.Bool.{Bool, true, false}
use mathlib.Core.List.{List, [], map}
use Prim.Native.Nat.{ℕ, ◌≤◌}
use native.Mathlib.Omega.{arith}
use lib.ListN.{length, get_or, take}
use borrow.Author.Tests.{lt-ltb, le-ltb}
use Rattle.net.specs.Limits.{max_live}
use Rattle.net.specs.Tests.{pick, table}
use Rattle.net.specs.Rules.{net_rule}
use Rattle.net.specs.Checks.{clear, first}
use Rattle.net.specs.Journal.{Journal}
use Rattle.net.proofs.Tables.{length-table, get_d-table, get_d-table-all, table-cong}
use Rattle.format.specs.Parts.{bases_of}
use Rattle.format.specs.NetOf.{net_of}
use Rattle.sheet.specs.Checks.{sheet_checks}
use Rattle.sheet.proofs.Accepted.{promised}
use Rattle.bonds.proofs.Fill.{map-table}
use Rattle.bonds.proofs.InPlace.{table-take}
use Rattle.tally.specs.declared.Tally.{Tally}
use Rattle.firings.specs.Lines.{firing_at, as_line}
use Rattle.firings.specs.declared.Firing.{Firing}
use Rattle.live_list.specs.List.{no_firing, live_at, listed, not_listed}
use Rattle.live_list.specs.declared.LiveFirings.{LiveFirings}
use Rattle.session.specs.Records.{held_in}
use Rattle.session.specs.Commands.{record_checks}
use Rattle.questions.specs.Live.{live_firings}
use Rattle.session.specs.declared.Record.{Record}
use Rattle.claims.specs.Sessions.{journal_after, session_after}
use Rattle.claims.specs.Pages.{listed_lines, LiveListed}
use Rattle.claims.proofs.Checks.{record-clear, record-passes}
use Rattle.claims.proofs.Records.{passes-held}
use Rattle.claims.proofs.Sessions.{holds}
use Rattle.claims.proofs.Published.{session-passes}

module _ (s : List ℕ) (r : Record) where
  by-clear : (a : Bool) → clear (record_checks s r []) ≡ a → live_firings s r ≡ pick a (listed r.firings) (not_listed (first (record_checks s r [])))
  unfolding live_firings
  by-clear a e = ap (λ (x : Bool). pick x (listed r.firings) (not_listed (first (record_checks s r [])))) e

  module _ (h : clear (record_checks s r []) ≡ true) where
    abbrev n : ℕ
    n = bases_of s

    abbrev live : ℕ
    live = r.firings.live

    abbrev at : ℕ → Firing
    at i = firing_at r.firings.transitions r.firings.keys r.firings.moved i

    is : live_firings s r ≡ listed r.firings
    is = by-clear true h

    live-are : live ≡ length (held_in s r).lines
    live-are = sym (length-table live (λ i. as_line n (at i)))

    few : live ≤ max_live
    few =
        let (a, p) = record-passes s r h in
        let b = (passes-held s a (promised s a).rule r p).few in
        let e = live-are in
        omega arith

    first_live : take live (table max_live (live_at r.firings)) ≡ table live at
    first_live =
        let most = few in
        let long : length (table max_live (live_at r.firings)) ≡ max_live = length-table max_live (live_at r.firings) in
        sym (table-take live (table max_live (live_at r.firings)) no_firing (omega arith))
        ∙ table-cong live (λ i. get_or (table max_live (live_at r.firings)) i no_firing) at (λ i low.
        get_d-table max_live (live_at r.firings) i no_firing (omega arith) ∙ ap (λ (b : Bool). pick b (at i) no_firing) (lt-ltb i live low))

    lines_are : listed_lines s r ≡ (held_in s r).lines
    lines_are = ap (λ (y : LiveFirings). map (as_line n) (take y.count y.firings)) is ∙ ap (map (as_line n)) first_live ∙ map-table (as_line n) live at

    none_after : (i : ℕ) → length (held_in s r).lines ≤ i → get_or (live_firings s r).firings i no_firing ≡ no_firing
    none_after i b =
        let e = live-are in
        let off : live_at r.firings i ≡ no_firing = ap (λ (x : Bool). pick x (at i) no_firing) (le-ltb i live (omega arith)) in
        ap (λ (y : LiveFirings). get_or y.firings i no_firing) is ∙ get_d-table-all max_live (live_at r.firings) no_firing i (λ _. off) ∙ off

  pub live-listed : LiveListed s r
  live-listed = record {
    given = λ h. ap (λ (y : LiveFirings). y.answer) (is h);
    count = λ h. ap (λ (y : LiveFirings). y.count) (is h) ∙ live-are h;
    lines = lines_are;
    unused = none_after;
    away = by-clear false;
  }

pub booked : (s : List ℕ) (accepted : clear (sheet_checks s) ≡ true) (ok : net_rule (net_of s) ≡ true) (cs : List (List ℕ)) (t : Tally) → listed_lines s (session_after s cs t).session ≡ (journal_after s cs).lines
booked s accepted ok cs t =
    let r : Record = (session_after s cs t).session in
    (live-listed s r).lines (record-clear s r ∙ rw (accepted, session-passes s accepted ok cs t) refl) ∙ ap (λ (j : Journal). j.lines) (holds s accepted ok cs t)
