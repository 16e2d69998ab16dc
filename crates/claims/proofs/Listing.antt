-- The listing asked of a record: by the journal that it holds, whose commands the record's are.
-- Assumes nothing.
use mathlib.Core.Path.{◌≡◌, refl, sym, ◌∙◌, ap, subst}
use mathlib.Core.Bool.{Bool, true, false}
use mathlib.Core.List.{List, [], ◌∷◌, map}
use Prim.Native.Nat.{ℕ, suc, ◌-◌}
use lib.ListN.{length, replicate}
use lib.Seq.{take_at}
use Rattle.net.specs.Limits.{max_live}
use Rattle.net.specs.Tests.{pick}
use Rattle.net.specs.Checks.{clear, first}
use Rattle.net.specs.Rules.{net_rule}
use Rattle.net.specs.Journal.{LiveLine, Journal, transition}
use Rattle.net.specs.Claims.{fire_command, fire_commands}
use Rattle.net.specs.declared.Transition.{Transition}
use Rattle.net.proofs.Keys.{up-distinct}
use Rattle.net.proofs.Journal.{Held}
use Rattle.format.specs.NetOf.{net_of}
use Rattle.sheet.specs.Checks.{sheet_checks}
use Rattle.sheet.proofs.Accepted.{promised}
use Rattle.marking.specs.Form.{padWith}
use Rattle.tally.specs.declared.Tally.{Tally}
use Rattle.firings.specs.Lines.{steps_of}
use Rattle.listing.specs.First.{FirstOf, ordered, listing}
use Rattle.listing.specs.Listing.{listing_of, no_listing}
use Rattle.listing.specs.declared.Listing as L
use Rattle.listing.proofs.First.{listing-first, first_one}
use Rattle.listing.proofs.Turns.{rivals, turns-list, list-turns, list-marking}
use Rattle.listing.proofs.Relisted.{ordered-forward, relisted-journal}
use Rattle.listing.proofs.Filling.{ordered-long}
use Rattle.session.specs.Records.{held_in, sound_for}
use Rattle.session.specs.Commands.{record_checks}
use Rattle.questions.specs.Listing.{listing_for}
use Rattle.session.specs.declared.Record.{Record}
use Rattle.claims.specs.Sessions.{session_after}
use Rattle.claims.specs.Listing.{steps_in, numbers_in, step_commands, Listing, Listings}
use Rattle.claims.proofs.Records.{passes-held}
use Rattle.claims.proofs.Sessions as N
use Rattle.claims.proofs.Checks.{record-clear, record-passes}
use Rattle.claims.proofs.Sessions.{holds}
use Rattle.claims.proofs.Published.{session-passes}

-- ---- the steps of a listing

long : {X Y : Type 0} (f : X → Y) (l : List X) → length (map f l) ≡ length l
long f [] = refl
long f (x ∷ l) = ap suc (long f l)

numbers_of : (ns : List ℕ) → map (λ (t : Transition). t.0) (map transition ns) ≡ ns
numbers_of [] = refl
numbers_of (n ∷ ns) = λ i. n ∷ numbers_of ns i

commands-of : (ls : List LiveLine) → map fire_command (map transition (steps_of ls)) ≡ fire_commands ls
commands-of [] = refl
commands-of (l ∷ ls) = λ i. fire_command l.transition ∷ commands-of ls i

steps-of : (ns : List ℕ) → steps_in (listing_of ns) ≡ map transition ns
steps-of ns = take_at (map transition ns) (replicate (max_live - length (map transition ns)) (transition 0)) (length ns) (long transition ns)

-- equal answers have equal numbers
numbers-same : (ns ms : List ℕ) → listing_of ns ≡ listing_of ms → ns ≡ ms
numbers-same ns ms e = sym (ap (map (λ (t : Transition). t.0)) (steps-of ns) ∙ numbers_of ns) ∙ ap numbers_in e ∙ ap (map (λ (t : Transition). t.0)) (steps-of ms) ∙ numbers_of ms

module _ (s : List ℕ) where
  by-clear : (r : Record) (a : Bool) → clear (record_checks s r []) ≡ a → listing_for s r ≡ pick a (listing_of (listing (held_in s r).lines)) (no_listing (first (record_checks s r [])))
  unfolding listing_for
  by-clear r a e = ap (λ (x : Bool). pick x (listing_of (listing (held_in s r).lines)) (no_listing (first (record_checks s r [])))) e

  module _ (r : Record) (h : clear (record_checks s r []) ≡ true) where
    abbrev j : Journal
    j = held_in s r

    abbrev ls : List LiveLine
    ls = j.lines

    passed : (clear (sheet_checks s) ≡ true) × (sound_for s r ≡ true)
    passed = record-passes s r h

    rule : net_rule (net_of s) ≡ true
    rule = (promised s passed.0).rule

    held : Held (net_of s) j
    held = passes-held s passed.0 rule r passed.1

    is : listing_for s r ≡ listing_of (listing ls)
    is = by-clear r true h

    steps-are : steps_in (listing_for s r) ≡ map transition (listing ls)
    steps-are = ap steps_in is ∙ steps-of (listing ls)

    commands-are : step_commands (listing_for s r) ≡ fire_commands (ordered (length ls) ls)
    commands-are = ap (map fire_command) steps-are ∙ commands-of (ordered (length ls) ls)

    again : (t : Tally) → listing_for s (session_after s (step_commands (listing_for s r)) t).session ≡ listing_for s r
    again t =
        let cs : List (List ℕ) = fire_commands (ordered (length ls) ls) in
        let z : Record = (session_after s cs t).session in
        let c : clear (record_checks s z []) ≡ true = record-clear s z ∙ rw (passed.0, session-passes s passed.0 rule cs t) refl in
        ap (λ (x : List (List ℕ)). listing_for s (session_after s x t).session) commands-are ∙ by-clear z true c
        ∙ ap (λ (i : Journal). listing_of (listing i.lines)) (holds s passed.0 rule cs t) ∙ ap listing_of (relisted-journal (net_of s) rule j held) ∙ sym is

    is-first : FirstOf ls (numbers_in (listing_for s r))
    is-first = subst (FirstOf ls) (sym (ap (map (λ (t : Transition). t.0)) steps-are ∙ numbers_of (listing ls)))
        (listing-first ls (up-distinct ls held.up) (rivals (net_of s) rule j held))

  given : (r : Record) → clear (record_checks s r []) ≡ true → Listing s r
  given r h = record {
    count = ap (λ (y : L.Listing). y.count) (is r h) ∙ long (λ (l : LiveLine). l.transition.0) (ordered (length (ls r h)) (ls r h)) ∙ ordered-long (length (ls r h)) (ls r h);
    unused = ap (λ (y : L.Listing). y.transitions) (is r h) ∙ ap (padWith (transition 0) max_live) (sym (steps-are r h));
    first = is-first r h;
    only = λ ns F. first_one (ls r h) ns (numbers_in (listing_for s r)) F (is-first r h);
    order = ordered (length (ls r h)) (ls r h);
    commands = commands-are r h;
    runs = N.forward s (passed r h).0 (rule r h) (ordered (length (ls r h)) (ls r h)) (j r h).marking (ordered-forward (net_of s) (rule r h) (j r h) (held r h));
    again = again r h;
    same = λ q k. (
      (λ e. list-turns (net_of s) (rule r h) (j r h) (j q k) (held r h) (held q k) (numbers-same (listing (ls r h)) (listing (ls q k)) (sym (is r h) ∙ e ∙ is q k))),
      λ e. is r h ∙ ap listing_of (turns-list (net_of s) (rule r h) (j r h) (j q k) (held r h) (held q k) e) ∙ sym (is q k),
    );
    assembly = λ q k e. list-marking (net_of s) (rule r h) (j r h) (j q k) (held r h) (held q k) (numbers-same (listing (ls r h)) (listing (ls q k)) (sym (is r h) ∙ e ∙ is q k));
  }

  pub listings : (r : Record) → Listings s r
  listings r = record {
    answer = λ h. ap (λ (y : L.Listing). y.answer) (is r h);
    given = given r;
    away = λ h. by-clear r false h;
  }
