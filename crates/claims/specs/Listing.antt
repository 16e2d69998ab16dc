-- Same assembly, same printed order (02, T-09): what is claimed of every sheet and every record, by the reorderings of its live firings.
-- Statements only; proofs/ proves each.
use Rattle.std.specs.Prelude.{◌≡◌, true, false, List, [], map, ℕ, length, take}
use Rattle.net.specs.Limits.{max_live}
use Rattle.net.specs.Checks.{clear, first}
use Rattle.net.specs.Journal.{LiveLine, transition}
use Rattle.net.specs.Claims.{fire_command, fire_commands}
use Rattle.net.specs.declared.Transition.{Transition}
use Rattle.published.specs.Sets.{Iff}
use Rattle.marking.specs.Form.{padWith}
use Rattle.tally.specs.declared.Tally.{Tally}
use Rattle.listing.specs.First.{FirstOf, TurnsInto}
use Rattle.listing.specs.Listing.{no_listing}
use Rattle.listing.specs.declared.Listing as L
use Rattle.net.specs.declared.Verdict.TheVariants.{Accepted}
use Rattle.session.specs.Records.{held_in}
use Rattle.session.specs.Commands.{record_checks}
use Rattle.questions.specs.Listing.{listing_for}
use Rattle.session.specs.declared.Record.{Record}
use Rattle.claims.specs.Sessions.{session_after, ForwardRun}

-- the steps that are given, their numbers, and the steps as commands of kind 1
abbrev pub steps_in : L.Listing → List Transition
steps_in y = take y.count y.transitions

abbrev pub numbers_in : L.Listing → List ℕ
numbers_in y = map (λ (t : Transition). t.0) (steps_in y)

abbrev pub step_commands : L.Listing → List (List ℕ)
step_commands y = map fire_command (steps_in y)

-- The listing of the record r on the sheet s.
pub record Listing (s : List ℕ) (r : Record) : Type 0 where
  -- as many steps as firings are live, every entry after them 0; they are those of a reordering that keeps the order of any two
  -- firings with a common part, and no such reordering's come before them
  pub count : (listing_for s r).count ≡ length (held_in s r).lines
  pub unused : (listing_for s r).transitions ≡ padWith (transition 0) max_live (steps_in (listing_for s r))
  pub first : FirstOf (held_in s r).lines (numbers_in (listing_for s r))
  -- and no other numbers are so
  pub only : (ns : List ℕ) → FirstOf (held_in s r).lines ns → ns ≡ numbers_in (listing_for s r)
  -- fired in turn from a fresh record, each is answered `fired`, the places and couplings come out as they are, and the listing of
  -- the record at the end is the same
  pub order : List LiveLine
  pub commands : step_commands (listing_for s r) ≡ fire_commands order
  pub runs : (t : Tally) → ForwardRun s order (held_in s r).marking t
  pub again : (t : Tally) → listing_for s (session_after s (step_commands (listing_for s r)) t).session ≡ listing_for s r
  -- the listing of another record that is not refused is equal exactly if the one's live firings can be turned into the other's,
  -- serials apart, by swapping neighbours that moved no common part
  pub same : (q : Record) → clear (record_checks s q []) ≡ true → Iff (listing_for s r ≡ listing_for s q) (TurnsInto (held_in s r).lines (held_in s q).lines)
  -- so records with equal listings have the same places and couplings
  pub assembly : (q : Record) → clear (record_checks s q []) ≡ true → listing_for s r ≡ listing_for s q → (held_in s r).marking ≡ (held_in s q).marking

pub record Listings (s : List ℕ) (r : Record) : Type 0 where
  -- given where none of 1 to 10 holds
  pub answer : clear (record_checks s r []) ≡ true → (listing_for s r).answer ≡ Accepted
  pub given : clear (record_checks s r []) ≡ true → Listing s r
  -- what is refused is refused by the first of 1 to 10 that holds, and gives the empty list
  pub away : clear (record_checks s r []) ≡ false → listing_for s r ≡ no_listing (first (record_checks s r []))
