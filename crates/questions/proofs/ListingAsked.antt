-- The listing asked of a record: refused by one of 1 to 10, or by the arrays as it is by the lines that it holds.
-- Assumes nothing.
use mathlib.Core.Path.{◌≡◌, sym, ◌∙◌, ap}
use mathlib.Core.Bool.{Bool, true, false}
use mathlib.Core.List.{List, []}
use Prim.Native.Nat.{ℕ}
use Rattle.net.specs.Limits.{max_bases}
use Rattle.net.specs.Tests.{pick}
use Rattle.net.specs.Checks.{clear, first, verdict_number}
use Rattle.net.specs.Journal.{LiveLine}
use Rattle.format.specs.Parts.{bases_of}
use Rattle.firings.specs.Lines.{lines_in}
use Rattle.firings.proofs.Lines.{line_at, wide-line}
use Rattle.listing.specs.First.{listing}
use Rattle.listing.specs.Listing.{listing_of, no_listing}
use Rattle.listing.specs.declared.Listing.{Listing}
use Rattle.listing.proofs.Alike.{listing-alike}
use Rattle.sound.proofs.Holds.{few}
use Rattle.sound.proofs.Movers.{sets-low}
use Rattle.sound.proofs.Refusing.{refused-clear, passed-clear, passed_first}
use Rattle.session.specs.Records.{held_in, Sound}
use Rattle.session.specs.Commands.{record_checks}
use Rattle.questions.specs.Listing.{listing_for}
use Rattle.session.specs.declared.Record.{Record}

module _ (s : List ℕ) (r : Record) where
  abbrev ls : List LiveLine
  ls = (held_in s r).lines

  by_first : (a : Bool) (n : ℕ) → clear (record_checks s r []) ≡ a → first (record_checks s r []) ≡ n → listing_for s r ≡ pick a (listing_of (listing ls)) (no_listing n)
  unfolding listing_for
  by_first a n e f = λ i. pick (e i) (listing_of (listing ls)) (no_listing (f i))

  pub listing-refused : (n : ℕ) → n ≡ first (record_checks s r []) → (n ≡ 0 → ⊥) → (x : Listing) → x ≡ no_listing n → (x ≡ listing_for s r) × (verdict_number x.answer ≡ first (record_checks s r []))
  unfolding no_listing
  listing-refused n e h x q = (
    q ∙ sym (by_first false n (refused-clear s r.marking r.firings r.given r.movers n e h []) (sym e)),
    ap (λ (y : Listing). verdict_number y.answer) q ∙ e,
  )

  module _ (S : Sound s r) where
    -- sets of as many flags as an array holds have the bases of those of the net
    alike : listing (lines_in max_bases r.firings) ≡ listing ls
    alike = listing-alike r.firings.live (line_at max_bases r.firings) (line_at (bases_of s) r.firings) (λ i h.
        wide-line max_bases (bases_of s) r.firings (few s r.marking r.firings r.given S.passed) i (sets-low s r.marking r.firings r.given S.passed i h))

    pub listing-asked : (x : Listing) → x ≡ listing_of (listing (lines_in max_bases r.firings)) → (x ≡ listing_for s r) × (verdict_number x.answer ≡ first (record_checks s r []))
    listing-asked x q =
        let none : first (record_checks s r []) ≡ 0 = passed_first s r.marking r.firings r.given r.movers S [] in (
          q ∙ ap listing_of alike ∙ sym (by_first true 0 (passed-clear s r.marking r.firings r.given r.movers S []) none),
          ap (λ (y : Listing). verdict_number y.answer) q ∙ sym none,
        )
