-- What the tests of a record say together: sound, or not.
-- Assumes nothing.
use mathlib.Core.Path.{◌≡◌, refl, sym, ◌∙◌, ap}
use mathlib.Core.Bool.{Bool, true, false, ◌&&◌, and-false}
use mathlib.Core.List.{List}
use Prim.Native.Nat.{ℕ, ◌<◌, ◌≤◌, ◌-◌, ◌^◌}
use native.Mathlib.Omega.{arith}
use lib.Dec.{leb}
use lib.ListN.{length, get_or}
use borrow.Author.Tests.{le-leb, lt-leb, leb-true}
use lib.Pow.{pow_pos}
use Rattle.net.specs.Limits.{max_live}
use Rattle.net.specs.History.{lines_in_form, replays}
use Rattle.net.specs.Tests.{table}
use Rattle.net.proofs.Tests.{all-e}
use Rattle.net.proofs.Tables.{length-table}
use Rattle.bonds.proofs.Fill.{mem-table}
use Rattle.causal.proofs.Tests.{both}
use Rattle.format.specs.Parts.{bases_of}
use Rattle.format.specs.NetOf.{net_of}
use Rattle.marking.specs.Form.{marking_of, in_form}
use Rattle.marking.specs.declared.Marking.{Marking}
use Rattle.firings.specs.Lines.{lines_in}
use Rattle.firings.specs.Form.{used_in_form, firings_in_form, climbs}
use Rattle.firings.specs.Search.{keys_in}
use Rattle.firings.specs.declared.Firings.{Firings}
use Rattle.firings.proofs.Keys.{keys-order}
use Rattle.sound.specs.Soundness.{runs_in}

-- ---- the tests together

all_pass : (m f w r : Bool) → (m && (f && w)) ≡ true → ((m && (true && f)) && ((true && w) && r)) ≡ r
all_pass true true true r h = refl
all_pass true true false r h = both false h refl
all_pass true false w r h = both false h refl
all_pass false f w r h = both false h refl

one-fails : (m f w r : Bool) → (m && (f && w)) ≡ false → ((m && (true && f)) && ((true && w) && r)) ≡ false
one-fails true true true r h = both true refl h
one-fails true true false r h = refl
one-fails true false w r h = refl
one-fails false f w r h = refl

module _ (s : List ℕ) (m : Marking) (f : Firings) where
  abbrev run : Bool
  run = replays (net_of s) (net_of s).start (lines_in (bases_of s) f) (marking_of (bases_of s) m)

  pub too_many : max_live < f.live → false ≡ runs_in s m f
  unfolding runs_in
  too_many h = sym (ap (λ (b : Bool). (in_form (bases_of s) m && (b && firings_in_form (bases_of s) f)) && (lines_in_form (lines_in (bases_of s) f) && run)) (lt-leb f.live max_live h)
      ∙ ap (λ (b : Bool). b && (lines_in_form (lines_in (bases_of s) f) && run)) (and-false (in_form (bases_of s) m)))

  module _ (few : f.live ≤ max_live) where
    -- soundness, test by test
    tests : runs_in s m f ≡ ((in_form (bases_of s) m && (true && firings_in_form (bases_of s) f)) && ((true && climbs 0 (keys_in f.live f.keys)) && run))
    unfolding runs_in
    tests =
        let size : length (lines_in (bases_of s) f) ≡ f.live = length-table f.live _ in
        λ i. (in_form (bases_of s) m && (le-leb f.live max_live few i && firings_in_form (bases_of s) f))
        && (((ap (λ (x : ℕ). leb x max_live) size ∙ le-leb f.live max_live few) i && sym (keys-order (bases_of s) f) i) && run)

    pub unsound : (in_form (bases_of s) m && (firings_in_form (bases_of s) f && climbs 0 (keys_in f.live f.keys))) ≡ false → false ≡ runs_in s m f
    unsound h = sym (tests ∙ one-fails (in_form (bases_of s) m) (firings_in_form (bases_of s) f) (climbs 0 (keys_in f.live f.keys)) run h)

    pub by-run : (in_form (bases_of s) m && (firings_in_form (bases_of s) f && climbs 0 (keys_in f.live f.keys))) ≡ true → run ≡ runs_in s m f
    by-run h = sym (tests ∙ all_pass (in_form (bases_of s) m) (firings_in_form (bases_of s) f) (climbs 0 (keys_in f.live f.keys)) run h)

-- each moved set of firings in their form is of the bases
pub low-sets : (n : ℕ) (f : Firings) → used_in_form n f ≡ true → (i : ℕ) → i < f.live → get_or f.moved i 0 < 2 ^ n
low-sets n f h i k =
    let e : leb (get_or f.moved i 0) (2 ^ n - 1) ≡ true = all-e (λ w. leb w (2 ^ n - 1)) (table f.live (λ j. get_or f.moved j 0)) h (get_or f.moved i 0) (mem-table f.live (λ j. get_or f.moved j 0) i k) in
    let top = leb-true (get_or f.moved i 0) (2 ^ n - 1) e in
    let some = pow_pos n in
    omega arith
