-- The way back asked of a record: refused by one of 1 to 10, or 27, 28 and the way as they are of what it holds.
-- Assumes nothing.
use mathlib.Core.Path.{◌≡◌, refl, sym, ◌∙◌, ap}
use mathlib.Core.Bool.{Bool, true, false}
use mathlib.Core.List.{List, [], append-nil}
use Prim.Native.Nat.{ℕ}
use Rattle.net.specs.Tests.{pick}
use Rattle.net.specs.Checks.{Check, clear, first, verdict_number}
use Rattle.format.specs.NetOf.{net_of}
use Rattle.sound.proofs.Refusing.{refused-first, refused-clear, passed_first, passed-clear}
use Rattle.way_back.specs.Ways.{way_back}
use Rattle.way_back.specs.Answer.{way_of, no_way_back, way_checks, way_from}
use Rattle.way_back.specs.declared.WayBack.{WayBack}
use Rattle.session.specs.Records.{held_in, Sound}
use Rattle.session.specs.Commands.{record_checks}
use Rattle.questions.specs.Ways.{way_back_checks, way_back_of}
use Rattle.session.specs.declared.Record.{Record}
use Rattle.session.proofs.Steps.{first-clear}

module _ (s : List ℕ) (r : Record) (w : List ℕ) where
  abbrev own : List Check
  own = way_checks (net_of s) w (held_in s r)

  by_first : (a : Bool) (n : ℕ) → clear (way_back_checks s r w) ≡ a → first (way_back_checks s r w) ≡ n → way_back_of s r w ≡ pick a (way_of (way_back (net_of s) w (held_in s r))) (no_way_back n)
  unfolding way_back_of
  by_first a n e f = λ i. pick (e i) (way_of (way_back (net_of s) w (held_in s r))) (no_way_back (f i))

  pub way-refused : (n : ℕ) → n ≡ first (record_checks s r []) → (n ≡ 0 → ⊥) → no_way_back n ≡ way_back_of s r w
  way-refused n e h =
      sym (by_first false n (refused-clear s r.marking r.firings r.given r.movers n e h own) (sym (refused-first s r.marking r.firings r.given r.movers n e h own)))

  pub way_asked : Sound s r → way_from (net_of s) w (held_in s r) ≡ way_back_of s r w
  unfolding way_from
  way_asked p =
      sym (by_first (clear own) (first own) (passed-clear s r.marking r.firings r.given r.movers p own) (passed_first s r.marking r.firings r.given r.movers p own))

  -- the answer's number is that of the first check that holds
  number_of : (a : Bool) (n : ℕ) → clear (way_back_checks s r w) ≡ a → first (way_back_checks s r w) ≡ n → (a ≡ true → n ≡ 0) → verdict_number (pick a (way_of (way_back (net_of s) w (held_in s r))) (no_way_back n)).answer ≡ n
  unfolding no_way_back
  number_of true n e f z = sym (z refl)
  number_of false n e f z = refl

  pub way-number : (x : WayBack) → x ≡ way_back_of s r w → verdict_number x.answer ≡ first (way_back_checks s r w)
  way-number x e =
      ap (λ (y : WayBack). verdict_number y.answer) (e ∙ by_first (clear (way_back_checks s r w)) (first (way_back_checks s r w)) refl refl)
      ∙ number_of (clear (way_back_checks s r w)) (first (way_back_checks s r w)) refl refl (λ h. ap first (sym (append-nil (way_back_checks s r w))) ∙ first-clear (way_back_checks s r w) [] h)
