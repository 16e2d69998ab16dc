-- The lamps asked of a record: refused by one of 1 to 10, or by the lines that it holds.
-- Assumes nothing.
use mathlib.Core.Path.{◌≡◌, sym, ◌∙◌, ap}
use mathlib.Core.Bool.{Bool, true, false, ◌&&◌}
use mathlib.Core.List.{List, []}
use Prim.Native.Nat.{ℕ}
use Rattle.net.specs.Limits.{max_bases}
use Rattle.net.specs.Tests.{pick}
use Rattle.net.specs.Checks.{clear, first, verdict_number}
use Rattle.net.specs.Journal.{LiveLine}
use Rattle.net.specs.declared.Key.{Key}
use Rattle.firings.specs.Lines.{lines_in}
use Rattle.movers.specs.Lamp.{lamp}
use Rattle.firings.proofs.Lines.{SameLines}
use Rattle.movers.proofs.Alike.{lamp-alike}
use Rattle.lamps.specs.Lamps.{shown, not_shown}
use Rattle.lamps.specs.declared.Lamps.{Lamps}
use Rattle.lamps.proofs.Flags.{shown-alike}
use Rattle.sound.proofs.Movers.{held-alike}
use Rattle.sound.proofs.Refusing.{refused-clear, passed-clear, passed_first}
use Rattle.session.specs.Records.{held_in, Sound}
use Rattle.session.specs.Commands.{record_checks}
use Rattle.questions.specs.Lamps.{can_undo, lamps_of}
use Rattle.session.specs.declared.Record.{Record}

module _ (s : List ℕ) (r : Record) where
  -- ---- refused

  off : (n : ℕ) → n ≡ first (record_checks s r []) → (n ≡ 0 → ⊥) → clear (record_checks s r []) ≡ false
  off n e h = refused-clear s r.marking r.firings r.given r.movers n e h []

  pub lamp-refused : (n : ℕ) → n ≡ first (record_checks s r []) → (n ≡ 0 → ⊥) → (k : Key) → false ≡ can_undo s r k
  unfolding can_undo
  lamp-refused n e h k = sym (ap (λ (b : Bool). b && lamp max_bases r.movers (held_in s r).lines k) (off n e h))

  by_first : (a : Bool) (n : ℕ) → clear (record_checks s r []) ≡ a → first (record_checks s r []) ≡ n → lamps_of s r ≡ pick a (shown r.movers (held_in s r).lines) (not_shown n)
  unfolding lamps_of
  by_first a n e f = λ i. pick (e i) (shown r.movers (held_in s r).lines) (not_shown (f i))

  pub lamps-refused : (n : ℕ) → n ≡ first (record_checks s r []) → (n ≡ 0 → ⊥) → (x : Lamps) → x ≡ not_shown n → (x ≡ lamps_of s r) × (verdict_number x.answer ≡ first (record_checks s r []))
  unfolding not_shown
  lamps-refused n e h x q = (q ∙ sym (by_first false n (off n e h) (sym e)), ap (λ (y : Lamps). verdict_number y.answer) q ∙ e)

  -- ---- shown

  module _ (S : Sound s r) where
    abbrev ls : List LiveLine
    ls = (held_in s r).lines

    on : clear (record_checks s r []) ≡ true
    on = passed-clear s r.marking r.firings r.given r.movers S []

    -- the lines with as many flags as an array holds
    wide : SameLines (lines_in max_bases r.firings) ls
    wide = held-alike s r.marking r.firings r.given S.passed

    pub lamp-asked : (k : Key) → lamp max_bases r.movers (lines_in max_bases r.firings) k ≡ can_undo s r k
    unfolding can_undo
    lamp-asked k = lamp-alike max_bases r.movers (lines_in max_bases r.firings) ls wide k ∙ sym (ap (λ (b : Bool). b && lamp max_bases r.movers ls k) on)

    pub lamps-shown : (x : Lamps) → x ≡ shown r.movers (lines_in max_bases r.firings)
        → (x ≡ lamps_of s r) × (verdict_number x.answer ≡ first (record_checks s r []))
    lamps-shown x q =
        let none : first (record_checks s r []) ≡ 0 = passed_first s r.marking r.firings r.given r.movers S [] in
        (q ∙ shown-alike r.movers (lines_in max_bases r.firings) ls wide ∙ sym (by_first true 0 on none), ap (λ (y : Lamps). verdict_number y.answer) q ∙ sym none)
