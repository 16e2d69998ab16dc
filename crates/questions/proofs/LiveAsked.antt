-- A record's live firings as a list: refused by one of 1 to 10, or listed.
-- Assumes nothing.
use mathlib.Core.Path.{◌≡◌, sym, ◌∙◌, ap}
use mathlib.Core.Bool.{Bool, true, false}
use mathlib.Core.List.{List, []}
use Prim.Native.Nat.{ℕ}
use Rattle.net.specs.Tests.{pick}
use Rattle.net.specs.Checks.{clear, first, verdict_number}
use Rattle.live_list.specs.List.{listed, not_listed}
use Rattle.live_list.specs.declared.LiveFirings.{LiveFirings}
use Rattle.sound.proofs.Refusing.{refused-clear, passed-clear, passed_first}
use Rattle.session.specs.Records.{Sound}
use Rattle.session.specs.Commands.{record_checks}
use Rattle.questions.specs.Live.{live_firings}
use Rattle.session.specs.declared.Record.{Record}

module _ (s : List ℕ) (r : Record) where
  by_first : (a : Bool) (n : ℕ) → clear (record_checks s r []) ≡ a → first (record_checks s r []) ≡ n → live_firings s r ≡ pick a (listed r.firings) (not_listed n)
  unfolding live_firings
  by_first a n e f = λ i. pick (e i) (listed r.firings) (not_listed (f i))

  pub list-refused : (n : ℕ) → n ≡ first (record_checks s r []) → (n ≡ 0 → ⊥) → (x : LiveFirings) → x ≡ not_listed n → (x ≡ live_firings s r) × (verdict_number x.answer ≡ first (record_checks s r []))
  unfolding not_listed
  list-refused n e h x q = (
    q ∙ sym (by_first false n (refused-clear s r.marking r.firings r.given r.movers n e h []) (sym e)),
    ap (λ (y : LiveFirings). verdict_number y.answer) q ∙ e,
  )

  pub list-given : Sound s r → (x : LiveFirings) → x ≡ listed r.firings → (x ≡ live_firings s r) × (verdict_number x.answer ≡ first (record_checks s r []))
  list-given p x q = (
    q ∙ sym (by_first true (first (record_checks s r [])) (passed-clear s r.marking r.firings r.given r.movers p []) (λ _. first (record_checks s r []))),
    ap (λ (y : LiveFirings). verdict_number y.answer) q ∙ sym (passed_first s r.marking r.firings r.given r.movers p []),
  )
