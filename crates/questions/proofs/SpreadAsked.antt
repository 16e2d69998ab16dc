-- How far one firing spreads, asked of a record: refused by one of 1 to 10, or as it is told of the lines that the record holds.
-- Assumes nothing.
use mathlib.Core.Path.{◌≡◌, sym, ◌∙◌, ap}
use mathlib.Core.Bool.{Bool, true, false, not}
use mathlib.Core.List.{List, [], ◌∷◌}
use Prim.Native.Nat.{ℕ}
use Rattle.causal.proofs.Tests.{test}
use Rattle.net.specs.Limits.{max_bases}
use Rattle.net.specs.Tests.{pick}
use Rattle.net.specs.Checks.{check, clear, first, verdict_number}
use Rattle.net.specs.Journal.{LiveLine, is_live}
use Rattle.net.specs.declared.Key.{Key}
use Rattle.format.specs.Parts.{bases_of}
use Rattle.firings.specs.Lines.{lines_in}
use Rattle.firings.proofs.Lines.{line_at, wide-line}
use Rattle.spread.specs.Depends.{spread_of}
use Rattle.spread.specs.Spread.{told, not_told, own_checks, spread_among}
use Rattle.spread.specs.declared.Spread.{Spread}
use Rattle.spread.proofs.Places.{among-alike}
use Rattle.sound.proofs.Holds.{few}
use Rattle.sound.proofs.Movers.{sets-low}
use Rattle.sound.proofs.Refusing.{refused-first, refused-clear, passed_first, passed-clear}
use Rattle.session.specs.Records.{held_in, Sound}
use Rattle.session.specs.Commands.{record_checks}
use Rattle.questions.specs.Spread.{spread_checks, spread_for}
use Rattle.session.specs.declared.Record.{Record}

module _ (s : List ℕ) (r : Record) (k : Key) where
  abbrev ls : List LiveLine
  ls = (held_in s r).lines

  by_first : (a : Bool) (n : ℕ) → clear (spread_checks s r k) ≡ a → first (spread_checks s r k) ≡ n → spread_for s r k ≡ pick a (told (spread_of k ls)) (not_told n)
  unfolding spread_for
  by_first a n e f = λ i. pick (e i) (told (spread_of k ls)) (not_told (f i))

  abbrev pub Answers : Spread → Type 0
  Answers x = (x ≡ spread_for s r k) × (verdict_number x.answer ≡ first (spread_checks s r k))

  away : (n : ℕ) → clear (spread_checks s r k) ≡ false → first (spread_checks s r k) ≡ n → (x : Spread) → x ≡ not_told n → Answers x
  unfolding not_told
  away n e f x q = (q ∙ sym (by_first false n e f), ap (λ (y : Spread). verdict_number y.answer) q ∙ sym f)

  -- ---- refused by 1 to 10

  pub spread-refused : (n : ℕ) → n ≡ first (record_checks s r []) → (n ≡ 0 → ⊥) → (x : Spread) → x ≡ not_told n → Answers x
  spread-refused n e h = away n (refused-clear s r.marking r.firings r.given r.movers n e h (own_checks ls k)) (sym (refused-first s r.marking r.firings r.given r.movers n e h (own_checks ls k)))

  -- ---- a record that passes

  module _ (S : Sound s r) where
    passed-own : (b : Bool) → is_live k ls ≡ b → (clear (spread_checks s r k) ≡ clear (check 19 (not b) ∷ [])) × (first (spread_checks s r k) ≡ first (check 19 (not b) ∷ []))
    passed-own b e = (
      passed-clear s r.marking r.firings r.given r.movers S (own_checks ls k) ∙ ap (λ (x : Bool). clear (check 19 (not x) ∷ [])) e,
      passed_first s r.marking r.firings r.given r.movers S (own_checks ls k) ∙ ap (λ (x : Bool). first (check 19 (not x) ∷ [])) e,
    )

    -- sets of as many flags as an array holds have the bases of those of the net
    alike : spread_among k (lines_in max_bases r.firings) ≡ spread_among k ls
    alike = among-alike k r.firings.live (line_at max_bases r.firings) (line_at (bases_of s) r.firings) (λ i h.
        wide-line max_bases (bases_of s) r.firings (few s r.marking r.firings r.given S.passed) i (sets-low s r.marking r.firings r.given S.passed i h))

    pub spread-asked : (x : Spread) → x ≡ spread_among k (lines_in max_bases r.firings) → Answers x
    spread-asked x q = test (is_live k ls) yes no
      where
        by-live : (b : Bool) → is_live k ls ≡ b → x ≡ pick b (told (spread_of k ls)) (not_told 19)
        by-live b e = q ∙ alike ∙ ap (λ (c : Bool). pick c (told (spread_of k ls)) (not_told 19)) e

        yes : is_live k ls ≡ true → Answers x
        yes e = let (u, v) = passed-own true e in (by-live true e ∙ sym (by_first true 0 u v), ap (λ (y : Spread). verdict_number y.answer) (by-live true e) ∙ sym v)

        no : is_live k ls ≡ false → Answers x
        no e = let (u, v) = passed-own false e in away 19 u v x (by-live false e)
