-- A block on any record and sheet: turned away by one of 1 to 10, turned away by 26, or run.
-- Assumes nothing.
use mathlib.Core.Path.{◌≡◌, refl, sym, ◌∙◌, ap}
use mathlib.Core.Bool.{Bool, true, false, not, ◌&&◌, ◌||◌}
use mathlib.Core.List.{List, [], ◌∷◌}
use Prim.Native.Nat.{ℕ, ◌≤◌}
use native.Mathlib.Omega.{arith}
use lib.Dec.{ltb, eqb}
use lib.ListN.{length}
use borrow.Author.Tests.{ltb-false, eqb-true, eqb-false}
use Rattle.net.specs.Tests.{pick}
use Rattle.net.specs.Checks.{Check, check, clear, first, verdict_number}
use Rattle.net.proofs.Tests.{or-no-l, or-no-r}
use Rattle.sound.proofs.Refusing.{refused-first, refused-clear, passed_first, passed-clear}
use Rattle.tally.specs.declared.Tally.{Tally}
use Rattle.command_list.specs.Commands.{how_many}
use Rattle.command_list.specs.Block.{max_block, unfit_for, turned_by}
use Rattle.session.specs.Records.{Sound}
use Rattle.session.specs.Commands.{record_checks}
use Rattle.session.specs.Lists.{ran_of, RunGives}
use Rattle.session.specs.Block.{block_checks, Handed, ran_block, turned_away, not_run, block_of, Blocked}
use Rattle.session.specs.declared.Record.{Record}
use Rattle.net.specs.declared.Verdict.TheVariants.{Accepted}
use Rattle.session.specs.declared.block.BlockCounted.{BlockCounted}

-- each list has an entry for each command
pub room : (b : List ℕ) (w v : ℕ) → unfit_for b w v ≡ false → (how_many b ≤ w) × (how_many b ≤ v)
room b w v h =
    let k : (ltb w (how_many b) || ltb v (how_many b)) ≡ false = or-no-r (ltb max_block (how_many b)) _ h in
    (ltb-false w (how_many b) (or-no-l (ltb w (how_many b)) _ k), ltb-false v (how_many b) (or-no-r (ltb w (how_many b)) _ k))

module _ (s : List ℕ) (r : Record) (t : Tally) (b words values : List ℕ) where
  abbrev own : List Check
  own = check 26 (unfit_for b (length words) (length values)) ∷ []

  abbrev all-checks : List Check
  all-checks = block_checks s r b (length words) (length values)

  by_first : (a : Bool) (n : ℕ) → clear all-checks ≡ a → first all-checks ≡ n
      → block_of s r t b words values ≡ pick a (ran_block (how_many b) words values (ran_of s b r t)) (not_run (turned_away r n t) words values)
  unfolding block_of
  by_first a n e f = λ i. pick (e i) (ran_block (how_many b) words values (ran_of s b r t)) (not_run (turned_away r (f i) t) words values)

  away : (n : ℕ) → clear all-checks ≡ false → n ≡ first all-checks → (x : BlockCounted) → x ≡ turned_away r n t → Blocked s r t b words values x.outcome x.tally words values
  away n c e x q =
      let y : not_run (turned_away r n t) words values ≡ block_of s r t b words values = sym (by_first false n c (sym e)) in
      record {
        outcome = ap (λ (z : BlockCounted). z.outcome) q ∙ ap (λ (z : Handed). z.outcome) y;
        tally = ap (λ (z : BlockCounted). z.tally) q ∙ ap (λ (z : Handed). z.tally) y;
        words_are = ap (λ (z : Handed). z.words) y;
        values_are = ap (λ (z : Handed). z.values) y;
        number = ap (λ (z : BlockCounted). verdict_number z.outcome.answer) q ∙ e;
      }

  away-refused : (n : ℕ) → n ≡ first (record_checks s r []) → (n ≡ 0 → ⊥) → (x : BlockCounted) → x ≡ turned_away r n t → Blocked s r t b words values x.outcome x.tally words values
  away-refused n e h = away n (refused-clear s r.marking r.firings r.given r.movers n e h own) (refused-first s r.marking r.firings r.given r.movers n e h own)

  away-unfit : Sound s r → unfit_for b (length words) (length values) ≡ true → (x : BlockCounted) → x ≡ turned_away r 26 t
      → Blocked s r t b words values x.outcome x.tally words values
  away-unfit p h = away 26 (passed-clear s r.marking r.firings r.given r.movers p own ∙ ap (λ (a : Bool). not a && true) h)
      (sym (passed_first s r.marking r.firings r.given r.movers p own ∙ ap (λ (a : Bool). pick a 26 0) h))

  -- by what the two tests say together
  module _ (n : ℕ) (e : n ≡ first (record_checks s r [])) (p : n ≡ 0 → Sound s r) (k : ℕ) (q : k ≡ turned_by n b (length words) (length values)) where
    pub turned-away : (k ≡ 0 → ⊥) → (x : BlockCounted) → x ≡ turned_away r k t → Blocked s r t b words values x.outcome x.tally words values
    turned-away d x y = go (eqb n 0) refl (unfit_for b (length words) (length values)) refl
      where
        go : (z : Bool) → eqb n 0 ≡ z → (u : Bool) → unfit_for b (length words) (length values) ≡ u → Blocked s r t b words values x.outcome x.tally words values
        go true z true u = away-unfit (p (eqb-true n 0 z)) u x (y ∙ ap (λ (m : ℕ). turned_away r m t) (q ∙ rw (z, u)))
        go true z false u = absurd (d (q ∙ rw (z, u)))
        go false z u w = away-refused n e (eqb-false n 0 z) x (y ∙ ap (λ (m : ℕ). turned_away r m t) (q ∙ rw z))

    pub not-turned : k ≡ 0 → Sound s r × (unfit_for b (length words) (length values) ≡ false)
    not-turned d = go (eqb n 0) refl (unfit_for b (length words) (length values)) refl
      where
        go : (z : Bool) → eqb n 0 ≡ z → (u : Bool) → unfit_for b (length words) (length values) ≡ u → Sound s r × (unfit_for b (length words) (length values) ≡ false)
        go true z true u = let h : k ≡ 26 = q ∙ rw (z, u) in absurd (let g : ⊥ = omega arith in g)
        go true z false u = (p (eqb-true n 0 z), u)
        go false z u w = let h : k ≡ n = q ∙ rw z in absurd (eqb-false n 0 z (sym h ∙ d))

  pub block-ran : Sound s r → unfit_for b (length words) (length values) ≡ false
      → (next : Record) (u : Tally) (words' values' : List ℕ) (n : ℕ) → n ≡ how_many b → RunGives (ran_of s b r t) words values next u words' values'
      → Blocked s r t b words values (record { answer = Accepted; count = n; session = next }) u words' values'
  block-ran p h next u words' values' n e g =
      let c : clear all-checks ≡ true = passed-clear s r.marking r.firings r.given r.movers p own ∙ ap (λ (a : Bool). not a && true) h in
      let f : first all-checks ≡ 0 = passed_first s r.marking r.firings r.given r.movers p own ∙ ap (λ (a : Bool). pick a 26 0) h in
      let y : ran_block (how_many b) words values (ran_of s b r t) ≡ block_of s r t b words values = sym (by_first true 0 c f) in
      let o : record { answer = Accepted; count = n; session = next } ≡ (ran_block (how_many b) words values (ran_of s b r t)).outcome = λ i. record { answer = Accepted; count = e i; session = g.session_is i } in
      record {
        outcome = o ∙ ap (λ (z : Handed). z.outcome) y;
        tally = g.tally_is ∙ ap (λ (z : Handed). z.tally) y;
        words_are = g.words_are ∙ ap (λ (z : Handed). z.words) y;
        values_are = g.values_are ∙ ap (λ (z : Handed). z.values) y;
        number = sym f;
      }
