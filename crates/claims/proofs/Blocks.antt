-- Every block: soundness checked once suffices, a block is its commands given singly, and one that is turned away changes nothing.
-- The premises are met by a block of four commands, the last cut short, on a fresh record of sheet A. Assumes nothing.
use mathlib.Core.Path.{◌≡◌, sym, ◌∙◌, ap}
use mathlib.Core.Bool.{Bool, true, false, not, ◌&&◌}
use mathlib.Core.List.{List, [], ◌∷◌, ◌++◌}
use Prim.Native.Nat.{ℕ, zero, suc, ◌≤◌}
use native.Mathlib.Omega.{arith}
use lib.ListN.{length, take, drop, length-map}
use lib.Seq.{sets}
use borrow.Author.Tests.{not-true}
use Rattle.net.specs.Tests.{pick}
use Rattle.net.specs.Checks.{Check, check, clear, first}
use Rattle.net.proofs.Tests.{and_l, and_r}
use Rattle.net.proofs.Tables.{length-table}
use Rattle.net.proofs.Checks.{clear-append}
use Rattle.sheet.specs.Checks.{sheet_checks}
use Rattle.sheet.proofs.Accepted.{promised}
use Rattle.text.proofs.Writes.{sets-front}
use Rattle.tally.specs.declared.Tally.{Tally}
use Rattle.command_list.specs.Commands.{how_many, command_at, commands_in}
use Rattle.command_list.specs.Block.{unfit_for}
use Rattle.session.specs.Records.{sound_for}
use Rattle.session.specs.Commands.{Result, command_of}
use Rattle.session.specs.Runs.{Session, run_of}
use Rattle.session.specs.Lists.{words_of, values_of, ran_of}
use Rattle.session.specs.Block.{block_checks, Handed, ran_block, turned_away, not_run, block_of}
use Rattle.session.specs.declared.Record.{Record}
use Rattle.session.proofs.Turns.{run_length}
use Rattle.session.proofs.Blocks.{room}
use Rattle.claims.specs.Blocks.{AsSingly, Blocks}
use Rattle.claims.proofs.Records.{soundness}

once : (s : List ℕ) → clear (sheet_checks s) ≡ true → (cs : List (List ℕ)) (r : Record) (t : Tally) → sound_for s r ≡ true → (i : ℕ) → sound_for s (run_of s (take i cs) r t).session ≡ true
once s a [] r t h zero = h
once s a [] r t h (suc i) = h
once s a (c ∷ cs) r t h zero = h
once s a (c ∷ cs) r t h (suc i) =
    let P = promised s a in
    let y : Result = command_of s r t c in
    once s a cs y.outcome.session y.tally ((soundness s a P.rule).stays r t c h) i

module _ (s : List ℕ) (r : Record) (t : Tally) (b words values : List ℕ) where
  abbrev all-checks : List Check
  all-checks = block_checks s r b (length words) (length values)

  abbrev ran : Session
  ran = run_of s (commands_in b) r t

  by_first : (a : Bool) → clear all-checks ≡ a → block_of s r t b words values ≡ pick a (ran_block (how_many b) words values ran) (not_run (turned_away r (first all-checks) t) words values)
  unfolding block_of ran_of
  by_first a e = ap (λ (x : Bool). pick x (ran_block (how_many b) words values ran) (not_run (turned_away r (first all-checks) t) words values)) e

  -- 26 does not hold, so the lists have room
  fits : clear all-checks ≡ true → unfit_for b (length words) (length values) ≡ false
  fits h =
      let u : Bool = unfit_for b (length words) (length values) in
      let own : List Check = check 10 (not (sound_for s r)) ∷ check 26 u ∷ [] in
      let k : (not (not (sound_for s r)) && (not u && true)) ≡ true = and_r (clear (sheet_checks s)) (clear own) (sym (clear-append (sheet_checks s) own) ∙ h) in
      not-true u (and_l (not u) true (and_r (not (not (sound_for s r))) (not u && true) k))

  many : length ran.answers ≡ how_many b
  many = run_length s (commands_in b) r t ∙ length-table (how_many b) (command_at b)

  -- a list of numbers, one for each answer, and what was there
  front : (ns l : List ℕ) → length ns ≡ how_many b → how_many b ≤ length l → sets l 0 ns ≡ ns ++ drop (how_many b) l
  front ns l e h = sets-front ns l (let q : length ns ≤ length l = omega arith in q) ∙ ap (λ (k : ℕ). ns ++ drop k l) e

  as-singly : clear all-checks ≡ true → AsSingly ran (how_many b) words values (block_of s r t b words values)
  as-singly h =
      let e : block_of s r t b words values ≡ ran_block (how_many b) words values ran = by_first true h in
      let q = room b (length words) (length values) (fits h) in
      record {
        answer = ap (λ (y : Handed). y.outcome.answer) e;
        count = ap (λ (y : Handed). y.outcome.count) e;
        one_each = many;
        session = ap (λ (y : Handed). y.outcome.session) e;
        tally = ap (λ (y : Handed). y.tally) e;
        words_are = ap (λ (y : Handed). y.words) e ∙ front (words_of ran) words (length-map ran.answers _ ∙ many) q.0;
        values_are = ap (λ (y : Handed). y.values) e ∙ front (values_of ran) values (length-map ran.answers _ ∙ many) q.1;
      }

  pub blocks : Blocks s r t b words values
  blocks = record { once = λ a h. once s a (commands_in b) r t h; singly = as-singly; away = λ h. by_first false h }
