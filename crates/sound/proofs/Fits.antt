-- What a session holds lies in a record whole: read back it is the same, and the record passes 1 to 10.
-- Assumes an accepted sheet, or that the net meets the sheet's rules and has no more bases than the limit.
use mathlib.Core.Path.{◌≡◌, sym, ◌∙◌, ap}
use mathlib.Core.Logic.{inl, inr}
use mathlib.Core.Bool.{true}
use mathlib.Core.List.{List, [], ◌∷◌}
use Prim.Native.Nat.{ℕ, ◌≤◌, ◌*◌, ◌-◌}
use native.Mathlib.Omega.{arith}
use native.Mathlib.Nat.{mul-le-mul}
use lib.ListN.{length}
use borrow.Author.Tests.{le-leb}
use Rattle.causal.specs.Lists.{Mem}
use Rattle.causal.specs.Runs.{Run}
use Rattle.net.specs.Limits.{max_bases, max_bonds, max_live}
use Rattle.net.specs.Net as Net
use Rattle.net.specs.Net.{Net, arcs_of}
use Rattle.net.specs.Rules.{net_rule}
use Rattle.net.specs.Firing.{moves, Fires}
use Rattle.net.specs.Checks.{clear}
use Rattle.net.specs.Journal.{LiveLine, Journal}
use Rattle.net.specs.History.{sound}
use Rattle.net.proofs.Tests.{and_i}
use Rattle.net.proofs.Tables.{length-table}
use Rattle.net.proofs.Journal.{Held}
use Rattle.net.proofs.History.{held-sound}
use Rattle.net.proofs.Totals.{held-totals}
use Rattle.net.proofs.Pairs.{few-bonds}
use Rattle.format.specs.Parts.{bases_of}
use Rattle.format.specs.NetOf.{net_of}
use Rattle.sheet.specs.Checks.{sheet_checks}
use Rattle.sheet.proofs.Accepted.{promised}
use Rattle.marking.specs.Form.{laid}
use Rattle.marking.proofs.Forms.{marking-laid, laid-in-form}
use Rattle.firings.specs.Lines.{firings_of}
use Rattle.movers.specs.Lamp.{last_movers}
use Rattle.firings.proofs.Laid.{lines-back, lines-used, lines-unused}
use Rattle.sound.specs.Soundness.{journal_in, formed, sound_in, Passed, Kept}

-- What a journal has to be to lie in a record whole.
pub record FitsRecord (n : ℕ) (j : Journal) : Type 0 where
  pub places : length j.marking.places ≡ n
  pub bonds : length j.marking.bonds ≤ max_bonds
  pub lines : length j.lines ≤ max_live
  pub flags : (l : LiveLine) → Mem l j.lines → length l.moved ≡ n

module _ (n : ℕ) (j : Journal) (F : FitsRecord n j) where
  journal-back : journal_in n (laid j.marking) (firings_of j.lines) j.given ≡ j
  journal-back = λ i. record { marking = marking-laid j.marking n F.places i; lines = lines-back n j.lines F.flags i; given = j.given }

  record-form : formed n (laid j.marking) (firings_of j.lines) ≡ true
  record-form =
      rw (
        laid-in-form j.marking n F.places F.bonds,
        le-leb (length j.lines) max_live F.lines,
        lines-used n j.lines F.flags F.lines,
        lines-unused n j.lines F.flags,
      )

-- ---- a session's journal

-- each line of a run has a flag for each base
pub run-flags : (net : Net) (ls : List LiveLine) (a z : Net.Marking) → Run (Fires net) a ls z → (l : LiveLine) → Mem l ls → length l.moved ≡ net.bases
run-flags net [] a z r l m = absurd m
run-flags net (k ∷ ls) a z r l (inl e) = ap (λ (x : LiveLine). length x.moved) e ∙ ap length r.1.moves_m ∙ length-table net.bases (moves a.bonds (arcs_of net k.transition).entries)
run-flags net (k ∷ ls) a z r l (inr m) = run-flags net ls r.0 z r.2 l m

held_fits : (net : Net) → net_rule net ≡ true → net.bases ≤ max_bases → (j : Journal) → Held net j → FitsRecord net.bases j
held_fits net ok few j H =
    let good = (held-totals net ok j H).good in
    let pairs = few-bonds net j.marking good in
    let less : net.bases - 1 ≤ max_bases - 1 = omega arith in
    let most : net.bases * (net.bases - 1) ≤ max_bases * (max_bases - 1) = mul-le-mul few less in
    record { places = good.size; bonds = omega arith; lines = H.few; flags = run-flags net j.lines net.start j.marking H.run }

module _ (s : List ℕ) (accepted : clear (sheet_checks s) ≡ true) (j : Journal) (H : Held (net_of s) j) where
  fits : FitsRecord (bases_of s) j
  unfolding net_of
  fits = let P = promised s accepted in held_fits (net_of s) P.rule P.bases.1 j H

  pub held_back : journal_in (bases_of s) (laid j.marking) (firings_of j.lines) j.given ≡ j
  held_back = journal-back (bases_of s) j fits

  pub held-passed : Passed s (laid j.marking) (firings_of j.lines) j.given
  unfolding sound_in
  held-passed = record {
    accepted = accepted;
    sound = and_i (formed (bases_of s) (laid j.marking) (firings_of j.lines)) (sound (net_of s) (journal_in (bases_of s) (laid j.marking) (firings_of j.lines) j.given))
        (record-form (bases_of s) j fits) (ap (sound (net_of s)) held_back ∙ held-sound (net_of s) j H);
    laid_out = (ap (λ (x : Journal). laid x.marking) (sym held_back), ap (λ (x : Journal). firings_of x.lines) (sym held_back));
  }

  -- and the table of its lines is the record's
  pub held_kept : Kept s (laid j.marking) (firings_of j.lines) j.given (last_movers max_bases j.lines)
  held_kept = record { passed = held-passed; movers = ap (λ (x : Journal). last_movers max_bases x.lines) (sym held_back) }
