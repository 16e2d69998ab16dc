-- What a record holds that passes 1 to 10: a journal as commands keep it, a good marking, live firings in their form.
-- Assumes nothing.
use mathlib.Core.Path.{◌≡◌, sym, ◌∙◌}
use mathlib.Core.Bool.{true}
use mathlib.Core.List.{List}
use Prim.Native.Nat.{ℕ, ◌≤◌}
use native.Mathlib.Omega.{arith}
use lib.ListN.{length}
use lib.Dec.{leb}
use Rattle.net.specs.Limits.{max_bases, max_live}
use Rattle.net.specs.Rules.{net_rule}
use Rattle.net.specs.Marking.{Good}
use Rattle.net.specs.Journal.{Journal}
use Rattle.net.specs.History.{lines_in_form, given_in_form, sound}
use Rattle.net.specs.declared.Key.{Key}
use Rattle.net.proofs.Tests.{and_l, and_r}
use Rattle.net.proofs.Tables.{length-table}
use Rattle.net.proofs.Journal.{Held}
use Rattle.net.proofs.History.{sound-held}
use Rattle.net.proofs.Totals.{held-totals}
use Rattle.format.specs.Parts.{bases_of}
use Rattle.format.specs.NetOf.{net_of}
use Rattle.sheet.proofs.Accepted.{promised}
use Rattle.marking.specs.declared.Marking.{Marking}
use Rattle.firings.specs.Lines.{firings_of}
use Rattle.firings.specs.Search.{keys_in}
use Rattle.firings.specs.Form.{climbs}
use Rattle.firings.specs.declared.Firings.{Firings}
use Rattle.firings.proofs.Keys.{keys-order}
use Rattle.firings.proofs.Laid.{Sized, sized_of}
use Rattle.steps.specs.Placed.{Placed}
use Rattle.sound.specs.Soundness.{journal_in, formed, sound_in, Passed}

module _ (s : List ℕ) (m : Marking) (f : Firings) (k : Key) where
  abbrev j : Journal
  j = journal_in (bases_of s) m f k

  -- of soundness alone
  pub history : sound_in s m f k ≡ true → sound (net_of s) j ≡ true
  unfolding sound_in
  history h = and_r (formed (bases_of s) m f) _ h

  pub sound-journal : sound_in s m f k ≡ true → Held (net_of s) j
  sound-journal h = sound-held (net_of s) j (history h)

  module _ (P : Passed s m f k) where
    pub rule : net_rule (net_of s) ≡ true
    rule = (promised s P.accepted).rule

    pub few : bases_of s ≤ max_bases
    few = (promised s P.accepted).bases.1

    pub held : Held (net_of s) j
    held = sound-journal P.sound

    pub marking-good : Good (net_of s) j.marking
    marking-good = (held-totals (net_of s) rule j held).good

    pub placed : Placed s m
    placed = record { accepted = P.accepted; form = P.laid_out.0; good = marking-good }

    pub live-is : f.live ≡ length j.lines
    live-is = sym (length-table f.live _)

    pub live-few : f.live ≤ max_live
    live-few = let e = live-is in let h = held.few in omega arith

    pub firings-are : f ≡ firings_of j.lines
    firings-are = P.laid_out.1

    -- the arrays have their full length
    pub firings-sized : Sized f
    firings-sized = rw firings-are (sized_of j.lines held.few)

    -- the live keys ascend
    pub keys-rise : climbs 0 (keys_in f.live f.keys) ≡ true
    keys-rise =
        let listed : lines_in_form j.lines ≡ true = and_l (lines_in_form j.lines) _ (and_l _ (given_in_form j) (history P.sound)) in
        keys-order (bases_of s) f ∙ and_r (leb (length j.lines) max_live) _ listed
