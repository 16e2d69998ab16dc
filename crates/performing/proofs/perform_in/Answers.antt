-- `performing::perform_in`: the answers to the goals that the check leaves.
use borrow.Author.Tests.{lt-ltb, le-ltb}
use mathlib.Core.Path.{refl, ap, sym, ◌∙◌}
use Rattle.format.specs.Parts.{bases_of}
use Rattle.format.specs.NetOf.{net_of}
use Rattle.sound.specs.Soundness.{journal_in}
use Rattle.commands.specs.Doing.{undo_act}
use Rattle.acting.proofs.Refuses.{did-by, refused_did}
use Rattle.sound.proofs.Given.{last-given}
use Rattle.sound.proofs.Holds.{held, live-few}
use Rattle.performing.proofs.Performing.{cut, unread, given as commanded}
use Rattle.performing.proofs.perform_in.Goals as goal

pub returns-then-bytes-lt3 : goal.returns-then-bytes-lt3
returns-then-bytes-lt3 c =
    rw c.refused_in.ensures record {
      did = refused_did c.args.sheet.now c.args.m.now c.args.f.now c.args.given c.args.movers.now c.requires.0 _ 21 (cut (net_of c.args.sheet.now) (journal_in (bases_of c.args.sheet.now) c.args.m.now c.args.f.now c.args.given) c.args.bytes.now (lt-ltb _ _ c.if-bytes-lt3.true)) _ refl;
      labelled = c.requires.1;
    }

pub returns-in_default : goal.returns-in_default
returns-in_default c =
    rw c.refused_in-in_default.ensures record {
      did = refused_did c.args.sheet.now c.args.m.now c.args.f.now c.args.given c.args.movers.now c.requires.0 _ 11 (unread (net_of c.args.sheet.now) (journal_in (bases_of c.args.sheet.now) c.args.m.now c.args.f.now c.args.given) c.args.bytes.now (le-ltb _ _ c.if-bytes-lt3.false) _ c.in_default.is c.decode.ensures) _ refl;
      labelled = c.requires.1;
    }

pub last_key-k-requires : goal.last_key-k-requires
last_key-k-requires c = live-few c.args.sheet.now c.args.m.now c.args.f.now c.args.given c.requires.0.passed

pub returns-in-Fire : goal.returns-in-Fire
returns-in-Fire c =
    record {
      did = did-by _ _ (commanded (net_of c.args.sheet.now) (journal_in (bases_of c.args.sheet.now) c.args.m.now c.args.f.now c.args.given) c.args.bytes.now (le-ltb _ _ c.if-bytes-lt3.false) _ _ _ c.in-Some.is c.decode.ensures c.in-Fire.is) _ _ _ _ c.fire_in.ensures.did;
      labelled = c.fire_in.ensures.labelled;
    }

pub returns-in-Undo : goal.returns-in-Undo
returns-in-Undo c =
    record {
      did = did-by _ _ (commanded (net_of c.args.sheet.now) (journal_in (bases_of c.args.sheet.now) c.args.m.now c.args.f.now c.args.given) c.args.bytes.now (le-ltb _ _ c.if-bytes-lt3.false) _ _ _ c.in-Some.is c.decode.ensures c.in-Undo.is) _ _ _ _ c.undo_in.ensures.did;
      labelled = c.undo_in.ensures.labelled;
    }

pub returns-in-UndoLast : goal.returns-in-UndoLast
returns-in-UndoLast c =
    let last = c.last_key-k.ensures ∙ last-given (bases_of c.args.sheet.now) c.args.f.now (held c.args.sheet.now c.args.m.now c.args.f.now c.args.given c.requires.0.passed).up in
    let same = commanded (net_of c.args.sheet.now) (journal_in (bases_of c.args.sheet.now) c.args.m.now c.args.f.now c.args.given) c.args.bytes.now (le-ltb _ _ c.if-bytes-lt3.false) _ _ _ c.in-Some.is c.decode.ensures c.in-UndoLast.is in
    record {
      did = did-by _ _ (same ∙ ap (undo_act (net_of c.args.sheet.now) (journal_in (bases_of c.args.sheet.now) c.args.m.now c.args.f.now c.args.given)) (sym last)) _ _ _ _ c.undo_in-in-UndoLast.ensures.did;
      labelled = c.undo_in-in-UndoLast.ensures.labelled;
    }
