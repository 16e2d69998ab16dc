-- Starting a session: one law for each return.
-- Assumes nothing.
use mathlib.Core.Path.{◌≡◌, sym, ◌∙◌, ap, subst}
use mathlib.Core.Bool.{Bool, true, false}
use mathlib.Core.List.{List, []}
use Prim.Native.Nat.{ℕ}
use lib.ListN.{replicate}
use Rattle.net.specs.Limits.{max_bases, max_bonds}
use Rattle.net.specs.Tests.{pick}
use Rattle.net.specs.Checks.{clear, first}
use Rattle.net.specs.Journal.{key}
use Rattle.format.specs.NetOf.{start_marking, net_of}
use Rattle.sheet.specs.Checks.{sheet_checks}
use Rattle.marking.specs.Form.{laid}
use Rattle.marking.specs.declared.Marking.{Marking}
use Rattle.firings.specs.Lines.{firings_of}
use Rattle.firings.specs.declared.Firings.{Firings}
use Rattle.session.specs.Records.{record_of, Sound}
use Rattle.session.specs.Commands.{fresh_of, zero_record, start_of}
use Rattle.session.specs.declared.Record.{Record}
use Rattle.session.specs.declared.Start.{Start}
use Rattle.session.proofs.Begins.{fresh-sound}
use Rattle.net.specs.declared.Verdict.TheVariants.{Accepted, Refused}
use Rattle.sound.proofs.Refusing.{sheet-clear, sheet-held}

-- zeros in every array
pub zeros : (f : Firings) → f ≡ firings_of []
    → record { marking = record { places = replicate max_bases 0; count = 0; lo = replicate max_bonds 0; hi = replicate max_bonds 0 }; firings = f; movers = replicate max_bases 0; given = key 0 } ≡ zero_record
unfolding zero_record record_of
zeros f e = λ i. record { marking = record { places = replicate max_bases 0; count = 0; lo = replicate max_bonds 0; hi = replicate max_bonds 0 }; firings = e i; movers = replicate max_bases 0; given = key 0 }

module _ (s : List ℕ) (n : ℕ) (e : n ≡ first (sheet_checks s)) where
  pub refused : (r : Record) → (n ≡ 0 → ⊥) → r ≡ zero_record → record { answer = Refused n; session = r } ≡ start_of s
  unfolding start_of
  refused r h z =
      let q : clear (sheet_checks s) ≡ false = sheet-held s n e h in
      (λ i. record { answer = Refused (e i); session = z i }) ∙ sym (ap (λ (b : Bool). pick {X = Start} b (record { answer = Accepted; session = fresh_of s }) (record { answer = Refused (first (sheet_checks s)); session = zero_record })) q)

  pub started : (m : Marking) (f : Firings) → n ≡ 0 → m ≡ laid (start_marking s) → f ≡ firings_of [] → record { answer = Accepted; session = record { marking = m; firings = f; movers = replicate max_bases 0; given = key 0 } } ≡ start_of s
  unfolding start_of fresh_of record_of net_of
  started m f h em ef =
      (λ i. record { answer = Accepted; session = record { marking = em i; firings = ef i; movers = replicate max_bases 0; given = key 0 } })
      ∙ sym (ap (λ (b : Bool). pick {X = Start} b (record { answer = Accepted; session = fresh_of s }) (record { answer = Refused (first (sheet_checks s)); session = zero_record })) (sheet-clear s n e h))

-- a session that is started has a sound record
pub started-sound : (s : List ℕ) (x : Start) → x ≡ start_of s → clear (sheet_checks s) ≡ true → Sound s x.session
unfolding start_of
started-sound s x e accepted =
    let fresh : (start_of s).session ≡ fresh_of s =
    ap (λ (b : Bool). (pick {X = Start} b (record { answer = Accepted; session = fresh_of s }) (record { answer = Refused (first (sheet_checks s)); session = zero_record })).session) accepted in
    subst (Sound s) (sym (ap (λ (y : Start). y.session) e ∙ fresh)) (fresh-sound s accepted)
