-- What was given is another reply that is the same; a refused command in place: the reply that changes nothing.
-- Assumes that what is lent passes 1 to 10.
use mathlib.Core.Path.{◌≡◌, refl, sym, subst}
use mathlib.Core.List.{List}
use Prim.Native.Nat.{ℕ}
use Rattle.net.specs.Journal.{Reply, refuse}
use Rattle.net.specs.declared.Key.{Key}
use Rattle.format.specs.Parts.{bases_of}
use Rattle.marking.specs.declared.Marking.{Marking}
use Rattle.firings.specs.declared.Firings.{Firings}
use Rattle.sound.specs.Soundness.{journal_in, Kept}
use Rattle.commands.specs.Doing.{Did, refused_in}
use Rattle.commands.specs.declared.Done.{Done}

pub did-by : (x y : Reply) → x ≡ y → (d : Done) (m : Marking) (f : Firings) (t : List ℕ) → Did y d m f t → Did x d m f t
did-by x y e d m f t = subst (λ (z : Reply). Did z d m f t) (sym e)

pub refused_did : (s : List ℕ) (m : Marking) (f : Firings) (g : Key) (t : List ℕ) → Kept s m f g t → (y : Reply) (n : ℕ) → y ≡ refuse (journal_in (bases_of s) m f g) n
    → (d : Done) → d ≡ refused_in n g → Did y d m f t
refused_did s m f g t K y n e d q =
    subst (λ (x : Done). Did y x m f t) (sym q)
    (did-by y (refuse (journal_in (bases_of s) m f g) n) e (refused_in n g) m f t
    (record { answer = refl; key = refl; marking = K.passed.laid_out.0; firings = K.passed.laid_out.1; movers = K.movers; given = refl }))
