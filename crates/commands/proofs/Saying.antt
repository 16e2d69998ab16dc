-- What an answer says: no two answers say the same.
-- Assumes nothing.
use mathlib.Core.Path.{◌≡◌, refl}
use Prim.Native.Nat.{ℕ, ◌<◌}
use Rattle.net.specs.Journal.{Answer, fired, undone, refused}
use Rattle.net.specs.declared.Key.{Key}
use Rattle.commands.specs.declared.Answer as S
use Rattle.commands.specs.Answers.{answer_of, key_of, word_of, value_of, value_bound, heard_of}

pub heard-back : (a : Answer) → heard_of (word_of (answer_of a)) (value_of (answer_of a) (key_of a)) ≡ a
heard-back (fired k) = refl
heard-back (undone k) = refl
heard-back (refused n) = refl

-- what is said of an answer that is x
pub value-said : (a x : S.Answer) (k : Key) (v : ℕ) → a ≡ x → v ≡ value_of x k → v < value_bound x → (v ≡ value_of a k) × (v < value_bound a)
value-said a x k v e h l = rw e (h, l)
