-- Laws of a loop that looks for zeros, or for no flag.
-- Assumes nothing.
use mathlib.Core.Path.{◌≡◌, sym}
use mathlib.Core.Bool.{Bool, ◌&&◌, and_assoc, and-true}
use mathlib.Core.List.{List}
use Prim.Native.Nat.{ℕ, suc, ◌+◌, ◌<◌, ◌≤◌}
use native.Mathlib.Numerals.{add-one}
use lib.Dec.{leb}
use lib.ListN.{length, get_or, drop, drop_of_length-le}
use lib.Seq.{drop-cons}
use Rattle.net.specs.Limits.{max_bonds}
use Rattle.net.specs.Tests.{all}
use Rattle.marking.specs.declared.Marking.{Marking}
use Rattle.marking.specs.Form.{zero_from, in_form}

-- one turn of a loop that tests what is left of a list, and its end
module _ {X : Type 0} (t : X → Bool) where
  pub rest-turn : (l : List X) (i : ℕ) (d : X) (b : Bool) → i < length l → (b && all t (drop i l)) ≡ ((b && t (get_or l i d)) && all t (drop (i + 1) l))
  rest-turn l i d b h = rw (add-one i, drop-cons l i d h) (sym (and_assoc b (t (get_or l i d)) (all t (drop (suc i) l))))

  pub rest_end : (l : List X) (i : ℕ) (b : Bool) → length l ≤ i → (b && all t (drop i l)) ≡ b
  rest_end l i b h = rw (drop_of_length-le l h) (and-true b)

-- the test of the form, from its parts
pub form-test : (n : ℕ) (m : Marking) (x y z : Bool) → x ≡ zero_from m.count m.lo → y ≡ zero_from m.count m.hi → z ≡ zero_from n m.places
    → (leb m.count max_bonds && (x && (y && z))) ≡ in_form n m
form-test n m x y z p q r = rw (p, q, r)
