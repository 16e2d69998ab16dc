-- A part of the bytes: so many from a position on, or those that are left.
-- Assumes nothing.
use mathlib.Core.Path.{◌≡◌, sym, ◌∙◌, ap}
use mathlib.Core.List.{List}
use Prim.Native.Nat.{ℕ, ◌+◌, ◌-◌, ◌<◌, ◌≤◌}
use native.Mathlib.Omega.{arith}
use lib.ListN.{length, take, drop, length-drop, drop_of_length-le}
use lib.Seq.{take_all, take-nil}

pub cut-part : (b : List ℕ) (at most : ℕ) → length b - at < most → take (length b - at) (drop at b) ≡ take most (drop at b)
cut-part b at most h =
    let e : length (drop at b) ≡ length b - at = length-drop at b in
    let le : length (drop at b) ≤ length b - at = omega arith in
    let lo : length (drop at b) ≤ most = omega arith in
    take_all (length b - at) (drop at b) le ∙ sym (take_all most (drop at b) lo)

pub whole_part : (b : List ℕ) (at most : ℕ) → take (at + most - at) (drop at b) ≡ take most (drop at b)
whole_part b at most = let e : at + most - at ≡ most = omega arith in ap (λ (k : ℕ). take k (drop at b)) e

pub no_part : (b : List ℕ) (at most : ℕ) → length b ≤ at → take (length b - length b) (drop (length b) b) ≡ take most (drop at b)
no_part b at most h =
    let z : length b - length b ≡ 0 = omega arith in
    ap (λ (k : ℕ). take k (drop (length b) b)) z ∙ sym (ap (take most) (drop_of_length-le b h) ∙ take-nil most)
