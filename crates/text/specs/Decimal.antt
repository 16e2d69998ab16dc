-- Numbers as text, in decimal (01, the exam program).
-- Definitions only.
use Rattle.std.specs.Prelude.{ℕ, zero, suc, ◌+◌, ◌/◌, ◌%◌, List, [], ◌∷◌, ◌++◌, ltb}
use Rattle.net.specs.Tests.{pick}

-- n in decimal with no zero in front, where it has at most k digits; of a longer number the last k digits
abbrev pub digits : ℕ → ℕ → List ℕ
digits zero n = []
digits (suc k) n = pick (ltb n 10) ((48 + n) ∷ []) (digits k (n / 10) ++ ((48 + n % 10) ∷ []))

-- a number of at most ten digits, as every number of 32 bits is
unfoldable pub decimal : ℕ → List ℕ
decimal n = digits 10 n
