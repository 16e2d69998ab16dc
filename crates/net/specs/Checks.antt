-- Refusals in checking order (01, the turned-away list): a list of numbered tests, and the first that holds.
-- Definitions only.
use Rattle.std.specs.Prelude.{Bool, not, List, [], ◌∷◌, map, ℕ}
use Rattle.net.specs.Tests.{pick, all}
use Rattle.net.specs.declared.Verdict.{Verdict}
use Rattle.net.specs.declared.Verdict.TheVariants.{Accepted, Refused}

-- A refusal: its number, and whether its condition holds.
pub record Check : Type 0 where
  pub number : ℕ
  pub holds : Bool

abbrev pub check : ℕ → Bool → Check
check k b = record { number = k; holds = b }

-- none holds
abbrev pub clear : List Check → Bool
clear cs = all (λ (c : Check). not c.holds) cs

-- the number of the first that holds; 0 where none does
abbrev pub first : List Check → ℕ
first [] = 0
first (c ∷ cs) = pick c.holds c.number (first cs)

abbrev pub numbers : List Check → List ℕ
numbers cs = map (λ (c : Check). c.number) cs

-- The papers' number of each answer that is an acceptance or a refusal; 0 for an acceptance (01, questions the contracts settle:
-- answers that are enums).
abbrev pub verdict_number : Verdict → ℕ
verdict_number Accepted = 0
verdict_number (Refused n) = n
