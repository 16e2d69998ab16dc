-- The answer to a page that is asked for (02, T-01): refusals 23 to 25 in their order, and what the buffer holds then.
-- Definitions only.
use Rattle.std.specs.Prelude.{◌≡◌, Bool, not, ◌&&◌, List, [], ◌∷◌, ℕ, ◌+◌, ◌/◌, ltb, leb, eqb, length}
use Rattle.std.proofs.lemmas.List.Edits.{sets}
use Rattle.net.specs.Limits.{max_live}
use Rattle.net.specs.Tests.{pick}
use Rattle.net.specs.Checks.{Check, check, clear, first, verdict_number}
use Rattle.page_lines.specs.Page.{Row, page_bytes, page_text}
use Rattle.net.specs.declared.Verdict.{Verdict}
use Rattle.net.specs.declared.Verdict.TheVariants.{Accepted, Refused}

-- how many pages a list of n firings has: 50 to a page; an empty list has one
abbrev pub pages_of : ℕ → ℕ
pages_of n = pick (eqb n 0) 1 ((n + 49) / 50)

-- k is the number of one of them
abbrev pub is_page : ℕ → ℕ → Bool
is_page n k = leb 1 k && leb k (pages_of n)

-- for a buffer of `room` bytes, a list of n firings and the page number k
abbrev pub page_checks : ℕ → ℕ → ℕ → List Check
page_checks room n k =
    check 23 (ltb room page_bytes)
    ∷ check 24 (ltb max_live n)
    ∷ check 25 (not (is_page n k))
    ∷ []

-- the answer: printed where no check holds, else refused with the number of the first that does
unfoldable pub page_answer : List Check → Verdict
page_answer cs = pick (clear cs) Accepted (Refused (first cs))

-- a text in a buffer from byte 0 on where no check holds; else nothing is written
unfoldable pub written_if : List Check → List ℕ → List ℕ → List ℕ
written_if cs t b = pick (clear cs) (sets b 0 t) b

-- Page k of the list rs was asked for, of n firings, into the buffer b: the answer a came, and b' is the buffer after.
abbrev pub Laid : List Row → ℕ → ℕ → List ℕ → Verdict → List ℕ → Type 0
Laid rs n k b a b' = (a ≡ page_answer (page_checks (length b) n k)) × (b' ≡ written_if (page_checks (length b) n k) (page_text rs k) b)
    × (verdict_number a ≡ first (page_checks (length b) n k))
