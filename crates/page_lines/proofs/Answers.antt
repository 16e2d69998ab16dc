-- Laws of the answer to a page: where no refusal holds, and where one does.
-- Assumes nothing.
use mathlib.Core.Path.{◌≡◌, refl, sym, ◌∙◌}
use mathlib.Core.Bool.{Bool, true, false, not}
use mathlib.Core.List.{List, [], ◌∷◌}
use Prim.Native.Nat.{ℕ, ◌<◌, ◌≤◌}
use native.Mathlib.Omega.{arith}
use lib.Dec.{ltb, leb}
use lib.ListN.{length}
use lib.Seq.{sets}
use borrow.Author.Tests.{ltb-false, leb-true, not-false}
use Rattle.net.specs.Limits.{max_live}
use Rattle.net.specs.Checks.{Check, check, clear, first}
use Rattle.net.proofs.Tests.{and_l}
use Rattle.page_lines.specs.Page.{Row, page_bytes, page_text}
use Rattle.page_lines.specs.Answers.{pages_of, is_page, page_checks, page_answer, written_if, Laid}
use Rattle.net.specs.declared.Verdict.TheVariants.{Accepted, Refused}

-- three tests with numbers other than 0
abbrev three : Bool → Bool → Bool → List Check
three a b d = check 23 a ∷ check 24 b ∷ check 25 d ∷ []

none-holds : (a b d : Bool) → first (three a b d) ≡ 0 → (a ≡ false) × (b ≡ false) × (d ≡ false)
none-holds true b d e = absurd (let z : ⊥ = omega (arith, e) in z)
none-holds false true d e = absurd (let z : ⊥ = omega (arith, e) in z)
none-holds false false true e = absurd (let z : ⊥ = omega (arith, e) in z)
none-holds false false false e = (refl, refl, refl)

pub none-clear : (a b d : Bool) → first (three a b d) ≡ 0 → clear (three a b d) ≡ true
none-clear a b d e = let h = none-holds a b d e in rw (h.0, h.1, h.2)

pub one_holds : (a b d : Bool) → (first (three a b d) ≡ 0 → ⊥) → clear (three a b d) ≡ false
one_holds true b d h = refl
one_holds false true d h = refl
one_holds false false true h = refl
one_holds false false false h = absurd (h refl)

-- what a page that is not refused has: room, a list that is not too long, a number from 1 on
pub page-room : (room n k : ℕ) → first (page_checks room n k) ≡ 0 → (page_bytes ≤ room) × (n ≤ max_live) × (0 < k)
page-room room n k e =
    let h = none-holds (ltb room page_bytes) (ltb max_live n) (not (is_page n k)) e in
    let g = leb-true 1 k (and_l (leb 1 k) (leb k (pages_of n)) (not-false _ h.2)) in
    (ltb-false room page_bytes h.0, ltb-false max_live n h.1, omega arith)

pub laid-refused : (rs : List Row) (n k : ℕ) (b : List ℕ) (m : ℕ) → m ≡ first (page_checks (length b) n k) → (m ≡ 0 → ⊥) → Laid rs n k b (Refused m) b
unfolding page_answer written_if
laid-refused rs n k b m e h =
    let o = one_holds (ltb (length b) page_bytes) (ltb max_live n) (not (is_page n k)) (λ z. h (e ∙ z)) in
    (rw (o, e), rw o, e)

pub laid-printed : (rs : List Row) (n k : ℕ) (b b' : List ℕ) (m : ℕ) → m ≡ first (page_checks (length b) n k) → m ≡ 0 → b' ≡ sets b 0 (page_text rs k) → Laid rs n k b Accepted b'
unfolding page_answer written_if
laid-printed rs n k b b' m e h w =
    let o = none-clear (ltb (length b) page_bytes) (ltb max_live n) (not (is_page n k)) (sym e ∙ h) in
    (rw o, w ∙ rw o, sym h ∙ e)
