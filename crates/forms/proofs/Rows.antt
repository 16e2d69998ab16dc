-- Laws of the loop that holds a line to a form, item by item.
-- Assumes nothing.
use mathlib.Core.Path.{◌≡◌, refl, sym, ap, ◌∙◌}
use mathlib.Core.Bool.{Bool, true, false, ◌&&◌}
use Prim.Native.Nat.{ℕ, zero, suc, ◌-◌, ◌<◌}
use native.Mathlib.Omega.{arith}
use mathlib.Core.List.{List, [], ◌∷◌}
use lib.ListN.{get_or, drop}
use lib.Dec.{eqb}
use lib.Pointwise.{pointwise}
use Rattle.std.specs.List.{slice_range}
use Rattle.lexing.proofs.Scans.{slice_range-slice}
use Rattle.net.specs.Tests.{pick, same_list}
use Rattle.lexing.specs.Tokens.{Token, next_of, closes, row}
use Rattle.lexing.specs.Found.{token_of, Stands}
use Rattle.lexing.specs.declared.Kind.{Kind}
use Rattle.lexing.specs.declared.Kind.TheVariants.{Word, Number, Line, End, Wrong}
use Rattle.lexing.specs.declared.Piece.{Piece}
use Rattle.forms.specs.Forms.{closes_kind, suits, Lies, fits, numbers, number_kind, value_kind}

pub closes-token : (s : List ℕ) (a b : ℕ) (k : Kind) → closes (token_of s a b k) ≡ closes_kind k
closes-token s a b Word = refl
closes-token s a b (Number n) = refl
closes-token s a b Line = refl
closes-token s a b End = refl
closes-token s a b Wrong = refl

-- the token of a piece that stands at the beginning of s
abbrev tok : List ℕ → Piece → Token
tok s p = token_of s p.from p.to p.kind

-- ---- two words

pointwise-same : (xs ys : List ℕ) → pointwise eqb xs ys ≡ same_list eqb xs ys
pointwise-same [] [] = refl
pointwise-same [] (y ∷ ys) = refl
pointwise-same (x ∷ xs) [] = refl
pointwise-same (x ∷ xs) (y ∷ ys) = ap (λ (b : Bool). eqb x y && b) (pointwise-same xs ys)

pub suits-words : (f s : List ℕ) (q p : Piece) → Lies f q → Lies s p → q.kind ≡ Word → p.kind ≡ Word
    → pointwise eqb (slice_range f q.from q.to) (slice_range s p.from p.to) ≡ suits (tok f q) (tok s p)
suits-words f s q p lq lp eq ep =
    rw (eq, ep) (pointwise-same (slice_range f q.from q.to) (slice_range s p.from p.to)
    ∙ rw (slice_range-slice f q.from q.to lq.0, slice_range-slice s p.from p.to lp.0))

-- a row from there on
row_step : (s r : List ℕ) (p : Piece) (n : ℕ) → Stands s p (next_of r) → row (suc n) r ≡ pick (closes_kind p.kind) [] (tok s p ∷ row n (drop p.to s))
row_step s r p n d = rw (← d.token, ← d.rest, closes-token s p.from p.to p.kind)

module _ (f s : List ℕ) (g r : List ℕ) (q p : Piece) (dq : Stands f q (next_of g)) (dp : Stands s p (next_of r)) where
  pub form-over : (n : ℕ) → 0 < n → closes_kind q.kind ≡ true → (b : Bool) → b ≡ closes_kind p.kind → b ≡ fits (row n g) (row n r)
  form-over zero h e b d = absurd (let z : ⊥ = omega arith in z)
  form-over (suc n) h e b d = rw (row_step f g q n dq, row_step s r p n dp, e, ← d) (go b)
    where
      go : (c : Bool) → c ≡ fits [] (pick c [] (tok s p ∷ row n (drop p.to s)))
      go true = refl
      go false = refl

  pub line-over : (n : ℕ) → 0 < n → closes_kind q.kind ≡ false → closes_kind p.kind ≡ true → false ≡ fits (row n g) (row n r)
  line-over zero h e d = absurd (let z : ⊥ = omega arith in z)
  line-over (suc n) h e d = rw (row_step f g q n dq, row_step s r p n dp, e, d)

  pub not-suited : (n : ℕ) → 0 < n → closes_kind q.kind ≡ false → closes_kind p.kind ≡ false → (b : Bool) → b ≡ suits (tok f q) (tok s p) → b ≡ false
      → false ≡ fits (row n g) (row n r)
  not-suited zero h e d b u v = absurd (let z : ⊥ = omega arith in z)
  not-suited (suc n) h e d b u v = rw (row_step f g q n dq, row_step s r p n dp, e, d, sym u ∙ v)

  pub suited : (n : ℕ) → 0 < n → closes_kind q.kind ≡ false → closes_kind p.kind ≡ false → (b : Bool) → b ≡ suits (tok f q) (tok s p) → b ≡ true
      → fits (row (n - 1) (drop q.to f)) (row (n - 1) (drop p.to s)) ≡ fits (row n g) (row n r)
  suited zero h e d b u v = absurd (let z : ⊥ = omega arith in z)
  suited (suc n) h e d b u v =
      let m : suc n - 1 ≡ n = omega arith in
      rw (row_step f g q n dq, row_step s r p n dp, e, d, sym u ∙ v, m)

-- ---- the numbers of a row

numbers-cons : (s : List ℕ) (a b : ℕ) (k : Kind) (ts : List Token) → numbers (token_of s a b k ∷ ts) ≡ pick (number_kind k) (value_kind k ∷ numbers ts) (numbers ts)
numbers-cons s a b Word ts = refl
numbers-cons s a b (Number n) ts = refl
numbers-cons s a b Line ts = refl
numbers-cons s a b End ts = refl
numbers-cons s a b Wrong ts = refl

-- an item that is no number and does not close the line
pub record IsOther (k : Kind) : Type 0 where
  pub no_number : (m : ℕ) → k ≡ Number m → ⊥
  pub no_line : k ≡ Line → ⊥
  pub no_end : k ≡ End → ⊥

other : {k : Kind} → IsOther k → (closes_kind k ≡ false) × (number_kind k ≡ false)
other {k = Word} o = (refl, refl)
other {k = Number n} o = absurd (o.no_number n refl)
other {k = Line} o = absurd (o.no_line refl)
other {k = End} o = absurd (o.no_end refl)
other {k = Wrong} o = (refl, refl)

module _ (s r : List ℕ) (p : Piece) (d : Stands s p (next_of r)) where
  pub skip-number : (n k m : ℕ) → 0 < n → p.kind ≡ Number m → (k ≡ 0 → ⊥) → (j : ℕ) → j ≡ k - 1
      → get_or (numbers (row (n - 1) (drop p.to s))) j 0 ≡ get_or (numbers (row n r)) k 0
  skip-number zero k m h e u j i = absurd (let z : ⊥ = omega arith in z)
  skip-number (suc n) zero m h e u j i = absurd (u refl)
  skip-number (suc n) (suc k) m h e u j i =
      let a : suc n - 1 ≡ n = omega arith in
      let b : suc k - 1 ≡ k = omega arith in
      rw (row_step s r p n d, e, a, i, b)

  pub skip-other : (n k : ℕ) → 0 < n → IsOther p.kind → (j : ℕ) → j ≡ k
      → get_or (numbers (row (n - 1) (drop p.to s))) j 0 ≡ get_or (numbers (row n r)) k 0
  skip-other zero k h o j i = absurd (let z : ⊥ = omega arith in z)
  skip-other (suc n) k h o j i =
      let a : suc n - 1 ≡ n = omega arith in
      rw (row_step s r p n d, (other o).0, numbers-cons s p.from p.to p.kind (row n (drop p.to s)), (other o).1, a, i)
