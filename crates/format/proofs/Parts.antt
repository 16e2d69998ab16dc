-- Laws of the parts that a sheet's pairs name: what a read of the part gives, where it lies in the sheet and where it does not.
-- Assumes nothing.
use Rattle.std.proofs.Common.{◌≡◌, ℕ, ◌+◌, ◌-◌, ◌<◌, ◌≤◌, ◌⊎◌, List, [], length, arith, slice_range, Option, Some, None, MatchOption, unwrap_or, Bor, inl, inr, ap, ◌∙◌}
use borrow.Author.Tests.{le-leb, lt-leb}
use Rattle.format.specs.Parts.{offset_of, length_of, part_of}

module _ (s : List ℕ) (k a b : ℕ) (ea : a ≡ offset_of s k) (eb : b ≡ length_of s k) where
  found : a + b ≤ length s → slice_range s a (a + b) ≡ part_of s k
  unfolding part_of
  found h =
      let e : a + b - a ≡ b = omega arith in
      rw (e, ← ea, ← eb, le-leb (a + b) (length s) h)

  missing : length s < a + b → [] ≡ part_of s k
  unfolding part_of
  missing h = rw (← ea, ← eb, lt-leb (a + b) (length s) h)

  pub part_read : (o : Option (Bor (List ℕ))) (d : Bor (List ℕ)) → d.now ≡ []
      → MatchOption o ((a + b < a) ⊎ (length s < a + b)) (λ x. (a ≤ a + b) × (a + b ≤ length s) × (x.now ≡ slice_range s a (a + b)) × (length x.now + a ≡ a + b))
      → (r : Bor (List ℕ)) → r ≡ unwrap_or o d → r.now ≡ part_of s k
  part_read None d n (inl h) r e = absurd (omega arith)
  part_read None d n (inr h) r e = ap (λ (x : Bor (List ℕ)). x.now) e ∙ (n ∙ missing h)
  part_read (Some x) d n h r e = ap (λ (y : Bor (List ℕ)). y.now) e ∙ (h.2 ∙ found h.1)
