-- The couplings that a sheet writes take up bytes of it, and no two the same bytes: so they are no more than its length gives (02, T-10).
-- Assumes that the pairs follow one another and that each transition has the length that its counts give.
use mathlib.Core.Path.{◌≡◌, subst}
use mathlib.Core.Bool.{true, false, not}
use mathlib.Core.List.{List}
use Prim.Native.Nat.{ℕ, zero, suc, ◌+◌, ◌*◌, ◌<◌, ◌≤◌}
use native.Mathlib.Omega.{arith}
use native.Mathlib.Nat.{le_trans}
use lib.Dec.{eqb, leb}
use lib.ListN.{length, drop, length-append, length-take}
use borrow.Author.Tests.{eqb-true, lt-ltb, not-false}
use Rattle.net.specs.Tests.{table}
use Rattle.net.specs.Net.{Arcs, arcs_bonds, all_bonds, written}
use Rattle.net.specs.Journal.{transition}
use Rattle.net.specs.declared.Transition.{Transition}
use Rattle.net.proofs.Tests.{and_r, or-no-l, pick-case}
use Rattle.net.proofs.Tables.{length-table}
use Rattle.format.specs.Bytes.{bond_width, leading_pairs}
use Rattle.format.specs.Parts.{transitions_of, pairs_of, offset_of, length_of, part_of, start_bonds, transition_bytes}
use Rattle.format.specs.Arcs.{in_count, out_count, nth_in_bond, nth_out_bond, arcs_width, arcs_in}
use Rattle.format.specs.NetOf.{start_bond_count, nth_start_bond, start_marking, net_of}
use Rattle.sheet_head.specs.Conditions.{parts_begin, follow}
use Rattle.sheet_arcs.specs.Conditions.{wrong_width}

-- a part is no longer than its pair says
part_length : (s : List ℕ) (k : ℕ) → length (part_of s k) ≤ length_of s k
unfolding part_of
part_length s k = pick-case (λ (b : List ℕ). length b ≤ length_of s k) (leb (offset_of s k + length_of s k) (length s)) _ _
    (λ _. let e = length-take (length_of s k) (drop (offset_of s k) s) in omega arith) (λ _. omega arith)

-- the bytes of a transition have its couplings in them
arcs-bytes : (b : List ℕ) → wrong_width b ≡ false → bond_width * length (arcs_bonds (arcs_in b)) ≤ length b
unfolding wrong_width
arcs-bytes b h =
    let w : length b ≡ arcs_width b = eqb-true (length b) (arcs_width b) (not-false _ (or-no-l (not (eqb (length b) (arcs_width b))) _ h)) in
    let i : length (arcs_in b).in_bonds ≡ in_count b = length-table (in_count b) (nth_in_bond b) in
    let o : length (arcs_in b).out_bonds ≡ out_count b = length-table (out_count b) (nth_out_bond b) in
    let e = length-append (arcs_in b).in_bonds (arcs_in b).out_bonds in
    omega arith

-- the start couplings lie in their part
start-bytes : (s : List ℕ) → bond_width * length (start_marking s).bonds ≤ length (start_bonds s)
start-bytes s = let e : length (start_marking s).bonds ≡ start_bond_count s = length-table (start_bond_count s) (nth_start_bond s) in omega arith

follow-next : (s : List ℕ) (at k n : ℕ) → follow s at k (suc n) ≡ true → follow s (at + length_of s k) (k + 1) n ≡ true
follow-next s at k n h = and_r (eqb (offset_of s k) at) _ h

-- parts one after the other, each with the couplings of a transition in it
span : (s : List ℕ) (n at k : ℕ) (f : ℕ → Arcs) → follow s at k n ≡ true → ((i : ℕ) → i < n → bond_width * length (arcs_bonds (f i)) ≤ length_of s (k + i))
    → at + bond_width * length (all_bonds (table n f)) ≤ length s
span s zero at k f h g = let e : at ≡ length s = eqb-true at (length s) h in omega arith
span s (suc n) at k f h g =
    let z : k + 0 ≡ k = omega arith in
    let first : bond_width * length (arcs_bonds (f zero)) ≤ length_of s k = rw z at (g zero (omega arith)) in
    let rest : at + length_of s k + bond_width * length (all_bonds (table n (λ i. f (suc i)))) ≤ length s =
    span s n (at + length_of s k) (k + 1) (λ i. f (suc i)) (follow-next s at k n h) (λ i l. let e : k + suc i ≡ k + 1 + i = omega arith in rw e at (g (suc i) (omega arith))) in
    let e = length-append (arcs_bonds (f zero)) (all_bonds (table n (λ i. f (suc i)))) in
    omega arith

module _ (s : List ℕ) (pairs : follow s (parts_begin s) 0 (pairs_of s) ≡ true) (widths : (t : Transition) → t.0 < transitions_of s → wrong_width (transition_bytes s t) ≡ false) where
  transition-bytes : (k : ℕ) → k < transitions_of s → bond_width * length (arcs_bonds (arcs_in (transition_bytes s (transition k)))) ≤ length_of s (0 + 1 + 1 + k)
  unfolding transition_bytes
  transition-bytes k h =
      let e : k + leading_pairs ≡ 0 + 1 + 1 + k = omega arith in
      let l = part_length s (k + leading_pairs) in
      let b : transition_bytes s (transition k) ≡ part_of s (k + leading_pairs) = rw (lt-ltb k (transitions_of s) h) in
      let w = arcs-bytes (transition_bytes s (transition k)) (widths (transition k) h) in
      rw (← e) (le_trans w (rw b l))

  -- Every coupling that the sheet writes has bytes of its own.
  pub written-bytes : bond_width * length (written (net_of s)) ≤ length s
  unfolding net_of
  written-bytes =
      let n : ℕ = transitions_of s in
      let two : transitions_of s + leading_pairs ≡ suc (suc n) = omega arith in
      let one = follow-next s (parts_begin s) 0 (suc n) (subst (λ (m : ℕ). follow s (parts_begin s) 0 m ≡ true) two pairs) in
      let next = follow-next s (parts_begin s + length_of s 0) (0 + 1) n one in
      let all = span s n (parts_begin s + length_of s 0 + length_of s (0 + 1)) (0 + 1 + 1) (λ k. arcs_in (transition_bytes s (transition k))) next transition-bytes in
      let start = start-bytes s in
      let part = part_length s (0 + 1) in
      let e = length-append (start_marking s).bonds (all_bonds (table n (λ k. arcs_in (transition_bytes s (transition k))))) in
      omega arith
