-- What 13 to 16 name: the item that the code reads in the step's bytes is the definition's.
-- Assumes a sound record on an accepted sheet, and that the command is refused by the number.
use mathlib.Core.Path.{◌≡◌, sym, ◌∙◌, ap, subst}
use mathlib.Core.Bool.{false}
use mathlib.Core.List.{List, []}
use Prim.Native.Nat.{ℕ, ◌<◌, ◌≤◌}
use native.Mathlib.Omega.{arith}
use lib.Dec.{ltb}
use lib.ListN.{length, get_or}
use lib.Seq.{get_or-take}
use borrow.Author.Tests.{ltb-true}
use Rattle.causal.specs.Lists.{Mem}
use Rattle.causal.proofs.Tests.{test}
use Rattle.net.specs.Limits.{max_bases, max_bonds}
use Rattle.net.specs.Tests.{table, first_at}
use Rattle.net.specs.Sorted.{Ascending}
use Rattle.net.specs.Net.{Arcs, Marking, bond, same_bond, less_bond, arcs_of}
use Rattle.net.specs.Journal.{transition_named}
use Rattle.net.specs.declared.Bond.{Bond}
use Rattle.net.specs.declared.Entry.{Entry}
use Rattle.net.specs.declared.Transition.{Transition}
use Rattle.net.proofs.Tables.{length-table, get_d-table}
use Rattle.net.proofs.Rules.{fits}
use Rattle.format.specs.Parts.{bases_of, transitions_of, transition_bytes}
use Rattle.format.specs.Arcs.{entry_count, nth_entry, in_count, nth_in_bond, out_count, nth_out_bond, arcs_in}
use Rattle.format.specs.NetOf.{net_of}
use Rattle.bonds.proofs.Fill.{mem-table}
use Rattle.marking.specs.Form.{bonds_of}
use Rattle.firings.proofs.Laid.{mem-at}
use Rattle.replaying.proofs.Lines.{placed-room}
use Rattle.net.proofs.Bonds.{mem-has}
use Rattle.labels.specs.Labelled.{Within}
use Rattle.sound.proofs.Holds.{rule, few, placed}
use Rattle.steps.proofs.Arcs.{arcs-of, count-of}
use Rattle.session.specs.Records.{held_in, Sound}
use Rattle.session.specs.declared.Record.{Record}
use Rattle.reasons.specs.Reasons.{away_from, absent_from, present_in, torn_from, has_partner}
use Rattle.reasons.proofs.Named.{away-holds, absent-holds, present-holds, torn-holds, away-here}
use Rattle.why.specs.Why.{no_entry, away_by, absent_by, present_by, torn_by, away_entry, torn_entry}
use Rattle.why.specs.Turned.{Turned}
use Rattle.why.specs.declared.Reason.TheVariants as Reason

-- the i-th of a table, in a list that is that table
at : {X : Type 0} (l : List X) (n : ℕ) (g : ℕ → X) → table n g ≡ l → (i k : ℕ) → i ≡ k → k < length l → (d x : X) → x ≡ g i → x ≡ get_or l k d
at l n g q i k e low d x h =
    let size : n ≡ length l = sym (length-table n g) ∙ ap length q in
    let below : i < n = omega arith in
    h ∙ sym (get_d-table n g i d below) ∙ (λ z. get_or (q z) (e z) d)

-- a step that is not on the sheet has no bytes
no_bytes : (s : List ℕ) (t : Transition) → ltb t.0 (transitions_of s) ≡ false → transition_bytes s t ≡ []
unfolding transition_bytes
no_bytes s t h = rw h

module _ (s : List ℕ) (r : Record) (c : List ℕ) (S : Sound s r) where
  -- the step, and the marking
  abbrev t : Arcs
  t = arcs_of (net_of s) (transition_named c)

  abbrev m : Marking
  m = (held_in s r).marking

  -- its entries are of bases of the net
  of-bases : (e : Entry) → Mem e t.entries → e.base < bases_of s
  unfolding net_of
  of-bases e h = test (ltb (transition_named c).0 (transitions_of s))
      (λ k. (fits (net_of s) (rule s r.marking r.firings r.given S.passed) (transition_named c) (rw (count-of s) (ltb-true (transition_named c).0 (transitions_of s) k))).bases e h)
      (λ k. absurd (subst (λ (b : List ℕ). Mem e (arcs_in b).entries) (no_bytes s (transition_named c) k) (subst (λ (a : Arcs). Mem e a.entries) (arcs-of s (transition_named c)) h)))

  -- and so are its out-bonds
  outs-of-bases : (x : Bond) → Mem x t.out_bonds → (x.lo < x.hi) × (x.hi < bases_of s)
  unfolding net_of
  outs-of-bases x h = test (ltb (transition_named c).0 (transitions_of s))
      (λ k.
      let F = fits (net_of s) (rule s r.marking r.firings r.given S.passed) (transition_named c) (rw (count-of s) (ltb-true (transition_named c).0 (transitions_of s) k)) in
      let mine = mem-has t.out_bonds x h in
      (F.low x mine, let (e, d, J, _) = F.outs x mine in rw (← J.hi) (F.bases d J.second)))
      (λ k. absurd (subst (λ (b : List ℕ). Mem x (arcs_in b).out_bonds) (no_bytes s (transition_named c) k) (subst (λ (a : Arcs). Mem x a.out_bonds) (arcs-of s (transition_named c)) h)))

  -- the bonds are in order, and fit
  pub bonds-ready : (r.marking.count ≤ max_bonds) × Ascending same_bond less_bond (bonds_of r.marking)
  bonds-ready = (placed-room s r.marking (placed s r.marking r.firings r.given S.passed), (placed s r.marking r.firings r.given S.passed).good.order)

  -- b is what the reader gave: the step's bytes
  module _ (b : List ℕ) (eb : b ≡ transition_bytes s (transition_named c)) where
    arcs : arcs_in b ≡ t
    arcs = ap arcs_in eb ∙ sym (arcs-of s (transition_named c))

    pub entries-low : (i : ℕ) → i < entry_count b → (nth_entry b i).base < max_bases
    entries-low i h =
        let u = of-bases (nth_entry b i) (subst (λ (a : Arcs). Mem (nth_entry b i) a.entries) arcs (mem-table (entry_count b) (nth_entry b) i h)) in
        let v = few s r.marking r.firings r.given S.passed in
        omega arith

    pub outs-low : (i : ℕ) → i < out_count b → Within max_bases (nth_out_bond b i)
    outs-low i h =
        let (u, w) = outs-of-bases (nth_out_bond b i) (subst (λ (a : Arcs). Mem (nth_out_bond b i) a.out_bonds) arcs (mem-table (out_count b) (nth_out_bond b) i h)) in
        let v = few s r.marking r.firings r.given S.passed in
        (omega arith, omega arith)

    module _ (T : Turned s r c 13) (i : ℕ) (ei : i ≡ first_at (away_from r.marking.places) (arcs_in b).entries) (e : Entry) (ee : e ≡ nth_entry b i) where
      abbrev k : ℕ
      k = first_at (away_from m.places) t.entries

      low : k < length t.entries
      low = (away-holds (net_of s) (held_in s r) c T.answer).on

      entry-is : e ≡ away_entry t m
      entry-is = at t.entries (entry_count b) (nth_entry b) (ap (λ (a : Arcs). a.entries) arcs) i k
          (ei ∙ ap (λ (a : Arcs). first_at (away_from r.marking.places) a.entries) arcs ∙ sym (away-here (bases_of s) r.marking.places t.entries of-bases)) low no_entry e ee

      near : (away_entry t m).base < bases_of s
      near = of-bases (away_entry t m) (mem-at t.entries no_entry k low)

      pub away-low : e.base < max_bases
      away-low = let u = near in let v = few s r.marking r.firings r.given S.passed in let w = ap (λ (x : Entry). x.base) entry-is in omega arith

      pub away-is : Reason.Away e (get_or r.marking.places e.base 0) ≡ away_by t m
      away-is = (λ z. Reason.Away (entry-is z) (get_or r.marking.places (entry-is z).base 0)) ∙ ap (Reason.Away (away_entry t m)) (sym (get_or-take (bases_of s) r.marking.places (away_entry t m).base 0 near))

    pub absent-is : Turned s r c 14 → (i : ℕ) → i ≡ first_at (absent_from (bonds_of r.marking)) (arcs_in b).in_bonds → (x : Bond) → x ≡ nth_in_bond b i → Reason.Absent x ≡ absent_by t m
    absent-is T i ei x ex = ap Reason.Absent (at t.in_bonds (in_count b) (nth_in_bond b) (ap (λ (a : Arcs). a.in_bonds) arcs) i (first_at (absent_from m.bonds) t.in_bonds)
        (ei ∙ ap (λ (a : Arcs). first_at (absent_from m.bonds) a.in_bonds) arcs) (absent-holds (net_of s) (held_in s r) c T.answer).on (bond 0 0) x ex)

    pub present-is : Turned s r c 15 → (i : ℕ) → i ≡ first_at (present_in (arcs_in b).in_bonds (bonds_of r.marking)) (arcs_in b).out_bonds → (x : Bond) → x ≡ nth_out_bond b i
        → Reason.Present x ≡ present_by t m
    present-is T i ei x ex = ap Reason.Present (at t.out_bonds (out_count b) (nth_out_bond b) (ap (λ (a : Arcs). a.out_bonds) arcs) i (first_at (present_in t.in_bonds m.bonds) t.out_bonds)
        (ei ∙ ap (λ (a : Arcs). first_at (present_in a.in_bonds m.bonds) a.out_bonds) arcs) (present-holds (net_of s) (held_in s r) c T.answer).on (bond 0 0) x ex)

    module _ (T : Turned s r c 16) (i : ℕ) (ei : i ≡ first_at (has_partner (arcs_in b) m) (arcs_in b).entries) (e : Entry) (ee : e ≡ nth_entry b i) where
      torn-is : e ≡ torn_entry t m
      torn-is = at t.entries (entry_count b) (nth_entry b) (ap (λ (a : Arcs). a.entries) arcs) i (first_at (has_partner t m) t.entries)
          (ei ∙ ap (λ (a : Arcs). first_at (has_partner a m) a.entries) arcs) (torn-holds (net_of s) (held_in s r) c T.answer).0.on no_entry e ee

      pub torn-low : e.base < max_bases
      torn-low =
          let u = of-bases (torn_entry t m) (mem-at t.entries no_entry (first_at (has_partner t m) t.entries) (torn-holds (net_of s) (held_in s r) c T.answer).0.on) in
          let v = few s r.marking r.firings r.given S.passed in
          let w = ap (λ (x : Entry). x.base) torn-is in
          omega arith

      pub pair_is : (k : ℕ) → k ≡ first_at (torn_from (arcs_in b) m e) (arcs_in b).entries → (d : Entry) → d ≡ nth_entry b k → Reason.Torn e d ≡ torn_by t m
      pair_is k ek d ed =
          let p = at t.entries (entry_count b) (nth_entry b) (ap (λ (a : Arcs). a.entries) arcs) k (first_at (torn_from t m (torn_entry t m)) t.entries)
          (ek ∙ (λ z. first_at (torn_from (arcs z) m (torn-is z)) (arcs z).entries)) ((torn-holds (net_of s) (held_in s r) c T.answer).1 no_entry).on no_entry d ed in
          λ z. Reason.Torn (torn-is z) (p z)
