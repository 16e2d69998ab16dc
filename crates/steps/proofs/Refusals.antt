-- The first of 12 to 16, from what the engine says of the transition's bytes: one law for each answer.
-- Assumes nothing.
use mathlib.Core.Path.{◌≡◌, sym, ◌∙◌, ap}
use mathlib.Core.Bool.{Bool, true, false, not}
use mathlib.Core.List.{List}
use Prim.Native.Nat.{ℕ, ◌<◌, ◌≤◌}
use borrow.Author.Tests.{le-leb, lt-leb}
use Rattle.net.specs.Tests.{keep}
use Rattle.net.specs.Checks.{first}
use Rattle.net.specs.Net as Net
use Rattle.net.specs.Net.{Arcs, arcs_of}
use Rattle.net.specs.Firing.{misplaced, bond_absent, bond_present, broken_bond, torn_with, torn_apart}
use Rattle.net.specs.Journal.{enable_checks}
use Rattle.net.specs.declared.Bond.{Bond}
use Rattle.net.specs.declared.Transition.{Transition}
use Rattle.net.proofs.Uncoupling.{torn-rest}
use Rattle.format.specs.Parts.{bases_of, transitions_of, transition_bytes}
use Rattle.format.specs.Arcs.{entry_count, nth_entry, arcs_in}
use Rattle.format.specs.NetOf.{net_of}
use Rattle.marking.specs.Form.{bonds_of, marking_of}
use Rattle.marking.specs.declared.Marking.{Marking}
use Rattle.enabling.specs.Ready.{Ready}
use Rattle.enabling.proofs.Readiness.{entries-near}
use Rattle.steps.specs.Placed.{Placed}
use Rattle.steps.proofs.Arcs.{arcs-of, count-of}
use Rattle.steps.proofs.Readiness.{fit, ready}

-- n and b are what the readers gave: the number of bases, and the transition's bytes
module _ (s : List ℕ) (m : Marking) (t : Transition) (n : ℕ) (b : List ℕ) (en : n ≡ bases_of s) (eb : b ≡ transition_bytes s t) where
  pub arcs-at : arcs_in b ≡ arcs_of (net_of s) t
  arcs-at = ap arcs_in eb ∙ sym (arcs-of s t)

  pub ready_at : Placed s m → t.0 < transitions_of s → Ready n (arcs_in b) m
  ready_at P h = rw (en, eb) (ready s m t P h)

  -- a condition on what was read is the condition on the net
  pub on-net : {X : Type 0} (f : Arcs → Net.Marking → X) → f (arcs_in b) (marking_of n m) ≡ f (arcs_of (net_of s) t) (marking_of (bases_of s) m)
  on-net f = λ i. f (arcs-at i) (marking_of (en i) m)

  -- 13, as the code asks it, is 13
  pub misplaced-at : Placed s m → t.0 < transitions_of s → (x : Bool)
      → ((k : ℕ) → ((i : ℕ) → i < entry_count b → (nth_entry b i).base < k) → x ≡ misplaced (arcs_in b) (marking_of k m)) → x ≡ misplaced (arcs_of (net_of s) t) (marking_of (bases_of s) m)
  misplaced-at P h x f = f n (entries-near n b m (ready_at P h)) ∙ on-net misplaced

  -- 16, as the code asks it, is 16
  pub torn-at : Placed s m → t.0 < transitions_of s → torn_with (arcs_in b) (keep (λ (c : Bond). not (broken_bond (arcs_in b) c)) (bonds_of m)) ≡ torn_apart (arcs_in b) (marking_of n m)
  torn-at P h = sym (torn-rest (net_of s) (arcs_in b) (rw eb (fit s m t P h)) (bonds_of m))

module _ (s : List ℕ) (t : Transition) (z : Net.Marking) where
  pub refused-12 : transitions_of s ≤ t.0 → 12 ≡ first (enable_checks (net_of s) z t)
  refused-12 h = rw (count-of s, le-leb (transitions_of s) t.0 h)

  module _ (h : t.0 < transitions_of s) where
    pub refused-13 : misplaced (arcs_of (net_of s) t) z ≡ true → 13 ≡ first (enable_checks (net_of s) z t)
    refused-13 a = rw (count-of s, lt-leb (transitions_of s) t.0 h, a)

    module _ (a : misplaced (arcs_of (net_of s) t) z ≡ false) where
      pub refused-14 : bond_absent (arcs_of (net_of s) t) z ≡ true → 14 ≡ first (enable_checks (net_of s) z t)
      refused-14 c = rw (count-of s, lt-leb (transitions_of s) t.0 h, a, c)

      module _ (c : bond_absent (arcs_of (net_of s) t) z ≡ false) where
        pub refused-15 : bond_present (arcs_of (net_of s) t) z ≡ true → 15 ≡ first (enable_checks (net_of s) z t)
        refused-15 d = rw (count-of s, lt-leb (transitions_of s) t.0 h, a, c, d)

        module _ (d : bond_present (arcs_of (net_of s) t) z ≡ false) where
          pub refused-16 : torn_apart (arcs_of (net_of s) t) z ≡ true → 16 ≡ first (enable_checks (net_of s) z t)
          refused-16 e = rw (count-of s, lt-leb (transitions_of s) t.0 h, a, c, d, e)

          pub enabled : torn_apart (arcs_of (net_of s) t) z ≡ false → 0 ≡ first (enable_checks (net_of s) z t)
          enabled e = rw (count-of s, lt-leb (transitions_of s) t.0 h, a, c, d, e)
