-- An accepted sheet and a good marking give what the engine asks of a step and a marking.
-- Assumes nothing.
use mathlib.Core.Path.{◌≡◌, sym, ◌∙◌}
use mathlib.Core.Logic.{◌⊎◌, inl, inr}
use mathlib.Core.Bool.{true}
use mathlib.Core.List.{List}
use Prim.Native.Nat.{ℕ, ◌<◌, ◌≤◌}
use native.Mathlib.Omega.{arith}
use Rattle.net.specs.Limits.{max_bases}
use Rattle.net.specs.Sorted.{puts}
use Rattle.net.specs.Net.{same_bond, less_bond, has_bond, arcs_bonds}
use Rattle.net.specs.declared.Bond.{Bond}
use Rattle.net.specs.declared.Transition.{Transition}
use Rattle.net.proofs.Tests.{or-e}
use Rattle.net.proofs.Sorted.{has-puts, ascending-puts}
use Rattle.net.proofs.Bonds.{bond-order}
use Rattle.net.proofs.Written.{has_either}
use Rattle.net.proofs.Moves.{Fit}
use Rattle.net.proofs.Rules.{fits}
use Rattle.format.specs.Parts.{bases_of, transitions_of, transition_bytes}
use Rattle.format.specs.Arcs.{arcs_in}
use Rattle.format.specs.NetOf.{net_of}
use Rattle.sheet.proofs.Accepted.{promised}
use Rattle.marking.specs.declared.Marking.{Marking}
use Rattle.marking.specs.Form.{bonds_of}
use Rattle.marking.proofs.Room.{bonds-fit}
use Rattle.enabling.specs.Ready.{Ready}
use Rattle.steps.specs.Placed.{Placed}
use Rattle.steps.proofs.Arcs.{arcs-of, count-of}

pub few-bases : (s : List ℕ) (m : Marking) → Placed s m → bases_of s ≤ max_bases
few-bases s m P = (promised s P.accepted).bases.1

pub fit : (s : List ℕ) (m : Marking) (t : Transition) → Placed s m → t.0 < transitions_of s → Fit (net_of s) (arcs_in (transition_bytes s t))
fit s m t P h = rw (← arcs-of s t) (fits (net_of s) (promised s P.accepted).rule t (rw (count-of s) h))

pub ready : (s : List ℕ) (m : Marking) (t : Transition) → Placed s m → t.0 < transitions_of s → Ready (bases_of s) (arcs_in (transition_bytes s t)) m
unfolding net_of
ready s m t P h = record {
  few = few-bases s m P;
  form = P.form;
  order = P.good.order;
  range = P.good.range;
  bases = F.bases;
  outs = outs;
  ins = ins;
  room = let a = bonds-fit (bases_of s) max_bases (few-bases s m P) (puts same_bond less_bond own (bonds_of m)) (ascending-puts same_bond less_bond bond-order own (bonds_of m) P.good.order) all in omega arith;
}
  where
    F : Fit (net_of s) (arcs_in (transition_bytes s t))
    F = fit s m t P h

    own : List Bond
    own = arcs_bonds (arcs_in (transition_bytes s t))

    outs : (b : Bond) → has_bond b (arcs_in (transition_bytes s t)).out_bonds ≡ true → (b.lo < b.hi) × (b.hi < bases_of s)
    outs b k = (F.low b k, let (e, d, J, _) = F.outs b k in rw (← J.hi) (F.bases d J.second))

    ins : (b : Bond) → has_bond b (arcs_in (transition_bytes s t)).in_bonds ≡ true → (b.lo < b.hi) × (b.hi < bases_of s)
    ins b k = (F.low_in b k, let (e, d, J, _) = F.ins b k in rw (← J.hi) (F.bases d J.second))

    all : (b : Bond) → has_bond b (puts same_bond less_bond own (bonds_of m)) ≡ true → (b.lo < b.hi) × (b.hi < bases_of s)
    all b k = go (or-e (has_bond b own) (has_bond b (bonds_of m)) (sym (has-puts same_bond less_bond bond-order b own (bonds_of m)) ∙ k))
      where
        mine : (has_bond b (arcs_in (transition_bytes s t)).in_bonds ≡ true) ⊎ (has_bond b (arcs_in (transition_bytes s t)).out_bonds ≡ true) → (b.lo < b.hi) × (b.hi < bases_of s)
        mine (inl e) = ins b e
        mine (inr e) = outs b e

        go : (has_bond b own ≡ true) ⊎ (has_bond b (bonds_of m) ≡ true) → (b.lo < b.hi) × (b.hi < bases_of s)
        go (inl e) = mine (has_either (arcs_in (transition_bytes s t)).in_bonds (arcs_in (transition_bytes s t)).out_bonds b e)
        go (inr e) = P.good.range b e
