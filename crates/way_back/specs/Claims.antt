-- What is claimed of sets that are taken back and of the way back (02, T-04), of every sound journal and every layout.
-- Statements only; proofs/Least has the proofs.
use Rattle.std.specs.Prelude.{◌≡◌, Bool, true, false, ◌&&◌, List, ℕ}
use Rattle.causal.specs.Lists.{Mem}
use Rattle.net.specs.Sorted.{ascends}
use Rattle.net.specs.Net.{Marking, Net}
use Rattle.net.specs.Journal.{Journal, play, answers}
use Rattle.net.specs.Claims.{undo_commands, all_undone}
use Rattle.net.specs.declared.Key.{Key}
use Rattle.way_back.specs.Ways.{AtPlaces, TakenBack, HasEffect, ClosedUpward, descending, higher, retreated, no_way, gone, way_back}

-- A set can be taken back exactly if it is closed upward; then descending keys are such an order, and whatever the order
-- the marking at the end is the same.
pub record ClosedSets (net : Net) (j : Journal) : Type 0 where
  pub closed : (f : Key → Bool) (z : Marking) → TakenBack net j f z → ClosedUpward j.lines f
  pub descends : (f : Key → Bool) → ClosedUpward j.lines f → answers net (undo_commands (descending f j.lines)) j ≡ all_undone (descending f j.lines)
  pub taken : (f : Key → Bool) → ClosedUpward j.lines f → TakenBack net j f (play net (undo_commands (descending f j.lines)) j).marking
  pub only_one : (f : Key → Bool) (y z : Marking) → TakenBack net j f y → TakenBack net j f z → y ≡ z

-- The sets with the wanted effect are closed under intersection. Where there is one, `way_back` is one, and it lies within every
-- other; its keys strictly descend, and in that order each is accepted. Refusal 28 holds exactly if there is none.
pub record LeastWay (net : Net) (w : List ℕ) (j : Journal) : Type 0 where
  pub meet : (f g : Key → Bool) → HasEffect net w j f → HasEffect net w j g → HasEffect net w j (λ k. f k && g k)
  pub falls : ascends higher (way_back net w j) ≡ true
  pub accepted : answers net (undo_commands (way_back net w j)) j ≡ all_undone (way_back net w j)
  pub ends : (play net (undo_commands (way_back net w j)) j).marking ≡ (retreated net w j).marking
  pub reaches : no_way net w j ≡ false → AtPlaces net w (play net (undo_commands (way_back net w j)) j).marking
  pub effect : no_way net w j ≡ false → HasEffect net w j (gone net w j)
  pub least : (f : Key → Bool) → HasEffect net w j f → (k : Key) → Mem k (way_back net w j) → f k ≡ true
  pub none : no_way net w j ≡ true → (f : Key → Bool) → HasEffect net w j f → ⊥
  pub some : (f : Key → Bool) → HasEffect net w j f → no_way net w j ≡ false
