-- Laws of lists of lines: how long the lines up to a position are at most.
-- Assumes nothing.
use Prim.Native.Nat.{ℕ, ◌*◌, ◌≤◌}
use mathlib.Core.List.{List}
use lib.ListN.{length, get_or}
use Rattle.net.specs.Tests.{table}
use Rattle.text.specs.Joined.{joined}
use Rattle.text.proofs.Joined.{joined_length}
use Rattle.format.specs.Parts.{start_places}
use Rattle.format.specs.Arcs.{nth_entry, nth_in_bond, nth_out_bond}
use Rattle.format.specs.NetOf.{nth_start_bond}
use Rattle.sheet_print.specs.Pieces.{part_at, coupled_at, move_at, before_at, after_at}
use Rattle.sheet_print.specs.Room.{line_room, move_room}
use Rattle.sheet_print.proofs.Lines.{part_length, coupled-length, move-length, before-length, after-length}

pub parts-upto : (s : List ℕ) (n : ℕ) → length (joined (table n (part_at s))) ≤ line_room * n
parts-upto s n = joined_length line_room n (part_at s) (λ i. part_length i (get_or (start_places s) i 0))

pub coupled-upto : (s : List ℕ) (n : ℕ) → length (joined (table n (coupled_at s))) ≤ line_room * n
coupled-upto s n = joined_length line_room n (coupled_at s) (λ i. coupled-length (nth_start_bond s i).lo (nth_start_bond s i).hi)

pub moves-upto : (b : List ℕ) (n : ℕ) → length (joined (table n (move_at b))) ≤ move_room * n
moves-upto b n = joined_length move_room n (move_at b) (λ i. move-length (nth_entry b i).base (nth_entry b i).from (nth_entry b i).to)

pub before-upto : (b : List ℕ) (n : ℕ) → length (joined (table n (before_at b))) ≤ line_room * n
before-upto b n = joined_length line_room n (before_at b) (λ i. before-length (nth_in_bond b i).lo (nth_in_bond b i).hi)

pub after-upto : (b : List ℕ) (n : ℕ) → length (joined (table n (after_at b))) ≤ line_room * n
after-upto b n = joined_length line_room n (after_at b) (λ i. after-length (nth_out_bond b i).lo (nth_out_bond b i).hi)
