-- Laws of the closing lines of what a record holds: how long they are, and that the four writers leave them.
-- Assumes nothing.
use mathlib.Core.Path.{ap}
use mathlib.Core.List.{List, [], ◌∷◌}
use Prim.Native.Nat.{ℕ, ◌+◌, ◌*◌, ◌≤◌}
use native.Mathlib.Omega.{arith}
use lib.ListN.{length, take}
use Rattle.net.specs.Limits.{max_bases, max_live}
use Rattle.bonds.specs.Ends.{bonds_in}
use Rattle.marking.specs.declared.Marking.{Marking}
use Rattle.firings.specs.Search.{keys_in}
use Rattle.firings.specs.declared.Firings.{Firings}
use Rattle.firings.proofs.Search.{keys-of-lines}
use Rattle.net.specs.declared.Key.{Key}
use Rattle.sound.specs.Soundness.{journal_in}
use Rattle.tally.specs.declared.Tally.{Tally}
use Rattle.text.specs.Writes.{Wrote}
use Rattle.text.specs.Ascii.{ascii}
use Rattle.text.proofs.Writes.{written_none, written-more, written-pair}
use Rattle.closing.specs.Closing.{item_room, bond_room, places_line, bond_lines, live_line, tally_line}
use Rattle.closing.proofs.Lines.{row-length, bonds-table, bonds-upto}
use Rattle.final_lines.specs.Final.{closing_of, places_room, live_room}

-- ---- Lengths

pub places-fit : (ps : List ℕ) → length ps ≤ max_bases → length (places_line ps) ≤ places_room
places-fit ps h = let a = row-length (ascii "places") ps in omega arith

pub live-fits : (ks : List ℕ) → length ks ≤ max_live → length (live_line ks) ≤ live_room
live-fits ks h = let a = row-length (ascii "live") ks in omega arith

pub tally-fits : (f u r : ℕ) → length (tally_line f u r) ≤ 6 + item_room * 3
tally-fits f u r = row-length (ascii "tally") (f ∷ u ∷ r ∷ [])

pub bonds-fit : (lo hi : List ℕ) (n : ℕ) → length (bond_lines (bonds_in lo hi n)) ≤ bond_room * n
bonds-fit lo hi n = let a = bonds-upto lo hi n in let e = ap (λ (t : List ℕ). length t) (bonds-table lo hi n) in omega arith

-- ---- The whole

-- the four writers, one after the other, leave the closing lines
pub closing-pieces : (b : List ℕ) {b₁ b₂ b₃ b₄ : List ℕ} (at : ℕ) {k₁ k₂ k₃ k₄ : ℕ} (n : ℕ) (m : Marking) (f : Firings) (k : Key) (t : Tally)
    → Wrote (places_line (take n m.places)) at b k₁ b₁ → Wrote (bond_lines (bonds_in m.lo m.hi m.count)) k₁ b₁ k₂ b₂ → Wrote (live_line (keys_in f.live f.keys)) k₂ b₂ k₃ b₃
    → Wrote (tally_line t.fired t.undone t.refused) k₃ b₃ k₄ b₄
    → Wrote (closing_of (journal_in n m f k) t) at b k₄ b₄
unfolding closing_of
closing-pieces b at n m f k t w₁ w₂ w₃ w₄ =
    let all = written-more (tally_line t.fired t.undone t.refused) (written-more (live_line (keys_in f.live f.keys)) (written-more (bond_lines (bonds_in m.lo m.hi m.count)) (written-more (places_line (take n m.places)) (written_none b at) w₁) w₂) w₃) w₄ in
    let e = keys-of-lines n f in
    rw (← e) (written-pair all)
