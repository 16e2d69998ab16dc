-- Laws of a step's text: its pieces one after the other, and their room.
-- Assumes nothing.
use mathlib.Core.Path.{◌≡◌, ap}
use Prim.Native.Nat.{ℕ, ◌+◌, ◌*◌, ◌≤◌}
use native.Mathlib.Omega.{arith}
use mathlib.Core.List.{List, ◌++◌}
use lib.ListN.{length, length-append}
use Rattle.net.specs.Journal.{transition}
use Rattle.text.specs.Ascii.{ascii}
use Rattle.text.specs.Writes.{Wrote}
use Rattle.format.specs.Parts.{transition_bytes}
use Rattle.format.specs.Arcs.{entry_count, in_count, out_count, arcs_width}
use Rattle.sheet_text.specs.declared.Line.TheVariants.{Step}
use Rattle.sheet_print.specs.Pieces.{line_bytes, one, moves_text, before_text, after_text, arcs_text, step_at}
use Rattle.sheet_print.specs.Room.{line_room, arcs_room, step_room}
use Rattle.sheet_print.proofs.Lines.{wrote-both, wrote-three, wrote_as, step_row, step-length}
use Rattle.sheet_print.proofs.Lists.{moves-upto, before-upto, after-upto}

-- ---- writing

pub wrote-arcs : (b : List ℕ) {b₁ b₂ b₃ : List ℕ} (at : ℕ) {k₁ k₂ k₃ : ℕ} (x : List ℕ) → Wrote (moves_text x) at b k₁ b₁ → Wrote (before_text x) k₁ b₁ k₂ b₂ → Wrote (after_text x) k₂ b₂ k₃ b₃ → Wrote (arcs_text x) at b k₃ b₃
unfolding arcs_text
wrote-arcs b at x p q r = wrote-three b at (moves_text x) (before_text x) (after_text x) p q r

-- bytes x that were read as step k's
pub wrote-step : (b : List ℕ) {b₁ b₂ : List ℕ} (at : ℕ) {k₁ k₂ : ℕ} (s : List ℕ) (k : ℕ) (x : List ℕ) → x ≡ transition_bytes s (transition k)
    → Wrote (one (ascii "step ") k) at b k₁ b₁ → Wrote (arcs_text x) k₁ b₁ k₂ b₂ → Wrote (step_at s k) at b k₂ b₂
unfolding step_at
wrote-step b at s k x e p q =
    let l : one (ascii "step ") k ++ arcs_text x ≡ line_bytes (Step k) ++ arcs_text (transition_bytes s (transition k)) = λ i. step_row k i ++ arcs_text (e i) in
    wrote_as b at (one (ascii "step ") k ++ arcs_text x) (line_bytes (Step k) ++ arcs_text (transition_bytes s (transition k))) l (wrote-both b at (one (ascii "step ") k) (arcs_text x) p q)

-- ---- room

-- the bytes of a step's counts leave room for the line `step K`
pub arcs-fit : (x y : List ℕ) → x ≡ y → arcs_room x + line_room ≤ line_room * arcs_width y
arcs-fit x y e = let w : arcs_width x ≡ arcs_width y = ap arcs_width e in omega arith

arcs-length : (b : List ℕ) → length (arcs_text b) ≤ arcs_room b
unfolding arcs_text
arcs-length b =
    let p = length-append (moves_text b) (before_text b ++ after_text b) in
    let q = length-append (before_text b) (after_text b) in
    let m = moves-upto b (entry_count b) in
    let i = before-upto b (in_count b) in
    let o = after-upto b (out_count b) in
    omega arith

pub step_fits : (s : List ℕ) (k : ℕ) → length (step_at s k) ≤ step_room s k
unfolding step_at
step_fits s k =
    let x : List ℕ = transition_bytes s (transition k) in
    let p = length-append (line_bytes (Step k)) (arcs_text x) in
    let l = step-length k in
    let a = arcs-length x in
    let f = arcs-fit x x (λ i. x) in
    omega arith
