-- Laws of lines: one writer after another, how long a line is at most, and a line as words with numbers.
-- Assumes nothing.
use mathlib.Core.Path.{◌≡◌, ap, subst, ◌∙◌}
use Prim.Native.Nat.{ℕ, ◌+◌, ◌≤◌}
use native.Mathlib.Omega.{arith}
use mathlib.Core.List.{List, [], ◌∷◌, ◌++◌, append_assoc, append-nil}
use lib.ListN.{length, length-append}
use Rattle.net.specs.declared.Bond.{Bond}
use Rattle.net.specs.declared.Entry.{Entry}
use Rattle.text.specs.Ascii.{ascii}
use Rattle.text.specs.Decimal.{digits, decimal}
use Rattle.text.specs.Writes.{Wrote}
use Rattle.text.proofs.Digits.{digits-length}
use Rattle.text.proofs.Writes.{written_none, written-more, written-pair}
use Rattle.sheet_text.specs.declared.Line.{Line}
use Rattle.sheet_text.specs.declared.Line.TheVariants.{Places, Part, Coupled, Step, Move, Before, After}
use Rattle.sheet_print.specs.Pieces.{line_bytes, named, one, two, three, bond_row}
use Rattle.sheet_print.specs.Room.{line_room, move_room}

-- ---- writing

-- two writers, one after the other
pub wrote-both : (b : List ℕ) {b₁ b₂ : List ℕ} (at : ℕ) {k₁ k₂ : ℕ} (v w : List ℕ) → Wrote v at b k₁ b₁ → Wrote w k₁ b₁ k₂ b₂ → Wrote (v ++ w) at b k₂ b₂
wrote-both b at v w p q = written-pair (written-more w (written-more v (written_none b at) p) q)

pub wrote-three : (b : List ℕ) {b₁ b₂ b₃ : List ℕ} (at : ℕ) {k₁ k₂ k₃ : ℕ} (u v w : List ℕ) → Wrote u at b k₁ b₁ → Wrote v k₁ b₁ k₂ b₂ → Wrote w k₂ b₂ k₃ b₃ → Wrote (u ++ (v ++ w)) at b k₃ b₃
wrote-three b {b₁} at {k₁} u v w p q r = wrote-both b at u (v ++ w) p (wrote-both b₁ k₁ v w q r)

pub wrote-named : (b : List ℕ) {b₁ b₂ : List ℕ} (at : ℕ) {k₁ k₂ : ℕ} (w : List ℕ) (n : ℕ) → Wrote w at b k₁ b₁ → Wrote (digits 10 n) k₁ b₁ k₂ b₂ → Wrote (named w n) at b k₂ b₂
unfolding decimal
wrote-named b at w n p q = wrote-both b at w (digits 10 n) p q

-- ---- lengths

pub named-length : (w : List ℕ) (n : ℕ) → length (named w n) ≤ length w + 10
unfolding decimal
named-length w n = omega (arith, length-append w (digits 10 n), digits-length 10 n)

pub one-length : (w : List ℕ) (n : ℕ) → length (one w n) ≤ length w + 11
one-length w n = omega (arith, length-append (named w n) (10 ∷ []), named-length w n)

pub two-length : (w : List ℕ) (n : ℕ) (v : List ℕ) (m : ℕ) → length (two w n v m) ≤ length w + length v + 21
two-length w n v m = omega (arith, length-append (named w n) (one v m), named-length w n, one-length v m)

pub three-length : (w : List ℕ) (n : ℕ) (v : List ℕ) (m : ℕ) (u : List ℕ) (k : ℕ) → length (three w n v m u k) ≤ length w + length v + length u + 31
three-length w n v m u k = omega (arith, length-append (named w n) (two v m u k), named-length w n, two-length v m u k)

-- ---- the lines of a sheet's text, each as words with numbers

pub places_row : (n : ℕ) → one (ascii "places ") n ≡ line_bytes (Places n)
places_row n = simp (append_assoc, append-nil)

pub step_row : (k : ℕ) → one (ascii "step ") k ≡ line_bytes (Step k)
step_row k = simp (append_assoc, append-nil)

pub part-row : (p x : ℕ) → two (ascii "part ") p (ascii " at ") x ≡ line_bytes (Part p x)
part-row p x = simp (append_assoc, append-nil)

pub coupled-row : (p q : ℕ) → two (ascii "coupled ") p (ascii " ") q ≡ line_bytes (Coupled p q)
coupled-row p q = simp (append_assoc, append-nil)

pub before-row : (p q : ℕ) → two (ascii "before ") p (ascii " ") q ≡ line_bytes (Before p q)
before-row p q = simp (append_assoc, append-nil)

pub after-row : (p q : ℕ) → two (ascii "after ") p (ascii " ") q ≡ line_bytes (After p q)
after-row p q = simp (append_assoc, append-nil)

pub move_row : (p x y : ℕ) → three (ascii "move ") p (ascii " from ") x (ascii " to ") y ≡ line_bytes (Move p x y)
move_row p x y = simp (append_assoc, append-nil)

-- ---- a writer's promise for the line itself

pub wrote_as : (b : List ℕ) {b' : List ℕ} (at : ℕ) {k : ℕ} (vs ws : List ℕ) → vs ≡ ws → Wrote vs at b k b' → Wrote ws at b k b'
wrote_as b at vs ws e p = rw (← e) p

-- a coupling x that was read as y, under a word
pub wrote-bond : (b : List ℕ) {b' : List ℕ} (at : ℕ) {k : ℕ} (w : List ℕ) (g : ℕ → ℕ → Line) → ((p q : ℕ) → two w p (32 ∷ []) q ≡ line_bytes (g p q)) → (x y : Bond) → x ≡ y
    → Wrote (bond_row w x) at b k b' → Wrote (line_bytes (g y.lo y.hi)) at b k b'
wrote-bond b at w g row x y e p = wrote_as b at (bond_row w x) (line_bytes (g y.lo y.hi)) (ap (bond_row w) e ∙ row y.lo y.hi) p

pub wrote-part : (b : List ℕ) {b' : List ℕ} (at : ℕ) {k : ℕ} (p x y : ℕ) → x ≡ y → Wrote (two (ascii "part ") p (ascii " at ") x) at b k b' → Wrote (line_bytes (Part p y)) at b k b'
wrote-part b at p x y e w = wrote_as b at (two (ascii "part ") p (ascii " at ") x) (line_bytes (Part p y)) (ap (λ (n : ℕ). two (ascii "part ") p (ascii " at ") n) e ∙ part-row p y) w

-- `move`: the part, then the two places
pub wrote-entry : (b : List ℕ) {b₁ b₂ : List ℕ} (at : ℕ) {k₁ k₂ : ℕ} (p x y : ℕ) → Wrote (named (ascii "move ") p) at b k₁ b₁ → Wrote (two (ascii " from ") x (ascii " to ") y) k₁ b₁ k₂ b₂
    → Wrote (line_bytes (Move p x y)) at b k₂ b₂
wrote-entry b at p x y v w = wrote_as b at (three (ascii "move ") p (ascii " from ") x (ascii " to ") y) (line_bytes (Move p x y)) (move_row p x y) (wrote-both b at (named (ascii "move ") p) (two (ascii " from ") x (ascii " to ") y) v w)

-- an entry x that was read as y
pub wrote-move : (b : List ℕ) {b' : List ℕ} (at : ℕ) {k : ℕ} (x y : Entry) → x ≡ y → Wrote (line_bytes (Move x.base x.from x.to)) at b k b' → Wrote (line_bytes (Move y.base y.from y.to)) at b k b'
wrote-move b at x y e p = wrote_as b at (line_bytes (Move x.base x.from x.to)) (line_bytes (Move y.base y.from y.to)) (ap (λ (z : Entry). line_bytes (Move z.base z.from z.to)) e) p

-- ---- how long the lines are at most

short : (v w : List ℕ) (m n : ℕ) → v ≡ w → length v ≤ m → m ≤ n → length w ≤ n
short v w m n e h l = let k : length w ≤ m = subst (λ (t : List ℕ). length t ≤ m) e h in omega arith

-- a line of two numbers, by its words
two-short : (w v : List ℕ) (g : ℕ → ℕ → Line) → ((p q : ℕ) → two w p v q ≡ line_bytes (g p q)) → length w + length v + 21 ≤ line_room → (p q : ℕ) → length (line_bytes (g p q)) ≤ line_room
two-short w v g row l p q = short (two w p v q) (line_bytes (g p q)) (length w + length v + 21) line_room (row p q) (two-length w p v q) l

pub part_length : (p x : ℕ) → length (line_bytes (Part p x)) ≤ line_room
part_length = two-short (ascii "part ") (ascii " at ") Part part-row (omega arith)

pub coupled-length : (p q : ℕ) → length (line_bytes (Coupled p q)) ≤ line_room
coupled-length = two-short (ascii "coupled ") (ascii " ") Coupled coupled-row (omega arith)

pub before-length : (p q : ℕ) → length (line_bytes (Before p q)) ≤ line_room
before-length = two-short (ascii "before ") (ascii " ") Before before-row (omega arith)

pub after-length : (p q : ℕ) → length (line_bytes (After p q)) ≤ line_room
after-length = two-short (ascii "after ") (ascii " ") After after-row (omega arith)

pub places-length : (n : ℕ) → length (line_bytes (Places n)) ≤ line_room
places-length n = short (one (ascii "places ") n) (line_bytes (Places n)) 18 line_room (places_row n) (one-length (ascii "places ") n) (omega arith)

pub step-length : (k : ℕ) → length (line_bytes (Step k)) ≤ line_room
step-length k = short (one (ascii "step ") k) (line_bytes (Step k)) 16 line_room (step_row k) (one-length (ascii "step ") k) (omega arith)

pub move-length : (p x y : ℕ) → length (line_bytes (Move p x y)) ≤ move_room
move-length p x y =
    short (three (ascii "move ") p (ascii " from ") x (ascii " to ") y) (line_bytes (Move p x y)) 46 move_room (move_row p x y)
    (three-length (ascii "move ") p (ascii " from ") x (ascii " to ") y) (omega arith)
