-- Collecting a text's acts line by line: what is left of its lines, one act more, and what a line's note is at most.
-- Assumes nothing.
use mathlib.Core.Path.{◌≡◌, refl, sym, ap, ◌∙◌}
use mathlib.Core.Bool.{Bool, true, false}
use Prim.Native.Nat.{ℕ, zero, suc, ◌+◌, ◌*◌, ◌<◌, ◌≤◌}
use native.Mathlib.Omega.{arith}
use native.Mathlib.Numerals.{add-one}
use mathlib.Core.List.{List, [], ◌∷◌, ◌++◌, map, foldl, append-nil}
use lib.Dec.{leb, ltb}
use lib.ListN.{length, take, drop, set, length-set}
use lib.Seq.{slice, take-set-le, take-suc-set}
use borrow.Author.Tests.{ltb-true, ltb-false, leb-true, le-leb, lt-leb}
use Rattle.net.specs.Tests.{pick}
use Rattle.lexing.specs.Tokens.{lines_of, row}
use Rattle.lexing.specs.Found.{Reaches}
use Rattle.lexing.specs.declared.Class.TheVariants.{InLine}
use Rattle.sheet_text.specs.Lines.{line_of}
use Rattle.sheet_text.specs.declared.Line.{Line}
use Rattle.sheet_text.specs.declared.Line.TheVariants.{Blank, Places, Part, Coupled, Step, Move, Before, After, Wrong}
use Rattle.sheet_text.proofs.FirstLine.{line-here, line-last}
use Rattle.sheet_text.proofs.Small.{of_bytes, line-bytes}
use Rattle.sheet_draft.specs.declared.Note.{Note}
use Rattle.sheet_draft.specs.declared.Noted.{Noted}
use Rattle.sheet_draft.specs.Notes.{note_of, Notes, notes, after, noted, lines_in, notes_of, most_bytes, Collected}

-- ---- the lines from a position on; none behind the last

abbrev pub rest_lines : List ℕ → ℕ → List Line
rest_lines s at = pick (leb at (length s)) (lines_in (drop at s)) []

pub rest-line : (s : List ℕ) (at to : ℕ) (l : Line) → at ≤ length s → Reaches s at InLine to → l ≡ line_of (row 8 (slice at to s)) → rest_lines s at ≡ l ∷ rest_lines s (to + 1)
rest-line s at to l h r e = rw (le-leb at (length s) h, e) (go (ltb to (length s)) refl)
  where
    lines : List (List ℕ) → List Line
    lines xs = map line_of (map (row 8) xs)

    go : (b : Bool) → ltb to (length s) ≡ b → lines (lines_of (drop at s)) ≡ line_of (row 8 (slice at to s)) ∷ rest_lines s (to + 1)
    go true d = let k : to < length s = ltb-true to (length s) d in ap lines (line-here s at to r k) ∙ rw (le-leb (to + 1) (length s) (omega arith))
    go false d = let k : length s ≤ to = ltb-false to (length s) d in ap lines (line-last s at to r k) ∙ rw (lt-leb (to + 1) (length s) (omega arith))

-- ---- an act stored behind the others, or none

pub stored : (acts : List ℕ) (n k a : ℕ) → n < length acts → k ≤ 1 → take (n + k) (set acts n a) ≡ take n acts ++ take k (a ∷ [])
stored acts n zero a h l =
    let e : n + 0 ≡ n = omega arith in
    ap (λ (m : ℕ). take m (set acts n a)) e ∙ take-set-le n acts n a (omega arith) ∙ sym (append-nil (take n acts))
stored acts n (suc zero) a h l = ap (λ (m : ℕ). take m (set acts n a)) (add-one n) ∙ take-suc-set acts n a h
stored acts n (suc (suc k)) a h l = absurd (let z : ⊥ = omega arith in z)

-- ---- the note of a line

pub record Small (l : Line) (places steps : ℕ) (n : Note) : Type 0 where
  pub acts : n.acts ≤ 1
  pub one : n.acts ≤ n.size
  pub few : n.size ≤ 7
  pub seven : 7 * n.steps ≤ 7 * steps + n.size
  pub byte : of_bytes l ≡ true → places ≤ 255 → n.places ≤ 255

small : (l : Line) (places steps : ℕ) → Small l places steps (note_of l places steps)
small Blank places steps = record { acts = omega arith; one = omega arith; few = omega arith; seven = omega arith; byte = λ h k. k }
small (Places n) places steps = record { acts = omega arith; one = omega arith; few = omega arith; seven = omega arith; byte = λ h k. leb-true n 255 h }
small (Part p x) places steps = record { acts = omega arith; one = omega arith; few = omega arith; seven = omega arith; byte = λ h k. k }
small (Coupled p q) places steps = record { acts = omega arith; one = omega arith; few = omega arith; seven = omega arith; byte = λ h k. k }
small (Step k) places steps = record { acts = omega arith; one = omega arith; few = omega arith; seven = omega arith; byte = λ h j. j }
small (Move p i o) places steps = record { acts = omega arith; one = omega arith; few = omega arith; seven = omega arith; byte = λ h k. k }
small (Before p q) places steps = record { acts = omega arith; one = omega arith; few = omega arith; seven = omega arith; byte = λ h k. k }
small (After p q) places steps = record { acts = omega arith; one = omega arith; few = omega arith; seven = omega arith; byte = λ h k. k }
small Wrong places steps = record { acts = omega arith; one = omega arith; few = omega arith; seven = omega arith; byte = λ h k. k }

pub note-small : (l : Line) (places steps : ℕ) (x : Note) → x ≡ note_of l places steps → Small l places steps x
note-small l places steps x d = rw d (small l places steps)

-- ---- reading goes on

-- so far the text came to these, and they hold
pub record Sofar (s : List ℕ) (at n places steps size : ℕ) (acts : List ℕ) : Type 0 where
  pub inside : at ≤ length s + 1
  pub few : n ≤ size
  pub upto : size ≤ most_bytes
  pub seven : 7 * steps ≤ size
  pub byte : places ≤ 255
  pub room : 65536 ≤ length acts
  pub same : foldl noted (notes places steps size (take n acts)) (rest_lines s at) ≡ notes_of s

pub sofar-begin : (s acts : List ℕ) → 65536 ≤ length acts → Sofar s 0 0 0 0 12 acts
unfolding notes_of
sofar-begin s acts h = record {
  inside = omega arith;
  few = omega arith;
  upto = omega arith;
  seven = omega arith;
  byte = omega arith;
  room = h;
  same = rw (le-leb 0 (length s) (omega arith));
}

-- a sheet does not grow smaller
size-grows : (x : Notes) (ls : List Line) → x.size ≤ (foldl noted x ls).size
size-grows x [] = omega arith
size-grows x (l ∷ ls) = let h = size-grows (noted x l) ls in omega arith

module _ (s : List ℕ) (at n places steps size : ℕ) (acts : List ℕ) (f : Sofar s at n places steps size acts) (to : ℕ) (l : Line) (x : Note)
    (i : at ≤ length s) (r : Reaches s at InLine to) (e : l ≡ line_of (row 8 (slice at to s))) (d : x ≡ note_of l places steps) where
  go_on : foldl noted (after (notes places steps size (take n acts)) x) (rest_lines s (to + 1)) ≡ notes_of s
  go_on =
      ap (λ (y : Note). foldl noted (after (notes places steps size (take n acts)) y) (rest_lines s (to + 1))) d
      ∙ ap (foldl noted (notes places steps size (take n acts))) (sym (rest-line s at to l i r e)) ∙ f.same

  pub sofar-on : size + x.size ≤ most_bytes → Sofar s (to + 1) (n + x.acts) x.places x.steps (size + x.size) (set acts n x.act)
  sofar-on u =
      let m = note-small l places steps x d in
      let b : of_bytes l ≡ true = rw e (line-bytes (row 8 (slice at to s))) in
      let k : n < length acts = omega (arith, f.few, f.upto, f.room) in
      record {
        inside = omega (arith, r.to);
        few = omega (arith, m.one, f.few);
        upto = u;
        seven = omega (arith, m.seven, f.seven);
        byte = m.byte b f.byte;
        room = rw (length-set acts n x.act) f.room;
        same = ap (λ (y : List ℕ). foldl noted (notes x.places x.steps (size + x.size) y) (rest_lines s (to + 1))) (stored acts n x.acts x.act k m.acts) ∙ go_on;
      }

  pub too_large : most_bytes < size + x.size → false ≡ leb (notes_of s).size most_bytes
  too_large u =
      let g = size-grows (after (notes places steps size (take n acts)) x) (rest_lines s (to + 1)) in
      let h : (notes_of s).size ≡ (foldl noted (after (notes places steps size (take n acts)) x) (rest_lines s (to + 1))).size = ap (λ (y : Notes). y.size) (sym go_on) in
      sym (lt-leb (notes_of s).size most_bytes (omega arith))

-- behind the last line
pub collected : (s : List ℕ) (at n places steps size : ℕ) (acts : List ℕ) → Sofar s at n places steps size acts → length s < at → (r : Noted) → r ≡ record { acts = n; places = places; steps = steps; size = size } → Collected s acts r
collected s at n places steps size acts f h r e =
    let same : notes places steps size (take n acts) ≡ notes_of s =
    ap (foldl noted (notes places steps size (take n acts))) (sym (none_left)) ∙ f.same in
    rw e (record {
      fits = rw (← same) (le-leb size most_bytes f.upto);
      all = same;
      few = omega (arith, f.few, f.upto);
      room = omega (arith, f.few, f.upto, f.room);
      places = f.byte;
    })
  where
    none_left : rest_lines s at ≡ []
    none_left = rw (lt-leb at (length s) h)
