-- What is left of a text, read behind what was read.
-- Assumes nothing.
use mathlib.Core.Path.{◌≡◌, refl, sym, ap, ◌∙◌}
use mathlib.Core.Bool.{Bool, true, false, not, ◌&&◌, ◌||◌}
use Prim.Native.Nat.{ℕ, suc, ◌+◌, ◌≤◌}
use native.Mathlib.Omega.{arith}
use native.Mathlib.Numerals.{add-one}
use mathlib.Core.List.{List, [], ◌∷◌, map}
use lib.Dec.{eqb}
use borrow.Author.Tests.{ne_eqb}
use lib.ListN.{length, drop, length-append}
use lib.Seq.{slice}
use Rattle.net.specs.Net.{Arcs, Net, no_arcs}
use Rattle.lexing.specs.Tokens.{lines_of, row, next_of}
use Rattle.sheet_text.specs.Lines.{line_of}
use Rattle.sheet_text.specs.Reading.{none, on_last, nothing, is_places, admits, added, read_from, read_text}
use Rattle.sheet_text.specs.declared.Line.{Line}
use Rattle.sheet_text.specs.declared.Line.TheVariants.{Blank, Places, Part, Coupled, Step, Move, Before, After, Wrong}
use Rattle.sheet_text.specs.Counts.{admits_by, counts, counts_after, at_line, mistake_in}
use Rattle.sheet_text.specs.declared.Counts.{Counts}
use Rattle.sheet_text.proofs.FirstLine.{line-none, line-some}
use Rattle.lexing.specs.Found.{Reaches}
use Rattle.lexing.specs.declared.Class.TheVariants.{InLine}

abbrev counts_of : Bool → Net → Counts
counts_of told net = counts told net.bases (length net.transitions)

none-length : (ts : List Arcs) → none ts ≡ eqb (length ts) 0
none-length [] = refl
none-length (t ∷ ts) = sym (ne_eqb (suc (length ts)) 0 (λ e. omega arith))

admits-by : (told : Bool) (net : Net) (l : Line) → admits told net l ≡ admits_by told net.bases (length net.transitions) l
admits-by told net Blank = refl
admits-by told net (Places n) = ap (λ (b : Bool). not told && b) (none-length net.transitions)
admits-by told net (Part p x) = ap (λ (b : Bool). eqb p net.bases && b) (none-length net.transitions)
admits-by told net (Coupled p q) = none-length net.transitions
admits-by told net (Step k) = refl
admits-by told net (Move p i o) = ap not (none-length net.transitions)
admits-by told net (Before p q) = ap not (none-length net.transitions)
admits-by told net (After p q) = ap not (none-length net.transitions)
admits-by told net Wrong = refl

pub last-length : (f : Arcs → Arcs) (ts : List Arcs) → length (on_last f ts) ≡ length ts
last-length f [] = refl
last-length f (t ∷ []) = refl
last-length f (t ∷ (u ∷ ts)) = ap suc (last-length f (u ∷ ts))

counts-after : (told : Bool) (net : Net) (l : Line) → counts_of (is_places l || told) (added net l) ≡ counts_after told net.bases (length net.transitions) l
counts-after told net Blank = refl
counts-after told net (Places n) = refl
counts-after told net (Part p x) = ap (λ (k : ℕ). counts told k (length net.transitions)) (sym (add-one net.bases))
counts-after told net (Coupled p q) = refl
counts-after told net (Step k) = ap (counts told net.bases) (length-append net.transitions (no_arcs ∷ []))
counts-after told net (Move p i o) = ap (counts told net.bases) (last-length _ net.transitions)
counts-after told net (Before p q) = ap (counts told net.bases) (last-length _ net.transitions)
counts-after told net (After p q) = ap (counts told net.bases) (last-length _ net.transitions)
counts-after told net Wrong = refl

told-after : (told : Bool) (parts steps : ℕ) (l : Line) → (counts_after told parts steps l).told ≡ (is_places l || told)
told-after told parts steps Blank = refl
told-after told parts steps (Places n) = refl
told-after told parts steps (Part p x) = refl
told-after told parts steps (Coupled p q) = refl
told-after told parts steps (Step k) = refl
told-after told parts steps (Move p i o) = refl
told-after told parts steps (Before p q) = refl
told-after told parts steps (After p q) = refl
told-after told parts steps Wrong = refl

-- ---- the lines of a text

abbrev lines_in : List ℕ → List Line
lines_in s = map line_of (map (row 8) (lines_of s))

blank : line_of (row 8 []) ≡ Blank
unfolding line_of next_of
blank = refl

-- reading the text goes on at a, on line k, behind so many parts and steps; `told`: and behind `places`
pub record Rest (s : List ℕ) (a k : ℕ) (told : Bool) (parts steps : ℕ) : Type 0 where
  pub net : Net
  pub counted : counts_of told net ≡ counts told parts steps
  pub same : read_from k told net (lines_in (drop a s)) ≡ read_text s

pub rest-begin : (s : List ℕ) → Rest s 0 1 false 0 0
unfolding read_text
rest-begin s = record { net = nothing; counted = refl; same = refl }

module _ (s : List ℕ) (a k : ℕ) (told : Bool) (parts steps : ℕ) (r : Rest s a k told parts steps) where
  admits-rest : (l : Line) → admits told r.net l ≡ admits_by told parts steps l
  admits-rest l = admits-by told r.net l ∙ ap (λ (c : Counts). admits_by c.told c.parts c.steps l) r.counted

  module _ (x : List ℕ) (xs : List (List ℕ)) (l : Line) (e : lines_of (drop a s) ≡ x ∷ xs) (d : l ≡ line_of (row 8 x)) where
    same_line : read_from k told r.net (l ∷ map line_of (map (row 8) xs)) ≡ read_text s
    same_line = ap (λ (m : Line). read_from k told r.net (m ∷ map line_of (map (row 8) xs))) d ∙ ap (λ (ls : List (List ℕ)). read_from k told r.net (map line_of (map (row 8) ls))) (sym e) ∙ r.same

    pub rest-wrong : admits_by told parts steps l ≡ false → at_line k l ≡ mistake_in (read_text s)
    rest-wrong f = (let g : admits told r.net l ≡ false = admits-rest l ∙ f in rw g) ∙ ap mistake_in same_line

    module _ (f : admits_by told parts steps l ≡ true) where
      same-on : read_from (suc k) (is_places l || told) (added r.net l) (map line_of (map (row 8) xs)) ≡ read_text s
      same-on = (let g : admits told r.net l ≡ true = admits-rest l ∙ f in rw g) ∙ same_line

      pub rest-on : (b : ℕ) → xs ≡ lines_of (drop b s) → Rest s b (k + 1) (counts_after told parts steps l).told (counts_after told parts steps l).parts (counts_after told parts steps l).steps
      rest-on b q = record {
        net = added r.net l;
        counted = ap (λ (t : Bool). counts_of t (added r.net l)) (told-after told parts steps l) ∙ counts-after told r.net l ∙ ap
            (λ (c : Counts). counts_after c.told c.parts c.steps l) r.counted;
        same = rw (add-one k, ← q, told-after told parts steps l) same-on;
      }

  pub rest-last : (x : List ℕ) (l : Line) → lines_of (drop a s) ≡ x ∷ [] → l ≡ line_of (row 8 x) → admits_by told parts steps l ≡ true → at_line 0 Blank ≡ mistake_in (read_text s)
  rest-last x l e d f = ap mistake_in (same-on x [] l e d f)

  pub rest_end : length s ≤ a → at_line 0 Blank ≡ mistake_in (read_text s)
  rest_end h = rest-last [] (line_of (row 8 [])) (line-none s a h) refl (blank-by)
    where
      blank-by : admits_by told parts steps (line_of (row 8 [])) ≡ true
      blank-by = rw blank

  pub rest-refused : (b : ℕ) → Reaches s a InLine b → (l : Line) → l ≡ line_of (row 8 (slice a b s)) → admits_by told parts steps l ≡ false → at_line k l ≡ mistake_in (read_text s)
  rest-refused b h l d f = let (xs, e) = line-some s a b h in rest-wrong (slice a b s) xs l e d f

-- one part and one step more at most
pub few-parts : (told : Bool) (parts steps : ℕ) (l : Line) → (counts_after told parts steps l).parts ≤ parts + 1
few-parts told parts steps Blank = omega arith
few-parts told parts steps (Places n) = omega arith
few-parts told parts steps (Part p x) = omega arith
few-parts told parts steps (Coupled p q) = omega arith
few-parts told parts steps (Step k) = omega arith
few-parts told parts steps (Move p i o) = omega arith
few-parts told parts steps (Before p q) = omega arith
few-parts told parts steps (After p q) = omega arith
few-parts told parts steps Wrong = omega arith

pub few-steps : (told : Bool) (parts steps : ℕ) (l : Line) → (counts_after told parts steps l).steps ≤ steps + 1
few-steps told parts steps Blank = omega arith
few-steps told parts steps (Places n) = omega arith
few-steps told parts steps (Part p x) = omega arith
few-steps told parts steps (Coupled p q) = omega arith
few-steps told parts steps (Step k) = omega arith
few-steps told parts steps (Move p i o) = omega arith
few-steps told parts steps (Before p q) = omega arith
few-steps told parts steps (After p q) = omega arith
few-steps told parts steps Wrong = omega arith
