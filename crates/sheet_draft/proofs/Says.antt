-- The notes of an understood text say its net and how many bytes its sheet has.
-- Assumes nothing.
use mathlib.Core.Path.{◌≡◌, refl, ap, subst, ◌∙◌}
use mathlib.Core.Bool.{Bool, true, false, ◌&&◌, ◌||◌}
use Prim.Native.Nat.{ℕ, suc, ◌+◌, ◌*◌, ◌≤◌}
use native.Mathlib.Omega.{arith}
use mathlib.Core.List.{List, [], ◌∷◌, ◌++◌, map, foldl, append-nil}
use lib.Dec.{leb}
use borrow.Author.Tests.{leb-true}
use Rattle.net.specs.Tests.{pick, all}
use Rattle.net.specs.Net.{Net}
use Rattle.net.proofs.Tests.{and_l, and_r, and_i}
use Rattle.lexing.specs.Tokens.{Token, lines_of, row}
use Rattle.lexing.proofs.Items.{never}
use Rattle.sheet_text.specs.Lines.{most, line_of}
use Rattle.sheet_text.specs.Reading.{nothing, is_places, admits, added, Reading, understood, mistake, read_from, read_text}
use Rattle.sheet_text.specs.declared.Line.{Line}
use Rattle.sheet_text.specs.declared.Line.TheVariants.{Blank, Places, Part, Coupled, Step, Move, Before, After, Wrong}
use Rattle.sheet_text.proofs.Small.{of_bytes, line-bytes}
use Rattle.sheet_draft.specs.Acts.{tag_of, part_tag, coupled_tag, net_in}
use Rattle.sheet_draft.specs.Notes.{Notes, notes, noted, note_of, blank_notes, lines_in, notes_of}
use Rattle.sheet_draft.proofs.Draft.{Below, below_more, tag_back, part-adds, coupled-adds, step-adds, move-adds, before-adds, after-adds}
use Rattle.sheet_draft.proofs.Sizes.{size_of, size-added}

-- these notes say this net
pub record Says (x : Notes) (net : Net) : Type 0 where
  pub same : net ≡ net_in x.places x.steps x.acts
  pub below : Below (3 * x.steps + 3) x.acts
  pub size : x.size ≡ size_of net

byte : (n : ℕ) → leb n most ≡ true → n ≤ 255
byte n h = leb-true n most h

two : (p q : ℕ) → (leb p most && leb q most) ≡ true → (p ≤ 255) × (q ≤ 255)
two p q h = (byte p (and_l (leb p most) (leb q most) h), byte q (and_r (leb p most) (leb q most) h))

-- the net and the tags behind one line more
abbrev Behind : ℕ → ℕ → List ℕ → Line → Type 0
Behind P S A l = let x : Notes = noted (notes P S 0 A) l in (added (net_in P S A) l ≡ net_in x.places x.steps x.acts) × Below (3 * x.steps + 3) x.acts

-- a line that is no act
unacted : (P S S' : ℕ) (A : List ℕ) (net : Net) → S ≤ S' → Below (3 * S + 3) A → net ≡ net_in P S' A → (net ≡ net_in P S' (A ++ [])) × Below (3 * S' + 3) (A ++ [])
unacted P S S' A net l b e = rw (append-nil A) (e, λ t k. b t (omega arith))

-- a line that is an act
acted : (P S : ℕ) (A : List ℕ) (w tag : ℕ) (net : Net) → tag_of w ≡ tag → tag ≤ 3 * S + 2 → Below (3 * S + 3) A → net ≡ net_in P S (A ++ (w ∷ [])) → (net ≡ net_in P S (A ++ (w ∷ []))) × Below (3 * S + 3) (A ++ (w ∷ []))
acted P S A w tag net t l b e = (e, below_more (3 * S + 3) A w (omega arith) b)

behind : (told : Bool) (P S : ℕ) (A : List ℕ) (l : Line) → admits told (net_in P S A) l ≡ true → of_bytes l ≡ true → Below (3 * S + 3) A → Behind P S A l
behind told P S A Blank h k b = unacted P S S A _ (omega arith) b refl
behind told P S A (Places n) h k b = unacted n S S A _ (omega arith) b refl
behind told P S A (Part p x) h k b =
    let (c, d) = two p x k in
    acted P S A _ part_tag _ (tag_back part_tag x 0 0 d (omega arith) (omega arith)) (omega arith) b (part-adds P A S p x d)
behind told P S A (Coupled p q) h k b =
    let (c, d) = two p q k in
    acted P S A _ coupled_tag _ (tag_back coupled_tag p q 0 c d (omega arith)) (omega arith) b (coupled-adds P A S p q c d)
behind told P S A (Step n) h k b = unacted P S (S + 1) A _ (omega arith) b (step-adds P A S n b)
behind told P S A (Move p i o) h k b =
    let c : p ≤ 255 = byte p (and_l (leb p most) (leb i most && leb o most) k) in
    let (d, e) = two i o (and_r (leb p most) (leb i most && leb o most) k) in
    acted P S A _ (3 * S) _ (tag_back (3 * S) p i o c d e) (omega arith) b (move-adds P A S p i o c d e h)
behind told P S A (Before p q) h k b =
    let (c, d) = two p q k in
    acted P S A _ (3 * S + 1) _ (tag_back (3 * S + 1) p q 0 c d (omega arith)) (omega arith) b (before-adds P A S p q c d h)
behind told P S A (After p q) h k b =
    let (c, d) = two p q k in
    acted P S A _ (3 * S + 2) _ (tag_back (3 * S + 2) p q 0 c d (omega arith)) (omega arith) b (after-adds P A S p q c d h)
behind told P S A Wrong h k b = never h

says_on : (told : Bool) (x : Notes) (net : Net) (l : Line) → admits told net l ≡ true → of_bytes l ≡ true → Says x net → Says (noted x l) (added net l)
says_on told x net l h k s =
    let b = behind told x.places x.steps x.acts l (subst (λ (n : Net). admits told n l ≡ true) s.same h) k s.below in
    record {
      same = ap (λ (n : Net). added n l) s.same ∙ b.0;
      below = b.1;
      size = ap (λ (n : ℕ). n + (note_of l x.places x.steps).size) s.size ∙ size-added told net l x.places x.steps h;
    }

says_all : (k : ℕ) (told : Bool) (net : Net) (x : Notes) (ls : List Line) (end : Net) → Says x net → all of_bytes ls ≡ true → read_from k told net ls ≡ understood end → Says (foldl noted x ls) end
says_all k told net x [] end s h e = let d : net ≡ end = cc in subst (λ (n : Net). Says x n) d s
says_all k told net x (l ∷ ls) end s h e =
    go (admits told net l) refl (λ a d. says_all (suc k) (is_places l || told) (added net l) (noted x l) ls end
    (says_on told x net l a (and_l (of_bytes l) (all of_bytes ls) h) s) (and_r (of_bytes l) (all of_bytes ls) h) d) e
  where
    rest : Reading
    rest = read_from (suc k) (is_places l || told) (added net l) ls

    go : (b : Bool) → admits told net l ≡ b → (admits told net l ≡ true → rest ≡ understood end → Says (foldl noted (noted x l) ls) end)
        → pick b rest (mistake k l) ≡ understood end → Says (foldl noted (noted x l) ls) end
    go true a f d = f a d
    go false a f d = absurd (let z : ◌≡◌ {A = ℕ} 0 1 = cc in let g : ⊥ = omega arith in g)

lines-bytes : (xs : List (List Token)) → all of_bytes (map line_of xs) ≡ true
lines-bytes [] = refl
lines-bytes (x ∷ xs) = and_i (of_bytes (line_of x)) (all of_bytes (map line_of xs)) (line-bytes x) (lines-bytes xs)

pub says-text : (s : List ℕ) (net : Net) → read_text s ≡ understood net → Says (notes_of s) net
unfolding read_text notes_of
says-text s net e = says_all 1 false nothing blank_notes (lines_in s) net (record { same = refl; below = λ t h. refl; size = refl }) (lines-bytes (map (row 8) (lines_of s))) e

-- ---- a mistake's line is numbered from 1

numbered : (k : ℕ) (told : Bool) (net : Net) (ls : List Line) (j : ℕ) (l : Line) → read_from k told net ls ≡ mistake j l → k ≤ j
numbered k told net [] j l e = absurd (let z : ◌≡◌ {A = ℕ} 0 1 = cc in let f : ⊥ = omega arith in f)
numbered k told net (x ∷ ls) j l e = go (admits told net x) (λ d. numbered (suc k) (is_places x || told) (added net x) ls j l d) e
  where
    rest : Reading
    rest = read_from (suc k) (is_places x || told) (added net x) ls

    go : (b : Bool) → (rest ≡ mistake j l → suc k ≤ j) → pick b rest (mistake k x) ≡ mistake j l → k ≤ j
    go true f d = let h = f d in omega arith
    go false f d = let z : k ≡ j = cc in omega arith

pub from_one : (s : List ℕ) (j : ℕ) (l : Line) → read_text s ≡ mistake j l → 1 ≤ j
unfolding read_text
from_one s j l e = numbered 1 false nothing (lines_in s) j l e
