-- The net that a text describes, or the first line that cannot stand where it does, and its number; and the text of a net.
-- Definitions only.
use Rattle.std.specs.Prelude.{Bool, true, false, not, ◌&&◌, ◌||◌, ℕ, suc, List, [], ◌∷◌, ◌++◌, map, eqb, length}
use Rattle.net.specs.Tests.{pick}
use Rattle.net.specs.Net.{Arcs, Net, bond, no_arcs}
use Rattle.net.specs.declared.Bond.{Bond}
use Rattle.net.specs.declared.Entry.{Entry}
use Rattle.lexing.specs.Tokens.{lines_of, row}
use Rattle.lexing.specs.Printed.{text_of}
use Rattle.sheet_text.specs.declared.Line.{Line}
use Rattle.sheet_text.specs.declared.Line.TheVariants.{Blank, Places, Part, Coupled, Step, Move, Before, After, Wrong}
use Rattle.sheet_text.specs.Lines.{line_of, line_tokens}

-- ---- a net in the making

abbrev pub draft : ℕ → ℕ → List ℕ → List Bond → List Arcs → Net
draft places bases ps bs ts = record { places = places; bases = bases; transitions = ts; start = record { places = ps; bonds = bs } }

abbrev pub nothing : Net
nothing = draft 0 0 [] [] []

abbrev pub none : List Arcs → Bool
none [] = true
none (t ∷ ts) = false

-- the last step, changed
abbrev pub on_last : (Arcs → Arcs) → List Arcs → List Arcs
on_last f [] = []
on_last f (t ∷ []) = f t ∷ []
on_last f (t ∷ (u ∷ us)) = t ∷ on_last f (u ∷ us)

abbrev pub arcs : List Entry → List Bond → List Bond → Arcs
arcs es is os = record { entries = es; in_bonds = is; out_bonds = os }

abbrev pub in_step : Net → (Arcs → Arcs) → Net
in_step net f = draft net.places net.bases net.start.places net.start.bonds (on_last f net.transitions)

abbrev pub is_places : Line → Bool
is_places Blank = false
is_places (Places n) = true
is_places (Part p x) = false
is_places (Coupled p q) = false
is_places (Step k) = false
is_places (Move p i o) = false
is_places (Before p q) = false
is_places (After p q) = false
is_places Wrong = false

-- ---- may a line stand here: `places` once, whatever its number; parts and steps in the order of their numbers, without a
-- gap; `places` and the start before the steps; what a step does behind its `step`. `told`: `places` was given

abbrev pub admits : Bool → Net → Line → Bool
admits told net Blank = true
admits told net (Places n) = not told && none net.transitions
admits told net (Part p x) = eqb p net.bases && none net.transitions
admits told net (Coupled p q) = none net.transitions
admits told net (Step k) = eqb k (length net.transitions)
admits told net (Move p i o) = not (none net.transitions)
admits told net (Before p q) = not (none net.transitions)
admits told net (After p q) = not (none net.transitions)
admits told net Wrong = false

abbrev pub added : Net → Line → Net
added net Blank = net
added net (Places n) = draft n net.bases net.start.places net.start.bonds net.transitions
added net (Part p x) = draft net.places (suc net.bases) (net.start.places ++ (x ∷ [])) net.start.bonds net.transitions
added net (Coupled p q) = draft net.places net.bases net.start.places (net.start.bonds ++ (bond p q ∷ [])) net.transitions
added net (Step k) = draft net.places net.bases net.start.places net.start.bonds (net.transitions ++ (no_arcs ∷ []))
added net (Move p i o) = in_step net (λ (t : Arcs). arcs (t.entries ++ (record { base = p; from = i; to = o } ∷ [])) t.in_bonds t.out_bonds)
added net (Before p q) = in_step net (λ (t : Arcs). arcs t.entries (t.in_bonds ++ (bond p q ∷ [])) t.out_bonds)
added net (After p q) = in_step net (λ (t : Arcs). arcs t.entries t.in_bonds (t.out_bonds ++ (bond p q ∷ [])))
added net Wrong = net

pub data Reading : Type 0 where
  understood : Net → Reading
  mistake : ℕ → Line → Reading

-- the lines from line k on
abbrev pub read_from : ℕ → Bool → Net → List Line → Reading
read_from k told net [] = understood net
read_from k told net (l ∷ ls) = pick (admits told net l) (read_from (suc k) (is_places l || told) (added net l) ls) (mistake k l)

-- a line is looked at as far as this item; no form has so many
abbrev pub max_items : ℕ
max_items = 8

unfoldable pub read_text : List ℕ → Reading
read_text s = read_from 1 false nothing (map line_of (map (row max_items) (lines_of s)))

-- ---- printing

abbrev pub part_lines : ℕ → List ℕ → List Line
part_lines p [] = []
part_lines p (x ∷ xs) = Part p x ∷ part_lines (suc p) xs

abbrev pub coupled_lines : List Bond → List Line
coupled_lines bs = map (λ (b : Bond). Coupled b.lo b.hi) bs

abbrev pub move_lines : List Entry → List Line
move_lines es = map (λ (e : Entry). Move e.base e.from e.to) es

abbrev pub before_lines : List Bond → List Line
before_lines bs = map (λ (b : Bond). Before b.lo b.hi) bs

abbrev pub after_lines : List Bond → List Line
after_lines bs = map (λ (b : Bond). After b.lo b.hi) bs

abbrev pub arcs_lines : Arcs → List Line
arcs_lines t = move_lines t.entries ++ (before_lines t.in_bonds ++ after_lines t.out_bonds)

abbrev pub step_lines : ℕ → List Arcs → List Line
step_lines k [] = []
step_lines k (t ∷ ts) = Step k ∷ (arcs_lines t ++ step_lines (suc k) ts)

abbrev pub net_lines : Net → List Line
net_lines net =
    Places net.places
    ∷ (part_lines 0 net.start.places
    ++ (coupled_lines net.start.bonds
    ++ step_lines 0 net.transitions))

unfoldable pub net_text : Net → List ℕ
net_text net = text_of (map line_tokens (net_lines net))
