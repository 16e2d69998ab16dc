-- The journal (01, the session book): fed the net and the commands' bytes alone, it says what a session is.
-- Definitions only. Numbers and checking order are those of 01's turned-away list.
use Rattle.std.specs.Prelude.{Bool, false, not, ◌&&◌, ◌||◌, List, [], ◌∷◌, ◌++◌, map, ℕ, suc, max, ◌+◌, ◌*◌, eqb, ltb, leb, get_or, length}
use Rattle.causal.specs.Reorderings.{Line}
use Rattle.net.specs.Limits.{max_live, max_key}
use Rattle.net.specs.Tests.{pick, any, keep}
use Rattle.net.specs.Net.{Marking, Net, arcs_of}
use Rattle.net.specs.Firing.{moved, fire, undo, misplaced, bond_absent, bond_present, torn_apart}
use Rattle.net.specs.Checks.{Check, check, clear, first}
use Rattle.net.specs.declared.Transition.{Transition}
use Rattle.net.specs.declared.Key.{Key}

-- A live firing as the journal keeps it (01: a line of the book: step, serial, moved parts).
abbrev pub LiveLine : Type 0
LiveLine = Line Transition Key (List Bool)

-- The highest key that was ever given goes with it (02, T-03).
pub record Journal : Type 0 where
  pub marking : Marking
  pub lines : List LiveLine
  pub given : Key

-- `fired` and `undone` with the key; `refused` with the refusal's number.
pub data Answer : Type 0 where
  fired : Key → Answer
  undone : Key → Answer
  refused : ℕ → Answer

-- The journal after a command, and the answer.
pub record Reply : Type 0 where
  pub journal : Journal
  pub answer : Answer

abbrev pub transition : ℕ → Transition
transition n = record { 0 = n }

abbrev pub key : ℕ → Key
key n = record { 0 = n }

abbrev pub same_key : Key → Key → Bool
same_key k j = eqb k.0 j.0

-- The journal begins with the start places, the start couplings and no line; no key was given.
abbrev pub begin : Net → Journal
begin net = record { marking = net.start; lines = []; given = key 0 }

-- ---- A command's bytes (01, commands): a kind, then a two-byte number, low byte first. Nothing after them is read.

abbrev pub kind_of : List ℕ → ℕ
kind_of c = get_or c 0 0

abbrev pub number_of : List ℕ → ℕ
number_of c = get_or c 1 0 + 256 * get_or c 2 0

-- Refusal 21: the command is cut short.
abbrev pub cut_short : List ℕ → Bool
cut_short c = ltb (length c) 3

-- Refusal 11: the kind is not 1, 2 or 3, or kind 2 has a number other than 0.
abbrev pub unreadable : List ℕ → Bool
unreadable c =
    not (eqb (kind_of c) 1 || (eqb (kind_of c) 2 || eqb (kind_of c) 3)) || (eqb (kind_of c) 2 && not (eqb (number_of c) 0))

-- ---- Keys and lines

-- the keys of lines, in their order
abbrev pub line_keys : List LiveLine → List ℕ
line_keys ls = map (λ (l : LiveLine). l.key.0) ls

-- the highest live key; 0 where none is live
abbrev pub highest_live : List LiveLine → Key
highest_live [] = key 0
highest_live (l ∷ ls) = key (max l.key.0 (highest_live ls).0)

-- The key that the next one is one above, and that refusal 18 looks at: the highest that was ever given (02, T-03).
abbrev pub last_given : Journal → Key
last_given j = j.given

abbrev pub is_live : Key → List LiveLine → Bool
is_live k ls = any (λ (l : LiveLine). same_key l.key k) ls

abbrev pub no_line : LiveLine
no_line = record { transition = transition 0; key = key 0; moved = [] }

-- the line of a live key
abbrev pub line_of : Key → List LiveLine → LiveLine
line_of k [] = no_line
line_of k (l ∷ ls) = pick (same_key l.key k) l (line_of k ls)

-- the other lines, in their order
abbrev pub without : Key → List LiveLine → List LiveLine
without k ls = keep (λ (l : LiveLine). not (same_key l.key k)) ls

-- two sets have a common base
abbrev pub common : List Bool → List Bool → Bool
common [] n = false
common (a ∷ m) [] = false
common (a ∷ m) (b ∷ n) = a && b || common m n

-- Refusal 20: a live firing of higher key moved a base that this one moved.
abbrev pub built_on : List LiveLine → LiveLine → Bool
built_on ls l = any (λ (k : LiveLine). ltb l.key.0 k.key.0 && common l.moved k.moved) ls

-- ---- The checks, in checking order

-- A command that cannot be read: cut short (21, whatever bytes of it are there), else 11.
abbrev pub read_checks : List ℕ → List Check
read_checks c = check 21 (cut_short c) ∷ check 11 (unreadable c) ∷ []

-- 12 to 16: whether the marking enables the transition.
abbrev pub enable_checks : Net → Marking → Transition → List Check
enable_checks net s t =
    check 12 (leb (length net.transitions) t.0)
    ∷ check 13 (misplaced (arcs_of net t) s)
    ∷ check 14 (bond_absent (arcs_of net t) s)
    ∷ check 15 (bond_present (arcs_of net t) s)
    ∷ check 16 (torn_apart (arcs_of net t) s)
    ∷ []

-- 17, 18: whether one more firing can be kept.
abbrev pub space_checks : Journal → List Check
space_checks j = check 17 (leb max_live (length j.lines)) ∷ check 18 (leb max_key (last_given j).0) ∷ []

abbrev pub fire_checks : Net → Journal → Transition → List Check
fire_checks net j t = enable_checks net j.marking t ++ space_checks j

-- 19, 20: whether the firing of that key can be taken back.
abbrev pub undo_checks : Journal → Key → List Check
undo_checks j k = check 19 (not (is_live k j.lines)) ∷ check 20 (built_on j.lines (line_of k j.lines)) ∷ []

-- The transition that a command of kind 1 names.
abbrev pub transition_named : List ℕ → Transition
transition_named c = transition (number_of c)

-- The key that a command of kind 2 or 3 means: kind 2 the highest live one (0, which no firing has, where none is live).
abbrev pub key_named : Journal → List ℕ → Key
key_named j c = pick (eqb (kind_of c) 2) (highest_live j.lines) (key (number_of c))

-- 12 to 18 are kind 1's alone, 19 and 20 those of kinds 2 and 3.
abbrev pub kind_checks : Net → Journal → List ℕ → List Check
kind_checks net j c = pick (eqb (kind_of c) 1) (fire_checks net j (transition_named c)) (undo_checks j (key_named j c))

abbrev pub checks : Net → Journal → List ℕ → List Check
checks net j c = read_checks c ++ kind_checks net j c

-- ---- Commands

-- A refusal changes nothing.
abbrev pub refuse : Journal → ℕ → Reply
refuse j n = record { journal = j; answer = refused n }

abbrev pub new_key : Journal → Key
new_key j = key (suc (last_given j).0)

abbrev pub new_line : Net → Journal → Transition → LiveLine
new_line net j t = record { transition = t; key = new_key j; moved = moved net.bases (arcs_of net t) j.marking }

-- Kind 1: the firing, on the journal's places and bonds; its line goes at the end, and its key is the highest given.
abbrev pub fire_reply : Net → Journal → Transition → Reply
fire_reply net j t = record {
  journal = record { marking = fire net.bases (arcs_of net t) j.marking; lines = j.lines ++ (new_line net j t ∷ []); given = new_key j };
  answer = fired (new_key j);
}

-- Kinds 2 and 3: the taking back, with the moved bases on that line; the line goes, the others stay in order, and its key is
-- not given again.
abbrev pub undo_reply : Net → Journal → Key → Reply
undo_reply net j k =
    let l : LiveLine = line_of k j.lines in
    record {
      journal = record { marking = undo net.bases (arcs_of net l.transition) l.moved j.marking; lines = without k j.lines; given = j.given };
      answer = undone k;
    }

-- One command.
abbrev pub act : Net → Journal → List ℕ → Reply
act net j c = pick (clear (checks net j c))
    (pick (eqb (kind_of c) 1) (fire_reply net j (transition_named c)) (undo_reply net j (key_named j c)))
    (refuse j (first (checks net j c)))

-- A list of commands: the journal after them, and their answers.
abbrev pub play : Net → List (List ℕ) → Journal → Journal
play net [] j = j
play net (c ∷ cs) j = play net cs (act net j c).journal

abbrev pub answers : Net → List (List ℕ) → Journal → List Answer
answers net [] j = []
answers net (c ∷ cs) j = (act net j c).answer ∷ answers net cs (act net j c).journal
