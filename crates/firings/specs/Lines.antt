-- The live firings of a record (01, commands, record, tally) and the lines of a journal, each as the other has it.
-- Definitions only. n is the number of bases.
use Rattle.std.specs.Prelude.{List, ◌∷◌, ◌++◌, map, ℕ, ◌+◌, ◌-◌, length, get_or, set, drop}
use Rattle.net.specs.Limits.{max_live}
use Rattle.net.specs.Tests.{table}
use Rattle.net.specs.Journal.{LiveLine, transition, key, line_keys}
use Rattle.words.specs.Sets.{set_of, packed}
use Rattle.marking.specs.Shift.{gap}
use Rattle.marking.specs.Form.{padded}
use Rattle.firings.specs.declared.Firing.{Firing}
use Rattle.firings.specs.declared.Firings.{Firings}

-- live firings that lie in lent arrays, as the struct that holds them
abbrev pub lying : ℕ → List ℕ → List ℕ → List ℕ → Firings
lying live transitions keys moved = record { live = live; transitions = transitions; keys = keys; moved = moved }

-- the firing at i
abbrev pub firing_at : List ℕ → List ℕ → List ℕ → ℕ → Firing
firing_at transitions keys moved i = record { transition = get_or transitions i 0; key = key (get_or keys i 0); moved = get_or moved i 0 }

-- a firing as a line
abbrev pub as_line : ℕ → Firing → LiveLine
as_line n f = record { transition = transition f.transition; key = f.key; moved = set_of n f.moved }

-- the lines that the live firings are
abbrev pub lines_in : ℕ → Firings → List LiveLine
lines_in n f = table f.live (λ i. as_line n (firing_at f.transitions f.keys f.moved i))

-- the steps and the moved sets of lines, as the arrays keep them
abbrev pub steps_of : List LiveLine → List ℕ
steps_of ls = map (λ (l : LiveLine). l.transition.0) ls

abbrev pub sets_of : List LiveLine → List ℕ
sets_of ls = map (λ (l : LiveLine). packed l.moved) ls

-- lines as arrays: the unused entries after them hold 0
abbrev pub firings_of : List LiveLine → Firings
firings_of ls = record {
  live = length ls;
  transitions = padded max_live (steps_of ls);
  keys = padded max_live (line_keys ls);
  moved = padded max_live (sets_of ls);
}

-- The first k numbers of an array without the one at i: the later ones close up, and the entry that this frees holds 0.
abbrev pub closed : ℕ → ℕ → List ℕ → List ℕ
closed k i l = table (k - 1) (gap i (λ j. get_or l j 0)) ++ (0 ∷ drop k l)

-- the live firings without the one at i
abbrev pub closed_up : ℕ → Firings → Firings
closed_up i f = record {
  live = f.live - 1;
  transitions = closed f.live i f.transitions;
  keys = closed f.live i f.keys;
  moved = closed f.live i f.moved;
}

-- the live firings with one more after them
abbrev pub pushed : Firing → Firings → Firings
pushed x f = record {
  live = f.live + 1;
  transitions = set f.transitions f.live x.transition;
  keys = set f.keys f.live x.key.0;
  moved = set f.moved f.live x.moved;
}
