-- What claims on a session are written in: the forward run of a list of lines, keys taken back by command, document 01's totals.
-- Definitions only.
use Rattle.std.specs.Prelude.{◌≡◌, Bool, true, not, ◌&&◌, List, [], ◌∷◌, map, ℕ, suc, ◌+◌, ◌/◌, ◌%◌, ltb, length}
use Rattle.net.specs.Tests.{count}
use Rattle.net.specs.Net.{Arcs, Net, has_bond, arcs_of}
use Rattle.net.specs.Marking.{Good}
use Rattle.net.specs.Journal.{LiveLine, Journal, Answer, fired, undone, refused, key}
use Rattle.net.specs.declared.Bond.{Bond}
use Rattle.net.specs.declared.Transition.{Transition}
use Rattle.net.specs.declared.Key.{Key}

-- ---- The forward run (01, the session book; the mission's demand 3)

-- a transition as a command of kind 1
abbrev pub fire_command : Transition → List ℕ
fire_command t = 1 ∷ t.0 % 256 ∷ t.0 / 256 ∷ []

abbrev pub fire_commands : List LiveLine → List (List ℕ)
fire_commands ls = map (λ (l : LiveLine). fire_command l.transition) ls

-- the same transitions and moved bases, with keys k + 1, k + 2, ..
abbrev pub numbered : ℕ → List LiveLine → List LiveLine
numbered k [] = []
numbered k (l ∷ ls) = record { transition = l.transition; key = key (suc k); moved = l.moved } ∷ numbered (suc k) ls

-- each command is answered `fired`, with keys k + 1, k + 2, ..
abbrev pub all_fired : ℕ → List LiveLine → List Answer
all_fired k [] = []
all_fired k (l ∷ ls) = fired (key (suc k)) ∷ all_fired (suc k) ls

-- ---- Taking back by key (01, commands: kind 3)

-- a key as a command of kind 3
abbrev pub undo_command : Key → List ℕ
undo_command k = 3 ∷ k.0 % 256 ∷ k.0 / 256 ∷ []

abbrev pub undo_commands : List Key → List (List ℕ)
undo_commands ks = map undo_command ks

-- each command is answered `undone`, with its key
abbrev pub all_undone : List Key → List Answer
all_undone ks = map undone ks

-- ---- Serials (02, T-03)

-- the keys of the answers `fired`, in their order
abbrev pub key_first : Answer → List ℕ → List ℕ
key_first (fired k) ks = k.0 ∷ ks
key_first (undone k) ks = ks
key_first (refused n) ks = ks

abbrev pub keys_fired : List Answer → List ℕ
keys_fired [] = []
keys_fired (a ∷ rest) = key_first a (keys_fired rest)

-- strictly ascending, the first above k
abbrev pub rises : ℕ → List ℕ → Bool
rises k [] = true
rises k (n ∷ ns) = ltb k n && rises n ns

-- ---- The totals (01, firing and taking back, the last paragraph; 02, T-07)

-- the out-bonds that are no in-bonds, in number
abbrev pub new_bonds : Arcs → ℕ
new_bonds t = count (λ (b : Bond). not (has_bond b t.in_bonds)) t.out_bonds

abbrev pub all_new_bonds : Net → List LiveLine → ℕ
all_new_bonds net [] = 0
all_new_bonds net (l ∷ ls) = new_bonds (arcs_of net l.transition) + all_new_bonds net ls

-- the in-bonds that are no out-bonds, in number
abbrev pub broken_bonds : Arcs → ℕ
broken_bonds t = count (λ (b : Bond). not (has_bond b t.out_bonds)) t.in_bonds

abbrev pub all_broken_bonds : Net → List LiveLine → ℕ
all_broken_bonds net [] = 0
all_broken_bonds net (l ∷ ls) = broken_bonds (arcs_of net l.transition) + all_broken_bonds net ls

-- At every point of a session: each base is in one place of the net and bonded bases share a place (`Good`); the bonds,
-- with those that live firings broke, number those of the start and, for each live firing, its new ones.
pub record Totals (net : Net) (j : Journal) : Type 0 where
  pub good : Good net j.marking
  pub bonds : length j.marking.bonds + all_broken_bonds net j.lines ≡ length net.start.bonds + all_new_bonds net j.lines
