-- Sheet B as a net, and document 01's marked cases M1 to M12 on it, as a table.
-- Definitions only; proofs/Cases has the one theorem over the table.
use Rattle.std.specs.Prelude.{◌≡◌, Bool, true, false, List, [], ◌∷◌, ℕ}
use Rattle.net.specs.Net.{Arcs, Marking, Net, bond}
use Rattle.net.specs.Journal.{LiveLine, Answer, fired, undone, refused, transition, key, begin, act, play}
use Rattle.net.specs.Claims.{fire_command, undo_command}
use Rattle.net.specs.declared.Bond.{Bond}
use Rattle.net.specs.declared.Entry.{Entry}
use Rattle.net.specs.declared.Key.{Key}

abbrev pub entry : ℕ → ℕ → ℕ → Entry
entry p i o = record { base = p; from = i; to = o }

abbrev pub arcs : List Entry → List Bond → List Bond → Arcs
arcs es is os = record { entries = es; in_bonds = is; out_bonds = os }

abbrev pub marking : List ℕ → List Bond → Marking
marking ps bs = record { places = ps; bonds = bs }

-- Sheet B: 3 places, 4 bases at place 0, start coupling 2-3, transitions 0 to 5.
abbrev pub net_b : Net
net_b = record {
  places = 3;
  bases = 4;
  transitions =
      arcs (entry 0 0 1 ∷ entry 2 0 1 ∷ []) [] (bond 0 2 ∷ [])
      ∷ arcs (entry 3 1 2 ∷ []) [] []
      ∷ arcs (entry 1 0 0 ∷ []) [] []
      ∷ arcs (entry 2 0 1 ∷ entry 3 0 2 ∷ []) [] []
      ∷ arcs (entry 2 0 0 ∷ entry 3 0 0 ∷ []) [] (bond 2 3 ∷ [])
      ∷ arcs (entry 0 0 0 ∷ entry 1 0 0 ∷ []) (bond 0 1 ∷ []) (bond 0 1 ∷ [])
      ∷ [];
  start = marking (0 ∷ 0 ∷ 0 ∷ 0 ∷ []) (bond 2 3 ∷ []);
}

-- Commands as bytes: the transition of that number, the last firing, the firing of that key.
abbrev pub fire_of : ℕ → List ℕ
fire_of n = fire_command (transition n)

abbrev pub undo_last : List ℕ
undo_last = 2 ∷ 0 ∷ 0 ∷ []

abbrev pub undo_of : ℕ → List ℕ
undo_of n = undo_command (key n)

-- A case: the commands before it, its own command, and all that follows from that: the answer, the lines with their
-- keys and moved bases, the places and the bonds.
pub record Case : Type 0 where
  pub before : List (List ℕ)
  pub command : List ℕ
  pub answer : Answer
  pub lines : List LiveLine
  pub given : Key
  pub marking : Marking

abbrev pub line : ℕ → ℕ → List Bool → LiveLine
line t k m = record { transition = transition t; key = key k; moved = m }

-- the moved bases of M1 and M2 (0, 2 and 3), and of M4 (1)
abbrev carried : List Bool
carried = true ∷ false ∷ true ∷ true ∷ []

abbrev alone : List Bool
alone = false ∷ true ∷ false ∷ false ∷ []

-- the markings of the cases: at the start, after M1, after M2
abbrev at_start : Marking
at_start = marking (0 ∷ 0 ∷ 0 ∷ 0 ∷ []) (bond 2 3 ∷ [])

abbrev after_m1 : Marking
after_m1 = marking (1 ∷ 0 ∷ 1 ∷ 1 ∷ []) (bond 0 2 ∷ bond 2 3 ∷ [])

abbrev after_m2 : Marking
after_m2 = marking (2 ∷ 0 ∷ 2 ∷ 2 ∷ []) (bond 0 2 ∷ bond 2 3 ∷ [])

-- a command on sheet B's start that is refused
abbrev turned_away : List ℕ → ℕ → Case
turned_away c n = record { before = []; command = c; answer = refused n; lines = []; given = key 0; marking = at_start }

abbrev m1 : Case
m1 = record { before = []; command = fire_of 0; answer = fired (key 1); lines = line 0 1 carried ∷ []; given = key 1; marking = after_m1 }

abbrev m2 : Case
m2 = record { before = fire_of 0 ∷ []; command = fire_of 1; answer = fired (key 2); lines = line 0 1 carried ∷ line 1 2 carried ∷ []; given = key 2; marking = after_m2 }

abbrev m3 : Case
m3 = record {
  before = fire_of 0 ∷ fire_of 1 ∷ [];
  command = undo_of 1;
  answer = refused 20;
  lines = line 0 1 carried ∷ line 1 2 carried ∷ [];
  given = key 2;
  marking = after_m2;
}

abbrev m4 : Case
m4 = record {
  before = fire_of 0 ∷ fire_of 1 ∷ [];
  command = fire_of 2;
  answer = fired (key 3);
  lines = line 0 1 carried ∷ line 1 2 carried ∷ line 2 3 alone ∷ [];
  given = key 3;
  marking = after_m2;
}

abbrev m5 : Case
m5 = record {
  before = fire_of 0 ∷ fire_of 1 ∷ fire_of 2 ∷ [];
  command = undo_of 2;
  answer = undone (key 2);
  lines = line 0 1 carried ∷ line 2 3 alone ∷ [];
  given = key 3;
  marking = after_m1;
}

abbrev m6 : Case
m6 = record {
  before = fire_of 0 ∷ fire_of 1 ∷ fire_of 2 ∷ undo_of 2 ∷ [];
  command = undo_of 1;
  answer = undone (key 1);
  lines = line 2 3 alone ∷ [];
  given = key 3;
  marking = at_start;
}

-- M1 to M12, in order.
abbrev pub marked : List Case
marked =
    m1 ∷ m2 ∷ m3 ∷ m4 ∷ m5 ∷ m6
    ∷ turned_away (fire_of 1) 13
    ∷ turned_away (fire_of 5) 14
    ∷ turned_away (fire_of 4) 15
    ∷ turned_away (fire_of 3) 16
    ∷ turned_away (fire_of 6) 12
    ∷ turned_away undo_last 19
    ∷ []

-- Each case comes out as the table has it, answer and journal whole.
abbrev pub AllHold : Net → List Case → Type 0
AllHold net [] = Unit {0}
AllHold net (m ∷ ms) =
    (act net (play net m.before (begin net)) m.command
    ≡ record { journal = record { marking = m.marking; lines = m.lines; given = m.given }; answer = m.answer }) × AllHold net ms
