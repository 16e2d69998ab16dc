-- A small sheet with steps that uncouple (02, T-07) as a net, and cases on it, as a table.
-- Definitions only; proofs/Cases has the one theorem over the table.
use Rattle.std.specs.Prelude.{Bool, true, false, List, [], ◌∷◌}
use Rattle.net.specs.Net.{Marking, Net, bond}
use Rattle.net.specs.Journal.{fired, undone, refused, key}
use Rattle.net.specs.Cases.{entry, arcs, marking, Case, line, fire_of, undo_last, undo_of}

-- 3 places, 4 bases at place 0, start couplings 0-1 and 1-3. Transition 0 moves 0 and carries 1 and 3; 1 opens 0-1 and
-- parts its bases; 2 moves 1 again; 3 breaks 0-1 and makes 1-2; 4 keeps 0-1; 5 would part 0 and 1 without opening 0-1.
abbrev pub net_c : Net
net_c = record {
  places = 3;
  bases = 4;
  transitions =
      arcs (entry 0 0 1 ∷ []) [] []
      ∷ arcs (entry 0 1 1 ∷ entry 1 1 2 ∷ []) (bond 0 1 ∷ []) []
      ∷ arcs (entry 1 2 0 ∷ []) [] []
      ∷ arcs (entry 0 0 0 ∷ entry 1 0 1 ∷ entry 2 0 1 ∷ []) (bond 0 1 ∷ []) (bond 1 2 ∷ [])
      ∷ arcs (entry 0 0 2 ∷ entry 1 0 2 ∷ []) (bond 0 1 ∷ []) (bond 0 1 ∷ [])
      ∷ arcs (entry 0 0 1 ∷ entry 1 0 2 ∷ []) [] []
      ∷ [];
  start = marking (0 ∷ 0 ∷ 0 ∷ 0 ∷ []) (bond 0 1 ∷ bond 1 3 ∷ []);
}

-- the moved bases of transitions 0, 1 and 4 (0, 1 and 3), of 2 (1 and 3), of 3 (all)
abbrev coupled : List Bool
coupled = true ∷ true ∷ false ∷ true ∷ []

abbrev parted : List Bool
parted = false ∷ true ∷ false ∷ true ∷ []

abbrev whole : List Bool
whole = true ∷ true ∷ true ∷ true ∷ []

-- the markings: at the start, after 0, after 0 and 1
abbrev at_start : Marking
at_start = marking (0 ∷ 0 ∷ 0 ∷ 0 ∷ []) (bond 0 1 ∷ bond 1 3 ∷ [])

abbrev closed : Marking
closed = marking (1 ∷ 1 ∷ 0 ∷ 1 ∷ []) (bond 0 1 ∷ bond 1 3 ∷ [])

abbrev opened : Marking
opened = marking (1 ∷ 2 ∷ 0 ∷ 2 ∷ []) (bond 1 3 ∷ [])

-- 0-1 is opened: 3 goes with 1, to which it is still coupled.
abbrev opens : Case
opens = record {
  before = fire_of 0 ∷ [];
  command = fire_of 1;
  answer = fired (key 2);
  lines = line 0 1 coupled ∷ line 1 2 coupled ∷ [];
  given = key 2;
  marking = opened;
}

-- What 0 carried by the coupling moves without it now; while that firing is live, the one that opened 0-1 cannot be taken back.
abbrev goes_on : Case
goes_on = record {
  before = fire_of 0 ∷ fire_of 1 ∷ [];
  command = fire_of 2;
  answer = fired (key 3);
  lines = line 0 1 coupled ∷ line 1 2 coupled ∷ line 2 3 parted ∷ [];
  given = key 3;
  marking = marking (1 ∷ 0 ∷ 0 ∷ 0 ∷ []) (bond 1 3 ∷ []);
}

abbrev blocked : Case
blocked = record {
  before = fire_of 0 ∷ fire_of 1 ∷ fire_of 2 ∷ [];
  command = undo_of 2;
  answer = refused 20;
  lines = line 0 1 coupled ∷ line 1 2 coupled ∷ line 2 3 parted ∷ [];
  given = key 3;
  marking = marking (1 ∷ 0 ∷ 0 ∷ 0 ∷ []) (bond 1 3 ∷ []);
}

-- Taken back: the coupling is there again, and with the next taking back all is as at the start.
abbrev closes : Case
closes = record {
  before = fire_of 0 ∷ fire_of 1 ∷ fire_of 2 ∷ undo_of 3 ∷ [];
  command = undo_of 2;
  answer = undone (key 2);
  lines = line 0 1 coupled ∷ [];
  given = key 3;
  marking = closed;
}

abbrev all_back : Case
all_back = record { before = fire_of 0 ∷ fire_of 1 ∷ undo_last ∷ []; command = undo_of 1; answer = undone (key 1); lines = []; given = key 2; marking = at_start }

-- One step breaks a coupling and makes another.
abbrev exchanges : Case
exchanges = record {
  before = [];
  command = fire_of 3;
  answer = fired (key 1);
  lines = line 3 1 whole ∷ [];
  given = key 1;
  marking = marking (0 ∷ 1 ∷ 1 ∷ 1 ∷ []) (bond 1 2 ∷ bond 1 3 ∷ []);
}

abbrev changes_back : Case
changes_back = record { before = fire_of 3 ∷ []; command = undo_last; answer = undone (key 1); lines = []; given = key 1; marking = at_start }

-- A kept coupling stays, when fired and when taken back.
abbrev keeps : Case
keeps = record {
  before = [];
  command = fire_of 4;
  answer = fired (key 1);
  lines = line 4 1 coupled ∷ [];
  given = key 1;
  marking = marking (2 ∷ 2 ∷ 0 ∷ 2 ∷ []) (bond 0 1 ∷ bond 1 3 ∷ []);
}

abbrev keeps_back : Case
keeps_back = record { before = fire_of 4 ∷ []; command = undo_last; answer = undone (key 1); lines = []; given = key 1; marking = at_start }

-- A coupling that is not opened still holds its bases together.
abbrev holds : Case
holds = record { before = []; command = fire_of 5; answer = refused 16; lines = []; given = key 0; marking = at_start }

abbrev pub clutch_cases : List Case
clutch_cases = opens ∷ goes_on ∷ blocked ∷ closes ∷ all_back ∷ exchanges ∷ changes_back ∷ keeps ∷ keeps_back ∷ holds ∷ []
