-- Why a command is refused (01, the turned-away list): the reason by the number of the answer, and what the number is about.
-- Definitions only. 13 to 16 and 20 name the first entry, coupling or firing of which the condition of reasons holds.
use Rattle.std.specs.Prelude.{List, ℕ, eqb, ltb, length, get_or}
use Rattle.net.specs.Tests.{pick, first_at}
use Rattle.net.specs.Checks.{first}
use Rattle.net.specs.Net.{Arcs, Marking, Net, bond, place, arcs_of}
use Rattle.net.specs.Journal.{LiveLine, Journal, key, kind_of, number_of, no_line, line_keys, transition_named, key_named}
use Rattle.net.specs.declared.Bond.{Bond}
use Rattle.net.specs.declared.Entry.{Entry}
use Rattle.net.specs.declared.Key.{Key}
use Rattle.format.specs.NetOf.{net_of}
use Rattle.firings.specs.Search.{index_of}
use Rattle.session.specs.Records.{held_in}
use Rattle.session.specs.Commands.{command_checks}
use Rattle.session.specs.declared.Record.{Record}
use Rattle.reasons.specs.Reasons.{away_from, absent_from, present_in, torn_from, has_partner, later_at, common_at}
use Rattle.why.specs.declared.Reason.{Reason}

-- ---- What a reason names. No command that is refused by the number names what is past the end of a list (Claims).

-- what is past the end of the entries
abbrev pub no_entry : Entry
no_entry = record { base = 0; from = 0; to = 0 }

-- 13: the first entry of the step whose part is not at its in-place
abbrev pub away_entry : Arcs → Marking → Entry
away_entry t s = get_or t.entries (first_at (away_from s.places) t.entries) no_entry

-- 14: the first in-coupling that is not there
abbrev pub absent_bond : Arcs → Marking → Bond
absent_bond t s = get_or t.in_bonds (first_at (absent_from s.bonds) t.in_bonds) (bond 0 0)

-- 15: the first out-coupling that is no in-coupling and is there
abbrev pub present_bond : Arcs → Marking → Bond
present_bond t s = get_or t.out_bonds (first_at (present_in t.in_bonds s.bonds) t.out_bonds) (bond 0 0)

-- 16: the first entry that has a partner, and the first partner of an entry
abbrev pub torn_entry : Arcs → Marking → Entry
torn_entry t s = get_or t.entries (first_at (has_partner t s) t.entries) no_entry

abbrev pub partner_of : Arcs → Marking → Entry → Entry
partner_of t s e = get_or t.entries (first_at (torn_from t s e) t.entries) no_entry

-- 20: where the first line after the one of key k stands that moved a part which that one moved; the first such part
abbrev pub later_place : List LiveLine → Key → ℕ
later_place ls k = later_at ls (index_of k (line_keys ls))

abbrev pub later_part : List LiveLine → Key → ℕ
later_part ls k = common_at (get_or ls (index_of k (line_keys ls)) no_line).moved (get_or ls (later_place ls k) no_line).moved

-- ---- The reasons that name something: 13 with the place where the part is, 14, 15, 16 with the partner

abbrev pub away_by : Arcs → Marking → Reason
away_by t s = Reason.Away (away_entry t s) (place s (away_entry t s).base)

abbrev pub absent_by : Arcs → Marking → Reason
absent_by t s = Reason.Absent (absent_bond t s)

abbrev pub present_by : Arcs → Marking → Reason
present_by t s = Reason.Present (present_bond t s)

abbrev pub torn_by : Arcs → Marking → Reason
torn_by t s = Reason.Torn (torn_entry t s) (partner_of t s (torn_entry t s))

-- 19: kind 2 asks for the last firing, kind 3 for that of a key
abbrev pub not_live_by : List ℕ → Reason
not_live_by c = pick (eqb (kind_of c) 2) Reason.NoneLive (Reason.NotLive (key (number_of c)))

-- 20: the key of that firing, and that part
abbrev pub later_by : List LiveLine → Key → Reason
later_by ls k = Reason.Later (get_or ls (later_place ls k) no_line).key (later_part ls k)

-- ---- By the number

-- The reason of a number, of a command on a journal. What is left is 21.
unfoldable pub reason_for : Net → Journal → List ℕ → ℕ → Reason
reason_for net j c n =
    let t = arcs_of net (transition_named c) in
    let s = j.marking in
    pick (eqb n 0) Reason.Nothing
    (pick (ltb n 10) Reason.Sheet
    (pick (eqb n 10) Reason.Record
    (pick (eqb n 11) Reason.Unreadable
    (pick (eqb n 12) (Reason.Steps (length net.transitions))
    (pick (eqb n 13) (away_by t s)
    (pick (eqb n 14) (absent_by t s)
    (pick (eqb n 15) (present_by t s)
    (pick (eqb n 16) (torn_by t s)
    (pick (eqb n 17) Reason.Full
    (pick (eqb n 18) Reason.LastKey
    (pick (eqb n 19) (not_live_by c)
    (pick (eqb n 20) (later_by j.lines (key_named j c))
    Reason.Short))))))))))))

-- Of any command on any record and any sheet: by the number of the first check of the command that holds, which is the number
-- of the answer, 0 where it is accepted.
unfoldable pub why_of : List ℕ → Record → List ℕ → Reason
why_of s r c = reason_for (net_of s) (held_in s r) c (first (command_checks s r c))
