-- What is claimed of the journal, for every net that meets the sheet's rules and every list of commands: statements
-- only. The crates above state their claims on sheets and records; these are what their proofs go through.
use mathlib.Core.Path.{◌≡◌}
use mathlib.Core.Bool.{true}
use mathlib.Core.List.{List}
use Prim.Native.Nat.{ℕ, ◌*◌, ◌-◌, ◌≤◌}
use lib.ListN.{length}
use Rattle.causal.specs.Reorderings.{Reordering}
use Rattle.net.specs.Net.{Marking, Net}
use Rattle.net.specs.Firing.{in_set}
use Rattle.net.specs.Journal.{LiveLine, Journal, key, begin, act, play, answers}
use Rattle.net.specs.History.{sound}
use Rattle.net.specs.Claims.{fire_commands, numbered, all_fired, Totals}

-- ---- The forward run

-- The lines' transitions, given as commands to a journal of their own, are each answered `fired`, each moves the bases
-- on its line, and the run ends in exactly the marking z; its keys are its own, from 1 up (02, T-03).
pub record Forward (net : Net) (ls : List LiveLine) (z : Marking) : Type 0 where
  pub journal : play net (fire_commands ls) (begin net) ≡ record { marking = z; lines = numbered 0 ls; given = key (length ls) }
  pub answer : answers net (fire_commands ls) (begin net) ≡ all_fired 0 ls

-- Demand 3 on the journal: the lines that are left run forward to the session's marking, in their own order and in
-- every reordering that keeps the order of any two lines with a common base.
pub record LinesRunForward (net : Net) (cs : List (List ℕ)) : Type 0 where
  pub in_order : Forward net (play net cs (begin net)).lines (play net cs (begin net)).marking
  pub reordered : (ls : List LiveLine) → Reordering in_set (play net cs (begin net)).lines ls → Forward net ls (play net cs (begin net)).marking

-- ---- The number of bonds

-- Bonds are at most as many as there are pairs of bases.
abbrev pub FewBonds : Net → Marking → Type 0
FewBonds net s = 2 * length s.bonds ≤ net.bases * (net.bases - 1)

-- ---- Soundness

-- A sound history stays sound under every command.
abbrev pub StaysSound : Net → Type 0
StaysSound net = (j : Journal) (c : List ℕ) → sound net j ≡ true → sound net (act net j c).journal ≡ true

-- What the journal holds after any list of commands is sound; so its keys strictly ascend, from 1 to 65,535, and at most
-- 256 lines are live (`lines_in_form`).
abbrev pub JournalSound : Net → Type 0
JournalSound net = (cs : List (List ℕ)) → sound net (play net cs (begin net)) ≡ true

-- ---- All of it

pub record Claimed (net : Net) : Type 0 where
  pub demand3 : (cs : List (List ℕ)) → LinesRunForward net cs
  pub totals : (cs : List (List ℕ)) → Totals net (play net cs (begin net))
  pub few_bonds : (cs : List (List ℕ)) → FewBonds net (play net cs (begin net)).marking
  pub journal_sound : JournalSound net
  pub stays_sound : StaysSound net
