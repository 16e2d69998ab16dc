-- What is so of what a reason names, where the command is refused by 13, 14, 15, 16 or 20.
-- Definitions only. Of any sheet, record and command: nothing is assumed of them but that answer.
use Rattle.std.specs.Prelude.{◌≡◌, true, false, List, ℕ, ◌<◌}
use Rattle.causal.specs.Lists.{Mem}
use Rattle.net.specs.Net.{Arcs, Marking, has_bond, place, arcs_of}
use Rattle.net.specs.Connection.{connected}
use Rattle.net.specs.Firing.{in_set, bonds_seen}
use Rattle.net.specs.Journal.{LiveLine, line_of, transition_named, key_named}
use Rattle.net.specs.declared.Bond.{Bond}
use Rattle.net.specs.declared.Entry.{Entry}
use Rattle.net.specs.declared.Key.{Key}
use Rattle.format.specs.NetOf.{net_of}
use Rattle.session.specs.Records.{held_in}
use Rattle.session.specs.Commands.{outcome_for}
use Rattle.session.specs.declared.Record.{Record}
use Rattle.commands.specs.declared.Answer.TheVariants.{Refused}
use Rattle.why.specs.Why.{why_of}
use Rattle.why.specs.declared.Reason.TheVariants as Reason

-- 13: e is an entry of the step, its part is at p, and that is not its in-place
pub record IsAway (t : Arcs) (m : Marking) (e : Entry) (p : ℕ) : Type 0 where
  pub entry : Mem e t.entries
  pub here : place m e.base ≡ p
  pub elsewhere : p ≡ e.from → ⊥

-- 14: b is an in-coupling of the step, and is not there
pub record IsAbsent (t : Arcs) (m : Marking) (b : Bond) : Type 0 where
  pub coupling : Mem b t.in_bonds
  pub absent : has_bond b m.bonds ≡ false

-- 15: b is an out-coupling of the step and no in-coupling, and is there
pub record IsPresent (t : Arcs) (m : Marking) (b : Bond) : Type 0 where
  pub coupling : Mem b t.out_bonds
  pub new : has_bond b t.in_bonds ≡ false
  pub present : has_bond b m.bonds ≡ true

-- 16: e and d are entries of the step, their parts are connected by the couplings after the firing, and their out-places differ
pub record IsTorn (t : Arcs) (m : Marking) (e d : Entry) : Type 0 where
  pub first : Mem e t.entries
  pub second : Mem d t.entries
  pub together : connected (bonds_seen t m.bonds) e.base d.base ≡ true
  pub apart : e.to ≡ d.to → ⊥

-- 20: a live firing of key k, higher than the command's key, moved the part p, and so did the command's firing
pub record CameAfter (ls : List LiveLine) (mine k : Key) (p : ℕ) : Type 0 where
  pub other : LiveLine
  pub live : Mem other ls
  pub key : other.key ≡ k
  pub later : mine.0 < k.0
  pub moved : in_set other.moved p ≡ true
  pub both : in_set (line_of mine ls).moved p ≡ true

-- the step that the command names, on the sheet
abbrev pub step_of : List ℕ → List ℕ → Arcs
step_of s c = arcs_of (net_of s) (transition_named c)

-- the command is refused by n
abbrev pub RefusedBy : List ℕ → Record → List ℕ → ℕ → Type 0
RefusedBy s r c n = (outcome_for s r c).answer ≡ Refused n

-- Where a command is refused by one of these numbers, its reason names something of which the condition holds.
pub record Named (s : List ℕ) (r : Record) (c : List ℕ) : Type 0 where
  pub away : RefusedBy s r c 13 → (e : Entry) × (p : ℕ) × (why_of s r c ≡ Reason.Away e p) × IsAway (step_of s c) (held_in s r).marking e p
  pub absent : RefusedBy s r c 14 → (b : Bond) × (why_of s r c ≡ Reason.Absent b) × IsAbsent (step_of s c) (held_in s r).marking b
  pub present : RefusedBy s r c 15 → (b : Bond) × (why_of s r c ≡ Reason.Present b) × IsPresent (step_of s c) (held_in s r).marking b
  pub torn : RefusedBy s r c 16 → (e : Entry) × (d : Entry) × (why_of s r c ≡ Reason.Torn e d) × IsTorn (step_of s c) (held_in s r).marking e d
  pub later : RefusedBy s r c 20 → (k : Key) × (p : ℕ) × (why_of s r c ≡ Reason.Later k p) × CameAfter (held_in s r).lines (key_named (held_in s r) c) k p
