-- What is known where a reason is looked for: the sheet is accepted, the record sound, and the command refused by the number n.
-- Definitions only.
use Rattle.std.specs.Prelude.{◌≡◌, List, ℕ}
use Rattle.net.specs.Journal.{refused, act}
use Rattle.format.specs.NetOf.{net_of}
use Rattle.session.specs.Records.{held_in, Sound}
use Rattle.session.specs.declared.Record.{Record}

pub record Turned (s : List ℕ) (r : Record) (c : List ℕ) (n : ℕ) : Type 0 where
  pub sound : Sound s r
  pub answer : (act (net_of s) (held_in s r) c).answer ≡ refused n
