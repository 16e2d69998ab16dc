-- A fresh record is sound: what the inner commands ask is met from the start.
-- Assumes an accepted sheet.
use mathlib.Core.Path.{◌≡◌}
use mathlib.Core.Bool.{true}
use mathlib.Core.List.{List}
use Prim.Native.Nat.{ℕ}
use Rattle.net.specs.Checks.{clear}
use Rattle.net.specs.Journal.{begin}
use Rattle.net.proofs.Journal.{begin-held}
use Rattle.format.specs.NetOf.{net_of}
use Rattle.sheet.specs.Checks.{sheet_checks}
use Rattle.sheet.proofs.Accepted.{promised}
use Rattle.session.specs.Records.{Sound}
use Rattle.session.specs.Commands.{fresh_of}
use Rattle.session.proofs.Steps.{held-sound}

pub fresh-sound : (s : List ℕ) → clear (sheet_checks s) ≡ true → Sound s (fresh_of s)
unfolding fresh_of
fresh-sound s accepted = held-sound s accepted (begin (net_of s)) (begin-held (net_of s) (promised s accepted).rule)
