-- All that proofs/Claimed says, of every net that meets the sheet's rules; and that sheet B's net and T-07's net_c are such.
-- Assumes nothing.
use mathlib.Core.Path.{◌≡◌}
use mathlib.Core.Bool.{true}
use Rattle.net.specs.Net.{Net}
use Rattle.net.specs.Rules.{net_rule}
use Rattle.net.specs.Journal.{play, begin}
use Rattle.net.specs.Cases.{net_b}
use Rattle.net.specs.Clutch.{net_c}
use Rattle.net.proofs.Claimed.{Claimed}
use Rattle.net.proofs.Demand3.{demand3}
use Rattle.net.proofs.History.{stays-sound, journal-sound}
use Rattle.net.proofs.Totals.{totals}
use Rattle.net.proofs.Pairs.{few-bonds}
use Rattle.net.proofs.Cases.{net_b-rule, net_c-rule}

pub claims : (net : Net) → net_rule net ≡ true → Claimed net
claims net ok = record {
  demand3 = demand3 net ok;
  totals = totals net ok;
  few_bonds = λ cs. few-bonds net (play net cs (begin net)).marking (totals net ok cs).good;
  journal_sound = journal-sound net ok;
  stays_sound = stays-sound net ok;
}

pub claims-of-B : Claimed net_b
claims-of-B = claims net_b net_b-rule

pub claims-of-C : Claimed net_c
claims-of-C = claims net_c net_c-rule
