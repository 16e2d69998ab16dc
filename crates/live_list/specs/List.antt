-- The live firings of a record as a list of firing records (02, T-01: what a page is asked of), and the answer to a call for it.
-- Definitions only.
use mathlib.Core.List as L
use Rattle.std.specs.Prelude.{ℕ, ltb, replicate}
use Rattle.net.specs.Limits.{max_live}
use Rattle.net.specs.Tests.{pick, table}
use Rattle.net.specs.Journal.{key}
use Rattle.firings.specs.Lines.{firing_at}
use Rattle.firings.specs.declared.Firing.{Firing}
use Rattle.firings.specs.declared.Firings.{Firings}
use Rattle.net.specs.declared.Verdict.TheVariants.{Accepted, Refused}
use Rattle.live_list.specs.declared.LiveFirings.{LiveFirings}

-- what an unused entry of a list holds
abbrev pub no_firing : Firing
no_firing = record { transition = 0; key = key 0; moved = 0 }

-- the live firing at i; zeros after the live ones
abbrev pub live_at : Firings → ℕ → Firing
live_at f i = pick (ltb i f.live) (firing_at f.transitions f.keys f.moved i) no_firing

-- as many entries as firings can be live: the live firings in their order, then zeros
abbrev pub list_of : Firings → L.List Firing
list_of f = table max_live (live_at f)

-- the list of a record's live firings, with their number
abbrev pub listed : Firings → LiveFirings
listed f = record { answer = Accepted; count = f.live; firings = list_of f }

-- a refused call: no firing, and zeros
unfoldable pub not_listed : ℕ → LiveFirings
not_listed n = record { answer = Refused n; count = 0; firings = replicate max_live no_firing }
