-- `movers::top_from`: what its loops keep.
use mathlib.Core.Path.{◌≡◌}
use Prim.Native.Nat.{suc, ◌<◌}
use lib.ListN.{get_or, drop}
use Rattle.net.specs.Limits.{max_bases}
use Rattle.net.specs.Journal.{no_line}
use Rattle.firings.specs.Lines.{lines_in}
use Rattle.movers.specs.Tops.{sharing, top_of}
use Rattle.movers.proofs.top_from.Given as goal

abbrev pub invariant-loop-i : goal.invariant-loop-i
invariant-loop-i l = let ls = lines_in max_bases l.f in
    (l.top < l.i) × (top_of sharing (get_or ls l.top no_line) (drop l.i ls) ≡ top_of sharing (get_or ls l.c no_line) (drop (suc l.c) ls))
