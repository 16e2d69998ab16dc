-- What a turn of the search, or all of it, does to what is held (02, T-04): a marking and live firings in arrays.
-- Definitions only. s is the sheet, w the layout.
use Rattle.std.specs.Prelude.{◌≡◌, List, ℕ}
use Rattle.net.specs.declared.Key.{Key}
use Rattle.format.specs.Parts.{bases_of}
use Rattle.format.specs.NetOf.{net_of}
use Rattle.marking.specs.declared.Marking.{Marking}
use Rattle.firings.specs.declared.Firings.{Firings}
use Rattle.sound.specs.Soundness.{journal_in, Passed}
use Rattle.way_back.specs.Ways.{retreat}

-- From m and f with n turns to come, to m' and f' with n': what is held stays sound, and the turns to come end as before. The
-- highest key given plays no part: it is any with which m and f pass.
pub record Searched (s w : List ℕ) (m : Marking) (f : Firings) (n : ℕ) (m' : Marking) (f' : Firings) (n' : ℕ) : Type 0 where
  pub stays : (k : Key) → Passed s m f k → Passed s m' f' k
  pub same : (k : Key) → Passed s m f k → retreat (net_of s) w n' (journal_in (bases_of s) m' f' k) ≡ retreat (net_of s) w n (journal_in (bases_of s) m f k)
