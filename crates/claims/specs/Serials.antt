-- A serial belongs to one firing only (02, T-03): what is claimed of every session from a fresh record on an accepted sheet.
-- Definitions only.
use Rattle.std.specs.Prelude.{◌≡◌, true, false, List, [], ◌∷◌, ◌++◌, ℕ, eqb}
use Rattle.causal.specs.Lists.{Mem}
use Rattle.net.specs.Tests.{pick}
use Rattle.net.specs.Journal.{is_live}
use Rattle.net.specs.Claims.{rises}
use Rattle.net.specs.declared.Key.{Key}
use Rattle.tally.specs.declared.Tally.{Tally}
use Rattle.session.specs.Records.{held_in}
use Rattle.commands.specs.Answers.{word_of}
use Rattle.session.specs.Runs.{Answered}
use Rattle.commands.specs.declared.Answer.TheVariants.{Undone}
use Rattle.claims.specs.Sessions.{session_after}

-- the serials of the answers `fired`, in their order
abbrev pub serials_fired : List Answered → List ℕ
serials_fired [] = []
serials_fired (a ∷ rest) = pick (eqb (word_of a.answer) 0) (a.key.0 ∷ serials_fired rest) (serials_fired rest)

-- the answer that the firing of a serial was taken back
abbrev pub took_back : Key → Answered
took_back k = record { answer = Undone; key = k }

pub record Serials (s : List ℕ) (cs : List (List ℕ)) (t : Tally) : Type 0 where
  -- no serial is given twice: those of the answers `fired` strictly ascend, from above 0
  pub once : rises 0 (serials_fired (session_after s cs t).answers) ≡ true
  -- a serial that was taken back is never live again, whatever commands follow
  pub gone : (ds : List (List ℕ)) (k : Key) → Mem (took_back k) (session_after s cs t).answers
      → is_live k (held_in s (session_after s (cs ++ ds) t).session).lines ≡ false
