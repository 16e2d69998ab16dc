-- The way back to a wanted layout (02, T-04): what is claimed of every sheet, record and layout, by sets of live serials and commands.
-- Definitions only. A set of serials is a test on keys; w is the layout, a byte for each part, 255 for any place.
use Rattle.std.specs.Prelude.{◌≡◌, Bool, true, false, List, [], ◌∷◌, map, ℕ, ◌<◌, get_or, take}
use Rattle.causal.specs.Lists.{Mem}
use Rattle.net.specs.Limits.{max_live}
use Rattle.net.specs.Checks.{Check, check, clear, first}
use Rattle.net.specs.Sorted.{ascends}
use Rattle.net.specs.Journal.{key, is_live}
use Rattle.net.specs.Claims.{undo_commands}
use Rattle.net.specs.declared.Key.{Key}
use Rattle.published.specs.Sets.{Iff}
use Rattle.format.specs.Parts.{bases_of, places_of}
use Rattle.layout.specs.Layout.{any_place, unfit_layout}
use Rattle.marking.specs.Form.{padWith}
use Rattle.tally.specs.declared.Tally.{Tally}
use Rattle.way_back.specs.Ways.{higher}
use Rattle.way_back.specs.Answer.{no_way_back}
use Rattle.net.specs.declared.Verdict.TheVariants.{Accepted, Refused}
use Rattle.way_back.specs.declared.WayBack.{WayBack}
use Rattle.session.specs.Records.{held_in}
use Rattle.session.specs.Commands.{record_checks}
use Rattle.session.specs.Runs.{run_of}
use Rattle.questions.specs.Ways.{way_back_checks, way_back_of}
use Rattle.session.specs.declared.Record.{Record}
use Rattle.claims.specs.Serials.{took_back}

-- The live serials of the set f can be taken back from the record r, to the record z: in some order, as commands of kind 3 and
-- nothing else, each is answered `undone` with that serial, and the last hands back z.
pub record CanGo (s : List ℕ) (r : Record) (t : Tally) (f : Key → Bool) (z : Record) : Type 0 where
  pub order : List Key
  pub only : (k : Key) → Mem k order → f k ≡ true
  pub every : (k : Key) → is_live k (held_in s r).lines ≡ true → f k ≡ true → Mem k order
  pub accepted : (run_of s (undo_commands order) r t).answers ≡ map took_back order
  pub gives : (run_of s (undo_commands order) r t).session ≡ z

-- in the record z every part that the layout names is at the place that it names
abbrev pub Arranged : List ℕ → List ℕ → Record → Type 0
Arranged s w z = (p : ℕ) → p < bases_of s → (get_or w p 0 ≡ any_place → ⊥) → get_or z.marking.places p 0 ≡ get_or w p 0

-- the set can be taken back to that effect
abbrev pub Serves : List ℕ → Record → Tally → List ℕ → (Key → Bool) → Type 0
Serves s r t w f = (z : Record) × CanGo s r t f z × Arranged s w z

-- the serials that are given
abbrev pub keys_given : WayBack → List Key
keys_given y = take y.count y.keys

-- The serials ks are the smallest set that serves: they strictly descend; as commands of kind 3 in that order each is answered
-- `undone`, and then the named parts are where they are wanted; every set that serves has each of them.
pub record Smallest (s : List ℕ) (r : Record) (t : Tally) (w : List ℕ) (ks : List Key) : Type 0 where
  pub falls : ascends higher ks ≡ true
  pub accepted : (run_of s (undo_commands ks) r t).answers ≡ map took_back ks
  pub arranged : Arranged s w (run_of s (undo_commands ks) r t).session
  pub within : (f : Key → Bool) → Serves s r t w f → (k : Key) → Mem k ks → f k ≡ true

-- 1 to 10, then 27
abbrev pub layout_checks : List ℕ → Record → List ℕ → List Check
layout_checks s r w = record_checks s r (check 27 (unfit_layout (bases_of s) (places_of s) w) ∷ [])

-- A layout w asked of the record r on the sheet s; t is the tally of the commands that are spoken of.
pub record Ways (s : List ℕ) (r : Record) (w : List ℕ) (t : Tally) : Type 0 where
  -- what is given where a way is found is the smallest set that serves; every entry after it holds 0
  pub found : (way_back_of s r w).answer ≡ Accepted → Smallest s r t w (keys_given (way_back_of s r w))
  pub unused : (way_back_of s r w).answer ≡ Accepted → (way_back_of s r w).keys ≡ padWith (key 0) max_live (keys_given (way_back_of s r w))
  -- where none of 1 to 10 and 27 holds, 28 is answered exactly if no set serves, and else a way is found
  pub none : clear (layout_checks s r w) ≡ true → Iff ((way_back_of s r w).answer ≡ Refused 28) ((f : Key → Bool) → Serves s r t w f → ⊥)
  pub some : clear (layout_checks s r w) ≡ true → (f : Key → Bool) → Serves s r t w f → (way_back_of s r w).answer ≡ Accepted
  -- what is refused is refused by the first of 1 to 10, 27 and 28 that holds, and gives the empty set
  pub away : clear (way_back_checks s r w) ≡ false → way_back_of s r w ≡ no_way_back (first (way_back_checks s r w))
