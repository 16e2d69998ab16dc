-- The way back on sheet B, computed: after the firings 1 (transition 0), 2 (transition 1) and 3 (transition 2) of 01's cases M1,
-- M2 and M4. Assumes nothing.
use mathlib.Core.Path.{◌≡◌, refl}
use mathlib.Core.Bool.{true}
use mathlib.Core.List.{List, [], ◌∷◌}
use Prim.Native.Nat.{ℕ}
use Rattle.net.specs.Journal.{Journal, undone, key, begin, play, answers}
use Rattle.net.specs.History.{sound}
use Rattle.net.specs.Claims.{undo_commands}
use Rattle.net.specs.Cases.{net_b, fire_of}
use Rattle.net.proofs.Cases.{net_b-rule}
use Rattle.way_back.specs.Ways.{HasEffect, no_way, gone, way_back}
use Rattle.way_back.specs.Claims.{ClosedSets, LeastWay}
use Rattle.way_back.proofs.Least.{sound-closed-sets, sound-least-way}

abbrev three : Journal
three = play net_b (fire_of 0 ∷ fire_of 1 ∷ fire_of 2 ∷ []) (begin net_b)

three-sound : sound net_b three ≡ true
three-sound = refl

-- a layout that names a place for base 0 alone, and one for base 1 alone
abbrev base_zero_at : ℕ → List ℕ
base_zero_at n = n ∷ 255 ∷ 255 ∷ 255 ∷ []

abbrev base_one_at : ℕ → List ℕ
base_one_at n = 255 ∷ n ∷ 255 ∷ 255 ∷ []

-- base 0 is at place 2: for place 1 firing 2 goes, for place 0 firings 2 and 1, for place 2 none
pub way-one : way_back net_b (base_zero_at 1) three ≡ key 2 ∷ []
way-one = refl

pub way-two : way_back net_b (base_zero_at 0) three ≡ key 2 ∷ key 1 ∷ []
way-two = refl

pub way-none : way_back net_b (base_zero_at 2) three ≡ []
way-none = refl

pub way-answers : answers net_b (undo_commands (way_back net_b (base_zero_at 0) three)) three ≡ undone (key 2) ∷ undone (key 1) ∷ []
way-answers = refl

-- base 1 was never elsewhere: 28
pub way-28 : no_way net_b (base_one_at 1) three ≡ true
way-28 = refl

-- the claims' premises are met: on this journal, and by a set with the wanted effect
pub closed-sets-B : ClosedSets net_b three
closed-sets-B = sound-closed-sets net_b net_b-rule three three-sound

pub least-way-B : (w : List ℕ) → LeastWay net_b w three
least-way-B w = sound-least-way net_b net_b-rule w three three-sound

pub effect-B : HasEffect net_b (base_zero_at 0) three (gone net_b (base_zero_at 0) three)
effect-B = (least-way-B (base_zero_at 0)).effect refl
