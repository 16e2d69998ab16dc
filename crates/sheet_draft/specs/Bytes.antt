-- The bytes of a sheet by its acts: header, pairs, stretches (01, the sheet). proofs/Sheet: they are the bytes of the net.
-- Definitions only.
use Rattle.std.specs.Prelude.{◌≡◌, Bool, true, ◌&&◌, ℕ, zero, suc, ◌+◌, ◌*◌, ◌<◌, ◌≤◌, List, [], ◌∷◌, ◌++◌, map, leb, length, take}
use Rattle.net.specs.Tests.{pick, all, table}
use Rattle.text.specs.Joined.{joined}
use Rattle.encode.specs.Encoding.{pairs}
use Rattle.sheet_draft.specs.declared.Made.{Made}
use Rattle.sheet_draft.specs.declared.Made.TheVariants.{Sheet, TooLarge}
use Rattle.sheet_draft.specs.Acts.{first_of, second_of, third_of, of_tag, part_tag, coupled_tag, move_tag, before_tag, after_tag}

-- the first w of an act's three bytes
abbrev pub bytes_at : ℕ → ℕ → List ℕ
bytes_at w x = take w (first_of x ∷ second_of x ∷ third_of x ∷ [])

-- the bytes of the acts of one tag
abbrev pub tagged : ℕ → ℕ → List ℕ → List ℕ
tagged w t acts = joined (map (bytes_at w) (of_tag t acts))

-- how many acts are of one tag
abbrev pub count_of : ℕ → List ℕ → ℕ
count_of t acts = length (of_tag t acts)

-- after their count
abbrev pub counted : ℕ → ℕ → List ℕ → List ℕ
counted w t acts = count_of t acts ∷ tagged w t acts

-- 01, the sheet: the record of a step: entries, in-couplings, out-couplings, each after its count
unfoldable pub step_bytes : List ℕ → ℕ → List ℕ
step_bytes acts k = counted 3 (move_tag k) acts ++ counted 2 (before_tag k) acts ++ counted 2 (after_tag k) acts

-- 01, the sheet: each count of a step is of one byte
abbrev pub step_fits : List ℕ → ℕ → Bool
step_fits acts k = leb (count_of (move_tag k) acts) 255 && (leb (count_of (before_tag k) acts) 255 && leb (count_of (after_tag k) acts) 255)

-- 01, the sheet: what the pairs name: the start places, the start couplings, and each step
abbrev pub stretch_at : List ℕ → ℕ → List ℕ
stretch_at acts zero = tagged 1 part_tag acts
stretch_at acts (suc zero) = tagged 2 coupled_tag acts
stretch_at acts (suc (suc k)) = step_bytes acts k

-- the first n of them
abbrev pub stretches_in : ℕ → List ℕ → List (List ℕ)
stretches_in n acts = table n (stretch_at acts)

-- the counts in a stretch are of one byte: only a step has counts
abbrev pub stretch_fits : List ℕ → ℕ → Bool
stretch_fits acts zero = true
stretch_fits acts (suc zero) = true
stretch_fits acts (suc (suc k)) = step_fits acts k

-- so of the first n stretches
abbrev pub AllFit : ℕ → List ℕ → Type 0
AllFit n acts = (j : ℕ) → j < n → stretch_fits acts j ≡ true

-- 01, the sheet: the counts of parts, of steps, and in each step are of one byte
unfoldable pub counts_fit : ℕ → List ℕ → Bool
counts_fit steps acts = leb (count_of part_tag acts) 255 && (leb steps 255 && all (step_fits acts) (table steps (λ k. k)))

-- 01, the sheet: header, pairs, stretches; the first stretch begins behind the pairs
unfoldable pub sheet_in : ℕ → ℕ → List ℕ → List ℕ
sheet_in places steps acts =
    (1 ∷ places ∷ count_of part_tag acts ∷ steps ∷ [])
    ++ pairs (4 * (steps + 2) + 4) (stretches_in (steps + 2) acts)
    ++ joined (stretches_in (steps + 2) acts)

-- the acts are what the format holds: all counts are of one byte, and offsets of two
pub record Holds (places parts steps : ℕ) (acts : List ℕ) : Type 0 where
  pub counted : parts ≡ count_of part_tag acts
  pub few_steps : steps ≤ 255
  pub fit : AllFit (steps + 2) acts
  pub few_acts : length acts ≤ 65535
  pub size : length (sheet_in places steps acts) ≤ 65535

-- the acts of a sheet that is not too long
pub record Fits (places steps : ℕ) (acts : List ℕ) : Type 0 where
  pub byte : places ≤ 255
  pub few_steps : steps ≤ 65535
  pub few_acts : length acts ≤ 65535
  pub size : length (sheet_in places steps acts) ≤ 65535

-- ---- what is made of acts whose sheet is not too long

abbrev pub made_in : ℕ → ℕ → List ℕ → Made
made_in places steps acts = pick (counts_fit steps acts) (Sheet (length (sheet_in places steps acts))) TooLarge

abbrev pub bytes_in : ℕ → ℕ → List ℕ → List ℕ
bytes_in places steps acts = pick (counts_fit steps acts) (sheet_in places steps acts) []
