-- The forms that the code names are those of specs/Lines, and the answer by the first form that fits.
-- Assumes nothing.
use mathlib.Core.Path.{◌≡◌, refl, sym, ap, ◌∙◌}
use mathlib.Core.Bool.{Bool}
use Prim.Native.Nat.{ℕ}
use mathlib.Core.List.{List}
use Rattle.text.specs.Ascii.{ascii}
use Rattle.lexing.specs.Tokens.{Token, next_of, row}
use Rattle.forms.specs.Forms.{fits}
use Rattle.sheet_text.specs.declared.Line.TheVariants.{Blank, Places, Part, Coupled, Step, Move, Before, After}
use Rattle.sheet_text.specs.Lines.{line_tokens, most}

-- what the code was told of a form
abbrev Told : List ℕ → List Token → Bool → Bool → Type 0
Told lit ts b c = (b ≡ fits (row 8 lit) ts) × (b ≡ c)

told : (lit : List ℕ) (f ts : List Token) (b c : Bool) → row 8 lit ≡ f → Told lit ts b c → fits f ts ≡ c
told lit f ts b c e (d, t) = ap (λ (g : List Token). fits g ts) (sym e) ∙ sym d ∙ t

module _ (ts : List Token) (b c : Bool) where
  pub is-blank : Told (ascii "") ts b c → fits (line_tokens Blank) ts ≡ c
  unfolding next_of
  is-blank = told (ascii "") (line_tokens Blank) ts b c refl

  pub is-places : Told (ascii "places 255") ts b c → fits (line_tokens (Places most)) ts ≡ c
  unfolding next_of
  is-places = told (ascii "places 255") (line_tokens (Places most)) ts b c refl

  pub is-part : Told (ascii "part 255 at 255") ts b c → fits (line_tokens (Part most most)) ts ≡ c
  unfolding next_of
  is-part = told (ascii "part 255 at 255") (line_tokens (Part most most)) ts b c refl

  pub is-coupled : Told (ascii "coupled 255 255") ts b c → fits (line_tokens (Coupled most most)) ts ≡ c
  unfolding next_of
  is-coupled = told (ascii "coupled 255 255") (line_tokens (Coupled most most)) ts b c refl

  pub is-step : Told (ascii "step 255") ts b c → fits (line_tokens (Step most)) ts ≡ c
  unfolding next_of
  is-step = told (ascii "step 255") (line_tokens (Step most)) ts b c refl

  pub is_move : Told (ascii "move 255 from 255 to 255") ts b c → fits (line_tokens (Move most most most)) ts ≡ c
  unfolding next_of
  is_move = told (ascii "move 255 from 255 to 255") (line_tokens (Move most most most)) ts b c refl

  pub is-before : Told (ascii "before 255 255") ts b c → fits (line_tokens (Before most most)) ts ≡ c
  unfolding next_of
  is-before = told (ascii "before 255 255") (line_tokens (Before most most)) ts b c refl

  pub is-after : Told (ascii "after 255 255") ts b c → fits (line_tokens (After most most)) ts ≡ c
  unfolding next_of
  is-after = told (ascii "after 255 255") (line_tokens (After most most)) ts b c refl
