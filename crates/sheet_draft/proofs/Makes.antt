-- What the code makes of a text is what specs/Made says: a mistake, a sheet that is too large, the bytes.
-- Assumes nothing.
use mathlib.Core.Path.{◌≡◌, refl, sym, ap, subst, ◌∙◌}
use mathlib.Core.Bool.{true, false, ◌&&◌}
use Prim.Native.Nat.{ℕ, ◌≤◌}
use native.Mathlib.Omega.{arith}
use mathlib.Core.List.{List, []}
use lib.Dec.{leb}
use lib.ListN.{length, take}
use lib.Seq.{sets, length-take-le}
use borrow.Author.Tests.{leb-true}
use Rattle.net.specs.Tests.{pick, all}
use Rattle.net.specs.Net.{Net}
use Rattle.net.proofs.Tables.{length-table}
use Rattle.encode.specs.Encoding.{bytes_of}
use Rattle.sheet_text.specs.Reading.{Reading, understood, mistake, read_text}
use Rattle.sheet_text.specs.Counts.{mistake_in}
use Rattle.sheet_text.specs.declared.Mistake as M
use Rattle.sheet_draft.specs.declared.Made.{Made}
use Rattle.sheet_draft.specs.declared.Made.TheVariants.{Sheet, Mistake, TooLarge}
use Rattle.sheet_draft.specs.declared.Noted.{Noted}
use Rattle.sheet_draft.specs.Acts.{step_in}
use Rattle.sheet_draft.specs.Bytes.{counts_fit, sheet_in, Fits, made_in, bytes_in}
use Rattle.sheet_draft.specs.Notes.{Notes, notes, notes_of, most_bytes, Collected}
use Rattle.sheet_draft.specs.Made.{holdable_step, holdable, made_of, sheet_made}
use Rattle.sheet_draft.proofs.Sizes.{bytes-length}
use Rattle.sheet_draft.proofs.Says.{Says, says-text, from_one}
use Rattle.sheet_draft.proofs.Sheet.{sheet-is, counts-fit}

-- what the code answers, and what it left in the buffer, is what is made of a text
abbrev pub Makes : List ℕ → Made → List ℕ → List ℕ → Type 0
Makes s r b b' = (r ≡ made_of (read_text s)) × (b' ≡ sets b 0 (sheet_made (read_text s)))

makes-by : (s : List ℕ) (r : Made) (b : List ℕ) (x : Reading) → read_text s ≡ x → (r ≡ made_of x) × (b ≡ sets b 0 (sheet_made x)) → Makes s r b b
makes-by s r b x e p = subst (λ (y : Reading). (r ≡ made_of y) × (b ≡ sets b 0 (sheet_made y))) (sym e) p

-- ---- a mistake

pub mistaken : (s : List ℕ) (m : M.Mistake) (b : List ℕ) → m ≡ mistake_in (read_text s) → (m.line ≡ 0 → ⊥) → Makes s (Mistake m.line m.what) b b
mistaken s m b e n = go (read_text s) refl
  where
    go : (x : Reading) → read_text s ≡ x → Makes s (Mistake m.line m.what) b b
    go (understood net) d = absurd (n (ap (λ (y : M.Mistake). y.line) (e ∙ ap mistake_in d)))
    go (mistake k l) d = makes-by s (Mistake m.line m.what) b (mistake k l) d (ap (λ (y : M.Mistake). Mistake y.line y.what) (e ∙ ap mistake_in d), refl)

pub is-understood : (s : List ℕ) → (mistake_in (read_text s)).line ≡ 0 → (net : Net) × (read_text s ≡ understood net)
is-understood s h = go (read_text s) refl
  where
    go : (x : Reading) → read_text s ≡ x → (net : Net) × (read_text s ≡ understood net)
    go (understood net) d = (net, d)
    go (mistake k l) d =
        let z : k ≡ 0 = ap (λ (y : Reading). (mistake_in y).line) (sym d) ∙ h in
        absurd (let f : ⊥ = omega (arith, from_one s k l d) in f)

-- ---- too large: by its bytes, or by a count

module _ (s : List ℕ) (net : Net) (e : read_text s ≡ understood net) where
  size_is : (notes_of s).size ≡ length (bytes_of net)
  size_is = (says-text s net e).size ∙ sym (bytes-length net)

  pub too_long : (b : List ℕ) → false ≡ leb (notes_of s).size most_bytes → Makes s TooLarge b b
  too_long b h =
      let f : leb (length (bytes_of net)) most_bytes ≡ false = ap (λ (n : ℕ). leb n most_bytes) (sym size_is) ∙ sym h in
      makes-by s TooLarge b (understood net) e (rw f (refl, refl))

  -- ---- what was collected of a text that is understood

  module _ (acts : List ℕ) (r : Noted) (c : Collected s acts r) where
    abbrev A : List ℕ
    A = take r.acts acts

    says : Says (notes r.places r.steps r.size A) net
    says = subst (λ (x : Notes). Says x net) (sym c.all) (says-text s net e)

    bytes-are : bytes_of net ≡ sheet_in r.places r.steps A
    bytes-are = ap bytes_of says.same ∙ sheet-is A r.places r.steps

    short : length (bytes_of net) ≤ most_bytes
    short = leb-true (length (bytes_of net)) most_bytes (ap (λ (n : ℕ). leb n most_bytes) (sym size_is) ∙ c.fits)

    pub to_make : Fits r.places r.steps A
    to_make =
        let steps : length net.transitions ≡ r.steps = ap (λ (n : Net). length n.transitions) says.same ∙ length-table r.steps (step_in A) in
        record {
          byte = c.places;
          few_steps = omega (arith, short, bytes-length net);
          few_acts = omega (arith, length-take-le r.acts acts c.room, c.few);
          size = subst (λ (l : List ℕ). length l ≤ most_bytes) bytes-are short;
        }

    holdable-is : holdable net ≡ counts_fit r.steps A
    holdable-is =
        let f : leb (length (bytes_of net)) most_bytes ≡ true = ap (λ (n : ℕ). leb n most_bytes) (sym size_is) ∙ c.fits in
        rw f (ap (λ (n : Net). leb n.bases 255 && (leb (length n.transitions) 255 && all holdable_step n.transitions)) says.same ∙ counts-fit A r.places r.steps)

    pub made : (x : Made) (b b' : List ℕ) → x ≡ made_in r.places r.steps A → b' ≡ sets b 0 (bytes_in r.places r.steps A) → Makes s x b b'
    made x b b' p q = subst (λ (y : Reading). (x ≡ made_of y) × (b' ≡ sets b 0 (sheet_made y))) (sym e) (
      p ∙ (λ i. pick (sym holdable-is i) (Sheet (length (sym bytes-are i))) TooLarge),
      q ∙ (λ i. sets b 0 (pick (sym holdable-is i) (sym bytes-are i) [])),
    )
