-- The pieces, one after the other, are sheet_text's text of the sheet.
-- Assumes nothing.
use mathlib.Core.Path.{◌≡◌, refl, sym, ap, ◌∙◌}
use Prim.Native.Nat.{ℕ, zero, suc, ◌+◌}
use native.Mathlib.Omega.{arith}
use mathlib.Core.List.{List, [], ◌∷◌, ◌++◌, map, append_assoc}
use lib.ListN.{length, get_or}
use Rattle.net.specs.Tests.{table}
use Rattle.net.specs.Net.{Arcs}
use Rattle.net.specs.Journal.{transition}
use Rattle.net.specs.declared.Bond.{Bond}
use Rattle.net.specs.declared.Entry.{Entry}
use Rattle.text.specs.Joined.{joined}
use Rattle.lexing.specs.Printed.{text_of}
use Rattle.format.specs.Parts.{places_of, bases_of, transitions_of, start_places, transition_bytes}
use Rattle.format.specs.Arcs.{entry_count, nth_entry, in_count, nth_in_bond, out_count, nth_out_bond, arcs_in}
use Rattle.format.specs.NetOf.{start_bond_count, nth_start_bond, start_marking, net_of}
use Rattle.sheet_text.specs.declared.Line.{Line}
use Rattle.sheet_text.specs.declared.Line.TheVariants.{Places, Part, Coupled, Step, Move, Before, After}
use Rattle.sheet_text.specs.Lines.{line_tokens}
use Rattle.sheet_text.specs.Reading.{net_text, net_lines, part_lines, coupled_lines, move_lines, before_lines, after_lines, arcs_lines, step_lines}
use Rattle.sheet_text.specs.Claims.{sheet_text}
use Rattle.sheet_print.specs.Pieces.{line_bytes, part_at, parts_text, coupled_text, moves_text, before_text, after_text, arcs_text, step_at, steps_text}

-- the text of some lines
abbrev pub text_lines : List Line → List ℕ
text_lines ls = joined (map line_bytes ls)

text-lines : (ls : List Line) → text_of (map line_tokens ls) ≡ text_lines ls
unfolding text_of
text-lines [] = refl
text-lines (l ∷ ls) = ap (λ (t : List ℕ). line_bytes l ++ t) (text-lines ls)

text-append : (ls ms : List Line) → text_lines (ls ++ ms) ≡ text_lines ls ++ text_lines ms
text-append [] ms = refl
text-append (l ∷ ls) ms = ap (λ (t : List ℕ). line_bytes l ++ t) (text-append ls ms) ∙ sym (append_assoc (line_bytes l) (text_lines ls) (text_lines ms))

-- ---- lists of lines as tables

module _ {X : Type 0} where
  text-table : (g : X → Line) (n : ℕ) (f : ℕ → X) → text_lines (map g (table n f)) ≡ joined (table n (λ i. line_bytes (g (f i))))
  text-table g zero f = refl
  text-table g (suc n) f = ap (λ (t : List ℕ). line_bytes (g (f zero)) ++ t) (text-table g n (λ i. f (suc i)))

-- parts from p on
text-parts : (p : ℕ) (xs : List ℕ) (f : ℕ → List ℕ) → ((i : ℕ) → line_bytes (Part (p + i) (get_or xs i 0)) ≡ f i) → text_lines (part_lines p xs) ≡ joined (table (length xs) f)
text-parts p [] f h = refl
text-parts p (x ∷ xs) f h =
    let z : p ≡ p + 0 = omega arith in
    let a : line_bytes (Part p x) ≡ f zero = ap (λ (n : ℕ). line_bytes (Part n x)) z ∙ h zero in
    let b = text-parts (suc p) xs (λ i. f (suc i)) (λ i. let e : suc p + i ≡ p + suc i = omega arith in ap (λ (n : ℕ). line_bytes (Part n (get_or xs i 0))) e ∙ h (suc i)) in
    λ i. a i ++ b i

-- steps from k on
text-steps : (k n : ℕ) (t : ℕ → Arcs) (f : ℕ → List ℕ) → ((i : ℕ) → line_bytes (Step (k + i)) ++ text_lines (arcs_lines (t i)) ≡ f i) → text_lines (step_lines k (table n t)) ≡ joined (table n f)
text-steps k zero t f h = refl
text-steps k (suc n) t f h =
    let z : k ≡ k + 0 = omega arith in
    let a : line_bytes (Step k) ++ text_lines (arcs_lines (t zero)) ≡ f zero = ap (λ (m : ℕ). line_bytes (Step m) ++ text_lines (arcs_lines (t zero))) z ∙ h zero in
    let b = text-steps (suc k) n (λ i. t (suc i)) (λ i. f (suc i)) (λ i. let e : suc k + i ≡ k + suc i = omega arith in ap (λ (m : ℕ). line_bytes (Step m) ++ text_lines (arcs_lines (t (suc i)))) e ∙ h (suc i)) in
    let rest : List Line = step_lines (suc k) (table n (λ i. t (suc i))) in
    ap (λ (l : List ℕ). line_bytes (Step k) ++ l) (text-append (arcs_lines (t zero)) rest)
    ∙ sym (append_assoc (line_bytes (Step k)) (text_lines (arcs_lines (t zero))) (text_lines rest))
    ∙ (λ i. a i ++ b i)

-- ---- what a step's bytes say

text-arcs : (b : List ℕ) → text_lines (arcs_lines (arcs_in b)) ≡ arcs_text b
unfolding arcs_text
text-arcs b =
    let m : text_lines (move_lines (arcs_in b).entries) ≡ moves_text b = text-table (λ (e : Entry). Move e.base e.from e.to) (entry_count b) (nth_entry b) in
    let i : text_lines (before_lines (arcs_in b).in_bonds) ≡ before_text b = text-table (λ (x : Bond). Before x.lo x.hi) (in_count b) (nth_in_bond b) in
    let o : text_lines (after_lines (arcs_in b).out_bonds) ≡ after_text b = text-table (λ (x : Bond). After x.lo x.hi) (out_count b) (nth_out_bond b) in
    text-append (move_lines (arcs_in b).entries) (before_lines (arcs_in b).in_bonds ++ after_lines (arcs_in b).out_bonds)
    ∙ ap (λ (t : List ℕ). text_lines (move_lines (arcs_in b).entries) ++ t) (text-append (before_lines (arcs_in b).in_bonds) (after_lines (arcs_in b).out_bonds))
    ∙ (λ j. m j ++ (i j ++ o j))

-- ---- the whole

module _ (s : List ℕ) where
  abbrev parts : List Line
  parts = part_lines 0 (start_places s)

  abbrev couplings : List Line
  couplings = coupled_lines (start_marking s).bonds

  abbrev steps : List Line
  steps = step_lines 0 (table (transitions_of s) (λ k. arcs_in (transition_bytes s (transition k))))

  all-steps : text_lines steps ≡ steps_text s
  unfolding step_at
  all-steps = text-steps 0 (transitions_of s) (λ k. arcs_in (transition_bytes s (transition k))) (step_at s) (λ k.
      let z : 0 + k ≡ k = omega arith in
      let b : List ℕ = transition_bytes s (transition k) in
      λ i. line_bytes (Step (z i)) ++ text-arcs b i)

  all-couplings : text_lines couplings ≡ coupled_text s
  all-couplings = text-table (λ (b : Bond). Coupled b.lo b.hi) (start_bond_count s) (nth_start_bond s)

  all-parts : length (start_places s) ≡ bases_of s → text_lines parts ≡ parts_text s
  all-parts h =
      text-parts 0 (start_places s) (part_at s) (λ i. let z : 0 + i ≡ i = omega arith in ap (λ (n : ℕ). line_bytes (Part n (get_or (start_places s) i 0))) z)
      ∙ ap (λ (n : ℕ). joined (table n (part_at s))) h

  pub sheet-pieces : length (start_places s) ≡ bases_of s → line_bytes (Places (places_of s)) ++ (parts_text s ++ (coupled_text s ++ steps_text s)) ≡ sheet_text s
  unfolding net_text net_of
  sheet-pieces h =
      let a : text_lines (parts ++ (couplings ++ steps)) ≡ parts_text s ++ (coupled_text s ++ steps_text s) =
      text-append parts (couplings ++ steps) ∙ ap (λ (t : List ℕ). text_lines parts ++ t) (text-append couplings steps) ∙ (λ i. all-parts h i ++ (all-couplings i ++ all-steps i)) in
      sym (text-lines (net_lines (net_of s)) ∙ ap (λ (t : List ℕ). line_bytes (Places (places_of s)) ++ t) a)
