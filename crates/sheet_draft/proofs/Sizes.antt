-- How many bytes a net has, and how many a line adds.
-- Assumes nothing.
use mathlib.Core.Path.{◌≡◌, refl}
use mathlib.Core.Bool.{Bool, true, not}
use Prim.Native.Nat.{ℕ, ◌+◌, ◌*◌}
use native.Mathlib.Omega.{arith}
use mathlib.Core.List.{List, [], ◌∷◌, ◌++◌, map}
use lib.ListN.{length, length-append, length-map}
use Rattle.net.specs.Net.{Arcs, Net, bond, no_arcs}
use Rattle.net.specs.declared.Bond.{Bond}
use Rattle.net.specs.declared.Entry.{Entry}
use Rattle.text.specs.Joined.{joined}
use Rattle.encode.specs.Encoding.{entry_bytes, all_bonds, arcs_bytes, stretches, pairs, bytes_of}
use Rattle.lexing.proofs.Items.{never}
use Rattle.sheet_text.specs.Reading.{none, on_last, arcs, admits, added}
use Rattle.sheet_text.specs.declared.Line.{Line}
use Rattle.sheet_text.specs.declared.Line.TheVariants.{Blank, Places, Part, Coupled, Step, Move, Before, After, Wrong}
use Rattle.sheet_text.proofs.Rest.{last-length}
use Rattle.sheet_draft.specs.Notes.{note_of}
use Rattle.sheet_draft.proofs.Writing.{three-length, pairs-length}

abbrev arcs_size : Arcs → ℕ
arcs_size t = 3 + 3 * length t.entries + 2 * length t.in_bonds + 2 * length t.out_bonds

abbrev steps_size : List Arcs → ℕ
steps_size [] = 0
steps_size (t ∷ ts) = arcs_size t + steps_size ts

abbrev pub size_of : Net → ℕ
size_of net = 12 + 4 * length net.transitions + length net.start.places + 2 * length net.start.bonds + steps_size net.transitions

-- ---- the bytes of a net are as many

bonds-length : (bs : List Bond) → length (all_bonds bs) ≡ 2 * length bs
bonds-length [] = refl
bonds-length (b ∷ bs) = let h = bonds-length bs in omega arith

entries-length : (es : List Entry) → length (joined (map entry_bytes es)) ≡ 3 * length es
entries-length [] = refl
entries-length (e ∷ es) = let h = entries-length es in omega arith

arcs-length : (t : Arcs) → length (arcs_bytes t) ≡ arcs_size t
arcs-length t =
    let a = three-length (length t.entries ∷ joined (map entry_bytes t.entries)) (length t.in_bonds ∷ all_bonds t.in_bonds) (length t.out_bonds ∷ all_bonds t.out_bonds) in
    omega (arith, entries-length t.entries, bonds-length t.in_bonds, bonds-length t.out_bonds)

steps-length : (ts : List Arcs) → length (joined (map arcs_bytes ts)) ≡ steps_size ts
steps-length [] = refl
steps-length (t ∷ ts) = let a = length-append (arcs_bytes t) (joined (map arcs_bytes ts)) in omega (arith, arcs-length t, steps-length ts)

pub bytes-length : (net : Net) → length (bytes_of net) ≡ size_of net
unfolding bytes_of
bytes-length net =
    let at : ℕ = 4 + 4 * length (stretches net) in
    let a = three-length (1 ∷ net.places ∷ net.bases ∷ length net.transitions ∷ []) (pairs at (stretches net)) (joined (stretches net)) in
    let b = pairs-length at (stretches net) in
    let d = length-append net.start.places (all_bonds net.start.bonds ++ joined (map arcs_bytes net.transitions)) in
    let e = length-append (all_bonds net.start.bonds) (joined (map arcs_bytes net.transitions)) in
    omega (arith, bonds-length net.start.bonds, steps-length net.transitions, length-map net.transitions arcs_bytes)

-- ---- a line more

last-size : (f : Arcs → Arcs) (n : ℕ) → ((t : Arcs) → arcs_size (f t) ≡ arcs_size t + n) → (ts : List Arcs) → not (none ts) ≡ true → steps_size (on_last f ts) ≡ steps_size ts + n
last-size f n h [] e = never e
last-size f n h (t ∷ []) e = omega (arith, h t)
last-size f n h (t ∷ (u ∷ ts)) e = omega (arith, last-size f n h (u ∷ ts) refl)

steps-more : (ts : List Arcs) (t : Arcs) → steps_size (ts ++ (t ∷ [])) ≡ steps_size ts + arcs_size t
steps-more [] t = omega arith
steps-more (u ∷ ts) t = omega (arith, steps-more ts t)

pub size-added : (told : Bool) (net : Net) (l : Line) (P S : ℕ) → admits told net l ≡ true → size_of net + (note_of l P S).size ≡ size_of (added net l)
size-added told net Blank P S h = omega arith
size-added told net (Places n) P S h = omega arith
size-added told net (Part p x) P S h = omega (arith, length-append net.start.places (x ∷ []))
size-added told net (Coupled p q) P S h = omega (arith, length-append net.start.bonds (bond p q ∷ []))
size-added told net (Step k) P S h = omega (arith, length-append net.transitions (no_arcs ∷ []), steps-more net.transitions no_arcs)
size-added told net (Move p i o) P S h =
    let e : Entry = record { base = p; from = i; to = o } in
    omega (
      arith,
      last-length (λ (t : Arcs). arcs (t.entries ++ (e ∷ [])) t.in_bonds t.out_bonds) net.transitions,
      last-size (λ (t : Arcs). arcs (t.entries ++ (e ∷ [])) t.in_bonds t.out_bonds) 3 (λ t. omega (arith, length-append t.entries (e ∷ []))) net.transitions h,
    )
size-added told net (Before p q) P S h =
    omega (
      arith,
      last-length (λ (t : Arcs). arcs t.entries (t.in_bonds ++ (bond p q ∷ [])) t.out_bonds) net.transitions,
      last-size (λ (t : Arcs). arcs t.entries (t.in_bonds ++ (bond p q ∷ [])) t.out_bonds) 2 (λ t. omega (arith, length-append t.in_bonds (bond p q ∷ []))) net.transitions h,
    )
size-added told net (After p q) P S h =
    omega (
      arith,
      last-length (λ (t : Arcs). arcs t.entries t.in_bonds (t.out_bonds ++ (bond p q ∷ []))) net.transitions,
      last-size (λ (t : Arcs). arcs t.entries t.in_bonds (t.out_bonds ++ (bond p q ∷ []))) 2 (λ t. omega (arith, length-append t.out_bonds (bond p q ∷ []))) net.transitions h,
    )
size-added told net Wrong P S h = never h
