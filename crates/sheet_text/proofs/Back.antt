-- For every accepted sheet, reading its printed text gives the same bytes.
-- Assumes nothing.
use mathlib.Core.Path.{◌≡◌, refl, sym, ap, ◌∙◌}
use mathlib.Core.Bool.{true, false, ◌&&◌}
use Prim.Native.Nat.{ℕ, zero, suc, ◌+◌, ◌<◌, ◌≤◌}
use native.Mathlib.Omega.{arith}
use mathlib.Core.List.{List, [], ◌∷◌, ◌++◌, map}
use mathlib.Core.Logic.{inl, inr}
use lib.Dec.{leb}
use lib.ListN.{length, get_or}
use borrow.Author.Tests.{le-leb}
use Rattle.causal.specs.Lists.{Mem}
use Rattle.net.specs.Tests.{all, table}
use Rattle.net.specs.Limits.{max_places, max_bases}
use Rattle.net.specs.Net.{Arcs, Net}
use Rattle.net.specs.Checks.{clear, first}
use Rattle.net.specs.declared.Bond.{Bond}
use Rattle.net.specs.declared.Entry.{Entry}
use Rattle.net.proofs.Tests.{and_i, all_append}
use Rattle.format.specs.Parts.{places_of, bases_of, transitions_of}
use Rattle.format.specs.NetOf.{start_marking, net_of}
use Rattle.net.specs.Journal.{transition}
use Rattle.sheet.specs.Checks.{sheet_checks, checked}
use Rattle.sheet.specs.Promises.{BondWithin, GoodArcs, Promised, arcs_at}
use Rattle.net.specs.declared.Verdict.TheVariants.{Accepted}
use Rattle.sheet.proofs.Accepted.{accepted-promised, clear_of}
use Rattle.lexing.specs.Tokens.{Token}
use Rattle.lexing.proofs.Back.{printed-back}
use Rattle.encode.specs.Encoding.{bytes, bytes_of}
use Rattle.encode.proofs.Whole.{sheet-back}
use Rattle.sheet_text.specs.declared.Line.{Line}
use Rattle.sheet_text.specs.declared.Line.TheVariants.{Coupled, Move, Before, After}
use Rattle.sheet_text.specs.Lines.{most, line_of, line_tokens}
use Rattle.sheet_text.specs.Reading.{max_items, nothing, understood, read_from, read_text, net_text, net_lines, part_lines, coupled_lines, move_lines, before_lines, after_lines, arcs_lines, step_lines}
use Rattle.sheet_text.specs.Claims.{sheet_of, ReadBack}
use Rattle.sheet_text.proofs.LineBack.{small, lines-back, lines-plain}
use Rattle.sheet_text.proofs.NetBack.{net-back}

-- ---- any net whose numbers are bytes

pub text-back : (net : Net) → all small (net_lines net) ≡ true → net.bases ≡ length net.start.places → read_text (net_text net) ≡ understood net
unfolding read_text net_text
text-back net h e =
    ap (λ (ls : List (List Token)). read_from 1 false nothing (map line_of ls)) (printed-back max_items (map line_tokens (net_lines net)) (lines-plain (net_lines net) h))
    ∙ ap (read_from 1 false nothing) (lines-back (net_lines net) h)
    ∙ net-back 1 net e

-- ---- an accepted sheet's numbers are bytes

fine : (n : ℕ) → n ≤ most → leb n most ≡ true
fine n h = le-leb n most h

module _ {X : Type 0} where
  maps-small : (g : X → Line) (xs : List X) → ((x : X) → Mem x xs → small (g x) ≡ true) → all small (map g xs) ≡ true
  maps-small g [] h = refl
  maps-small g (x ∷ xs) h = and_i (small (g x)) (all small (map g xs)) (h x (inl refl)) (maps-small g xs (λ y m. h y (inr m)))

joins-small : (xs ys : List Line) → all small xs ≡ true → all small ys ≡ true → all small (xs ++ ys) ≡ true
joins-small xs ys p q = all_append small xs ys ∙ and_i (all small xs) (all small ys) p q

parts-small : (b : ℕ) (xs : List ℕ) → b + length xs ≤ suc most → ((i : ℕ) → i < length xs → get_or xs i 0 ≤ most) → all small (part_lines b xs) ≡ true
parts-small b [] l h = refl
parts-small b (x ∷ xs) l h =
    and_i (leb b most && leb x most) (all small (part_lines (suc b) xs)) (and_i (leb b most) (leb x most) (fine b (omega arith)) (fine x (h 0 (omega arith))))
    (parts-small (suc b) xs (omega arith) (λ i k. h (suc i) (omega arith)))

bond-small : (n : ℕ) (b : Bond) → n ≤ max_bases → BondWithin n b → (leb b.lo most && leb b.hi most) ≡ true
bond-small n b l (p, q) = and_i (leb b.lo most) (leb b.hi most) (fine b.lo (omega arith)) (fine b.hi (omega arith))

arcs-small : (n m : ℕ) (t : Arcs) → n ≤ max_places → m ≤ max_bases → GoodArcs n m t → all small (arcs_lines t) ≡ true
arcs-small n m t k l g =
    joins-small (move_lines t.entries) (before_lines t.in_bonds ++ after_lines t.out_bonds)
    (maps-small (λ (e : Entry). Move e.base e.from e.to) t.entries (λ e i.
    let (p, q, r) = g.entry e i in
    and_i (leb e.base most) (leb e.from most && leb e.to most) (fine e.base (omega arith))
    (and_i (leb e.from most) (leb e.to most) (fine e.from (omega arith)) (fine e.to (omega arith)))))
    (joins-small (before_lines t.in_bonds) (after_lines t.out_bonds)
    (maps-small (λ (b : Bond). Before b.lo b.hi) t.in_bonds (λ b i. bond-small m b l (g.in_bond b i)))
    (maps-small (λ (b : Bond). After b.lo b.hi) t.out_bonds (λ b i. bond-small m b l (g.out_bond b i))))

steps-small : (k n : ℕ) (f : ℕ → Arcs) → k + n ≤ suc most → ((i : ℕ) → i < n → all small (arcs_lines (f i)) ≡ true) → all small (step_lines k (table n f)) ≡ true
steps-small k zero f l h = refl
steps-small k (suc n) f l h =
    and_i (leb k most) (all small (arcs_lines (f 0) ++ step_lines (suc k) (table n (λ i. f (suc i))))) (fine k (omega arith))
    (joins-small (arcs_lines (f 0)) (step_lines (suc k) (table n (λ i. f (suc i)))) (h 0 (omega arith))
    (steps-small (suc k) n (λ i. f (suc i)) (omega arith) (λ i j. h (suc i) (omega arith))))

net-small : (s : List ℕ) → Promised s → all small (net_lines (net_of s)) ≡ true
unfolding net_of
net-small s p =
    let e = p.start_size in
    let a = p.places in
    let b = p.bases in
    let d = p.transitions in
    and_i (leb (places_of s) most)
    (all small (part_lines 0 (start_marking s).places ++ (coupled_lines (start_marking s).bonds ++ step_lines 0 (table (transitions_of s) (λ k. arcs_at s (transition k)))))) (fine (places_of s) (omega arith))
    (joins-small (part_lines 0 (start_marking s).places) (coupled_lines (start_marking s).bonds ++ step_lines 0 (table (transitions_of s) (λ k. arcs_at s (transition k))))
    (parts-small 0 (start_marking s).places (omega arith) (λ i k. let q = p.start_place i (rw (← e) k) in omega arith))
    (joins-small (coupled_lines (start_marking s).bonds) (step_lines 0 (table (transitions_of s) (λ k. arcs_at s (transition k))))
    (maps-small (λ (c : Bond). Coupled c.lo c.hi) (start_marking s).bonds (λ c i. bond-small (bases_of s) c (omega arith) (p.start_bond c i)))
    (steps-small 0 (transitions_of s) (λ k. arcs_at s (transition k)) (omega arith) (λ i k. arcs-small (places_of s) (bases_of s) (arcs_at s (transition i)) (omega arith) (omega arith) (p.arcs (transition i) k)))))

sizes : (s : List ℕ) → Promised s → (net_of s).bases ≡ length (net_of s).start.places
unfolding net_of
sizes s p = sym p.start_size

-- ---- for every accepted sheet

module _ (s : List ℕ) (h : checked s ≡ Accepted) (b : bytes s ≡ true) where
  net-again : read_text (net_text (net_of s)) ≡ understood (net_of s)
  net-again = let p = accepted-promised s h in text-back (net_of s) (net-small s p) (sizes s p)

  bytes-again : bytes_of (net_of s) ≡ s
  unfolding checked
  bytes-again = sheet-back s (clear_of (clear (sheet_checks s)) (first (sheet_checks s)) h) b

  pub read_back : ReadBack s
  read_back = record { net = net-again; bytes = ap sheet_of net-again ∙ bytes-again }
