-- The lines of a net, read, are the net.
-- Assumes nothing.
use mathlib.Core.Path.{◌≡◌, refl, sym, ap, subst, ◌∙◌}
use mathlib.Core.Bool.{true, false, not}
use Prim.Native.Nat.{ℕ, suc, ◌+◌}
use native.Mathlib.Omega.{arith}
use mathlib.Core.List.{List, [], ◌∷◌, ◌++◌, append_assoc, append-nil}
use lib.ListN.{length, length-append}
use borrow.Author.Tests.{eq-eqb}
use Rattle.net.proofs.Tests.{or_r}
use Rattle.net.specs.Net.{Arcs, Net, no_arcs}
use Rattle.net.specs.declared.Bond.{Bond}
use Rattle.net.specs.declared.Entry.{Entry}
use Rattle.sheet_text.specs.declared.Line.{Line}
use Rattle.sheet_text.specs.declared.Line.TheVariants.{Blank, Part, Coupled, Step, Move, Before, After}
use Rattle.sheet_text.specs.Reading.{draft, nothing, none, on_last, arcs, is_places, admits, added, understood, read_from, part_lines, coupled_lines, move_lines, before_lines, after_lines, arcs_lines, step_lines, net_lines}

-- the lines ls take the draft a to b, behind `places`
abbrev Takes : Net → List Line → Net → Type 0
Takes a ls b = (k : ℕ) (r : List Line) → (j : ℕ) × (read_from k true a (ls ++ r) ≡ read_from j true b r)

takes_none : (a : Net) → Takes a [] a
takes_none a k r = (k, refl)

takes_one : (a : Net) (l : Line) (ls : List Line) (b : Net) → admits true a l ≡ true → Takes (added a l) ls b → Takes a (l ∷ ls) b
takes_one a l ls b h t k r = let (j, e) = t (suc k) r in (j, rw (h, or_r (is_places l) true refl) e)

takes-then : (a b c : Net) (xs ys : List Line) → Takes a xs b → Takes b ys c → Takes a (xs ++ ys) c
takes-then a b c xs ys t u k r =
    let (j, e) = t k (ys ++ r) in
    let (i, d) = u j r in
    (i, ap (read_from k true a) (append_assoc xs ys r) ∙ e ∙ d)

-- ---- the start

parts-take : (n b : ℕ) (ps xs : List ℕ) → Takes (draft n b ps [] []) (part_lines b xs) (draft n (b + length xs) (ps ++ xs) [] [])
parts-take n b ps [] =
    let e : b ≡ b + 0 = omega arith in
    subst (λ (z : Net). Takes (draft n b ps [] []) [] z) (λ i. draft n (e i) (sym (append-nil ps) i) [] []) (takes_none (draft n b ps [] []))
parts-take n b ps (x ∷ xs) =
    let e : suc b + length xs ≡ b + suc (length xs) = omega arith in
    takes_one (draft n b ps [] []) (Part b x) (part_lines (suc b) xs) (draft n (b + suc (length xs)) (ps ++ (x ∷ xs)) [] []) (rw (eq-eqb b b refl))
    (subst (λ (z : Net). Takes (draft n (suc b) (ps ++ (x ∷ [])) [] []) (part_lines (suc b) xs) z)
    (λ i. draft n (e i) (append_assoc ps (x ∷ []) xs i) [] [])
    (parts-take n (suc b) (ps ++ (x ∷ [])) xs))

bonds-take : (n b : ℕ) (ps : List ℕ) (bs cs : List Bond) → Takes (draft n b ps bs []) (coupled_lines cs) (draft n b ps (bs ++ cs) [])
bonds-take n b ps bs [] = subst (λ (z : List Bond). Takes (draft n b ps bs []) [] (draft n b ps z [])) (sym (append-nil bs)) (takes_none (draft n b ps bs []))
bonds-take n b ps bs (c ∷ cs) =
    takes_one (draft n b ps bs []) (Coupled c.lo c.hi) (coupled_lines cs) (draft n b ps (bs ++ (c ∷ cs)) []) refl
    (subst (λ (z : List Bond). Takes (draft n b ps (bs ++ (c ∷ [])) []) (coupled_lines cs) (draft n b ps z []))
    (append_assoc bs (c ∷ []) cs) (bonds-take n b ps (bs ++ (c ∷ [])) cs))

-- ---- the steps

pub last : (f : Arcs → Arcs) (ts : List Arcs) (t : Arcs) → on_last f (ts ++ (t ∷ [])) ≡ ts ++ (f t ∷ [])
last f [] t = refl
last f (u ∷ []) t = refl
last f (u ∷ (w ∷ ts)) t = ap (λ (l : List Arcs). u ∷ l) (last f (w ∷ ts) t)

some : (ts : List Arcs) (t : Arcs) → not (none (ts ++ (t ∷ []))) ≡ true
some [] t = refl
some (u ∷ ts) t = refl

module _ (n b : ℕ) (ps : List ℕ) (bs : List Bond) where
  abbrev at : List Arcs → Net
  at ts = draft n b ps bs ts

  -- a line that changes the last step, and the lines behind it
  on-last : (f : Arcs → Arcs) (ts : List Arcs) (t : Arcs) (l : Line) (ls : List Line) (z : Net)
      → admits true (at (ts ++ (t ∷ []))) l ≡ not (none (ts ++ (t ∷ []))) → added (at (ts ++ (t ∷ []))) l ≡ at (on_last f (ts ++ (t ∷ [])))
      → Takes (at (ts ++ (f t ∷ []))) ls z → Takes (at (ts ++ (t ∷ []))) (l ∷ ls) z
  on-last f ts t l ls z p q h =
      takes_one (at (ts ++ (t ∷ []))) l ls z (p ∙ some ts t) (subst (λ (y : Net). Takes y ls z) (sym (q ∙ ap at (last f ts t))) h)

  moves-take : (ts : List Arcs) (es fs : List Entry) (is os : List Bond)
      → Takes (at (ts ++ (arcs es is os ∷ []))) (move_lines fs) (at (ts ++ (arcs (es ++ fs) is os ∷ [])))
  moves-take ts es [] is os =
      subst (λ (z : List Entry). Takes (at (ts ++ (arcs es is os ∷ []))) [] (at (ts ++ (arcs z is os ∷ [])))) (sym (append-nil es)) (takes_none (at (ts ++ (arcs es is os ∷ []))))
  moves-take ts es (f ∷ fs) is os =
      on-last (λ (t : Arcs). arcs (t.entries ++ (f ∷ [])) t.in_bonds t.out_bonds) ts (arcs es is os) (Move f.base f.from f.to) (move_lines fs)
      (at (ts ++ (arcs (es ++ (f ∷ fs)) is os ∷ []))) refl refl
      (subst (λ (z : List Entry). Takes (at (ts ++ (arcs (es ++ (f ∷ [])) is os ∷ []))) (move_lines fs) (at (ts ++ (arcs z is os ∷ []))))
      (append_assoc es (f ∷ []) fs) (moves-take ts (es ++ (f ∷ [])) fs is os))

  befores-take : (ts : List Arcs) (es : List Entry) (is js os : List Bond)
      → Takes (at (ts ++ (arcs es is os ∷ []))) (before_lines js) (at (ts ++ (arcs es (is ++ js) os ∷ [])))
  befores-take ts es is [] os =
      subst (λ (z : List Bond). Takes (at (ts ++ (arcs es is os ∷ []))) [] (at (ts ++ (arcs es z os ∷ [])))) (sym (append-nil is)) (takes_none (at (ts ++ (arcs es is os ∷ []))))
  befores-take ts es is (c ∷ js) os =
      on-last (λ (t : Arcs). arcs t.entries (t.in_bonds ++ (c ∷ [])) t.out_bonds) ts (arcs es is os) (Before c.lo c.hi) (before_lines js) (at (ts ++ (arcs es (is ++ (c ∷ js)) os ∷ []))) refl refl
      (subst (λ (z : List Bond). Takes (at (ts ++ (arcs es (is ++ (c ∷ [])) os ∷ []))) (before_lines js) (at (ts ++ (arcs es z os ∷ []))))
      (append_assoc is (c ∷ []) js) (befores-take ts es (is ++ (c ∷ [])) js os))

  afters-take : (ts : List Arcs) (es : List Entry) (is os us : List Bond)
      → Takes (at (ts ++ (arcs es is os ∷ []))) (after_lines us) (at (ts ++ (arcs es is (os ++ us) ∷ [])))
  afters-take ts es is os [] =
      subst (λ (z : List Bond). Takes (at (ts ++ (arcs es is os ∷ []))) [] (at (ts ++ (arcs es is z ∷ [])))) (sym (append-nil os)) (takes_none (at (ts ++ (arcs es is os ∷ []))))
  afters-take ts es is os (c ∷ us) =
      on-last (λ (t : Arcs). arcs t.entries t.in_bonds (t.out_bonds ++ (c ∷ []))) ts (arcs es is os) (After c.lo c.hi) (after_lines us) (at (ts ++ (arcs es is (os ++ (c ∷ us)) ∷ []))) refl refl
      (subst (λ (z : List Bond). Takes (at (ts ++ (arcs es is (os ++ (c ∷ [])) ∷ []))) (after_lines us) (at (ts ++ (arcs es is z ∷ []))))
      (append_assoc os (c ∷ []) us) (afters-take ts es is (os ++ (c ∷ [])) us))

  steps-take : (k : ℕ) (ts us : List Arcs) → k ≡ length ts → Takes (at ts) (step_lines k us) (at (ts ++ us))
  steps-take k ts [] e = subst (λ (z : List Arcs). Takes (at ts) [] (at z)) (sym (append-nil ts)) (takes_none (at ts))
  steps-take k ts (u ∷ us) e =
      let l = length-append ts (u ∷ []) in
      takes_one (at ts) (Step k) (arcs_lines u ++ step_lines (suc k) us) (at (ts ++ (u ∷ us))) (eq-eqb k (length ts) e)
      (takes-then (at (ts ++ (no_arcs ∷ []))) (at (ts ++ (u ∷ []))) (at (ts ++ (u ∷ us))) (arcs_lines u) (step_lines (suc k) us)
      (takes-then (at (ts ++ (no_arcs ∷ []))) (at (ts ++ (arcs u.entries [] [] ∷ []))) (at (ts ++ (u ∷ []))) (move_lines u.entries) (before_lines u.in_bonds ++ after_lines u.out_bonds)
      (moves-take ts [] u.entries [] [])
      (takes-then (at (ts ++ (arcs u.entries [] [] ∷ []))) (at (ts ++ (arcs u.entries u.in_bonds [] ∷ []))) (at (ts ++ (u ∷ []))) (before_lines u.in_bonds) (after_lines u.out_bonds)
      (befores-take ts u.entries [] u.in_bonds [])
      (afters-take ts u.entries u.in_bonds [] u.out_bonds)))
      (subst (λ (z : List Arcs). Takes (at (ts ++ (u ∷ []))) (step_lines (suc k) us) (at z)) (append_assoc ts (u ∷ []) us)
      (steps-take (suc k) (ts ++ (u ∷ [])) us (omega arith))))

-- ---- all of it

net-takes : (net : Net) → net.bases ≡ length net.start.places
    → Takes (draft net.places 0 [] [] []) (part_lines 0 net.start.places ++ (coupled_lines net.start.bonds ++ step_lines 0 net.transitions)) net
net-takes net e =
    let n : ℕ = net.places in
    let ps : List ℕ = net.start.places in
    let bs : List Bond = net.start.bonds in
    let z : 0 + length ps ≡ net.bases = omega arith in
    takes-then (draft n 0 [] [] []) (draft n net.bases ps [] []) net (part_lines 0 ps) (coupled_lines bs ++ step_lines 0 net.transitions)
    (subst (λ (k : ℕ). Takes (draft n 0 [] [] []) (part_lines 0 ps) (draft n k ps [] [])) z (parts-take n 0 [] ps))
    (takes-then (draft n net.bases ps [] []) (draft n net.bases ps bs []) net (coupled_lines bs) (step_lines 0 net.transitions)
    (bonds-take n net.bases ps [] bs)
    (steps-take n net.bases ps bs 0 [] net.transitions refl))

pub net-back : (k : ℕ) (net : Net) → net.bases ≡ length net.start.places → read_from k false nothing (net_lines net ++ (Blank ∷ [])) ≡ understood net
net-back k net e = let (j, d) = net-takes net e (suc k) (Blank ∷ []) in d
