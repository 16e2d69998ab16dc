-- One line more of a forward run: what the engine's answers say of it.
-- Assumes nothing.
use mathlib.Core.Path.{◌≡◌, refl, sym, ◌∙◌, ap}
use mathlib.Core.Bool.{Bool, true, false, ◌&&◌, beq}
use mathlib.Core.List.{List, [], ◌∷◌}
use Prim.Native.Nat.{ℕ, suc, ◌+◌, ◌*◌, ◌-◌, ◌^◌, ◌<◌, ◌≤◌}
use native.Mathlib.Omega.{arith}
use native.Mathlib.Numerals.{add-one}
use lib.Dec.{eqb}
use lib.ListN.{length, get_or, drop, drop_of_length-le}
use lib.Seq.{drop-cons}
use borrow.Author.Tests.{eqb-true, eq-eqb, ne_eqb, leb-false}
use Rattle.causal.proofs.Tests.{both}
use Rattle.net.specs.Limits.{max_bases, max_bonds}
use Rattle.net.specs.Tests.{same_list}
use Rattle.net.specs.Net as Net
use Rattle.net.specs.Net.{Net, arcs_of}
use Rattle.net.specs.Marking.{Good}
use Rattle.net.specs.Firing.{moves, moved, fire}
use Rattle.net.specs.Checks.{clear, first}
use Rattle.net.specs.Journal.{LiveLine, no_line, transition, enable_checks}
use Rattle.net.specs.History.{same_marking, accepts, replays}
use Rattle.net.specs.declared.Transition.{Transition}
use Rattle.net.proofs.Tests.{and_l, same_test, same-e, same-i, beq-e, beq-i}
use Rattle.net.proofs.Tables.{length-table, get_d-table}
use Rattle.net.proofs.Checks.{clear-off}
use Rattle.net.proofs.Fire.{fire-good}
use Rattle.format.specs.Parts.{bases_of, transitions_of}
use Rattle.format.specs.NetOf.{net_of}
use Rattle.sheet.specs.Checks.{sheet_checks}
use Rattle.sheet.proofs.Order.{clear_first}
use Rattle.words.specs.Sets.{set_of, packed}
use Rattle.words.proofs.Bits.{set-packed, packed-set}
use Rattle.marking.specs.Form.{bonds_of, marking_of, laid}
use Rattle.marking.specs.declared.Marking.{Marking}
use Rattle.marking.proofs.Forms.{marking-laid}
use Rattle.marking.proofs.Lent.{lo-length, hi-length}
use Rattle.firings.specs.Lines.{firing_at, as_line, lines_in}
use Rattle.firings.specs.declared.Firing.{Firing}
use Rattle.firings.specs.declared.Firings.{Firings}
use Rattle.enabling.specs.Ready.{Ready}
use Rattle.enabling.proofs.Readiness.{in_order, ends_low}
use Rattle.steps.specs.Placed.{Placed}
use Rattle.steps.proofs.Arcs.{arcs-of, count-of}
use Rattle.steps.proofs.Readiness.{few-bases, fit}
use Rattle.marking.proofs.Room.{bonds-fit}
use Rattle.bonds.specs.Ends.{ends}

-- none of 12 to 16 holds exactly where the first is 0
pub enabled-first : (net : Net) (z : Net.Marking) (t : Transition) → clear (enable_checks net z t) ≡ eqb (first (enable_checks net z t)) 0
enabled-first net z t = clear_first (enable_checks net z t) refl

-- an enabled transition is on the sheet
pub enabled-listed : (s : List ℕ) (z : Net.Marking) (t : Transition) → clear (enable_checks (net_of s) z t) ≡ true → t.0 < transitions_of s
enabled-listed s z t h = rw (← count-of s) (leb-false (length (net_of s).transitions) t.0 (clear-off (enable_checks (net_of s) z t) h 12))

-- ---- the marking after a firing

pub placed-laid : (s : List ℕ) (z : Net.Marking) → clear (sheet_checks s) ≡ true → Good (net_of s) z → Placed s (laid z)
unfolding net_of
placed-laid s z a g =
    let back : marking_of (bases_of s) (laid z) ≡ z = marking-laid z (bases_of s) g.size in
    record { accepted = a; form = sym (ap laid back); good = rw back g }

-- an enabled firing keeps a good marking good
pub placed-fired : (s : List ℕ) (m : Marking) (t : Transition) → Placed s m → clear (enable_checks (net_of s) (marking_of (bases_of s) m) t) ≡ true
    → Placed s (laid (fire (bases_of s) (arcs_of (net_of s) t) (marking_of (bases_of s) m)))
unfolding net_of
placed-fired s m t P h = placed-laid s (fire (bases_of s) (arcs_of (net_of s) t) (marking_of (bases_of s) m)) P.accepted
    (fire-good (net_of s) (marking_of (bases_of s) m) P.good (arcs_of (net_of s) t) (rw (arcs-of s t) (fit s m t P (enabled-listed s (marking_of (bases_of s) m) t h))))

-- the bonds of a good marking fit its arrays
pub placed-room : (s : List ℕ) (m : Marking) → Placed s m → m.count ≤ max_bonds
unfolding net_of
placed-room s m P =
    let size : length (bonds_of m) ≡ m.count = length-table m.count (ends m.lo m.hi) in
    let most : 2 * length (bonds_of m) ≤ max_bases * (max_bases - 1) = bonds-fit (bases_of s) max_bases (few-bases s m P) (bonds_of m) P.good.order P.good.range in
    omega arith

-- what is known of the marking alone, with no transition
placed-ready : (s : List ℕ) (m : Marking) → Placed s m → Ready (bases_of s) (record { entries = []; in_bonds = []; out_bonds = [] }) m
unfolding net_of
placed-ready s m P = record {
  few = few-bases s m P;
  form = P.form;
  order = P.good.order;
  range = P.good.range;
  bases = λ e h. absurd h;
  outs = λ b h. both false h refl;
  ins = λ b h. both false h refl;
  room = rw (← length-table m.count (ends m.lo m.hi)) at (placed-room s m P);
}

-- what labels of its bonds ask: they fit, and their ends are below the limit
pub placed-fits : (s : List ℕ) (m : Marking) → Placed s m → (m.count ≤ length m.lo) × (m.count ≤ length m.hi)
placed-fits s m P =
    let I = in_order (bases_of s) (record { entries = []; in_bonds = []; out_bonds = [] }) m (placed-ready s m P) in
    (rw (lo-length m I) I.room, rw (hi-length m I) I.room)

pub placed-ends : (s : List ℕ) (m : Marking) → Placed s m → (i : ℕ) → i < m.count → (get_or m.lo i 0 < max_bases) × (get_or m.hi i 0 < max_bases)
placed-ends s m P = ends_low (bases_of s) (record { entries = []; in_bonds = []; out_bonds = [] }) m (placed-ready s m P)

-- ---- a firing as a line

-- the word of a set is that of a firing in its form exactly where the sets are the same
same_word : (n w x : ℕ) (l : List Bool) → x < 2 ^ n → length l ≡ n → w ≡ packed l → eqb w x ≡ same_list beq (set_of n x) l
same_word n w x l h size e = same_test (eqb w x) (same_list beq (set_of n x) l)
    (λ q.
    let y : x ≡ packed l = sym (eqb-true w x q) ∙ e in
    let z : set_of n x ≡ l = ap (set_of n) y ∙ ap (λ (k : ℕ). set_of k (packed l)) (sym size) ∙ set-packed l in
    ap (λ (k : List Bool). same_list beq k l) z ∙ same-i beq beq-i l)
    (λ q.
    let z : set_of n x ≡ l = same-e beq beq-e (set_of n x) l q in
    eq-eqb w x (e ∙ ap packed (sym z) ∙ packed-set n x h))

-- t is the transition that the firing names
module _ (s : List ℕ) (m : Marking) (f : Firing) (t : Transition) (k : t ≡ transition f.transition) where
  abbrev line : LiveLine
  line = as_line (bases_of s) f

  abbrev seen : Net.Marking
  seen = marking_of (bases_of s) m

  -- the line is accepted where t is enabled and moves just its bases
  accepts-by : (b : Bool) → clear (enable_checks (net_of s) seen t) ≡ b → accepts (net_of s) seen line ≡ (b && same_list beq line.moved (moved (net_of s).bases (arcs_of (net_of s) t) seen))
  accepts-by b h = ap (λ (x : Transition). clear (enable_checks (net_of s) seen x) && same_list beq line.moved (moved (net_of s).bases (arcs_of (net_of s) x) seen)) (sym k)
      ∙ ap (λ (x : Bool). x && same_list beq line.moved (moved (net_of s).bases (arcs_of (net_of s) t) seen)) h

  pub line_refused : (r : ℕ) → r ≡ first (enable_checks (net_of s) seen t) → (r ≡ 0 → ⊥) → false ≡ accepts (net_of s) seen line
  line_refused r e h = sym (accepts-by false (enabled-first (net_of s) seen t ∙ ap (λ (n : ℕ). eqb n 0) (sym e) ∙ ne_eqb r 0 h))

  -- r is the refusal's number
  module _ (r : ℕ) (e : r ≡ first (enable_checks (net_of s) seen t)) (h : r ≡ 0) where
    line_clear : clear (enable_checks (net_of s) seen t) ≡ true
    line_clear = enabled-first (net_of s) seen t ∙ ap (λ (n : ℕ). eqb n 0) (sym e) ∙ eq-eqb r 0 h

    pub line-listed : t.0 < transitions_of s
    line-listed = enabled-listed s seen t line_clear

    -- w is the word of the bases that t moved
    pub line_same : (w : ℕ) → f.moved < 2 ^ bases_of s → w ≡ packed (moved (bases_of s) (arcs_of (net_of s) t) seen) → eqb w f.moved ≡ accepts (net_of s) seen line
    unfolding net_of
    line_same w low d =
        same_word (bases_of s) w f.moved (moved (bases_of s) (arcs_of (net_of s) t) seen) low (length-table (bases_of s) (moves seen.bonds (arcs_of (net_of s) t).entries)) d
        ∙ sym (accepts-by true line_clear)

  -- the marking after t is that after the line
  pub line-fired : (z : Marking) → z ≡ laid (fire (bases_of s) (arcs_of (net_of s) t) seen) → z ≡ laid (fire (bases_of s) (arcs_of (net_of s) line.transition) seen)
  line-fired z q = q ∙ ap (λ (x : Transition). laid (fire (bases_of s) (arcs_of (net_of s) x) seen)) k

-- ---- the run

module _ (s : List ℕ) (f : Firings) where
  abbrev lines : List LiveLine
  lines = lines_in (bases_of s) f

  abbrev line_at : ℕ → LiveLine
  line_at i = as_line (bases_of s) (firing_at f.transitions f.keys f.moved i)

  lines_cons : (i : ℕ) → i < f.live → drop i lines ≡ line_at i ∷ drop (suc i) lines
  lines_cons i h =
      let size : i < length lines = rw length-table h in
      drop-cons lines i no_line size ∙ ap (λ (l : LiveLine). l ∷ drop (suc i) lines) (get_d-table f.live line_at i no_line h)

  -- the run from m₀ is the run of what is left from i on, from m
  abbrev pub Runs : Marking → Marking → ℕ → Type 0
  Runs m₀ m i = (z : Net.Marking) → replays (net_of s) (marking_of (bases_of s) m₀) lines z ≡ replays (net_of s) (marking_of (bases_of s) m) (drop i lines) z

  module _ (m₀ m : Marking) (i : ℕ) (R : Runs m₀ m i) where
    pub run_ends : f.live ≤ i → (z : Net.Marking) → replays (net_of s) (marking_of (bases_of s) m₀) lines z ≡ same_marking (marking_of (bases_of s) m) z
    run_ends h z =
        let size : length lines ≤ i = rw length-table h in
        R z ∙ ap (λ (ls : List LiveLine). replays (net_of s) (marking_of (bases_of s) m) ls z) (drop_of_length-le lines size)

    -- g is the firing at i, and a whether it is accepted
    module _ (h : i < f.live) (g : Firing) (k : g ≡ firing_at f.transitions f.keys f.moved i) (a : Bool) (e : a ≡ accepts (net_of s) (marking_of (bases_of s) m) (as_line (bases_of s) g)) where
      by-line : (z : Net.Marking) (b : Bool) → a ≡ b → replays (net_of s) (marking_of (bases_of s) m₀) lines z
          ≡ (b && replays (net_of s) (fire (net_of s).bases (arcs_of (net_of s) (line_at i).transition) (marking_of (bases_of s) m)) (drop (suc i) lines) z)
      by-line z b q = R z ∙ ap (λ (ls : List LiveLine). replays (net_of s) (marking_of (bases_of s) m) ls z) (lines_cons i h)
          ∙ ap (λ (c : Bool). c && replays (net_of s) (fire (net_of s).bases (arcs_of (net_of s) (line_at i).transition) (marking_of (bases_of s) m)) (drop (suc i) lines) z)
          (ap (λ (x : Firing). accepts (net_of s) (marking_of (bases_of s) m) (as_line (bases_of s) x)) (sym k) ∙ sym e ∙ q)

      pub run-stops : a ≡ false → (z : Net.Marking) → replays (net_of s) (marking_of (bases_of s) m₀) lines z ≡ false
      run-stops q z = by-line z false q

      -- m' is the marking after it: a good one where m is
      module _ (m' : Marking) (q : a ≡ true) (to : m' ≡ laid (fire (bases_of s) (arcs_of (net_of s) (as_line (bases_of s) g).transition) (marking_of (bases_of s) m))) where
        pub run-goes : Runs m₀ m' (i + 1)
        unfolding net_of
        run-goes z =
            let y : Net.Marking = fire (bases_of s) (arcs_of (net_of s) (line_at i).transition) (marking_of (bases_of s) m) in
            let at : m' ≡ laid y = to ∙ ap (λ (x : Firing). laid (fire (bases_of s) (arcs_of (net_of s) (as_line (bases_of s) x).transition) (marking_of (bases_of s) m))) k in
            let back : marking_of (bases_of s) m' ≡ y = ap (marking_of (bases_of s)) at ∙ marking-laid y (bases_of s) (length-table (bases_of s) _) in
            by-line z true q ∙ (λ j. replays (net_of s) (sym back j) (drop (sym (add-one i) j) lines) z)

        pub placed-goes : Placed s m → Placed s m'
        placed-goes P = rw to (placed-fired s m (as_line (bases_of s) g).transition P (and_l (clear (enable_checks (net_of s) (marking_of (bases_of s) m) (as_line (bases_of s) g).transition)) _ (sym e ∙ q)))

-- ---- what a run answers

-- a firing of it was not accepted
pub run-refused : (w r x : Bool) → w ≡ (r && x) → r ≡ false → false ≡ w
run-refused w r x e h = sym (e ∙ ap (λ (b : Bool). b && x) h)

-- all were, and the marking after them is compared with the one that is looked for
pub run-compared : (n k : ℕ) (m z : Marking) (w r b : Bool) → k ≡ n → w ≡ (r && same_marking (marking_of n m) (marking_of n z)) → r ≡ true → b ≡ same_marking (marking_of k m) (marking_of k z) → b ≡ w
run-compared n k m z w r b e q h c =
    c ∙ (λ i. same_marking (marking_of (e i) m) (marking_of (e i) z)) ∙ ap (λ (x : Bool). x && same_marking (marking_of n m) (marking_of n z)) (sym h) ∙ sym q
