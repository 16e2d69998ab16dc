-- Refusal 16 by the bonds after a firing and by those before it (02, T-07); and that a transition without a broken bond is
-- fired and taken back as document 01 alone has it. Assumes nothing.
use mathlib.Core.Path.{◌≡◌, refl, sym, ◌∙◌, ap, fun_ext}
use mathlib.Core.Logic.{◌⊎◌, inl, inr}
use mathlib.Core.Bool.{Bool, true, false, not, ◌&&◌}
use mathlib.Core.List.{List, [], ◌∷◌}
use Prim.Native.Nat.{ℕ}
use lib.Dec.{eqb}
use borrow.Author.Tests.{eqb-true, eq-eqb, not-false}
use Rattle.causal.specs.Lists.{Mem}
use Rattle.causal.proofs.Tests.{test, both}
use Rattle.net.specs.Tests.{pick, any, keep, table}
use Rattle.net.specs.Sorted.{puts}
use Rattle.net.specs.Net.{Arcs, Marking, Net, bond, same_bond, less_bond, has_bond, place}
use Rattle.net.specs.Connection.{bonded, Leads, here, along, connected}
use Rattle.net.specs.Marking.{Good}
use Rattle.net.specs.Firing.{in_set, moves, broken_bond, breaks_none, bonds_seen, torn_with, torn_apart, sent, fire, new_bond, bonds_back, undo}
use Rattle.net.specs.declared.Bond.{Bond}
use Rattle.net.specs.declared.Entry.{Entry}
use Rattle.net.proofs.Tests.{same_test, fails, and_l, and_r, or-e, or_l, or_r, all-e, any-e, any-no, keep-cong, keep-yes, keep-mem}
use Rattle.net.proofs.Sorted.{has-puts}
use Rattle.net.proofs.Bonds.{has-mem, bond-order}
use Rattle.net.proofs.Connection.{leads-trans, leads-sym, connected-leads, leads-connected}
use Rattle.net.proofs.Moves.{sent-none, sent_is, Fit}
use Rattle.net.proofs.Change.{has-after, after-e, none_after, moves-after}

-- ---- refusal 16, by any bonds

module _ (t : Arcs) (bs : List Bond) where
  abbrev apart : Entry → Entry → Bool
  apart e d = connected bs e.base d.base && not (eqb e.to d.to)

  pub torn-no : torn_with t bs ≡ false → (e d : Entry) → Mem e t.entries → Mem d t.entries → connected bs e.base d.base ≡ true → e.to ≡ d.to
  torn-no h e d m k c =
      let r = any-no (apart e) t.entries (any-no (λ (x : Entry). any (apart x) t.entries) t.entries h e m) d k in
      eqb-true e.to d.to (not-false (eqb e.to d.to) (rw c at r))

  pub no-torn : ((e d : Entry) → Mem e t.entries → Mem d t.entries → connected bs e.base d.base ≡ true → e.to ≡ d.to) → torn_with t bs ≡ false
  no-torn f = fails (torn_with t bs) (λ h.
      let (e, m, p) = any-e (λ (x : Entry). any (apart x) t.entries) t.entries h in
      let (d, k, q) = any-e (apart e) t.entries p in
      let same : eqb e.to d.to ≡ true = eq-eqb e.to d.to (f e d m k (and_l (connected bs e.base d.base) (not (eqb e.to d.to)) q)) in
      both (not (eqb e.to d.to)) (and_r (connected bs e.base d.base) (not (eqb e.to d.to)) q) (ap not same))

-- ---- what is torn by the bonds after the firing is torn by those before it

module _ (net : Net) (t : Arcs) (F : Fit net t) (bs : List Bond) (whole : torn_with t bs ≡ false) (e : Entry) where
  -- p is connected to an entry that has e's out-place, by the bonds before the firing
  abbrev Near : ℕ → Type 0
  Near p = (d : Entry) × Mem d t.entries × (connected bs d.base p ≡ true) × (e.to ≡ d.to)

  near-bond : (p r : ℕ) → Near p → bonded bs p r ≡ true → Near r
  near-bond p r (d, m, c, w) a = (d, m, leads-connected bs d.base r (leads-trans (connected-leads bs d.base p c) (along a (here refl))), w)

  -- an out-bond joins entries of one out-place
  near-out : (p r : ℕ) → Near p → (x y : Entry) → Mem x t.entries → Mem y t.entries → x.base ≡ p → y.base ≡ r → x.to ≡ y.to → Near r
  near-out p r (d, m, c, w) x y k l u v same =
      (y, l, leads-connected bs y.base r (here v), w ∙ torn-no t bs whole d x m k (rw u c) ∙ same)

  near_step : (p r : ℕ) → Near p → bonded (bonds_seen t bs) p r ≡ true → Near r
  near_step p r n a = go (or-e (has_bond (bond p r) (bonds_seen t bs)) (has_bond (bond r p) (bonds_seen t bs)) a)
    where
      first : (has_bond (bond p r) t.out_bonds ≡ true) ⊎ (has_bond (bond p r) bs ≡ true) → Near r
      first (inl h) = let (x, y, J, w) = F.outs (bond p r) h in near-out p r n x y J.first J.second J.lo J.hi w
      first (inr h) = near-bond p r n (or_l (has_bond (bond p r) bs) (has_bond (bond r p) bs) h)

      second : (has_bond (bond r p) t.out_bonds ≡ true) ⊎ (has_bond (bond r p) bs ≡ true) → Near r
      second (inl h) = let (x, y, J, w) = F.outs (bond r p) h in near-out p r n y x J.second J.first J.hi J.lo (sym w)
      second (inr h) = near-bond p r n (or_r (has_bond (bond p r) bs) (has_bond (bond r p) bs) h)

      go : (has_bond (bond p r) (bonds_seen t bs) ≡ true) ⊎ (has_bond (bond r p) (bonds_seen t bs) ≡ true) → Near r
      go (inl h) = first (after-e t bs (bond p r) h)
      go (inr h) = second (after-e t bs (bond r p) h)

  near-leads : {p q : ℕ} → Leads (bonds_seen t bs) p q → Near p → Near q
  near-leads (here u) (d, m, c, w) = (d, m, rw u at c, w)
  near-leads (along {p = p} {r = r} a l) n = near-leads l (near_step p r n a)

module _ (net : Net) (t : Arcs) (F : Fit net t) where
  pub torn-after : (bs : List Bond) → torn_with t bs ≡ false → torn_with t (bonds_seen t bs) ≡ false
  torn-after bs h = no-torn t (bonds_seen t bs) (λ e d m k c.
      let (x, l, near, w) = near-leads net t F bs h e (connected-leads (bonds_seen t bs) e.base d.base c) (e, m, leads-connected bs e.base e.base (here refl), refl) in
      w ∙ torn-no t bs h x d l k near)

  -- what refusal 16 refuses was refused without T-07 too
  pub torn-before : (s : Marking) → torn_apart t s ≡ true → torn_with t s.bonds ≡ true
  torn-before s h = test (torn_with t s.bonds) (λ e. e) (λ e. both (torn_apart t s) h (torn-after s.bonds e))

-- ---- a transition without a broken bond

-- every in-bond is an out-bond
pub kept-none : (t : Arcs) → breaks_none t ≡ true → (b : Bond) → broken_bond t b ≡ false
kept-none t h b = fails (broken_bond t b) (λ k.
    let out : has_bond b t.out_bonds ≡ true =
    all-e (λ (c : Bond). has_bond c t.out_bonds) t.in_bonds h b (has-mem t.in_bonds b (and_l (has_bond b t.in_bonds) (not (has_bond b t.out_bonds)) k)) in
    both (not (has_bond b t.out_bonds)) (and_r (has_bond b t.in_bonds) (not (has_bond b t.out_bonds)) k) (ap not out))

pub keep-no : (f : Bond → Bool) (bs : List Bond) → ((b : Bond) → f b ≡ false) → keep f bs ≡ []
keep-no f [] h = refl
keep-no f (b ∷ bs) h = rw (h b) (keep-no f bs h)

module _ (t : Arcs) (kept : (b : Bond) → broken_bond t b ≡ false) where
  pub kept_seen : (bs : List Bond) → bonds_seen t bs ≡ puts same_bond less_bond t.out_bonds bs
  kept_seen bs = ap (puts same_bond less_bond t.out_bonds) (keep-cong (λ (b : Bond). not (broken_bond t b)) (λ (b : Bond). true) bs (λ b _. ap not (kept b)) ∙ keep-yes bs)

  pub kept_back : (bs : List Bond) → bonds_back t bs ≡ keep (λ (b : Bond). not (new_bond t b)) bs
  kept_back bs = ap (λ (ks : List Bond). puts same_bond less_bond ks (keep (λ (b : Bond). not (new_bond t b)) bs)) (keep-no (broken_bond t) t.in_bonds kept)

  -- its bonds stay, so what was connected stays so
  kept-bond : (bs : List Bond) (b : Bond) → has_bond b bs ≡ true → has_bond b (bonds_seen t bs) ≡ true
  kept-bond bs b h = has-after t bs b ∙ or_r (has_bond b t.out_bonds) (has_bond b bs && not (broken_bond t b)) (rw (h, kept b))

  kept-leads : {bs : List Bond} {p q : ℕ} → Leads bs p q → Leads (bonds_seen t bs) p q
  kept-leads (here e) = here e
  kept-leads {bs} (along {p = p} {r = r} a l) = along (go (or-e (has_bond (bond p r) bs) (has_bond (bond r p) bs) a)) (kept-leads l)
    where
      go : (has_bond (bond p r) bs ≡ true) ⊎ (has_bond (bond r p) bs ≡ true) → bonded (bonds_seen t bs) p r ≡ true
      go (inl h) = or_l (has_bond (bond p r) (bonds_seen t bs)) (has_bond (bond r p) (bonds_seen t bs)) (kept-bond bs (bond p r) h)
      go (inr h) = or_r (has_bond (bond p r) (bonds_seen t bs)) (has_bond (bond r p) (bonds_seen t bs)) (kept-bond bs (bond r p) h)

  pub kept-connected : (bs : List Bond) (p q : ℕ) → connected bs p q ≡ true → connected (bonds_seen t bs) p q ≡ true
  kept-connected bs p q c = leads-connected (bonds_seen t bs) p q (kept-leads (connected-leads bs p q c))

  pub kept-undo : (n : ℕ) (m : List Bool) (s : Marking) → undo n t m s ≡ record {
    places = table n (λ p. pick (in_set m p) (sent (λ (e : Entry). e.from) (keep (λ (b : Bond). not (new_bond t b)) s.bonds) t.entries p (place s p)) (place s p));
    bonds = keep (λ (b : Bond). not (new_bond t b)) s.bonds;
  }
  kept-undo n m s = rw (kept_back s.bonds)

  module _ (net : Net) (F : Fit net t) where
    -- 16 by the bonds before the firing
    pub kept-torn : (s : Marking) → torn_apart t s ≡ torn_with t s.bonds
    kept-torn s = same_test (torn_apart t s) (torn_with t s.bonds) (torn-before net t F s) (λ h.
        test (torn_apart t s) (λ e. e) (λ e. both (torn_with t s.bonds) h
        (no-torn t s.bonds (λ x y m k c. torn-no t (bonds_seen t s.bonds) e x y m k (kept-connected s.bonds x.base y.base c)))))

    module _ (s : Marking) (G : Good net s) (way : torn_apart t s ≡ false) where
      -- p goes where the entries connected to it by the bonds before the firing send it
      kept-sent : (p : ℕ) → sent (λ (e : Entry). e.to) (bonds_seen t s.bonds) t.entries p (place s p) ≡ sent (λ (e : Entry). e.to) s.bonds t.entries p (place s p)
      kept-sent p = test (moves s.bonds t.entries p) on off
        where
          one : (e d : Entry) → Mem e t.entries → Mem d t.entries → connected (bonds_seen t s.bonds) e.base p ≡ true → connected (bonds_seen t s.bonds) d.base p ≡ true → e.to ≡ d.to
          one e d m k u v = torn-no t (bonds_seen t s.bonds) way e d m k (leads-connected (bonds_seen t s.bonds) e.base d.base
              (leads-trans (connected-leads (bonds_seen t s.bonds) e.base p u) (leads-sym (connected-leads (bonds_seen t s.bonds) d.base p v))))

          on : moves s.bonds t.entries p ≡ true
              → sent (λ (e : Entry). e.to) (bonds_seen t s.bonds) t.entries p (place s p) ≡ sent (λ (e : Entry). e.to) s.bonds t.entries p (place s p)
          on h =
              let (e, m, c) = any-e (λ (d : Entry). connected s.bonds d.base p) t.entries h in
              let c' : connected (bonds_seen t s.bonds) e.base p ≡ true = kept-connected s.bonds e.base p c in
              sent_is (λ (d : Entry). d.to) (bonds_seen t s.bonds) t.entries p (place s p) e.to (moves-after net s G t F p h) (λ d k v. one d e k m v c')
              ∙ sym (sent_is (λ (d : Entry). d.to) s.bonds t.entries p (place s p) e.to h (λ d k v. one d e k m (kept-connected s.bonds d.base p v) c'))

          off : moves s.bonds t.entries p ≡ false
              → sent (λ (e : Entry). e.to) (bonds_seen t s.bonds) t.entries p (place s p) ≡ sent (λ (e : Entry). e.to) s.bonds t.entries p (place s p)
          off h = sent-none (λ (d : Entry). d.to) (bonds_seen t s.bonds) t.entries p (place s p) (none_after net s G t F p h)
              ∙ sym (sent-none (λ (d : Entry). d.to) s.bonds t.entries p (place s p) h)

      pub kept-fire : (n : ℕ) → fire n t s ≡ record {
        places = table n (λ p. sent (λ (e : Entry). e.to) s.bonds t.entries p (place s p));
        bonds = puts same_bond less_bond t.out_bonds s.bonds;
      }
      kept-fire n =
          let ps : (fire n t s).places ≡ table n (λ p. sent (λ (e : Entry). e.to) s.bonds t.entries p (place s p)) = ap (table n) (fun_ext kept-sent) in
          let bs : bonds_seen t s.bonds ≡ puts same_bond less_bond t.out_bonds s.bonds = kept_seen s.bonds in
          λ i. record { places = ps i; bonds = bs i }

-- ---- refusal 16 by the bonds that are left before the out-bonds go in

module _ (net : Net) (t : Arcs) (F : Fit net t) (bs : List Bond) where
  abbrev rest : List Bond
  rest = keep (λ (b : Bond). not (broken_bond t b)) bs

  -- taking the broken ones out twice is taking them out once
  seen-rest : bonds_seen t rest ≡ bonds_seen t bs
  seen-rest = ap (puts same_bond less_bond t.out_bonds) (keep-cong (λ (b : Bond). not (broken_bond t b)) (λ (b : Bond). true) rest (λ b m. (keep-mem (λ (c : Bond). not (broken_bond t c)) bs b m).1) ∙ keep-yes rest)

  rest-bond : (b : Bond) → has_bond b rest ≡ true → has_bond b (bonds_seen t bs) ≡ true
  rest-bond b h = has-puts same_bond less_bond bond-order b t.out_bonds rest ∙ or_r (has_bond b t.out_bonds) (has_bond b rest) h

  rest-leads : {p q : ℕ} → Leads rest p q → Leads (bonds_seen t bs) p q
  rest-leads (here e) = here e
  rest-leads (along {p = p} {r = r} a l) = along (go (or-e (has_bond (bond p r) rest) (has_bond (bond r p) rest) a)) (rest-leads l)
    where
      go : (has_bond (bond p r) rest ≡ true) ⊎ (has_bond (bond r p) rest ≡ true) → bonded (bonds_seen t bs) p r ≡ true
      go (inl h) = or_l (has_bond (bond p r) (bonds_seen t bs)) (has_bond (bond r p) (bonds_seen t bs)) (rest-bond (bond p r) h)
      go (inr h) = or_r (has_bond (bond p r) (bonds_seen t bs)) (has_bond (bond r p) (bonds_seen t bs)) (rest-bond (bond r p) h)

  pub torn-rest : torn_with t (bonds_seen t bs) ≡ torn_with t rest
  torn-rest = same_test (torn_with t (bonds_seen t bs)) (torn_with t rest) to from
    where
      to : torn_with t (bonds_seen t bs) ≡ true → torn_with t rest ≡ true
      to h = test (torn_with t rest) (λ e. e) (λ e. both (torn_with t (bonds_seen t bs)) h (ap (torn_with t) (sym seen-rest) ∙ torn-after net t F rest e))

      from : torn_with t rest ≡ true → torn_with t (bonds_seen t bs) ≡ true
      from h = test (torn_with t (bonds_seen t bs)) (λ e. e) (λ e. both (torn_with t rest) h
          (no-torn t rest (λ x y m k c. torn-no t (bonds_seen t bs) e x y m k (leads-connected (bonds_seen t bs) x.base y.base (rest-leads (connected-leads rest x.base y.base c))))))
