-- Where a transition and a marking are ready: bases sent by the first entries of their groups are sent along the bonds, and
-- the entries behind the bases of the net stay 0, though the code passes over all of them. Assumes nothing.
use mathlib.Core.Path.{◌≡◌, refl, sym, ◌∙◌, ap, subst}
use mathlib.Core.Logic.{◌⊎◌, inl, inr}
use mathlib.Core.Bool.{Bool, true, false}
use mathlib.Core.List.{List, [], ◌∷◌, ◌++◌}
use Prim.Native.Nat.{ℕ, zero, suc, ◌+◌, ◌-◌, ◌<◌, ◌≤◌}
use native.Mathlib.Omega.{arith}
use native.Mathlib.Nat.{lt_trans}
use lib.ListN.{length, get_or, take, drop, replicate, length-drop}
use lib.Seq.{length-take-le, get_or-drop, get_or-take}
use Rattle.causal.specs.Lists.{Mem}
use Rattle.net.specs.Limits.{max_bases}
use Rattle.net.specs.Tests.{pick, table}
use Rattle.net.specs.Net.{Arcs, bond, has_bond, place}
use Rattle.net.specs.Connection.{connected, Leads, here, along}
use Rattle.net.specs.Firing.{sent}
use Rattle.net.specs.declared.Entry.{Entry}
use Rattle.net.proofs.Tests.{pick_same, fails, or-e}
use Rattle.net.proofs.Tables.{length-table, table-cong, table-list}
use Rattle.net.proofs.Connection.{connected-leads}
use Rattle.labels.specs.Labelled.{label_in, Parted}
use Rattle.marking.specs.declared.Marking.{Marking}
use Rattle.marking.specs.Form.{padded, bonds_of, marking_of}
use Rattle.marking.proofs.Lent.{behind}
use Rattle.groups.specs.Groups.{firsts, side}
use Rattle.groups.proofs.Sending.{sent-parted}
use Rattle.enabling.specs.Ready.{Ready}
use Rattle.enabling.proofs.Readiness.{entry-low, places-length}

pub table-split : {X : Type 0} (m k : ℕ) (f : ℕ → X) → table (m + k) f ≡ table m f ++ table k (λ j. f (m + j))
table-split zero k f =
    let e : zero + k ≡ k = omega arith in
    ap (λ (n : ℕ). table n f) e ∙ table-cong k f (λ j. f (zero + j)) (λ p _. let q : p ≡ zero + p = omega arith in ap f q)
table-split {X} (suc m) k f =
    let e : suc m + k ≡ suc (m + k) = omega arith in
    let q : table k (λ j. f (suc (m + j))) ≡ table k (λ j. f (suc m + j)) =
    table-cong k (λ j. f (suc (m + j))) (λ j. f (suc m + j)) (λ p _. let r : suc (m + p) ≡ suc m + p = omega arith in ap f r) in
    ap (λ (n : ℕ). table n f) e ∙ ap (λ (l : List X). f zero ∷ l) (table-split m k (λ j. f (suc j)) ∙ ap (λ (l : List X). table m (λ j. f (suc j)) ++ l) q)

module _ (n : ℕ) (t : Arcs) (m : Marking) (R : Ready n t m) where
  rest : drop n m.places ≡ replicate (max_bases - n) 0
  rest =
      let s : length (take n m.places) ≡ n = length-take-le n m.places (let q = places-length n t m R in let f = R.few in omega arith) in
      behind n max_bases (take n m.places) m.places s (ap (λ (x : Marking). x.places) R.form)

  -- bonds lead from a base of the net to such bases alone
  stays-low : {p q : ℕ} → Leads (bonds_of m) p q → p < n → q < n
  stays-low (here e) h = subst (λ (x : ℕ). x < n) e h
  stays-low (along {p = p} {r = r} b k) h = stays-low k (to (or-e (has_bond (bond p r) (bonds_of m)) (has_bond (bond r p) (bonds_of m)) b))
    where
      to : (has_bond (bond p r) (bonds_of m) ≡ true) ⊎ (has_bond (bond r p) (bonds_of m) ≡ true) → r < n
      to (inl d) = (R.range (bond p r) d).1
      to (inr d) = let (u, v) = R.range (bond r p) d in lt_trans u v

  -- so no entry sends what is no base of the net
  pub apart : (e : Entry) → Mem e t.entries → (p : ℕ) → n ≤ p → connected (bonds_of m) e.base p ≡ false
  apart e d p h = fails (connected (bonds_of m) e.base p)
      (λ c. let low = stays-low (connected-leads (bonds_of m) e.base p c) (R.bases e d) in let z : ⊥ = omega arith in z)

  not-sent : (give : Entry → ℕ) (es : List Entry) (p old : ℕ) → ((e : Entry) → Mem e es → connected (bonds_of m) e.base p ≡ false) → sent give (bonds_of m) es p old ≡ old
  not-sent give [] p old h = refl
  not-sent give (e ∷ es) p old h = ap (λ (b : Bool). pick b (give e) (sent give (bonds_of m) es p old)) (h e (inl refl)) ∙ not-sent give es p old (λ d k. h d (inr k))

  -- the bases that may go, sent: those of the net go along the bonds, and zeros stand behind them
  pub sent-all : (l : List ℕ) → Parted max_bases l (bonds_of m) → (back : Bool) (may : ℕ → Bool)
      → table max_bases (λ p. pick (may p) (firsts (side back) (label_in l) t.entries (get_or m.places p 0) (label_in l p)) (get_or m.places p 0))
      ≡ padded max_bases (table n (λ p. pick (may p) (sent (side back) (bonds_of m) t.entries p (place (marking_of n m) p)) (place (marking_of n m) p)))
  sent-all l P back may =
      let f = R.few in
      let h : ℕ → ℕ = λ p. pick (may p) (firsts (side back) (label_in l) t.entries (get_or m.places p 0) (label_in l p)) (get_or m.places p 0) in
      let k : ℕ → ℕ → ℕ = λ p old. pick (may p) (sent (side back) (bonds_of m) t.entries p old) old in
      let g : ℕ → ℕ = λ p. k p (place (marking_of n m) p) in
      let N : max_bases ≡ n + (max_bases - n) = omega arith in
      let go : (p : ℕ) → p < max_bases → h p ≡ k p (get_or m.places p 0) = λ p u. ap (λ (x : ℕ). pick (may p) x (get_or m.places p 0))
      (sent-parted max_bases l (bonds_of m) P (side back) t.entries (entry-low n t m R) p (get_or m.places p 0) u) in
      let low : table n h ≡ table n g = table-cong n h g (λ p u. go p (omega arith) ∙ ap (k p) (sym (get_or-take n m.places p 0 u))) in
      let stay : table (max_bases - n) (λ j. h (n + j)) ≡ table (max_bases - n) (λ j. get_or (drop n m.places) j 0) =
      table-cong (max_bases - n) (λ j. h (n + j)) (λ j. get_or (drop n m.places) j 0)
      (λ j u. go (n + j) (omega arith)
      ∙ ap (λ (x : ℕ). pick (may (n + j)) x (get_or m.places (n + j) 0))
      (not-sent (side back) t.entries (n + j) (get_or m.places (n + j) 0) (λ e d. apart e d (n + j) (omega arith)))
      ∙ pick_same (may (n + j)) (get_or m.places (n + j) 0) ∙ sym (get_or-drop n m.places j 0)) in
      let size : max_bases - n ≡ length (drop n m.places) = sym (length-drop n m.places ∙ ap (λ (j : ℕ). j - n) (places-length n t m R)) in
      let high : table (max_bases - n) (λ j. h (n + j)) ≡ replicate (max_bases - length (table n g)) 0 =
      stay ∙ ap (λ (j : ℕ). table j (λ i. get_or (drop n m.places) i 0)) size ∙ table-list (drop n m.places) 0
      ∙ rest ∙ ap (λ (j : ℕ). replicate (max_bases - j) 0) (sym (length-table n g)) in
      ap (λ (j : ℕ). table j h) N ∙ table-split n (max_bases - n) h ∙ (λ i. low i ++ high i)
