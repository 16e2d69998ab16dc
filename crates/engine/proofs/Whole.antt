-- The whole marking after firing or taking back: the parts that the code makes, put together.
-- Assumes nothing.
use mathlib.Core.Path.{◌≡◌, sym, ◌∙◌, ap, subst}
use mathlib.Core.Logic.{◌⊎◌, inl, inr}
use mathlib.Core.Bool.{Bool, true, false, not, ◌&&◌}
use mathlib.Core.List.{List}
use Prim.Native.Nat.{ℕ, ◌<◌, ◌≤◌}
use native.Mathlib.Omega.{arith}
use lib.ListN.{length, get_or}
use Rattle.net.specs.Limits.{max_bases, max_bonds}
use Rattle.net.specs.Tests.{pick, keep, table}
use Rattle.net.specs.Sorted.{Ascending, puts}
use Rattle.net.specs.Net.{Arcs, same_bond, less_bond, has_bond, arcs_bonds, place}
use Rattle.net.specs.Firing.{in_set, broken_bond, breaks_none, bonds_seen, sent, fire, new_bond, bonds_back, undo}
use Rattle.net.specs.declared.Bond.{Bond}
use Rattle.net.specs.declared.Entry.{Entry}
use Rattle.net.proofs.Tests.{and_l, or-e, keep-cong, keep-yes}
use Rattle.net.proofs.Tables.{table-cong}
use Rattle.net.proofs.Sorted.{has-keep, has-puts, ascending-keep, ascending-puts}
use Rattle.net.proofs.Bonds.{mem-has, bond-order}
use Rattle.net.proofs.Written.{has_left, has_right, puts-left, puts-right, puts-among}
use Rattle.net.proofs.Uncoupling.{keep-no, kept-none, kept_back}
use Rattle.words.specs.Sets.{set_of}
use Rattle.words.proofs.Bits.{bit_at}
use Rattle.labels.specs.Labelled.{label_in, Parted}
use Rattle.marking.specs.declared.Marking.{Marking}
use Rattle.marking.specs.Form.{padded, los, his, bonds_of, marking_of, with_bonds, laid}
use Rattle.marking.specs.Held.{holding}
use Rattle.marking.proofs.Forms.{bonds-with}
use Rattle.groups.specs.Groups.{firsts, side}
use Rattle.enabling.specs.Ready.{Ready}
use Rattle.enabling.proofs.Readiness.{in_order, few-here}
use Rattle.engine.specs.Change.{HasRoom, goes_in}
use Rattle.engine.proofs.Labels.{none-gone}
use Rattle.engine.proofs.Sending.{sent-all}

module _ (n : ℕ) (t : Arcs) (m : Marking) (R : Ready n t m) where
  -- the marking's bonds and the transition's
  abbrev all : List Bond
  all = puts same_bond less_bond (arcs_bonds t) (bonds_of m)

  pub fits : (side : List Bond) → ((b : Bond) → has_bond b side ≡ true → has_bond b (arcs_bonds t) ≡ true) → HasRoom side m
  fits side f = record {
    order = in_order n t m R;
    room = few-here n t m R (puts same_bond less_bond side (bonds_of m)) (ascending-puts same_bond less_bond bond-order side (bonds_of m) R.order)
        (puts-among side (bonds_of m) all (λ b h. puts-left (arcs_bonds t) (bonds_of m) b (f b h)) (puts-right (arcs_bonds t) (bonds_of m)));
  }

  ready_with : (bs : List Bond) → Ascending same_bond less_bond bs → ((b : Bond) → has_bond b bs ≡ true → (b.lo < b.hi) × (b.hi < n)) → ((b : Bond) → has_bond b bs ≡ true → has_bond b all ≡ true) → Ready n t (with_bonds m bs)
  ready_with bs o r h =
      let e : bs ≡ bonds_of (with_bonds m bs) = sym (bonds-with m bs) in
      record {
        few = R.few;
        form = λ i. record { places = (R.form i).places; count = length (e i); lo = padded max_bonds (los (e i)); hi = padded max_bonds (his (e i)) };
        order = subst (Ascending same_bond less_bond) e o;
        range = λ b h. r b (ap (has_bond b) e ∙ h);
        bases = R.bases;
        outs = R.outs;
        ins = R.ins;
        room = subst (λ (cs : List Bond). length (puts same_bond less_bond (arcs_bonds t) cs) ≤ max_bonds) e (few-here n t m R (puts same_bond less_bond (arcs_bonds t) bs)
            (ascending-puts same_bond less_bond bond-order (arcs_bonds t) bs o) (puts-among (arcs_bonds t) bs all (puts-left (arcs_bonds t) (bonds_of m)) h));
      }

  -- some bonds taken out
  pub ready-cut : (g : Bond → Bool) (cut : Marking) → cut ≡ with_bonds m (keep g (bonds_of m)) → Ready n t cut
  ready-cut g cut q = subst (Ready n t) (sym q) (ready_with (keep g (bonds_of m)) (ascending-keep same_bond less_bond bond-order g (bonds_of m) R.order)
      (λ b h. R.range b (old b h)) (λ b h. puts-right (arcs_bonds t) (bonds_of m) b (old b h)))
    where
      old : (b : Bond) → has_bond b (keep g (bonds_of m)) ≡ true → has_bond b (bonds_of m) ≡ true
      old b h = and_l (has_bond b (bonds_of m)) (g b) (sym (has-keep same_bond less_bond bond-order g b (bonds_of m)) ∙ h)

  -- some bonds of the transition put in
  pub ready-put : (cs : List Bond) → ((b : Bond) → has_bond b cs ≡ true → (b.lo < b.hi) × (b.hi < n)) → ((b : Bond) → has_bond b cs ≡ true → has_bond b (arcs_bonds t) ≡ true) → (z : Marking) → z ≡ with_bonds m (puts same_bond less_bond cs (bonds_of m)) → Ready n t z
  ready-put cs f own z q = subst (Ready n t) (sym q) (ready_with (puts same_bond less_bond cs (bonds_of m)) (ascending-puts same_bond less_bond bond-order cs (bonds_of m) R.order) low
      (puts-among cs (bonds_of m) all (λ b h. puts-left (arcs_bonds t) (bonds_of m) b (own b h)) (puts-right (arcs_bonds t) (bonds_of m))))
    where
      low : (b : Bond) → has_bond b (puts same_bond less_bond cs (bonds_of m)) ≡ true → (b.lo < b.hi) × (b.hi < n)
      low b h = go (or-e (has_bond b cs) (has_bond b (bonds_of m)) (sym (has-puts same_bond less_bond bond-order b cs (bonds_of m)) ∙ h))
        where
          go : (has_bond b cs ≡ true) ⊎ (has_bond b (bonds_of m) ≡ true) → (b.lo < b.hi) × (b.hi < n)
          go (inl k) = f b k
          go (inr k) = R.range b k

  -- the bases that may go, sent by labels of other bonds
  sent-made : (bs : List Bond) (z : Marking) → z ≡ with_bonds m bs → Ready n t z → (l : List ℕ) → Parted max_bases l (bonds_of z) → (back : Bool) (may : ℕ → Bool)
      → (ps : List ℕ) → ps ≡ table max_bases (λ p. pick (may p) (firsts (side back) (label_in l) t.entries (get_or z.places p 0) (label_in l p)) (get_or z.places p 0))
      → ps ≡ padded max_bases (table n (λ p. pick (may p) (sent (side back) bs t.entries p (place (marking_of n m) p)) (place (marking_of n m) p)))
  sent-made bs z q Z l P back may ps ep = ep ∙ sent-all n t z Z l P back may
      ∙ ap (λ (x : Marking). padded max_bases (table n (λ p. pick (may p) (sent (side back) (bonds_of x) t.entries p (place (marking_of n x) p)) (place (marking_of n x) p)))) q
      ∙ ap (λ (cs : List Bond). padded max_bases (table n (λ p. pick (may p) (sent (side back) cs t.entries p (place (marking_of n m) p)) (place (marking_of n m) p)))) (bonds-with m bs)

  -- labels l that are a partition by the bonds after
  pub fire-made : (z : Marking) → z ≡ with_bonds m (bonds_seen t (bonds_of m)) → Ready n t z → (l : List ℕ) → Parted max_bases l (bonds_of z)
      → (ps : List ℕ) → ps ≡ table max_bases (λ p. firsts (side false) (label_in l) t.entries (get_or z.places p 0) (label_in l p))
      → holding ps z.count z.lo z.hi ≡ laid (fire n t (marking_of n m))
  fire-made z q Z l P ps ep = λ i. record { places = sent-made (bonds_seen t (bonds_of m)) z q Z l P false (λ p. true) ps ep i; count = (q i).count; lo = (q i).lo; hi = (q i).hi }

  pub undo-made : (z : Marking) → z ≡ with_bonds m (bonds_back t (bonds_of m)) → Ready n t z → (l : List ℕ) → Parted max_bases l (bonds_of z) → (may : List Bool)
      → (ps : List ℕ) → ps ≡ table max_bases (λ p. pick (get_or may p false)
      (firsts (side true) (label_in l) t.entries (get_or z.places p 0) (label_in l p)) (get_or z.places p 0))
      → holding ps z.count z.lo z.hi ≡ laid (undo n t may (marking_of n m))
  undo-made z q Z l P may ps ep = λ i. record { places = sent-made (bonds_back t (bonds_of m)) z q Z l P true (λ p. get_or may p false) ps ep i; count = (q i).count; lo = (q i).lo; hi = (q i).hi }

  -- bits of a word above the bases of the net play no part
  pub undo-low : (w : ℕ) → undo n t (set_of max_bases w) (marking_of n m) ≡ undo n t (set_of n w) (marking_of n m)
  undo-low w =
      let f = R.few in
      let bs : List Bond = bonds_back t (bonds_of m) in
      let gone : List Bool → ℕ → ℕ = λ may p. pick (in_set may p) (sent (λ (e : Entry). e.from) bs t.entries p (place (marking_of n m) p)) (place (marking_of n m) p) in
      ap (λ (ps : List ℕ). record { places = ps; bonds = bs }) (table-cong n (gone (set_of max_bases w)) (gone (set_of n w))
      (λ p h. ap (λ (b : Bool). pick b (sent (λ (e : Entry). e.from) bs t.entries p (place (marking_of n m) p)) (place (marking_of n m) p))
      (bit_at max_bases w p (omega arith) ∙ sym (bit_at n w p h))))

-- bonds taken out and then put in, as one change
pub changed : (m one two : Marking) (g : Bond → Bool) (cs : List Bond) → one ≡ with_bonds m (keep g (bonds_of m)) → two ≡ with_bonds one (puts same_bond less_bond cs (bonds_of one))
    → two ≡ with_bonds m (puts same_bond less_bond cs (keep g (bonds_of m)))
changed m one two g cs p q = q ∙ ap (λ (z : Marking). with_bonds z (puts same_bond less_bond cs (bonds_of z))) p
    ∙ ap (λ (bs : List Bond). with_bonds m (puts same_bond less_bond cs bs)) (bonds-with m (keep g (bonds_of m)))

-- ---- the bonds of a firing and of a taking back, as the code changes them

-- every out-bond goes in on firing
pub all-out : (t : Arcs) (bs : List Bond) → keep (goes_in t true) bs ≡ bs
all-out t bs = keep-yes bs

-- and on taking back the broken ones
pub broken-in : (t : Arcs) → keep (goes_in t false) t.in_bonds ≡ keep (broken_bond t) t.in_bonds
broken-in t = keep-cong (goes_in t false) (broken_bond t) t.in_bonds (λ b m. sym (ap (λ (x : Bool). x && not (has_bond b t.out_bonds)) (mem-has t.in_bonds b m)))

-- a transition that breaks none has none to put in again
pub none_in : (t : Arcs) → breaks_none t ≡ true → (bs : List Bond) → bs ≡ puts same_bond less_bond (keep (broken_bond t) t.in_bonds) bs
none_in t h bs = sym (ap (λ (cs : List Bond). puts same_bond less_bond cs bs) (keep-no (broken_bond t) t.in_bonds (kept-none t h)))

module _ (n : ℕ) (t : Arcs) (m : Marking) (R : Ready n t m) where
  -- the marking after a firing's bonds were taken out and put in
  pub fired-bonds : (one two : Marking) → one ≡ with_bonds m (keep (λ (b : Bond). not (broken_bond t b)) (bonds_of m))
      → two ≡ with_bonds one (puts same_bond less_bond (keep (goes_in t true) t.out_bonds) (bonds_of one)) → (two ≡ with_bonds m (bonds_seen t (bonds_of m))) × Ready n t two
  fired-bonds one two p q =
      let q' : two ≡ with_bonds one (puts same_bond less_bond t.out_bonds (bonds_of one)) = q ∙ ap (λ (cs : List Bond). with_bonds one (puts same_bond less_bond cs (bonds_of one))) (all-out t t.out_bonds) in
      (changed m one two (λ (b : Bond). not (broken_bond t b)) t.out_bonds p q', ready-put n t one (ready-cut n t m R (λ (b : Bond). not (broken_bond t b)) one p) t.out_bonds R.outs (has_right t.in_bonds t.out_bonds) two q')

  -- where none went, the bonds are those before with the out-bonds
  pub fired-whole : (one two : Marking) → one ≡ with_bonds m (keep (λ (b : Bond). not (broken_bond t b)) (bonds_of m))
      → two ≡ with_bonds one (puts same_bond less_bond (keep (goes_in t true) t.out_bonds) (bonds_of one)) → one.count ≡ m.count → bonds_of two ≡ puts same_bond less_bond t.out_bonds (bonds_of m)
  fired-whole one two p q e = ap bonds_of q ∙ bonds-with one (puts same_bond less_bond (keep (goes_in t true) t.out_bonds) (bonds_of one))
      ∙ ap (λ (cs : List Bond). puts same_bond less_bond cs (bonds_of one)) (all-out t t.out_bonds) ∙ ap (puts same_bond less_bond t.out_bonds) (sym (none-gone m one (λ (b : Bond). not (broken_bond t b)) p e))

  -- the marking after a taking back's bonds were
  pub undone-bonds : (one two : Marking) → one ≡ with_bonds m (keep (λ (b : Bond). not (new_bond t b)) (bonds_of m))
      → two ≡ with_bonds one (puts same_bond less_bond (keep (broken_bond t) t.in_bonds) (bonds_of one)) → (two ≡ with_bonds m (bonds_back t (bonds_of m))) × Ready n t two
  undone-bonds one two p q = (
    changed m one two (λ (b : Bond). not (new_bond t b)) (keep (broken_bond t) t.in_bonds) p q,
    ready-put n t one (ready-cut n t m R (λ (b : Bond). not (new_bond t b)) one p) (keep (broken_bond t) t.in_bonds)
        (λ b h. R.ins b (broken b h)) (λ b h. has_left t.in_bonds t.out_bonds b (broken b h)) two q,
  )
    where
      broken : (b : Bond) → has_bond b (keep (broken_bond t) t.in_bonds) ≡ true → has_bond b t.in_bonds ≡ true
      broken b h = and_l (has_bond b t.in_bonds) (broken_bond t b) (sym (has-keep same_bond less_bond bond-order (broken_bond t) b t.in_bonds) ∙ h)

  -- where none went and none is broken, they are as before
  pub undone-whole : (one two : Marking) → one ≡ with_bonds m (keep (λ (b : Bond). not (new_bond t b)) (bonds_of m)) → two ≡ with_bonds m (bonds_back t (bonds_of m))
      → one.count ≡ m.count → breaks_none t ≡ true → bonds_of m ≡ bonds_of two
  undone-whole one two p q e k = none-gone m one (λ (b : Bond). not (new_bond t b)) p e ∙ ap bonds_of p ∙ bonds-with m (keep (λ (b : Bond). not (new_bond t b)) (bonds_of m))
      ∙ sym (kept_back t (kept-none t k) (bonds_of m)) ∙ sym (ap bonds_of q ∙ bonds-with m (bonds_back t (bonds_of m)))
