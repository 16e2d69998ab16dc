-- What the code asks where it looks at a transition: a marking in its form, its bonds in order, and every base within the
-- number of bases. Definitions only. (A good marking and an accepted sheet give it: proofs of steps.)
use Rattle.std.specs.Prelude.{◌≡◌, true, ℕ, ◌<◌, ◌≤◌, length}
use Rattle.causal.specs.Lists.{Mem}
use Rattle.net.specs.Limits.{max_bases, max_bonds}
use Rattle.net.specs.Sorted.{Ascending, puts}
use Rattle.net.specs.Net.{Arcs, same_bond, less_bond, has_bond, arcs_bonds}
use Rattle.net.specs.declared.Bond.{Bond}
use Rattle.net.specs.declared.Entry.{Entry}
use Rattle.marking.specs.declared.Marking.{Marking}
use Rattle.marking.specs.Form.{bonds_of, marking_of, laid}

-- n bases; m is in its form; its bonds are in strict order and of bases of the net; the transition's entries and its
-- bonds are of such bases too; and there is room for the marking's bonds and all of the transition's together.
pub record Ready (n : ℕ) (t : Arcs) (m : Marking) : Type 0 where
  pub few : n ≤ max_bases
  pub form : m ≡ laid (marking_of n m)
  pub order : Ascending same_bond less_bond (bonds_of m)
  pub range : (b : Bond) → has_bond b (bonds_of m) ≡ true → (b.lo < b.hi) × (b.hi < n)
  pub bases : (e : Entry) → Mem e t.entries → e.base < n
  pub outs : (b : Bond) → has_bond b t.out_bonds ≡ true → (b.lo < b.hi) × (b.hi < n)
  pub ins : (b : Bond) → has_bond b t.in_bonds ≡ true → (b.lo < b.hi) × (b.hi < n)
  pub room : length (puts same_bond less_bond (arcs_bonds t) (bonds_of m)) ≤ max_bonds
