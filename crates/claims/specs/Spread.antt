-- How far one slip spreads (02, T-08): what is claimed of every sheet, record and serial, by the chain of dependence and by commands.
-- Statements only; proofs/ proves each.
use Rattle.std.specs.Prelude.{◌≡◌, Bool, true, false, not, List, ℕ, ◌≤◌, length, get_or}
use Rattle.causal.specs.Lists.{Mem}
use Rattle.net.specs.Limits.{max_bases}
use Rattle.net.specs.Checks.{clear, first}
use Rattle.net.specs.Net.{Marking, bond, has_bond, place}
use Rattle.net.specs.Firing.{in_set}
use Rattle.net.specs.Journal.{LiveLine, is_live, line_of, line_keys}
use Rattle.net.specs.Claims.{rises}
use Rattle.net.specs.declared.Key.{Key}
use Rattle.published.specs.Sets.{Iff}
use Rattle.format.specs.Parts.{bases_of}
use Rattle.tally.specs.declared.Tally.{Tally}
use Rattle.spread.specs.Depends.{Depends, remaining}
use Rattle.spread.specs.Spread.{not_told}
use Rattle.net.specs.declared.Verdict.TheVariants.{Accepted}
use Rattle.session.specs.Records.{held_in}
use Rattle.questions.specs.Lamps.{can_undo}
use Rattle.questions.specs.Spread.{spread_checks, spread_for}
use Rattle.session.specs.declared.Record.{Record}
use Rattle.claims.specs.Sessions.{ForwardRun}
use Rattle.claims.specs.WayBack.{CanGo}

abbrev pub lines_of : List ℕ → Record → List LiveLine
lines_of s r = (held_in s r).lines

-- the live firing m is that of the key k or depends on it, directly or through others
abbrev pub DependsOn : List ℕ → Record → Key → LiveLine → Type 0
DependsOn s r k m = Mem m (lines_of s r) × Depends (lines_of s r) (line_of k (lines_of s r)) m

-- the part p is flagged
abbrev pub flagged : List ℕ → Record → Key → ℕ → Bool
flagged s r k p = get_or (spread_for s r k).parts p false

-- the live firings that remain: neither that of the key k nor one that depends on it
abbrev pub rest : List ℕ → Record → Key → List LiveLine
rest s r k = remaining k (lines_of s r)

-- the set of those that do not, as a test on keys
abbrev pub goes_with : List ℕ → Record → Key → Key → Bool
goes_with s r k i = not (is_live i (rest s r k))

-- The spread of the live key k in the record r on the sheet s; t is the tally of the commands that are spoken of.
pub record Slip (s : List ℕ) (r : Record) (k : Key) (t : Tally) : Type 0 where
  -- flagged are exactly the parts that the firing moved, or one that depends on it; there is a flag for each part that a sheet can
  -- have, and those above the sheet's are no
  pub parts : (p : ℕ) → Iff (flagged s r k p ≡ true) ((m : LiveLine) × DependsOn s r k m × (in_set m.moved p ≡ true))
  pub size : length (spread_for s r k).parts ≡ max_bases
  pub unused : (p : ℕ) → bases_of s ≤ p → flagged s r k p ≡ false
  -- the firings that remain are those that do not depend on it, in the order of their serials
  pub remains : (m : LiveLine) → Iff (Mem m (rest s r k)) (Mem m (lines_of s r) × (DependsOn s r k m → ⊥))
  pub in_order : rises 0 (line_keys (rest s r k)) ≡ true
  -- alone, as commands of kind 1 from a fresh record, each is answered `fired`, and every part outside the set has then the
  -- place and the couplings that it has now
  pub marking : Marking
  pub forward : (t' : Tally) → ForwardRun s (rest s r k) marking t'
  pub places : (p : ℕ) → flagged s r k p ≡ false → place marking p ≡ place (held_in s r).marking p
  pub bonds : (p q : ℕ) → flagged s r k p ≡ false
      → (has_bond (bond p q) marking.bonds ≡ has_bond (bond p q) (held_in s r).marking.bonds) × (has_bond (bond q p) marking.bonds ≡ has_bond (bond q p) (held_in s r).marking.bonds)
  -- the others are what has to go if it is to be taken back: they can be taken back (T-04), and each set that can and has it
  -- has all of them; so its lamp (T-06) is lit exactly if it is the only one
  pub gone : (m : LiveLine) → Mem m (lines_of s r) → Iff (goes_with s r k m.key ≡ true) (DependsOn s r k m)
  pub can_go : (z : Record) × CanGo s r t (goes_with s r k) z
  pub needed : (f : Key → Bool) (z : Record) → CanGo s r t f z → f k ≡ true → (m : LiveLine) → DependsOn s r k m → f m.key ≡ true
  pub lamp : Iff (can_undo s r k ≡ true) ((m : LiveLine) → DependsOn s r k m → m ≡ line_of k (lines_of s r))

-- A key asked of the record r on the sheet s.
pub record Spreads (s : List ℕ) (r : Record) (k : Key) (t : Tally) : Type 0 where
  -- told where none of 1 to 10 and 19 holds
  pub answer : clear (spread_checks s r k) ≡ true → (spread_for s r k).answer ≡ Accepted
  pub told : clear (spread_checks s r k) ≡ true → Slip s r k t
  -- what is refused is refused by the first of 1 to 10 and 19 that holds, and gives the empty set
  pub away : clear (spread_checks s r k) ≡ false → spread_for s r k ≡ not_told (first (spread_checks s r k))
