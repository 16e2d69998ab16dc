-- The way back to a wanted layout (02, T-04): sets of live firings and their effect, and the search for the least set.
-- Definitions only.
use Rattle.std.specs.Prelude.{◌≡◌, Bool, true, false, not, ◌||◌, List, [], ◌∷◌, ℕ, zero, suc, ◌<◌, eqb, ltb, get_or, length}
use Rattle.causal.specs.Lists.{Mem}
use Rattle.net.specs.Tests.{pick}
use Rattle.net.specs.Net.{Marking, Net}
use Rattle.net.specs.Journal.{LiveLine, Journal, no_line, is_live, undo_reply, play, answers}
use Rattle.net.specs.Claims.{undo_commands, all_undone}
use Rattle.net.specs.declared.Key.{Key}
use Rattle.movers.specs.Tops.{sharing, moved_in, top_at}
use Rattle.layout.specs.Layout as L
use Rattle.layout.specs.Layout.{astray}

-- ---- The wanted layout

-- The base p is not where the layout w, a byte for each base, wants it.
abbrev pub misfit : List ℕ → Marking → ℕ → Bool
misfit w s p = astray w s.places p

-- Each base is where it is wanted.
abbrev pub AtPlaces : Net → List ℕ → Marking → Type 0
AtPlaces net w s = (p : ℕ) → p < net.bases → misfit w s p ≡ false

-- ---- Sets of live firings

-- A set of live firings is a test on their keys. It can be taken back, to the marking z (02, T-04), if its keys, given as
-- commands of kind 3 in some order, are each accepted, and the last gives z.
pub record TakenBack (net : Net) (j : Journal) (f : Key → Bool) (z : Marking) : Type 0 where
  pub order : List Key
  pub only : (k : Key) → Mem k order → f k ≡ true
  pub every : (l : LiveLine) → Mem l j.lines → f l.key ≡ true → Mem l.key order
  pub accepted : answers net (undo_commands order) j ≡ all_undone order
  pub gives : (play net (undo_commands order) j).marking ≡ z

-- The set can be taken back, and then each base is where it is wanted.
abbrev pub HasEffect : Net → List ℕ → Journal → (Key → Bool) → Type 0
HasEffect net w j f = (z : Marking) × TakenBack net j f z × AtPlaces net w z

-- Closed by a relation: every later live firing that depends directly on a member is a member.
abbrev pub ClosedBy : (LiveLine → LiveLine → Bool) → List LiveLine → (Key → Bool) → Type 0
ClosedBy dep ls f = (l k : LiveLine) → Mem l ls → Mem k ls → l.key.0 < k.key.0 → dep l k ≡ true → f l.key ≡ true → f k.key ≡ true

-- Closed upward: every later live firing with a moved base in common with a member is a member.
abbrev pub ClosedUpward : List LiveLine → (Key → Bool) → Type 0
ClosedUpward ls f = ClosedBy sharing ls f

-- The members' keys among the first n lines, from the last of these lines down to the first: in descending keys, since the
-- keys of a journal ascend.
abbrev pub descending_to : (Key → Bool) → List LiveLine → ℕ → List Key
descending_to f ls zero = []
descending_to f ls (suc n) = pick (f (get_or ls n no_line).key) ((get_or ls n no_line).key ∷ descending_to f ls n) (descending_to f ls n)

abbrev pub descending : (Key → Bool) → List LiveLine → List Key
descending f ls = descending_to f ls (length ls)

-- the first key is the higher one
abbrev pub higher : Key → Key → Bool
higher k i = ltb i.0 k.0

-- ---- The search for the least set

-- the first base that is not where it is wanted; the number of bases where there is none
abbrev pub wrong_base : Net → List ℕ → Marking → ℕ
wrong_base net w s = L.wrong_base net.bases w s.places

-- While a base is not where it is wanted and some line moved it, the top above the last such line is taken back; at most
-- n times. What is left at the end.
abbrev pub retreat : Net → List ℕ → ℕ → Journal → Journal
retreat net w zero j = j
retreat net w (suc n) j =
    let p : ℕ = wrong_base net w j.marking in
    pick (eqb p net.bases || not (moved_in p j.lines)) j (retreat net w n (undo_reply net j (top_at sharing p j.lines).key).journal)

abbrev pub retreated : Net → List ℕ → Journal → Journal
retreated net w j = retreat net w (length j.lines) j

-- Refusal 28 (02, T-04): a base is still not where it is wanted.
abbrev pub no_way : Net → List ℕ → Journal → Bool
no_way net w j = not (eqb (wrong_base net w (retreated net w j).marking) net.bases)

-- the key is not that of a line
abbrev pub away : List LiveLine → Key → Bool
away ls k = not (is_live k ls)

-- the key is not live at the end
abbrev pub gone : Net → List ℕ → Journal → Key → Bool
gone net w j k = away (retreated net w j).lines k

-- The set to take back (02, T-04), in descending keys.
abbrev pub way_back : Net → List ℕ → Journal → List Key
way_back net w j = descending (gone net w j) j.lines
