-- Taking back by commands of kind 3: one key, a list of keys, what is left of the lines, and where a run of lines ends.
-- Assumes that the net meets the sheet's rules.
use mathlib.Core.Path.{◌≡◌, refl, sym, ◌∙◌, ap}
use mathlib.Core.Bool.{Bool, true, false, not, ◌&&◌, ◌||◌}
use mathlib.Core.List.{List, [], ◌∷◌}
use Prim.Native.Nat.{ℕ, ◌<◌}
use Rattle.causal.specs.Lists.{Mem}
use Rattle.causal.specs.Runs.{Run}
use Rattle.causal.proofs.Tests.{test, both}
use Rattle.net.specs.Tests.{pick, any, keep}
use Rattle.net.specs.Net.{Marking, Net, arcs_of, place}
use Rattle.net.specs.Rules.{net_rule}
use Rattle.net.specs.Firing.{in_set, fire, Fires}
use Rattle.net.specs.Checks.{clear, first}
use Rattle.net.specs.Journal.{LiveLine, Journal, Reply, Answer, fired, undone, refused, key, same_key, line_of, undo_checks, undo_reply, refuse, act, play, answers}
use Rattle.net.specs.Claims.{undo_command, undo_commands, all_undone}
use Rattle.net.specs.declared.Key.{Key}
use Rattle.net.proofs.Tests.{same_test, any-i, any-e, keep-cong, keep-yes, keep-keep}
use Rattle.net.proofs.Tables.{get_d-table}
use Rattle.net.proofs.Keys.{same_key_lem, key-same}
use Rattle.net.proofs.Journal.{Held, undo-held}
use Rattle.net.proofs.Demand3.{number-bytes}

-- ---- one command of kind 3

module _ (net : Net) (j : Journal) where
  undo-number : (n : ℕ) → act net j (undo_command (key n)) ≡ pick (clear (undo_checks j (key n))) (undo_reply net j (key n)) (refuse j (first (undo_checks j (key n))))
  undo-number n = ap (λ (k : ℕ). pick (clear (undo_checks j (key k))) (undo_reply net j (key k)) (refuse j (first (undo_checks j (key k))))) (number-bytes n)

  undo-by : (k : Key) (b : Bool) → clear (undo_checks j k) ≡ b → act net j (undo_command k) ≡ pick b (undo_reply net j k) (refuse j (first (undo_checks j k)))
  undo-by k b e = undo-number k.0 ∙ ap (λ (c : Bool). pick c (undo_reply net j k) (refuse j (first (undo_checks j k)))) e

  -- where neither 19 nor 20 holds, the firing is taken back
  pub act-undoes : (k : Key) → clear (undo_checks j k) ≡ true → act net j (undo_command k) ≡ undo_reply net j k
  act-undoes k e = undo-by k true e

  abbrev is_refused : Answer → Bool
  is_refused (fired k) = false
  is_refused (undone k) = false
  is_refused (refused n) = true

  pub undone-clear : (k i : Key) → (act net j (undo_command k)).answer ≡ undone i → clear (undo_checks j k) ≡ true
  undone-clear k i e = test (clear (undo_checks j k)) (λ h. h) (λ h. both true refl (ap is_refused (ap (λ (x : Reply). x.answer) (sym (undo-by k false h)) ∙ e)))

-- ---- a list of keys

module _ (net : Net) where
  -- each is accepted in turn
  abbrev pub Accepted : Journal → List Key → Type 0
  Accepted j [] = Unit {0}
  Accepted j (k ∷ ks) = (clear (undo_checks j k) ≡ true) × Accepted (undo_reply net j k).journal ks

  -- what is left
  abbrev pub takeAll : Journal → List Key → Journal
  takeAll j [] = j
  takeAll j (k ∷ ks) = takeAll (undo_reply net j k).journal ks

  pub accepted-play : (ks : List Key) (j : Journal) → Accepted j ks → play net (undo_commands ks) j ≡ takeAll j ks
  accepted-play [] j a = refl
  accepted-play (k ∷ ks) j a = ap (λ (r : Reply). play net (undo_commands ks) r.journal) (act-undoes net j k a.0) ∙ accepted-play ks (undo_reply net j k).journal a.1

  pub accepted-answers : (ks : List Key) (j : Journal) → Accepted j ks → answers net (undo_commands ks) j ≡ all_undone ks
  accepted-answers [] j a = refl
  accepted-answers (k ∷ ks) j a =
      ap (λ (r : Reply). r.answer ∷ answers net (undo_commands ks) r.journal) (act-undoes net j k a.0)
      ∙ (λ i. undone k ∷ accepted-answers ks (undo_reply net j k).journal a.1 i)

  abbrev head_or : Answer → List Answer → Answer
  head_or a [] = a
  head_or a (x ∷ xs) = x

  abbrev tailOf : List Answer → List Answer
  tailOf [] = []
  tailOf (x ∷ xs) = xs

  pub answers-accepted : (ks : List Key) (j : Journal) → answers net (undo_commands ks) j ≡ all_undone ks → Accepted j ks
  answers-accepted [] j e = tt
  answers-accepted (k ∷ ks) j e =
      let c : clear (undo_checks j k) ≡ true = undone-clear net j k k (ap (head_or (refused 0)) e) in
      (c, answers-accepted ks (undo_reply net j k).journal (ap (λ (r : Reply). answers net (undo_commands ks) r.journal) (sym (act-undoes net j k c)) ∙ ap tailOf e))

  pub take-held : net_rule net ≡ true → (ks : List Key) (j : Journal) → Accepted j ks → Held net j → Held net (takeAll j ks)
  take-held ok [] j a H = H
  take-held ok (k ∷ ks) j a H = take-held ok ks (undo_reply net j k).journal a.1 (undo-held net ok j k a.0 H)

-- ---- what is left of the lines

-- the key is among them
abbrev pub among : List Key → Key → Bool
among ks k = any (λ (i : Key). same_key i k) ks

pub mem-among : (ks : List Key) (k : Key) → Mem k ks → among ks k ≡ true
mem-among ks k m = any-i (λ (i : Key). same_key i k) ks k m (key-same k)

pub among-mem : (ks : List Key) (k : Key) → among ks k ≡ true → Mem k ks
among-mem ks k h = let (i, m, e) = any-e (λ (i : Key). same_key i k) ks h in like i m (same_key_lem i k e)
  where
    like : (i : Key) → Mem i ks → i ≡ k → Mem k ks
    like i m e = rw (← e) m

-- the lines whose keys do not pass
abbrev pub lines_left : (Key → Bool) → List LiveLine → List LiveLine
lines_left f ls = keep (λ (l : LiveLine). not (f l.key)) ls

pub left-cong : (f g : Key → Bool) (ls : List LiveLine) → ((l : LiveLine) → Mem l ls → f l.key ≡ g l.key) → lines_left f ls ≡ lines_left g ls
left-cong f g ls h = keep-cong (λ (l : LiveLine). not (f l.key)) (λ (l : LiveLine). not (g l.key)) ls (λ l m. ap not (h l m))

-- first those of g, then those of f
pub left-left : (f g : Key → Bool) (ls : List LiveLine) → lines_left f (lines_left g ls) ≡ lines_left (λ k. g k || f k) ls
left-left f g ls = keep-keep (λ (l : LiveLine). not (g l.key)) (λ (l : LiveLine). not (f l.key)) ls
    ∙ keep-cong (λ (l : LiveLine). not (g l.key) && not (f l.key)) (λ (l : LiveLine). not (g l.key || f l.key)) ls (λ l _. neither (g l.key) (f l.key))
  where
    neither : (a b : Bool) → (not a && not b) ≡ not (a || b)
    neither true b = refl
    neither false b = refl

pub take-lines : (net : Net) (ks : List Key) (j : Journal) → (takeAll net j ks).lines ≡ lines_left (among ks) j.lines
take-lines net [] j = sym (keep-yes j.lines)
take-lines net (k ∷ ks) j =
    take-lines net ks (undo_reply net j k).journal ∙ left-left (among ks) (λ i. same_key i k) j.lines
    ∙ left-cong (λ i. same_key i k || among ks i) (among (k ∷ ks)) j.lines (λ l _. ap (λ (b : Bool). b || among ks l.key) (turned l.key))
  where
    turned : (i : Key) → same_key i k ≡ same_key k i
    turned i = same_test (same_key i k) (same_key k i) (λ h. ap (λ (x : Key). same_key x i) (sym (same_key_lem i k h)) ∙ key-same i) (λ h. ap (λ (x : Key). same_key x k) (sym (same_key_lem k i h)) ∙ key-same k)

-- ---- where a run ends

module _ (net : Net) where
  -- the marking after the lines, fired in turn from s
  abbrev pub after : Marking → List LiveLine → Marking
  after s [] = s
  after s (l ∷ ls) = after (fire net.bases (arcs_of net l.transition) s) ls

  run-after : (ls : List LiveLine) (s z : Marking) → Run (Fires net) s ls z → z ≡ after s ls
  run-after [] s z e = sym e
  run-after (l ∷ ls) s z r = run-after ls r.0 z r.2 ∙ ap (λ (x : Marking). after x ls) r.1.gives

  pub held_after : (j : Journal) → Held net j → j.marking ≡ after net.start j.lines
  held_after j H = run-after j.lines net.start j.marking H.run

  -- taking back a line that did not move p leaves p where it is
  pub undo-place : (j : Journal) (k : Key) (p : ℕ) → p < net.bases → in_set (line_of k j.lines).moved p ≡ false
      → place (undo_reply net j k).journal.marking p ≡ place j.marking p
  undo-place j k p h e = get_d-table net.bases _ p 0 h ∙ rw e
