-- The key of a firing is one above the highest ever given (02, T-03): what the history becomes, and where that is Definition 5's
-- (assumes the sheet's rules, and a journal that commands keep); and the highest given is the highest of all keys in the answers.
use mathlib.Core.Path.{◌≡◌, refl, sym, ◌∙◌, ap}
use mathlib.Core.Logic.{◌⊎◌, inl, inr}
use mathlib.Core.Bool.{Bool, true, false}
use mathlib.Core.List.{List, [], ◌∷◌}
use Prim.Native.Nat.{ℕ, suc, ◌<◌, ◌≤◌}
use native.Mathlib.Omega.{arith}
use lib.Dec.{eqb}
use Rattle.causal.specs.Lists.{Mem}
use Rattle.causal.proofs.Lists.{mem-mid, mem-left}
use Rattle.net.specs.Tests.{pick}
use Rattle.net.specs.Net.{Net}
use Rattle.net.specs.Rules.{net_rule}
use Rattle.net.specs.Checks.{clear, first}
use Rattle.net.specs.Journal.{LiveLine, Journal, Answer, fired, undone, refused, Reply, key, highest_live, last_given, kind_of, transition_named, key_named, checks, new_line, fire_reply, undo_reply, refuse, act, play, answers, begin}
use Rattle.net.specs.declared.Transition.{Transition}
use Rattle.net.proofs.Keys.{key_of, mem-highest, mem-snoc}
use Rattle.net.proofs.Journal.{Held}
use Rattle.published.specs.Sets.{Max}
use Rattle.published.specs.Forward.{keys_with, KeysAndZero, fired_keys}
use Rattle.published.specs.Sheets.{petri_net, history_of, GivenAndZero}
use Rattle.published.specs.Claims.{JournalKeysAsPublished}
use Rattle.published.proofs.Lines.{highest-is}
use Rattle.published.proofs.Sessions.{line-listed}
use Rattle.published.proofs.Keys.{one-max}

module _ (net : Net) (ok : net_rule net ≡ true) (j : Journal) (H : Held net j) where
  below_new : (t : Transition) (k : ℕ) → history_of j t k → k < suc (last_given j).0
  below_new t k (l, m, _, q) = let a = mem-highest j.lines l m in let b = H.top in omega arith

  -- ---- a firing

  fired-to : (t u : Transition) (k : ℕ) → history_of (fire_reply net j t).journal u k → keys_with (history_of j) t (suc (last_given j).0) u k
  fired-to t u k (l, m, e, q) = go (mem-snoc j.lines (new_line net j t) l m)
    where
      go : Mem l j.lines ⊎ (l ≡ new_line net j t) → keys_with (history_of j) t (suc (last_given j).0) u k
      go (inl n) = inl (l, n, e, q)
      go (inr d) = inr (sym e ∙ ap (λ (x : LiveLine). x.transition) d, sym q ∙ key_of d)

  fired-from : (t u : Transition) (k : ℕ) → keys_with (history_of j) t (suc (last_given j).0) u k → history_of (fire_reply net j t).journal u k
  fired-from t u k (inl (l, m, e, q)) = (l, mem-left j.lines (new_line net j t ∷ []) l m, e, q)
  fired-from t u k (inr (e, q)) = (new_line net j t, mem-mid (new_line net j t) j.lines [], sym e, sym q)

  -- ---- Definition 5's own key

  -- the highest live key, or 0, is the highest of all keys and 0
  max-keys : Max (KeysAndZero (petri_net net) (history_of j)) (highest_live j.lines).0
  max-keys = (go (highest-is j.lines), λ i k. below i k)
    where
      go : ((highest_live j.lines).0 ≡ 0) ⊎ ((l : LiveLine) × Mem l j.lines × (l.key.0 ≡ (highest_live j.lines).0)) → KeysAndZero (petri_net net) (history_of j) (highest_live j.lines).0
      go (inl e) = inl e
      go (inr (l, m, e)) = inr (l.transition, line-listed net ok j H l m, (l, m, refl, e))

      below : (i : ℕ) → KeysAndZero (petri_net net) (history_of j) i → i ≤ (highest_live j.lines).0
      below i (inl e) = omega arith
      below i (inr (t, _, (l, m, _, e))) = let a = mem-highest j.lines l m in omega arith

  is-highest : (m : ℕ) → Max (KeysAndZero (petri_net net) (history_of j)) m → m ≡ (highest_live j.lines).0
  is-highest m x = one-max (KeysAndZero (petri_net net) (history_of j)) m (highest_live j.lines).0 x max-keys

  own-to : (last_given j).0 ≡ (highest_live j.lines).0 → (t u : Transition) (k : ℕ) → keys_with (history_of j) t (suc (last_given j).0) u k → fired_keys (petri_net net) (history_of j) t u k
  own-to same t u k (inl h) = inl h
  own-to same t u k (inr (e, q)) = inr (e, (highest_live j.lines).0, max-keys, q ∙ ap suc same)

  own-from : (last_given j).0 ≡ (highest_live j.lines).0 → (t u : Transition) (k : ℕ) → fired_keys (petri_net net) (history_of j) t u k → keys_with (history_of j) t (suc (last_given j).0) u k
  own-from same t u k (inl h) = inl h
  own-from same t u k (inr (e, m, x, q)) = inr (e, q ∙ ap suc (is-highest m x ∙ sym same))

  only-own : (t : Transition) → fired_keys (petri_net net) (history_of j) t t (suc (last_given j).0) → (last_given j).0 ≡ (highest_live j.lines).0
  only-own t (inl h) = let a = below_new t (suc (last_given j).0) h in absurd (let z : ⊥ = omega arith in z)
  only-own t (inr (_, m, x, q)) = let a = is-highest m x in omega arith

  pub fired-keys : JournalKeysAsPublished net j
  fired-keys = record {
    fired = λ t u k. (fired-to t u k, fired-from t u k);
    above = below_new;
    highest = max-keys;
    definition5 = λ t. (
      (λ same u k. ((λ h. own-to same t u k (fired-to t u k h)), λ h. fired-from t u k (own-from same t u k h))),
      λ f. only-own t ((f t (suc (last_given j).0)).0 (new_line net j t, mem-mid (new_line net j t) j.lines [], refl, refl)),
    );
  }

-- ---- the highest given, over commands

-- a key in an answer, 0 where it fired nothing
abbrev fired_key : Answer → ℕ
fired_key (fired k) = k.0
fired_key (undone k) = 0
fired_key (refused n) = 0

module _ (net : Net) where
  -- n and the keys that answers gave
  abbrev From : ℕ → List Answer → ℕ → Type 0
  From n rs k = (k ≡ n) ⊎ Mem (fired (key k)) rs

  -- a command gave the key after n, and that is then the highest given; or it gave none but 0, and n stays
  abbrev Gives : ℕ → Reply → Type 0
  Gives n y = ((y.answer ≡ fired (key (suc n))) × (y.journal.given.0 ≡ suc n)) ⊎ (((k : ℕ) → fired (key k) ≡ y.answer → k ≡ 0) × (y.journal.given.0 ≡ n))

  act-gives : (j : Journal) (c : List ℕ) → Gives (last_given j).0 (act net j c)
  act-gives j c = go (clear (checks net j c)) (eqb (kind_of c) 1)
    where
      go : (a b : Bool) → Gives (last_given j).0 (pick a (pick b (fire_reply net j (transition_named c)) (undo_reply net j (key_named j c))) (refuse j (first (checks net j c))))
      go true true = inl (refl, refl)
      go true false = inr ((λ k e. ap fired_key e), refl)
      go false b = inr ((λ k e. ap fired_key e), refl)

  more : (n g : ℕ) (y : Reply) (rs : List Answer) → Gives n y → Max (From y.journal.given.0 rs) g → Max (From n (y.answer ∷ rs)) g
  more n g y rs (inl (a, e)) (x, f) = (member x, λ k h. below k h)
    where
      member : From y.journal.given.0 rs g → From n (y.answer ∷ rs) g
      member (inl q) = inr (inl ((λ i. fired (key ((q ∙ e) i))) ∙ sym a))
      member (inr m) = inr (inr m)

      below : (k : ℕ) → From n (y.answer ∷ rs) k → k ≤ g
      below k (inl q) = let b = f y.journal.given.0 (inl refl) in omega arith
      below k (inr (inl q)) = let b = f y.journal.given.0 (inl refl) in let d : k ≡ suc n = ap fired_key (q ∙ a) in omega arith
      below k (inr (inr m)) = f k (inr m)
  more n g y rs (inr (none, e)) (x, f) = (member x, λ k h. below k h)
    where
      member : From y.journal.given.0 rs g → From n (y.answer ∷ rs) g
      member (inl q) = inl (q ∙ e)
      member (inr m) = inr (inr m)

      below : (k : ℕ) → From n (y.answer ∷ rs) k → k ≤ g
      below k (inl q) = f k (inl (q ∙ sym e))
      below k (inr (inl q)) = let d = none k q in omega arith
      below k (inr (inr m)) = f k (inr m)

  play-given : (cs : List (List ℕ)) (j : Journal) → Max (From (last_given j).0 (answers net cs j)) (last_given (play net cs j)).0
  play-given [] j = (inl refl, λ k h. below k h)
    where
      below : (k : ℕ) → From (last_given j).0 [] k → k ≤ (last_given j).0
      below k (inl q) = omega arith
      below k (inr m) = absurd m
  play-given (c ∷ cs) j = more (last_given j).0 (last_given (play net cs (act net j c).journal)).0 (act net j c) (answers net cs (act net j c).journal) (act-gives j c) (play-given cs (act net j c).journal)

  pub highest-given : (cs : List (List ℕ)) → Max (GivenAndZero (answers net cs (begin net))) (last_given (play net cs (begin net))).0
  highest-given cs = play-given cs (begin net)
