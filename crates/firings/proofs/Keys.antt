-- The keys of the live firings are those of the lines: climbing where those are in order, and a key is among them where it is live.
-- Assumes nothing.
use mathlib.Core.Path.{◌≡◌, refl, sym, ◌∙◌, ap}
use mathlib.Core.Bool.{Bool, true, ◌&&◌, ◌||◌}
use mathlib.Core.List.{List, [], ◌∷◌}
use Prim.Native.Nat.{ℕ, ◌<◌}
use native.Mathlib.Omega.{arith}
use lib.Dec.{eqb, ltb, leb}
use borrow.Author.Tests.{ltb-true, lt-ltb}
use Rattle.net.specs.Limits.{max_key}
use Rattle.net.specs.Tests.{all, any}
use Rattle.net.specs.Sorted.{ascends}
use Rattle.net.specs.Journal.{LiveLine, is_live, line_keys}
use Rattle.net.specs.History.{keys_in_order}
use Rattle.net.specs.declared.Key.{Key}
use Rattle.net.proofs.Tests.{same_test, and_l, and_r, and_i}
use Rattle.net.proofs.Keys.{Up}
use Rattle.net.proofs.History.{ascends-up}
use Rattle.firings.specs.Lines.{lines_in}
use Rattle.firings.specs.Form.{climbs}
use Rattle.firings.specs.Search.{keys_in}
use Rattle.firings.specs.declared.Firings.{Firings}
use Rattle.firings.proofs.Search.{keys-of-lines}

abbrev key_below : LiveLine → LiveLine → Bool
key_below l k = ltb l.key.0 k.key.0

abbrev in_range : LiveLine → Bool
in_range l = ltb 0 l.key.0 && leb l.key.0 max_key

climbs-range : (last : ℕ) (ls : List LiveLine) → climbs last (line_keys ls) ≡ true → all in_range ls ≡ true
climbs-range last [] h = refl
climbs-range last (l ∷ ls) h =
    let a : (ltb last l.key.0 && leb l.key.0 max_key) ≡ true = and_l _ _ h in
    let b : last < l.key.0 = ltb-true last l.key.0 (and_l _ _ a) in
    let c : 0 < l.key.0 = omega arith in
    and_i (in_range l) (all in_range ls) (and_i (ltb 0 l.key.0) (leb l.key.0 max_key) (lt-ltb 0 l.key.0 c) (and_r (ltb last l.key.0) _ a))
    (climbs-range l.key.0 ls (and_r (ltb last l.key.0 && leb l.key.0 max_key) _ h))

climbs-ascends : (last : ℕ) (ls : List LiveLine) → climbs last (line_keys ls) ≡ true → ascends key_below ls ≡ true
climbs-ascends last [] h = refl
climbs-ascends last (l ∷ []) h = refl
climbs-ascends last (l ∷ k ∷ ls) h =
    let rest : climbs l.key.0 (line_keys (k ∷ ls)) ≡ true = and_r (ltb last l.key.0 && leb l.key.0 max_key) _ h in
    and_i (key_below l k) (ascends key_below (k ∷ ls)) (and_l _ _ (and_l (key_below l k && leb k.key.0 max_key) _ rest)) (climbs-ascends l.key.0 (k ∷ ls) rest)

ascends-climbs : (last : ℕ) (l : LiveLine) (ls : List LiveLine) → ltb last l.key.0 ≡ true → ascends key_below (l ∷ ls) ≡ true → all in_range (l ∷ ls) ≡ true → climbs last (line_keys (l ∷ ls)) ≡ true
ascends-climbs last l [] e a r = rw (e, and_r (ltb 0 l.key.0) _ (and_l (in_range l) _ r))
ascends-climbs last l (k ∷ ls) e a r =
    rw (e, and_r (ltb 0 l.key.0) _ (and_l (in_range l) _ r)) (ascends-climbs l.key.0 k ls (and_l _ _ a) (and_r (key_below l k) _ a) (and_r (in_range l) _ r))

order-climbs : (ls : List LiveLine) → keys_in_order ls ≡ true → climbs 0 (line_keys ls) ≡ true
order-climbs [] h = refl
order-climbs (l ∷ ls) h =
    let r : all in_range (l ∷ ls) ≡ true = and_r (ascends key_below (l ∷ ls)) _ h in
    ascends-climbs 0 l ls (and_l _ _ (and_l (in_range l) _ r)) (and_l _ _ h) r

pub keys-order : (n : ℕ) (f : Firings) → climbs 0 (keys_in f.live f.keys) ≡ keys_in_order (lines_in n f)
keys-order n f =
    let ls : List LiveLine = lines_in n f in
    let same : keys_in f.live f.keys ≡ line_keys ls = keys-of-lines n f in
    ap (climbs 0) same ∙ same_test (climbs 0 (line_keys ls)) (keys_in_order ls) (λ h. and_i (ascends key_below ls) (all in_range ls) (climbs-ascends 0 ls h) (climbs-range 0 ls h)) (order-climbs ls)

-- where they climb, so do those of the lines
pub keys-up : (n : ℕ) (f : Firings) → climbs 0 (keys_in f.live f.keys) ≡ true → Up (lines_in n f)
keys-up n f h = ascends-up (lines_in n f) (climbs-ascends 0 (lines_in n f) (ap (climbs 0) (sym (keys-of-lines n f)) ∙ h))

-- ---- a key is live where it is among the keys of the live firings

live-among : (k : Key) (ls : List LiveLine) → any (λ x. eqb x k.0) (line_keys ls) ≡ is_live k ls
live-among k [] = refl
live-among k (l ∷ ls) = ap (λ (b : Bool). eqb l.key.0 k.0 || b) (live-among k ls)

pub live-keys : (n : ℕ) (f : Firings) (k : Key) → any (λ x. eqb x k.0) (keys_in f.live f.keys) ≡ is_live k (lines_in n f)
live-keys n f k = ap (any (λ x. eqb x k.0)) (keys-of-lines n f) ∙ live-among k (lines_in n f)
