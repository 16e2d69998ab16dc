-- Sound histories: the test holds exactly of what commands keep true, so a sound history stays sound, and what the
-- journal holds is sound. Assumes that the net meets the sheet's rules.
use mathlib.Core.Path.{◌≡◌, refl}
use mathlib.Core.Logic.{◌⊎◌, inl, inr}
use mathlib.Core.Bool.{Bool, true, ◌&&◌, beq}
use mathlib.Core.List.{List, [], ◌∷◌}
use Prim.Native.Nat.{◌<◌}
use native.Mathlib.Omega.{arith}
use lib.Dec.{eqb, ltb, leb}
use lib.ListN.{length}
use borrow.Author.Tests.{eqb-true, eq-eqb, ltb-true, lt-ltb, leb-true, le-leb, lt-leb}
use Rattle.causal.specs.Lists.{Mem}
use Rattle.causal.specs.Runs.{Run}
use Rattle.net.specs.Limits.{max_live, max_key}
use Rattle.net.specs.Tests.{same_list}
use Rattle.net.specs.Sorted.{ascends}
use Rattle.net.specs.Net.{Marking, Net, same_bond, arcs_of}
use Rattle.net.specs.Rules.{net_rule}
use Rattle.net.specs.Firing.{moved, fire, Fires}
use Rattle.net.specs.Checks.{clear}
use Rattle.net.specs.Journal.{LiveLine, Journal, highest_live, enable_checks, act, play, begin}
use Rattle.net.specs.History.{same_marking, accepts, replays, keys_in_order, lines_in_form, given_in_form, sound}
use Rattle.net.proofs.Claimed.{StaysSound, JournalSound}
use Rattle.net.proofs.Tests.{and_l, and_r, and_i, all-e, all-i, beq-e, beq-i, same-e, same-i}
use Rattle.net.proofs.Bonds.{bond-eq, eq-bond}
use Rattle.net.proofs.Keys.{Up, mem-highest}
use Rattle.net.proofs.Journal.{Held, enabled-fires, act-held, played}

-- ---- the forward run

pub same-marking : (s z : Marking) → same_marking s z ≡ true → s ≡ z
same-marking s z h =
    let p = same-e eqb eqb-true s.places z.places (and_l (same_list eqb s.places z.places) (same_list same_bond s.bonds z.bonds) h) in
    let q = same-e same_bond bond-eq s.bonds z.bonds (and_r (same_list eqb s.places z.places) (same_list same_bond s.bonds z.bonds) h) in
    λ i. record { places = p i; bonds = q i }

pub marking-same : (s : Marking) → same_marking s s ≡ true
marking-same s = and_i (same_list eqb s.places s.places) (same_list same_bond s.bonds s.bonds)
    (same-i eqb (λ x. eq-eqb x x refl) s.places) (same-i same_bond eq-bond s.bonds)

module _ (net : Net) where
  pub replays-run : (ls : List LiveLine) (s z : Marking) → replays net s ls z ≡ true → Run (Fires net) s ls z
  replays-run [] s z h = same-marking s z h
  replays-run (l ∷ ls) s z h =
      let t = arcs_of net l.transition in
      let a : accepts net s l ≡ true = and_l (accepts net s l) _ h in
      let F = enabled-fires net s l.transition (and_l (clear (enable_checks net s l.transition)) _ a) in (
        fire net.bases t s,
        record {
          listed = F.listed;
          placed = F.placed;
          present = F.present;
          absent = F.absent;
          together = F.together;
          moves_m = same-e beq beq-e l.moved (moved net.bases t s) (and_r (clear (enable_checks net s l.transition)) _ a);
          gives = refl;
        },
        replays-run ls (fire net.bases t s) z (and_r (accepts net s l) _ h),
      )

  pub run-replays : (ls : List LiveLine) (s z : Marking) → Run (Fires net) s ls z → replays net s ls z ≡ true
  run-replays [] s z e = rw e (marking-same z)
  run-replays (l ∷ ls) s z r =
      let F = r.1 in
      rw (
        lt-leb (length net.transitions) l.transition.0 F.listed,
        F.placed,
        F.present,
        F.absent,
        F.together,
        F.moves_m,
        same-i beq beq-i (moved net.bases (arcs_of net l.transition) s),
        ← F.gives,
      ) (run-replays ls r.0 z r.2)

-- ---- the keys

abbrev pub key_below : LiveLine → LiveLine → Bool
key_below l k = ltb l.key.0 k.key.0

abbrev key_in_range : LiveLine → Bool
key_in_range l = ltb 0 l.key.0 && leb l.key.0 max_key

pub ascends-up : (ls : List LiveLine) → ascends key_below ls ≡ true → Up ls
ascends-up [] h = tt
ascends-up (l ∷ []) h = ((λ j m. absurd m), tt)
ascends-up (l ∷ j ∷ ls) h =
    let a : l.key.0 < j.key.0 = ltb-true l.key.0 j.key.0 (and_l (key_below l j) _ h) in
    let u : Up (j ∷ ls) = ascends-up (j ∷ ls) (and_r (key_below l j) _ h) in
    ((λ k m. go a u k m), u)
  where
    go : l.key.0 < j.key.0 → Up (j ∷ ls) → (k : LiveLine) → (k ≡ j) ⊎ Mem k ls → l.key.0 < k.key.0
    go a u k (inl e) = rw e a
    go a u k (inr m) = let b = u.0 k m in omega arith

up-ascends : (ls : List LiveLine) → Up ls → ascends key_below ls ≡ true
up-ascends [] u = refl
up-ascends (l ∷ []) u = refl
up-ascends (l ∷ j ∷ ls) u = and_i (key_below l j) (ascends key_below (j ∷ ls)) (lt-ltb l.key.0 j.key.0 (u.0 j (inl refl))) (up-ascends (j ∷ ls) u.1)

-- ---- the test and the invariant

module _ (net : Net) where
  pub sound-held : (j : Journal) → sound net j ≡ true → Held net j
  sound-held j h =
      let lines : (lines_in_form j.lines && replays net net.start j.lines j.marking) ≡ true = and_l _ (given_in_form j) h in
      let form : lines_in_form j.lines ≡ true = and_l (lines_in_form j.lines) _ lines in
      let keys : keys_in_order j.lines ≡ true = and_r (leb (length j.lines) max_live) _ form in
      let each = all-e key_in_range j.lines (and_r (ascends key_below j.lines) _ keys) in
      let given : given_in_form j ≡ true = and_r (lines_in_form j.lines && replays net net.start j.lines j.marking) _ h in
      record {
        run = replays-run net j.lines net.start j.marking (and_r (lines_in_form j.lines) _ lines);
        up = ascends-up j.lines (and_l _ _ keys);
        few = leb-true (length j.lines) max_live (and_l _ _ form);
        top = leb-true (highest_live j.lines).0 j.given.0 (and_l _ _ given);
        low = leb-true j.given.0 max_key (and_r (leb (highest_live j.lines).0 j.given.0) _ given);
        above = λ l m. ltb-true 0 l.key.0 (and_l _ _ (each l m));
      }

  pub held-sound : (j : Journal) → Held net j → sound net j ≡ true
  held-sound j H =
      rw (
        le-leb (length j.lines) max_live H.few,
        up-ascends j.lines H.up,
        all-i key_in_range j.lines (λ l m. and_i (ltb 0 l.key.0) (leb l.key.0 max_key) (lt-ltb 0 l.key.0 (H.above l m))
            (le-leb l.key.0 max_key (let a = mem-highest j.lines l m in let b = H.top in let c = H.low in omega arith))),
        le-leb (highest_live j.lines).0 j.given.0 H.top,
        le-leb j.given.0 max_key H.low,
        run-replays net j.lines net.start j.marking H.run,
      )

module _ (net : Net) (ok : net_rule net ≡ true) where
  pub stays-sound : StaysSound net
  stays-sound j c h = held-sound net (act net j c).journal (act-held net ok j c (sound-held net j h))

  pub journal-sound : JournalSound net
  journal-sound cs = held-sound net (play net cs (begin net)) (played net ok cs)
