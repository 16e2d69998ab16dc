-- How far one slip spreads, asked of a record: by the journal that it holds, whose commands the record's are.
-- Assumes nothing.
use mathlib.Core.Path.{◌≡◌, refl, sym, ◌∙◌, ap}
use mathlib.Core.Logic.{◌⊎◌, inl, inr}
use mathlib.Core.Bool.{Bool, true, false, not, ◌&&◌}
use mathlib.Core.List.{List, [], ◌∷◌}
use Prim.Native.Nat.{ℕ, ◌<◌, ◌≤◌}
use native.Mathlib.Omega.{arith}
use lib.ListN.{length, get_or, get_or-eq_default}
use borrow.Author.Tests.{lt-ltb, not-true}
use Rattle.causal.specs.Lists.{Mem}
use Rattle.causal.proofs.Tests.{both}
use Rattle.net.specs.Limits.{max_bases}
use Rattle.net.specs.Tests.{pick}
use Rattle.net.specs.Checks.{check, clear, first}
use Rattle.net.specs.Rules.{net_rule}
use Rattle.net.specs.Firing.{in_set}
use Rattle.net.specs.Journal.{LiveLine, Journal, is_live, line_of, line_keys, built_on, undo_checks}
use Rattle.net.specs.Claims.{rises}
use Rattle.net.specs.declared.Key.{Key}
use Rattle.net.proofs.Tests.{and_i, and_l, and_r, fails}
use Rattle.net.proofs.Tables.{length-table, get_d-table-all}
use Rattle.net.proofs.Checks.{clear-append}
use Rattle.net.proofs.Keys.{Up, live-line, line-live, own_line, built-e, built-i}
use Rattle.net.proofs.Journal.{Held}
use Rattle.format.specs.Parts.{bases_of}
use Rattle.format.specs.NetOf.{net_of}
use Rattle.sheet.specs.Checks.{sheet_checks}
use Rattle.sheet.proofs.Accepted.{promised}
use Rattle.tally.specs.declared.Tally.{Tally}
use Rattle.sound.proofs.Fits.{run-flags}
use Rattle.way_back.specs.Ways.{ClosedUpward}
use Rattle.way_back.specs.Claims.{ClosedSets}
use Rattle.way_back.proofs.Least.{closed-sets}
use Rattle.spread.specs.Depends.{Depends, itself, through, spread_of, remaining}
use Rattle.spread.specs.Spread as P
use Rattle.spread.specs.Spread.{not_told, own_checks}
use Rattle.spread.specs.declared.Spread.{Spread}
use Rattle.spread.proofs.Chains.{Facts, depends-mem}
use Rattle.spread.proofs.Forward.{JournalSlip, slip}
use Rattle.session.specs.Records.{held_in, sound_for}
use Rattle.session.specs.Commands.{record_checks}
use Rattle.questions.specs.Lamps.{can_undo}
use Rattle.questions.specs.Spread.{spread_checks, spread_for}
use Rattle.session.specs.declared.Record.{Record}
use Rattle.claims.specs.WayBack.{CanGo}
use Rattle.claims.specs.Spread.{DependsOn, flagged, goes_with, Slip, Spreads}
use Rattle.claims.proofs.Records.{passes-held}
use Rattle.claims.proofs.Sessions as N
use Rattle.claims.proofs.WayBack.{taken, can-go}
use Rattle.claims.proofs.Lamps.{below, can-undo-is}

-- ---- lines

up-rises : (k : ℕ) (ls : List LiveLine) → ((j : LiveLine) → Mem j ls → k < j.key.0) → Up ls → rises k (line_keys ls) ≡ true
up-rises k [] h u = refl
up-rises k (l ∷ ls) h u = and_i _ _ (lt-ltb k l.key.0 (h l (inl refl))) (up-rises l.key.0 ls u.0 u.1)

-- lines of one key are one line
one_line : (ls : List LiveLine) → Up ls → (x m : LiveLine) → Mem x ls → Mem m ls → x.key.0 ≡ m.key.0 → x ≡ m
one_line ls u x m i n e =
    let q : x.key ≡ m.key = λ a. record { 0 = e a } in
    sym (own_line ls u x i) ∙ ap (λ (k : Key). line_of k ls) q ∙ own_line ls u m n

-- a closed set that has a line has all that depend on it
closed-chain : (ls : List LiveLine) (f : Key → Bool) → ClosedUpward ls f → {a m : LiveLine} → Depends ls a m → Mem a ls → f a.key ≡ true → f m.key ≡ true
closed-chain ls f c itself i e = e
closed-chain ls f c (through {k = k} {m = m} d n lt s) i e = c k m (depends-mem d i) n lt s (closed-chain ls f c d i e)

-- nothing but itself depends on a line that no other is built on
alone : (ls : List LiveLine) {a m : LiveLine} → Depends ls a m → built_on ls a ≡ false → m ≡ a
alone ls itself b = refl
alone ls {a} (through {k = k} {m = m} d n lt s) b =
    let e : k ≡ a = alone ls d b in
    both (built_on ls k) (built-i ls k m n lt s) (ap (built_on ls) e ∙ b)

module _ (s : List ℕ) (r : Record) (k : Key) where
  abbrev j : Journal
  j = held_in s r

  abbrev ls : List LiveLine
  ls = j.lines

  by-clear : (a : Bool) → clear (spread_checks s r k) ≡ a → spread_for s r k ≡ pick a (P.told (spread_of k ls)) (not_told (first (spread_checks s r k)))
  unfolding spread_for
  by-clear a e = ap (λ (x : Bool). pick x (P.told (spread_of k ls)) (not_told (first (spread_checks s r k)))) e

  clear-is : clear (spread_checks s r k) ≡ (clear (sheet_checks s) && (not (not (sound_for s r)) && (not (not (is_live k ls)) && true)))
  clear-is = clear-append (sheet_checks s) (check 10 (not (sound_for s r)) ∷ own_checks ls k)

  three : (a b c : Bool) → (a && (not (not b) && (not (not c) && true))) ≡ true → (a ≡ true) × (b ≡ true) × (c ≡ true)
  three true true true e = (refl, refl, refl)
  three true true false e = both false e refl
  three true false c e = both false e refl
  three false b c e = both false e refl

  module _ (h : clear (spread_checks s r k) ≡ true) where
    passed : (clear (sheet_checks s) ≡ true) × (sound_for s r ≡ true) × (is_live k ls ≡ true)
    passed = three (clear (sheet_checks s)) (sound_for s r) (is_live k ls) (sym clear-is ∙ h)

    front : clear (record_checks s r []) ≡ true
    front = clear-append (sheet_checks s) (check 10 (not (sound_for s r)) ∷ []) ∙ rw (passed.0, passed.1) refl

    rule : net_rule (net_of s) ≡ true
    rule = (promised s passed.0).rule

    held : Held (net_of s) j
    held = passes-held s passed.0 rule r passed.1

    Q : JournalSlip (net_of s) j k
    Q = slip (net_of s) rule j held k passed.2

    F : Facts ls (line_of k ls) (spread_of k ls) (remaining k ls)
    F = Q.chain

    -- ---- the flags

    flag_is : (p : ℕ) → flagged s r k p ≡ in_set (spread_of k ls) p
    flag_is p = ap (λ (y : Spread). get_or y.parts p false) (by-clear true h) ∙ get_d-table-all max_bases (in_set (spread_of k ls)) false p (λ b.
        fails (in_set (spread_of k ls) p) (λ e. let (m, i, d, q) = F.inside p e in let c = below s r front m i p q in let z : ⊥ = omega arith in z))

    unused : (p : ℕ) → bases_of s ≤ p → flagged s r k p ≡ false
    unfolding net_of
    unused p b = flag_is p ∙ fails (in_set (spread_of k ls) p) (λ e.
        let (m, i, d, q) = F.inside p e in
        let a = run-flags (net_of s) ls (net_of s).start j.marking held.run m i in
        both (in_set m.moved p) q (get_or-eq_default m.moved false (let c : length m.moved ≤ p = omega arith in c)))

    -- ---- what goes

    mine : Mem (line_of k ls) ls × ((line_of k ls).key.0 ≡ k.0)
    mine = live-line ls k passed.2

    goes : (m : LiveLine) → Mem m ls → goes_with s r k m.key ≡ true → DependsOn s r k m
    goes m i e = go (F.splits m i)
      where
        go : Mem m (remaining k ls) ⊎ Depends ls (line_of k ls) m → DependsOn s r k m
        go (inl o) = both (is_live m.key (remaining k ls)) (line-live (remaining k ls) m m.key o refl) (not-true _ e)
        go (inr d) = (i, d)

    gone : (m : LiveLine) → Mem m ls → DependsOn s r k m → goes_with s r k m.key ≡ true
    gone m i d = ap not (fails (is_live m.key (remaining k ls)) (λ e.
        let (n, q) = live-line (remaining k ls) m.key e in
        let x : LiveLine = line_of m.key (remaining k ls) in
        let (o, not_so) = F.free x n in
        not_so (rw (one_line ls held.up x m o i q) d.1)))

    upward : ClosedUpward ls (goes_with s r k)
    upward a b i n lt c e = gone b n (n, through (goes a i e).1 n lt c)

    sets : ClosedSets (net_of s) j
    sets = closed-sets (net_of s) rule j held

    module _ (t : Tally) where
      can : (z : Record) × CanGo s r t (goes_with s r k) z
      can = (_, can-go s passed.0 rule r passed.1 t (goes_with s r k) _ (sets.taken (goes_with s r k) upward))

      needed : (f : Key → Bool) (z : Record) → CanGo s r t f z → f k ≡ true → (m : LiveLine) → DependsOn s r k m → f m.key ≡ true
      needed f z g e m d =
          let c : ClosedUpward ls f = sets.closed f _ (taken s passed.0 rule r passed.1 t f z g) in
          let q : (line_of k ls).key ≡ k = λ a. record { 0 = mine.1 a } in
          closed-chain ls f c d.1 mine.0 (ap f q ∙ e)

    -- ---- the lamp

    lit-alone : can_undo s r k ≡ true → (m : LiveLine) → DependsOn s r k m → m ≡ line_of k ls
    lit-alone e m d =
        let c : clear (undo_checks j k) ≡ true = sym (can-undo-is s r front k) ∙ e in
        let b : not (built_on ls (line_of k ls)) ≡ true = and_l (not (built_on ls (line_of k ls))) true (and_r (not (not (is_live k ls))) _ c) in
        alone ls d.1 (not-true _ b)

    alone-lit : ((m : LiveLine) → DependsOn s r k m → m ≡ line_of k ls) → can_undo s r k ≡ true
    alone-lit f =
        let b : built_on ls (line_of k ls) ≡ false = fails (built_on ls (line_of k ls)) (λ e.
        let (x, i, lt, c) = built-e ls (line_of k ls) e in
        let q : x.key.0 ≡ (line_of k ls).key.0 = ap (λ (y : LiveLine). y.key.0) (f x (i, through itself i lt c)) in
        let z : ⊥ = omega arith in z) in
        can-undo-is s r front k ∙ rw (passed.2, b) refl

    slipped : (t : Tally) → Slip s r k t
    slipped t = record {
      parts = λ p. (
        (λ e. let (m, i, d, q) = F.inside p (sym (flag_is p) ∙ e) in (m, (i, d), q)),
        λ (m, d, q). flag_is p ∙ F.covers p m d.1 q,
      );
      size = ap (λ (y : Spread). length y.parts) (by-clear true h) ∙ length-table max_bases (in_set (spread_of k ls));
      unused = unused;
      remains = λ m. (
        (λ i. let (n, not_so) = F.free m i in (n, λ d. not_so d.1)),
        λ (i, not_so). elim (F.splits m i) [ inl o ↦ o | inr d ↦ absurd (not_so (i, d)) ],
      );
      in_order = up-rises 0 (remaining k ls) (λ x i. held.above x (F.free x i).0) Q.up;
      marking = Q.marking;
      forward = N.forward s passed.0 rule (remaining k ls) Q.marking Q.forward;
      places = λ p e. Q.places p (sym (flag_is p) ∙ e);
      bonds = λ p q e. Q.bonds p q (sym (flag_is p) ∙ e);
      gone = λ m i. (goes m i, gone m i);
      can_go = can t;
      needed = needed t;
      lamp = (lit-alone, alone-lit);
    }

  pub spreads : (t : Tally) → Spreads s r k t
  spreads t = record {
    answer = λ h. ap (λ (y : Spread). y.answer) (by-clear true h);
    told = λ h. slipped h t;
    away = λ h. by-clear false h;
  }
