-- The lamps asked of a record: by the journal that it holds, whose commands the record's are.
-- Assumes nothing.
use mathlib.Core.Path.{◌≡◌, refl, sym, ◌∙◌, ap}
use mathlib.Core.Bool.{Bool, true, false, not, ◌&&◌, ◌||◌, and-false}
use mathlib.Core.List.{List, [], ◌∷◌}
use Prim.Native.Nat.{ℕ, zero, suc, ◌<◌, ◌≤◌}
use native.Mathlib.Omega.{arith}
use lib.Dec.{eqb, ltb}
use lib.ListN.{length, get_or, replicate, get_or-eq_default}
use borrow.Author.Tests.{not-true, not-false, eqb-true, eq-eqb, lt-ltb, le-ltb, ltb-true, ltb-false}
use Rattle.causal.specs.Lists.{Mem}
use Rattle.causal.proofs.Tests.{test, both}
use Rattle.net.specs.Limits.{max_bases, max_live}
use Rattle.net.specs.Tests.{pick, all, table}
use Rattle.net.specs.Firing.{in_set}
use Rattle.net.specs.Checks.{Check, check, clear, first}
use Rattle.net.specs.Journal as J
use Rattle.net.specs.Journal.{LiveLine, Journal, Reply, no_line, is_live, line_of, checks, undo_checks, act}
use Rattle.net.specs.Claims.{undo_command}
use Rattle.net.specs.Rules.{net_rule}
use Rattle.net.specs.declared.Key.{Key}
use Rattle.net.proofs.Tests.{and_l, and_r, and_i, all-at, all-i}
use Rattle.net.proofs.Tables.{length-table, get_d-table, get_d-table-all}
use Rattle.net.proofs.Checks.{clear-append}
use Rattle.net.proofs.Keys.{live-line}
use Rattle.net.proofs.Journal.{Held}
use Rattle.net.proofs.Undoing.{act-undoes, undone-clear}
use Rattle.published.specs.Sets.{Iff}
use Rattle.format.specs.NetOf.{net_of}
use Rattle.sheet.specs.Checks.{sheet_checks}
use Rattle.sheet.proofs.Accepted.{promised}
use Rattle.tally.specs.declared.Tally.{Tally}
use Rattle.movers.specs.Lamp.{last_movers, on_top, lamp}
use Rattle.movers.proofs.Lamp.{lamp-says}
use Rattle.sound.proofs.Fits.{run-flags}
use Rattle.commands.specs.Answers.{answer_of, word_of}
use Rattle.commands.specs.declared.Answer.TheVariants.{Undone, Refused}
use Rattle.lamps.specs.Lamps.{flag_at, shown, not_shown}
use Rattle.lamps.specs.declared.Lamps as L
use Rattle.session.specs.Records.{held_in, sound_for}
use Rattle.session.specs.Commands.{record_checks, command_checks, outcome_for, accept_of, refusal}
use Rattle.questions.specs.Lamps.{can_undo, lamps_of}
use Rattle.session.specs.declared.Record.{Record}
use Rattle.session.specs.declared.Outcome.{Outcome}
use Rattle.session.proofs.Steps.{outcome-is}
use Rattle.claims.specs.Lamps.{ComesOff, Lamps}
use Rattle.claims.proofs.Records.{passes-held, answer-is, table_is}

-- an answer that is `undone` has a key
undone-by : (a : J.Answer) → answer_of a ≡ Undone → (i : Key) × (a ≡ J.undone i)
undone-by (J.fired i) e = absurd (let w : 0 ≡ 1 = ap word_of e in let z : ⊥ = omega arith in z)
undone-by (J.undone i) e = (i, refl)
undone-by (J.refused n) e = absurd (let w : 2 ≡ 1 = ap word_of e in let z : ⊥ = omega arith in z)

pub no-refusal : (n : ℕ) → Refused n ≡ Undone → ⊥
no-refusal n e = let w : word_of (Refused n) ≡ word_of Undone = ap word_of e in let z : ⊥ = omega arith in z

none-lit : (n i : ℕ) → get_or (replicate n false) i false ≡ false
none-lit zero i = refl
none-lit (suc n) zero = refl
none-lit (suc n) (suc i) = none-lit n i

module _ (s : List ℕ) (r : Record) where
  abbrev j : Journal
  j = held_in s r

  abbrev ls : List LiveLine
  ls = j.lines

  abbrev lit : Key → Bool
  lit k = lamp max_bases r.movers ls k

  -- none of 1 to 10 holds where the sheet is accepted and the record sound, whatever stands behind them
  parts : (own : List Check) → clear (record_checks s r own) ≡ (clear (sheet_checks s) && (not (not (sound_for s r)) && clear own))
  parts own = clear-append (sheet_checks s) (check 10 (not (sound_for s r)) ∷ own)

  off : (own : List Check) → clear (record_checks s r []) ≡ false → clear (record_checks s r own) ≡ false
  off own h = parts own ∙ go (clear (sheet_checks s)) (not (not (sound_for s r))) (sym (parts []) ∙ h)
    where
      go : (a b : Bool) → (a && (b && true)) ≡ false → (a && (b && clear own)) ≡ false
      go true true e = both false (sym e) refl
      go true false e = refl
      go false b e = refl

  asked : (b : Bool) → clear (record_checks s r []) ≡ b → (k : Key) → can_undo s r k ≡ (b && lit k)
  unfolding can_undo
  asked b e k = ap (λ (x : Bool). x && lit k) e

  given : (b : Bool) → clear (record_checks s r []) ≡ b → lamps_of s r ≡ pick b (shown r.movers ls) (not_shown (first (record_checks s r [])))
  unfolding lamps_of
  given b e = ap (λ (x : Bool). pick x (shown r.movers ls) (not_shown (first (record_checks s r [])))) e

  -- ---- refused

  refuses : clear (record_checks s r []) ≡ false → (t : Tally) (k : Key) → ComesOff s r t k → ⊥
  unfolding outcome_for
  refuses h t k c =
      let own : List Check = checks (net_of s) j (undo_command k) in
      let e : (outcome_for s r (undo_command k)).answer ≡ Refused (first (command_checks s r (undo_command k))) = ap (λ (b : Bool). (pick b (accept_of s r (undo_command k)) (refusal r (first (command_checks s r (undo_command k))))).answer) (off own h) in
      no-refusal _ (sym e ∙ ap (λ (o : Outcome). o.answer) (sym (outcome-is s r t (undo_command k))) ∙ c)

  -- ---- passed

  module _ (h : clear (record_checks s r []) ≡ true) where
    accepted : clear (sheet_checks s) ≡ true
    accepted = and_l (clear (sheet_checks s)) _ (sym (parts []) ∙ h)

    sound : sound_for s r ≡ true
    sound = not-false (sound_for s r) (not-true (not (sound_for s r)) (and_l (not (not (sound_for s r))) true (and_r (clear (sheet_checks s)) _ (sym (parts []) ∙ h))))

    rule : net_rule (net_of s) ≡ true
    rule = (promised s accepted).rule

    held : Held (net_of s) j
    held = passes-held s accepted rule r sound

    movers-are : r.movers ≡ last_movers max_bases ls
    movers-are = table_is s accepted rule r sound

    sizes : (l : LiveLine) → Mem l ls → length l.moved ≤ max_bases
    unfolding net_of
    sizes l m = let a = run-flags (net_of s) ls (net_of s).start j.marking held.run l m in let b = (promised s accepted).bases.1 in omega arith

    pub below : (l : LiveLine) → Mem l ls → (p : ℕ) → in_set l.moved p ≡ true → p < max_bases
    below l m p e = test (ltb p max_bases) (λ q. ltb-true p max_bases q)
        (λ q. let a = ltb-false p max_bases q in let b = sizes l m in both (in_set l.moved p) e (get_or-eq_default l.moved false (let c : length l.moved ≤ p = omega arith in c)))

    lit_is : (k : Key) → lit k ≡ clear (undo_checks j k)
    lit_is k = ap (λ (t : List ℕ). lamp max_bases t ls k) movers-are ∙ lamp-says max_bases j held.up sizes k

    pub can-undo-is : (k : Key) → can_undo s r k ≡ clear (undo_checks (held_in s r) k)
    can-undo-is k = asked true h k ∙ lit_is k

    comes-off : (t : Tally) (k : Key) → lit k ≡ true → ComesOff s r t k
    comes-off t k e = answer-is s accepted rule r sound t (undo_command k) ∙ ap (λ (y : Reply). answer_of y.answer) (act-undoes (net_of s) j k (sym (lit_is k) ∙ e))

    came-off : (t : Tally) (k : Key) → ComesOff s r t k → lit k ≡ true
    came-off t k c =
        let (i, q) = undone-by (act (net_of s) j (undo_command k)).answer (sym (answer-is s accepted rule r sound t (undo_command k)) ∙ c) in
        lit_is k ∙ undone-clear (net_of s) j k i q

    -- the lamp of a live key, by the entries of its own bases
    looks-at : (k : Key) → is_live k ls ≡ true → Iff (lit k ≡ true) ((p : ℕ) → in_set (line_of k ls).moved p ≡ true → get_or r.movers p 0 ≡ k.0)
    looks-at k live = (to, from)
      where
        l : LiveLine
        l = line_of k ls

        mine : Mem (line_of k ls) ls × ((line_of k ls).key.0 ≡ k.0)
        mine = live-line ls k live

        tested : ℕ → Bool
        tested p = not (in_set (line_of k ls).moved p) || eqb (get_or r.movers p 0) (line_of k ls).key.0

        second : (a b : Bool) → a ≡ true → (not a || b) ≡ true → b ≡ true
        second true b e q = q
        second false b e q = both false e refl

        to : lit k ≡ true → (p : ℕ) → in_set (line_of k ls).moved p ≡ true → get_or r.movers p 0 ≡ k.0
        to e p i =
            let low : p < max_bases = below (line_of k ls) mine.0 p i in
            let top : all tested (table max_bases (λ q. q)) ≡ true = and_r (is_live k ls) _ e in
            let passes : tested (get_or (table max_bases (λ q. q)) p 0) ≡ true = all-at tested (table max_bases (λ q. q)) 0 p top (rw length-table low) in
            eqb-true (get_or r.movers p 0) (line_of k ls).key.0 (second (in_set (line_of k ls).moved p) (eqb (get_or r.movers p 0) (line_of k ls).key.0) i (ap tested (sym (get_d-table max_bases (λ (q : ℕ). q) p 0 low)) ∙ passes)) ∙ mine.1

        from : ((p : ℕ) → in_set (line_of k ls).moved p ≡ true → get_or r.movers p 0 ≡ k.0) → lit k ≡ true
        from f = and_i (is_live k ls) _ live (all-i tested (table max_bases (λ q. q)) (λ p _. at p (in_set (line_of k ls).moved p) refl))
          where
            at : (p : ℕ) (b : Bool) → in_set (line_of k ls).moved p ≡ b → (not b || eqb (get_or r.movers p 0) (line_of k ls).key.0) ≡ true
            at p true e = eq-eqb (get_or r.movers p 0) (line_of k ls).key.0 (f p e ∙ sym mine.1)
            at p false e = refl

    -- a flag of all lamps is the lamp of its firing's key
    flag-lit : (i : ℕ) → i < length ls → get_or (shown r.movers ls).lit i false ≡ lit (get_or ls i no_line).key
    flag-lit i b =
        let few = held.few in
        get_d-table max_live (flag_at r.movers ls) i false (omega arith) ∙ ap (λ (x : Bool). x && lit (get_or ls i no_line).key) (lt-ltb i (length ls) b)

  -- ---- no entry but those of the firing's own bases

  only-own : (k : Key) (u : List ℕ) → ((p : ℕ) → in_set (line_of k ls).moved p ≡ true → get_or u p 0 ≡ get_or r.movers p 0) → lamp max_bases u ls k ≡ lit k
  only-own k u h = λ i. is_live k ls && all (λ (p : ℕ). at p (in_set (line_of k ls).moved p) refl i) (table max_bases (λ p. p))
    where
      at : (p : ℕ) (b : Bool) → in_set (line_of k ls).moved p ≡ b
          → (not (in_set (line_of k ls).moved p) || eqb (get_or u p 0) (line_of k ls).key.0) ≡ (not (in_set (line_of k ls).moved p) || eqb (get_or r.movers p 0) (line_of k ls).key.0)
      at p true e = ap (λ (n : ℕ). not (in_set (line_of k ls).moved p) || eqb n (line_of k ls).key.0) (h p e)
      at p false e = ap (λ (b : Bool). not b || eqb (get_or u p 0) (line_of k ls).key.0) e ∙ sym (ap (λ (b : Bool). not b || eqb (get_or r.movers p 0) (line_of k ls).key.0) e)

  -- ---- a refused call, and the flags after the live ones

  dark : (i : ℕ) → clear (record_checks s r []) ≡ false → get_or (lamps_of s r).lit i false ≡ false
  unfolding not_shown
  dark i h = ap (λ (y : L.Lamps). get_or y.lit i false) (given false h) ∙ none-lit max_live i

  after : (i : ℕ) → length ls ≤ i → get_or (shown r.movers ls).lit i false ≡ false
  after i b =
      let q : flag_at r.movers ls i ≡ false = ap (λ (x : Bool). x && lit (get_or ls i no_line).key) (le-ltb i (length ls) b) in
      get_d-table-all max_live (flag_at r.movers ls) false i (λ _. q) ∙ q

  -- ---- all of it

  pub lamps-claimed : (t : Tally) → Lamps s r t
  lamps-claimed t = record {
    says = λ k. test (clear (record_checks s r []))
        (λ h. ((λ e. comes-off h t k (sym (asked true h k) ∙ e)), λ c. asked true h k ∙ came-off h t k c))
        (λ h. ((λ e. both (can_undo s r k) e (asked false h k)), λ c. absurd (refuses h t k c)));
    refused = λ h k. asked false h k;
    dead = λ k d. asked (clear (record_checks s r [])) refl k ∙ ap (λ (b : Bool). clear (record_checks s r []) && (b && on_top max_bases r.movers (line_of k ls))) d ∙ and-false (clear (record_checks s r []));
    looks = λ h k live. let (to, from) = looks-at h k live in ((λ e. to (sym (asked true h k) ∙ e)), λ f. asked true h k ∙ from f);
    only = only-own;
    count = λ h. ap (λ (y : L.Lamps). y.count) (given true h);
    each = λ i b. test (clear (record_checks s r []))
        (λ h. ap (λ (y : L.Lamps). get_or y.lit i false) (given true h) ∙ flag-lit h i b ∙ sym (asked true h (get_or ls i no_line).key))
        (λ h. dark i h ∙ sym (asked false h (get_or ls i no_line).key));
    unused = λ i b. test (clear (record_checks s r []))
        (λ h. ap (λ (y : L.Lamps). get_or y.lit i false) (given true h) ∙ after i b) (λ h. dark i h);
    away = λ h. given false h;
  }
