-- The journal's reply to a command, as the record shows it: on every record that passes refusal 10's test.
-- Assumes an accepted sheet.
use mathlib.Core.Path.{◌≡◌, refl, sym, ◌∙◌, ap, subst, subst⁻¹}
use mathlib.Core.Logic.{◌⊎◌}
use mathlib.Core.Bool.{Bool, true, false, not, ◌&&◌, ◌||◌}
use mathlib.Core.List.{List}
use Prim.Native.Nat.{ℕ}
use lib.Dec.{eqb}
use borrow.Author.Tests.{eqb-true, not-false}
use Rattle.causal.specs.Lists.{Mem}
use Rattle.causal.proofs.Tests.{both}
use Rattle.net.specs.Tests.{pick}
use Rattle.net.specs.Rules.{net_rule}
use Rattle.net.specs.Checks.{clear, first}
use Rattle.net.specs.Journal.{Journal, Reply, key, kind_of, number_of, highest_live, line_of, transition_named, key_named, read_checks, enable_checks, space_checks, fire_checks, undo_checks, kind_checks, checks, new_line, fire_reply, undo_reply, refuse, act}
use Rattle.net.specs.declared.Key.{Key}
use Rattle.net.proofs.Tests.{and_l, and_i, or-e, or-no-l}
use Rattle.net.proofs.Checks.{clear-off, clear-append}
use Rattle.net.proofs.Journal.{Held, checks-kind}
use Rattle.published.specs.Sheets.{petri_net}
use Rattle.published.proofs.Sessions.{line-listed}
use Rattle.published.proofs.Keys.{undo-mem, undo-key}
use Rattle.format.specs.NetOf.{net_of}
use Rattle.sheet.specs.Checks.{sheet_checks}
use Rattle.tally.specs.declared.Tally.{Tally}
use Rattle.session.specs.Records.{held_in, sound_for}
use Rattle.session.specs.Commands.{command_of}
use Rattle.commands.specs.Answers.{answer_of, key_of}
use Rattle.session.specs.declared.Record.{Record}
use Rattle.commands.specs.declared.Answer.{Answer}
use Rattle.commands.specs.declared.Answer.TheVariants.{Fired, Undone, Refused}
use Rattle.claims.specs.States.{record_after}
use Rattle.claims.proofs.Records.{passes-held, answer-is, key-is, journal-is}

-- ---- answers

abbrev pub is_fired : Answer → Bool
is_fired Fired = true
is_fired Undone = false
is_fired (Refused n) = false

abbrev pub is_undone : Answer → Bool
is_undone Fired = false
is_undone Undone = true
is_undone (Refused n) = false

-- ---- a command on a journal

module _ (s : List ℕ) (j : Journal) (c : List ℕ) where
  abbrev reply : Bool → Bool → Reply
  reply a b = pick a (pick b (fire_reply (net_of s) j (transition_named c)) (undo_reply (net_of s) j (key_named j c))) (refuse j (first (checks (net_of s) j c)))

  reply-is : (a b : Bool) → clear (checks (net_of s) j c) ≡ a → eqb (kind_of c) 1 ≡ b → act (net_of s) j c ≡ reply a b
  reply-is a b p q = ap (λ (x : Bool). reply x (eqb (kind_of c) 1)) p ∙ ap (reply a) q

  fired-clear : answer_of (act (net_of s) j c).answer ≡ Fired → (clear (checks (net_of s) j c) ≡ true) × (eqb (kind_of c) 1 ≡ true)
  fired-clear e = go (clear (checks (net_of s) j c)) (eqb (kind_of c) 1) refl refl e
    where
      go : (a b : Bool) → clear (checks (net_of s) j c) ≡ a → eqb (kind_of c) 1 ≡ b → answer_of (reply a b).answer ≡ Fired → (clear (checks (net_of s) j c) ≡ true) × (eqb (kind_of c) 1 ≡ true)
      go true true p q d = (p, q)
      go true false p q d = both false (ap is_fired d) refl
      go false b p q d = both false (ap is_fired d) refl

  undone-clear : answer_of (act (net_of s) j c).answer ≡ Undone → (clear (checks (net_of s) j c) ≡ true) × (eqb (kind_of c) 1 ≡ false)
  undone-clear e = go (clear (checks (net_of s) j c)) (eqb (kind_of c) 1) refl refl e
    where
      go : (a b : Bool) → clear (checks (net_of s) j c) ≡ a → eqb (kind_of c) 1 ≡ b → answer_of (reply a b).answer ≡ Undone → (clear (checks (net_of s) j c) ≡ true) × (eqb (kind_of c) 1 ≡ false)
      go true true p q d = both false (ap is_undone d) refl
      go true false p q d = (p, q)
      go false b p q d = both false (ap is_undone d) refl

  -- the checks of one kind
  clear-own : clear (read_checks c) ≡ true → clear (kind_checks (net_of s) j c) ≡ true → clear (checks (net_of s) j c) ≡ true
  clear-own p q = clear-append (read_checks c) (kind_checks (net_of s) j c) ∙ and_i (clear (read_checks c)) (clear (kind_checks (net_of s) j c)) p q

  clear-fire : eqb (kind_of c) 1 ≡ true → clear (kind_checks (net_of s) j c) ≡ (clear (enable_checks (net_of s) j.marking (transition_named c)) && clear (space_checks j))
  clear-fire q = ap (λ (b : Bool). clear (pick b (fire_checks (net_of s) j (transition_named c)) (undo_checks j (key_named j c)))) q
      ∙ clear-append (enable_checks (net_of s) j.marking (transition_named c)) (space_checks j)

  clear-undo : eqb (kind_of c) 1 ≡ false → clear (kind_checks (net_of s) j c) ≡ clear (undo_checks j (key_named j c))
  clear-undo q = ap (λ (b : Bool). clear (pick b (fire_checks (net_of s) j (transition_named c)) (undo_checks j (key_named j c)))) q

  -- a command that can be read is of kind 1, 2 or 3
  pub kinds : clear (checks (net_of s) j c) ≡ true → eqb (kind_of c) 1 ≡ false → (eqb (kind_of c) 2 ≡ true) ⊎ (eqb (kind_of c) 3 ≡ true)
  kinds p q =
      let read : clear (read_checks c) ≡ true = and_l (clear (read_checks c)) (clear (kind_checks (net_of s) j c)) (sym (clear-append (read_checks c) (kind_checks (net_of s) j c)) ∙ p) in
      let known : not (eqb (kind_of c) 1 || (eqb (kind_of c) 2 || eqb (kind_of c) 3)) ≡ false = or-no-l _ (eqb (kind_of c) 2 && not (eqb (number_of c) 0)) (clear-off (read_checks c) read 11) in
      or-e (eqb (kind_of c) 2) (eqb (kind_of c) 3) (ap (λ (b : Bool). b || (eqb (kind_of c) 2 || eqb (kind_of c) 3)) (sym q) ∙ not-false _ known)

  -- the key that kinds 2 and 3 mean
  pub not-one : (k : ℕ) → eqb (kind_of c) k ≡ true → eqb k 1 ≡ false → eqb (kind_of c) 1 ≡ false
  not-one k e d = ap (λ (n : ℕ). eqb n 1) (eqb-true (kind_of c) k e) ∙ d

  pub key-two : eqb (kind_of c) 2 ≡ true → key_named j c ≡ highest_live j.lines
  key-two e = ap (λ (b : Bool). pick b (highest_live j.lines) (key (number_of c))) e

  pub key-three : eqb (kind_of c) 3 ≡ true → key_named j c ≡ key (number_of c)
  key-three e = ap (λ (n : ℕ). pick (eqb n 2) (highest_live j.lines) (key (number_of c))) (eqb-true (kind_of c) 3 e)

-- ---- what is known of a command that fires, and of one that takes back the firing of key n

pub record FiredNow (s : List ℕ) (r : Record) (t : Tally) (c : List ℕ) : Type 0 where
  pub enabled : clear (enable_checks (net_of s) (held_in s r).marking (transition_named c)) ≡ true
  pub answer : (command_of s r t c).outcome.answer ≡ Fired
  pub after : held_in s (record_after s r t c) ≡ (fire_reply (net_of s) (held_in s r) (transition_named c)).journal
  pub key : (new_line (net_of s) (held_in s r) (transition_named c)).key ≡ (command_of s r t c).outcome.key

pub record UndoneNow (s : List ℕ) (r : Record) (t : Tally) (c : List ℕ) (n : Key) : Type 0 where
  pub undoable : clear (undo_checks (held_in s r) n) ≡ true
  pub listed : (petri_net (net_of s)).is_transition (line_of n (held_in s r).lines).transition
  pub answer : (command_of s r t c).outcome.answer ≡ Undone
  pub after : held_in s (record_after s r t c) ≡ (undo_reply (net_of s) (held_in s r) n).journal
  pub live : Mem (line_of n (held_in s r).lines) (held_in s r).lines
  pub own : (line_of n (held_in s r).lines).key ≡ n
  pub key : n ≡ (command_of s r t c).outcome.key

module _ (s : List ℕ) (accepted : clear (sheet_checks s) ≡ true) (ok : net_rule (net_of s) ≡ true) (r : Record) (passes : sound_for s r ≡ true) where
  abbrev j : Journal
  j = held_in s r

  H : Held (net_of s) (held_in s r)
  H = passes-held s accepted ok r passes

  answers-as : (t : Tally) (c : List ℕ) → (command_of s r t c).outcome.answer ≡ answer_of (act (net_of s) (held_in s r) c).answer
  answers-as = answer-is s accepted ok r passes

  answer-by : (t : Tally) (c : List ℕ) (y : Reply) → act (net_of s) j c ≡ y → (command_of s r t c).outcome.answer ≡ answer_of y.answer
  answer-by t c y e = answers-as t c ∙ ap (λ (x : Reply). answer_of x.answer) e

  -- what the record holds after a command, and its key, by the journal's reply
  journal-by : (t : Tally) (c : List ℕ) (y : Reply) → act (net_of s) j c ≡ y → held_in s (command_of s r t c).outcome.session ≡ y.journal
  journal-by t c y e = journal-is s accepted ok r passes t c ∙ ap (λ (x : Reply). x.journal) e

  key-by : (t : Tally) (c : List ℕ) (y : Reply) → act (net_of s) j c ≡ y → key_of y.answer ≡ (command_of s r t c).outcome.key
  key-by t c y e = sym (key-is s accepted ok r passes t c ∙ ap (λ (x : Reply). key_of x.answer) e)

  -- kind 1
  fired-now : (t : Tally) (c : List ℕ) → clear (checks (net_of s) j c) ≡ true → eqb (kind_of c) 1 ≡ true → FiredNow s r t c
  fired-now t c p q =
      let y : act (net_of s) j c ≡ fire_reply (net_of s) j (transition_named c) = reply-is s j c true true p q in
      record {
        enabled = and_l _ (clear (space_checks j)) (sym (clear-fire s j c q) ∙ checks-kind (net_of s) j c p);
        answer = answer-by t c (fire_reply (net_of s) j (transition_named c)) y;
        after = journal-by t c (fire_reply (net_of s) j (transition_named c)) y;
        key = key-by t c (fire_reply (net_of s) j (transition_named c)) y;
      }

  pub fires-if : (t : Tally) (c : List ℕ) → clear (read_checks c) ≡ true → eqb (kind_of c) 1 ≡ true → clear (space_checks (held_in s r)) ≡ true
      → clear (enable_checks (net_of s) (held_in s r).marking (transition_named c)) ≡ true → FiredNow s r t c
  fires-if t c read one space e =
      fired-now t c (clear-own s j c read (clear-fire s j c one ∙ and_i (clear (enable_checks (net_of s) j.marking (transition_named c))) (clear (space_checks j)) e space)) one

  pub fired-only : (t : Tally) (c : List ℕ) → (command_of s r t c).outcome.answer ≡ Fired → (eqb (kind_of c) 1 ≡ true) × FiredNow s r t c
  fired-only t c a = let (p, q) = fired-clear s j c (sym (answers-as t c) ∙ a) in (q, fired-now t c p q)

  -- kinds 2 and 3
  undone-now : (t : Tally) (c : List ℕ) → clear (checks (net_of s) j c) ≡ true → eqb (kind_of c) 1 ≡ false → UndoneNow s r t c (key_named (held_in s r) c)
  undone-now t c p q =
      let n : Key = key_named j c in
      let e : clear (undo_checks j n) ≡ true = sym (clear-undo s j c q) ∙ checks-kind (net_of s) j c p in
      let m = undo-mem (net_of s) ok j H n e in
      let y : act (net_of s) j c ≡ undo_reply (net_of s) j n = reply-is s j c true false p q in
      record {
        undoable = e;
        listed = line-listed (net_of s) ok j H (line_of n j.lines) m;
        answer = answer-by t c (undo_reply (net_of s) j n) y;
        after = journal-by t c (undo_reply (net_of s) j n) y;
        live = m;
        own = λ i. record { 0 = undo-key (net_of s) ok j H n e i };
        key = key-by t c (undo_reply (net_of s) j n) y;
      }

  -- the firing of a key that neither 19 nor 20 refuses
  pub undoes-if : (t : Tally) (c : List ℕ) (k : Key) → clear (read_checks c) ≡ true → eqb (kind_of c) 1 ≡ false → key_named (held_in s r) c ≡ k
      → clear (undo_checks (held_in s r) k) ≡ true → UndoneNow s r t c k
  undoes-if t c k read q same e =
      let e' : clear (undo_checks j (key_named j c)) ≡ true = subst⁻¹ (λ (x : Key). clear (undo_checks j x) ≡ true) same e in
      subst (UndoneNow s r t c) same (undone-now t c (clear-own s j c read (clear-undo s j c q ∙ e')) q)

  pub undone-only : (t : Tally) (c : List ℕ) (k : Key) → key_named (held_in s r) c ≡ k → (command_of s r t c).outcome.answer ≡ Undone → UndoneNow s r t c k
  undone-only t c k same a = let (p, q) = undone-clear s j c (sym (answers-as t c) ∙ a) in subst (UndoneNow s r t c) same (undone-now t c p q)

  pub undone-kinds : (t : Tally) (c : List ℕ) → (command_of s r t c).outcome.answer ≡ Undone → (eqb (kind_of c) 2 ≡ true) ⊎ (eqb (kind_of c) 3 ≡ true)
  undone-kinds t c a = let (p, q) = undone-clear s j c (sym (answers-as t c) ∙ a) in kinds s j c p q
