-- A command on a record that passes refusal 10's test: what it does to the journal that the record holds, and that the record
-- handed back passes the test. Nothing else is asked of the record's arrays. Assumes an accepted sheet.
use mathlib.Core.Path.{◌≡◌, refl, ◌∙◌, ap, subst}
use mathlib.Core.Bool.{Bool, true, false}
use mathlib.Core.List.{List}
use Prim.Native.Nat.{ℕ, ◌<◌}
use lib.Dec.{eqb}
use lib.ListN.{length, get_or}
use borrow.Author.Tests.{eqb-true}
use Rattle.net.specs.Limits.{max_bases}
use Rattle.net.specs.Tests.{pick}
use Rattle.net.specs.Rules.{net_rule}
use Rattle.net.specs.Checks.{clear, first}
use Rattle.net.specs.Journal.{Journal, Reply, kind_of, transition_named, key_named, checks, fire_reply, undo_reply, refuse, begin, act}
use Rattle.net.proofs.Tests.{and_l, and_r, same-e}
use Rattle.net.proofs.Tables.{length-table, get_d-table}
use Rattle.net.proofs.Journal.{Held, act-held, begin-held}
use Rattle.format.specs.Parts.{bases_of}
use Rattle.format.specs.NetOf.{net_of}
use Rattle.sheet.specs.Checks.{sheet_checks}
use Rattle.movers.specs.Lamp.{last_mover, last_movers}
use Rattle.movers.proofs.Lamp.{none-moved, last-moved}
use Rattle.sound.specs.Soundness.{sound_in, movers_fit}
use Rattle.sound.proofs.Holds.{sound-journal}
use Rattle.sound.proofs.Refusing.{kept-is}
use Rattle.tally.specs.declared.Tally.{Tally}
use Rattle.session.specs.Records.{held_in, record_of, sound_for}
use Rattle.session.specs.Commands.{fresh_of, refusal, accept_of, perform_of, command_of}
use Rattle.commands.specs.Answers.{answer_of, key_of}
use Rattle.session.specs.declared.Record.{Record}
use Rattle.session.specs.declared.Outcome.{Outcome}
use Rattle.session.proofs.Steps.{sound-performs, outcome-is, held_back, held-sound}
use Rattle.claims.specs.Demands.{LastToMove, Soundness}
use Rattle.claims.proofs.Sessions.{held-runs}

module _ (s : List ℕ) (accepted : clear (sheet_checks s) ≡ true) (ok : net_rule (net_of s) ≡ true) where
  -- the record of a journal that commands keep
  pub journal-passes : (j : Journal) → Held (net_of s) j → sound_for s (record_of j) ≡ true
  journal-passes j H = kept-is s (record_of j).marking (record_of j).firings (record_of j).given (record_of j).movers (held-sound s accepted j H)

  module _ (r : Record) (passes : sound_for s r ≡ true) where
    pub passes-held : Held (net_of s) (held_in s r)
    passes-held = sound-journal s r.marking r.firings r.given (and_l (sound_in s r.marking r.firings r.given) _ passes)

    abbrev j : Journal
    j = held_in s r

    -- the reply of the journal, by whether no check of the command holds
    abbrev reply : List ℕ → Bool → Reply
    reply c b = pick b (pick (eqb (kind_of c) 1) (fire_reply (net_of s) (held_in s r) (transition_named c)) (undo_reply (net_of s) (held_in s r) (key_named (held_in s r) c)))
        (refuse (held_in s r) (first (checks (net_of s) (held_in s r) c)))

    abbrev given : List ℕ → Bool → Outcome
    given c b = pick b (accept_of s r c) (refusal r (first (checks (net_of s) (held_in s r) c)))

    performs : (t : Tally) (c : List ℕ) → (command_of s r t c).outcome ≡ given c (clear (checks (net_of s) j c))
    unfolding perform_of
    performs t c = outcome-is s r t c ∙ sound-performs s accepted r c passes

    replied-held : (c : List ℕ) → clear (checks (net_of s) j c) ≡ true → Held (net_of s) (reply c true).journal
    replied-held c e = subst (λ (b : Bool). Held (net_of s) (reply c b).journal) e (act-held (net_of s) ok j c passes-held)

    pub answer-is : (t : Tally) (c : List ℕ) → (command_of s r t c).outcome.answer ≡ answer_of (act (net_of s) (held_in s r) c).answer
    answer-is t c = ap (λ (o : Outcome). o.answer) (performs t c) ∙ go (clear (checks (net_of s) j c))
      where
        go : (b : Bool) → (given c b).answer ≡ answer_of (reply c b).answer
        go true = refl
        go false = refl

    pub key-is : (t : Tally) (c : List ℕ) → (command_of s r t c).outcome.key ≡ key_of (act (net_of s) (held_in s r) c).answer
    key-is t c = ap (λ (o : Outcome). o.key) (performs t c) ∙ go (clear (checks (net_of s) j c))
      where
        go : (b : Bool) → (given c b).key ≡ key_of (reply c b).answer
        go true = refl
        go false = refl

    pub journal-is : (t : Tally) (c : List ℕ) → held_in s (command_of s r t c).outcome.session ≡ (act (net_of s) (held_in s r) c).journal
    journal-is t c = ap (λ (o : Outcome). held_in s o.session) (performs t c) ∙ go (clear (checks (net_of s) j c)) refl
      where
        go : (b : Bool) → clear (checks (net_of s) j c) ≡ b → held_in s (given c b).session ≡ (reply c b).journal
        go true e = held_back s accepted (reply c true).journal (replied-held c e)
        go false e = refl

    pub passes-after : (t : Tally) (c : List ℕ) → sound_for s (command_of s r t c).outcome.session ≡ true
    passes-after t c = ap (λ (o : Outcome). sound_for s o.session) (performs t c) ∙ go (clear (checks (net_of s) j c)) refl
      where
        go : (b : Bool) → clear (checks (net_of s) j c) ≡ b → sound_for s (given c b).session ≡ true
        go true e = journal-passes (reply c true).journal (replied-held c e)
        go false e = passes

  fresh-passes : sound_for s (fresh_of s) ≡ true
  unfolding fresh_of
  fresh-passes = journal-passes (begin (net_of s)) (begin-held (net_of s) ok)

  -- the table is that of the lines
  module _ (r : Record) (passes : sound_for s r ≡ true) where
    pub table_is : r.movers ≡ last_movers max_bases (held_in s r).lines
    table_is = same-e eqb eqb-true r.movers (last_movers max_bases (held_in s r).lines) (and_r (sound_in s r.marking r.firings r.given) (movers_fit (bases_of s) r.firings r.movers) passes)

    entry-is : (p : ℕ) → p < max_bases → get_or r.movers p 0 ≡ last_mover p (held_in s r).lines
    entry-is p h = ap (λ (l : List ℕ). get_or l p 0) table_is ∙ get_d-table max_bases (λ q. last_mover q (held_in s r).lines) p 0 h

    last-to-move : (p : ℕ) → p < max_bases → LastToMove p (held_in s r).lines (get_or r.movers p 0)
    last-to-move p h = record {
      last = λ l m i after. entry-is p h ∙ last-moved p (held_in s r).lines (passes-held r passes).up l m i after;
      none = λ still. entry-is p h ∙ none-moved p (held_in s r).lines still;
    }

    table-size : length r.movers ≡ max_bases
    table-size = ap length table_is ∙ length-table max_bases (λ q. last_mover q (held_in s r).lines)

  pub soundness : Soundness s
  soundness = record {
    fresh = fresh-passes;
    stays = λ r t c h. passes-after r h t c;
    forward = λ r h t. held-runs s accepted ok (held_in s r) (passes-held r h) t;
    movers = λ r h. last-to-move r h;
    size = λ r h. table-size r h;
  }
