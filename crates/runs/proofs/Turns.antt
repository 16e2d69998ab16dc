-- A list of commands, one command more at a time, as a loop over a position does it.
-- Assumes an accepted sheet and a journal that it can hold.
use mathlib.Core.Path.{◌≡◌, refl, sym, ◌∙◌, ap, subst}
use mathlib.Core.List.{List, [], ◌∷◌, ◌++◌, map, map-append}
use Prim.Native.Nat.{ℕ, suc, ◌+◌}
use native.Mathlib.Nat.{zero-add}
use lib.ListN.{length, set, length-map}
use lib.Seq.{sets}
use Rattle.net.specs.Tests.{table}
use Rattle.net.specs.Net.{Net}
use Rattle.net.specs.Journal as J
use Rattle.net.specs.Journal.{Journal, Reply, act, play, answers}
use Rattle.net.proofs.Tables.{length-table, table_more}
use Rattle.net.proofs.Journal.{Held, play-held}
use Rattle.text.proofs.Writes.{sets-snoc}
use Rattle.format.specs.Parts.{bases_of}
use Rattle.format.specs.NetOf.{net_of}
use Rattle.sheet.proofs.Accepted.{promised}
use Rattle.command_list.specs.Commands.{how_many, command_at, commands_in}
use Rattle.sound.specs.Soundness.{journal_in, Kept}
use Rattle.sound.proofs.Fits.{held_back, held_kept}
use Rattle.sound.proofs.Holds.{held}
use Rattle.tally.specs.Counts.{counted_of}
use Rattle.tally.specs.declared.Tally.{Tally}
use Rattle.marking.specs.declared.Marking.{Marking}
use Rattle.firings.specs.declared.Firings.{Firings}
use Rattle.commands.specs.Answers.{word_of, value_of}
use Rattle.commands.specs.Doing.{Did}
use Rattle.commands.specs.declared.Done.{Done}
use Rattle.runs.specs.declared.Held as Struct
use Rattle.runs.specs.declared.Stepped.{Stepped}
use Rattle.runs.specs.Running.{held_of, performed_of, said_word, said_value, tallied, StepDid, RanOn}

-- ---- one command more

-- commands that follow others
pub play-append : (net : Net) (cs ds : List (List ℕ)) (j : Journal) → play net (cs ++ ds) j ≡ play net ds (play net cs j)
play-append net [] ds j = refl
play-append net (c ∷ cs) ds j = play-append net cs ds (act net j c).journal

answers-more : (net : Net) (cs : List (List ℕ)) (c : List ℕ) (j : Journal) → answers net (cs ++ (c ∷ [])) j ≡ answers net cs j ++ ((act net (play net cs j) c).answer ∷ [])
answers-more net [] c j = refl
answers-more net (d ∷ cs) c j = ap (λ (ys : List J.Answer). (act net j d).answer ∷ ys) (answers-more net cs c (act net j d).journal)

answers-long : (net : Net) (cs : List (List ℕ)) (j : Journal) → length (answers net cs j) ≡ length cs
answers-long net [] j = refl
answers-long net (c ∷ cs) j = ap suc (answers-long net cs (act net j c).journal)

tallied-more : (ys : List J.Answer) (a : J.Answer) (t : Tally) → tallied (ys ++ (a ∷ [])) t ≡ counted_of (tallied ys t) (said_word a)
tallied-more [] a t = refl
tallied-more (b ∷ ys) a t = tallied-more ys a (counted_of t (said_word b))

-- ---- what one command in place did

module _ (y : Reply) (d : Done) (m : Marking) (f : Firings) (ms : List ℕ) (D : Did y d m f ms) where
  -- put together, it is the reply's
  pub performed : record { answer = d.answer; key = d.key; held = record { marking = m; firings = f; movers = ms; given = d.given } } ≡ performed_of y
  performed = λ i. record { answer = D.answer i; key = D.key i; held = record { marking = D.marking i; firings = D.firings i; movers = D.movers i; given = D.given i } }

  -- counted, and its answer as word and value
  pub stepped : (t : Tally) (x : Stepped) → x.word ≡ word_of d.answer → x.value ≡ value_of d.answer d.key → x.tally ≡ counted_of t x.word
      → StepDid y t x (record { marking = m; firings = f; movers = ms; given = d.given })
  stepped t x w v n =
      let word : x.word ≡ said_word y.answer = w ∙ ap word_of D.answer in
      record {
        held_is = λ i. record { marking = D.marking i; firings = D.firings i; movers = D.movers i; given = D.given i };
        tally_is = n ∙ ap (counted_of t) word;
        word_is = word;
        value_is = v ∙ (λ i. value_of (D.answer i) (D.key i));
      }

-- ---- lists of numbers

-- one number more, stored after those of a list
stored : {A : Type 0} (f : A → ℕ) (l : List A) (x : A) (b : List ℕ) (i : ℕ) → length l ≡ i → set (sets b 0 (map f l)) i (f x) ≡ sets b 0 (map f (l ++ (x ∷ [])))
stored f l x b i e =
    ap (λ (k : ℕ). set (sets b 0 (map f l)) k (f x)) (sym (zero-add (length (map f l)) ∙ length-map l f ∙ e)) ∙ sets-snoc (map f l) b 0 (f x) ∙ ap (sets b 0) (sym (map-append f l (x ∷ [])))

-- ---- the run to a position

-- the journal that is held
abbrev pub journal_of : List ℕ → Struct.Held → Journal
journal_of s h = journal_in (bases_of s) h.marking h.firings h.given

-- what a loop has in hand before command i, from what was held at the start
abbrev pub Upto : List ℕ → Struct.Held → List ℕ → Tally → List ℕ → List ℕ → ℕ → Struct.Held → Tally → List ℕ → List ℕ → Type 0
Upto s h₀ b t words₀ values₀ i h u words values = RanOn (net_of s) (journal_of s h₀) (table i (command_at b)) t words₀ values₀ h u words values

module _ (s : List ℕ) (h₀ : Struct.Held) (S : Kept s h₀.marking h₀.firings h₀.given h₀.movers) where
  -- what is held after a list of commands is sound, and is that journal
  holds : (cs : List (List ℕ)) → Held (net_of s) (play (net_of s) cs (journal_of s h₀))
  holds cs = play-held (net_of s) (promised s S.passed.accepted).rule cs (journal_of s h₀) (held s h₀.marking h₀.firings h₀.given S.passed)

  module _ (b : List ℕ) (t : Tally) (words₀ values₀ : List ℕ) where
    pub upto-none : Upto s h₀ b t words₀ values₀ 0 h₀ t words₀ values₀
    upto-none = record {
      held_is = λ i. record { marking = S.passed.laid_out.0 i; firings = S.passed.laid_out.1 i; movers = S.movers i; given = h₀.given };
      tally_is = refl;
      words_are = refl;
      values_are = refl;
    }

    pub upto-kept : (i : ℕ) (h : Struct.Held) (u : Tally) (words values : List ℕ) → Upto s h₀ b t words₀ values₀ i h u words values → Kept s h.marking h.firings h.given h.movers
    upto-kept i h u words values U =
        let cs : List (List ℕ) = table i (command_at b) in
        subst (λ (x : Struct.Held). Kept s x.marking x.firings x.given x.movers) (sym U.held_is) (held_kept s S.passed.accepted (play (net_of s) cs (journal_of s h₀)) (holds cs))

    -- one command more
    pub upto-more : (i : ℕ) (h : Struct.Held) (u : Tally) (words values : List ℕ) → Upto s h₀ b t words₀ values₀ i h u words values
        → (c : List ℕ) → c ≡ command_at b i → (x : Stepped) (next : Struct.Held)
        → StepDid (act (net_of s) (journal_of s h) c) u x next
        → Upto s h₀ b t words₀ values₀ (i + 1) next x.tally (set words i x.word) (set values i x.value)
    upto-more i h u words values U c e x next g =
        let net : Net = net_of s in
        let j : Journal = journal_of s h₀ in
        let cs : List (List ℕ) = table i (command_at b) in
        let ys : List J.Answer = answers net cs j in
        let y : Reply = act net (play net cs j) (command_at b i) in
        let read : journal_of s h ≡ play net cs j = ap (journal_of s) U.held_is ∙ held_back s S.passed.accepted (play net cs j) (holds cs) in
        let same : act net (journal_of s h) c ≡ y = λ k. act net (read k) (e k) in
        let more : cs ++ (command_at b i ∷ []) ≡ table (i + 1) (command_at b) = sym (table_more i (command_at b)) in
        let all : ys ++ (y.answer ∷ []) ≡ answers net (table (i + 1) (command_at b)) j = sym (answers-more net cs (command_at b i) j) ∙ ap (λ (ds : List (List ℕ)). answers net ds j) more in
        let long : length ys ≡ i = answers-long net cs j ∙ length-table i (command_at b) in
        let w : x.word ≡ said_word y.answer = g.word_is ∙ ap (λ (z : Reply). said_word z.answer) same in
        let v : x.value ≡ said_value y.answer = g.value_is ∙ ap (λ (z : Reply). said_value z.answer) same in
        record {
          held_is = g.held_is ∙ ap (λ (z : Reply). held_of z.journal) same ∙ ap held_of (sym (play-append net cs (command_at b i ∷ []) j) ∙ ap (λ (ds : List (List ℕ)). play net ds j) more);
          tally_is = g.tally_is ∙ (λ k. counted_of (U.tally_is k) (said_word (same k).answer)) ∙ sym (tallied-more ys y.answer t) ∙ ap (λ (zs : List J.Answer). tallied zs t) all;
          words_are = (λ k. set (U.words_are k) i (w k)) ∙ stored said_word ys y.answer words₀ i long ∙ ap (λ (zs : List J.Answer). sets words₀ 0 (map said_word zs)) all;
          values_are = (λ k. set (U.values_are k) i (v k)) ∙ stored said_value ys y.answer values₀ i long ∙ ap (λ (zs : List J.Answer). sets values₀ 0 (map said_value zs)) all;
        }

    -- all commands
    pub upto_all : (i : ℕ) (h : Struct.Held) (u : Tally) (words values : List ℕ) → i ≡ how_many b → Upto s h₀ b t words₀ values₀ i h u words values
        → RanOn (net_of s) (journal_of s h₀) (commands_in b) t words₀ values₀ h u words values
    upto_all i h u words values e U = subst (λ (k : ℕ). RanOn (net_of s) (journal_of s h₀) (table k (command_at b)) t words₀ values₀ h u words values) e U
