-- A firing in place: one law for each return of the function.
-- Assumes that what is lent passes 1 to 10.
use mathlib.Core.Path.{◌≡◌, refl, sym, ◌∙◌, ap, subst}
use mathlib.Core.Bool.{Bool, true, false, ◌&&◌}
use mathlib.Core.List.{List, [], ◌∷◌, ◌++◌}
use Prim.Native.Nat.{ℕ, suc, ◌+◌, ◌<◌, ◌≤◌}
use native.Mathlib.Omega.{arith}
use native.Mathlib.Numerals.{add-one}
use lib.Dec.{eqb, leb}
use lib.ListN.{length, set}
use borrow.Author.Tests.{le-leb, lt-leb, eq-eqb, ne_eqb}
use Rattle.net.specs.Limits.{max_bases, max_live, max_key}
use Rattle.net.specs.Tests.{pick}
use Rattle.net.specs.Net.{arcs_of}
use Rattle.net.specs.Firing.{moved, fire}
use Rattle.net.specs.Checks.{Check, clear, first}
use Rattle.net.specs.Journal.{LiveLine, Journal, Reply, key, last_given, enable_checks, space_checks, fire_checks, new_line, fire_reply, refuse}
use Rattle.net.specs.declared.Key.{Key}
use Rattle.net.specs.declared.Transition.{Transition}
use Rattle.net.proofs.Tables.{length-table}
use Rattle.net.proofs.Checks.{clear-append}
use Rattle.format.specs.Parts.{bases_of, transitions_of}
use Rattle.format.specs.NetOf.{net_of}
use Rattle.sheet.proofs.Order.{first-append}
use Rattle.words.specs.Sets.{set_of, packed}
use Rattle.marking.specs.Form.{marking_of, laid}
use Rattle.marking.specs.declared.Marking.{Marking}
use Rattle.firings.specs.Lines.{lying, firings_of, pushed}
use Rattle.firings.proofs.Changes.{with-line}
use Rattle.movers.specs.Lamp.{marked}
use Rattle.replaying.proofs.Lines.{enabled-first, enabled-listed}
use Rattle.sound.proofs.Holds.{live-is, firings-are}
use Rattle.firings.specs.declared.Firings.{Firings}
use Rattle.sound.specs.Soundness.{journal_in, Passed, Kept}
use Rattle.commands.specs.Doing.{fire_act, Did, refused_in}
use Rattle.commands.specs.declared.Done.{Done}
use Rattle.commands.specs.declared.Answer.TheVariants.{Fired}
use Rattle.acting.proofs.Movers.{movers-fired}
use Rattle.acting.proofs.Refuses.{refused_did}

module _ (s : List ℕ) (m : Marking) (f : Firings) (g : Key) (ms : List ℕ) (t : Transition) (K : Kept s m f g ms) where
  abbrev P : Passed s m f g
  P = K.passed

  abbrev j : Journal
  j = journal_in (bases_of s) m f g

  abbrev es : List Check
  es = enable_checks (net_of s) j.marking t

  -- the reply, by what the two lists of checks say
  by_first : (a : Bool) (n : ℕ) → clear (fire_checks (net_of s) j t) ≡ a → first (fire_checks (net_of s) j t) ≡ n → fire_act (net_of s) j t ≡ pick a (fire_reply (net_of s) j t) (refuse j n)
  by_first a n e h = λ i. pick (e i) (fire_reply (net_of s) j t) (refuse j (h i))

  clear-is : clear (fire_checks (net_of s) j t) ≡ (eqb (first es) 0 && clear (space_checks j))
  clear-is = clear-append es (space_checks j) ∙ ap (λ (b : Bool). b && clear (space_checks j)) (enabled-first (net_of s) j.marking t)

  first-is : first (fire_checks (net_of s) j t) ≡ pick (eqb (first es) 0) (first (space_checks j)) (first es)
  first-is = first-append es (space_checks j) refl

  refused : (n : ℕ) → clear (fire_checks (net_of s) j t) ≡ false → first (fire_checks (net_of s) j t) ≡ n → (d : Done) → d ≡ refused_in n g → Did (fire_act (net_of s) j t) d m f ms
  refused n c e d q = refused_did s m f g ms K (fire_act (net_of s) j t) n (by_first false n c e) d q

  pub not-enabled : (n : ℕ) → n ≡ first es → (n ≡ 0 → ⊥) → (d : Done) → d ≡ refused_in n g → Did (fire_act (net_of s) j t) d m f ms
  not-enabled n e h =
      let q : eqb (first es) 0 ≡ false = ap (λ (k : ℕ). eqb k 0) (sym e) ∙ ne_eqb n 0 h in
      refused n (clear-is ∙ ap (λ (b : Bool). b && clear (space_checks j)) q) (first-is ∙ ap (λ (b : Bool). pick b (first (space_checks j)) (first es)) q ∙ sym e)

  module _ (n : ℕ) (e : n ≡ first es) (z : n ≡ 0) where
    enabled : eqb (first es) 0 ≡ true
    enabled = ap (λ (k : ℕ). eqb k 0) (sym e) ∙ eq-eqb n 0 z

    clear-space : clear (fire_checks (net_of s) j t) ≡ clear (space_checks j)
    clear-space = clear-is ∙ ap (λ (b : Bool). b && clear (space_checks j)) enabled

    first-space : first (fire_checks (net_of s) j t) ≡ first (space_checks j)
    first-space = first-is ∙ ap (λ (b : Bool). pick b (first (space_checks j)) (first es)) enabled

    pub listed : t.0 < transitions_of s
    listed = enabled-listed s j.marking t (enabled-first (net_of s) j.marking t ∙ enabled)

    pub full : max_live ≤ f.live → (d : Done) → d ≡ refused_in 17 g → Did (fire_act (net_of s) j t) d m f ms
    full h =
        let q : leb max_live (length j.lines) ≡ true = ap (leb max_live) (sym (live-is s m f g P)) ∙ le-leb max_live f.live h in
        refused 17 (clear-space ∙ rw q) (first-space ∙ rw q)

    module _ (room : f.live < max_live) where
      abbrev last : Key
      last = g

      not_full : leb max_live (length j.lines) ≡ false
      not_full = ap (leb max_live) (sym (live-is s m f g P)) ∙ lt-leb max_live f.live room

      pub spent : max_key ≤ last.0 → (d : Done) → d ≡ refused_in 18 g → Did (fire_act (net_of s) j t) d m f ms
      spent h =
          let q : leb max_key (last_given j).0 ≡ true = le-leb max_key last.0 h in
          refused 18 (clear-space ∙ rw (not_full, q)) (first-space ∙ rw (not_full, q))

      -- the live firings with one more, whose set is w
      abbrev more : ℕ → Firings
      more w = lying (f.live + 1) (set f.transitions f.live t.0) (set f.keys f.live (last.0 + 1)) (set f.moved f.live w)

      pub done : last.0 < max_key → (m' : Marking) (w : ℕ) → m' ≡ laid (fire (bases_of s) (arcs_of (net_of s) t) (marking_of (bases_of s) m))
          → w ≡ packed (moved (bases_of s) (arcs_of (net_of s) t) (marking_of (bases_of s) m)) → (f' : Firings) → f' ≡ pushed (record { transition = t.0; key = key (last.0 + 1); moved = w }) f
          → (ms' : List ℕ) → ms' ≡ marked max_bases (set_of max_bases w) (last.0 + 1) ms
          → Did (fire_act (net_of s) j t) (record { answer = Fired; key = key (last.0 + 1); given = key (last.0 + 1) }) m' f' ms'
      unfolding net_of
      done h m' w em ew f' ef ms' et =
          let q : leb max_key (last_given j).0 ≡ false = lt-leb max_key last.0 h in
          let l : LiveLine = new_line (net_of s) j t in
          let k : last.0 + 1 ≡ suc (last_given j).0 = add-one last.0 in
          let size : length j.lines < max_live = (let a = live-is s m f g P in omega arith) in
          let fs : more w ≡ firings_of (j.lines ++ (l ∷ [])) =
          with-line j.lines l f.live t.0 (last.0 + 1) w f.transitions f.keys f.moved size (live-is s m f g P) refl k ew (firings-are s m f g P) in
          let e : fire_act (net_of s) j t ≡ fire_reply (net_of s) j t = by_first true 0 (clear-space ∙ rw (not_full, q)) (first-space ∙ rw (not_full, q)) in
          subst (λ (y : Reply). Did y (record { answer = Fired; key = key (last.0 + 1); given = key (last.0 + 1) }) m' f' ms') (sym e)
          (record { answer = refl; key = ap key k; marking = em; firings = ef ∙ fs; movers = et ∙ movers-fired s m f g ms K l (last.0 + 1) w k ew (length-table (bases_of s) _); given = ap key k })
