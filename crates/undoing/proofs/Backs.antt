-- A taking back at a place of what a record holds: what the engine's calls give, and that it is the journal's.
-- Assumes that the record passes 1 to 10.
use mathlib.Core.Path.{◌≡◌, sym, ◌∙◌, ap, subst}
use mathlib.Core.Logic.{inl, inr}
use mathlib.Core.Bool.{true}
use mathlib.Core.List.{List, [], ◌∷◌, ◌++◌}
use Prim.Native.Nat.{ℕ, ◌<◌, ◌≤◌}
use native.Mathlib.Omega.{arith}
use lib.ListN.{length}
use Rattle.causal.specs.Lists.{Mem}
use Rattle.causal.specs.Runs.{Run}
use Rattle.net.specs.Limits.{max_live}
use Rattle.net.specs.Net as Net
use Rattle.net.specs.Net.{Net, arcs_of}
use Rattle.net.specs.Firing.{undo, Fires}
use Rattle.net.specs.Checks.{clear}
use Rattle.net.specs.Journal as J
use Rattle.net.specs.Journal.{LiveLine, Journal, transition, without, undo_checks, undo_reply, no_line}
use Rattle.net.specs.declared.Key.{Key}
use Rattle.net.proofs.Tables.{get_d-table}
use Rattle.net.proofs.Keys.{Up, without-split}
use Rattle.net.proofs.Journal.{Held, undo-held}
use Rattle.format.specs.Parts.{bases_of, transitions_of}
use Rattle.format.specs.NetOf.{net_of}
use Rattle.words.specs.Sets.{set_of}
use Rattle.marking.specs.Form.{marking_of, laid}
use Rattle.marking.specs.declared.Marking.{Marking}
use Rattle.firings.specs.Lines.{firing_at, as_line, firings_of, closed_up}
use Rattle.firings.specs.declared.Firing.{Firing}
use Rattle.firings.specs.declared.Firings.{Firings}
use Rattle.firings.proofs.Laid.{mem-at}
use Rattle.firings.proofs.Changes.{without-line}
use Rattle.steps.proofs.Arcs.{count-of}
use Rattle.sound.specs.Soundness.{journal_in, Passed}
use Rattle.sound.proofs.Holds.{rule, held, live-is, firings-are}
use Rattle.sound.proofs.Fits.{held_back, held-passed}
use Rattle.undoing.specs.Back.{line_at, UndoneAt}
use Rattle.undoing.proofs.Places.{Found, line-found}

-- each line of a run is of a transition on the sheet
run-listed : (net : Net) (ls : List LiveLine) (a z : Net.Marking) → Run (Fires net) a ls z → (l : LiveLine) → Mem l ls → l.transition.0 < length net.transitions
run-listed net [] a z r l m = absurd m
run-listed net (k ∷ ls) a z r l (inl e) = rw e r.1.listed
run-listed net (k ∷ ls) a z r l (inr m) = run-listed net ls r.0 z r.2 l m

module _ (s : List ℕ) (m : Marking) (f : Firings) (g : Key) (P : Passed s m f g) where
  abbrev j : Journal
  j = journal_in (bases_of s) m f g

  abbrev ls : List LiveLine
  ls = j.lines

  module _ (i : ℕ) (h : i < f.live) where
    -- ---- the firing at i

    abbrev at : Firing
    at = firing_at f.transitions f.keys f.moved i

    line-is : as_line (bases_of s) at ≡ line_at s f i
    line-is = sym (get_d-table f.live (λ x. as_line (bases_of s) (firing_at f.transitions f.keys f.moved x)) i no_line h)

    below : i < length ls
    below = let e = live-is s m f g P in omega arith

    pub listed : at.transition < transitions_of s
    listed = rw (← count-of s) (subst (λ (x : LiveLine). x.transition.0 < length (net_of s).transitions) (sym line-is)
        (run-listed (net_of s) ls (net_of s).start j.marking (held s m f g P).run (line_at s f i) (mem-at ls no_line i below)))

    pub found_at : Found (line_at s f i).key ls i
    found_at = line-found ls (held s m f g P).up i below

    -- ---- the firing of key k, found at i

    module _ (k : Key) (F : Found k ls i) where
      abbrev l : LiveLine
      l = J.line_of k ls

      abbrev xs : List LiveLine
      xs = F.before

      abbrev ys : List LiveLine
      ys = F.after

      up : Up (xs ++ l ∷ ys)
      up = subst (λ (x : List LiveLine). Up x) F.split (held s m f g P).up

      firings-split : f ≡ firings_of (xs ++ l ∷ ys)
      firings-split = firings-are s m f g P ∙ ap firings_of F.split

      -- the arrays closed up are those of the other lines
      gone : closed_up i f ≡ firings_of (without k ls)
      gone =
          let left : without k ls ≡ xs ++ ys = ap (without k) F.split ∙ without-split k l xs ys F.key up in
          let room : length (xs ++ l ∷ ys) ≤ max_live = (let a = (held s m f g P).few in let c = ap length F.split in omega arith) in
          (λ x. closed_up (sym F.place x) (firings-split x)) ∙ without-line l xs ys room ∙ ap firings_of (sym left)

      -- ---- after it

      key-is : (line_at s f i).key ≡ k
      key-is = ap (λ (x : LiveLine). x.key) (F.line no_line) ∙ (λ x. record { 0 = F.key x })

      module _ (m' : Marking) (f' : Firings) (T : UndoneAt s m f i m' f') where
        abbrev after : Journal
        after = (undo_reply (net_of s) j k).journal

        pub marking-after : m' ≡ laid after.marking
        unfolding net_of
        marking-after = T.marking ∙ ap (λ (x : LiveLine). laid (undo (bases_of s) (arcs_of (net_of s) x.transition) x.moved j.marking)) (F.line no_line)

        pub firings-after : f' ≡ firings_of after.lines
        firings-after = T.firings ∙ ap (λ (x : Key). firings_of (without x ls)) key-is

        module _ (clear-k : clear (undo_checks j k) ≡ true) where
          after-held : Held (net_of s) after
          after-held = undo-held (net_of s) (rule s m f g P) j k clear-k (held s m f g P)

          pub back-passed : Passed s m' f' g
          back-passed = rw (marking-after, firings-after) (held-passed s P.accepted after after-held)

          pub back-journal : journal_in (bases_of s) m' f' g ≡ after
          back-journal = (λ x. journal_in (bases_of s) (marking-after x) (firings-after x) g) ∙ held_back s P.accepted after after-held

    -- what undoing and closing up give is the taking back of the line at i
    pub taken_back : (m' : Marking) (f' : Firings) → m' ≡ laid (undo (bases_of s) (arcs_of (net_of s) (transition at.transition)) (set_of (bases_of s) at.moved) (marking_of (bases_of s) m))
        → f' ≡ closed_up i f → UndoneAt s m f i m' f'
    taken_back m' f' em ef = record {
      marking = em ∙ ap (λ (x : LiveLine). laid (undo (bases_of s) (arcs_of (net_of s) x.transition) x.moved j.marking)) line-is;
      firings = ef ∙ gone (line_at s f i).key found_at;
    }
