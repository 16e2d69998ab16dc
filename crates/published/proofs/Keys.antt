-- A firing that 20 does not refuse is its transition's latest, and taking it back gives exactly the history of Definition 7.
-- Assumes that the net meets the sheet's rules, and a journal that commands keep.
use mathlib.Core.Path.{◌≡◌, refl, sym, ◌∙◌, ap, subst}
use mathlib.Core.Bool.{true, false}
use Prim.Native.Nat.{ℕ, ◌<◌, ◌≤◌}
use native.Mathlib.Omega.{arith}
use lib.Dec.{ltb}
use borrow.Author.Tests.{not-false, ltb-true, ltb-false}
use Rattle.causal.specs.Lists.{Mem}
use Rattle.causal.proofs.Tests.{test, both}
use Rattle.net.specs.Net.{Net, arcs_of}
use Rattle.net.specs.Rules.{net_rule}
use Rattle.net.specs.Checks.{clear}
use Rattle.net.specs.Journal.{LiveLine, Journal, is_live, line_of, built_on, undo_checks, undo_reply}
use Rattle.net.specs.declared.Key.{Key}
use Rattle.net.specs.declared.Transition.{Transition}
use Rattle.net.proofs.Checks.{clear-off}
use Rattle.net.proofs.Keys.{one_line, live-line, mem-without, without-mem}
use Rattle.net.proofs.Journal.{Held}
use Rattle.published.specs.Sets.{Iff, Max}
use Rattle.published.specs.Backtracking.{reversed_keys}
use Rattle.published.specs.Sheets.{history_of}
use Rattle.published.proofs.Arcs.{some-entry}
use Rattle.published.proofs.Lines.{built_on-i}
use Rattle.published.proofs.Sessions.{line-listed, entry-in-line}

-- a set has one highest number
pub one-max : (S : ℕ → Type 0) (a b : ℕ) → Max S a → Max S b → a ≡ b
one-max S a b (u, f) (v, g) = let p = f b v in let q = g a u in omega arith

module _ (net : Net) (ok : net_rule net ≡ true) (j : Journal) (H : Held net j) where
  module _ (k : Key) (e : clear (undo_checks j k) ≡ true) where
    pub undo-live : is_live k j.lines ≡ true
    undo-live = not-false (is_live k j.lines) (clear-off (undo_checks j k) e 19)

    pub undo-free : built_on j.lines (line_of k j.lines) ≡ false
    undo-free = clear-off (undo_checks j k) e 20

    pub undo-mem : Mem (line_of k j.lines) j.lines
    undo-mem = (live-line j.lines k undo-live).0

    pub undo-key : (line_of k j.lines).key.0 ≡ k.0
    undo-key = (live-line j.lines k undo-live).1

    -- two firings of one transition have its entries in common, so the latest alone can be taken back
    latest : (l : LiveLine) → Mem l j.lines → l.transition ≡ (line_of k j.lines).transition → l.key.0 ≤ k.0
    latest l m q = test (ltb k.0 l.key.0)
        (λ c.
        let old : LiveLine = line_of k j.lines in
        let later : k.0 < l.key.0 = ltb-true k.0 l.key.0 c in
        let (d, n) = some-entry net ok l.transition (line-listed net ok j H l m) in
        both (built_on j.lines old)
        (built_on-i j.lines old l m (rw undo-key later)
        (d.base, entry-in-line net ok j H old undo-mem d (subst (λ (t : Transition). Mem d (arcs_of net t).entries) q n), entry-in-line net ok j H l m d n))
        undo-free)
        (λ c. ltb-false k.0 l.key.0 c)

    pub undo-latest : Max (history_of j (line_of k j.lines).transition) k.0
    undo-latest = ((line_of k j.lines, undo-mem, refl, undo-key), λ i (l, m, q, d). let a = latest l m q in omega arith)

    reversed-keys-to : (u : Transition) (i : ℕ) → history_of (undo_reply net j k).journal u i → reversed_keys (history_of j) (line_of k j.lines).transition u i
    reversed-keys-to u i (l, m, q, d) =
        let (n, other) = mem-without k j.lines l m in
        ((l, n, q, d), λ (_, x). other (d ∙ one-max (history_of j (line_of k j.lines).transition) i k.0 x undo-latest))

    reversed-keys-from : (u : Transition) (i : ℕ) → reversed_keys (history_of j) (line_of k j.lines).transition u i → history_of (undo_reply net j k).journal u i
    reversed-keys-from u i ((l, m, q, d), out) = (l, without-mem k j.lines l m (λ c. out (same c, subst (Max (history_of j (line_of k j.lines).transition)) (sym c ∙ d) undo-latest)), q, d)
      where
        same : l.key.0 ≡ k.0 → u ≡ (line_of k j.lines).transition
        same c = sym q ∙ ap (λ (x : LiveLine). x.transition) (one_line j.lines H.up l (line_of k j.lines) m undo-mem (c ∙ sym undo-key))

    pub reversed-keys : (u : Transition) (i : ℕ) → Iff (history_of (undo_reply net j k).journal u i) (reversed_keys (history_of j) (line_of k j.lines).transition u i)
    reversed-keys u i = (reversed-keys-to u i, reversed-keys-from u i)
