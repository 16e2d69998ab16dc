-- A taking back in place: one law for each return of the function.
-- Assumes that what is lent passes 1 to 10.
use mathlib.Core.Path.{◌≡◌, refl, sym, ◌∙◌, ap, subst}
use mathlib.Core.Bool.{Bool, true, false, not}
use mathlib.Core.List.{List}
use Prim.Native.Nat.{ℕ, ◌<◌, ◌≤◌}
use native.Mathlib.Omega.{arith}
use lib.ListN.{length, get_or}
use Rattle.net.specs.Limits.{max_bases}
use Rattle.net.specs.Tests.{pick}
use Rattle.net.specs.Checks.{clear, first}
use Rattle.net.specs.Journal.{LiveLine, Journal, Reply, built_on, line_of, undo_checks, undo_reply, refuse, line_keys}
use Rattle.net.specs.declared.Key.{Key}
use Rattle.format.specs.Parts.{bases_of}
use Rattle.format.specs.NetOf.{net_of}
use Rattle.words.specs.Sets.{set_of}
use Rattle.marking.specs.declared.Marking.{Marking}
use Rattle.firings.specs.Search.{keys_in, index_of}
use Rattle.firings.specs.declared.Firings.{Firings}
use Rattle.firings.proofs.Search.{keys-of-lines}
use Rattle.movers.specs.Lamp.{key_at_all, given_back}
use Rattle.sound.proofs.Holds.{live-is}
use Rattle.sound.proofs.Movers.{firsts}
use Rattle.undoing.specs.Back.{UndoneAt}
use Rattle.undoing.proofs.Places.{place-most, place-dead, Found, place_found}
use Rattle.undoing.proofs.Backs.{marking-after, firings-after}
use Rattle.sound.specs.Soundness.{journal_in, Passed, Kept}
use Rattle.commands.specs.Doing.{undo_act, Did, refused_in}
use Rattle.commands.specs.declared.Done.{Done}
use Rattle.commands.specs.declared.Answer.TheVariants.{Undone}
use Rattle.acting.proofs.Movers.{top-line, top-is, movers-undone}
use Rattle.acting.proofs.Refuses.{refused_did}

twice : (b : Bool) → b ≡ not (not b)
twice true = refl
twice false = refl

module _ (s : List ℕ) (m : Marking) (f : Firings) (g : Key) (ms : List ℕ) (k : Key) (K : Kept s m f g ms) where
  abbrev P : Passed s m f g
  P = K.passed

  abbrev j : Journal
  j = journal_in (bases_of s) m f g

  abbrev ls : List LiveLine
  ls = j.lines

  by_first : (a : Bool) (n : ℕ) → clear (undo_checks j k) ≡ a → first (undo_checks j k) ≡ n → undo_act (net_of s) j k ≡ pick a (undo_reply (net_of s) j k) (refuse j n)
  by_first a n e h = λ i. pick (e i) (undo_reply (net_of s) j k) (refuse j (h i))

  live-are : f.live ≡ length ls
  live-are = live-is s m f g P

  module _ (i : ℕ) (ei : i ≡ index_of k (keys_in f.live f.keys)) where
    place_is : i ≡ index_of k (line_keys ls)
    place_is = ei ∙ ap (index_of k) (keys-of-lines (bases_of s) f)

    pub dead : f.live ≤ i → (d : Done) → d ≡ refused_in 19 g → Did (undo_act (net_of s) j k) d m f ms
    dead h =
        let a = live-are in
        let b = place-most k ls in
        let e : index_of k (line_keys ls) ≡ length ls = (let c = place_is in omega arith) in
        refused_did s m f g ms K (undo_act (net_of s) j k) 19 (by_first false 19 (rw (place-dead k ls e)) (rw (place-dead k ls e)))

    module _ (h : i < f.live) where
      found : Found k ls i
      found = rw place_is (place_found k ls (let a = live-are in let c = place_is in omega arith))

      -- the lamp is out where another was built on it
      abbrev lit : Bool
      lit = key_at_all max_bases ms (set_of max_bases (get_or f.moved i 0)) k.0

      built-is : built_on ls (line_of k ls) ≡ not lit
      built-is = twice (built_on ls (line_of k ls)) ∙ ap not (sym (top-line s m f g P i h k found ms ∙ top-is s m f g ms K i h k found))

      pub built : lit ≡ false → (d : Done) → d ≡ refused_in 20 g → Did (undo_act (net_of s) j k) d m f ms
      built e =
          let q : built_on ls (line_of k ls) ≡ true = built-is ∙ ap not e in
          refused_did s m f g ms K (undo_act (net_of s) j k) 20 (by_first false 20 (rw (found.live, q)) (rw (found.live, q)))

      pub done : lit ≡ true → (m' : Marking) (f' : Firings) (ms' : List ℕ) → UndoneAt s m f i m' f' → ms' ≡ given_back max_bases (firsts f max_bases i) (set_of max_bases (get_or f.moved i 0)) ms
          → Did (undo_act (net_of s) j k) (record { answer = Undone; key = k; given = g }) m' f' ms'
      done e m' f' ms' T et =
          let q : built_on ls (line_of k ls) ≡ false = built-is ∙ ap not e in
          let em = marking-after s m f g P i h k found m' f' T in
          let ef = firings-after s m f g P i h k found m' f' T in
          let b : undo_act (net_of s) j k ≡ undo_reply (net_of s) j k = by_first true 0 (rw (found.live, q)) (rw (found.live, q)) in
          subst (λ (y : Reply). Did y (record { answer = Undone; key = k; given = g }) m' f' ms') (sym b)
          (record { answer = refl; key = refl; marking = em; firings = ef; movers = et ∙ movers-undone s m f g ms K i h k found q; given = refl })
