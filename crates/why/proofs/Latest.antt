-- What 20 names: the firing and the part that the code finds in the arrays are those of the record's lines.
-- Assumes an accepted sheet and a sound record.
use mathlib.Core.Path.{◌≡◌, sym, ◌∙◌, ap}
use mathlib.Core.Bool.{Bool, true}
use mathlib.Core.List.{List}
use Prim.Native.Nat.{ℕ, ◌<◌, ◌≤◌}
use native.Mathlib.Omega.{arith}
use lib.Dec.{eqb}
use lib.ListN.{length, get_or}
use borrow.Author.Tests.{eq-eqb, ne_eqb}
use Rattle.net.specs.Limits.{max_bases}
use Rattle.net.specs.Tests.{pick, table}
use Rattle.net.specs.Checks.{clear}
use Rattle.net.specs.Journal.{LiveLine, kind_of, no_line, line_of, line_keys, key_named, refused, act}
use Rattle.net.specs.declared.Key.{Key}
use Rattle.net.proofs.Journal.{Held}
use Rattle.net.proofs.Tables.{length-table}
use Rattle.format.specs.Parts.{bases_of}
use Rattle.format.specs.NetOf.{net_of}
use Rattle.sheet.specs.Checks.{sheet_checks}
use Rattle.sheet.proofs.Accepted.{promised}
use Rattle.words.specs.Sets.{set_of}
use Rattle.firings.specs.Lines.{firing_at, lines_in}
use Rattle.firings.specs.Search.{keys_in, index_of}
use Rattle.firings.specs.declared.Firing.{Firing}
use Rattle.firings.specs.declared.Firings.{Firings}
use Rattle.firings.proofs.Search.{keys-of-lines}
use Rattle.firings.proofs.Lines.{line_at, lines-length, line-at, moved_at, SameLine, wide-line}
use Rattle.sound.specs.Soundness.{sound_in}
use Rattle.sound.proofs.Holds.{sound-journal, few}
use Rattle.sound.proofs.Movers.{sets-low}
use Rattle.sound.proofs.Fits.{run-flags}
use Rattle.session.specs.Records.{held_in, Sound}
use Rattle.session.specs.declared.Record.{Record}
use Rattle.reasons.specs.Reasons.{in_both, later_at, common_at}
use Rattle.net.proofs.Firsts.{first-most}
use Rattle.reasons.proofs.Later.{later-alike, common-at-alike}
use Rattle.reasons.proofs.Built.{CameLater, built-holds}
use Rattle.why.specs.Why.{later_place, later_part, later_by}
use Rattle.why.specs.declared.Reason.TheVariants as Reason

-- kind 2 means the last firing, another kind the one whose key it gives
module _ {X : Type 0} (c : List ℕ) (k : ℕ) (ek : k ≡ kind_of c) (x y : X) where
  pub kind-last : k ≡ 2 → x ≡ pick (eqb (kind_of c) 2) x y
  kind-last h = rw (eq-eqb (kind_of c) 2 (sym ek ∙ h))

  pub kind-key : (k ≡ 2 → ⊥) → y ≡ pick (eqb (kind_of c) 2) x y
  kind-key h = rw (ne_eqb (kind_of c) 2 (λ e. h (ek ∙ e)))

-- the number of a part has one byte
pub part_low : (a b : List Bool) → common_at a b ≤ max_bases
part_low a b =
    let h = first-most (in_both a b) (table max_bases (λ p. p)) in
    let e = length-table max_bases (λ p. p) in
    omega arith

module _ (s : List ℕ) (r : Record) (a : clear (sheet_checks s) ≡ true) (h : sound_in s r.marking r.firings r.given ≡ true) where
  pub journal-held : Held (net_of s) (held_in s r)
  journal-held = sound-journal s r.marking r.firings r.given h

  -- the firing named came later
  pub came : (c : List ℕ) → (act (net_of s) (held_in s r) c).answer ≡ refused 20
      → let k = key_named (held_in s r) c in CameLater (held_in s r).lines (line_of k (held_in s r).lines) (index_of k (line_keys (held_in s r).lines))
  unfolding net_of
  came c = built-holds (net_of s) (held_in s r) c (λ l m.
      let e = run-flags (net_of s) (held_in s r).lines (net_of s).start (held_in s r).marking journal-held.run l m in
      let few = (promised s a).bases.1 in
      omega arith) journal-held.up

module _ (s : List ℕ) (r : Record) (c : List ℕ) (S : Sound s r) where
  abbrev ls : List LiveLine
  ls = (held_in s r).lines

  abbrev named : Key
  named = key_named (held_in s r) c

  abbrev f : Firings
  f = r.firings

  -- sets of as many flags as an array holds have the bases of those of the net
  wide : (j : ℕ) → j < f.live → SameLine (line_at max_bases f j) (line_at (bases_of s) f j)
  wide j h = wide-line max_bases (bases_of s) f (few s r.marking f r.given S.passed) j (sets-low s r.marking f r.given S.passed j h)

  module _ (answer : (act (net_of s) (held_in s r) c).answer ≡ refused 20) (k : Key) (ek : k ≡ named) (i : ℕ) (ei : i ≡ index_of k (keys_in f.live f.keys)) where
    place_is : i ≡ index_of named (line_keys ls)
    place_is = ei ∙ (λ z. index_of (ek z) (keys-of-lines (bases_of s) f z))

    size : length ls ≡ f.live
    size = lines-length (bases_of s) f

    pub live_here : i < f.live
    live_here = let h = (came s r S.passed.accepted S.passed.sound c answer).there in let e = place_is in let z = size in omega arith

    module _ (at : ℕ) (ea : at ≡ later_at (lines_in max_bases f) i) where
      at-is : at ≡ later_place ls named
      at-is = ea ∙ later-alike f.live (line_at max_bases f) (line_at (bases_of s) f) wide i live_here ∙ ap (later_at ls) place_is

      pub later-here : at < f.live
      later-here = let h = (came s r S.passed.accepted S.passed.sound c answer).there in let e = at-is in let z = size in omega arith

      module _ (mine other : Firing) (em : mine ≡ firing_at f.transitions f.keys f.moved i) (eo : other ≡ firing_at f.transitions f.keys f.moved at) (p : ℕ) (ep : p ≡ common_at (set_of max_bases mine.moved) (set_of max_bases other.moved)) where
        part-is : p ≡ later_part ls named
        part-is = ep ∙ (λ z. common_at (set_of max_bases (em z).moved) (set_of max_bases (eo z).moved))
            ∙ common-at-alike (line_at max_bases f i).moved (line_at (bases_of s) f i).moved (line_at max_bases f at).moved (line_at (bases_of s) f at).moved (wide i live_here).moved (wide at later-here).moved
            ∙ (λ z. common_at (sym (moved_at (bases_of s) f i live_here) z) (sym (moved_at (bases_of s) f at later-here) z))
            ∙ (λ z. common_at (get_or ls (place_is z) no_line).moved (get_or ls (at-is z) no_line).moved)

        key-is : other.key ≡ (get_or ls (later_place ls named) no_line).key
        key-is = ap (λ (x : Firing). x.key) eo
            ∙ ap (λ (l : LiveLine). l.key) (sym (line-at (bases_of s) f at later-here))
            ∙ ap (λ (x : ℕ). (get_or ls x no_line).key) at-is

        pub later-is : Reason.Later other.key p ≡ later_by ls named
        later-is = λ z. Reason.Later (key-is z) (part-is z)
