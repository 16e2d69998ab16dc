-- The end of the search: 27, 28, or the keys of the firings that went.
-- Assumes what is held passes 1 to 10.
use mathlib.Core.Path.{◌≡◌, refl, sym, ◌∙◌, ap}
use mathlib.Core.Bool.{Bool, true, false, not, ◌&&◌}
use mathlib.Core.List.{List}
use Prim.Native.Nat.{ℕ}
use lib.Dec.{eqb}
use lib.ListN.{length}
use borrow.Author.Tests.{not-false, eqb-true, eq-eqb, ne_eqb}
use Rattle.net.specs.Tests.{pick, any}
use Rattle.net.specs.Journal.{Journal}
use Rattle.net.specs.declared.Key.{Key}
use Rattle.net.proofs.Tests.{or-no-l}
use Rattle.format.specs.Parts.{bases_of, places_of}
use Rattle.format.specs.NetOf.{net_of}
use Rattle.layout.specs.Layout as L
use Rattle.layout.specs.Layout.{no_such_place, unfit_layout}
use Rattle.marking.specs.declared.Marking.{Marking}
use Rattle.firings.specs.Lines.{lines_in}
use Rattle.firings.specs.declared.Firings.{Firings}
use Rattle.sound.specs.Soundness.{journal_in, Passed}
use Rattle.sound.proofs.Holds.{live-is}
use Rattle.way_back.specs.Ways.{descending, wrong_base, retreat, retreated, no_way, away, way_back}
use Rattle.way_back.specs.Answer.{way_of, no_way_back, way_from}
use Rattle.way_back.specs.Search.{Searched}
use Rattle.way_back.proofs.Turning.{wrong-held}

module _ (s w : List ℕ) (m : Marking) (f : Firings) where
  abbrev j : Key → Journal
  j k = journal_in (bases_of s) m f k

  -- what is given, by what the two tests say
  by_tests : (k : Key) (a b : Bool) → unfit_layout (net_of s).bases (net_of s).places w ≡ a → no_way (net_of s) w (j k) ≡ b
      → way_from (net_of s) w (j k) ≡ pick (not a && (not b && true)) (way_of (way_back (net_of s) w (j k))) (no_way_back (pick a 27 (pick b 28 0)))
  unfolding way_from
  by_tests k a b e d = λ i. pick (not (e i) && (not (d i) && true)) (way_of (way_back (net_of s) w (j k))) (no_way_back (pick (e i) 27 (pick (d i) 28 0)))

  net-unfit : unfit_layout (bases_of s) (places_of s) w ≡ unfit_layout (net_of s).bases (net_of s).places w
  unfolding net_of
  net-unfit = refl

  net-bases : (net_of s).bases ≡ bases_of s
  unfolding net_of
  net-bases = refl

  pub not-fit : (u : Bool) → u ≡ unfit_layout (bases_of s) (places_of s) w → u ≡ true → (k : Key) → no_way_back 27 ≡ way_from (net_of s) w (j k)
  not-fit u e h k = sym (by_tests k true (no_way (net_of s) w (j k)) (sym net-unfit ∙ sym e ∙ h) refl)

  module _ (u : Bool) (eu : u ≡ unfit_layout (bases_of s) (places_of s) w) (hu : u ≡ false) where
    fit : unfit_layout (bases_of s) (places_of s) w ≡ false
    fit = sym eu ∙ hu

    pub fits : length w ≡ bases_of s
    fits = eqb-true (length w) (bases_of s) (not-false _ (or-no-l (not (eqb (length w) (bases_of s))) (any (no_such_place (places_of s)) w) fit))

    module _ (m' : Marking) (f' : Firings) (S : Searched s w m f f.live m' f' 0) (k : Key) (P : Passed s m f k) where
      -- what is left is what the search leaves
      ended : journal_in (bases_of s) m' f' k ≡ retreated (net_of s) w (j k)
      ended = S.same k P ∙ ap (λ (n : ℕ). retreat (net_of s) w n (j k)) (live-is s m f k P)

      module _ (x : ℕ) (ex : x ≡ L.wrong_base (bases_of s) w m'.places) where
        wrong : x ≡ wrong_base (net_of s) w (retreated (net_of s) w (j k)).marking
        wrong = ex ∙ wrong-held s w m' f' k ∙ ap (λ (i : Journal). wrong_base (net_of s) w i.marking) ended

        pub no-way-left : (x ≡ bases_of s → ⊥) → no_way_back 28 ≡ way_from (net_of s) w (j k)
        no-way-left h =
            let e : no_way (net_of s) w (j k) ≡ true = ap not ((λ i. eqb (sym wrong i) (net-bases i)) ∙ ne_eqb x (bases_of s) h) in
            sym (by_tests k false true (sym net-unfit ∙ fit) e)

        pub way-found : x ≡ bases_of s → way_of (descending (away (lines_in (bases_of s) f')) (lines_in (bases_of s) f)) ≡ way_from (net_of s) w (j k)
        way-found h =
            let e : no_way (net_of s) w (j k) ≡ false = ap not ((λ i. eqb (sym wrong i) (net-bases i)) ∙ eq-eqb x (bases_of s) h) in
            ap (λ (i : Journal). way_of (descending (away i.lines) (j k).lines)) ended ∙ sym (by_tests k false false (sym net-unfit ∙ fit) e)
