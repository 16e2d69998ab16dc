-- The pages of every list of firing records; the premise is met by the live firings of document 01's case M4 on sheet B.
-- Assumes nothing.
use mathlib.Core.Path.{◌≡◌, refl}
use mathlib.Core.Bool.{Bool, true, ◌&&◌}
use mathlib.Core.List.{List, [], ◌∷◌, map}
use Prim.Native.Nat.{ℕ, ◌≤◌}
use native.Mathlib.Omega.{arith}
use lib.Dec.{ltb, leb}
use borrow.Author.Tests.{le-leb}
use Rattle.net.specs.Limits.{max_bases}
use Rattle.net.specs.Tests.{all}
use Rattle.net.proofs.Tests.{and_l, and_r, and_i}
use Rattle.bonds.proofs.Fill.{count-le}
use Rattle.words.proofs.Bits.{set-size}
use Rattle.words.specs.Sets.{set_of, size_of}
use Rattle.firings.specs.declared.Firing.{Firing}
use Rattle.page_lines.specs.Claims.{holdable}
use Rattle.page_lines.proofs.Claims.{page-fits, pages-hold, printed-whole, away}
use Rattle.page_lines.specs.Page.{row}
use Rattle.page.specs.Rows.{row_of}
use Rattle.net.specs.Journal.{key}
use Rattle.claims.specs.Pages.{in_bytes, Pages}

-- no more parts move than a sheet has
moved-most : (w : ℕ) → size_of (set_of max_bases w) ≤ max_bases
moved-most w =
    let a = count-le (λ (b : Bool). b) (set_of max_bases w) in
    let b = set-size max_bases w in
    omega arith

row-holds : (f : Firing) → in_bytes f ≡ true → holdable (row_of f) ≡ true
row-holds f h =
    let s = ltb f.key.0 65536 in
    let t = ltb f.transition 256 in
    let m = leb (size_of (set_of max_bases f.moved)) max_bases in
    and_i s (t && m) (and_l s t h) (and_i t m (and_r s t h) (le-leb (size_of (set_of max_bases f.moved)) max_bases (moved-most f.moved)))

rows-hold : (fs : List Firing) → all in_bytes fs ≡ true → all holdable (map row_of fs) ≡ true
rows-hold [] h = refl
rows-hold (f ∷ fs) h =
    and_i (holdable (row_of f)) (all holdable (map row_of fs)) (row-holds f (and_l (in_bytes f) (all in_bytes fs) h)) (rows-hold fs (and_r (in_bytes f) (all in_bytes fs) h))

pub pages : (fs : List Firing) → Pages fs
pages fs = record { fits = λ h k. page-fits (map row_of fs) k (rows-hold fs h); whole = λ h k b. printed-whole (map row_of fs) k b (rows-hold fs h); away = away (map row_of fs); holds = pages-hold (map row_of fs) }

-- steps 0, 1 and 2 of sheet B, with what they moved: 0, 2, 3; the same; 1
abbrev after_m4 : List Firing
after_m4 = record { transition = 0; key = key 1; moved = 13 } ∷ record { transition = 1; key = key 2; moved = 13 } ∷ record { transition = 2; key = key 3; moved = 2 } ∷ []

pub rows_m4 : map row_of after_m4 ≡ row 1 0 3 ∷ row 2 1 3 ∷ row 3 2 1 ∷ []
unfolding set_of
rows_m4 = refl

pub in_bytes_m4 : all in_bytes after_m4 ≡ true
in_bytes_m4 = refl
