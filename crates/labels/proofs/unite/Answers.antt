-- `labels::unite`: the answers to the goals that the check leaves.
use mathlib.Core.Path.{◌≡◌, ap, sym, ◌∙◌}
use mathlib.Core.List.{List}
use Prim.Native.Nat.{ℕ, ◌<◌}
use native.Mathlib.Omega.{arith}
use Rattle.net.specs.Limits.{max_bases}
use Rattle.labels.proofs.Trees.{spans-up, spans-down, spans-stay}
use Rattle.labels.proofs.Roots.{roots_less}
use Rattle.labels.proofs.unite.Goals as goal

pub returns-then-p-q : goal.returns-then-p-q
returns-then-p-q c =
    let (hl, hh) = c.requires.0 in record {
      by_index = λ n k w. omega arith;
      spans = λ bs S. let F = S.forest in
          spans-stay max_bases c.args.l.now c.args.b (hl, hh) bs S (sym (F.up c.args.b.lo hl) ∙ ap S.root c.if-p-q.true ∙ F.up c.args.b.hi hh);
    }

pub returns-then-x-y : goal.returns-then-x-y
returns-then-x-y c =
    let l : List ℕ = c.args.l.now in
    let x : ℕ = c.root-x.result in
    let y : ℕ = c.root-y.result in
    let (ux, tx, rx) = c.root-x.ensures in
    let (uy, ty, ry) = c.root-y.ensures in
    let (hl, hh) = c.requires.0 in
    let lt : x < y = omega arith in record {
      by_index = λ n k w. let a = w.1 in roots_less n l x y (omega arith) lt (omega arith) ty;
      spans = spans-up max_bases l c.args.b (hl, hh) x y (omega arith) tx ty rx ry (omega arith) (omega arith);
    }

pub returns-then-y-x : goal.returns-then-y-x
returns-then-y-x c =
    let l : List ℕ = c.args.l.now in
    let x : ℕ = c.root-x.result in
    let y : ℕ = c.root-y.result in
    let (ux, tx, rx) = c.root-x.ensures in
    let (uy, ty, ry) = c.root-y.ensures in
    let (hl, hh) = c.requires.0 in
    let lt : y < x = omega arith in record {
      by_index = λ n k w. let a = w.0 in roots_less n l y x (omega arith) lt (omega arith) tx;
      spans = spans-down max_bases l c.args.b (hl, hh) x y (omega arith) tx ty rx ry (omega arith) (omega arith);
    }

pub returns : goal.returns
returns c =
    let l : List ℕ = c.args.l.now in
    let x : ℕ = c.root-x.result in
    let y : ℕ = c.root-y.result in
    let (ux, tx, rx) = c.root-x.ensures in
    let (uy, ty, ry) = c.root-y.ensures in
    let (hl, hh) = c.requires.0 in
    let e : x ≡ y = omega arith in record {
      by_index = λ n k w. omega arith;
      spans = λ bs S. spans-stay max_bases l c.args.b (hl, hh) bs S (sym (rx S.root S.forest) ∙ ap S.root e ∙ ry S.root S.forest);
    }
