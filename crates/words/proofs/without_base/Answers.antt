-- `words::without_base`: the answers to the goals that the check leaves.
use mathlib.Core.Path.{ap, sym, subst, ◌∙◌}
use Prim.Native.Nat.{ℕ, ◌<◌}
use lib.Bits.{bit_and, bit_xor}
use borrow.Author.Rules.{rules}
use Rattle.words.specs.Sets.{set_of}
use Rattle.words.proofs.Bits.{less-of, less-word, shifted}
use Rattle.net.specs.Limits.{max_bases}
use Rattle.words.proofs.without_base.Goals as goal

pub returns : goal.returns
returns c =
    let w : ℕ = c.args.w in
    let p : ℕ = c.args.p in
    let e = shifted p (search rules) in record {
      result_value = ap (λ (x : ℕ). set_of max_bases (bit_xor w (bit_and w x))) e ∙ less-of max_bases w p;
      upper_bound = λ h. subst (λ (x : ℕ). bit_xor w (bit_and w x) < w) (sym e) (less-word max_bases w p h);
    }
