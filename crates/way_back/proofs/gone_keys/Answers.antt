-- `way_back::gone_keys`: the answers to the goals that the check leaves.
use Rattle.std.proofs.Common.{◌≡◌, refl, sym, ap, Bool, not, List, ℕ, suc, ◌+◌, ◌-◌, ◌≤◌, length, get_or, arith, rules}
use Rattle.net.specs.Journal.{LiveLine, key, no_line}
use Rattle.net.specs.declared.Key.{Key}
use Rattle.net.proofs.Tables.{length-table, get_d-table}
use Rattle.firings.specs.Lines.{firing_at, as_line, lines_in}
use Rattle.way_back.specs.Ways.{away}
use Rattle.way_back.proofs.Going.{hand-none, hand-turn, hand-all}
use Rattle.way_back.proofs.gone_keys.Goals as goal
use Rattle.way_back.proofs.gone_keys.Goals.{At-loop-i}

-- what is stored and what is to come are no more than were live
room : (at : At-loop-i) → at.loop-i.count + at.loop-i.i ≤ at.args.before.now.live
room at =
    let h = (at.loop-i.invariant 0).few in
    let b = at.args.before.now in
    let e = length-table b.live (λ j. as_line 0 (firing_at b.transitions b.keys b.moved j)) in
    omega arith

pub loop-i-init : goal.loop-i-init
loop-i-init c = λ n. hand-none (away (lines_in n c.args.after.now)) (lines_in n c.args.before.now) c.args.before.now.live (sym (length-table c.args.before.now.live _)) _ refl

pub offset_bounds-keys-count : goal.offset_bounds-keys-count
offset_bounds-keys-count c =
    let h = room (goal.at.offset_bounds-keys-count c).At-loop-i in
    let r = c.requires.0 in
    omega arith

pub bounds-keys-count : goal.bounds-keys-count
bounds-keys-count c =
    let h = room (goal.at.bounds-keys-count c).At-loop-i in
    let r = c.requires.0 in
    omega arith

pub overflow_add-count : goal.overflow_add-count
overflow_add-count c =
    let h = room (goal.at.overflow_add-count c).At-loop-i in
    let r = c.requires.0 in
    search rules

pub loop-i-preserved : goal.loop-i-preserved
loop-i-preserved c =
    let i : ℕ = c.loop-i.i - 1 in
    let e : c.loop-i.i ≡ suc i = omega arith in
    let b = c.args.before.now in
    let k : Key = key (get_or b.keys i 0) in
    λ n.
    let g : Key → Bool = away (lines_in n c.args.after.now) in
    let ls : List LiveLine = lines_in n b in
    let there : (get_or ls i no_line).key ≡ k = ap (λ (l : LiveLine). l.key) (get_d-table b.live (λ j. as_line n (firing_at b.transitions b.keys b.moved j)) i no_line (omega arith)) in
    let size : length ls ≡ b.live = length-table b.live _ in
    hand-turn g ls i k there c.loop-i.keys c.loop-i.count (omega arith) (rw e at (c.loop-i.invariant n)) c.is_live-here.result (ap not (sym (c.is_live-here.ensures n))) _ c.key_unless.ensures _ c.one_unless-count.ensures.0

pub returns : goal.returns
returns c = λ n. hand-all (away (lines_in n c.args.after.now)) (lines_in n c.args.before.now) c.loop-i.i _ _ (omega arith) (c.loop-i.invariant n)
