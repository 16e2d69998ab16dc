-- What a command does, by what its bytes say.
-- Assumes nothing.
use mathlib.Core.Path.{◌≡◌, refl, sym, ◌∙◌, ap}
use mathlib.Core.Bool.{Bool, true, false, not, ◌&&◌}
use mathlib.Core.List.{List}
use Prim.Native.Nat.{ℕ}
use lib.Dec.{eqb}
use Rattle.net.specs.Tests.{pick}
use Rattle.net.specs.Net.{Net}
use Rattle.net.specs.Checks.{clear, first}
use Rattle.net.specs.Journal.{Journal, Reply, key, kind_of, number_of, cut_short, unreadable, highest_live, fire_checks, undo_checks, fire_reply, undo_reply, refuse, transition_named, act}
use Rattle.commands.specs.Answers.{decoded_of}
use Rattle.commands.specs.Doing.{fire_act, undo_act}
use Rattle.commands.specs.declared.Command.{Command}
use Rattle.commands.specs.declared.Command.TheVariants.{Fire, UndoLast, Undo}
use Rattle.std.specs.Prelude.{Option, Some, None}

abbrev pub commanded : Net → Journal → Command → Reply
commanded net j (Fire t) = fire_act net j t
commanded net j UndoLast = undo_act net j (highest_live j.lines)
commanded net j (Undo k) = undo_act net j k

abbrev pub by_decoded : Net → Journal → Option Command → Reply
by_decoded net j (Some c) = commanded net j c
by_decoded net j None = refuse j 11

pub act-decoded : (net : Net) (j : Journal) (c : List ℕ) → act net j c ≡ pick (cut_short c) (refuse j 21) (by_decoded net j (decoded_of c))
act-decoded net j c = go (cut_short c) (unreadable c) (eqb (kind_of c) 1) (eqb (kind_of c) 2)
  where
    go : (cut bad one two : Bool)
        → pick (not cut && (not bad && clear (pick one (fire_checks net j (transition_named c)) (undo_checks j (pick two (highest_live j.lines) (key (number_of c)))))))
        (pick one (fire_reply net j (transition_named c)) (undo_reply net j (pick two (highest_live j.lines) (key (number_of c)))))
        (refuse j (pick cut 21 (pick bad 11 (first (pick one (fire_checks net j (transition_named c)) (undo_checks j (pick two (highest_live j.lines) (key (number_of c)))))))))
        ≡ pick cut (refuse j 21) (by_decoded net j (pick bad None (Some (pick one (Fire (transition_named c)) (pick two UndoLast (Undo (key (number_of c))))))))
    go true bad one two = refl
    go false true one two = refl
    go false false true two = refl
    go false false false true = refl
    go false false false false = refl

-- ---- one law for each return of the command in place

module _ (net : Net) (j : Journal) (c : List ℕ) where
  pub cut : cut_short c ≡ true → act net j c ≡ refuse j 21
  cut h = act-decoded net j c ∙ ap (λ (b : Bool). pick b (refuse j 21) (by_decoded net j (decoded_of c))) h

  whole : cut_short c ≡ false → act net j c ≡ by_decoded net j (decoded_of c)
  whole h = act-decoded net j c ∙ ap (λ (b : Bool). pick b (refuse j 21) (by_decoded net j (decoded_of c))) h

  pub unread : cut_short c ≡ false → (d : Option Command) → d ≡ None → d ≡ decoded_of c → act net j c ≡ refuse j 11
  unread h d e q = whole h ∙ ap (by_decoded net j) (sym q ∙ e)

  pub given : cut_short c ≡ false → (d : Option Command) (x y : Command) → d ≡ Some x → d ≡ decoded_of c → x ≡ y → act net j c ≡ commanded net j y
  given h d x y e q k = whole h ∙ ap (by_decoded net j) (sym q ∙ e) ∙ ap (commanded net j) k
