-- Serials of a session: given once, and never live again after a taking back. By the journal's, whose answers the session's are.
-- Assumes nothing but an accepted sheet.
use mathlib.Core.Path.{◌≡◌, refl, ◌∙◌, ap, subst}
use mathlib.Core.Logic.{inl, inr}
use mathlib.Core.Bool.{true}
use mathlib.Core.List.{List, [], ◌∷◌, ◌++◌, map}
use Prim.Native.Nat.{ℕ}
use native.Mathlib.Omega.{arith}
use Rattle.causal.specs.Lists.{Mem}
use Rattle.net.specs.Checks.{clear}
use Rattle.net.specs.Rules.{net_rule}
use Rattle.net.specs.Journal as J
use Rattle.net.specs.Journal.{Journal, is_live, begin, act, play, answers}
use Rattle.net.specs.Claims.{keys_fired, rises}
use Rattle.net.specs.declared.Key.{Key}
use Rattle.net.proofs.Journal.{begin-held}
use Rattle.net.proofs.Once.{Gone, fired-rise, play-gone, taken_back}
use Rattle.format.specs.NetOf.{net_of}
use Rattle.sheet.specs.Checks.{sheet_checks}
use Rattle.tally.specs.declared.Tally.{Tally}
use Rattle.commands.specs.Answers.{word_of}
use Rattle.runs.proofs.Turns.{play-append}
use Rattle.session.specs.Runs.{Answered, answered}
use Rattle.session.proofs.Steps.{follows-fresh}
use Rattle.claims.specs.Serials.{serials_fired, took_back, Serials}
use Rattle.claims.proofs.Sessions.{holds}

-- ---- answers of the session and of the journal

same-serials : (l : List J.Answer) → serials_fired (map answered l) ≡ keys_fired l
same-serials [] = refl
same-serials (J.fired k ∷ l) = ap (λ (ks : List ℕ). k.0 ∷ ks) (same-serials l)
same-serials (J.undone k ∷ l) = same-serials l
same-serials (J.refused n ∷ l) = same-serials l

word-of : {a b : Answered} → a ≡ b → word_of a.answer ≡ word_of b.answer
word-of e = ap (λ (x : Answered). word_of x.answer) e

pub heard : (a : J.Answer) (k : Key) → took_back k ≡ answered a → J.undone k ≡ a
heard (J.fired i) k e = absurd (let q = word-of e in let z : ⊥ = omega arith in z)
heard (J.undone i) k e = ap (λ (x : Answered). J.undone x.key) e
heard (J.refused n) k e = absurd (let q = word-of e in let z : ⊥ = omega arith in z)

mem-heard : (l : List J.Answer) (k : Key) → Mem (took_back k) (map answered l) → Mem (J.undone k) l
mem-heard [] k m = m
mem-heard (a ∷ l) k (inl e) = inl (heard a k e)
mem-heard (a ∷ l) k (inr m) = inr (mem-heard l k m)

module _ (s : List ℕ) (accepted : clear (sheet_checks s) ≡ true) (ok : net_rule (net_of s) ≡ true) where
  pub serials : (cs : List (List ℕ)) (t : Tally) → Serials s cs t
  serials cs t =
      let y = (follows-fresh s accepted cs t).answers in
      record {
        once = ap (λ (l : List Answered). rises 0 (serials_fired l)) y ∙ ap (rises 0) (same-serials (answers (net_of s) cs (begin (net_of s)))) ∙ fired-rise (net_of s) cs (begin (net_of s));
        gone = λ ds k m.
            let n : Mem (J.undone k) (answers (net_of s) cs (begin (net_of s))) = mem-heard (answers (net_of s) cs (begin (net_of s))) k (subst (λ (l : List Answered). Mem (took_back k) l) y m) in
            let g : Gone k (play (net_of s) cs (begin (net_of s))) = taken_back (net_of s) ok k cs (begin (net_of s)) (begin-held (net_of s) ok) n in
            ap (λ (j : Journal). is_live k j.lines) (holds s accepted ok (cs ++ ds) t ∙ play-append (net_of s) cs ds (begin (net_of s)))
            ∙ (play-gone (net_of s) k ds (play (net_of s) cs (begin (net_of s))) g).0;
      }
