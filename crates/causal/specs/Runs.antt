-- Forward runs, and the local laws of one step: all that the theory of taking back asks of a model.
-- Definitions only. `Fires s a m z`: the transition a, fired in the state s, is accepted, moves m and gives z.
use Rattle.std.specs.Prelude.{◌≡◌, Bool, true, false, List, [], ◌∷◌}
use Rattle.causal.specs.Reorderings.{Line}

module _ {S A K M : Type 0} (Fires : S → A → M → S → Type 0) where
  -- The lines, fired in this order from s, are each accepted, each moves the bases on its line, and the last gives z.
  -- (01, the session book: the forward run.)
  abbrev pub Run : S → List (Line A K M) → S → Type 0
  Run s [] z = s ≡ z
  Run s (l ∷ ls) z = (s₁ : S) × Fires s l.transition l.moved s₁ × Run s₁ ls z

-- A state is known by its view at each base: `view s p`.
module _ {S M P W : Type 0} (has : M → P → Bool) (view : S → P → W) where
  -- two states look alike on the bases of m
  abbrev pub AgreeOn : M → S → S → Type 0
  AgreeOn m s z = (p : P) → has m p ≡ true → view s p ≡ view z p

  -- two states look alike off the bases of m
  abbrev pub AgreeOff : M → S → S → Type 0
  AgreeOff m s z = (p : P) → has m p ≡ false → view s p ≡ view z p

module _ {S A M P W : Type 0} (has : M → P → Bool) (view : S → P → W) (Good : S → Type 0) (Fires : S → A → M → S → Type 0) (undo : S → A → M → S) where
  -- The local laws of one step. Good states are those that a session can be in.
  pub record Laws : Type 0 where
    -- good states that look alike everywhere are one
    pub ext : (s z : S) → Good s → Good z → ((p : P) → view s p ≡ view z p) → s ≡ z
    -- firing keeps a state good
    pub good : {s z : S} {a : A} {m : M} → Good s → Fires s a m z → Good z
    -- firing changes nothing off the moved bases
    pub frame : {s z : S} {a : A} {m : M} → Good s → Fires s a m z → AgreeOff has view m s z
    -- where the moved bases look the same, the firing is accepted too, and does the same to them
    pub local : {s z s' : S} {a : A} {m : M} → Good s → Good s' → Fires s a m z → AgreeOn has view m s s'
        → (z' : S) × Fires s' a m z' × AgreeOn has view m z z'
    -- where the moved bases look as the firing left them, taking back gives them their old look, and changes nothing else
    pub back : {s z z' : S} {a : A} {m : M} → Good s → Good z' → Fires s a m z → AgreeOn has view m z z'
        → Good (undo z' a m) × AgreeOn has view m s (undo z' a m) × AgreeOff has view m z' (undo z' a m)
