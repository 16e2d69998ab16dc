-- Laws of membership and order in a list: either of two lists, an element more, an element less.
-- Assumes nothing.
use mathlib.Core.Path.{◌≡◌, refl, sym, ◌∙◌, ap}
use mathlib.Core.Logic.{◌⊎◌, inl, inr, ◌≢◌}
use mathlib.Core.List.{List, [], ◌∷◌, ◌++◌}
use Rattle.causal.specs.Lists.{Mem, Before, Distinct}

module _ {X : Type 0} where
  pub mem-skip : (m : X) (xs ys : List X) (a : X) → Mem a (xs ++ ys) → Mem a (xs ++ m ∷ ys)
  mem-skip m [] ys a h = inr h
  mem-skip m (x ∷ xs) ys a (inl e) = inl e
  mem-skip m (x ∷ xs) ys a (inr h) = inr (mem-skip m xs ys a h)

  pub mem-unskip : (m : X) (xs ys : List X) (a : X) → Mem a (xs ++ m ∷ ys) → (a ≡ m) ⊎ Mem a (xs ++ ys)
  mem-unskip m [] ys a h = h
  mem-unskip m (x ∷ xs) ys a (inl e) = inr (inl e)
  mem-unskip m (x ∷ xs) ys a (inr h) = elim (mem-unskip m xs ys a h) [ inl e ↦ inl e | inr k ↦ inr (inr k) ]

  pub mem-mid : (m : X) (xs ys : List X) → Mem m (xs ++ m ∷ ys)
  mem-mid m [] ys = inl refl
  mem-mid m (x ∷ xs) ys = inr (mem-mid m xs ys)

  pub mem-left : (xs ys : List X) (a : X) → Mem a xs → Mem a (xs ++ ys)
  mem-left [] ys a h = absurd h
  mem-left (x ∷ xs) ys a (inl e) = inl e
  mem-left (x ∷ xs) ys a (inr h) = inr (mem-left xs ys a h)

  pub mem-right : (xs ys : List X) (a : X) → Mem a ys → Mem a (xs ++ ys)
  mem-right [] ys a h = h
  mem-right (x ∷ xs) ys a h = inr (mem-right xs ys a h)

  pub mem-split : (a : X) (xs : List X) → Mem a xs → (ys : List X) × (zs : List X) × (xs ≡ ys ++ a ∷ zs)
  mem-split a [] h = absurd h
  mem-split a (x ∷ xs) (inl e) = ([], xs, λ i. sym e i ∷ xs)
  mem-split a (x ∷ xs) (inr h) = let (ys, zs, e) = mem-split a xs h in (x ∷ ys, zs, λ i. x ∷ e i)

  pub before-mem : (xs : List X) (a b : X) → Before a b xs → Mem a xs
  before-mem [] a b h = h
  before-mem (x ∷ xs) a b (inl e) = inl e.0
  before-mem (x ∷ xs) a b (inr h) = inr (before-mem xs a b h)

  pub before-mem' : (xs : List X) (a b : X) → Before a b xs → Mem b xs
  before-mem' [] a b h = h
  before-mem' (x ∷ xs) a b (inl e) = inr e.1
  before-mem' (x ∷ xs) a b (inr h) = inr (before-mem' xs a b h)

  pub before-mid : (m : X) (xs ys : List X) (a : X) → Mem a xs → Before a m (xs ++ m ∷ ys)
  before-mid m [] ys a h = absurd h
  before-mid m (x ∷ xs) ys a (inl e) = inl (e, mem-mid m xs ys)
  before-mid m (x ∷ xs) ys a (inr h) = inr (before-mid m xs ys a h)

  pub before-skip : (m : X) (xs ys : List X) (a b : X) → Before a b (xs ++ ys) → Before a b (xs ++ m ∷ ys)
  before-skip m [] ys a b h = inr h
  before-skip m (x ∷ xs) ys a b (inl e) = inl (e.0, mem-skip m xs ys b e.1)
  before-skip m (x ∷ xs) ys a b (inr h) = inr (before-skip m xs ys a b h)

module _ {X K : Type 0} (key : X → K) where
  pub distinct-skip : (m : X) (xs ys : List X) → Distinct key (xs ++ m ∷ ys) → Distinct key (xs ++ ys)
  distinct-skip m [] ys d = d.1
  distinct-skip m (x ∷ xs) ys d = ((λ a h. d.0 a (mem-skip m xs ys a h)), distinct-skip m xs ys d.1)

  pub distinct-mid : (m : X) (xs ys : List X) → Distinct key (xs ++ m ∷ ys) → (a : X) → Mem a (xs ++ ys) → key a ≢ key m
  distinct-mid m [] ys d a h = d.0 a h
  distinct-mid m (x ∷ xs) ys d a (inl e) = λ q. d.0 m (mem-mid m xs ys) (sym q ∙ ap key e)
  distinct-mid m (x ∷ xs) ys d a (inr h) = distinct-mid m xs ys d.1 a h
