-- What a writer of bytes into a lent buffer promises: where its text ends, and every byte of the buffer.
-- Definitions only. `sets b at ws` is b with ws stored from at on; what lies before and after them stays.
use Rattle.std.specs.Prelude.{◌≡◌, ℕ, ◌+◌, List, length}
use Rattle.std.proofs.lemmas.List.Edits.{sets}

-- a writer of the bytes ws was called on the buffer b at k, answered k' and left b'
abbrev pub Wrote : List ℕ → ℕ → List ℕ → ℕ → List ℕ → Type 0
Wrote ws k b k' b' = (k' ≡ k + length ws) × (b' ≡ sets b k ws)

-- the same from byte 0 on: it answered how many bytes ws has
abbrev pub Filled : List ℕ → List ℕ → ℕ → List ℕ → Type 0
Filled ws b k' b' = (k' ≡ length ws) × (b' ≡ sets b 0 ws)
