-- Fields side by side in one number, the first highest: `pack` joins values of given widths in bits, `unpack` takes them apart.
-- Bytes are fields of eight bits, so one theory serves both.
use Rattle.std.specs.Prelude.{ℕ, ◌+◌, ◌*◌, ◌/◌, ◌%◌, ◌^◌, ◌<◌, List, [], ◌∷◌, length, replicate, get_or}

-- how many bits the fields have together
abbrev pub total : List ℕ → ℕ
total [] = 0
total (w ∷ ws) = w + total ws

-- the number that the values are, side by side
unfoldable pub pack : List ℕ → List ℕ → ℕ
pack [] vs = 0
pack (w ∷ ws) [] = 0
pack (w ∷ ws) (v ∷ vs) = v * 2 ^ total ws + pack ws vs

-- the w bits of a number that stand before its last a bits
unfoldable pub piece : ℕ → ℕ → ℕ → ℕ
piece n a w = n / 2 ^ a % 2 ^ w

-- the values that stand side by side in a number
unfoldable pub unpack : List ℕ → ℕ → List ℕ
unpack [] n = []
unpack (w ∷ ws) n = piece n (total ws) w ∷ unpack ws n

-- as many values as widths, each within its width
abbrev pub Fit : List ℕ → List ℕ → Type 0
Fit [] [] = Unit {0}
Fit [] (v ∷ vs) = ⊥
Fit (w ∷ ws) [] = ⊥
Fit (w ∷ ws) (v ∷ vs) = (v < 2 ^ w) × Fit ws vs

-- the number that bytes are, the first highest
unfoldable pub number : List ℕ → ℕ
number s = pack (replicate (length s) 8) s

-- the last k bytes of a number
unfoldable pub bytes : ℕ → ℕ → List ℕ
bytes k n = unpack (replicate k 8) n

-- bytes, each below 256
abbrev pub Bytes : List ℕ → Type 0
Bytes s = (i : ℕ) → get_or s i 0 < 256
