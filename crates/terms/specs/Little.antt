-- Little-endian numbers of any width.
use Rattle.std.specs.Prelude.{List, [], ◌∷◌, ℕ, zero, suc, ◌+◌, ◌*◌, ◌/◌, ◌%◌, ◌<◌}

-- the number in a list of bytes, the lowest first
abbrev pub little_of : List ℕ → ℕ
little_of [] = 0
little_of (b ∷ bs) = b + 256 * little_of bs

-- the w bytes of x, the lowest first
abbrev pub little_bytes : ℕ → ℕ → List ℕ
little_bytes zero x = []
little_bytes (suc w) x = x % 256 ∷ little_bytes w (x / 256)

abbrev pub AllBytes : List ℕ → Type 0
AllBytes [] = Unit {0}
AllBytes (b ∷ bs) = (b < 256) × AllBytes bs
