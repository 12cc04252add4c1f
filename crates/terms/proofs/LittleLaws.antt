-- Little-endian numbers, over the width: a number is that of its bytes, and bytes are those of their number.
-- Assumes nothing.
use mathlib.Core.Path.{◌≡◌, refl, ap}
use mathlib.Core.List.{List, [], ◌∷◌}
use Prim.Native.Nat.{ℕ, zero, suc, ◌+◌, ◌*◌, ◌/◌, ◌%◌, ◌^◌, ◌<◌}
use native.Mathlib.Omega.{arith}
use native.Mathlib.Nat.{pow-suc}
use lib.ListN.{length}
use Rattle.terms.specs.Little.{little_of, little_bytes, AllBytes}

pub length-little_bytes : (w x : ℕ) → length (little_bytes w x) ≡ w
length-little_bytes zero x = refl
length-little_bytes (suc w) x = ap suc (length-little_bytes w (x / 256))

-- a number that fits w bytes is that of its w bytes
pub little_of_bytes : (w x : ℕ) → x < 256 ^ w → little_of (little_bytes w x) ≡ x
little_of_bytes zero x h = omega arith
little_of_bytes (suc w) x h =
    let small : x / 256 < 256 ^ w = omega (arith, simp pow-suc at h) in
    omega (arith, little_of_bytes w (x / 256) small)

-- bytes are those of their number
pub little_bytes_of : (bs : List ℕ) → AllBytes bs → little_bytes (length bs) (little_of bs) ≡ bs
little_bytes_of [] h = refl
little_bytes_of (b ∷ bs) h =
    let low : (b + 256 * little_of bs) % 256 ≡ b = omega (arith, h.0) in
    let high : (b + 256 * little_of bs) / 256 ≡ little_of bs = omega (arith, h.0) in
    simp (low, high, little_bytes_of bs h.1)
