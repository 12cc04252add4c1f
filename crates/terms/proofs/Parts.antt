-- Parts of a slice, as the borrow checker states them.
-- Assumes nothing.
use mathlib.Core.Path.{◌≡◌, refl}
use mathlib.Core.List.{List, [], ◌∷◌}
use Prim.Native.Nat.{ℕ, zero, suc, ◌+◌, ◌-◌, ◌≤◌, ◌<◌}
use native.Mathlib.Omega.{arith}
use lib.ListN.{length, get_or, take, drop, length-drop}
use lib.Seq.{take_all, drop-cons}

-- `&s[k..]` has the elements of `drop k s`
pub part_to_end : (k : ℕ) (s : List ℕ) → take (length s - k) (drop k s) ≡ drop k s
part_to_end k s = take_all (length s - k) (drop k s) (omega (arith, length-drop k s))

-- the k elements of s from index i on; with k written out it computes to the elements themselves
abbrev pub elements : ℕ → ℕ → List ℕ → List ℕ
elements zero i s = []
elements (suc k) i s = get_or s i 0 ∷ elements k (suc i) s

pub take-elements : (k i : ℕ) (s : List ℕ) → i + k ≤ length s → take k (drop i s) ≡ elements k i s
take-elements zero i s h = refl
take-elements (suc k) i s h =
    let inside : i < length s = omega arith in
    rw (drop-cons s i 0 inside, take-elements k (suc i) s (omega arith))
