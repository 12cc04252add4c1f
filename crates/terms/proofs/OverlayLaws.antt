-- Pieces over a part of a buffer, one after the other.
-- Assumes nothing.
use mathlib.Core.Path.{◌≡◌, ◌∙◌}
use mathlib.Core.List.{List, ◌++◌, append_assoc}
use Prim.Native.Nat.{ℕ, ◌+◌, ◌≤◌}
use native.Mathlib.Nat.{zero-add}
use native.Mathlib.Omega.{arith}
use lib.ListN.{length, take, drop, length-append, length-take}
use lib.Seq.{take-append_seam, drop-append-add, drop-drop}
use Rattle.terms.specs.Overlay.{overlay, spliced}

-- a piece at the beginning lies over the front
pub spliced_front : (piece s : List ℕ) → spliced 0 piece s ≡ overlay piece s
unfolding spliced
spliced_front piece s = rw zero-add

-- what is put past the front of a buffer leaves the front
past_front : (front piece s : List ℕ)
    → spliced (length front) piece (front ++ drop (length front) s) ≡ front ++ (piece ++ drop (length front + length piece) s)
unfolding spliced
past_front front piece s = rw (take-append_seam, drop-append-add, drop-drop)

-- two pieces one after the other are one
pub spliced_then : (at : ℕ) (a b s : List ℕ) → at ≤ length s → spliced (at + length a) b (spliced at a s) ≡ spliced at (a ++ b) s
unfolding spliced
spliced_then at a b s h =
    let front : length (take at s ++ a) ≡ at + length a = simp (length-append, length-take) (omega arith) in
    let whole : at + length (a ++ b) ≡ at + length a + length b = omega (arith, length-append a b) in
    let after = b ++ drop (length (take at s ++ a) + length b) s in
    rw (whole, ← append_assoc (take at s) a (drop (at + length a) s), ← front, append_assoc a b)
    (past_front (take at s ++ a) b s ∙ append_assoc (take at s) a after)
