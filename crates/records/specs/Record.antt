-- What both records of a trace have: bytes at their places, and a mark of two bytes before (01, "The trace").
use Rattle.std.specs.Prelude.{Bool, ◌&&◌, ◌≡◌, List, ℕ, length, get_or, eqb, Result, Ok, Err}
use Rattle.terms.specs.Refusal.{if_accepted}
use Rattle.terms.specs.Overlay.{overlay}

-- the byte at index i, 0 past the end
abbrev pub byte : ℕ → List ℕ → ℕ
byte i s = get_or s i 0

abbrev pub marked : List ℕ → List ℕ → Bool
marked mark s = eqb (byte 0 s) (byte 0 mark) && eqb (byte 1 s) (byte 1 mark)

-- What a writer answers, with 01's number where it refuses, and leaves: an accepted one the record's length and its bytes over the buffer's
-- first, a refused one the buffer as it was.
pub record Wrote (refusal : ℕ) (rec before : List ℕ) (r : Result ℕ ℕ) (after : List ℕ) : Type 0 where
  pub answer : r ≡ if_accepted refusal (Ok (length rec)) (Err refusal)
  pub buffer : after ≡ if_accepted refusal (overlay rec before) before
