-- The step record of a trace (01, "The trace"), and what is refused of it, in 01's order. `most` is the largest process number: n in a run, 32
-- in the reader and the writer.
use Rattle.std.specs.Prelude.{not, List, [], ◌∷◌, ◌++◌, ℕ, length, ltb, Result, Ok, Err}
use Rattle.terms.specs.Limits.{top_tick}
use Rattle.terms.specs.Numbers.{process_of}
use Rattle.terms.specs.Refusal.{refuse, ◌then◌, outside, if_accepted}
use Rattle.terms.specs.Little.{little_of, little_bytes}
use Rattle.records.specs.Record.{byte, marked, Wrote}
use Rattle.steps.specs.declared.Step.{Step}

abbrev pub step_mark : List ℕ
step_mark = 0x4F ∷ 0x54 ∷ []

-- what the reader and the writer ask alike: process, event 0 (move) or 1 (crash), tick up to the limit: 11, 12, 13
abbrev pub step_limits : ℕ → Step → ℕ
step_limits most k =
    refuse 11 (outside 1 most k.process.0)
    then refuse 12 (ltb 1 k.event)
    then refuse 13 (ltb top_tick k.tick)

-- where each field stands
abbrev pub step_fields : List ℕ → Step
step_fields s =
    record {
      process = process_of (byte 2 s);
      event = byte 3 s;
      tick = little_of (byte 4 s ∷ byte 5 s ∷ byte 6 s ∷ byte 7 s ∷ []);
    }

-- 9, 10, 11, 12, 13
unfoldable pub step_refusal : ℕ → List ℕ → ℕ
step_refusal most s =
    refuse 9 (ltb (length s) 8)
    then refuse 10 (not (marked step_mark s))
    then step_limits most (step_fields s)

unfoldable pub step_read : ℕ → List ℕ → Result Step ℕ
step_read most s = if_accepted (step_refusal most s) (Ok (step_fields s)) (Err (step_refusal most s))

abbrev pub step_bytes : Step → List ℕ
step_bytes k = step_mark ++ (k.process.0 ∷ k.event ∷ []) ++ little_bytes 4 k.tick

-- 11, 12, 13, 19, for a buffer of `room` bytes
unfoldable pub step_write_refusal : ℕ → Step → ℕ → ℕ
step_write_refusal most k room = step_limits most k then refuse 19 (ltb room 8)

-- what the writer answers, and the buffer before and after
abbrev pub WroteStep : ℕ → Step → List ℕ → Result ℕ ℕ → List ℕ → Type 0
WroteStep most k before r after = Wrote (step_write_refusal most k (length before)) (step_bytes k) before r after
