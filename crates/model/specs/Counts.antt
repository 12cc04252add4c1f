-- Moves and late writes as counts of records (01, "The trace").
use Rattle.std.specs.Prelude.{ℕ, zero, suc, ◌+◌, Bool, false, cond, ◌&&◌, List, eqb}
use Rattle.terms.specs.declared.ProcessNumber.{ProcessNumber}
use Rattle.steps.specs.declared.Step.{Step}
use Rattle.model.specs.declared.Shape.{Shape}
use Rattle.model.specs.declared.Reply.{Reply}
use Rattle.model.specs.declared.State.{State}
use Rattle.model.specs.Routine.{ask_at}
use Rattle.model.specs.Memory.{reply}
use Rattle.model.specs.Run.{row_of, is_move, Progress, Progress.going, Progress.stopped, step_at, reach}

-- at how many of 0 .. k - 1 a test holds
unfoldable pub how_many : (ℕ → Bool) → ℕ → ℕ
how_many test zero = 0
how_many test (suc k) = how_many test k + cond (test k) 1 0

-- a record of process i with event 0
abbrev pub move_of : ProcessNumber → Step → Bool
move_of i k = eqb k.process.0 i.0 && is_move k

-- what memory says to the move k in the state s; whether its write was late, where the records before it led
abbrev pub reply_to : Shape → State → Step → Reply
reply_to u s k = reply s.bank s.shared k.process k.tick (ask_at (row_of s k.process).local.place u.delta (row_of s k.process))

abbrev pub wrote_late : Shape → Progress → Step → Bool
wrote_late u (going s) k = (reply_to u s k).late
wrote_late u (stopped x j) k = false

-- of the first k records of these bytes, the moves of process i, and those of them whose write was late
abbrev pub moves_of : List ℕ → ProcessNumber → ℕ → ℕ
moves_of rest i k = how_many (λ j. move_of i (step_at rest j)) k

abbrev pub lates_of : Shape → State → List ℕ → ProcessNumber → ℕ → ℕ
lates_of u x rest i k = how_many (λ j. wrote_late u (reach u x rest j) (step_at rest j) && move_of i (step_at rest j)) k
