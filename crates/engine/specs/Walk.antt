-- What the code of a run asks of its numbers, and what the walk over a run's records leaves.
use Rattle.std.specs.Prelude.{ℕ, ◌≤◌, ◌<◌, ◌≡◌, List, Result, Ok, Err, IfOk}
use Rattle.terms.specs.declared.ProcessNumber.{ProcessNumber}
use Rattle.terms.specs.Limits.{most_processes, top_tick}
use Rattle.terms.specs.Refusal.{if_accepted, number}
use Rattle.setups.specs.declared.Setup.{Setup}
use Rattle.setups.specs.Setup.{setup_fields}
use Rattle.steps.specs.declared.Step.{Step}
use Rattle.model.specs.declared.Shape.{Shape}
use Rattle.model.specs.declared.State.{State}
use Rattle.model.specs.declared.Refused.{Refused}
use Rattle.model.specs.Bounds.{Starts, Room}
use Rattle.model.specs.Run.{Progress, Progress.going, Progress.stopped, row_at, fresh, reach, records, run_refusal}
use Rattle.model.specs.Report.{Ran, outcome_of, report_of}

-- a process that there may be
pub record Numbered (i : ProcessNumber) : Type 0 where
  pub least : 1 ≤ i.0
  pub most : i.0 ≤ most_processes

-- a step that the reader accepted
pub record Due (k : Step) : Type 0 where
  pub numbered : Numbered k.process
  pub tick : k.tick ≤ top_tick

-- a state that a run begins with
pub record Begins (u : Shape) (x : State) : Type 0 where
  pub bytes : List ℕ
  pub starts : Starts u bytes
  pub fresh : x ≡ fresh u bytes

-- every row has room for a move more
abbrev pub Roomy : Shape → State → Type 0
Roomy u s = (j : ℕ) → j < u.count → Room u (row_at s j)

-- what is returned of the records of `rest`, and left of the state x: where all are accepted, the state that they led to
abbrev pub progress_of : Result ℕ Refused → State → Progress
progress_of (Ok k) left = going left
progress_of (Err e) left = stopped (number e.refusal) e.at

pub record Walked (u : Shape) (x : State) (rest : List ℕ) (r : Result ℕ Refused) (left : State) : Type 0 where
  pub led : reach u x rest (records rest) ≡ progress_of r left
  pub counted : IfOk r (λ k. k ≡ records rest)

-- what the records of `rest` return and leave, from the fresh state on
abbrev pub ran_from : Shape → List ℕ → List ℕ → List ℕ → Ran
ran_from u starts rest old =
    let p : Progress = reach u (fresh u starts) rest (records rest) in
    record { outcome = outcome_of (records rest) p; report = report_of u old p }

-- a trace's setup, or what it is refused for before its first record
abbrev pub set_up : List ℕ → ℕ → Result Setup ℕ
set_up trace room =
    if_accepted (run_refusal most_processes trace room) (Ok (setup_fields most_processes trace)) (Err (run_refusal most_processes trace room))
