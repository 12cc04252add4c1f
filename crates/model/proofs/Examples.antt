-- Every trace of specs/Traces.antt runs as its case says: one list, one statement.
-- Assumes nothing.
use Prim.Native.Nat.{ℕ}
use mathlib.Core.Path.{◌≡◌, refl}
use mathlib.Core.List.{List, [], map}
use lib.ListN.{replicate}
use Rattle.terms.specs.Limits.{most_processes}
use Rattle.bank.specs.Registers.{after_read, after_write}
use Rattle.setups.specs.Setup.{bad_size, bad_start, setup_refusal}
use Rattle.steps.specs.Step.{step_refusal}
use Rattle.model.specs.Run.{start_rows, fresh, move_at, stop, after, judge, record_refusal, advance, follow, run_on, records, run_refusal, run_of}
use Rattle.model.specs.Run.{Progress, Progress.going, Progress.stopped}
use Rattle.model.specs.Report.{line, lines, report_of, outcome_of, Ran, ran_of}
use Rattle.model.specs.Traces.{Case, cases}

-- the registers at the end of an accepted run
abbrev held : Progress → List ℕ
held (going s) = s.bank.values
held (stopped x j) = []

-- the case that a run of a trace is, its report lent as nine 7s
abbrev ran : List ℕ → Case
ran s =
    let old : List ℕ = replicate 9 7 in
    let r : Ran = ran_of most_processes s old in
    record { trace = s; number = r.outcome.number; at = r.outcome.at; report = r.report; registers = held (run_of most_processes s 9) }

pub examples : map (λ (c : Case). ran c.trace) cases ≡ cases
unfolding after_read after_write bad_size bad_start setup_refusal step_refusal
    start_rows fresh move_at stop after judge record_refusal advance follow run_on records run_refusal line lines report_of outcome_of ran_of
examples = refl
