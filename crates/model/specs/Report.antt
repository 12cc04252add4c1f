-- The report (01, "The trace"), and all that a run returns and leaves.
use Rattle.std.specs.Prelude.{ℕ, zero, suc, cond, List, [], ◌∷◌, ◌++◌, length, get_or, Result, Ok, Err}
use Rattle.terms.specs.Overlay.{overlay}
use Rattle.terms.specs.Refusal.{number}
use Rattle.model.specs.declared.Place.{Place}
use Rattle.model.specs.declared.Shape.{Shape}
use Rattle.model.specs.declared.Row.{Row}
use Rattle.model.specs.declared.Refused.{Refused}
use Rattle.model.specs.Routine.{Routine, routine}
use Rattle.model.specs.Run.{blank, Progress, Progress.going, Progress.stopped, shape, rest_of, records, run_of}

-- what the report shows of a place
abbrev pub shown_of : Place → ℕ
shown_of Place.Rest = 0
shown_of Place.Look = 1
shown_of Place.Put = 2
shown_of Place.Wait = 3
shown_of Place.Check = 4
shown_of Place.Critical = 5
shown_of Place.Flag = 6
shown_of Place.Scan = 7
shown_of Place.Decided = 8

-- a crashed process shows 9
abbrev pub shown_place : Row → ℕ
shown_place r = cond r.crashed 9 (shown_of r.local.place)

-- the second number: c for a lock, else the decided value
abbrev pub figure_of : Routine → Row → ℕ
figure_of (Routine.Lock how) r = r.local.slot.0
figure_of Routine.Plain r = r.local.decided
figure_of Routine.Fast r = r.local.decided

-- a process's line
unfoldable pub line : Routine → Row → List ℕ
line κ r = shown_place r ∷ figure_of κ r ∷ r.moves ∷ r.lates ∷ []

-- the lines of the first k rows
unfoldable pub lines : Routine → List Row → ℕ → List ℕ
lines κ rows zero = []
lines κ rows (suc k) = lines κ rows k ++ line κ (get_or rows k blank)

-- the table that was lent: written after an accepted run, as it was after a refused one
unfoldable pub report_of : Shape → List ℕ → Progress → List ℕ
report_of u old (going s) = overlay (lines (routine u) s.rows u.count) old
report_of u old (stopped x j) = old

-- what a run returns: 0 and the count of accepted steps, or the number of the refusal and its record
pub record Outcome : Type 0 where
  pub number : ℕ
  pub at : ℕ

unfoldable pub outcome_of : ℕ → Progress → Outcome
outcome_of k (going s) = record { number = 0; at = k }
outcome_of k (stopped x j) = record { number = x; at = j }

pub record Ran : Type 0 where
  pub outcome : Outcome
  pub report : List ℕ

-- what a run of a trace for up to `most` processes returns, and what it leaves in a report that held `old`
unfoldable pub ran_of : ℕ → List ℕ → List ℕ → Ran
ran_of most trace old =
    record {
      outcome = outcome_of (records (rest_of trace)) (run_of most trace (length old));
      report = report_of (shape trace) old (run_of most trace (length old));
    }

-- as the code has it: the count, or what was refused
abbrev pub outcome_in : Result ℕ Refused → Outcome
outcome_in (Ok k) = record { number = 0; at = k }
outcome_in (Err e) = record { number = number e.refusal; at = e.at }
