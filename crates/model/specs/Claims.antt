-- The words of the theorems (proofs/Theorems.antt): of which states they speak, and what they say of them. Rows are counted from 0.
use Rattle.std.specs.Prelude.{ℕ, ◌+◌, ◌*◌, ◌≤◌, ◌<◌, ◌≡◌, ◌≢◌, false, List, length, take, get_or}
use Rattle.terms.specs.declared.SlotNumber.{SlotNumber}
use Rattle.terms.specs.Numbers.{process_of}
use Rattle.terms.specs.Overlay.{overlay}
use Rattle.records.specs.Record.{byte}
use Rattle.setups.specs.Setup.{setup_refusal}
use Rattle.model.specs.declared.Place.{Place}
use Rattle.model.specs.declared.Shape.{Shape}
use Rattle.model.specs.declared.Row.{Row}
use Rattle.model.specs.declared.State.{State}
use Rattle.model.specs.Bounds.{Bytes}
use Rattle.model.specs.Routine.{routine}
use Rattle.model.specs.Sizes.{line_width}
use Rattle.model.specs.Run.{row_at, shape, rest_of, start_of, reached, run_of, Progress.going}
use Rattle.model.specs.Counts.{moves_of, lates_of}
use Rattle.model.specs.Report.{lines, ran_of}

-- The state s after the first k records of a trace of up to `most` processes, where the setup and those records were accepted: every point of an
-- accepted run, its end, and the last state of a run that was refused further on.
pub record At (most : ℕ) (trace : List ℕ) (k : ℕ) (s : State) : Type 0 where
  pub bytes : Bytes trace
  pub setup : setup_refusal most trace ≡ 0
  pub led : reached most trace k ≡ going s

-- row j is at its section, place 5, on slot c, crashed or not; 01's occupants are those of them that have not crashed
abbrev pub Inside : State → ℕ → SlotNumber → Type 0
Inside s j c = ((row_at s j).local.place ≡ Place.Critical) × ((row_at s j).local.slot ≡ c)

abbrev pub Occupies : State → ℕ → SlotNumber → Type 0
Occupies s j c = Inside s j c × ((row_at s j).crashed ≡ false)

-- row j has decided v
abbrev pub Decides : State → ℕ → ℕ → Type 0
Decides s j v = ((row_at s j).local.place ≡ Place.Decided) × ((row_at s j).local.decided ≡ v)

-- v is the start byte of a process that has moved
pub record Proposed (trace : List ℕ) (s : State) (v : ℕ) : Type 0 where
  pub who : ℕ
  pub among : who < byte 3 trace
  pub proposed : byte (8 + who) trace ≡ v
  pub moved : 1 ≤ (row_at s who).moves

-- a row made at most so many moves, and has decided if it made that many
pub record Within (bound : ℕ) (r : Row) : Type 0 where
  pub bounded : r.moves ≤ bound
  pub decided : r.moves ≡ bound → r.local.place ≡ Place.Decided

-- of the first k records, the moves of row j's process, and those of them whose write was late
abbrev pub moves_in : List ℕ → ℕ → ℕ → ℕ
moves_in trace j k = moves_of (rest_of trace) (process_of (j + 1)) k

abbrev pub lates_in : ℕ → List ℕ → ℕ → ℕ → ℕ
lates_in most trace j k = lates_of (shape trace) (start_of most trace) (rest_of trace) (process_of (j + 1)) k

-- row j, of a run that begins with the state x, after the first k records of these bytes: its moves and late writes are counts of those records
pub record Counted (u : Shape) (x : State) (rest : List ℕ) (k j : ℕ) (r : Row) : Type 0 where
  pub moves : r.moves ≡ moves_of rest (process_of (j + 1)) k
  pub lates : r.lates ≡ lates_of u x rest (process_of (j + 1)) k
  pub fewer : r.lates ≤ r.moves
  pub within : r.moves ≤ k

-- CUT after the first k records
abbrev pub cut_at : List ℕ → ℕ → List ℕ
cut_at trace k = take (8 + byte 3 trace + k * 8) trace

-- the whole run has the state s after k records; the trace cut there is accepted, with 0 and k, ends with the state s, and reports it
pub record CutThere (most : ℕ) (trace old : List ℕ) (k : ℕ) (s : State) : Type 0 where
  pub whole : reached most trace k ≡ going s
  pub cut : run_of most (cut_at trace k) (length old) ≡ going s
  pub outcome : (ran_of most (cut_at trace k) old).outcome ≡ record { number = 0; at = k }
  pub report : (ran_of most (cut_at trace k) old).report ≡ overlay (lines (routine (shape trace)) s.rows (byte 3 trace)) old

-- THE REPORT of a run: number m of row j (0: place, 1: c or the decided value, 2: moves, 3: late writes)
abbrev pub shown : ℕ → List ℕ → List ℕ → ℕ → ℕ → ℕ
shown most trace old j m = get_or (ran_of most trace old).report (line_width * j + m) 0

-- kind 2 or 3
abbrev pub Decision : List ℕ → Type 0
Decision trace = (2 ≤ byte 2 trace) × (byte 2 trace ≤ 3)

-- the second number of row j is the start byte of a row that shows moves
pub record ShownProposed (most : ℕ) (trace old : List ℕ) (j : ℕ) : Type 0 where
  pub who : ℕ
  pub among : who < byte 3 trace
  pub proposed : byte (8 + who) trace ≡ shown most trace old j 1
  pub moved : 1 ≤ shown most trace old who 2

-- row j shows at most so many moves, and place 8 if it shows that many and has not crashed
pub record ShownWithin (bound most : ℕ) (trace old : List ℕ) (j : ℕ) : Type 0 where
  pub bounded : shown most trace old j 2 ≤ bound
  pub decided : shown most trace old j 2 ≡ bound → shown most trace old j 0 ≢ 9 → shown most trace old j 0 ≡ 8
