-- One record, and a trace: a fold over its records (01, "The trace", "Numbers for what is refused").
use Rattle.std.specs.Prelude.{ℕ, zero, suc, ◌+◌, ◌*◌, ◌/◌, Bool, false, cond, ◌&&◌, List, [], ◌∷◌, eqb, ltb, length, drop, get_or, set, replicate}
use Rattle.terms.specs.declared.ProcessNumber.{ProcessNumber}
use Rattle.terms.specs.Limits.{most_processes, most_steps}
use Rattle.terms.specs.Numbers.{index_of, slot_of}
use Rattle.terms.specs.Refusal.{refuse, ◌then◌, if_accepted}
use Rattle.bank.specs.Registers.{fresh_bank, fresh_bank_of}
use Rattle.setups.specs.declared.Setup.{Setup}
use Rattle.steps.specs.declared.Step.{Step}
use Rattle.records.specs.Record.{byte}
use Rattle.setups.specs.Setup.{places, start_bytes, setup_refusal, setup_fields}
use Rattle.steps.specs.Step.{step_refusal, step_fields}
use Rattle.model.specs.Sizes.{line_width, flag_count}
use Rattle.model.specs.declared.Place.{Place}
use Rattle.model.specs.declared.Shape.{Shape}
use Rattle.model.specs.declared.Row.{Row}
use Rattle.model.specs.declared.Ask.{Ask}
use Rattle.model.specs.declared.State.{State}
use Rattle.model.specs.Time.{early, wake_at, waiting}
use Rattle.model.specs.Routine.{routine, ask_at, row_after, crash, unmoved, begin, is_decided}
use Rattle.model.specs.Memory.{reply, bank_after, shared_after}

-- THE STATE

-- what stands past the last process
abbrev pub blank : Row
blank = unmoved Place.Rest (slot_of 0) 0

-- the row at an index, and that of a process
abbrev pub row_at : State → ℕ → Row
row_at s j = get_or s.rows j blank

abbrev pub row_of : State → ProcessNumber → Row
row_of s i = row_at s (index_of i)

-- at the start: where the kind begins, with the start byte x
abbrev pub start_row : Shape → ℕ → ℕ → Row
start_row u j x = cond (ltb j u.count) (begin (routine u) j x) blank

unfoldable pub start_rows : Shape → ℕ → List ℕ → List Row
start_rows u j [] = []
start_rows u j (x ∷ xs) = start_row u j x ∷ start_rows u (suc j) xs

-- the state before any process begins
unfoldable pub blank_state : State
blank_state =
    record {
      rows = replicate most_processes blank;
      bank = fresh_bank;
      shared = record { flags = replicate flag_count false };
      newest = 0;
    }

-- the state at the start, with as many rows as there are start bytes
unfoldable pub fresh : Shape → List ℕ → State
fresh u starts =
    record {
      rows = start_rows u 0 starts;
      bank = fresh_bank_of (length starts);
      shared = record { flags = replicate flag_count false };
      newest = 0;
    }

-- A MOVE of process i at tick t, at place p; and a crash

unfoldable pub move_at : Shape → Place → State → ProcessNumber → ℕ → State
move_at u p s i t =
    let r : Row = row_of s i in
    let q : Ask = ask_at p u.delta r in
    record {
      rows = set s.rows (index_of i) (row_after u p (wake_at u.delta t) r (reply s.bank s.shared i t q));
      bank = bank_after s.bank i t q;
      shared = shared_after s.shared q;
      newest = t;
    }

abbrev pub move : Shape → State → ProcessNumber → ℕ → State
move u s i t = move_at u (row_of s i).local.place s i t

unfoldable pub stop : State → ProcessNumber → ℕ → State
stop s i t =
    record { rows = set s.rows (index_of i) (crash (row_of s i)); bank = s.bank; shared = s.shared; newest = t }

-- A RECORD

abbrev pub is_move : Step → Bool
is_move k = eqb k.event 0

unfoldable pub after : Shape → State → Step → State
after u s k = cond (is_move k) (move u s k.process k.tick) (stop s k.process k.tick)

-- 13 (below the newest accepted one), 14, 15, 16, of a step of the process with row r, in a run of the shape u
unfoldable pub judge : Shape → Row → ℕ → Step → ℕ
judge u r newest k =
    refuse 13 (early newest k.tick)
    then refuse 14 r.crashed
    then refuse 15 (is_move k && is_decided r.local.place)
    then refuse 16 (is_move k && waiting r.local.wake k.tick)

-- 9 to 16, of the record at the beginning of s
unfoldable pub record_refusal : Shape → State → List ℕ → ℕ
record_refusal u x s = step_refusal u.count s then judge u (row_of x (step_fields s).process) x.newest (step_fields s)

-- A TRACE: the state that the records so far left, or the first refusal and its record

pub data Progress : Type 0 where
  going : State → Progress
  stopped : ℕ → ℕ → Progress

-- What a run takes its records from: the refusal of the record after the first k, in the state that those led to, and the state after it.
pub record Tape : Type 0 where
  pub refusal : ℕ → State → ℕ
  pub after : ℕ → State → State

-- one record more, after the first k
unfoldable pub advance : Tape → ℕ → Progress → Progress
advance tape k (stopped x j) = stopped x j
advance tape k (going x) = if_accepted (tape.refusal k x) (going (tape.after k x)) (stopped (tape.refusal k x) (suc k))

-- the first k records, from the state x on
unfoldable pub follow : Tape → State → ℕ → Progress
follow tape x zero = going x
follow tape x (suc k) = advance tape k (follow tape x k)

-- n records, unless the run is refused before the first of them
unfoldable pub run_on : ℕ → Tape → State → ℕ → Progress
run_on first tape x n = if_accepted first (follow tape x n) (stopped first 0)

-- STEP RECORDS of the bytes after the setup

-- the bytes from the record after the first k on, and the step there
abbrev pub record_at : List ℕ → ℕ → List ℕ
record_at rest k = drop (k * 8) rest

abbrev pub step_at : List ℕ → ℕ → Step
step_at rest k = step_fields (record_at rest k)

abbrev pub step_tape : Shape → List ℕ → Tape
step_tape u rest = record { refusal = λ k x. record_refusal u x (record_at rest k); after = λ k x. after u x (step_at rest k) }

abbrev pub reach : Shape → State → List ℕ → ℕ → Progress
reach u x rest k = follow (step_tape u rest) x k

-- the records of these bytes, a last part of one among them
unfoldable pub records : List ℕ → ℕ
records rest = (length rest + 7) / 8

-- A RUN

abbrev pub shape_of : Setup → Shape
shape_of f = record { kind = f.kind; count = f.processes; size = f.size; delta = f.delta }

-- what a trace's setup says of the run (whatever the most processes are), and the bytes behind it
abbrev pub shape : List ℕ → Shape
shape trace = shape_of (setup_fields most_processes trace)

abbrev pub rest_of : List ℕ → List ℕ
rest_of trace = drop (8 + byte 3 trace) trace

-- 1 to 6; 7; 8; for up to `most` processes, with a report of `room` numbers
unfoldable pub run_refusal : ℕ → List ℕ → ℕ → ℕ
run_refusal most trace room =
    setup_refusal most trace
    then refuse 7 (ltb room (line_width * byte 3 trace))
    then refuse 8 (ltb (8 * most_steps) (length (rest_of trace)))

-- the state that a trace's setup begins with, and what its first k records lead to
abbrev pub start_of : ℕ → List ℕ → State
start_of most trace = fresh (shape trace) (places most (start_bytes trace))

abbrev pub reached : ℕ → List ℕ → ℕ → Progress
reached most trace k = reach (shape trace) (start_of most trace) (rest_of trace) k

abbrev pub run_of : ℕ → List ℕ → ℕ → Progress
run_of most trace room = run_on (run_refusal most trace room) (step_tape (shape trace) (rest_of trace)) (start_of most trace) (records (rest_of trace))
