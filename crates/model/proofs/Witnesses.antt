-- No theorem speaks of nothing: for each, a trace of specs/Traces.antt that meets its hypotheses, computed.
-- Assumes nothing.
use Prim.Native.Nat.{ℕ, zero, suc}
use mathlib.Core.Path.{◌≡◌, refl}
use mathlib.Core.Bool.{Bool, true, false, ◌&&◌}
use mathlib.Core.List.{List, [], ◌∷◌, ◌++◌}
use native.Mathlib.Omega.{arith}
use lib.Dec.{T, ltb}
use lib.ListN.{replicate}
use borrow.Author.Tests.{ltb-true}
use Rattle.terms.specs.Limits.{most_processes}
use Rattle.terms.specs.Numbers.{slot_of}
use Rattle.bank.specs.Registers.{after_read, after_write, value_at}
use Rattle.records.specs.Record.{byte}
use Rattle.setups.specs.Setup.{bad_size, bad_start, setup_refusal}
use Rattle.steps.specs.Step.{step_refusal}
use Rattle.model.specs.declared.Place.{Place}
use Rattle.model.specs.declared.State.{State}
use Rattle.model.specs.Bounds.{Bytes}
use Rattle.model.specs.Run.{row_at, start_rows, fresh, move_at, stop, after, judge, record_refusal, advance, follow, run_on, records, run_refusal, run_of}
use Rattle.model.specs.Run.{rest_of, start_of, reached, Progress, Progress.going, Progress.stopped}
use Rattle.model.specs.Counts.{how_many}
use Rattle.model.specs.Claims.{At, Inside, Occupies, Decides, Proposed, moves_in, lates_in, cut_at, Decision, shown, ShownProposed}
use Rattle.model.specs.Report.{line, lines, report_of, outcome_of, Ran, ran_of}
use Rattle.model.specs.Traces.{p1, p2, p3, p5, p6, p9, p10, p11, late_once, crashes_decided, crashes_waiting, crashes_inside, leaves, shows}

-- TRACES

-- where the first k records of a trace lead
abbrev state_of : List ℕ → Progress → State
state_of s (going x) = x
state_of s (stopped y j) = start_of most_processes s

abbrev led : List ℕ → ℕ → State
led s k = state_of s (reached most_processes s k)

-- the point of a trace after its first k records
abbrev Point : List ℕ → ℕ → Type 0
Point s k = At most_processes s k (led s k)

-- a list of bytes is one by a computed test
abbrev small : List ℕ → Bool
small [] = true
small (x ∷ xs) = ltb x 256 && small xs

both : (a b : Bool) → T (a && b) → (a ≡ true) × T b
both true b h = (refl, h)
both false b h = absurd h

all_bytes : (s : List ℕ) → T (small s) → Bytes s
all_bytes [] h j = omega arith
all_bytes (x ∷ xs) h zero = ltb-true x 256 (both (ltb x 256) (small xs) h).0
all_bytes (x ∷ xs) h (suc j) = all_bytes xs (both (ltb x 256) (small xs) h).1 j

at : (s : List ℕ) (k : ℕ) → T (small s) → setup_refusal most_processes s ≡ 0 → reached most_processes s k ≡ going (led s k) → Point s k
at s k b a e = record { bytes = all_bytes s b; setup = a; led = e }

-- of a run whose report held eight 7s: what it returns and leaves, that it is accepted, and number m of row j
abbrev old : List ℕ
old = replicate 8 7

abbrev ran : List ℕ → Ran
ran s = ran_of most_processes s old

abbrev Accepted : List ℕ → Type 0
Accepted s = Bytes s × ((ran s).outcome.number ≡ 0)

-- accepted with k records, and these lines
abbrev said : ℕ → List ℕ → List ℕ → Ran
said k x y = record { outcome = record { number = 0; at = k }; report = x ++ y }

abbrev number : List ℕ → ℕ → ℕ → ℕ
number s j m = shown most_processes s old j m

-- THE POINTS, by the theorem that each is for

pub record Witnessed : Type 0 where
  -- exclusion, with two inside: P9; and with one that crashed inside
  pub two_inside : Point p9 11 × Occupies (led p9 11) 0 (slot_of 0) × Occupies (led p9 11) 1 (slot_of 1)
  pub crashed_inside : Point crashes_inside 6 × Inside (led crashes_inside 6) 0 (slot_of 0) × ((row_at (led crashes_inside 6) 0).crashed ≡ true)
  -- leaving: the next record is a move out of the section, and the slot is empty then
  pub leaving : Point leaves 5 × Inside (led leaves 5) 0 (slot_of 0) × Point leaves 6 × (value_at (led leaves 6).bank (slot_of 0) ≡ 0)
  -- agreement and validity: P5, where process 1 decides the proposal of process 2, and the other later; P10, without a wait
  pub first_decides : Point p5 7 × Decides (led p5 7) 0 2 × Proposed p5 (led p5 7) 2
  pub both_decide : Point p5 10 × Decides (led p5 10) 0 2 × Decides (led p5 10) 1 2
  pub decides_at_once : Point p10 6 × Decides (led p10 6) 0 2
  -- the bounds, reached: P2; one late write and seven moves; P11, with b = 2
  pub plain_bound : Point p2 5 × (byte 2 p2 ≡ 2) × (moves_in p2 0 5 ≡ 5) × (lates_in most_processes p2 0 5 ≡ 0)
  pub plain_bound_late : Point late_once 7 × (byte 2 late_once ≡ 2) × (moves_in late_once 0 7 ≡ 7) × (lates_in most_processes late_once 0 7 ≡ 1)
  pub fast_bound : Point p11 8 × (byte 2 p11 ≡ 3) × (byte 4 p11 ≡ 2) × (moves_in p11 0 8 ≡ 7) × (lates_in most_processes p11 0 8 ≡ 0)
  -- the state that a refused run had reached: P1
  pub refused_later : Point p1 4 × (run_of most_processes p1 8 ≡ stopped 16 5)
  -- who has not decided: P3; who has, whatever comes after: P5
  pub undecided_there : Point p3 2 × ((row_at (led p3 2) 0).local.place ≡ Place.Look) × ((row_at (led p3 2) 0).local.decided ≡ 0)
  -- cut after a record: P6 after 6, where process 1 has decided and process 2 has not; P1 after 4, before its refusal
  pub cut_on_the_way : ((ran p6).outcome ≡ record { number = 0; at = 10 }) × (ran (cut_at p6 6) ≡ said 6 (shows 8 1 5 0) (shows 2 0 1 0))
  pub cut_before_refusal : ((ran p1).outcome ≡ record { number = 16; at = 5 }) × (ran (cut_at p1 4) ≡ said 4 (shows 4 0 4 0) (shows 1 0 0 0))
  -- the report: P9's two rows with place 5; P6's two rows with place 8 and one value, which process 1 proposed
  pub report_two_inside : Accepted p9 × (number p9 0 0 ≡ 5) × (number p9 1 0 ≡ 5)
  pub report_decided : Accepted p6 × Decision p6 × (number p6 0 0 ≡ 8) × (number p6 0 1 ≡ 1) × (number p6 1 0 ≡ 8) × (number p6 1 1 ≡ 1)
      × ShownProposed most_processes p6 old 1
  -- a row that decided and crashed, beside one that decided later; and one that has not decided: P3
  pub report_crashed : Accepted crashes_decided × Decision crashes_decided × (number crashes_decided 0 0 ≡ 9) × (number crashes_decided 0 1 ≡ 1)
      × (number crashes_decided 1 1 ≡ 1)
  pub report_undecided_crashed : Accepted crashes_waiting × Decision crashes_waiting × (number crashes_waiting 0 0 ≡ 9) × (number crashes_waiting 0 1 ≡ 0)
  pub report_undecided : Accepted p3 × Decision p3 × (number p3 0 0 ≡ 1) × (number p3 0 1 ≡ 0)
  -- the counts of all records: P6's late write; the moves of one that crashed
  pub report_counts : (records (rest_of p6) ≡ 10) × (number p6 1 2 ≡ 5) × (moves_in p6 1 10 ≡ 5) × (number p6 1 3 ≡ 1) × (lates_in most_processes p6 1 10 ≡ 1)
  pub report_crash_no_move : Accepted crashes_waiting × (records (rest_of crashes_waiting) ≡ 5) × (number crashes_waiting 0 2 ≡ 4)
      × (moves_in crashes_waiting 0 5 ≡ 4)
  -- a row at its bound, of kind 2 and of kind 3
  pub report_bound : Accepted late_once × (number late_once 0 2 ≡ 7) × (number late_once 0 3 ≡ 1) × (number late_once 0 0 ≡ 8)
  pub report_fast_bound : Accepted p11 × (byte 2 p11 ≡ 3) × (byte 4 p11 ≡ 2) × (number p11 0 2 ≡ 7) × (number p11 0 3 ≡ 0) × (number p11 0 0 ≡ 8)

pub witnesses : Witnessed
unfolding after_read after_write bad_size bad_start setup_refusal step_refusal
    start_rows fresh move_at stop after judge record_refusal advance follow run_on records run_refusal line lines report_of outcome_of ran_of how_many
witnesses =
    record {
      two_inside = (at p9 11 tt refl refl, ((refl, refl), refl), ((refl, refl), refl));
      crashed_inside = (at crashes_inside 6 tt refl refl, (refl, refl), refl);
      leaving = (at leaves 5 tt refl refl, (refl, refl), at leaves 6 tt refl refl, refl);
      first_decides = (at p5 7 tt refl refl, (refl, refl), record { who = 1; among = omega arith; proposed = refl; moved = omega arith });
      both_decide = (at p5 10 tt refl refl, (refl, refl), (refl, refl));
      decides_at_once = (at p10 6 tt refl refl, (refl, refl));
      plain_bound = (at p2 5 tt refl refl, refl, refl, refl);
      plain_bound_late = (at late_once 7 tt refl refl, refl, refl, refl);
      fast_bound = (at p11 8 tt refl refl, refl, refl, refl, refl);
      refused_later = (at p1 4 tt refl refl, refl);
      undecided_there = (at p3 2 tt refl refl, refl, refl);
      cut_on_the_way = (refl, refl);
      cut_before_refusal = (refl, refl);
      report_two_inside = ((all_bytes p9 tt, refl), refl, refl);
      report_decided = (
        (all_bytes p6 tt, refl),
        (omega arith, omega arith),
        refl,
        refl,
        refl,
        refl,
        record { who = 0; among = omega arith; proposed = refl; moved = omega arith },
      );
      report_crashed = ((all_bytes crashes_decided tt, refl), (omega arith, omega arith), refl, refl, refl);
      report_undecided_crashed = ((all_bytes crashes_waiting tt, refl), (omega arith, omega arith), refl, refl);
      report_undecided = ((all_bytes p3 tt, refl), (omega arith, omega arith), refl, refl);
      report_counts = (refl, refl, refl, refl, refl);
      report_crash_no_move = ((all_bytes crashes_waiting tt, refl), refl, refl, refl);
      report_bound = ((all_bytes late_once tt, refl), refl, refl, refl);
      report_fast_bound = ((all_bytes p11 tt, refl), refl, refl, refl, refl, refl);
    }
