-- WHAT IS PROMISED OF EVERY RUN (demand 3). Above each statement stands the demand that it answers, in plain words; its words are those of
-- specs/Claims.antt, its proof is elsewhere, and docs/THEOREMS.md says why it holds. A trace is any list of bytes: any kind, n, ℓ, b and Δ that a
-- setup may have, late writes and crashes anywhere.
-- Assumes nothing.
use Prim.Native.Nat.{ℕ, suc, ◌+◌, ◌*◌, ◌≤◌, ◌<◌}
use mathlib.Core.Path.{◌≡◌, sym, ap, ◌∙◌}
use mathlib.Core.Logic.{◌≢◌}
use mathlib.Core.Bool.{false}
use mathlib.Core.List.{List}
use native.Mathlib.Omega.{arith}
use native.Mathlib.Decide.{dec_lt}
use lib.ListN.{length}
use Rattle.terms.specs.declared.ProcessNumber.{ProcessNumber}
use Rattle.terms.specs.declared.SlotNumber.{SlotNumber}
use Rattle.terms.specs.Limits.{top_tick}
use Rattle.terms.specs.Numbers.{slot_of}
use Rattle.bank.specs.Registers.{value_at, late_at}
use Rattle.records.specs.Record.{byte}
use Rattle.model.specs.declared.Place.{Place}
use Rattle.model.specs.declared.State.{State}
use Rattle.model.specs.Bounds.{Bytes}
use Rattle.model.specs.Run.{row_at, row_of, move, shape, rest_of, records, start_of, run_of, Progress.going, Progress.stopped}
use Rattle.model.specs.Report.{ran_of}
use Rattle.model.specs.Claims.{At, Inside, Occupies, Decides, Proposed, Within, Counted, moves_in, lates_in}
use Rattle.model.specs.Claims.{CutThere, Decision, shown, ShownProposed, ShownWithin}
use Rattle.model.proofs.Counts.{reach_counts}
use Rattle.model.proofs.Consequences.{one_inside, number_stands, leaves_in_time, leaves_empty, one_decision, decision_stands}
use Rattle.model.proofs.Consequences.{decision_real, undecided_none, plain_bound, fast_bound}
use Rattle.model.proofs.Reached.{run_led, refused_led, point, proposed_there, stays_decided, rows_exclude, rows_agree, row_proposed}
use Rattle.model.proofs.Reached.{row_value, row_undecided, row_decided, row_moves, row_lates, row_plain, row_fast}
use Rattle.model.proofs.Points.{cut_anywhere, cut_before}

-- AT EVERY POINT of a run: s is the state after the first k records, all of them accepted
module _ {most : ℕ} {trace : List ℕ} {k : ℕ} {s : State} (at : At most trace k s) where
  -- Exclusion: two that are inside one slot, crashed or not, are one.
  pub exclusion : (c : SlotNumber) (i j : ℕ) → Inside s i c → Inside s j c → i ≡ j
  exclusion c i j a b = one_inside (point at) j (rw b.0 tt) i (rw a.0 tt) (ap (λ (d : SlotNumber). d.0) (a.1 ∙ sym b.1))

  -- So a slot has at most one occupant.
  pub one_occupant : (c : SlotNumber) (i j : ℕ) → Occupies s i c → Occupies s j c → i ≡ j
  one_occupant c i j a b = exclusion c i j a.0 b.0

  -- The register of a slot holds the number of who is inside: nobody has written over it.
  pub slot_is_marked : (c : SlotNumber) (j : ℕ) → Inside s j c → value_at s.bank c ≡ suc j
  slot_is_marked c j a = rw (← a.1) (number_stands (point at) j (rw a.0 tt))

  -- Leaving is never late: whenever a process leaves its section, its slot is empty afterwards.
  pub leaving_empties : (i : ProcessNumber) (t : ℕ) → t ≤ top_tick → (row_of s i).local.place ≡ Place.Critical
      → (late_at s.bank i (row_of s i).local.slot t ≡ false) × (value_at (move (shape trace) s i t).bank (row_of s i).local.slot ≡ 0)
  leaving_empties i t top a = (leaves_in_time (point at) i t top a, rw a (leaves_empty (point at) i t top a))

  -- Agreement: no two decided values differ.
  pub agreement : (i j v w : ℕ) → Decides s i v → Decides s j w → v ≡ w
  agreement i j v w a b = sym a.1 ∙ one_decision (point at) j (rw b.0 tt) i (rw a.0 tt) ∙ b.1

  -- A process that has not decided has no decided value, and one that has decided has one: 0 is no decision.
  pub undecided : (j : ℕ) → (row_at s j).local.place ≢ Place.Decided → (row_at s j).local.decided ≡ 0
  undecided = undecided_none (point at)

  pub decided : (j v : ℕ) → Decides s j v → v ≢ 0
  decided j v a z = decision_real (point at) j (rw a.0 tt) (a.1 ∙ z)

  -- A decided value stands in the register: it is definitive (document 003, Theorem 1).
  pub register_has_it : (j v : ℕ) → Decides s j v → value_at s.bank (slot_of 0) ≡ v
  register_has_it j v a = decision_stands (point at) j (rw a.0 tt) ∙ a.1

  -- Validity: a decided value is the start byte of a process that moved.
  pub validity : (j v : ℕ) → Decides s j v → Proposed trace s v
  validity j v a = rw (← a.1) (proposed_there at j (rw a.0 tt))

  -- Moves: with f late writes a process makes at most 5 + 2 f moves in kind 2, and at that many it has decided, however the others behave.
  pub plain_moves : byte 2 trace ≡ 2 → (j : ℕ) → Within (5 + 2 * (row_at s j).lates) (row_at s j)
  plain_moves two = plain_bound (point at) (rw two)

  -- In kind 3, b + 5 + 2 f.
  pub fast_moves : byte 2 trace ≡ 3 → (j : ℕ) → Within (byte 4 trace + 5 + 2 * (row_at s j).lates) (row_at s j)
  fast_moves three = fast_bound (point at) (rw three)

  -- Counts: these moves and late writes are counts of the records of the trace ..
  pub counts : (j : ℕ) → Counted (shape trace) (start_of most trace) (rest_of trace) k j (row_at s j)
  counts j = reach_counts _ (point at).sound _ (point at).starts (rest_of trace) k at.led j

  -- .. so the bounds are bounds on the trace.
  pub plain_records : byte 2 trace ≡ 2 → (j : ℕ) → moves_in trace j k ≤ 5 + 2 * lates_in most trace j k
  plain_records two j = rw (← (counts j).moves, ← (counts j).lates) (plain_moves two j).bounded

  pub fast_records : byte 2 trace ≡ 3 → (j : ℕ) → moves_in trace j k ≤ byte 4 trace + 5 + 2 * lates_in most trace j k
  fast_records three j = rw (← (counts j).moves, ← (counts j).lates) (fast_moves three j).bounded

-- FROM POINT TO POINT: who has decided keeps its decision, so decisions at any two points of a run agree.
pub decided_for_good : {most : ℕ} {trace : List ℕ} {j k : ℕ} {s t : State} → At most trace j s → At most trace k t → j ≤ k → (i v : ℕ) → Decides s i v
    → Decides t i v
decided_for_good = stays_decided

pub agreement_ever : {most : ℕ} {trace : List ℕ} {j k : ℕ} {s t : State} → At most trace j s → At most trace k t → (i m v w : ℕ) → Decides s i v
    → Decides t m w → v ≡ w
agreement_ever {most} {trace} {j} {k} {s} {t} at at' i m v w a b = by (dec_lt j k)
  where
    by : Dec (j < k) → v ≡ w
    by (yes h) = agreement at' i m v w (decided_for_good at at' (omega arith) i v a) b
    by (no h) = agreement at i m v w a (decided_for_good at' at (omega arith) m w b)

-- OF A WHOLE RUN: an accepted run ends in such a state, after all its records; and one that is refused at record k + 1 had reached one after k. All
-- of the above holds of them.
pub run_at : (most : ℕ) (trace : List ℕ) (room : ℕ) {s : State} → Bytes trace → run_of most trace room ≡ going s → At most trace (records (rest_of trace)) s
run_at = run_led

pub refused_at : (most : ℕ) (trace : List ℕ) (room : ℕ) {x k : ℕ} → Bytes trace → run_of most trace room ≡ stopped x (suc k) → (s : State) × At most trace k s
refused_at = refused_led

-- AFTER EACH ACCEPTED RECORD: the trace cut there is a trace, whatever comes behind. It is accepted, with 0 and k, and reports the state that the
-- whole run had there; so all that is promised of a run is promised after each of its records, also of those before a refusal.
pub after_each_record : (most : ℕ) (trace old : List ℕ) → (ran_of most trace old).outcome.number ≡ 0 → (k : ℕ) → k ≤ records (rest_of trace)
    → (s : State) × CutThere most trace old k s
after_each_record = cut_anywhere

pub before_a_refusal : (most : ℕ) (trace old : List ℕ) {x j : ℕ} → (ran_of most trace old).outcome ≡ record { number = suc x; at = suc j }
    → (k : ℕ) → k ≤ j → (s : State) × CutThere most trace old k s
before_a_refusal = cut_before

-- IN THE REPORT'S OWN NUMBERS, of an accepted run, for rows below n
module _ (most : ℕ) (trace old : List ℕ) (bytes : Bytes trace) (accepted : (ran_of most trace old).outcome.number ≡ 0) where
  -- Exclusion: no two rows show place 5 and one c.
  pub report_exclusion : (i j : ℕ) → i < byte 3 trace → j < byte 3 trace → shown most trace old i 0 ≡ 5 → shown most trace old j 0 ≡ 5
      → shown most trace old i 1 ≡ shown most trace old j 1 → i ≡ j
  report_exclusion = rows_exclude most trace old bytes accepted

  -- Agreement: in kinds 2 and 3, rows whose second number is not 0 show one value, whatever their places: those that crashed too.
  pub report_agreement : Decision trace → (i j : ℕ) → i < byte 3 trace → j < byte 3 trace → shown most trace old i 1 ≢ 0
      → shown most trace old j 1 ≢ 0 → shown most trace old i 1 ≡ shown most trace old j 1
  report_agreement = rows_agree most trace old bytes accepted

  -- Validity: it is the start byte of a row with moves.
  pub report_validity : Decision trace → (j : ℕ) → j < byte 3 trace → shown most trace old j 1 ≢ 0 → ShownProposed most trace old j
  report_validity = row_proposed most trace old bytes accepted

  -- It is the decided value of the last state, crashed or not: 0 for who has not decided (`undecided`).
  pub report_value : Decision trace → (j : ℕ) → j < byte 3 trace → {s : State} → run_of most trace (length old) ≡ going s
      → shown most trace old j 1 ≡ (row_at s j).local.decided
  report_value = row_value most trace old bytes accepted

  -- It is 0 for a process that has not decided, at a place other than 8 and 9, and not 0 for one at 8.
  pub report_undecided : Decision trace → (j : ℕ) → j < byte 3 trace → shown most trace old j 0 ≢ 8 → shown most trace old j 0 ≢ 9
      → shown most trace old j 1 ≡ 0
  report_undecided = row_undecided most trace old bytes accepted

  pub report_decided : Decision trace → (j : ℕ) → j < byte 3 trace → shown most trace old j 0 ≡ 8 → shown most trace old j 1 ≢ 0
  report_decided = row_decided most trace old bytes accepted

  -- Counts: the third and the fourth number of a row are counts over all records of the trace.
  pub report_moves : (j : ℕ) → j < byte 3 trace → shown most trace old j 2 ≡ moves_in trace j (records (rest_of trace))
  report_moves = row_moves most trace old bytes accepted

  pub report_lates : (j : ℕ) → j < byte 3 trace → shown most trace old j 3 ≡ lates_in most trace j (records (rest_of trace))
  report_lates = row_lates most trace old bytes accepted

  -- Moves: no row is past its bound, and at its bound it shows 8, unless it crashed.
  pub report_plain_moves : byte 2 trace ≡ 2 → (j : ℕ) → j < byte 3 trace → ShownWithin (5 + 2 * shown most trace old j 3) most trace old j
  report_plain_moves two j h = row_plain most trace old bytes accepted j h two

  pub report_fast_moves : byte 2 trace ≡ 3 → (j : ℕ) → j < byte 3 trace → ShownWithin (byte 4 trace + 5 + 2 * shown most trace old j 3) most trace old j
  report_fast_moves three j h = row_fast most trace old bytes accepted j h three
