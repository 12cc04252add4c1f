-- The states that the theorems speak of are points of a run: what the bytes of a trace say, handed to the invariants.
-- Assumes nothing.
use Prim.Native.Nat.{ℕ, suc, ◌+◌, ◌*◌, ◌≤◌, ◌<◌}
use mathlib.Core.Path.{◌≡◌, sym, subst, ◌∙◌}
use mathlib.Core.Logic.{◌≢◌}
use mathlib.Core.List.{List}
use native.Mathlib.Omega.{arith}
use native.Mathlib.Decide.{ℕ_discrete}
use lib.Dec.{T}
use lib.ListN.{length, get_or}
use Rattle.records.specs.Record.{byte}
use Rattle.kinds.specs.Kinds.{kind_of}
use Rattle.setups.specs.Setup.{places, start_bytes}
use Rattle.setups.proofs.SetupLaws.{setup_said, place_at}
use Rattle.model.specs.declared.State.{State}
use Rattle.model.specs.Routine.{routine_of, routine}
use Rattle.model.specs.Bounds.{Bytes}
use Rattle.model.specs.Run.{row_at, shape, rest_of, records, start_of, reached, run_of, Progress.going, Progress.stopped}
use Rattle.model.specs.Report.{ran_of}
use Rattle.model.specs.Claims.{At, Decides, Proposed, Within, Counted, moves_in, lates_in, Decision, shown, ShownProposed, ShownWithin}
use Rattle.model.proofs.Places.{timed_decision, concluded}
use Rattle.model.proofs.RunLaws.{follow_same, run_going}
use Rattle.model.proofs.SetupSays.{setup_sound, setup_starts, run_said}
use Rattle.model.proofs.Consequences.{Point, decision_figure, decision_proposed, plain_bound, fast_bound, shown_exclusion, shown_agreement, shown_proposed}
use Rattle.model.proofs.Consequences.{shown_undecided, shown_decided, shown_done}
use Rattle.model.proofs.Counts.{run_counts}
use Rattle.model.proofs.Later.{decided_stays}
use Rattle.model.proofs.Shown.{run_stopped_after, accepted_goes, shows}

pub run_led : (most : ℕ) (trace : List ℕ) (room : ℕ) {s : State} → Bytes trace → run_of most trace room ≡ going s → At most trace (records (rest_of trace)) s
run_led most trace room bytes e =
    let both = run_going _ _ _ _ e in
    record { bytes = bytes; setup = (run_said most trace room both.0).setup; led = both.1 }

-- a run that is refused at record k + 1 had reached such a state after k
pub refused_led : (most : ℕ) (trace : List ℕ) (room : ℕ) {x k : ℕ} → Bytes trace → run_of most trace room ≡ stopped x (suc k) → (s : State) × At most trace k s
refused_led most trace room {x} {k} bytes e =
    let both = run_stopped_after _ _ _ _ e in
    let p = both.1 in
    let same : p.k ≡ k = omega (arith, p.index) in
    let led = subst (λ (n : ℕ). reached most trace n ≡ going p.state) same p.led in
    (p.state, record { bytes = bytes; setup = (run_said most trace room both.0).setup; led = led })

abbrev pub point : {most : ℕ} {trace : List ℕ} {k : ℕ} {s : State} → At most trace k s → Point (shape trace) s
point {most} {trace} {k} at =
    record {
      sound = setup_sound most trace at.setup at.bytes;
      bytes = places most (start_bytes trace);
      starts = setup_starts most trace at.setup;
      rest = rest_of trace;
      k = k;
      led = at.led;
    }

-- the start byte of row j
start_byte : {most : ℕ} {trace : List ℕ} {k : ℕ} {s : State} → At most trace k s → (j : ℕ) → j < byte 3 trace
    → get_or (places most (start_bytes trace)) j 0 ≡ byte (8 + j) trace
start_byte {most} {trace} at j h = place_at trace (setup_said most trace at.setup).head.whole most j h

pub proposed_there : {most : ℕ} {trace : List ℕ} {k : ℕ} {s : State} → At most trace k s → (j : ℕ) → T (concluded (row_at s j).local.place)
    → Proposed trace s (row_at s j).local.decided
proposed_there at j a =
    let p = decision_proposed (point at) j a in
    record { who = p.0; among = p.1; proposed = sym (start_byte at p.0 p.1) ∙ p.2; moved = p.3 }

pub stays_decided : {most : ℕ} {trace : List ℕ} {j k : ℕ} {s t : State} → At most trace j s → At most trace k t → j ≤ k → (i v : ℕ) → Decides s i v
    → Decides t i v
stays_decided {most} {trace} {j} {k} at at' h i v a =
    let p = point at in
    decided_stays (shape trace) p.sound _ p.starts (rest_of trace) i v j
    (λ s e. subst (λ (x : State). Decides x i v) (follow_same _ _ j at.led e) a) k h at'.led

-- kinds 2 and 3 decide by the timed register
decision_timed : (kind : ℕ) → (2 ≤ kind) × (kind ≤ 3) → T (timed_decision (routine_of (kind_of kind)))
decision_timed kind h = by (ℕ_discrete kind 2)
  where
    by : Dec (kind ≡ 2) → T (timed_decision (routine_of (kind_of kind)))
    by (yes e) = rw e tt
    by (no n) = let three : kind ≡ 3 = omega (arith, h.0, h.1) in rw three tt

-- THE REPORT of an accepted run
module _ (most : ℕ) (trace old : List ℕ) (bytes : Bytes trace) (accepted : (ran_of most trace old).outcome.number ≡ 0) where
  abbrev end : (s : State) × (run_of most trace (length old) ≡ going s)
  end = accepted_goes most trace old accepted

  abbrev at_end : At most trace (records (rest_of trace)) end.0
  at_end = run_led most trace (length old) bytes end.1

  module _ (i j : ℕ) (h : i < byte 3 trace) (g : j < byte 3 trace) where
    pub rows_exclude : shown most trace old i 0 ≡ 5 → shown most trace old j 0 ≡ 5 → shown most trace old i 1 ≡ shown most trace old j 1 → i ≡ j
    rows_exclude a b e =
        let x = shows most trace old end.1 i h in
        let y = shows most trace old end.1 j g in
        shown_exclusion (point at_end) i j (sym x.place ∙ a) (sym y.place ∙ b) (sym x.figure ∙ e ∙ y.figure)

  -- of a decision
  module _ (kind : Decision trace) where
    abbrev timed : T (timed_decision (routine (shape trace)))
    timed = decision_timed (byte 2 trace) kind

    module _ (j : ℕ) (h : j < byte 3 trace) where
      pub row_proposed : shown most trace old j 1 ≢ 0 → ShownProposed most trace old j
      row_proposed a =
          let x = shows most trace old end.1 j h in
          let p = shown_proposed (point at_end) timed j (λ z. a (x.figure ∙ z)) in
          record {
            who = p.0;
            among = p.1;
            proposed = sym (start_byte at_end p.0 p.1) ∙ p.2 ∙ sym x.figure;
            moved = rw (shows most trace old end.1 p.0 p.1).moves p.3;
          }

      pub row_value : {s : State} → run_of most trace (length old) ≡ going s → shown most trace old j 1 ≡ (row_at s j).local.decided
      row_value {s} e = (shows most trace old e j h).figure ∙ decision_figure (routine (shape trace)) timed (row_at s j)

      pub row_undecided : shown most trace old j 0 ≢ 8 → shown most trace old j 0 ≢ 9 → shown most trace old j 1 ≡ 0
      row_undecided a b =
          let x = shows most trace old end.1 j h in
          x.figure ∙ shown_undecided (point at_end) timed j (λ z. a (x.place ∙ z)) (λ z. b (x.place ∙ z))

      pub row_decided : shown most trace old j 0 ≡ 8 → shown most trace old j 1 ≢ 0
      row_decided a z =
          let x = shows most trace old end.1 j h in
          shown_decided (point at_end) timed j (sym x.place ∙ a) (sym x.figure ∙ z)

    pub rows_agree : (i j : ℕ) → i < byte 3 trace → j < byte 3 trace → shown most trace old i 1 ≢ 0 → shown most trace old j 1 ≢ 0
        → shown most trace old i 1 ≡ shown most trace old j 1
    rows_agree i j h g a b =
        let x = shows most trace old end.1 i h in
        let y = shows most trace old end.1 j g in
        x.figure ∙ shown_agreement (point at_end) timed i j (λ z. a (x.figure ∙ z)) (λ z. b (y.figure ∙ z)) ∙ sym y.figure

  module _ (j : ℕ) (h : j < byte 3 trace) where
    -- the counts
    counted_there : Counted (shape trace) (start_of most trace) (rest_of trace) (records (rest_of trace)) j (row_at end.0 j)
    counted_there = run_counts most trace (length old) bytes end.1 j

    pub row_moves : shown most trace old j 2 ≡ moves_in trace j (records (rest_of trace))
    row_moves = (shows most trace old end.1 j h).moves ∙ counted_there.moves

    pub row_lates : shown most trace old j 3 ≡ lates_in most trace j (records (rest_of trace))
    row_lates = (shows most trace old end.1 j h).lates ∙ counted_there.lates

    row_within : (bound : ℕ) → Within bound (row_at end.0 j) → ShownWithin bound most trace old j
    row_within bound w =
        let x = shows most trace old end.1 j h in
        record {
          bounded = rw x.moves w.bounded;
          decided = λ e n. x.place ∙ shown_done (point at_end) bound j w (sym x.moves ∙ e) (λ z. n (x.place ∙ z));
        }

    pub row_plain : byte 2 trace ≡ 2 → ShownWithin (5 + 2 * shown most trace old j 3) most trace old j
    row_plain two = row_within (5 + 2 * shown most trace old j 3) (rw (shows most trace old end.1 j h).lates (plain_bound (point at_end) (rw two) j))

    pub row_fast : byte 2 trace ≡ 3 → ShownWithin (byte 4 trace + 5 + 2 * shown most trace old j 3) most trace old j
    row_fast three =
        row_within (byte 4 trace + 5 + 2 * shown most trace old j 3) (rw (shows most trace old end.1 j h).lates (fast_bound (point at_end) (rw three) j))
