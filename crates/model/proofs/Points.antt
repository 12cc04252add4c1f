-- The points of a run: what its fold has after each record is what a run of the trace cut there ends with; a run is its parts one after the
-- other; what it returns and writes depends on nothing but the bytes and the report's length.
-- Assumes nothing.
use Prim.Native.Nat.{ℕ, zero, suc, ◌+◌, ◌*◌, ◌≤◌}
use mathlib.Core.Path.{◌≡◌, refl, sym, ap, ap₂, ◌∙◌}
use mathlib.Core.List.{List, []}
use native.Mathlib.Omega.{arith}
use native.Mathlib.Nat.{add-zero, add-suc}
use lib.ListN.{length, drop, length-take}
use lib.Seq.{drop-drop}
use Rattle.terms.specs.Overlay.{overlay}
use Rattle.terms.specs.Refusal.{if_accepted}
use Rattle.setups.specs.Setup.{places}
use Rattle.model.specs.declared.Shape.{Shape}
use Rattle.model.specs.declared.State.{State}
use Rattle.model.specs.Routine.{routine}
use Rattle.model.specs.Run.{fresh, record_refusal, Progress, Progress.going, Progress.stopped, record_at, advance, follow, step_tape, reach}
use Rattle.model.specs.Run.{records, shape, rest_of, start_of, reached, run_refusal, run_of}
use Rattle.model.specs.Claims.{cut_at, CutThere}
use Rattle.model.specs.Report.{lines, report_of, outcome_of, ran_of}
use Rattle.model.proofs.RunLaws.{follow-going_before, reach_long, records_end, run_follows, run_ends, run_going}
use Rattle.model.proofs.SetupSays.{run_said, said_run}
use Rattle.model.proofs.Shown.{run_stopped_after, accepted_goes, refused_stops}
use Rattle.model.proofs.Cuts.{reach_cut, starts_cut, shape_cut, setup_cut, rest_cut}

-- CUT TRACES

-- A trace cut after any accepted record is a trace, whatever comes behind: also where a later record is refused.
module _ (most : ℕ) (trace old : List ℕ) (fits : run_refusal most trace (length old) ≡ 0) (k : ℕ) {s : State} (e : reached most trace k ≡ going s) where
  rest_length : length (rest_of (cut_at trace k)) ≡ k * 8
  rest_length =
      let long = reach_long _ _ (rest_of trace) k e in
      rw (rest_cut trace (k * 8), length-take) (omega arith)

  cut_fits : run_refusal most (cut_at trace k) (length old) ≡ 0
  cut_fits =
      let said = run_said most trace (length old) fits in
      said_run most (cut_at trace k) (length old)
      (record {
        setup = setup_cut trace (k * 8) most ∙ said.setup;
        lines = omega (arith, said.lines, ap (λ (u : Shape). u.count) (shape_cut trace (k * 8)));
        short = omega (arith, said.short, rest_length, reach_long _ _ (rest_of trace) k e);
      })

  cut_reached : reached most (cut_at trace k) k ≡ going s
  cut_reached =
      ap₂ (λ (u : Shape) (starts : List ℕ). reach u (fresh u (places most starts)) (rest_of (cut_at trace k)) k)
      (shape_cut trace (k * 8)) (starts_cut trace (k * 8))
      ∙ ap (λ (rest : List ℕ). reach (shape trace) (start_of most trace) rest k) (rest_cut trace (k * 8))
      ∙ reach_cut _ _ (rest_of trace) (k * 8) k (omega arith)
      ∙ e

  pub cut_there : CutThere most trace old k s
  unfolding ran_of outcome_of report_of
  cut_there =
      let there = run_ends most (cut_at trace k) (length old) cut_fits k cut_reached rest_length in
      record {
        whole = e;
        cut = there;
        outcome = ap₂ outcome_of (records_end _ k rest_length) there;
        report = ap₂ (λ (u : Shape) (p : Progress). report_of u old p) (shape_cut trace (k * 8)) there;
      }

-- every point of an accepted run, and of a refused one up to its refusal
pub cut_anywhere : (most : ℕ) (trace old : List ℕ) → (ran_of most trace old).outcome.number ≡ 0 → (k : ℕ) → k ≤ records (rest_of trace)
    → (s : State) × CutThere most trace old k s
cut_anywhere most trace old accepted k l =
    let both = run_going _ _ _ _ (accepted_goes most trace old accepted).1 in
    let there = follow-going_before _ _ k (records (rest_of trace)) both.1 l in
    (there.0, cut_there most trace old both.0 k there.1)

pub cut_before : (most : ℕ) (trace old : List ℕ) {x j : ℕ} → (ran_of most trace old).outcome ≡ record { number = suc x; at = suc j } → (k : ℕ) → k ≤ j
    → (s : State) × CutThere most trace old k s
cut_before most trace old refused k l =
    let both = run_stopped_after _ _ _ _ (refused_stops most trace old refused) in
    let there = follow-going_before _ _ k both.1.k both.1.led (omega (arith, both.1.index)) in
    (there.0, cut_there most trace old both.0 k there.1)

-- TWO PARTS, one after the other

-- a refusal in the second part, where the first has a records
abbrev pub behind : ℕ → Progress → Progress
behind a (going s) = going s
behind a (stopped y j) = stopped y (a + j)

behind_if : (a k y : ℕ) (s : State) → behind a (if_accepted y (going s) (stopped y k)) ≡ if_accepted y (going s) (stopped y (a + k))
behind_if a k zero s = refl
behind_if a k (suc y) s = refl

pub reach_parts : (u : Shape) (x : State) (rest : List ℕ) (a b : ℕ) {s : State} → reach u x rest a ≡ going s
    → reach u x rest (a + b) ≡ behind a (reach u s (record_at rest a) b)
unfolding follow advance
reach_parts u x rest a zero e = rw add-zero e
reach_parts u x rest a (suc b) {s} e =
    rw (add-suc) (ap (advance (step_tape u rest) (a + b)) (reach_parts u x rest a b e) ∙ here (reach u s (record_at rest a) b))
  where
    there : record_at (record_at rest a) b ≡ record_at rest (a + b)
    there =
        let place : a * 8 + b * 8 ≡ (a + b) * 8 = omega arith in
        drop-drop (b * 8) (a * 8) rest ∙ ap (λ (n : ℕ). drop n rest) place

    here : (p : Progress) → advance (step_tape u rest) (a + b) (behind a p) ≡ behind a (advance (step_tape u (record_at rest a)) b p)
    here (going y) = rw (← there, ← add-suc a b) (sym (behind_if a (suc b) (record_refusal u y (record_at (record_at rest a) b)) _))
    here (stopped y j) = refl

-- NOTHING BUT THE BYTES AND THE REPORT'S LENGTH

-- whatever the report held, the outcome is the same
pub outcome_by_length : (most : ℕ) (trace old other : List ℕ) → length old ≡ length other → (ran_of most trace old).outcome ≡ (ran_of most trace other).outcome
unfolding ran_of
outcome_by_length most trace old other h = ap (λ (room : ℕ). outcome_of (records (rest_of trace)) (run_of most trace room)) h

-- and what is written over its front is
abbrev written_of : Shape → Progress → List ℕ
written_of u (going s) = lines (routine u) s.rows u.count
written_of u (stopped y j) = []

written_over : (u : Shape) (old : List ℕ) (p : Progress) → report_of u old p ≡ overlay (written_of u p) old
unfolding report_of
written_over u old (going s) = refl
written_over u old (stopped y j) = refl

pub written_by_length : (most : ℕ) (trace : List ℕ) (room : ℕ)
    → (w : List ℕ) × ((old : List ℕ) → length old ≡ room → (ran_of most trace old).report ≡ overlay w old)
unfolding ran_of
written_by_length most trace room =
    (written_of (shape trace) (run_of most trace room), λ old h. rw h (written_over (shape trace) old (run_of most trace room)))

-- two reports that are both long enough see the same run
pub run_by_bytes : (most : ℕ) (trace : List ℕ) (room other : ℕ) → run_refusal most trace room ≡ 0 → run_refusal most trace other ≡ 0
    → run_of most trace room ≡ run_of most trace other
run_by_bytes most trace room other h g = run_follows _ _ _ _ h ∙ sym (run_follows _ _ _ _ g)
