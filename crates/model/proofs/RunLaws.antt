-- Laws of a run, a fold over a tape: what one record does to it, and what holds after each of them.
-- Assumes nothing.
use Prim.Native.Nat.{ℕ, zero, suc, ◌+◌, ◌*◌, ◌-◌, ◌≤◌, ◌<◌}
use mathlib.Core.Path.{◌≡◌, refl, sym, ap, subst, ◌∙◌}
use mathlib.Core.List.{List}
use native.Mathlib.Numerals.{add-one}
use native.Mathlib.Nat.{add-zero, add-suc}
use native.Mathlib.Omega.{arith}
use lib.ListN.{length, length-drop}
use Rattle.terms.specs.Refusal.{if_accepted}
use Rattle.terms.proofs.RefusalLaws.{then_both, if_accepted_lem, if_refused}
use Rattle.steps.proofs.StepLaws.{step_said}
use Rattle.model.specs.declared.Shape.{Shape}
use Rattle.model.specs.declared.State.{State}
use Rattle.model.specs.Run.{Progress, Progress.going, Progress.stopped, after, record_refusal, Tape, advance, follow, run_on, step_at}
use Rattle.model.specs.Run.{step_tape, reach, records}
use Rattle.model.specs.Run.{rest_of, run_refusal, reached, run_of}
pub use Rattle.model.specs.Run.{record_at}

-- no run is both going on and stopped, and one that goes on is in one state
pub going_same : {s t : State} → going s ≡ going t → s ≡ t
going_same e = cc

pub going-stopped : {s : State} {x j : ℕ} → going s ≡ stopped x j → ⊥
going-stopped e = let z : ◌≡◌ {A = ℕ} 0 1 = cc in omega arith

-- ON ANY TAPE

-- what is kept by each accepted record
abbrev pub KeepsOn : Tape → (ℕ → State → Type 0) → Type 0
KeepsOn tape P = (k : ℕ) (s : State) → tape.refusal k s ≡ 0 → P k s → P (suc k) (tape.after k s)

if_going : (x k : ℕ) {s t : State} → if_accepted x (going s) (stopped x k) ≡ going t → (x ≡ 0) × (s ≡ t)
if_going zero k e = (refl, going_same e)
if_going (suc x) k e = absurd (going-stopped (sym e))

module _ (tape : Tape) (x : State) where
  pub follow_start : follow tape x 0 ≡ going x
  unfolding follow
  follow_start = refl

  -- ONE RECORD MORE, where the first k are accepted
  module _ (k : ℕ) {s : State} (so_far : follow tape x k ≡ going s) where
    one_more : follow tape x (suc k) ≡ advance tape k (going s)
    unfolding follow
    one_more = ap (advance tape k) so_far

    pub follow_accepts : tape.refusal k s ≡ 0 → follow tape x (suc k) ≡ going (tape.after k s)
    unfolding advance
    follow_accepts h = one_more ∙ if_accepted_lem _ h _ _

    pub follow_refuses : (tape.refusal k s ≡ 0 → ⊥) → follow tape x (suc k) ≡ stopped (tape.refusal k s) (suc k)
    unfolding advance
    follow_refuses h = one_more ∙ if_refused _ h _ _

  -- A REFUSAL STAYS
  stays_one : (m : ℕ) {y j : ℕ} → follow tape x m ≡ stopped y j → follow tape x (suc m) ≡ stopped y j
  unfolding follow advance
  stays_one m h = ap (advance tape m) h

  stays : (k d : ℕ) {y j : ℕ} → follow tape x k ≡ stopped y j → follow tape x (k + d) ≡ stopped y j
  stays k zero e = rw add-zero e
  stays k (suc d) e = rw add-suc (stays_one (k + d) (stays k d e))

  pub follow_stays : (k m : ℕ) {y j : ℕ} → follow tape x k ≡ stopped y j → k ≤ m → follow tape x m ≡ stopped y j
  follow_stays k m e h =
      let sum : k + (m - k) ≡ m = omega arith in
      rw (← sum) (stays k (m - k) e)

  -- EACH RECORD: before a state that was reached there was one, and the record that led on was accepted
  pub before : (k : ℕ) {s : State} → follow tape x (suc k) ≡ going s
      → (t : State) × (follow tape x k ≡ going t) × (tape.refusal k t ≡ 0) × (tape.after k t ≡ s)
  unfolding follow advance
  before k {s} e = by (follow tape x k) refl e
    where
      by : (p : Progress) → follow tape x k ≡ p → advance tape k p ≡ going s
          → (t : State) × (follow tape x k ≡ going t) × (tape.refusal k t ≡ 0) × (tape.after k t ≡ s)
      by (going t) f g = let a = if_going _ _ g in (t, f, a.0, a.1)
      by (stopped y j) f g = absurd (going-stopped (sym g))

  -- from point to point: the record was accepted, and led there
  pub follow_next : (k : ℕ) {s t : State} → follow tape x k ≡ going s → follow tape x (suc k) ≡ going t
      → (tape.refusal k s ≡ 0) × (tape.after k s ≡ t)
  follow_next k {s} {t} e f =
      let b = before k f in
      let same = going_same (sym b.1 ∙ e) in
      subst (λ (y : State). (tape.refusal k y ≡ 0) × (tape.after k y ≡ t)) same (b.2, b.3)

  -- what holds at the start and is kept by each accepted record holds after each of them
  pub each_record : (P : ℕ → State → Type 0) → P 0 x → KeepsOn tape P → (k : ℕ) {s : State} → follow tape x k ≡ going s → P k s
  unfolding follow
  each_record P start keep zero e = subst (P 0) (going_same e) start
  each_record P start keep (suc k) e =
      let b = before k e in
      subst (P (suc k)) b.3 (keep k b.0 b.2 (each_record P start keep k b.1))

  -- accepted is: every record was accepted where those before it led
  pub follow_all : (k : ℕ) → ((j : ℕ) (s : State) → j < k → follow tape x j ≡ going s → tape.refusal j s ≡ 0)
      → (s : State) × (follow tape x k ≡ going s)
  follow_all zero h = (x, follow_start)
  follow_all (suc k) h =
      let there = follow_all k (λ j s l. h j s (omega arith)) in
      (tape.after k there.0, follow_accepts k there.1 (h k there.0 (omega arith) there.1))

  -- a prefix of an accepted trace is accepted
  pub follow-going_before : (j k : ℕ) {s : State} → follow tape x k ≡ going s → j ≤ k → (t : State) × (follow tape x j ≡ going t)
  follow-going_before j k {s} e h = by (follow tape x j) refl
    where
      by : (p : Progress) → follow tape x j ≡ p → (t : State) × (follow tape x j ≡ going t)
      by (going t) f = (t, f)
      by (stopped y i) f = absurd (going-stopped (sym e ∙ follow_stays j k f h))

  -- a run is in one state after k records
  pub follow_same : (k : ℕ) {s t : State} → follow tape x k ≡ going s → follow tape x k ≡ going t → s ≡ t
  follow_same k e f = going_same (sym e ∙ f)

-- TWO TAPES: what one accepts of its first n records the other does, and goes on alike
pub follow_alike : (tape other : Tape) (x : State) (n : ℕ)
    → ((k : ℕ) (s : State) → k < n → follow tape x k ≡ going s → tape.refusal k s ≡ 0 → (other.refusal k s ≡ 0) × (other.after k s ≡ tape.after k s))
    → (k : ℕ) → k ≤ n → {s : State} → follow tape x k ≡ going s → follow other x k ≡ going s
follow_alike tape other x n same zero h e = follow_start other x ∙ sym (follow_start tape x) ∙ e
follow_alike tape other x n same (suc k) h e =
    let b = before tape x k e in
    let s = same k b.0 (omega arith) b.1 b.2 in
    follow_accepts other x k (follow_alike tape other x n same k (omega arith) b.1) s.0 ∙ ap going (s.1 ∙ b.3)

-- A RUN of n records, with the refusal `first` before them
module _ (first : ℕ) (tape : Tape) (x : State) (n : ℕ) where
  pub run_refused : (first ≡ 0 → ⊥) → run_on first tape x n ≡ stopped first 0
  unfolding run_on
  run_refused h = if_refused _ h _ _

  pub run_follows : first ≡ 0 → run_on first tape x n ≡ follow tape x n
  unfolding run_on
  run_follows h = if_accepted_lem _ h _ _

  pub run_stops : first ≡ 0 → (k : ℕ) {y j : ℕ} → follow tape x k ≡ stopped y j → k ≤ n → run_on first tape x n ≡ stopped y j
  run_stops h k e l = run_follows h ∙ follow_stays tape x k n e l

  -- an accepted run reaches its state by all its records
  pub run_going : {s : State} → run_on first tape x n ≡ going s → (first ≡ 0) × (follow tape x n ≡ going s)
  unfolding run_on
  run_going {s} e = by first refl e
    where
      by : (y : ℕ) → first ≡ y → if_accepted y (follow tape x n) (stopped y 0) ≡ going s → (first ≡ 0) × (follow tape x n ≡ going s)
      by zero z f = (z, f)
      by (suc y) z f = absurd (going-stopped (sym f))

-- ON STEP RECORDS

-- what is kept by each accepted record of these bytes
abbrev pub Keeps : Shape → List ℕ → (ℕ → State → Type 0) → Type 0
Keeps u rest P = KeepsOn (step_tape u rest) P

module _ (u : Shape) (x : State) (rest : List ℕ) where
  pub reach_start : reach u x rest 0 ≡ going x
  reach_start = follow_start (step_tape u rest) x

  pub reach_stays : (k m : ℕ) {y j : ℕ} → reach u x rest k ≡ stopped y j → k ≤ m → reach u x rest m ≡ stopped y j
  reach_stays = follow_stays (step_tape u rest) x

  -- one record more: refused with y, or accepted
  module _ (k : ℕ) {s : State} (so_far : reach u x rest k ≡ going s) where
    pub reach_refused : {y : ℕ} → y ≡ record_refusal u s (record_at rest k) → (y ≡ 0 → ⊥) → reach u x rest (k + 1) ≡ stopped y (k + 1)
    reach_refused e h =
        rw add-one (follow_refuses (step_tape u rest) x k so_far (λ z. h (e ∙ z)) ∙ ap (λ (y : ℕ). stopped y (suc k)) (sym e))

    pub reach_accepted : record_refusal u s (record_at rest k) ≡ 0 → reach u x rest (k + 1) ≡ going (after u s (step_at rest k))
    reach_accepted h = rw add-one (follow_accepts (step_tape u rest) x k so_far h)

  -- an accepted record has its eight bytes
  pub reach_long : (k : ℕ) {s : State} → reach u x rest k ≡ going s → k * 8 ≤ length rest
  unfolding record_refusal
  reach_long zero e = omega arith
  reach_long (suc k) e =
      let eight = (step_said u.count (record_at rest k) (then_both _ _ (before (step_tape u rest) x k e).2).0).eight in
      omega (arith, length-drop (k * 8) rest)

-- HOW MANY RECORDS there are: at the end of the bytes, before it, and where all are accepted

pub records_end : (rest : List ℕ) (k : ℕ) → length rest ≡ k * 8 → records rest ≡ k
unfolding records
records_end rest k h = omega arith

pub records_past : (rest : List ℕ) (k : ℕ) → k * 8 < length rest → k + 1 ≤ records rest
unfolding records
records_past rest k h = omega arith

pub records_whole : (u : Shape) (x : State) (rest : List ℕ) {s : State} → reach u x rest (records rest) ≡ going s → length rest ≡ records rest * 8
unfolding records
records_whole u x rest e = omega (arith, reach_long u x rest (records rest) e)

-- A TRACE of bytes, and its run
pub run_ends : (most : ℕ) (trace : List ℕ) (room : ℕ) → run_refusal most trace room ≡ 0 → (k : ℕ) {s : State} → reached most trace k ≡ going s
    → length (rest_of trace) ≡ k * 8 → run_of most trace room ≡ going s
run_ends most trace room h k e l = run_follows _ _ _ _ h ∙ ap (reached most trace) (records_end (rest_of trace) k l) ∙ e
