-- From a point of a run on: what each accepted record keeps holds at every later point. A decided process stays so.
-- Assumes nothing.
use Prim.Native.Nat.{ℕ, suc, ◌≤◌, ◌<◌}
use mathlib.Core.Path.{◌≡◌, refl, sym, ap, ◌∙◌}
use mathlib.Core.Bool.{false, false≢true}
use mathlib.Core.List.{List}
use native.Mathlib.Omega.{arith}
use native.Mathlib.Decide.{dec_lt}
use Rattle.terms.specs.Numbers.{index_of}
use Rattle.steps.specs.declared.Step.{Step}
use Rattle.model.specs.declared.Place.{Place}
use Rattle.model.specs.declared.Shape.{Shape}
use Rattle.model.specs.declared.Row.{Row}
use Rattle.model.specs.declared.State.{State}
use Rattle.model.specs.Routine.{is_decided}
use Rattle.model.specs.Bounds.{Sound, Starts}
use Rattle.model.specs.Run.{row_at, fresh, after, step_at, step_tape, reach, Progress.going}
use Rattle.model.proofs.RunLaws.{record_at, Keeps, reach_start, follow_accepts, each_record}
use Rattle.model.proofs.Turns.{turn}
use Rattle.model.proofs.Keeping.{Kept, kept_fresh, kept_after, Admitted, admitted}

module _ (u : Shape) (so : Sound u) (xs : List ℕ) (st : Starts u xs) (rest : List ℕ) where
  pub from_then : (P : State → Type 0) (j : ℕ) → ((s : State) → reach u (fresh u xs) rest j ≡ going s → P s)
      → ((k : ℕ) (s : State) → Kept u s → Admitted u s (step_at rest k) → P s → P (after u s (step_at rest k))) → (k : ℕ) {s : State} → j ≤ k
      → reach u (fresh u xs) rest k ≡ going s → P s
  from_then P j then keep k h e = (each_record (step_tape u rest) (fresh u xs) Q start kept k e).2 h
    where
      Q : ℕ → State → Type 0
      Q k s = (reach u (fresh u xs) rest k ≡ going s) × Kept u s × (j ≤ k → P s)

      start : Q 0 (fresh u xs)
      start =
          let none = reach_start u (fresh u xs) rest in
          (none, kept_fresh u so xs st, λ l. let z : j ≡ 0 = omega arith in then (fresh u xs) (rw z none))

      kept : Keeps u rest Q
      kept k s a q =
          let ad = admitted u s (record_at rest k) a in
          let here = follow_accepts (step_tape u rest) (fresh u xs) k q.0 a in
          (here, kept_after u so s q.1 _ ad, by here ad (dec_lt k j))
        where
          by : reach u (fresh u xs) rest (suc k) ≡ going (after u s (step_at rest k)) → Admitted u s (step_at rest k) → Dec (k < j) → j ≤ suc k
              → P (after u s (step_at rest k))
          by here ad (yes l) m = let z : j ≡ suc k = omega arith in then _ (rw z here)
          by here ad (no l) m = keep k s q.1 ad (q.2 (omega arith))

  -- a process that has decided v
  abbrev DecidedOn : ℕ → Row → Type 0
  DecidedOn v r = (r.local.place ≡ Place.Decided) × (r.local.decided ≡ v)

  pub decided_stays : (i v j : ℕ) → ((s : State) → reach u (fresh u xs) rest j ≡ going s → DecidedOn v (row_at s i)) → (k : ℕ) {s : State} → j ≤ k
      → reach u (fresh u xs) rest k ≡ going s → DecidedOn v (row_at s i)
  decided_stays i v j then =
      from_then (λ s. DecidedOn v (row_at s i)) j then
      (λ k s kt ad old.
      turn u s (step_at rest k) (omega (arith, kt.rows, ad.among)) (λ m r. m ≡ i → DecidedOn v r) (λ m n e. rw e old) (λ b e. rw e old)
      (λ b e. absurd (moved s (step_at rest k) old e (ad.undecided b))) i refl)
    where
      moved : (s : State) (k : Step) → DecidedOn v (row_at s i) → index_of k.process ≡ i
          → is_decided (row_at s (index_of k.process)).local.place ≡ false → ⊥
      moved s k old e d = false≢true (sym (rw e at d) ∙ ap is_decided old.0)
