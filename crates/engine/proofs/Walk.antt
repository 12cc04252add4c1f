-- The walk over a run's records: an accepted record leads on, a refused one and the end give the run's answer.
-- Assumes nothing.
use Prim.Native.Nat.{ℕ, ◌+◌, ◌*◌, ◌≤◌, ◌<◌}
use mathlib.Core.Path.{◌≡◌, refl, sym, ap, ◌∙◌}
use mathlib.Core.List.{List}
use native.Mathlib.Omega.{arith}
use lib.ListN.{length}
use Rattle.std.specs.Prelude.{Ok, Err}
use Rattle.terms.specs.declared.Refusal.{Refusal}
use Rattle.terms.specs.Limits.{most_steps}
use Rattle.terms.specs.Overlay.{overlay}
use Rattle.terms.specs.Refusal.{if_accepted, number}
use Rattle.terms.proofs.RefusalLaws.{if_accepted_lem, some_number}
use Rattle.model.specs.declared.Shape.{Shape}
use Rattle.model.specs.declared.State.{State}
use Rattle.model.specs.declared.Refused.{Refused}
use Rattle.model.specs.Routine.{routine}
use Rattle.model.specs.Bounds.{Sound}
use Rattle.model.specs.Run.{fresh, after, record_refusal, record_at, step_at, reach, records, Progress, Progress.going}
use Rattle.model.specs.Report.{lines, outcome_of, report_of}
use Rattle.model.proofs.RunLaws.{reach_refused, reach_accepted, reach_stays, records_past}
use Rattle.model.proofs.Rooms.{reach_room}
use Rattle.model.proofs.ReportLaws.{ran_by, ran_stopped}
use Rattle.engine.specs.Walk.{Roomy, Begins, Walked, ran_from}

-- the first k records of these bytes are accepted, and led from the state x to the state s
pub record Going (u : Shape) (x : State) (rest : List ℕ) (s : State) (k : ℕ) : Type 0 where
  pub so_far : reach u x rest k ≡ going s

-- at the end of the bytes
pub arrives : {u : Shape} {x s : State} {rest : List ℕ} {k n : ℕ} → Going u x rest s k → k ≡ n → n ≡ records rest → Walked u x rest (Ok n) s
arrives {u} {x} {s} {rest} g last all = record { led = ap (reach u x rest) (sym (last ∙ all)) ∙ g.so_far; counted = all }

-- ONE RECORD MORE
module _ {u : Shape} {x s : State} {rest : List ℕ} {k : ℕ} (g : Going u x rest s k) (left : k * 8 < length rest) where
  pub roomy : Sound u → Begins u x → length rest ≤ 8 * most_steps → Roomy u s
  roomy so b short j below =
      let from : reach u (fresh u b.bytes) rest k ≡ going s = ap (λ (y : State). reach u y rest k) (sym b.fresh) ∙ g.so_far in
      reach_room u so b.bytes b.starts rest k from (omega arith) j below

  -- refused
  pub falls : {e : Refusal} → number e ≡ record_refusal u s (record_at rest k) → (t : State)
      → Walked u x rest (Err (record { refusal = e; at = k + 1 })) t
  falls {e} h t =
      record {
        led = reach_stays u x rest (k + 1) (records rest) (reach_refused u x rest k g.so_far h (some_number e)) (records_past rest k left);
        counted = tt;
      }

  -- accepted
  pub lands : 0 ≡ record_refusal u s (record_at rest k) → {t : State}
      → t ≡ if_accepted (record_refusal u s (record_at rest k)) (after u s (step_at rest k)) s → Going u x rest t (k + 1)
  lands z e =
      record { so_far = reach_accepted u x rest k g.so_far (sym z) ∙ ap going (sym (e ∙ if_accepted_lem _ (sym z) _ _)) }

-- A RUN, by its walk from the fresh state

module _ (u : Shape) (xs rest : List ℕ) {x : State} (starts : x ≡ fresh u xs) (old : List ℕ) where
  by_walk : {q : Progress} → reach u x rest (records rest) ≡ q → ran_by u rest old q ≡ ran_from u xs rest old
  by_walk e = ap (ran_by u rest old) (sym e ∙ ap (λ (y : State). reach u y rest (records rest)) starts)

  pub ran_refused : {s : State} {e : Refused} → Walked u x rest (Err e) s
      → record { outcome = record { number = number e.refusal; at = e.at }; report = old } ≡ ran_from u xs rest old
  ran_refused walked = ran_stopped u rest old refl ∙ by_walk walked.led

  pub ran_accepted : {s : State} {k : ℕ} → Walked u x rest (Ok k) s → {new : List ℕ} → new ≡ overlay (lines (routine u) s.rows u.count) old
      → record { outcome = record { number = 0; at = k }; report = new } ≡ ran_from u xs rest old
  unfolding outcome_of report_of
  ran_accepted walked e = (λ t. record { outcome = record { number = 0; at = walked.counted t }; report = e t }) ∙ by_walk walked.led
