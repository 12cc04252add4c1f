-- The promise of a run settles its outcome: what it returns, and every number of the report; that of a step settles the state. (`Settles` has the meaning.)
-- Assumes nothing.
use mathlib.Core.Path.{◌≡◌, refl, sym, ◌∙◌}
use Rattle.terms.proofs.Settles.{Settles}
use Rattle.model.specs.Report.{Ran, outcome_in}
use Rattle.model.proofs.ReportLaws.{outcome_settles}
use Rattle.engine.proofs.moves.take_step.Kinds as take_step_kinds
use Rattle.engine.proofs.moves.take_step.Reads as take_step
use Rattle.engine.proofs.runs.run.Kinds as run_kinds
use Rattle.engine.proofs.runs.run.Reads as run

pub take_step_settles : Settles 1 take_step_kinds.ps take_step_kinds.r take_step.Post
take_step_settles κs a x y u v p q = (refl, (λ k. (tt, (tt, ((p ∙ sym q) k, tt)))))

pub run_settles : Settles 2 run_kinds.ps run_kinds.r run.Post
run_settles κs a x y u v p q =
    let e : ◌≡◌ {A = Ran} (record { outcome = outcome_in x; report = u.1.0 }) (record { outcome = outcome_in y; report = v.1.0 }) = p ∙ sym q in
    (outcome_settles x y (λ k. (e k).outcome), (λ k. (tt, ((e k).report, tt))))
