-- `engine::runs::run_steps` meets its contract: the walk begins with the fresh state, and its answer is the run's. Assumes nothing.
use Rattle.std.proofs.lemmas.Result.{err_from_is_err_and}
use Rattle.engine.proofs.Walk.{ran_refused, ran_accepted}
use Rattle.engine.proofs.runs.run_steps.Goals as goal

pub returns-in_err-accepted : goal.returns-in_err-accepted
returns-in_err-accepted c =
    let p = err_from_is_err_and c.from_residual.result c.from_residual.ensures.1 in
    rw (p.1, p.2) (ran_refused _ _ _ c.begin.ensures _ c.in_err-accepted.ensures)

pub returns : goal.returns
returns c = ran_accepted _ _ _ c.begin.ensures _ c.in_ok-accepted.ensures c.write_lines.ensures
