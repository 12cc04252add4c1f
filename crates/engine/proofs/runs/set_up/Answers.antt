-- `engine::runs::set_up` meets its contract: the setup is refused, or the report, or the rest's length, or none. Assumes nothing.
use Rattle.std.proofs.Common.{arith}
use Rattle.std.proofs.lemmas.Result.{err_from_is_err_and}
use Rattle.engine.proofs.Entry.{unset, begins_inside, narrow, too_long, sets_up}
use Rattle.engine.proofs.runs.set_up.Goals as goal

pub returns-in_err-setup : goal.returns-in_err-setup
returns-in_err-setup c =
    let p = err_from_is_err_and c.from_residual.result c.from_residual.ensures.1 in
    rw (p.1, p.2) (unset _ _ c.in_err-setup.ensures)

pub returns-then-short : goal.returns-then-short
returns-then-short c = narrow _ _ c.in_ok-setup.ensures (omega (arith, c.if-short.true, c.from-n.ensures))

pub overflow_sub-trace : goal.overflow_sub-trace
overflow_sub-trace c = omega (arith, begins_inside c.args.trace.now c.args.room c.in_ok-setup.ensures, c.from-n.ensures)

pub returns-then-trace-n : goal.returns-then-trace-n
returns-then-trace-n c =
    too_long _ _ c.in_ok-setup.ensures (omega (arith, c.if-short.false, c.from-n.ensures)) (omega (arith, c.if-trace-n.true, c.from-n.ensures))

pub returns : goal.returns
returns c =
    sets_up _ _ c.in_ok-setup.ensures (omega (arith, c.if-short.false, c.from-n.ensures)) (omega (arith, c.if-trace-n.false, c.from-n.ensures))
