-- `engine::runs::run` meets its contract: the setup refuses, or says what the walk needs. Assumes nothing.
use Rattle.std.proofs.Common.{◌∙◌, arith, rules}
use Rattle.std.proofs.lemmas.Result.{err_from_is_err_and}
use Rattle.engine.proofs.Entry.{refused_first, rest_inside, short, room_for_lines, few, sound, starts, goes_on}
use Rattle.engine.proofs.runs.run.Goals as goal

pub returns-in_err-setup : goal.returns-in_err-setup
returns-in_err-setup c =
    let p = err_from_is_err_and c.from_residual.result c.from_residual.ensures.1 in
    rw (p.1, p.2) (refused_first _ _ _ c.in_err-setup.ensures)

pub slice_bounds-rest-count : goal.slice_bounds-rest-count
slice_bounds-rest-count c = omega (arith, rest_inside c.args.trace.now c.args.report.now c.in_ok-setup.ensures, c.from.ensures)

pub slice_bounds-rest-start : goal.slice_bounds-rest-start
slice_bounds-rest-start c = search (rules, rest_inside c.args.trace.now c.args.report.now c.in_ok-setup.ensures)

pub invariant_of-course-clause-sound : goal.invariant_of-course-clause-sound
invariant_of-course-clause-sound c =
    sound _ _ c.in_ok-setup.ensures _ c.shape_of.ensures (λ j. omega (arith, c.type_inv.trace j))

pub invariant_of-course-clause-few : goal.invariant_of-course-clause-few
invariant_of-course-clause-few c = rw c.shape_of.ensures (few c.args.trace.now c.args.report.now c.in_ok-setup.ensures)

pub run_steps-requires-clause-starts : goal.run_steps-requires-clause-starts
run_steps-requires-clause-starts c = starts _ _ c.in_ok-setup.ensures _ c.shape_of.ensures

pub run_steps-requires-clause-short : goal.run_steps-requires-clause-short
run_steps-requires-clause-short c = rw c.from.ensures (short c.args.trace.now c.args.report.now c.in_ok-setup.ensures)

pub run_steps-requires-clause-room : goal.run_steps-requires-clause-room
run_steps-requires-clause-room c = rw c.shape_of.ensures (room_for_lines c.args.trace.now c.args.report.now c.in_ok-setup.ensures)

pub returns : goal.returns
returns c = c.run_steps.ensures ∙ rw c.from.ensures (goes_on c.args.trace.now c.args.report.now c.in_ok-setup.ensures _ c.shape_of.ensures)
