-- `engine::runs::take_record` meets its contract: the reader refuses, then the state, and else the step is taken. Assumes nothing.
use Rattle.std.proofs.Common.{arith}
use Rattle.std.proofs.lemmas.List.{set-get_or}
use Rattle.std.proofs.lemmas.Result.{err_from_is_err_and}
use Rattle.terms.proofs.RefusalLaws.{some_number}
use Rattle.engine.specs.Walk.{Due}
use Rattle.engine.proofs.OneRecord.{stays, unread, due, among, judged, taken}
use Rattle.engine.proofs.runs.take_record.Goals as goal
use Rattle.engine.proofs.runs.take_record.Goals.{In_ok-step}

-- of a step that was read
good : (c : In_ok-step) → Due c.in_ok-step.step
good c = due c.args.course.shape c.args.state.now c.args.s.now c.in_ok-step.ensures c.args.course.few

pub returns-in_err-step-clause-answer : goal.returns-in_err-step-clause-answer
returns-in_err-step-clause-answer c =
    let p = err_from_is_err_and c.from_residual.result c.from_residual.ensures.1 in
    rw (p.1, p.2) (unread c.args.course.shape c.args.state.now c.args.s.now c.in_err-step.ensures)

pub returns-in_err-step-clause-left : goal.returns-in_err-step-clause-left
returns-in_err-step-clause-left c =
    stays _ _ _ (some_number c.in_err-step.field-0.0) (unread c.args.course.shape c.args.state.now c.args.s.now c.in_err-step.ensures)

pub overflow_sub-j : goal.overflow_sub-j
overflow_sub-j c = (good (goal.at.overflow_sub-j c).In_ok-step).numbered.least

pub bounds-state-j : goal.bounds-state-j
bounds-state-j c = let d = good (goal.at.bounds-state-j c).In_ok-step in omega (arith, d.numbered.least, d.numbered.most)

pub returns-in_err-judge-clause-answer : goal.returns-in_err-judge-clause-answer
returns-in_err-judge-clause-answer c =
    let p = err_from_is_err_and c.from_residual-in_err-judge.result c.from_residual-in_err-judge.ensures.1 in
    rw (p.1, p.2) (judged c.args.course.shape c.args.state.now c.args.s.now c.in_ok-step.ensures c.in_err-judge.ensures)

pub returns-in_err-judge-clause-left : goal.returns-in_err-judge-clause-left
returns-in_err-judge-clause-left c =
    rw set-get_or
    (stays _ _ _ (some_number c.in_err-judge.field-0.0)
    (judged c.args.course.shape c.args.state.now c.args.s.now c.in_ok-step.ensures c.in_err-judge.ensures))

pub take_step-requires-clause-due : goal.take_step-requires-clause-due
take_step-requires-clause-due c = good (goal.at.take_step-requires-clause-due c).In_ok-step

pub take_step-requires-clause-room : goal.take_step-requires-clause-room
take_step-requires-clause-room c =
    rw set-get_or (c.requires _ (among c.args.course.shape c.args.state.now c.args.s.now c.in_ok-step.ensures))

pub returns-clause-answer : goal.returns-clause-answer
returns-clause-answer c = judged c.args.course.shape c.args.state.now c.args.s.now c.in_ok-step.ensures c.in_ok-judge.ensures

pub returns-clause-left : goal.returns-clause-left
returns-clause-left c =
    taken c.args.course.shape c.args.state.now c.args.s.now c.in_ok-step.ensures c.in_ok-judge.ensures (rw set-get_or at c.take_step.ensures)
