-- `read_step_of` meets its contract: at each `return` the tests that led there say which refusal is the first. Assumes nothing.
use Rattle.std.proofs.Common.{◌∙◌, sym}
use Rattle.std.proofs.lemmas.Result.{err_from_is_err_and}
use borrow.Author.Tests.{lt-ltb, le-ltb, eq-eqb, ne_eqb}
use Rattle.terms.proofs.RefusalLaws.{answers_refused, answers_accepted}
use Rattle.steps.proofs.StepLaws.{past_the_mark}
use Rattle.steps.specs.Step.{step_refusal, step_read}
use Rattle.steps.proofs.read_step_of.Goals as goal
use Rattle.steps.proofs.read_step_of.Goals.{then-m-via-then-m, then-m-via-else-m+then-n}

pub returns-in_default : goal.returns-in_default
unfolding step_read step_refusal
returns-in_default c = simp (lt-ltb _ _ c.in_default.len_below)

pub returns-then-m : goal.returns-then-m
unfolding step_read step_refusal
returns-then-m c =
    elim c.then-m.branch [
      | then-m-via-then-m w ↦ simp (le-ltb _ _ c.in-len8-up.len_at_least, ne_eqb _ _ w.if-m.true)
      | then-m-via-else-m+then-n w ↦ simp (le-ltb _ _ c.in-len8-up.len_at_least, eq-eqb _ _ w.if-m.false, ne_eqb _ _ w.if-n.true)
    ]

pub returns-in_err-step_limits : goal.returns-in_err-step_limits
unfolding step_read
returns-in_err-step_limits c =
    let p = err_from_is_err_and c.from_residual.result c.from_residual.ensures.1 in
    let refused = c.in_err-step_limits.ensures ∙ simp (c.from.ensures, c.from-2.ensures, c.u32_of.ensures) in
    rw (p.1, p.2) (answers_refused _ _ _ (refused ∙ sym (past_the_mark _ _ c.in-len8-up.len_at_least c.if-m.false c.if-n.false)))

pub returns : goal.returns
unfolding step_read
returns c =
    let accepted = c.in_ok-step_limits.ensures ∙ simp (c.from.ensures, c.from-2.ensures, c.u32_of.ensures) in
    rw (c.from.ensures, c.from-2.ensures, c.u32_of.ensures)
    (answers_accepted _ _ (accepted ∙ sym (past_the_mark _ _ c.in-len8-up.len_at_least c.if-m.false c.if-n.false)))
