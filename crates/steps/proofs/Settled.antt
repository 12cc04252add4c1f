-- The promise of every entry point settles its outcome: the answer, and every byte that is lent. (`Settles` has the meaning.)
-- Assumes nothing.
use mathlib.Core.Path.{refl, sym, ◌∙◌}
use Rattle.terms.proofs.RefusalLaws.{numbers_settle}
use Rattle.terms.proofs.Settles.{Settles}
use Rattle.steps.proofs.read_step.Kinds as read_step_kinds
use Rattle.steps.proofs.read_step.Reads as read_step
use Rattle.steps.proofs.read_step_of.Kinds as read_step_of_kinds
use Rattle.steps.proofs.read_step_of.Reads as read_step_of
use Rattle.steps.proofs.write_step.Kinds as write_step_kinds
use Rattle.steps.proofs.write_step.Reads as write_step

pub read_step_settles : Settles 1 read_step_kinds.ps read_step_kinds.r read_step.Post
read_step_settles κs a x y u v p q = (numbers_settle x y (p ∙ sym q), refl)

pub read_step_of_settles : Settles 1 read_step_of_kinds.ps read_step_of_kinds.r read_step_of.Post
read_step_of_settles κs a x y u v p q = (numbers_settle x y (p ∙ sym q), refl)

pub write_step_settles : Settles 1 write_step_kinds.ps write_step_kinds.r write_step.Post
write_step_settles κs a x y u v p q = let e = p.buffer ∙ sym q.buffer in (numbers_settle x y (p.answer ∙ sym q.answer), (λ k. (tt, (e k, tt))))
