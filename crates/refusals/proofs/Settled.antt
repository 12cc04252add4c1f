-- Each promise settles its outcome. (`Settles` has the meaning.)
-- Assumes nothing.
use mathlib.Core.Path.{refl, sym, ◌∙◌}
use Rattle.terms.proofs.RefusalLaws.{refusal_settles}
use Rattle.terms.proofs.Settles.{Settles}
use Rattle.refusals.proofs.call_refusal.Kinds as call_refusal_kinds
use Rattle.refusals.proofs.call_refusal.Reads as call_refusal_reads
use Rattle.refusals.proofs.read_refusal.Kinds as read_refusal_kinds
use Rattle.refusals.proofs.read_refusal.Reads as read_refusal_reads

pub call_refusal_settles : Settles 0 call_refusal_kinds.ps call_refusal_kinds.r call_refusal_reads.Post
call_refusal_settles κs a x y u v p q = (refusal_settles x y (p ∙ sym q), refl)

pub read_refusal_settles : Settles 0 read_refusal_kinds.ps read_refusal_kinds.r read_refusal_reads.Post
read_refusal_settles κs a x y u v p q = (refusal_settles x y (p ∙ sym q), refl)
