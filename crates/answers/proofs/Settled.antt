-- Each promise settles its outcome, at each type of what is answered or refuses. (`Settles` has the meaning.)
-- Assumes nothing.
use mathlib.Core.Path.{refl, sym, ◌∙◌}
use denote.RattleType.{RattleType}
use denote.Param.Laws.{Laws}
use mir.Syntax.{Dict}
use Rattle.std.specs.Prelude.{Ok, Err}
use Rattle.terms.proofs.Settles.{Settles}
use Rattle.answers.proofs.number.Kinds as number_kinds
use Rattle.answers.proofs.number.Reads as number_reads
use Rattle.answers.proofs.number_in.Kinds as number_in_kinds
use Rattle.answers.proofs.number_in.Reads as number_in_reads
use Rattle.answers.proofs.value.Kinds as value_kinds
use Rattle.answers.proofs.value.Reads as value_reads
use Rattle.answers.proofs.is_done.Kinds as is_done_kinds
use Rattle.answers.proofs.is_done.Reads as is_done_reads
use Rattle.answers.proofs.is_late.Kinds as is_late_kinds
use Rattle.answers.proofs.is_late.Reads as is_late_reads

-- What is taken may hold a borrow: no promise here speaks of it at the end, so that in either case nothing lent is left to settle.
module _ (T : RattleType) (l : Laws T) (d : Dict) where
  pub number_settles : Settles 1 (number_kinds.ps T l) (number_kinds.r T l) (number_reads.Post T l d)
  number_settles κs (Ok a, _) x y u v p q = (p ∙ sym q, refl)
  number_settles κs (Err e, _) x y u v p q = (p ∙ sym q, refl)

  pub number_in_settles : Settles 1 (number_in_kinds.ps T l) (number_in_kinds.r T l) (number_in_reads.Post T l d)
  number_in_settles κs (Ok a, _) x y u v p q = (p ∙ sym q, refl)
  number_in_settles κs (Err e, _) x y u v p q = (p ∙ sym q, refl)

  pub value_settles : Settles 1 (value_kinds.ps T l) (value_kinds.r T l) (value_reads.Post T l d)
  value_settles κs (Ok a, _) x y u v p q = (p ∙ sym q, refl)
  value_settles κs (Err e, _) x y u v p q = (p ∙ sym q, refl)

  pub is_done_settles : Settles 1 (is_done_kinds.ps T l) (is_done_kinds.r T l) (is_done_reads.Post T l d)
  is_done_settles κs (Ok a, _) x y u v p q = (p ∙ sym q, refl)
  is_done_settles κs (Err e, _) x y u v p q = (p ∙ sym q, refl)

  pub is_late_settles : Settles 1 (is_late_kinds.ps T l) (is_late_kinds.r T l) (is_late_reads.Post T l d)
  is_late_settles κs (Ok a, _) x y u v p q = (p ∙ sym q, refl)
  is_late_settles κs (Err e, _) x y u v p q = (p ∙ sym q, refl)
