-- Each promise settles its outcome: the answer, and the row or the state that is lent. (`Settles` has the meaning.)
-- Assumes nothing.
use mathlib.Core.Path.{refl, sym, ◌∙◌}
use Rattle.terms.proofs.Settles.{Settles}
use Rattle.model.proofs.U32FromPlace.from.Kinds as number_kinds
use Rattle.model.proofs.U32FromPlace.from.Reads as number
use Rattle.model.proofs.Row.count.Kinds as count_kinds
use Rattle.model.proofs.Row.count.Reads as count
use Rattle.model.proofs.Row.crash.Kinds as crash_kinds
use Rattle.model.proofs.Row.crash.Reads as crash
use Rattle.model.proofs.Row.begin.Kinds as row_begin_kinds
use Rattle.model.proofs.Row.begin.Reads as row_begin
use Rattle.model.proofs.State.begin.Kinds as begin_kinds
use Rattle.model.proofs.State.begin.Reads as begin
use Rattle.model.proofs.State.fresh.Kinds as fresh_kinds
use Rattle.model.proofs.State.fresh.Reads as fresh
use Rattle.model.proofs.RefusedFromRefusal.from.Kinds as from_kinds
use Rattle.model.proofs.RefusedFromRefusal.from.Reads as from

pub number_settles : Settles 0 number_kinds.ps number_kinds.r number.Post
number_settles κs a x y u v p q = (p ∙ sym q, refl)

pub count_settles : Settles 1 count_kinds.ps count_kinds.r count.Post
count_settles κs a x y u v p q = (refl, (λ k. ((p ∙ sym q) k, (tt, tt))))

pub crash_settles : Settles 1 crash_kinds.ps crash_kinds.r crash.Post
crash_settles κs a x y u v p q = (refl, (λ k. ((p ∙ sym q) k, tt)))

pub row_begin_settles : Settles 1 row_begin_kinds.ps row_begin_kinds.r row_begin.Post
row_begin_settles κs a x y u v p q = (refl, (λ k. ((p ∙ sym q) k, (tt, (tt, (tt, tt))))))

pub begin_settles : Settles 1 begin_kinds.ps begin_kinds.r begin.Post
begin_settles κs a x y u v p q = (refl, (λ k. ((p ∙ sym q) k, (tt, (tt, tt)))))

pub fresh_settles : Settles 0 fresh_kinds.ps fresh_kinds.r fresh.Post
fresh_settles κs a x y u v p q = (p ∙ sym q, refl)

pub from_settles : Settles 0 from_kinds.ps from_kinds.r from.Post
from_settles κs a x y u v p q = (p ∙ sym q, refl)
