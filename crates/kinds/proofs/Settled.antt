-- Each promise settles its outcome. (`Settles` has the meaning.)
-- Assumes nothing.
use mathlib.Core.Path.{refl, sym, ◌∙◌}
use Rattle.terms.proofs.RefusalLaws.{numbers_settle}
use Rattle.terms.proofs.Settles.{Settles}
use Rattle.kinds.proofs.is_bad_kind.Kinds as is_bad_kind_kinds
use Rattle.kinds.proofs.is_bad_kind.Reads as is_bad_kind_reads
use Rattle.kinds.proofs.kind_of.Kinds as kind_of_kinds
use Rattle.kinds.proofs.kind_of.Reads as kind_of_reads
use Rattle.kinds.proofs.KindTryFromU32.try_from.Kinds as try_from_kinds
use Rattle.kinds.proofs.KindTryFromU32.try_from.Reads as try_from_reads
use Rattle.kinds.proofs.U32FromKind.from.Kinds as from_kinds
use Rattle.kinds.proofs.U32FromKind.from.Reads as from_reads

pub is_bad_kind_settles : Settles 0 is_bad_kind_kinds.ps is_bad_kind_kinds.r is_bad_kind_reads.Post
is_bad_kind_settles κs a x y u v p q = (p ∙ sym q, refl)

pub kind_of_settles : Settles 0 kind_of_kinds.ps kind_of_kinds.r kind_of_reads.Post
kind_of_settles κs a x y u v p q = (p ∙ sym q, refl)

pub try_from_settles : Settles 0 try_from_kinds.ps try_from_kinds.r try_from_reads.Post
try_from_settles κs a x y u v p q = (numbers_settle x y (p ∙ sym q), refl)

pub from_settles : Settles 0 from_kinds.ps from_kinds.r from_reads.Post
from_settles κs a x y u v p q = (p ∙ sym q, refl)
