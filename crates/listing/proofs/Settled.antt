-- The promise of `list` settles its answer and every byte of the buffer. (`Settles` has the meaning.)
-- Assumes nothing.
use mathlib.Core.Path.{sym, ◌∙◌}
use Rattle.terms.proofs.Settles.{Settles}
use Rattle.listing.proofs.list.Kinds as list_kinds
use Rattle.listing.proofs.list.Reads as list

pub list_settles : Settles 2 list_kinds.ps list_kinds.r list.Post
list_settles κs a x y u v p q = let e = p.text ∙ sym q.text in (p.len ∙ sym q.len, (λ k. (tt, (e k, tt))))
