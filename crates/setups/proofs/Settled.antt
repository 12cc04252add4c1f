-- The promise of every entry point settles its outcome: the answer, and every byte that is lent. (`Settles` has the meaning.)
-- Assumes nothing.
use mathlib.Core.Path.{◌≡◌, refl, sym, ◌∙◌}
use contract.Lifetimes.{Lfts}
use denote.Triple.Clauses.{Lasts, at_exit}
use borrow.Fn.Kinds.{Dens, res_t, ended_of}
use Rattle.terms.proofs.RefusalLaws.{numbers_settle}
use Rattle.terms.proofs.Settles.{Settles}
use Rattle.setups.proofs.read_setup.Kinds as read_setup_kinds
use Rattle.setups.proofs.read_setup.Reads as read_setup
use Rattle.setups.proofs.setup_rest.Kinds as setup_rest_kinds
use Rattle.setups.proofs.setup_rest.Reads as setup_rest_reads
use Rattle.setups.proofs.write_setup.Kinds as write_setup_kinds
use Rattle.setups.proofs.write_setup.Reads as write_setup

pub read_setup_settles : Settles 1 read_setup_kinds.ps read_setup_kinds.r read_setup.Post
read_setup_settles κs a x y u v p q = (numbers_settle x y (p ∙ sym q), refl)

pub write_setup_settles : Settles 2 write_setup_kinds.ps write_setup_kinds.r write_setup.Post
write_setup_settles κs a x y u v p q =
    let e = p.buffer ∙ sym q.buffer in
    (numbers_settle x y (p.answer ∙ sym q.answer), (λ k. (tt, (tt, (tt, (tt, (e k, tt)))))))

-- A returned part has a place (its one machine value), its bytes, and a name under which proofs keep track of them. A new part gets a new name,
-- which no promise can settle; the place and the bytes are settled (the exception in docs/DECISIONS.md).
pub setup_rest_settles : (κs : Lfts 1) (a : Dens κs setup_rest_kinds.ps) (x y : (res_t setup_rest_kinds.r κs).Denot)
    (u v : Lasts (ended_of 1 setup_rest_kinds.ps setup_rest_kinds.r) κs a)
    → setup_rest_reads.Post κs a x (at_exit (ended_of 1 setup_rest_kinds.ps setup_rest_kinds.r) κs a u)
    → setup_rest_reads.Post κs a y (at_exit (ended_of 1 setup_rest_kinds.ps setup_rest_kinds.r) κs a v)
    → (x.ref_ptr ≡ y.ref_ptr) × (x.now ≡ y.now) × (u ≡ v)
setup_rest_settles κs a x y u v p q = (p.1 ∙ sym q.1, p.0 ∙ sym q.0, refl)
