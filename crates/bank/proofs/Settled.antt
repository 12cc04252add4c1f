-- Each promise settles its outcome: the answer and every lent number. (`Settles` has the meaning.)
-- Assumes nothing.
use mathlib.Core.Path.{◌≡◌, refl, sym, ◌∙◌}
use Rattle.terms.proofs.Settles.{Settles}
use Rattle.std.specs.Prelude.{Result}
use Rattle.terms.specs.declared.Refusal.{Refusal}
use Rattle.terms.specs.Refusal.{numbered}
use Rattle.terms.proofs.RefusalLaws.{numbers_settle}
use Rattle.bank.specs.declared.Bank.{Bank}
use Rattle.bank.specs.Registers.{bank_of}
use Rattle.bank.specs.Calls.{Called}
use Rattle.bank.proofs.Bank.fresh.Kinds as fresh_kinds
use Rattle.bank.proofs.Bank.fresh.Reads as fresh_reads
use Rattle.bank.proofs.Bank.read.Kinds as read_kinds
use Rattle.bank.proofs.Bank.read.Reads as read_reads
use Rattle.bank.proofs.Bank.write.Kinds as write_kinds
use Rattle.bank.proofs.Bank.write.Reads as write_reads
use Rattle.bank.proofs.calls.read_in.Kinds as read_in_kinds
use Rattle.bank.proofs.calls.read_in.Reads as read_in_reads
use Rattle.bank.proofs.calls.write_in.Kinds as write_in_kinds
use Rattle.bank.proofs.calls.write_in.Reads as write_in_reads

pub fresh_settles : Settles 0 fresh_kinds.ps fresh_kinds.r fresh_reads.Post
fresh_settles κs a x y u v p q = (p ∙ sym q, refl)

-- what a call leaves of a bank, and answers
abbrev called : {A : Type 0} → Bank → Result A Refusal → Called A
called bank answer = record { bank = bank; answer = numbered answer }

pub read_settles : Settles 0 read_kinds.ps read_kinds.r read_reads.Post
read_settles κs a x y u v p q =
    let e : called x.bank x.answer ≡ called y.bank y.answer = p ∙ sym q in
    let answers = numbers_settle x.answer y.answer (λ k. (e k).answer) in
    ((λ k. record { bank = (e k).bank; answer = answers k }), refl)

pub write_settles : Settles 0 write_kinds.ps write_kinds.r write_reads.Post
write_settles κs a x y u v p q =
    let e : called x.bank x.answer ≡ called y.bank y.answer = p ∙ sym q in
    let answers = numbers_settle x.answer y.answer (λ k. (e k).answer) in
    ((λ k. record { bank = (e k).bank; answer = answers k }), refl)

pub read_in_settles : Settles 3 read_in_kinds.ps read_in_kinds.r read_in_reads.Post
read_in_settles κs a x y u v p q =
    let values = a.0.now in
    let e : called (bank_of values u.1.0 u.1.1.0) x ≡ called (bank_of values v.1.0 v.1.1.0) y = p ∙ sym q in
    (numbers_settle x y (λ k. (e k).answer), (λ k. (tt, ((e k).bank.deadlines, ((e k).bank.last, (tt, (tt, (tt, (tt, tt)))))))))

pub write_in_settles : Settles 3 write_in_kinds.ps write_in_kinds.r write_in_reads.Post
write_in_settles κs a x y u v p q =
    let e : called (bank_of u.0 u.1.0 u.1.1.0) x ≡ called (bank_of v.0 v.1.0 v.1.1.0) y = p ∙ sym q in
    (numbers_settle x y (λ k. (e k).answer), (λ k. ((e k).bank.values, ((e k).bank.deadlines, ((e k).bank.last, (tt, (tt, (tt, (tt, tt)))))))))
