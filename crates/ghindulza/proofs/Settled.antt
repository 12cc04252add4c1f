-- Each promise of the surface settles its outcome: the number returned, and every number and byte lent. (`Settles` has the meaning.)
-- Assumes nothing.
use Prim.Native.Nat.{ℕ}
use mathlib.Core.Path.{◌≡◌, refl, sym, ap, ◌∙◌}
use mathlib.Core.List.{List}
use Rattle.terms.proofs.Settles.{Settles}
use Rattle.bank.specs.declared.Bank.{Bank}
use Rattle.bank.specs.Registers.{bank_of}
use Rattle.ghindulza.specs.Surface.{ran_out, SetupOut, StepOut, WrittenOut, written_out, BankOut}
use Rattle.ghindulza.proofs.ghindulza_run.Kinds as run_kinds
use Rattle.ghindulza.proofs.ghindulza_run.Reads as run_reads
use Rattle.ghindulza.proofs.ghindulza_read_setup.Kinds as read_setup_kinds
use Rattle.ghindulza.proofs.ghindulza_read_setup.Reads as read_setup_reads
use Rattle.ghindulza.proofs.ghindulza_read_step.Kinds as read_step_kinds
use Rattle.ghindulza.proofs.ghindulza_read_step.Reads as read_step_reads
use Rattle.ghindulza.proofs.ghindulza_write_setup.Kinds as write_setup_kinds
use Rattle.ghindulza.proofs.ghindulza_write_setup.Reads as write_setup_reads
use Rattle.ghindulza.proofs.ghindulza_write_step.Kinds as write_step_kinds
use Rattle.ghindulza.proofs.ghindulza_write_step.Reads as write_step_reads
use Rattle.ghindulza.proofs.ghindulza_bank_fresh.Kinds as bank_fresh_kinds
use Rattle.ghindulza.proofs.ghindulza_bank_fresh.Reads as bank_fresh_reads
use Rattle.ghindulza.proofs.ghindulza_bank_read.Kinds as bank_read_kinds
use Rattle.ghindulza.proofs.ghindulza_bank_read.Reads as bank_read_reads
use Rattle.ghindulza.proofs.ghindulza_bank_write.Kinds as bank_write_kinds
use Rattle.ghindulza.proofs.ghindulza_bank_write.Reads as bank_write_reads

pub run_settles : Settles 3 run_kinds.ps run_kinds.r run_reads.Post
run_settles κs a x y u v p q =
    let e : ran_out x u.1.1.0 u.1.0 ≡ ran_out y v.1.1.0 v.1.0 = p ∙ sym q in
    ((λ k. (e k).outcome.number), (λ k. (tt, ((e k).report, ((e k).outcome.at, tt)))))

-- what a reader leaves, of a setup and of a step
abbrev setup_left : ℕ → List ℕ → List ℕ → List ℕ → SetupOut
setup_left number fields starts rest = record { number = number; fields = fields; starts = starts; rest = rest }

abbrev step_left : ℕ → List ℕ → StepOut
step_left number fields = record { number = number; fields = fields }

-- what a writer answers
abbrev written : ℕ → ℕ → WrittenOut
written number length = record { number = number; length = length }

pub read_setup_settles : Settles 4 read_setup_kinds.ps read_setup_kinds.r read_setup_reads.Post
read_setup_settles κs a x y u v p q =
    let e : setup_left x u.1.0 u.1.1.0 u.1.1.1.0 ≡ setup_left y v.1.0 v.1.1.0 v.1.1.1.0 = p ∙ sym q in
    ((λ k. (e k).number), (λ k. (tt, ((e k).fields, ((e k).starts, ((e k).rest, tt))))))

pub read_step_settles : Settles 2 read_step_kinds.ps read_step_kinds.r read_step_reads.Post
read_step_settles κs a x y u v p q =
    let e : step_left x u.1.0 ≡ step_left y v.1.0 = p ∙ sym q in
    ((λ k. (e k).number), (λ k. (tt, ((e k).fields, tt))))

pub write_setup_settles : Settles 3 write_setup_kinds.ps write_setup_kinds.r write_setup_reads.Post
write_setup_settles κs a x y u v p q =
    let e : written x u.1.1.1.1.1.0 ≡ written y v.1.1.1.1.1.0 = p.told ∙ ap written_out (p.left.answer ∙ sym q.left.answer) ∙ sym q.told in
    let f : u.0 ≡ v.0 = p.left.buffer ∙ sym q.left.buffer in
    ((λ k. (e k).number), (λ k. (f k, (tt, (tt, (tt, (tt, ((e k).length, tt))))))))

pub write_step_settles : Settles 2 write_step_kinds.ps write_step_kinds.r write_step_reads.Post
write_step_settles κs a x y u v p q =
    let e : written x u.1.1.1.1.0 ≡ written y v.1.1.1.1.0 = p.told ∙ ap written_out (p.left.answer ∙ sym q.left.answer) ∙ sym q.told in
    let f : u.0 ≡ v.0 = p.left.buffer ∙ sym q.left.buffer in
    ((λ k. (e k).number), (λ k. (f k, (tt, (tt, (tt, ((e k).length, tt)))))))

pub bank_fresh_settles : Settles 3 bank_fresh_kinds.ps bank_fresh_kinds.r bank_fresh_reads.Post
bank_fresh_settles κs a x y u v p q =
    let e : ◌≡◌ {A = Bank} (bank_of u.0 u.1.0 u.1.1.0) (bank_of v.0 v.1.0 v.1.1.0) = p ∙ sym q in
    (refl, (λ k. ((e k).values, ((e k).deadlines, ((e k).last, tt)))))

-- what a bank call leaves: the bank's parts, the answer, the number returned
abbrev left : (values deadlines : List ℕ) (last answer number : ℕ) → BankOut
left values deadlines last answer number = record { number = number; bank = bank_of values deadlines last; answer = answer }

-- the numbers lent behind a bank's three parts: four by value, and the answer
pub bank_read_settles : Settles 4 bank_read_kinds.ps bank_read_kinds.r bank_read_reads.Post
bank_read_settles κs a x y u v p q =
    let values = a.0.now in
    let answer = u.1.1.1.1.1.1.1.0 in
    let answer' = v.1.1.1.1.1.1.1.0 in
    let e : left values u.1.0 u.1.1.0 answer x ≡ left values v.1.0 v.1.1.0 answer' y = p ∙ sym q in
    ((λ k. (e k).number), (λ k. (tt, ((e k).bank.deadlines, ((e k).bank.last, (tt, (tt, (tt, (tt, ((e k).answer, tt))))))))))

pub bank_write_settles : Settles 4 bank_write_kinds.ps bank_write_kinds.r bank_write_reads.Post
bank_write_settles κs a x y u v p q =
    let answer = u.1.1.1.1.1.1.1.0 in
    let answer' = v.1.1.1.1.1.1.1.0 in
    let e : left u.0 u.1.0 u.1.1.0 answer x ≡ left v.0 v.1.0 v.1.1.0 answer' y = p ∙ sym q in
    ((λ k. (e k).number), (λ k. ((e k).bank.values, ((e k).bank.deadlines, ((e k).bank.last, (tt, (tt, (tt, (tt, ((e k).answer, tt))))))))))
