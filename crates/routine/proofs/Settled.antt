-- Each promise settles its outcome: the answer, and the row that is lent. (`Settles` has the meaning.)
-- Assumes nothing.
use mathlib.Core.Path.{refl, sym, ◌∙◌}
use Rattle.terms.proofs.RefusalLaws.{refusal_settles}
use Rattle.terms.proofs.Settles.{Settles}
use Rattle.routine.proofs.judges.judge.Kinds as judge_kinds
use Rattle.routine.proofs.judges.judge.Reads as judge
use Rattle.routine.proofs.takes.rest.Kinds as rest_kinds
use Rattle.routine.proofs.takes.rest.Reads as rest
use Rattle.routine.proofs.takes.look.Kinds as look_kinds
use Rattle.routine.proofs.takes.look.Reads as look
use Rattle.routine.proofs.takes.put.Kinds as put_kinds
use Rattle.routine.proofs.takes.put.Reads as put
use Rattle.routine.proofs.takes.wait.Kinds as wait_kinds
use Rattle.routine.proofs.takes.wait.Reads as wait
use Rattle.routine.proofs.takes.check.Kinds as check_kinds
use Rattle.routine.proofs.takes.check.Reads as check
use Rattle.routine.proofs.takes.critical.Kinds as critical_kinds
use Rattle.routine.proofs.takes.critical.Reads as critical
use Rattle.routine.proofs.takes.flag.Kinds as flag_kinds
use Rattle.routine.proofs.takes.flag.Reads as flag
use Rattle.routine.proofs.takes.scan.Kinds as scan_kinds
use Rattle.routine.proofs.takes.scan.Reads as scan
use Rattle.routine.proofs.takes.decided.Kinds as decided_kinds
use Rattle.routine.proofs.takes.decided.Reads as decided

pub judge_settles : Settles 1 judge_kinds.ps judge_kinds.r judge.Post
judge_settles κs a x y u v p q = (refusal_settles x y (p ∙ sym q), refl)

pub rest_settles : Settles 1 rest_kinds.ps rest_kinds.r rest.Post
rest_settles κs a x y u v p q = (refl, (λ k. (tt, ((p 0 ∙ sym (q 0)) k, tt))))

pub look_settles : Settles 1 look_kinds.ps look_kinds.r look.Post
look_settles κs a x y u v p q = (refl, (λ k. (tt, (tt, ((p 0 ∙ sym (q 0)) k, tt)))))

pub put_settles : Settles 1 put_kinds.ps put_kinds.r put.Post
put_settles κs a x y u v p q = (refl, (λ k. (tt, (tt, ((p 0 ∙ sym (q 0)) k, tt)))))

pub wait_settles : Settles 1 wait_kinds.ps wait_kinds.r wait.Post
wait_settles κs a x y u v p q = (refl, (λ k. (tt, (tt, ((p ∙ sym q) k, tt)))))

pub check_settles : Settles 1 check_kinds.ps check_kinds.r check.Post
check_settles κs a x y u v p q = (refl, (λ k. (tt, (tt, ((p 0 ∙ sym (q 0)) k, tt)))))

pub critical_settles : Settles 1 critical_kinds.ps critical_kinds.r critical.Post
critical_settles κs a x y u v p q = (refl, (λ k. (tt, (tt, ((p 0 ∙ sym (q 0)) k, tt)))))

pub flag_settles : Settles 1 flag_kinds.ps flag_kinds.r flag.Post
flag_settles κs a x y u v p q = (refl, (λ k. (tt, ((p 0 ∙ sym (q 0)) k, tt))))

pub scan_settles : Settles 1 scan_kinds.ps scan_kinds.r scan.Post
scan_settles κs a x y u v p q = (refl, (λ k. (tt, (tt, ((p 0 ∙ sym (q 0)) k, tt)))))

pub decided_settles : Settles 1 decided_kinds.ps decided_kinds.r decided.Post
decided_settles κs a x y u v p q = (refl, (λ k. (tt, ((p 0 ∙ sym (q 0)) k, tt))))
