-- Each promise settles its outcome: the answer and every lent number. (`Settles` has the meaning.)
-- Assumes nothing.
use Prim.Native.Nat.{ℕ}
use mathlib.Core.Path.{◌≡◌, sym, ◌∙◌}
use mathlib.Core.Bool.{Bool}
use mathlib.Core.List.{List}
use Rattle.terms.proofs.Settles.{Settles}
use Rattle.registers.specs.Deadlines.{Seen, Stored}
use Rattle.registers.proofs.read_granted.Kinds as read_granted_kinds
use Rattle.registers.proofs.read_granted.Reads as read_granted_reads
use Rattle.registers.proofs.write_granted.Kinds as write_granted_kinds
use Rattle.registers.proofs.write_granted.Reads as write_granted_reads

-- what a read and a write leave
abbrev seen : (value : ℕ) (deadlines : List ℕ) (last : ℕ) → Seen
seen value deadlines last = record { value = value; deadlines = deadlines; last = last }

abbrev stored : (late : Bool) (values deadlines : List ℕ) (last : ℕ) → Stored
stored late values deadlines last = record { late = late; values = values; deadlines = deadlines; last = last }

pub read_granted_settles : Settles 3 read_granted_kinds.ps read_granted_kinds.r read_granted_reads.Post
read_granted_settles κs a x y u v p q =
    let e : seen x u.1.0 u.1.1.0 ≡ seen y v.1.0 v.1.1.0 = p ∙ sym q in
    ((λ k. (e k).value), (λ k. (tt, ((e k).deadlines, ((e k).last, (tt, (tt, (tt, tt))))))))

pub write_granted_settles : Settles 3 write_granted_kinds.ps write_granted_kinds.r write_granted_reads.Post
write_granted_settles κs a x y u v p q =
    let e : stored x u.0 u.1.0 u.1.1.0 ≡ stored y v.0 v.1.0 v.1.1.0 = p ∙ sym q in
    ((λ k. (e k).late), (λ k. ((e k).values, ((e k).deadlines, ((e k).last, (tt, (tt, (tt, tt))))))))
