-- A promise settles its outcome: any two results, and any two last values of what is lent, that it allows for the same arguments are equal.
-- `Settles` says this of a function's own `ensures` as the check reads it (its generated `Reads.Post`), and not of a copy.
-- Assumes nothing.
use Prim.Native.Nat.{ℕ}
use mathlib.Core.Path.{◌≡◌, refl, sym, ◌∙◌}
use mathlib.Core.List.{List}
use contract.Lifetimes.{Lfts}
use denote.Triple.Clauses.{Lasts, at_exit}
use borrow.Fn.Kinds.{ParamKind, ResultKind, Out, Dens, res_t, ended_of}
use Rattle.terms.proofs.U32FromRefusal.from.Kinds as from_kinds
use Rattle.terms.proofs.U32FromRefusal.from.Reads as from
use Rattle.terms.proofs.u16_of.Kinds as u16_of_kinds
use Rattle.terms.proofs.u16_of.Reads as u16_of
use Rattle.terms.proofs.u32_of.Kinds as u32_of_kinds
use Rattle.terms.proofs.u32_of.Reads as u32_of
use Rattle.terms.proofs.u16_bytes.Kinds as u16_bytes_kinds
use Rattle.terms.proofs.u16_bytes.Reads as u16_bytes
use Rattle.terms.proofs.u32_bytes.Kinds as u32_bytes_kinds
use Rattle.terms.proofs.u32_bytes.Reads as u32_bytes

-- n is the number of the function's lifetimes, ps and r say what its parameters and its result are
abbrev pub Settles : (n : ℕ) (ps : List (ParamKind n)) (r : ResultKind n) → Out n ps r → Type 0
Settles n ps r Post =
    (κs : Lfts n) (a : Dens κs ps) (x y : (res_t r κs).Denot) (u v : Lasts (ended_of n ps r) κs a)
    → Post κs a x (at_exit (ended_of n ps r) κs a u) → Post κs a y (at_exit (ended_of n ps r) κs a v) → (x ≡ y) × (u ≡ v)

pub from_settles : Settles 0 from_kinds.ps from_kinds.r from.Post
from_settles κs a x y u v p q = (p ∙ sym q, refl)

pub u16_of_settles : Settles 0 u16_of_kinds.ps u16_of_kinds.r u16_of.Post
u16_of_settles κs a x y u v p q = (p ∙ sym q, refl)

pub u32_of_settles : Settles 0 u32_of_kinds.ps u32_of_kinds.r u32_of.Post
u32_of_settles κs a x y u v p q = (p ∙ sym q, refl)

pub u16_bytes_settles : Settles 0 u16_bytes_kinds.ps u16_bytes_kinds.r u16_bytes.Post
u16_bytes_settles κs a x y u v p q = (p ∙ sym q, refl)

pub u32_bytes_settles : Settles 0 u32_bytes_kinds.ps u32_bytes_kinds.r u32_bytes.Post
u32_bytes_settles κs a x y u v p q = (p ∙ sym q, refl)
