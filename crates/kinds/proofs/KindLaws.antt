-- The table goes both ways: a kind has one number, and a good number is that of its kind.
-- Assumes nothing.
use mathlib.Core.Path.{◌≡◌, refl}
use mathlib.Core.Bool.{false}
use Prim.Native.Nat.{ℕ, zero, suc}
use native.Mathlib.Omega.{arith}
use Rattle.terms.proofs.RefusalLaws.{not_outside}
use Rattle.kinds.specs.declared.Kind.{Kind}
use Rattle.kinds.specs.Kinds.{last_kind, bad_kind, kind_of, number_of}

pub kind_of_number : (κ : Kind) → kind_of (number_of κ) ≡ κ
kind_of_number Kind.Lock = refl
kind_of_number Kind.Plain = refl
kind_of_number Kind.Fast = refl

pub number_of_kind : (k : ℕ) → bad_kind last_kind k ≡ false → number_of (kind_of k) ≡ k
number_of_kind zero h = absurd (omega (arith, (not_outside 1 last_kind 0 h).0))
number_of_kind (suc zero) h = refl
number_of_kind (suc (suc zero)) h = refl
number_of_kind (suc (suc (suc zero))) h = refl
number_of_kind (suc (suc (suc (suc k)))) h = absurd (omega (arith, (not_outside 1 last_kind (suc (suc (suc (suc k)))) h).1))
