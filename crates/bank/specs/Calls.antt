-- A read and a write as a caller meets them: refused, with the bank as it was, or what the deadline rule gives.
use Rattle.std.specs.Prelude.{ℕ, Bool, cond, Result, Ok, Err}
use Rattle.terms.specs.declared.ProcessNumber.{ProcessNumber}
use Rattle.terms.specs.declared.SlotNumber.{SlotNumber}
use Rattle.terms.specs.Refusal.{if_accepted}
use Rattle.answers.specs.declared.Write.{Write}
use Rattle.refusals.specs.Refusals.{call_refusal, read_refusal}
use Rattle.bank.specs.declared.Bank.{Bank}
use Rattle.bank.specs.Registers.{value_at, late_at, after_read, after_write}

-- the bank after a call, and what it answered, with 01's number where it refused
pub record Called (A : Type 0) : Type 0 where
  pub bank : Bank
  pub answer : Result A ℕ

unfoldable pub read_of : Bank → ProcessNumber → SlotNumber → ℕ → ℕ → Called ℕ
read_of b i c t d =
    if_accepted (read_refusal b.last i c t d)
    (record { bank = after_read b i c t d; answer = Ok (value_at b c) })
    (record { bank = b; answer = Err (read_refusal b.last i c t d) })

abbrev pub done_or_late : Bool → Write
done_or_late late = cond late Write.Late Write.Done

unfoldable pub write_of : Bank → ProcessNumber → SlotNumber → ℕ → ℕ → Called Write
write_of b i c t v =
    if_accepted (call_refusal b.last i c t)
    (record { bank = after_write b i c t v; answer = Ok (done_or_late (late_at b i c t)) })
    (record { bank = b; answer = Err (call_refusal b.last i c t) })
