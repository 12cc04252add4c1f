-- ANSWER: what memory says to an operation of process i at tick t, and what it then holds. The registers are the bank's, the flags are plain.
use Rattle.std.specs.Prelude.{ℕ, true, false, cond, get_or, set}
use Rattle.terms.specs.declared.ProcessNumber.{ProcessNumber}
use Rattle.bank.specs.declared.Bank.{Bank}
use Rattle.bank.specs.Registers.{value_at, late_at, after_read, after_write}
use Rattle.model.specs.declared.Ask.{Ask}
use Rattle.model.specs.declared.Reply.{Reply}
use Rattle.model.specs.declared.Shared.{Shared}

-- the flag of value v as a number: 1 where it is set
abbrev pub flag_at : Shared → ℕ → ℕ
flag_at m v = cond (get_or m.flags v false) 1 0

abbrev pub reply : Bank → Shared → ProcessNumber → ℕ → Ask → Reply
reply b m i t Ask.Nothing = record { value = 0; late = false }
reply b m i t (Ask.Read c d) = record { value = value_at b c; late = false }
reply b m i t (Ask.Write c v) = record { value = 0; late = late_at b i c t }
reply b m i t (Ask.Raise v) = record { value = 0; late = false }
reply b m i t (Ask.Peek v) = record { value = flag_at m v; late = false }

abbrev pub bank_after : Bank → ProcessNumber → ℕ → Ask → Bank
bank_after b i t Ask.Nothing = b
bank_after b i t (Ask.Read c d) = after_read b i c t d
bank_after b i t (Ask.Write c v) = after_write b i c t v
bank_after b i t (Ask.Raise v) = b
bank_after b i t (Ask.Peek v) = b

abbrev pub shared_after : Shared → Ask → Shared
shared_after m Ask.Nothing = m
shared_after m (Ask.Read c d) = m
shared_after m (Ask.Write c v) = m
shared_after m (Ask.Raise v) = record { flags = set m.flags v true }
shared_after m (Ask.Peek v) = m

-- all three at once
pub record Answered : Type 0 where
  pub reply : Reply
  pub bank : Bank
  pub shared : Shared

abbrev pub answer_of : Bank → Shared → ProcessNumber → ℕ → Ask → Answered
answer_of b m i t q = record { reply = reply b m i t q; bank = bank_after b i t q; shared = shared_after m q }
