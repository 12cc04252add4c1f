-- The bank of timed registers (01, "The register bank"): its parts, and what the deadline rule leaves of it. `Deadlines` has the rule.
use Rattle.std.specs.Prelude.{ℕ, ◌*◌, Bool, List, replicate}
use Rattle.terms.specs.declared.ProcessNumber.{ProcessNumber}
use Rattle.terms.specs.declared.SlotNumber.{SlotNumber}
use Rattle.terms.specs.Limits.{most_processes, unlimited}
use Rattle.registers.specs.Sizes.{register_count}
use Rattle.registers.specs.Deadlines.{value_in, deadline_in, late_in, Seen, Stored, read_granted, write_granted}
use Rattle.bank.specs.declared.Bank.{Bank}

-- a bank of its parts
abbrev pub bank_of : List ℕ → List ℕ → ℕ → Bank
bank_of values deadlines last = record { values = values; deadlines = deadlines; last = last }

-- a fresh bank for n processes; and for as many as a trace may have
abbrev pub fresh_bank_of : ℕ → Bank
fresh_bank_of n = bank_of (replicate register_count 0) (replicate (n * register_count) unlimited) 0

unfoldable pub fresh_bank : Bank
fresh_bank = fresh_bank_of most_processes

abbrev pub value_at : Bank → SlotNumber → ℕ
value_at b c = value_in b.values c

abbrev pub deadline_at : Bank → ProcessNumber → SlotNumber → ℕ
deadline_at b i c = deadline_in b.deadlines i c

abbrev pub late_at : Bank → ProcessNumber → SlotNumber → ℕ → Bool
late_at b i c t = late_in b.deadlines i c t

-- the bank of what a read leaves, and of what a write leaves
abbrev pub bank_seen : List ℕ → Seen → Bank
bank_seen values s = bank_of values s.deadlines s.last

abbrev pub bank_stored : Stored → Bank
bank_stored s = bank_of s.values s.deadlines s.last

-- after a read of c by i at tick t with the wait d
unfoldable pub after_read : Bank → ProcessNumber → SlotNumber → ℕ → ℕ → Bank
after_read b i c t d = bank_seen b.values (read_granted b.values b.deadlines i c t d)

-- after a write of v to c by i at tick t
unfoldable pub after_write : Bank → ProcessNumber → SlotNumber → ℕ → ℕ → Bank
after_write b i c t v = bank_stored (write_granted b.values b.deadlines i c t v)
