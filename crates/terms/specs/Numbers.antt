-- Process and slot numbers from plain ones, and the row of a process (rows are counted from 0, processes from 1).
use Rattle.std.specs.Prelude.{ℕ, ◌-◌}
use Rattle.terms.specs.declared.ProcessNumber.{ProcessNumber}
use Rattle.terms.specs.declared.SlotNumber.{SlotNumber}

abbrev pub process_of : ℕ → ProcessNumber
process_of i = record { 0 = i }

abbrev pub slot_of : ℕ → SlotNumber
slot_of c = record { 0 = c }

abbrev pub index_of : ProcessNumber → ℕ
index_of i = i.0 - 1
