-- The sizes of a bank, as the constants in code have them: its registers, and the pairs of a process and a register.
use Rattle.std.specs.Prelude.{ℕ, ◌*◌}
use Rattle.terms.specs.Limits.{most_processes, most_slots}

abbrev pub register_count : ℕ
register_count = most_slots

abbrev pub pair_count : ℕ
pair_count = most_processes * register_count
