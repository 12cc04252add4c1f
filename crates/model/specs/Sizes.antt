-- How many numbers there are of a thing, as the constants of src/lib.rt have them.
use Rattle.std.specs.Prelude.{ℕ, suc, ◌*◌}
use Rattle.terms.specs.Limits.{most_processes, most_slots}

-- the numbers of a process in the report, and of all that there may be
abbrev pub line_width : ℕ
line_width = 4

abbrev pub report_width : ℕ
report_width = line_width * most_processes

-- the flags of the values, and entry 0, which is not used
abbrev pub flag_count : ℕ
flag_count = suc most_slots
