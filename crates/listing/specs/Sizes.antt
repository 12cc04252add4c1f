-- How many bytes a piece of the text has at most.
use Rattle.std.specs.Prelude.{ℕ, ◌+◌, ◌*◌, length}
use Rattle.terms.specs.Limits.{most_processes}
use Rattle.listing.specs.Text.{most_digits, kind_word, processes_word, records_word, refused_word, at_record_word}

-- a number and what stands after it
abbrev pub figure_bytes : ℕ
figure_bytes = most_digits + 1

-- a process's line has five figures: number, place, second figure, moves, late writes
abbrev pub line_bytes : ℕ
line_bytes = 5 * figure_bytes

abbrev pub head_bytes : ℕ
head_bytes = length kind_word + most_digits + length processes_word + most_digits + length records_word + figure_bytes

abbrev pub refused_bytes : ℕ
refused_bytes = length refused_word + most_digits + length at_record_word + figure_bytes

-- a whole text: the head and all the lines that there may be
abbrev pub text_bytes : ℕ
text_bytes = head_bytes + line_bytes * most_processes
