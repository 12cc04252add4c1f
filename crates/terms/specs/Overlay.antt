-- A piece over a part of a buffer, with the buffer's own around it: what a writer says of every byte, or number, that it is lent.
use Rattle.std.specs.Prelude.{List, ◌++◌, ℕ, ◌+◌, length, take, drop}

-- over the front
abbrev pub overlay : List ℕ → List ℕ → List ℕ
overlay piece buffer = piece ++ drop (length piece) buffer

-- from index `at` on
unfoldable pub spliced : ℕ → List ℕ → List ℕ → List ℕ
spliced at piece buffer = take at buffer ++ (piece ++ drop (at + length piece) buffer)
