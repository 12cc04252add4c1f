-- The limits that belong to the trace itself (01, "The trace"), and those of a wait, as the associated constants of `Trace` and `Wait` have them.
use Rattle.std.specs.Prelude.{ℕ}

abbrev pub most_processes : ℕ
most_processes = 32

-- slots of a lock, values of a decision, registers of a bank
abbrev pub most_slots : ℕ
most_slots = 8

abbrev pub most_steps : ℕ
most_steps = 1_000_000

abbrev pub top_tick : ℕ
top_tick = 4_000_000_000

abbrev pub top_wait : ℕ
top_wait = 65_535

-- the deadline that no tick passes, and the wait that asks for it
abbrev pub unlimited : ℕ
unlimited = 4_294_967_295
