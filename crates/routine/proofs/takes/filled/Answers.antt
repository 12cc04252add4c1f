-- `routine::takes::filled` meets its contract: a slot below the count is its own remainder. Assumes nothing.
use Rattle.std.proofs.Common.{sym, ap}
use native.Mathlib.Nat.{mod-eq_of_lt}
use Rattle.terms.specs.Numbers.{slot_of}
use Rattle.routine.proofs.takes.filled.Goals as goal

pub returns-then-inside : goal.returns-then-inside
returns-then-inside c = ap slot_of (sym (mod-eq_of_lt c.if-inside.true))
