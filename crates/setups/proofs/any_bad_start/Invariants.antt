-- The loop of `any_bad_start`: whether some byte so far is bad. Assumes nothing.
use Rattle.std.proofs.Common.{◌≡◌, take}
use Rattle.std.specs.List.{list_any}
use Rattle.setups.specs.Setup.{proposes, no_start}
use Rattle.setups.proofs.any_bad_start.Given as goal

abbrev pub invariant-loop-x : goal.invariant-loop-x
invariant-loop-x l = l.bad ≡ list_any (no_start (proposes l.fn.kind) l.size) (take l.x-index l.s)
