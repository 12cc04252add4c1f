-- The loop of `engine::runs::take_records`: the first k records led to the state. Assumes nothing.
use Rattle.engine.proofs.Walk.{Going}
use Rattle.engine.proofs.runs.take_records.Given as goal

abbrev pub invariant-loop-k : goal.invariant-loop-k
invariant-loop-k l = Going l.course.shape l.initial.state l.rest l.state l.k
