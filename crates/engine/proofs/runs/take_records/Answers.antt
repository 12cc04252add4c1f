-- `engine::runs::take_records` meets its contract: a turn takes one record more, or answers with its refusal. Assumes nothing.
use Rattle.std.proofs.Common.{arith}
use Rattle.terms.proofs.Parts.{part_to_end}
use Rattle.model.specs.Run.{records}
use Rattle.model.proofs.RunLaws.{reach_start}
use Rattle.engine.proofs.Walk.{arrives, roomy, falls, lands}
use Rattle.engine.proofs.runs.take_records.Goals as goal

pub loop-k-init : goal.loop-k-init
loop-k-init c = record { so_far = reach_start _ _ _ }

pub take_record-requires : goal.take_record-requires
take_record-requires c =
    let r = c.requires in
    roomy c.loop-k.invariant (omega arith) c.args.course.sound r.begins r.short

pub returns-in-Err : goal.returns-in-Err
returns-in-Err c = falls c.loop-k.invariant (omega arith) (rw part_to_end at c.in-Err.ensures.answer) _

pub loop-k-preserved : goal.loop-k-preserved
loop-k-preserved c =
    lands c.loop-k.invariant (omega arith) (rw part_to_end at c.in-Ok.ensures.answer) (rw part_to_end at c.take_record.ensures.left)

pub returns : goal.returns
unfolding records
returns c = arrives c.loop-k.invariant (omega arith) (omega arith)
