-- `engine::report::write_line` meets its contract: four numbers, each where the line has it. Assumes nothing.
use Rattle.model.specs.Routine.{routine_of}
use Rattle.model.proofs.ReportLaws.{line_stored}
use Rattle.engine.proofs.report.write_line.Goals as goal

pub returns : goal.returns
returns c =
    let a = c.args in
    rw (c.shown_place.ensures, c.figure.ensures) (line_stored (routine_of a.kind) a.row.now a.at a.report.now c.requires)
