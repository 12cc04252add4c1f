-- `engine::report::write_lines` meets its contract: each turn lays one line more. Assumes nothing.
use Rattle.std.proofs.Common.{◌∙◌, refl}
use Rattle.model.specs.Routine.{routine}
use Rattle.model.specs.Report.{lines}
use Rattle.model.proofs.ReportLaws.{lines_more}
use Rattle.engine.proofs.report.write_lines.Goals as goal

pub loop-j-init : goal.loop-j-init
unfolding lines
loop-j-init c = refl

pub loop-j-preserved : goal.loop-j-preserved
loop-j-preserved c =
    let l = c.loop-j in
    let a = c.args in
    c.write_line.ensures ∙ lines_more (routine a.course.shape) a.rows.now l.j a.report.now l.report l.invariant
