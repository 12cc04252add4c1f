-- The loop of `engine::report::write_lines`: before each turn the lines of the first j rows lie over the report's front. Assumes nothing.
use Rattle.std.proofs.Common.{◌≡◌}
use Rattle.terms.specs.Overlay.{overlay}
use Rattle.model.specs.Routine.{routine}
use Rattle.model.specs.Report.{lines}
use Rattle.engine.proofs.report.write_lines.Given as goal

abbrev pub invariant-loop-j : goal.invariant-loop-j
invariant-loop-j l = l.report ≡ overlay (lines (routine l.shape) l.rows l.j) l.initial.report
