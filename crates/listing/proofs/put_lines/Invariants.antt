-- The loop of `put_lines`: the lines of the first j processes are on the page. Assumes nothing.
use Rattle.std.proofs.Common.{◌≡◌, ◌++◌}
use Rattle.listing.specs.Text.{process_lines}
use Rattle.listing.proofs.put_lines.Given as goal

abbrev pub invariant-loop-j : goal.invariant-loop-j
invariant-loop-j l = l.page.bytes ≡ l.initial.page.bytes ++ process_lines l.report l.j
