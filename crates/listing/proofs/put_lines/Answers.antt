-- `put_lines` meets its contract: each turn puts one line more, and there is room for it among the lines of n processes. Assumes nothing.
use Rattle.std.proofs.Common.{append_assoc, arith, length-append}
use Rattle.listing.proofs.Lengths.{lines_within}
use Rattle.listing.proofs.TextLaws.{lines_more}
use Rattle.listing.proofs.put_lines.Goals as goal

pub put_line-requires : goal.put_line-requires
put_line-requires c =
    let room = lines_within c.args.report.now c.loop-j.j c.args.n (omega arith) in
    (omega arith, rw c.loop-j.invariant (simp length-append (omega (arith, simp length-append at room))))

pub loop-j-preserved : goal.loop-j-preserved
loop-j-preserved c = grind (arith, append_assoc, lines_more)
