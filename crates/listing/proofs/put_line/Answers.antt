-- `put_line` meets its contract: five figures one after the other. Assumes nothing.
use Rattle.std.proofs.Common.{append_assoc, arith}
use Rattle.listing.proofs.put_line.Goals as goal

pub returns : goal.returns
returns c = grind (arith, append_assoc)
