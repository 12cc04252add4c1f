-- `bank::calls::write_in` meets its contract: what the deadline rule gives is what an accepted write leaves. Assumes nothing.
use Rattle.std.proofs.Common.{rules}
use Rattle.bank.proofs.Outcomes.{write_given}
use Rattle.bank.proofs.calls.write_in.Goals as goal

pub returns-then-write_granted : goal.returns-then-write_granted
returns-then-write_granted c = write_given _ _ _ _ _ (search rules) _ _ _ _ c.if-write_granted.ensures

pub returns : goal.returns
returns c = write_given _ _ _ _ _ (search rules) _ _ _ _ c.if-write_granted.ensures
