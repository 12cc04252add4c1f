-- `bank::calls::read_in` meets its contract: what the deadline rule gives is what an accepted read leaves. Assumes nothing.
use Rattle.std.proofs.Common.{rules}
use Rattle.bank.proofs.Outcomes.{read_given}
use Rattle.bank.proofs.calls.read_in.Goals as goal

pub returns : goal.returns
returns c = read_given _ _ _ _ _ _ _ (search rules) _ _ _ c.read_granted.ensures
