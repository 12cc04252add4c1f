-- `ghindulza::ghindulza_read_setup` meets its contract: the outcomes of SetupParts. Assumes nothing.
use Rattle.std.proofs.Common.{arith}
use Rattle.ghindulza.proofs.SetupParts.{rest_within, setup_accepted, setup_refused}
use Rattle.ghindulza.proofs.ghindulza_read_setup.Goals as goal

pub overflow_sub-rest : goal.overflow_sub-rest
overflow_sub-rest c = omega (arith, rest_within c.args.bytes.now c.in-Ok.ensures, c.from-start.ensures)

pub returns-in-Ok : goal.returns-in-Ok
returns-in-Ok c =
    rw (c.from.ensures, c.from-in-Ok.ensures, c.from-in-Ok-2.ensures, c.from-in-Ok-3.ensures, c.from-start.ensures)
    (setup_accepted c.args.bytes.now c.in-Ok.ensures)

pub returns-in-Err : goal.returns-in-Err
returns-in-Err c = rw c.from-in-Err.ensures (setup_refused c.args.bytes.now (omega arith) (omega arith) c.in-Err.ensures)
