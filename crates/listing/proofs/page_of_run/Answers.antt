-- `page_of_run` meets its contract: the two cases of the text of a run. Assumes nothing.
use Rattle.std.proofs.Common.{refl}
use Rattle.terms.proofs.RefusalLaws.{some_number}
use Rattle.listing.proofs.TextLaws.{text_accepted, text_refused}
use Rattle.listing.proofs.page_of_run.Goals as goal

pub returns-in-Ok : goal.returns-in-Ok
returns-in-Ok c =
    rw (c.put_lines.ensures, c.put_head.ensures, c.new-page.ensures, c.from.ensures, c.from-in-Ok.ensures, c.from-in-Ok-2.ensures, c.in-Ok.is)
    (text_accepted c.args.input.now _ c.byte_at.ensures c.byte_at-n.ensures refl)

pub returns-in-Err : goal.returns-in-Err
returns-in-Err c =
    rw (c.put_refused.ensures, c.new-page.ensures, c.from-in-Err.ensures, c.in-Err.is)
    (text_refused c.args.input.now _ (some_number c.in-Err.refused.refusal))
