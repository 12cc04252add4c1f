-- `model::State::begin` meets its contract: the first j rows begin, the others are blank; the rest is as it was. Assumes nothing.
use Rattle.std.proofs.Common.{◌≡◌, refl, sym, ap, ◌∙◌, rules, arith, length}
use Rattle.terms.specs.Limits.{most_processes}
use Rattle.bank.specs.Registers.{fresh_bank, fresh_bank_of}
use Rattle.model.specs.declared.State.{State}
use Rattle.model.specs.Routine.{routine}
use Rattle.model.specs.Run.{blank_state, fresh}
use Rattle.model.proofs.StartLaws.{filled_none, filled_more, filled_done, begun_from_blank}
use Rattle.model.proofs.State.begin.Goals as goal

pub loop-j-init : goal.loop-j-init
unfolding blank_state
loop-j-init c = record {
  rows = rw c.requires (filled_none c.args.shape c.args.starts _ refl);
  bank = refl;
  shared = refl;
  newest = refl;
}

pub loop-j-preserved : goal.loop-j-preserved
loop-j-preserved c =
    let l = c.loop-j in
    let i = l.invariant in
    record {
      rows = filled_more c.args.shape c.args.starts l.j l.self.rows i.rows (omega arith) (omega arith)
          (c.begin.ensures ∙ begun_from_blank (routine c.args.shape) _ _ (i.rows.others l.j (omega arith)));
      bank = i.bank;
      shared = i.shared;
      newest = i.newest;
    }

pub returns : goal.returns
unfolding fresh fresh_bank blank_state
returns c =
    let l = c.loop-j in
    let i = l.invariant in
    let long : length c.args.starts ≡ most_processes = search rules in
    let rows = filled_done c.args.shape c.args.starts l.j l.self.rows i.rows long (λ i h k. omega arith) in
    let old = c.requires in
    λ t. record {
      rows = rows t;
      bank = (i.bank ∙ ap (λ (s : State). s.bank) old ∙ ap fresh_bank_of (sym long)) t;
      shared = (i.shared ∙ ap (λ (s : State). s.shared) old) t;
      newest = (i.newest ∙ ap (λ (s : State). s.newest) old) t;
    }
