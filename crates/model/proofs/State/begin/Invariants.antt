-- `State::begin`: the first j rows begin, the others are blank; the rest is as it was. Assumes nothing.
use Rattle.std.proofs.Common.{◌≡◌}
use Rattle.model.proofs.StartLaws.{Filled}
use Rattle.model.proofs.State.begin.Given as goal

abbrev pub invariant-loop-j : goal.invariant-loop-j
invariant-loop-j l = record {
  rows : Filled l.shape l.starts l.j l.self.rows;
  bank : l.self.bank ≡ l.initial.self.bank;
  shared : l.self.shared ≡ l.initial.self.shared;
  newest : l.self.newest ≡ l.initial.self.newest;
}
