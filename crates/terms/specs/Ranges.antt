-- Numbers in their ranges, as a bank asks for them.
use Rattle.std.specs.Prelude.{ℕ, ◌≤◌, ◌<◌, ◌≡◌}
use Rattle.terms.specs.declared.ProcessNumber.{ProcessNumber}
use Rattle.terms.specs.declared.SlotNumber.{SlotNumber}
use Rattle.terms.specs.Limits.{most_processes, most_slots, top_tick, top_wait, unlimited}

-- i is a process, and c a register
pub record IsPair (i : ProcessNumber) (c : SlotNumber) : Type 0 where
  pub least : 1 ≤ i.0
  pub most : i.0 ≤ most_processes
  pub slot : c.0 < most_slots

pub record IsTick (t : ℕ) : Type 0 where
  pub top : t ≤ top_tick

-- d is a wait: at most the top wait, unless it is unlimited
pub record IsWait (d : ℕ) : Type 0 where
  pub limited : (d ≡ unlimited → ⊥) → d ≤ top_wait
