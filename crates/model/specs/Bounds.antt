-- What keeps the code's indices and sums in range: every state of a run has it (proofs/Keeping.antt), so the engine tests nothing twice.
use Rattle.std.specs.Prelude.{ℕ, ◌≤◌, ◌<◌, ◌≢◌, List, length, get_or}
use Rattle.terms.specs.Limits.{most_slots, most_steps, top_wait, unlimited}
use Rattle.model.specs.declared.Shape.{Shape}
use Rattle.model.specs.declared.Row.{Row}
use Rattle.model.specs.declared.Ask.{Ask}
use Rattle.model.specs.Routine.{Routine, routine, ask_at}

-- a list of bytes, as every slice of them is
abbrev pub Bytes : List ℕ → Type 0
Bytes s = (j : ℕ) → get_or s j 0 < 256

-- what an accepted setup says of the shape
pub record Sound (u : Shape) : Type 0 where
  pub some : 1 ≤ u.count
  pub sized : 1 ≤ u.size
  pub slim : u.size ≤ most_slots
  pub bounded : u.delta ≤ top_wait

-- and of the start bytes: one for each process, or more
abbrev pub start_ok : Routine → ℕ → ℕ → Type 0
start_ok (Routine.Lock how) size x = x < size
start_ok Routine.Plain size x = (1 ≤ x) × (x ≤ size)
start_ok Routine.Fast size x = (1 ≤ x) × (x ≤ size)

pub record Starts (u : Shape) (xs : List ℕ) : Type 0 where
  pub few : u.count ≤ length xs
  pub each : (j : ℕ) → j < u.count → start_ok (routine u) u.size (get_or xs j 0)

-- the register, the wait, the flag of an operation are there
abbrev pub AskFits : Ask → Type 0
AskFits Ask.Nothing = Unit {0}
AskFits (Ask.Read c d) = (c.0 < most_slots) × (d ≢ unlimited → d ≤ top_wait)
AskFits (Ask.Write c v) = c.0 < most_slots
AskFits (Ask.Raise v) = v ≤ most_slots
AskFits (Ask.Peek v) = v ≤ most_slots

-- a row that one move more leaves in range
pub record Room (u : Shape) (r : Row) : Type 0 where
  pub asks : AskFits (ask_at r.local.place u.delta r)
  pub slot : r.local.slot.0 < most_slots
  pub scan : r.local.scan ≤ most_slots
  pub moves : r.moves < most_steps
  pub lates : r.lates < most_steps

-- one move more can be counted
pub record Uncounted (r : Row) : Type 0 where
  pub moves : r.moves < most_steps
  pub lates : r.lates < most_steps
