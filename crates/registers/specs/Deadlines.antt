-- The deadline rule of the timed registers (01, "The register bank"), over the values and the deadlines of a bank, with no refusals.
use Rattle.std.specs.Prelude.{ℕ, ◌+◌, ◌*◌, Bool, cond, List, eqb, ltb, get_or, set}
use Rattle.terms.specs.declared.ProcessNumber.{ProcessNumber}
use Rattle.terms.specs.declared.SlotNumber.{SlotNumber}
use Rattle.terms.specs.Limits.{unlimited}
use Rattle.terms.specs.Numbers.{index_of}
use Rattle.registers.specs.Sizes.{register_count}

-- the place of a pair among the deadlines
abbrev pub pair_of : ProcessNumber → SlotNumber → ℕ
pair_of i c = index_of i * register_count + c.0

abbrev pub value_in : List ℕ → SlotNumber → ℕ
value_in values c = get_or values c.0 0

abbrev pub deadline_in : List ℕ → ProcessNumber → SlotNumber → ℕ
deadline_in deadlines i c = get_or deadlines (pair_of i c) 0

-- the deadline that a read at tick t with the wait d sets
abbrev pub due : ℕ → ℕ → ℕ
due t d = cond (eqb d unlimited) unlimited (t + d)

-- a write at tick t is late after the pair's deadline
abbrev pub late_in : List ℕ → ProcessNumber → SlotNumber → ℕ → Bool
late_in deadlines i c t = ltb (deadline_in deadlines i c) t

-- the value that a read gives, or whether a write is late, and what is there afterwards (a read leaves the values)
pub record Seen : Type 0 where
  pub value : ℕ
  pub deadlines : List ℕ
  pub last : ℕ

pub record Stored : Type 0 where
  pub late : Bool
  pub values : List ℕ
  pub deadlines : List ℕ
  pub last : ℕ

-- a read of c by i at tick t with the wait d binds the pair
abbrev pub read_granted : List ℕ → List ℕ → ProcessNumber → SlotNumber → ℕ → ℕ → Seen
read_granted values deadlines i c t d =
    record {
      value = value_in values c;
      deadlines = set deadlines (pair_of i c) (due t d);
      last = t;
    }

-- a write of v to c by i at tick t stores v unless it is late, and frees the pair either way
abbrev pub write_granted : List ℕ → List ℕ → ProcessNumber → SlotNumber → ℕ → ℕ → Stored
write_granted values deadlines i c t v =
    record {
      late = late_in deadlines i c t;
      values = cond (late_in deadlines i c t) values (set values c.0 v);
      deadlines = set deadlines (pair_of i c) unlimited;
      last = t;
    }
