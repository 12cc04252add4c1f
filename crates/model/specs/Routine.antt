-- What one process does at a move (01, "Places and moves"; document 003, figures 3, 7 and 8): what it asks of memory at its place, what it
-- learns from the answer, where it goes. It sees no clock and no other process. The numbers beside clauses are the figures' lines.
use Rattle.std.specs.Prelude.{ℕ, ◌+◌, ◌%◌, Bool, true, false, cond, eqb, leb}
use Rattle.terms.specs.Limits.{unlimited}
use Rattle.terms.specs.declared.SlotNumber.{SlotNumber}
use Rattle.terms.specs.Numbers.{slot_of}
use Rattle.model.specs.declared.Place.{Place}
use Rattle.kinds.specs.declared.Kind.{Kind}
use Rattle.model.specs.declared.Shape.{Shape}
use Rattle.model.specs.declared.Local.{Local}
use Rattle.model.specs.declared.Row.{Row}
use Rattle.model.specs.declared.Ask.{Ask}
use Rattle.model.specs.declared.Reply.{Reply}

-- The slots that a lock's process takes: when it leaves rest, when it finds its slot filled, when it loses its check.
pub record Slots : Type 0 where
  pub leave : SlotNumber
  pub filled : SlotNumber
  pub lost : SlotNumber

-- How a kind of lock chooses them. A further kind of lock is a rule more, with its clause of `slots_of`.
pub data SlotRule : Type 0 where
  Ring : SlotRule

-- the next slot round
abbrev pub around : Shape → Local → SlotNumber
around u x = slot_of ((x.slot.0 + 1) % u.size)

-- kind 1: the next one round when it finds its slot filled, else the same
abbrev pub slots_of : SlotRule → Shape → Local → Slots
slots_of SlotRule.Ring u x = record { leave = x.slot; filled = around u x; lost = x.slot }

-- The routines behind the kinds. Only a lock has slots to choose.
pub data Routine : Type 0 where
  Lock : SlotRule → Routine
  Plain : Routine
  Fast : Routine

abbrev pub routine_of : Kind → Routine
routine_of Kind.Lock = Routine.Lock SlotRule.Ring
routine_of Kind.Plain = Routine.Plain
routine_of Kind.Fast = Routine.Fast

abbrev pub routine : Shape → Routine
routine u = routine_of u.kind

-- ASK: the one operation of memory at a place
abbrev pub ask_at : Place → ℕ → Row → Ask
ask_at Place.Rest Δ r = Ask.Nothing
ask_at Place.Look Δ r = Ask.Read r.local.slot Δ
ask_at Place.Put Δ r = Ask.Write r.local.slot r.own
ask_at Place.Wait Δ r = Ask.Nothing
ask_at Place.Check Δ r = Ask.Read r.local.slot unlimited
ask_at Place.Critical Δ r = Ask.Write r.local.slot 0
ask_at Place.Flag Δ r = Ask.Raise r.own
ask_at Place.Scan Δ r = Ask.Peek r.local.scan
ask_at Place.Decided Δ r = Ask.Nothing

-- What a process learns: at look that the register is empty, at put that it was late, at check that it reads its own value, at scan that the
-- flag is clear; elsewhere nothing.
abbrev pub told : Place → Row → Reply → Bool
told Place.Rest r a = true
told Place.Look r a = eqb a.value 0
told Place.Put r a = a.late
told Place.Wait r a = true
told Place.Check r a = eqb a.value r.own
told Place.Critical r a = true
told Place.Flag r a = true
told Place.Scan r a = eqb a.value 0
told Place.Decided r a = true

-- at another place; at another slot; with a wait that ends at tick w; with a decision; with the next value of a scan
abbrev pub to : Place → Local → Local
to p x = record { place = p; slot = x.slot; decided = x.decided; wake = x.wake; scan = x.scan }

abbrev pub on : SlotNumber → Local → Local
on c x = record { place = x.place; slot = c; decided = x.decided; wake = x.wake; scan = x.scan }

abbrev pub until : ℕ → Local → Local
until w x = record { place = x.place; slot = x.slot; decided = x.decided; wake = w; scan = x.scan }

abbrev pub decides : ℕ → Local → Local
decides v x = record { place = x.place; slot = x.slot; decided = v; wake = x.wake; scan = x.scan }

abbrev pub scans : ℕ → Local → Local
scans v x = record { place = x.place; slot = x.slot; decided = x.decided; wake = x.wake; scan = v }

-- TAKE. b is what the process learnt, v the value that it read, w the end of a wait that begins now.

-- the slot lock
abbrev pub lock_next : Slots → Place → Bool → ℕ → Local → Local
lock_next c Place.Rest b w x = on c.leave (to Place.Look x)  -- fig. 3, the call
lock_next c Place.Look true w x = to Place.Put x  -- fig. 3, line 2
lock_next c Place.Look false w x = on c.filled (to Place.Look x)  -- fig. 3, line 2
lock_next c Place.Put true w x = to Place.Check x  -- fig. 3, line 3
lock_next c Place.Put false w x = to Place.Wait x  -- fig. 3, line 3
lock_next c Place.Wait b w x = until w (to Place.Check x)  -- fig. 3, line 3
lock_next c Place.Check true w x = to Place.Critical x  -- fig. 3, line 4
lock_next c Place.Check false w x = on c.lost (to Place.Look x)  -- fig. 3, line 4
lock_next c Place.Critical b w x = to Place.Rest x  -- fig. 3, line 5
lock_next c Place.Flag b w x = x
lock_next c Place.Scan b w x = x
lock_next c Place.Decided b w x = x

-- the plain decision
abbrev pub plain_next : Place → Bool → ℕ → ℕ → Local → Local
plain_next Place.Rest b v w x = x
plain_next Place.Look true v w x = to Place.Put x  -- fig. 7, line 1
plain_next Place.Look false v w x = to Place.Wait x  -- fig. 7, line 1
plain_next Place.Put b v w x = to Place.Look x  -- fig. 7, line 1
plain_next Place.Wait b v w x = until w (to Place.Check x)  -- fig. 7, line 2
plain_next Place.Check b v w x = decides v (to Place.Decided x)  -- fig. 7, line 3
plain_next Place.Critical b v w x = x
plain_next Place.Flag b v w x = x
plain_next Place.Scan b v w x = x
plain_next Place.Decided b v w x = x

-- the scan goes on at value y, or ends past the last one; from value y on it skips the process's own
abbrev pub scan_at : ℕ → ℕ → Local → Local
scan_at size y x = cond (leb y size) (scans y (to Place.Scan x)) (to Place.Check x)

abbrev pub scan_from : ℕ → ℕ → ℕ → Local → Local
scan_from size own y x = scan_at size (cond (eqb y own) (y + 1) y) x

-- the fast decision
abbrev pub fast_next : ℕ → ℕ → Place → Bool → ℕ → ℕ → Local → Local
fast_next size own Place.Rest b v w x = x
fast_next size own Place.Look true v w x = to Place.Put x  -- fig. 8, line 2
fast_next size own Place.Look false v w x = scan_from size own 1 x  -- fig. 8, line 2
fast_next size own Place.Put b v w x = to Place.Look x  -- fig. 8, line 2
fast_next size own Place.Wait b v w x = until w (to Place.Check x)  -- fig. 8, line 3
fast_next size own Place.Check b v w x = decides v (to Place.Decided x)  -- fig. 8, line 4
fast_next size own Place.Critical b v w x = x
fast_next size own Place.Flag b v w x = to Place.Look x  -- fig. 8, line 1
fast_next size own Place.Scan true v w x = scan_from size own (x.scan + 1) x  -- fig. 8, line 3
fast_next size own Place.Scan false v w x = to Place.Wait x  -- fig. 8, line 3
fast_next size own Place.Decided b v w x = x

abbrev pub next_of : Routine → Shape → ℕ → Place → Bool → ℕ → ℕ → Local → Local
next_of (Routine.Lock how) u own p b v w x = lock_next (slots_of how u x) p b w x
next_of Routine.Plain u own p b v w x = plain_next p b v w x
next_of Routine.Fast u own p b v w x = fast_next u.size own p b v w x

-- the row after a move: its next local part, one move more, one late write more where the write was late
abbrev pub counted : Bool → Local → Row → Row
counted late x r =
    record { local = x; own = r.own; moves = r.moves + 1; lates = r.lates + cond late 1 0; crashed = r.crashed }

-- the row after a move at place p with the answer a, where a wait that begins now ends at w
abbrev pub row_after : Shape → Place → ℕ → Row → Reply → Row
row_after u p w r a = counted a.late (next_of (routine u) u r.own p (told p r a) a.value w r.local) r

abbrev pub crash : Row → Row
crash r = record { local = r.local; own = r.own; moves = r.moves; lates = r.lates; crashed = true }

-- BEGIN: a process that has not moved, at place p with slot c, that writes v
abbrev pub unmoved : Place → SlotNumber → ℕ → Row
unmoved p c v =
    record {
      local = record { place = p; slot = c; decided = 0; wake = 0; scan = 0 };
      own = v;
      moves = 0;
      lates = 0;
      crashed = false;
    }

-- the row at index j, of a process with start byte x
abbrev pub begin : Routine → ℕ → ℕ → Row
begin (Routine.Lock how) j x = unmoved Place.Rest (slot_of x) (j + 1)
begin Routine.Plain j x = unmoved Place.Look (slot_of 0) x
begin Routine.Fast j x = unmoved Place.Flag (slot_of 0) x

-- a row with the place, the slot and the value of one that begins
abbrev pub begun : Row → Row → Row
begun b r =
    record {
      local = on b.local.slot (to b.local.place r.local);
      own = b.own;
      moves = r.moves;
      lates = r.lates;
      crashed = r.crashed;
    }

abbrev pub is_decided : Place → Bool
is_decided Place.Rest = false
is_decided Place.Look = false
is_decided Place.Put = false
is_decided Place.Wait = false
is_decided Place.Check = false
is_decided Place.Critical = false
is_decided Place.Flag = false
is_decided Place.Scan = false
is_decided Place.Decided = true
