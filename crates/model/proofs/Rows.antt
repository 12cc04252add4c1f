-- What every row of a run keeps, by its routine: a place of the routine, the value that it writes, a slot that it may have.
-- Assumes nothing.
use Prim.Native.Nat.{ℕ, suc, ◌≤◌, ◌<◌}
use mathlib.Core.Path.{◌≡◌, refl}
use mathlib.Core.Logic.{◌≢◌}
use mathlib.Core.Bool.{Bool, true, false, cond}
use native.Mathlib.Omega.{arith}
use native.Mathlib.Nat.{mod-lt}
use lib.Dec.{T, leb}
use borrow.Author.Tests.{leb-true}
use Rattle.terms.specs.Limits.{most_slots}
use Rattle.model.specs.declared.Place.{Place}
use Rattle.model.specs.declared.Shape.{Shape}
use Rattle.model.specs.declared.Local.{Local}
use Rattle.model.specs.declared.Row.{Row}
use Rattle.model.specs.Routine.{Routine, to, scans, SlotRule, Slots, slots_of, lock_next, plain_next, scan_at, fast_next, next_of, begin}
use Rattle.model.specs.Bounds.{Sound, start_ok}
use Rattle.model.specs.Run.{blank}
use Rattle.model.proofs.Places.{in_kind}

-- what the process of row j writes, and the slots that it may have
abbrev pub OwnOk : Routine → Shape → ℕ → ℕ → Type 0
OwnOk (Routine.Lock how) u j x = x ≡ suc j
OwnOk Routine.Plain u j x = 1 ≤ x
OwnOk Routine.Fast u j x = 1 ≤ x

abbrev pub SmallOk : Routine → Shape → ℕ → Type 0
SmallOk (Routine.Lock how) u x = Unit {0}
SmallOk Routine.Plain u x = x ≤ u.size
SmallOk Routine.Fast u x = x ≤ u.size

abbrev pub SlotOk : Routine → Shape → ℕ → ℕ → Type 0
SlotOk (Routine.Lock how) u j c = c < u.size
SlotOk Routine.Plain u j c = c ≡ 0
SlotOk Routine.Fast u j c = c ≡ 0

-- row j of a run of each routine; the rows from the count on are blank
pub record RowOk (κ : Routine) (u : Shape) (j : ℕ) (r : Row) : Type 0 where
  pub place : j < u.count → T (in_kind κ r.local.place)
  pub own : j < u.count → OwnOk κ u j r.own
  pub small : SmallOk κ u r.own
  pub slot : SlotOk κ u j r.local.slot.0
  pub scan : r.local.scan ≤ u.size
  pub undecided : r.local.place ≢ Place.Decided → r.local.decided ≡ 0

abbrev pub LockRow : SlotRule → Shape → ℕ → Row → Type 0
LockRow how u j r = RowOk (Routine.Lock how) u j r

abbrev pub PlainRow : Shape → ℕ → Row → Type 0
PlainRow u j r = RowOk Routine.Plain u j r

abbrev pub FastRow : Shape → ℕ → Row → Type 0
FastRow u j r = RowOk Routine.Fast u j r

-- the slots that a lock's process takes are slots
record Slotted (u : Shape) (c : Slots) : Type 0 where
  leave : c.leave.0 < u.size
  filled : c.filled.0 < u.size
  lost : c.lost.0 < u.size

slotted : (how : SlotRule) (u : Shape) (x : Local) → 1 ≤ u.size → x.slot.0 < u.size → Slotted u (slots_of how u x)
slotted SlotRule.Ring u x h g = record { leave = g; filled = mod-lt _ h; lost = g }

-- what a move changes of a row: the rest of it, own value apart, may be anything
pub record LocalOk (κ : Routine) (u : Shape) (j : ℕ) (x : Local) : Type 0 where
  place : j < u.count → T (in_kind κ x.place)
  slot : SlotOk κ u j x.slot.0
  scan : x.scan ≤ u.size
  undecided : x.place ≢ Place.Decided → x.decided ≡ 0

pub local_ok : (κ : Routine) (u : Shape) (j : ℕ) (r : Row) → RowOk κ u j r → LocalOk κ u j r.local
local_ok κ u j r ok = record { place = ok.place; slot = ok.slot; scan = ok.scan; undecided = ok.undecided }

pub row_ok : (κ : Routine) (u : Shape) (j : ℕ) (r q : Row) → RowOk κ u j r → q.own ≡ r.own → LocalOk κ u j q.local → RowOk κ u j q
row_ok κ u j r q ok same x =
    record {
      place = x.place;
      own = λ h. rw same (ok.own h);
      small = rw same ok.small;
      slot = x.slot;
      scan = x.scan;
      undecided = x.undecided;
    }

at : (κ : Routine) (u : Shape) (j : ℕ) (x : Local) → T (in_kind κ x.place) → SlotOk κ u j x.slot.0 → x.scan ≤ u.size
    → (x.place ≢ Place.Decided → x.decided ≡ 0) → LocalOk κ u j x
at κ u j x place slot scan undecided = record { place = λ h. place; slot = slot; scan = scan; undecided = undecided }

-- a move of a process that has not decided leads to such a local part; v is what it read and w when its wait would end
module _ (u : Shape) (so : Sound u) (j : ℕ) (r : Row) (none : r.local.decided ≡ 0) (v w : ℕ) where
  lock_next_lem : (how : SlotRule) → LockRow how u j r → (p : Place) (b : Bool)
      → LocalOk (Routine.Lock how) u j (lock_next (slots_of how u r.local) p b w r.local)
  lock_next_lem how ok = go
    where
      c : Slotted u (slots_of how u r.local)
      c = slotted how u r.local so.sized ok.slot

      go : (p : Place) (b : Bool) → LocalOk (Routine.Lock how) u j (lock_next (slots_of how u r.local) p b w r.local)
      go Place.Rest b = at _ u j _ tt c.leave ok.scan (λ h. none)
      go Place.Look true = at _ u j _ tt ok.slot ok.scan (λ h. none)
      go Place.Look false = at _ u j _ tt c.filled ok.scan (λ h. none)
      go Place.Put true = at _ u j _ tt ok.slot ok.scan (λ h. none)
      go Place.Put false = at _ u j _ tt ok.slot ok.scan (λ h. none)
      go Place.Wait b = at _ u j _ tt ok.slot ok.scan (λ h. none)
      go Place.Check true = at _ u j _ tt ok.slot ok.scan (λ h. none)
      go Place.Check false = at _ u j _ tt c.lost ok.scan (λ h. none)
      go Place.Critical b = at _ u j _ tt ok.slot ok.scan (λ h. none)
      go Place.Flag b = local_ok _ u j r ok
      go Place.Scan b = local_ok _ u j r ok
      go Place.Decided b = local_ok _ u j r ok

  plain_next_lem : PlainRow u j r → (p : Place) (b : Bool) → LocalOk Routine.Plain u j (plain_next p b v w r.local)
  plain_next_lem ok Place.Rest b = local_ok _ u j r ok
  plain_next_lem ok Place.Look true = at _ u j _ tt ok.slot ok.scan (λ h. none)
  plain_next_lem ok Place.Look false = at _ u j _ tt ok.slot ok.scan (λ h. none)
  plain_next_lem ok Place.Put b = at _ u j _ tt ok.slot ok.scan (λ h. none)
  plain_next_lem ok Place.Wait b = at _ u j _ tt ok.slot ok.scan (λ h. none)
  plain_next_lem ok Place.Check b = at _ u j _ tt ok.slot ok.scan (λ h. absurd (h refl))
  plain_next_lem ok Place.Critical b = local_ok _ u j r ok
  plain_next_lem ok Place.Flag b = local_ok _ u j r ok
  plain_next_lem ok Place.Scan b = local_ok _ u j r ok
  plain_next_lem ok Place.Decided b = local_ok _ u j r ok

  scan_next : FastRow u j r → (y : ℕ) → LocalOk Routine.Fast u j (scan_at u.size y r.local)
  scan_next ok y = by (leb y u.size) refl
    where
      by : (b : Bool) → leb y u.size ≡ b → LocalOk Routine.Fast u j (cond b (scans y (to Place.Scan r.local)) (to Place.Check r.local))
      by true e = at _ u j _ tt ok.slot (leb-true _ _ e) (λ h. none)
      by false e = at _ u j _ tt ok.slot ok.scan (λ h. none)

  fast_next_lem : FastRow u j r → (p : Place) (b : Bool) → LocalOk Routine.Fast u j (fast_next u.size r.own p b v w r.local)
  fast_next_lem ok Place.Rest b = local_ok _ u j r ok
  fast_next_lem ok Place.Look true = at _ u j _ tt ok.slot ok.scan (λ h. none)
  fast_next_lem ok Place.Look false = scan_next ok _
  fast_next_lem ok Place.Put b = at _ u j _ tt ok.slot ok.scan (λ h. none)
  fast_next_lem ok Place.Wait b = at _ u j _ tt ok.slot ok.scan (λ h. none)
  fast_next_lem ok Place.Check b = at _ u j _ tt ok.slot ok.scan (λ h. absurd (h refl))
  fast_next_lem ok Place.Critical b = local_ok _ u j r ok
  fast_next_lem ok Place.Flag b = at _ u j _ tt ok.slot ok.scan (λ h. none)
  fast_next_lem ok Place.Scan true = scan_next ok _
  fast_next_lem ok Place.Scan false = at _ u j _ tt ok.slot ok.scan (λ h. none)
  fast_next_lem ok Place.Decided b = local_ok _ u j r ok

  pub next_ok : (κ : Routine) → RowOk κ u j r → (p : Place) (b : Bool) → LocalOk κ u j (next_of κ u r.own p b v w r.local)
  next_ok (Routine.Lock how) = lock_next_lem how
  next_ok Routine.Plain = plain_next_lem
  next_ok Routine.Fast = fast_next_lem

-- AT THE BEGINNING

pub ok_begin : (κ : Routine) (u : Shape) (j x : ℕ) → start_ok κ u.size x → RowOk κ u j (begin κ j x)
ok_begin (Routine.Lock how) u j x ok = record { place = λ h. tt; own = λ h. omega arith; small = tt; slot = ok; scan = omega arith; undecided = λ h. refl }
ok_begin Routine.Plain u j x ok = record { place = λ h. tt; own = λ h. ok.0; small = ok.1; slot = refl; scan = omega arith; undecided = λ h. refl }
ok_begin Routine.Fast u j x ok = record { place = λ h. tt; own = λ h. ok.0; small = ok.1; slot = refl; scan = omega arith; undecided = λ h. refl }

blank_decision : (κ : Routine) (u : Shape) (j : ℕ) → u.count ≤ j → SmallOk κ u 0 → SlotOk κ u j 0 → RowOk κ u j blank
blank_decision κ u j past small slot =
    record {
      place = λ h. absurd (omega arith);
      own = λ h. absurd (omega arith);
      small = small;
      slot = slot;
      scan = omega arith;
      undecided = λ h. refl;
    }

pub ok_blank : (κ : Routine) (u : Shape) (j : ℕ) → Sound u → u.count ≤ j → RowOk κ u j blank
ok_blank (Routine.Lock how) u j so past =
    record { place = λ h. tt; own = λ h. absurd (omega arith); small = tt; slot = so.sized; scan = omega arith; undecided = λ h. refl }
ok_blank Routine.Plain u j so past = blank_decision Routine.Plain u j past (omega arith) refl
ok_blank Routine.Fast u j so past = blank_decision Routine.Fast u j past (omega arith) refl

pub slot_small : (κ : Routine) (u : Shape) → Sound u → (j : ℕ) (r : Row) → RowOk κ u j r → r.local.slot.0 < most_slots
slot_small (Routine.Lock how) u so j r ok = omega (arith, ok.slot, so.slim)
slot_small Routine.Plain u so j r ok = omega (arith, ok.slot)
slot_small Routine.Fast u so j r ok = omega (arith, ok.slot)
