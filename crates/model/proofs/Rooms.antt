-- Every row of a run's state has room for one more move: its operation is in range, and its counts stay below the most steps.
-- Assumes nothing.
use Prim.Native.Nat.{ℕ, ◌≤◌, ◌<◌}
use mathlib.Core.Path.{◌≡◌, refl}
use mathlib.Core.List.{List}
use native.Mathlib.Omega.{arith}
use lib.Dec.{T}
use Rattle.terms.specs.Limits.{most_slots, most_steps}
use Rattle.model.specs.declared.Place.{Place}
use Rattle.model.specs.declared.Shape.{Shape}
use Rattle.model.specs.declared.Row.{Row}
use Rattle.model.specs.declared.State.{State}
use Rattle.model.specs.Routine.{Routine, routine, ask_at}
use Rattle.model.specs.Bounds.{Sound, Starts, AskFits, Room}
use Rattle.model.specs.Run.{row_at, fresh, reach, Progress.going}
use Rattle.model.proofs.Places.{in_kind}
use Rattle.model.proofs.Keeping.{RowOk, slot_small, reach_kept}
use Rattle.model.proofs.Counts.{reach_counts}

-- THE OPERATION

own_small : (κ : Routine) (u : Shape) → Sound u → {j : ℕ} {r : Row} → RowOk κ u j r → T (in_kind κ Place.Flag) → r.own ≤ most_slots
own_small (Routine.Lock how) u so ok h = absurd h
own_small Routine.Plain u so ok h = omega (arith, ok.small, so.slim)
own_small Routine.Fast u so ok h = omega (arith, ok.small, so.slim)

pub ask_fits : (κ : Routine) (u : Shape) → Sound u → (j : ℕ) (r : Row) → RowOk κ u j r → (p : Place) → T (in_kind κ p) → AskFits (ask_at p u.delta r)
ask_fits κ u so j r ok = go
  where
    slot : r.local.slot.0 < most_slots
    slot = slot_small κ u so j r ok

    go : (p : Place) → T (in_kind κ p) → AskFits (ask_at p u.delta r)
    go Place.Rest h = tt
    go Place.Look h = (slot, λ n. so.bounded)
    go Place.Put h = slot
    go Place.Wait h = tt
    go Place.Check h = (slot, λ n. absurd (n refl))
    go Place.Critical h = slot
    go Place.Flag h = own_small κ u so ok h
    go Place.Scan h = omega (arith, ok.scan, so.slim)
    go Place.Decided h = tt

-- A STATE OF A RUN

pub reach_room : (u : Shape) → Sound u → (xs : List ℕ) → Starts u xs → (rest : List ℕ) (k : ℕ) {s : State} → reach u (fresh u xs) rest k ≡ going s
    → k < most_steps
    → (j : ℕ) → j < u.count → Room u (row_at s j)
reach_room u so xs st rest k {s} e h j below =
    let ok = (reach_kept u so xs st rest k e).each j in
    let few = reach_counts u so xs st rest k e j in
    record {
      asks = ask_fits (routine u) u so j (row_at s j) ok (row_at s j).local.place (ok.place below);
      slot = slot_small (routine u) u so j (row_at s j) ok;
      scan = omega (arith, ok.scan, so.slim);
      moves = omega (arith, few.within);
      lates = omega (arith, few.fewer, few.within);
    }
