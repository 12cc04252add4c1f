-- What the theorems see of a state: for each process its row and the deadline that binds its next write, the registers, the flags, and the least
-- tick of the next record. Any number of processes, any engine, any rule of time.
-- Assumes nothing.
use Prim.Native.Nat.{ℕ, ◌+◌, ◌≤◌, ◌<◌}
use mathlib.Core.Path.{◌≡◌, refl, sym, subst}
use mathlib.Core.Logic.{◌≢◌}
use mathlib.Core.Bool.{Bool, true, false, cond}
use native.Mathlib.Omega.{arith}
use lib.Dec.{T, eqb}
use borrow.Author.Tests.{eqb-true, eqb-false, eq-eqb, ne_eqb}
use Rattle.model.specs.declared.Place.{Place}
use Rattle.terms.specs.Limits.{unlimited}
use Rattle.model.specs.declared.Row.{Row}
use Rattle.model.specs.Time.{wake_at}
use Rattle.model.proofs.Places.{putting}

pub record Seat : Type 0 where
  pub row : Row
  pub deadline : ℕ

-- the plain registers
pub record Commons : Type 0 where
  pub flag : ℕ → Bool

pub record World : Type 0 where
  pub seat : ℕ → Seat
  pub value : ℕ → ℕ
  pub shared : Commons
  pub floor : ℕ

-- a test of the place
abbrev pub Placed : (Place → Bool) → Seat → Type 0
Placed f s = T (f s.row.local.place)

-- a process whose put is pending, crashed or not
abbrev pub Putting : Seat → Type 0
Putting = Placed putting

abbrev pub slot_at : Seat → ℕ
slot_at s = s.row.local.slot.0

abbrev pub wake_on : Seat → ℕ
wake_on s = s.row.local.wake

abbrev pub own_of : Seat → ℕ
own_of s = s.row.own

-- ONE CHANGE

-- a function with another value at one place
unfoldable pub put : {A : Type 0} → (ℕ → A) → ℕ → A → ℕ → A
put f i a k = cond (eqb k i) a (f k)

-- what holds of the new value at its place, and of the old ones elsewhere, holds of all
pub put_all : {A : Type 0} (P : ℕ → A → Type 0) {f : ℕ → A} {i : ℕ} {a : A} → P i a → ((k : ℕ) → k ≢ i → P k (f k)) → (k : ℕ) → P k (put f i a k)
unfolding put
put_all {A} P {f} {i} {a} here there k = go (eqb k i) refl
  where
    go : (b : Bool) → eqb k i ≡ b → P k (cond b a (f k))
    go true e = subst (λ (j : ℕ). P j a) (sym (eqb-true k i e)) here
    go false e = there k (eqb-false k i e)

pub put_same : {A : Type 0} (f : ℕ → A) (i : ℕ) (a : A) → put f i a i ≡ a
unfolding put
put_same f i a = rw (eq-eqb i i refl)

pub put_other : {A : Type 0} (f : ℕ → A) (i k : ℕ) (a : A) → k ≢ i → put f i a k ≡ f k
unfolding put
put_other f i k a n = rw (ne_eqb k i n)

-- the world after a record: one seat is new
abbrev pub moved : World → ℕ → Seat → (ℕ → ℕ) → Commons → ℕ → World
moved w m s v g f = record { seat = put w.seat m s; value = v; shared = g; floor = f }

-- after a crash: the mark in the row is all
abbrev pub crashed : World → ℕ → Row → ℕ → World
crashed w m r f = moved w m (record { row = r; deadline = (w.seat m).deadline }) w.value w.shared f

-- TIME

-- The rule of time: the least tick of the record after one at t. A process that may not move before the tick `wake` may move at t where
-- `wake ≤ next t`.
pub record Pace : Type 0 where
  pub next : ℕ → ℕ
  pub onward : (t : ℕ) → t ≤ next t

-- equal ticks are accepted, and a wait that begins at t is over after t + Δ (with `next t = t + 1`, no two records at one tick, from t + Δ on)
abbrev pub ordinary : Pace
ordinary = record { next = λ t. t; onward = λ t. omega arith }

-- that, and the bound
pub record Clock : Type 0 where
  pub delta : ℕ
  pub next : ℕ → ℕ
  pub onward : (t : ℕ) → t ≤ next t

abbrev pub clock : Pace → ℕ → Clock
clock c Δ = record { delta = Δ; next = c.next; onward = c.onward }

-- what a row keeps of a wait that begins at t
abbrev pub wake_of : Clock → ℕ → ℕ
wake_of k t = wake_at k.delta t

-- A MOVE

abbrev pub raise : Commons → ℕ → Commons
raise g v = record { flag = put g.flag v true }

-- What memory does for a move of process m at tick t, at each place: what the process learns (as `told` has it) and the value that it reads; and
-- then the registers, the flags, and the deadline that binds its next write.
pub data Moves (k : Clock) (w : World) (m t : ℕ) : Place → Bool → ℕ → (ℕ → ℕ) → Commons → ℕ → Type 0 where
  leaves : {b : Bool} {x d : ℕ} → Moves k w m t Place.Rest b x w.value w.shared d
  finds : {x d : ℕ} → w.value (slot_at (w.seat m)) ≡ 0 → d ≡ t + k.delta → Moves k w m t Place.Look true x w.value w.shared d
  meets : {x d : ℕ} → w.value (slot_at (w.seat m)) ≢ 0 → Moves k w m t Place.Look false x w.value w.shared d
  fails : {x d : ℕ} → Moves k w m t Place.Put true x w.value w.shared d
  stores : {x d : ℕ} → t ≤ (w.seat m).deadline
      → Moves k w m t Place.Put false x (put w.value (slot_at (w.seat m)) (own_of (w.seat m))) w.shared d
  pauses : {b : Bool} {x d : ℕ} → Moves k w m t Place.Wait b x w.value w.shared d
  knows : {d : ℕ} → w.value (slot_at (w.seat m)) ≡ own_of (w.seat m) → d ≡ unlimited
      → Moves k w m t Place.Check true (w.value (slot_at (w.seat m))) w.value w.shared d
  learns : {d : ℕ} → w.value (slot_at (w.seat m)) ≢ own_of (w.seat m)
      → Moves k w m t Place.Check false (w.value (slot_at (w.seat m))) w.value w.shared d
  clears : {b : Bool} {x d : ℕ} → t ≤ (w.seat m).deadline → Moves k w m t Place.Critical b x (put w.value (slot_at (w.seat m)) 0) w.shared d
  sticks : {b : Bool} {x d : ℕ} → (w.seat m).deadline < t → Moves k w m t Place.Critical b x w.value w.shared d
  raises : {b : Bool} {x d : ℕ} → Moves k w m t Place.Flag b x w.value (raise w.shared (own_of (w.seat m))) d
  passes : {x d : ℕ} → w.shared.flag (w.seat m).row.local.scan ≡ false → Moves k w m t Place.Scan true x w.value w.shared d
  halts : {x d : ℕ} → w.shared.flag (w.seat m).row.local.scan ≡ true → Moves k w m t Place.Scan false x w.value w.shared d
