-- The lock: no two processes are inside on one slot. The invariant, and that each move keeps it, whichever slots a process takes.
-- Assumes nothing.
use Prim.Native.Nat.{ℕ, suc, ◌≤◌, ◌<◌}
use mathlib.Core.Path.{◌≡◌, refl, sym, ◌∙◌}
use mathlib.Core.Logic.{◌≢◌}
use mathlib.Core.Bool.{Bool}
use native.Mathlib.Omega.{arith}
use lib.Dec.{T}
use Rattle.model.specs.declared.Place.{Place}
use Rattle.terms.specs.Limits.{unlimited}
use Rattle.model.specs.Routine.{Slots, counted, crash, lock_next}
use Rattle.model.proofs.Places.{imply, differ, of_lock, putting, inside, claiming, holding}
use Rattle.model.proofs.World.{Seat, Commons, World, Placed, Putting, Clock, wake_of, Moves, put_all, moved, crashed, slot_at, wake_on, own_of}
use Rattle.model.proofs.Pattern.{LateFrom, Bound, read_binds, stays_bound, wait_outlasts, Definitive, Touches, definitive_stands}

abbrev pub InSection : Seat → Type 0
InSection = Placed inside

abbrev pub Claiming : Seat → Type 0
Claiming = Placed claiming

abbrev pub Holding : Seat → Type 0
Holding = Placed holding

inside_claiming : (s : Seat) → InSection s → Claiming s
inside_claiming s = imply inside claiming tt s.row.local.place

-- THE INVARIANT

-- a process inside: its number stands in its slot, its wait is over, its next write is not bound
pub record InsideAt (value : ℕ → ℕ) (floor i : ℕ) (s : Seat) : Type 0 where
  pub stands : value (slot_at s) ≡ suc i
  pub woken : wake_on s ≤ floor
  pub unbound : s.deadline ≡ unlimited

-- the process at index i has the number i + 1
pub record LockInv (k : Clock) (w : World) : Type 0 where
  -- a number in a register is that of a process past its write to it
  pub holds : (i c : ℕ) → w.value c ≡ suc i → Holding (w.seat i) × (slot_at (w.seat i) ≡ c)
  pub inside : (i : ℕ) → InSection (w.seat i) → InsideAt w.value w.floor i (w.seat i)
  -- who is about to write to a slot is late once the wait is over of one whose number stands there
  pub waited : (i : ℕ) → Claiming (w.seat i) → w.value (slot_at (w.seat i)) ≡ suc i → LateFrom w (slot_at (w.seat i)) (wake_on (w.seat i))
  pub bound : Bound k w

pub exclusion : (k : Clock) (w : World) → LockInv k w → (i j : ℕ) → InSection (w.seat i) → InSection (w.seat j)
    → slot_at (w.seat i) ≡ slot_at (w.seat j) → i ≡ j
exclusion k w inv i j a b e =
    let p = (inv.inside i a).stands in
    let q = (inv.inside j b).stands in
    let z : suc i ≡ suc j = cc in
    omega arith

-- a write at leaving is never late
pub exit_in_time : (k : Clock) (w : World) → LockInv k w → (i t : ℕ) → InSection (w.seat i) → t < unlimited → t ≤ (w.seat i).deadline
exit_in_time k w inv i t a h = omega (arith, (inv.inside i a).unbound)

-- the slot of a process inside has its definitive value (Theorem 1)
pub inside_definitive : (k : Clock) (w : World) → LockInv k w → (i : ℕ) → InSection (w.seat i) → Definitive w (slot_at (w.seat i))
inside_definitive k w inv i a =
    let o = inv.inside i a in
    record {
      filled = λ z. omega (arith, o.stands);
      wake = wake_on (w.seat i);
      over = o.woken;
      late = inv.waited i (inside_claiming (w.seat i) a) o.stands;
    }

-- A NEW SEAT

-- what a new seat s of process m, new registers v and a new least tick f must meet; everybody else's seat stays
record Fits (k : Clock) (w : World) (m : ℕ) (s : Seat) (v : ℕ → ℕ) (f : ℕ) : Type 0 where
  later : w.floor ≤ f
  holds : (c : ℕ) → v c ≡ suc m → Holding s × (slot_at s ≡ c)
  inside : InSection s → InsideAt v f m s
  waited : Claiming s → v (slot_at s) ≡ suc m → LateFrom w (slot_at s) (wake_on s)
  joins : Putting s → (i : ℕ) → i ≢ m → Claiming (w.seat i) → v (slot_at (w.seat i)) ≡ suc i → slot_at s ≡ slot_at (w.seat i)
      → s.deadline < wake_on (w.seat i)
  bound : Putting s → s.deadline < wake_of k f
  single : Claiming s → Putting s → ⊥
  -- no other number is written, and none of a process inside is written over
  others : (i c : ℕ) → i ≢ m → v c ≡ suc i → w.value c ≡ suc i
  keeps : (i : ℕ) → i ≢ m → InSection (w.seat i) → w.value (slot_at (w.seat i)) ≡ suc i → v (slot_at (w.seat i)) ≡ suc i

seated : (k : Clock) (w : World) (m : ℕ) (s : Seat) (v : ℕ → ℕ) (g : Commons) (f : ℕ) → LockInv k w → Fits k w m s v f
    → LockInv k (moved w m s v g f)
seated k w m s v g f inv fit =
    record {
      holds = put_all (λ i x. (c : ℕ) → v c ≡ suc i → Holding x × (slot_at x ≡ c)) fit.holds (λ i n c e. inv.holds i c (fit.others i c n e));
      inside =
          put_all (λ i x. InSection x → InsideAt v f i x) fit.inside
          (λ i n a.
          let o = inv.inside i a in
          let l = fit.later in
          record { stands = fit.keeps i n a o.stands; woken = omega arith; unbound = o.unbound });
      waited =
          put_all (λ i x. Claiming x → v (slot_at x) ≡ suc i → LateFrom (moved w m s v g f) (slot_at x) (wake_on x))
          (λ a e.
          put_all (λ j y. Putting y → slot_at y ≡ slot_at s → y.deadline < wake_on s) (λ p. absurd (fit.single a p)) (λ j n. fit.waited a e j))
          (λ i n a e.
          put_all (λ j y. Putting y → slot_at y ≡ slot_at (w.seat i) → y.deadline < wake_on (w.seat i)) (λ p q. fit.joins p i n a e q)
          (λ j o p q. inv.waited i a (fit.others i _ n e) j p q));
      bound =
          put_all (λ j y. Putting y → y.deadline < wake_of k f) fit.bound
          (λ j n p. stays_bound k w.floor f (w.seat j).deadline fit.later (inv.bound j p));
    }

-- who has its number nowhere, and is neither about to write nor inside
away : (k : Clock) (w : World) (m : ℕ) (s : Seat) (f : ℕ) → w.floor ≤ f → ((c : ℕ) → w.value c ≡ suc m → ⊥) → (InSection s → ⊥) → (Putting s → ⊥)
    → Fits k w m s w.value f
away k w m s f l none a b =
    record {
      later = l;
      holds = λ c e. absurd (none c e);
      inside = λ x. absurd (a x);
      waited = λ x e. absurd (none (slot_at s) e);
      joins = λ x. absurd (b x);
      bound = λ x. absurd (b x);
      single = λ x. b;
      others = λ i c n e. e;
      keeps = λ i n x e. e;
    }

-- THE MOVES

-- the places of the lock
abbrev pub OfLock : Place → Type 0
OfLock p = T (of_lock p)

module _ (k : Clock) (w : World) (m t : ℕ) (inv : LockInv k w) (c : Slots) (l : Bool)
    (later : w.floor ≤ t) (short : t < unlimited) (awake : wake_on (w.seat m) ≤ k.next t) (named : own_of (w.seat m) ≡ suc m) where
  abbrev seat_after : Place → Bool → ℕ → Seat
  seat_after p b d = record { row = counted l (lock_next c p b (wake_of k t) (w.seat m).row.local) (w.seat m).row; deadline = d }

  on_time : w.floor ≤ k.next t
  on_time = omega (arith, k.onward t)

  -- a process at a place p that holds nothing has its number in no register
  none_at : (p : Place) → (w.seat m).row.local.place ≡ p → (T (holding p) → ⊥) → (x : ℕ) → w.value x ≡ suc m → ⊥
  none_at p e n x h = n (rw e at (inv.holds m x h).0)

  fits : {p : Place} {b : Bool} {x : ℕ} {v : ℕ → ℕ} {g : Commons} {d : ℕ} → Moves k w m t p b x v g d → (w.seat m).row.local.place ≡ p → OfLock p
      → Fits k w m (seat_after p b d) v (k.next t)
  fits Moves.leaves e o = away k w m _ _ on_time (none_at Place.Rest e (λ x. x)) (λ x. x) (λ x. x)
  fits (Moves.finds z q) e o =
      record {
        later = on_time;
        holds = λ x h. absurd (none_at Place.Look e (λ y. y) x h);
        inside = λ x. absurd x;
        waited = λ x. absurd x;
        joins = λ x i n a h r. let z' : ◌≡◌ {A = ℕ} 0 (suc i) = cc in absurd (omega arith);
        bound = λ x. read_binds k t _ q;
        single = λ x y. x;
        others = λ i x n h. h;
        keeps = λ i n x h. h;
      }
  fits (Moves.meets z) e o = away k w m _ _ on_time (none_at Place.Look e (λ x. x)) (λ x. x) (λ x. x)
  fits Moves.fails e o = away k w m _ _ on_time (none_at Place.Put e (λ x. x)) (λ x. x) (λ x. x)
  fits (Moves.stores h) e o =
      record {
        later = on_time;
        holds = put_all (λ x y. y ≡ suc m → Unit {0} × (slot_at (w.seat m) ≡ x)) (λ q. (tt, refl)) (λ x n q. absurd (none_at Place.Put e (λ y. y) x q));
        inside = λ x. absurd x;
        waited = λ x. absurd x;
        joins = λ x. absurd x;
        bound = λ x. absurd x;
        single = λ x y. x;
        others = λ i. put_all (λ x y. i ≢ m → y ≡ suc i → w.value x ≡ suc i) (λ n q. absurd (n (omega arith))) (λ x o n q. q);
        keeps = λ i n a q. definitive_stands w (slot_at (w.seat i)) m t (inside_definitive k w inv i a) later (Touches.write (rw e tt) h) ∙ q;
      }
  fits Moves.pauses e o =
      record {
        later = on_time;
        holds = λ x h. (tt, (inv.holds m x h).1);
        inside = λ x. absurd x;
        waited = λ x h. wait_outlasts k w t (slot_at (w.seat m)) inv.bound later;
        joins = λ x. absurd x;
        bound = λ x. absurd x;
        single = λ x y. y;
        others = λ i x n h. h;
        keeps = λ i n x h. h;
      }
  fits (Moves.knows h u) e o =
      record {
        later = on_time;
        holds = λ x q. (tt, (inv.holds m x q).1);
        inside = λ x. record { stands = h ∙ named; woken = awake; unbound = u };
        waited = λ x q. inv.waited m (rw e tt) (h ∙ named);
        joins = λ x. absurd x;
        bound = λ x. absurd x;
        single = λ x y. y;
        others = λ i x n q. q;
        keeps = λ i n x q. q;
      }
  fits (Moves.learns h) e o = away k w m _ _ on_time (λ x q. let y = (inv.holds m x q).1 in h cc) (λ x. x) (λ x. x)
  fits (Moves.clears h) e o =
      record {
        later = on_time;
        holds =
            put_all (λ x y. y ≡ suc m → ⊥ × (slot_at (w.seat m) ≡ x)) (λ q. absurd (omega arith)) (λ x n q. absurd (n (sym (inv.holds m x q).1)));
        inside = λ x. absurd x;
        waited = λ x. absurd x;
        joins = λ x. absurd x;
        bound = λ x. absurd x;
        single = λ x y. x;
        others = λ i. put_all (λ x y. i ≢ m → y ≡ suc i → w.value x ≡ suc i) (λ n q. absurd (omega arith)) (λ x o n q. q);
        keeps =
            λ i n a q.
            put_all (λ x y. x ≡ slot_at (w.seat i) → y ≡ suc i)
            (λ r.
            let g = (inv.inside m (rw e tt)).stands in
            let z : suc m ≡ suc i = cc in
            absurd (n (omega arith)))
            (λ x o r. rw r q) (slot_at (w.seat i)) refl;
      }
  fits (Moves.sticks h) e o = let g = exit_in_time k w inv m t (rw e tt) short in absurd (omega arith)
  fits Moves.raises e o = absurd o
  fits (Moves.passes h) e o = absurd o
  fits (Moves.halts h) e o = absurd o

-- a move of the lock keeps the invariant, whichever slots c the process takes
pub lock_moves : (k : Clock) (w : World) (m t : ℕ) (c : Slots) (l : Bool) {p : Place} {b : Bool} {x : ℕ} {v : ℕ → ℕ} {g : Commons} {d : ℕ}
    → w.floor ≤ t → t < unlimited → wake_on (w.seat m) ≤ k.next t → own_of (w.seat m) ≡ suc m → (w.seat m).row.local.place ≡ p → OfLock p
    → Moves k w m t p b x v g d → LockInv k w
    → LockInv k
    (moved w m (record { row = counted l (lock_next c p b (wake_of k t) (w.seat m).row.local) (w.seat m).row; deadline = d }) v g (k.next t))
lock_moves k w m t c l later short awake named e o rule inv = seated k w m _ _ _ _ inv (fits k w m t inv c l later short awake named rule e o)

-- a crash keeps it
pub lock_crashes : (k : Clock) (w : World) (m t : ℕ) → w.floor ≤ t → LockInv k w → LockInv k (crashed w m (crash (w.seat m).row) (k.next t))
lock_crashes k w m t later inv =
    seated k w m _ _ w.shared _ inv
    (record {
      later = omega (arith, k.onward t);
      holds = inv.holds m;
      inside =
          λ a.
          let o = inv.inside m a in
          record { stands = o.stands; woken = omega (arith, k.onward t); unbound = o.unbound };
      waited = inv.waited m;
      joins = λ p i n a e q. inv.waited i a e m p q;
      bound = λ p. stays_bound k w.floor (k.next t) (w.seat m).deadline (omega (arith, k.onward t)) (inv.bound m p);
      single = differ claiming putting tt (w.seat m).row.local.place;
      others = λ i c n e. e;
      keeps = λ i n a e. e;
    })
