-- The decisions, plain and fast: no two decided values differ. The invariant, and that each move keeps it. All processes use register 0.
-- Assumes nothing.
use Prim.Native.Nat.{ℕ, ◌+◌, ◌≤◌, ◌<◌}
use mathlib.Core.Path.{◌≡◌, refl, sym, subst, ◌∙◌}
use mathlib.Core.Logic.{◌≢◌}
use mathlib.Core.Bool.{Bool, false}
use native.Mathlib.Omega.{arith}
use native.Mathlib.Decide.{ℕ_discrete}
use lib.Dec.{T}
use Rattle.model.specs.declared.Place.{Place}
use Rattle.model.specs.Routine.{Routine, counted, crash, plain_next}
use Rattle.model.proofs.Places.{imply, differ, in_kind, putting, concluded, checking, past}
use Rattle.model.proofs.World.{Seat, Commons, World, Placed, Putting, Clock, wake_of, Moves, put, put_all, put_same, moved, crashed, slot_at}
use Rattle.model.proofs.World.{wake_on, own_of}
use Rattle.model.proofs.Pattern.{LateFrom, Bound, read_binds, stays_bound, wait_outlasts, Definitive, Touches, definitive_stands}

abbrev pub HasDecided : Seat → Type 0
HasDecided = Placed concluded

abbrev pub Checking : Seat → Type 0
Checking = Placed checking

abbrev pub Past : Seat → Type 0
Past = Placed past

concluded_checking : (s : Seat) → HasDecided s → Checking s
concluded_checking s = imply concluded checking tt s.row.local.place

checking_past : (s : Seat) → Checking s → Past s
checking_past s = imply checking past tt s.row.local.place

-- THE INVARIANT

-- a process that decided: its value is the register's, and its wait, if it had one, is over
pub record DecidedAt (y floor : ℕ) (s : Seat) : Type 0 where
  pub stands : s.row.local.decided ≡ y
  pub woken : wake_on s ≤ floor

pub record DecideInv (k : Clock) (w : World) : Type 0 where
  pub filled : (i : ℕ) → Past (w.seat i) → w.value 0 ≢ 0
  pub concluded : (i : ℕ) → HasDecided (w.seat i) → DecidedAt (w.value 0) w.floor (w.seat i)
  -- who is about to write is late once the wait is over of one about to check
  pub waited : (i : ℕ) → Checking (w.seat i) → wake_on (w.seat i) ≢ 0 → LateFrom w 0 (wake_on (w.seat i))
  -- or, if that one had no wait, writes what stands there
  pub agreed : (i j : ℕ) → Checking (w.seat i) → wake_on (w.seat i) ≡ 0 → Putting (w.seat j) → own_of (w.seat j) ≡ w.value 0
  pub bound : Bound k w

pub agreement : (k : Clock) (w : World) → DecideInv k w → (i j : ℕ) → HasDecided (w.seat i) → HasDecided (w.seat j)
    → (w.seat i).row.local.decided ≡ (w.seat j).row.local.decided
agreement k w inv i j a b = (inv.concluded i a).stands ∙ sym (inv.concluded j b).stands

-- the register of who decided after a wait has its definitive value (Theorem 1)
pub concluded_definitive : (k : Clock) (w : World) → DecideInv k w → (i : ℕ) → HasDecided (w.seat i) → wake_on (w.seat i) ≢ 0 → Definitive w 0
concluded_definitive k w inv i a n =
    let c = concluded_checking (w.seat i) a in
    record {
      filled = inv.filled i (checking_past (w.seat i) c);
      wake = wake_on (w.seat i);
      over = (inv.concluded i a).woken;
      late = inv.waited i c n;
    }

-- A NEW SEAT

-- what a new seat s of process m, a new value y of the register and a new least tick f must meet; everybody else's seat stays
pub record Sits (k : Clock) (w : World) (m : ℕ) (s : Seat) (y f : ℕ) : Type 0 where
  later : w.floor ≤ f
  filled : Past s → y ≢ 0
  concluded : HasDecided s → DecidedAt y f s
  waited : Checking s → wake_on s ≢ 0 → LateFrom w 0 (wake_on s)
  agreed : Checking s → wake_on s ≡ 0 → (j : ℕ) → Putting (w.seat j) → own_of (w.seat j) ≡ y
  joins : Putting s → slot_at s ≡ 0 → (i : ℕ) → Checking (w.seat i) → wake_on (w.seat i) ≢ 0 → s.deadline < wake_on (w.seat i)
  echoes : Putting s → (i : ℕ) → Checking (w.seat i) → wake_on (w.seat i) ≡ 0 → own_of s ≡ y
  bound : Putting s → s.deadline < wake_of k f
  single : Checking s → Putting s → ⊥
  -- a filled register stays filled, and keeps its value once somebody has decided or checks without a wait
  stays : w.value 0 ≢ 0 → y ≢ 0
  keeps : (i : ℕ) → HasDecided (w.seat i) → w.value 0 ≡ y
  accords : (i : ℕ) → Checking (w.seat i) → wake_on (w.seat i) ≡ 0 → w.value 0 ≡ y

pub seated : (k : Clock) (w : World) (m : ℕ) (s : Seat) (v : ℕ → ℕ) (g : Commons) (f : ℕ) → DecideInv k w → Sits k w m s (v 0) f
    → DecideInv k (moved w m s v g f)
seated k w m s v g f inv sit =
    record {
      filled = put_all (λ i x. Past x → v 0 ≢ 0) sit.filled (λ i n a. sit.stays (inv.filled i a));
      concluded =
          put_all (λ i x. HasDecided x → DecidedAt (v 0) f x) sit.concluded
          (λ i n a.
          let o = inv.concluded i a in
          let l = sit.later in
          record { stands = o.stands ∙ sit.keeps i a; woken = omega arith });
      waited =
          put_all (λ i x. Checking x → wake_on x ≢ 0 → LateFrom (moved w m s v g f) 0 (wake_on x))
          (λ a e. put_all (λ j y. Putting y → slot_at y ≡ 0 → y.deadline < wake_on s) (λ p. absurd (sit.single a p)) (λ j n. sit.waited a e j))
          (λ i n a e.
          put_all (λ j y. Putting y → slot_at y ≡ 0 → y.deadline < wake_on (w.seat i)) (λ p z. sit.joins p z i a e)
          (λ j o. inv.waited i a e j));
      agreed =
          put_all (λ i x. (j : ℕ) → Checking x → wake_on x ≡ 0 → Putting (put w.seat m s j) → own_of (put w.seat m s j) ≡ v 0)
          (λ j a e. put_all (λ j y. Putting y → own_of y ≡ v 0) (λ p. absurd (sit.single a p)) (λ j n. sit.agreed a e j) j)
          (λ i n j a e.
          put_all (λ j y. Putting y → own_of y ≡ v 0) (λ p. sit.echoes p i a e)
          (λ j o p. inv.agreed i j a e p ∙ sit.accords i a e) j);
      bound =
          put_all (λ j y. Putting y → y.deadline < wake_of k f) sit.bound
          (λ j n p. stays_bound k w.floor f (w.seat j).deadline sit.later (inv.bound j p));
    }

-- THE MOVES

pub put_at : (f : ℕ → ℕ) (i a : ℕ) → i ≡ 0 → put f i a 0 ≡ a
put_at f i a e = rw e (put_same f 0 a)

module _ (k : Clock) (w : World) (m t : ℕ) (inv : DecideInv k w) (later : w.floor ≤ t) (awake : wake_on (w.seat m) ≤ k.next t) where
  on_time : w.floor ≤ k.next t
  on_time = omega (arith, k.onward t)

  -- to a place neither at put nor at check nor decided, with the register as it was
  pub goes : (s : Seat) → (Past s → w.value 0 ≢ 0) → (Checking s → ⊥) → (HasDecided s → ⊥) → (Putting s → ⊥) → Sits k w m s (w.value 0) (k.next t)
  goes s a b c d =
      record {
        later = on_time;
        filled = a;
        concluded = λ x. absurd (c x);
        waited = λ x. absurd (b x);
        agreed = λ x. absurd (b x);
        joins = λ x. absurd (d x);
        echoes = λ x. absurd (d x);
        bound = λ x. absurd (d x);
        single = λ x. d;
        stays = λ h. h;
        keeps = λ i h. refl;
        accords = λ i h e. refl;
      }

  -- to put, having read the register empty
  pub enters : (s : Seat) → w.value 0 ≡ 0 → s.deadline ≡ t + k.delta → (Past s → ⊥) → (Checking s → ⊥) → (HasDecided s → ⊥)
      → Sits k w m s (w.value 0) (k.next t)
  enters s z d a b c =
      record {
        later = on_time;
        filled = λ x. absurd (a x);
        concluded = λ x. absurd (c x);
        waited = λ x. absurd (b x);
        agreed = λ x. absurd (b x);
        joins = λ x u i h. absurd (inv.filled i (checking_past (w.seat i) h) z);
        echoes = λ x i h. absurd (inv.filled i (checking_past (w.seat i) h) z);
        bound = λ x. read_binds k t s.deadline d;
        single = λ x. absurd (b x);
        stays = λ h. h;
        keeps = λ i h. refl;
        accords = λ i h e. refl;
      }

  -- a write that is not late, to a place neither at put nor past a look
  pub writes : (s : Seat) → Putting (w.seat m) → slot_at (w.seat m) ≡ 0 → t ≤ (w.seat m).deadline → own_of (w.seat m) ≢ 0 → (Past s → ⊥)
      → (Checking s → ⊥) → (HasDecided s → ⊥) → (Putting s → ⊥)
      → Sits k w m s (own_of (w.seat m)) (k.next t)
  writes s p u h z a b c d =
      record {
        later = on_time;
        filled = λ x. absurd (a x);
        concluded = λ x. absurd (c x);
        waited = λ x. absurd (b x);
        agreed = λ x. absurd (b x);
        joins = λ x. absurd (d x);
        echoes = λ x. absurd (d x);
        bound = λ x. absurd (d x);
        single = λ x. d;
        stays = λ q. z;
        keeps = λ i x. kept i x (ℕ_discrete (wake_on (w.seat i)) 0);
        accords = λ i x e. sym (inv.agreed i m x e p);
      }
    where
      kept : (i : ℕ) → HasDecided (w.seat i) → Dec (wake_on (w.seat i) ≡ 0) → w.value 0 ≡ own_of (w.seat m)
      kept i x (yes e) = sym (inv.agreed i m (concluded_checking (w.seat i) x) e p)
      kept i x (no n) =
          sym (definitive_stands w 0 m t (concluded_definitive k w inv i x n) later (Touches.write p h))
          ∙ put_at w.value (slot_at (w.seat m)) (own_of (w.seat m)) u

  -- the wait
  pub waits : (s : Seat) → Past (w.seat m) → wake_on s ≡ wake_of k t → (HasDecided s → ⊥) → (Putting s → ⊥) → Sits k w m s (w.value 0) (k.next t)
  waits s a u c d =
      record {
        later = on_time;
        filled = λ x. inv.filled m a;
        concluded = λ x. absurd (c x);
        waited = λ x e. rw u (wait_outlasts k w t 0 inv.bound later);
        agreed = λ x e. absurd (omega arith);
        joins = λ x. absurd (d x);
        echoes = λ x. absurd (d x);
        bound = λ x. absurd (d x);
        single = λ x. d;
        stays = λ h. h;
        keeps = λ i h. refl;
        accords = λ i h e. refl;
      }

  -- to the check without a wait, where all that is still to be written is what stands in the register
  pub skips : (s : Seat) → w.value 0 ≢ 0 → wake_on s ≡ 0 → ((j : ℕ) → Putting (w.seat j) → own_of (w.seat j) ≡ w.value 0) → (HasDecided s → ⊥)
      → (Putting s → ⊥)
      → Sits k w m s (w.value 0) (k.next t)
  skips s a u q c d =
      record {
        later = on_time;
        filled = λ x. a;
        concluded = λ x. absurd (c x);
        waited = λ x e. absurd (e u);
        agreed = λ x e. q;
        joins = λ x. absurd (d x);
        echoes = λ x. absurd (d x);
        bound = λ x. absurd (d x);
        single = λ x. d;
        stays = λ h. h;
        keeps = λ i h. refl;
        accords = λ i h e. refl;
      }

  -- the decision
  pub settles : (s : Seat) → Checking (w.seat m) → s.row.local.decided ≡ w.value 0 → wake_on s ≡ wake_on (w.seat m) → (Putting s → ⊥)
      → Sits k w m s (w.value 0) (k.next t)
  settles s a v u d =
      record {
        later = on_time;
        filled = λ x. inv.filled m (checking_past (w.seat m) a);
        concluded = λ x. record { stands = v; woken = rw u awake };
        waited = λ x e. rw u (inv.waited m a (rw u at e));
        agreed = λ x e j p. inv.agreed m j a (sym u ∙ e) p;
        joins = λ x. absurd (d x);
        echoes = λ x. absurd (d x);
        bound = λ x. absurd (d x);
        single = λ x. d;
        stays = λ h. h;
        keeps = λ i h. refl;
        accords = λ i h e. refl;
      }

-- the places of the plain decision
abbrev pub OfPlain : Place → Type 0
OfPlain p = T (in_kind Routine.Plain p)

module _ (k : Clock) (w : World) (m t : ℕ) (inv : DecideInv k w) (l : Bool) (later : w.floor ≤ t) (awake : wake_on (w.seat m) ≤ k.next t)
    (zeroth : slot_at (w.seat m) ≡ 0) (real : own_of (w.seat m) ≢ 0) where
  abbrev plain_seat : Place → Bool → ℕ → ℕ → Seat
  plain_seat p b x d = record { row = counted l (plain_next p b x (wake_of k t) (w.seat m).row.local) (w.seat m).row; deadline = d }

  plain_sits : {p : Place} {b : Bool} {x : ℕ} {v : ℕ → ℕ} {g : Commons} {d : ℕ} → Moves k w m t p b x v g d → (w.seat m).row.local.place ≡ p → OfPlain p
      → Sits k w m (plain_seat p b x d) (v 0) (k.next t)
  plain_sits Moves.leaves e o = absurd o
  plain_sits (Moves.finds z q) e o = enters k w m t inv later awake _ (rw zeroth at z) q (λ x. x) (λ x. x) (λ x. x)
  plain_sits (Moves.meets z) e o = goes k w m t inv later awake _ (λ x. rw zeroth at z) (λ x. x) (λ x. x) (λ x. x)
  plain_sits Moves.fails e o = goes k w m t inv later awake _ (λ x. absurd x) (λ x. x) (λ x. x) (λ x. x)
  plain_sits (Moves.stores {x = x} {d = d} h) e o =
      subst (λ (y : ℕ). Sits k w m (plain_seat Place.Put false x d) y (k.next t)) (sym (put_at w.value (slot_at (w.seat m)) (own_of (w.seat m)) zeroth))
      (writes k w m t inv later awake _ (rw e tt) zeroth h real (λ x. x) (λ x. x) (λ x. x) (λ x. x))
  plain_sits Moves.pauses e o = waits k w m t inv later awake _ (rw e tt) refl (λ x. x) (λ x. x)
  plain_sits (Moves.knows h u) e o = settles k w m t inv later awake _ (rw e tt) (rw zeroth) refl (λ x. x)
  plain_sits (Moves.learns h) e o = settles k w m t inv later awake _ (rw e tt) (rw zeroth) refl (λ x. x)
  plain_sits (Moves.clears h) e o = absurd o
  plain_sits (Moves.sticks h) e o = absurd o
  plain_sits Moves.raises e o = absurd o
  plain_sits (Moves.passes h) e o = absurd o
  plain_sits (Moves.halts h) e o = absurd o

-- a move of the plain decision keeps the invariant
pub plain_moves : (k : Clock) (w : World) (m t : ℕ) (l : Bool) {p : Place} {b : Bool} {x : ℕ} {v : ℕ → ℕ} {g : Commons} {d : ℕ}
    → w.floor ≤ t → wake_on (w.seat m) ≤ k.next t → slot_at (w.seat m) ≡ 0 → own_of (w.seat m) ≢ 0 → (w.seat m).row.local.place ≡ p → OfPlain p
    → Moves k w m t p b x v g d → DecideInv k w
    → DecideInv k
    (moved w m (record { row = counted l (plain_next p b x (wake_of k t) (w.seat m).row.local) (w.seat m).row; deadline = d }) v g (k.next t))
plain_moves k w m t l later awake zeroth real e o rule inv =
    seated k w m _ _ _ _ inv (plain_sits k w m t inv l later awake zeroth real rule e o)

-- a crash keeps it
pub decide_crashes : (k : Clock) (w : World) (m t : ℕ) → w.floor ≤ t → DecideInv k w → DecideInv k (crashed w m (crash (w.seat m).row) (k.next t))
decide_crashes k w m t later inv =
    seated k w m _ _ w.shared _ inv
    (record {
      later = omega (arith, k.onward t);
      filled = inv.filled m;
      concluded =
          λ a.
          let o = inv.concluded m a in
          record { stands = o.stands; woken = omega (arith, k.onward t) };
      waited = inv.waited m;
      agreed = λ a e j. inv.agreed m j a e;
      joins = λ p z i a e. inv.waited i a e m p z;
      echoes = λ p i a e. inv.agreed i m a e p;
      bound = λ p. stays_bound k w.floor (k.next t) (w.seat m).deadline (omega (arith, k.onward t)) (inv.bound m p);
      single = differ checking putting tt (w.seat m).row.local.place;
      stays = λ h. h;
      keeps = λ i h. refl;
      accords = λ i h e. refl;
    })
