-- The fast decision: why a process that finds no other flag set may check without a wait. What the flags say, and that each move keeps this and
-- the invariant of the decisions.
-- Assumes nothing.
use Prim.Native.Nat.{ℕ, ◌+◌, ◌≤◌, ◌<◌}
use mathlib.Core.Path.{◌≡◌, refl, sym, ap, subst, ◌∙◌}
use mathlib.Core.Logic.{◌≢◌}
use mathlib.Core.Bool.{Bool, true, false, cond}
use native.Mathlib.Omega.{arith}
use native.Mathlib.Decide.{ℕ_discrete}
use lib.Dec.{T, eqb, leb}
use borrow.Author.Tests.{eqb-true, leb-false}
use Rattle.model.specs.declared.Place.{Place}
use Rattle.model.specs.declared.Local.{Local}
use Rattle.model.specs.Routine.{Routine, to, scans, counted, crash, scan_at, fast_next}
use Rattle.model.proofs.Places.{imply, in_kind, putting, raised, scanning, checking, past}
use Rattle.model.proofs.World.{Seat, Commons, World, Placed, Putting, Clock, wake_of, Moves, put, put_all, put_same, moved, crashed, slot_at}
use Rattle.model.proofs.World.{wake_on, own_of}
use Rattle.model.proofs.DecideSafe.{Checking, Past, DecideInv, Sits, seated, put_at, decide_crashes, goes, enters, writes, waits, skips, settles}

abbrev pub Raised : Seat → Type 0
Raised = Placed raised

abbrev pub Scanning : Seat → Type 0
Scanning = Placed scanning

putting_raised : (s : Seat) → Putting s → Raised s
putting_raised s = imply putting raised tt s.row.local.place

scanning_past : (s : Seat) → Scanning s → Past s
scanning_past s = imply scanning past tt s.row.local.place

-- THE INVARIANT

-- value x does not stand in the register, and nobody is about to write it
pub record Out (w : World) (x : ℕ) : Type 0 where
  pub register : w.value 0 ≢ x
  pub writers : (j : ℕ) → Putting (w.seat j) → own_of (w.seat j) ≢ x

-- so of the values from 1 to below s, but for own
abbrev pub Clean : World → ℕ → ℕ → Type 0
Clean w own s = (x : ℕ) → 1 ≤ x → x < s → x ≢ own → Out w x

pub record FastInv (size : ℕ) (w : World) : Type 0 where
  -- the flag of who looks or puts is set, and that of the value in the register
  pub raised : (i : ℕ) → Raised (w.seat i) → w.shared.flag (own_of (w.seat i)) ≡ true
  pub valued : w.value 0 ≢ 0 → w.shared.flag (w.value 0) ≡ true
  pub ranged : w.value 0 ≤ size
  pub real : (i : ℕ) → Putting (w.seat i) → 1 ≤ own_of (w.seat i)
  pub small : (i : ℕ) → own_of (w.seat i) ≤ size
  -- who has not come to its check has not waited
  pub unwaited : (i : ℕ) → (Checking (w.seat i) → ⊥) → wake_on (w.seat i) ≡ 0
  -- what a scan has passed is out
  pub scanned : (i : ℕ) → Scanning (w.seat i) → Clean w (own_of (w.seat i)) (w.seat i).row.local.scan

-- A NEW SEAT

-- what a new seat s of process m, new registers v and new flags g must meet
record Fares (size : ℕ) (w : World) (m : ℕ) (s : Seat) (v : ℕ → ℕ) (g : Commons) : Type 0 where
  raised : Raised s → g.flag (own_of s) ≡ true
  valued : v 0 ≢ 0 → g.flag (v 0) ≡ true
  ranged : v 0 ≤ size
  real : Putting s → 1 ≤ own_of s
  small : own_of s ≤ size
  unwaited : (Checking s → ⊥) → wake_on s ≡ 0
  scanned : Scanning s → Clean w (own_of s) s.row.local.scan
  grows : (x : ℕ) → w.shared.flag x ≡ true → g.flag x ≡ true
  -- what is out once the register is filled stays out
  still : w.value 0 ≢ 0 → (x : ℕ) → Out w x → v 0 ≢ x
  joins : w.value 0 ≢ 0 → (x : ℕ) → Out w x → Putting s → own_of s ≢ x
  past : Scanning s → w.value 0 ≢ 0

module _ (k : Clock) (size : ℕ) (w : World) (m : ℕ) (s : Seat) (v : ℕ → ℕ) (g : Commons) (f : ℕ)
    (dec : DecideInv k w) (inv : FastInv size w) (fare : Fares size w m s v g) where
  out_still : w.value 0 ≢ 0 → (x : ℕ) → Out w x → Out (moved w m s v g f) x
  out_still n x o =
      record {
        register = fare.still n x o;
        writers = put_all (λ j y. Putting y → own_of y ≢ x) (fare.joins n x o) (λ j h. o.writers j);
      }

  fared : FastInv size (moved w m s v g f)
  fared =
      record {
        raised = put_all (λ i y. Raised y → g.flag (own_of y) ≡ true) fare.raised (λ i h a. fare.grows _ (inv.raised i a));
        valued = fare.valued;
        ranged = fare.ranged;
        real = put_all (λ i y. Putting y → 1 ≤ own_of y) fare.real (λ i h. inv.real i);
        small = put_all (λ i y. own_of y ≤ size) fare.small (λ i h. inv.small i);
        unwaited = put_all (λ i y. (Checking y → ⊥) → wake_on y ≡ 0) fare.unwaited (λ i h. inv.unwaited i);
        scanned =
            put_all (λ i y. Scanning y → Clean (moved w m s v g f) (own_of y) y.row.local.scan)
            (λ a x l u n. out_still (fare.past a) x (fare.scanned a x l u n))
            (λ i h a x l u n. out_still (dec.filled i (scanning_past (w.seat i) a)) x (inv.scanned i a x l u n));
      }

-- THE MOVES

torn : {b : Bool} → b ≡ true → b ≡ false → ⊥
torn {b} p q = let z : ◌≡◌ {A = ℕ} 0 1 = cc in omega arith

-- the scan passes over the process's own value
clean_skip : (w : World) (own s : ℕ) → Clean w own s → Clean w own (cond (eqb s own) (s + 1) s)
clean_skip w own s c = go (eqb s own) refl
  where
    go : (y : Bool) → eqb s own ≡ y → Clean w own (cond y (s + 1) s)
    go true e x l u n =
        let q = eqb-true s own e in
        let h : x < s = omega arith in
        c x l h n
    go false e x l u n = c x l u n

-- the places of the fast decision
abbrev pub OfFast : Place → Type 0
OfFast p = T (in_kind Routine.Fast p)

module _ (k : Clock) (size : ℕ) (w : World) (m t : ℕ) (dec : DecideInv k w) (inv : FastInv size w) (l : Bool) (later : w.floor ≤ t)
    (awake : wake_on (w.seat m) ≤ k.next t) (zeroth : slot_at (w.seat m) ≡ 0) (real : 1 ≤ own_of (w.seat m)) where
  -- with the registers and the flags as they were
  calm : (s : Seat) → (Raised s → w.shared.flag (own_of s) ≡ true) → (Putting s → ⊥) → own_of s ≤ size → ((Checking s → ⊥) → wake_on s ≡ 0)
      → (Scanning s → Clean w (own_of s) s.row.local.scan) → (Scanning s → w.value 0 ≢ 0) → Fares size w m s w.value w.shared
  calm s a b c d e f =
      record {
        raised = a;
        valued = inv.valued;
        ranged = inv.ranged;
        real = λ p. absurd (b p);
        small = c;
        unwaited = d;
        scanned = e;
        grows = λ x h. h;
        still = λ n x o. o.register;
        joins = λ n x o p. absurd (b p);
        past = f;
      }

  abbrev seat_at : Local → ℕ → Seat
  seat_at x d = record { row = counted l x (w.seat m).row; deadline = d }

  record Both (s : Seat) (v : ℕ → ℕ) (g : Commons) : Type 0 where
    sits : Sits k w m s (v 0) (k.next t)
    fares : Fares size w m s v g

  -- who has passed every value but its own finds its own in the register, and in the hands of whoever is about to write
  own_stands : (s : ℕ) → size < s → w.value 0 ≢ 0 → Clean w (own_of (w.seat m)) s → w.value 0 ≡ own_of (w.seat m)
  own_stands s h n c = go (ℕ_discrete (w.value 0) (own_of (w.seat m)))
    where
      go : Dec (w.value 0 ≡ own_of (w.seat m)) → w.value 0 ≡ own_of (w.seat m)
      go (yes e) = e
      go (no q) = absurd ((c (w.value 0) (omega arith) (omega (arith, inv.ranged)) q).register refl)

  own_written : (s : ℕ) → size < s → Clean w (own_of (w.seat m)) s → (j : ℕ) → Putting (w.seat j) → own_of (w.seat j) ≡ own_of (w.seat m)
  own_written s h c j p = go (ℕ_discrete (own_of (w.seat j)) (own_of (w.seat m)))
    where
      go : Dec (own_of (w.seat j) ≡ own_of (w.seat m)) → own_of (w.seat j) ≡ own_of (w.seat m)
      go (yes e) = e
      go (no q) = absurd ((c (own_of (w.seat j)) (inv.real j p) (omega (arith, inv.small j)) q).writers j p refl)

  -- the scan goes on at s, or ends
  sought : (s d : ℕ) → w.value 0 ≢ 0 → wake_on (w.seat m) ≡ 0 → Clean w (own_of (w.seat m)) s
      → Both (seat_at (scan_at size s (w.seat m).row.local) d) w.value w.shared
  sought s d n z c = go (leb s size) refl
    where
      go : (y : Bool) → leb s size ≡ y
          → Both (seat_at (cond y (scans s (to Place.Scan (w.seat m).row.local)) (to Place.Check (w.seat m).row.local)) d) w.value w.shared
      go true e =
          record {
            sits = goes k w m t dec later awake _ (λ x. n) (λ x. x) (λ x. x) (λ x. x);
            fares = calm _ (λ x. absurd x) (λ x. x) (inv.small m) (λ x. z) (λ x. c) (λ x. n);
          }
      go false e =
          let h = leb-false s size e in
          record {
            sits =
                skips k w m t dec later awake _ n z (λ j p. own_written s h c j p ∙ sym (own_stands s h n c)) (λ x. x) (λ x. x);
            fares = calm _ (λ x. absurd x) (λ x. x) (inv.small m) (λ x. z) (λ x. absurd x) (λ x. absurd x);
          }

  unwaited_at : (p : Place) → (w.seat m).row.local.place ≡ p → (T (checking p) → ⊥) → wake_on (w.seat m) ≡ 0
  unwaited_at p e n = inv.unwaited m (λ x. n (rw e at x))

  both : {p : Place} {b : Bool} {x : ℕ} {v : ℕ → ℕ} {g : Commons} {d : ℕ} → Moves k w m t p b x v g d → (w.seat m).row.local.place ≡ p → OfFast p
      → Both (seat_at (fast_next size (own_of (w.seat m)) p b x (wake_of k t) (w.seat m).row.local) d) v g
  both Moves.leaves e o = absurd o
  both (Moves.finds z q) e o =
      let z' : w.value 0 ≡ 0 = rw zeroth at z in
      record {
        sits = enters k w m t dec later awake _ z' q (λ x. x) (λ x. x) (λ x. x);
        fares =
            record {
              raised = λ x. inv.raised m (rw e tt);
              valued = inv.valued;
              ranged = inv.ranged;
              real = λ p. real;
              small = inv.small m;
              unwaited = λ x. unwaited_at Place.Look e (λ y. y);
              scanned = λ x. absurd x;
              grows = λ x h. h;
              still = λ n x r. r.register;
              joins = λ n. absurd (n z');
              past = λ x. absurd x;
            };
      }
  both (Moves.meets z) e o =
      sought _ _ (rw zeroth at z) (unwaited_at Place.Look e (λ y. y)) (clean_skip w (own_of (w.seat m)) 1 (λ x a b n. absurd (omega arith)))
  both Moves.fails e o =
      record {
        sits = goes k w m t dec later awake _ (λ x. absurd x) (λ x. x) (λ x. x) (λ x. x);
        fares = calm _ (λ x. inv.raised m (rw e tt)) (λ x. x) (inv.small m) (λ x. unwaited_at Place.Put e (λ y. y)) (λ x. absurd x) (λ x. absurd x);
      }
  both (Moves.stores {x = x} {d = d} h) e o =
      let q = put_at w.value (slot_at (w.seat m)) (own_of (w.seat m)) zeroth in
      record {
        sits =
            subst (λ (y : ℕ). Sits k w m (seat_at (to Place.Look (w.seat m).row.local) d) y (k.next t)) (sym q)
            (writes k w m t dec later awake _ (rw e tt) zeroth h (λ z. omega arith) (λ y. y) (λ y. y) (λ y. y) (λ y. y));
        fares =
            record {
              raised = λ x. inv.raised m (rw e tt);
              valued = λ n. rw q (inv.raised m (rw e tt));
              ranged = rw q (inv.small m);
              real = λ p. real;
              small = inv.small m;
              unwaited = λ x. unwaited_at Place.Put e (λ y. y);
              scanned = λ x. absurd x;
              grows = λ x h. h;
              still = λ n x r. rw q (r.writers m (rw e tt));
              joins = λ n x r p. absurd p;
              past = λ x. absurd x;
            };
      }
  both Moves.pauses e o =
      record {
        sits = waits k w m t dec later awake _ (rw e tt) refl (λ x. x) (λ x. x);
        fares = calm _ (λ x. absurd x) (λ x. x) (inv.small m) (λ x. absurd (x tt)) (λ x. absurd x) (λ x. absurd x);
      }
  both (Moves.knows h u) e o =
      record {
        sits = settles k w m t dec later awake _ (rw e tt) (rw zeroth) refl (λ x. x);
        fares = calm _ (λ x. absurd x) (λ x. x) (inv.small m) (λ x. absurd (x tt)) (λ x. absurd x) (λ x. absurd x);
      }
  both (Moves.learns h) e o =
      record {
        sits = settles k w m t dec later awake _ (rw e tt) (rw zeroth) refl (λ x. x);
        fares = calm _ (λ x. absurd x) (λ x. x) (inv.small m) (λ x. absurd (x tt)) (λ x. absurd x) (λ x. absurd x);
      }
  both (Moves.clears h) e o = absurd o
  both (Moves.sticks h) e o = absurd o
  both Moves.raises e o =
      record {
        sits = goes k w m t dec later awake _ (λ x. absurd x) (λ x. x) (λ x. x) (λ x. x);
        fares =
            record {
              raised = λ x. put_same w.shared.flag (own_of (w.seat m)) true;
              valued = λ n. raises_more (w.value 0) (inv.valued n);
              ranged = inv.ranged;
              real = λ p. real;
              small = inv.small m;
              unwaited = λ x. unwaited_at Place.Flag e (λ y. y);
              scanned = λ x. absurd x;
              grows = raises_more;
              still = λ n x r. r.register;
              joins = λ n x r p. absurd p;
              past = λ x. absurd x;
            };
      }
    where
      raises_more : (x : ℕ) → w.shared.flag x ≡ true → put w.shared.flag (own_of (w.seat m)) true x ≡ true
      raises_more = put_all (λ x y. w.shared.flag x ≡ true → y ≡ true) (λ h. refl) (λ x n h. h)
  both (Moves.passes h) e o =
      sought _ _ filled (unwaited_at Place.Scan e (λ y. y)) (clean_skip w (own_of (w.seat m)) ((w.seat m).row.local.scan + 1) further)
    where
      filled : w.value 0 ≢ 0
      filled = dec.filled m (rw e tt)

      -- the value whose flag is clear is out
      here : Out w (w.seat m).row.local.scan
      here =
          record {
            register = λ q. torn (inv.valued filled) (ap w.shared.flag q ∙ h);
            writers = λ j p q. torn (inv.raised j (putting_raised (w.seat j) p)) (ap w.shared.flag q ∙ h);
          }

      further : Clean w (own_of (w.seat m)) ((w.seat m).row.local.scan + 1)
      further x a b n = go (ℕ_discrete x (w.seat m).row.local.scan)
        where
          go : Dec (x ≡ (w.seat m).row.local.scan) → Out w x
          go (yes q) = rw q here
          go (no q) = inv.scanned m (rw e tt) x a (omega arith) n
  both (Moves.halts h) e o =
      record {
        sits = goes k w m t dec later awake _ (λ x. dec.filled m (rw e tt)) (λ x. x) (λ x. x) (λ x. x);
        fares = calm _ (λ x. absurd x) (λ x. x) (inv.small m) (λ x. unwaited_at Place.Scan e (λ y. y)) (λ x. absurd x) (λ x. absurd x);
      }

pub record FastDecideInv (k : Clock) (size : ℕ) (w : World) : Type 0 where
  pub decide : DecideInv k w
  pub fast : FastInv size w

-- a move of the fast decision keeps the invariant
pub fast_moves : (k : Clock) (size : ℕ) (w : World) (m t : ℕ) (l : Bool) {p : Place} {b : Bool} {x : ℕ} {v : ℕ → ℕ} {g : Commons} {d : ℕ}
    → w.floor ≤ t → wake_on (w.seat m) ≤ k.next t → slot_at (w.seat m) ≡ 0 → 1 ≤ own_of (w.seat m) → (w.seat m).row.local.place ≡ p → OfFast p
    → Moves k w m t p b x v g d → FastDecideInv k size w
    → FastDecideInv k size
    (moved w m
    (record { row = counted l (fast_next size (own_of (w.seat m)) p b x (wake_of k t) (w.seat m).row.local) (w.seat m).row; deadline = d }) v g
    (k.next t))
fast_moves k size w m t l {p} {b} {x} {v} {g} {d} later awake zeroth real e o rule inv =
    let y = both k size w m t inv.decide inv.fast l later awake zeroth real rule e o in
    record {
      decide = seated k w m _ _ _ _ inv.decide y.sits;
      fast = fared k size w m _ v g (k.next t) inv.decide inv.fast y.fares;
    }

-- a crash keeps it
pub fast_crashes : (k : Clock) (size : ℕ) (w : World) (m t : ℕ) → w.floor ≤ t → FastDecideInv k size w
    → FastDecideInv k size (crashed w m (crash (w.seat m).row) (k.next t))
fast_crashes k size w m t later inv =
    record {
      decide = decide_crashes k w m t later inv.decide;
      fast =
          fared k size w m _ w.value w.shared (k.next t) inv.decide inv.fast
          (record {
            raised = inv.fast.raised m;
            valued = inv.fast.valued;
            ranged = inv.fast.ranged;
            real = inv.fast.real m;
            small = inv.fast.small m;
            unwaited = inv.fast.unwaited m;
            scanned = inv.fast.scanned m;
            grows = λ x h. h;
            still = λ n x o. o.register;
            joins = λ n x o. o.writers m;
            past = λ a. inv.decide.filled m (scanning_past (w.seat m) a);
          });
    }
