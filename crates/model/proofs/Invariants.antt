-- Over a whole trace: after any records that were accepted, the invariant of the routine holds.
-- Assumes nothing.
use Prim.Native.Nat.{ℕ, zero, suc, ◌+◌, ◌≤◌, ◌<◌}
use mathlib.Core.Path.{◌≡◌, refl, sym, subst}
use mathlib.Core.Bool.{Bool, false}
use mathlib.Core.List.{List}
use native.Mathlib.Omega.{arith}
use lib.Dec.{T}
use lib.ListN.{length, get_or, replicate}
use Rattle.terms.specs.declared.ProcessNumber.{ProcessNumber}
use Rattle.terms.specs.declared.SlotNumber.{SlotNumber}
use Rattle.terms.specs.Limits.{most_slots, top_tick, unlimited}
use Rattle.terms.specs.Numbers.{index_of, slot_of}
use Rattle.steps.specs.declared.Step.{Step}
use Rattle.steps.specs.Step.{step_fields}
use Rattle.model.specs.declared.Place.{Place}
use Rattle.model.specs.declared.Shape.{Shape}
use Rattle.model.specs.declared.Row.{Row}
use Rattle.model.specs.declared.Reply.{Reply}
use Rattle.model.specs.declared.State.{State}
use Rattle.model.specs.Time.{wake_at}
use Rattle.model.specs.Routine.{Routine, routine, ask_at, told, counted, crash, slots_of, next_of, unmoved, begin, is_decided}
use Rattle.model.specs.Memory.{reply}
use Rattle.model.specs.Bounds.{Sound, Starts}
use Rattle.model.specs.Sizes.{flag_count}
use Rattle.model.specs.Run.{row_at, row_of, fresh, move, stop, after, step_tape, reach, Progress.going}
use Rattle.model.proofs.Places.{differ, begins, putting, scanning, raised, concluded, checking, past, inside}
use Rattle.model.proofs.World.{Commons, World, Pace, ordinary, clock, Moves, moved, crashed, slot_at, own_of}
use Rattle.model.proofs.LockSafe.{LockInv, lock_moves, lock_crashes}
use Rattle.model.proofs.DecideSafe.{DecideInv, plain_moves, decide_crashes}
use Rattle.model.proofs.FastSafe.{FastDecideInv, fast_moves, fast_crashes}
use Rattle.model.proofs.RunLaws.{record_at, each_record}
use Rattle.model.proofs.Turns.{move_or_stop, newest-after}
use Rattle.model.proofs.Keeping.{RowOk, slot_small, Kept, kept_move, kept_stop, kept_fresh, fresh_rows, Admitted, admitted}
use Rattle.model.proofs.Rooms.{ask_fits}
use Rattle.model.proofs.View.{view, Shaped, Mobile, sees, sees_stop}

-- the invariant of each routine
abbrev pub Inv : Pace → Routine → Shape → World → Type 0
Inv c (Routine.Lock how) u w = LockInv (clock c u.delta) w
Inv c Routine.Plain u w = DecideInv (clock c u.delta) w
Inv c Routine.Fast u w = FastDecideInv (clock c u.delta) u.size w

-- ONE RECORD, in any world

-- a process that is free to move at tick t
pub record Free (c : Pace) (r : Row) (t : ℕ) : Type 0 where
  pub undecided : is_decided r.local.place ≡ false
  pub awake : r.local.wake ≤ c.next t

-- the world after a move of m
abbrev pub after_move : Pace → Routine → Shape → World → ℕ → ℕ → Bool → Place → Bool → ℕ → (ℕ → ℕ) → Commons → ℕ → World
after_move c κ u w m t l p b x v g d =
    moved w m
    (record { row = counted l (next_of κ u (own_of (w.seat m)) p b x (wake_at u.delta t) (w.seat m).row.local) (w.seat m).row; deadline = d }) v g
    (c.next t)

inv_moves : (c : Pace) (κ : Routine) (u : Shape) (w : World) (m t : ℕ) (l : Bool) {p : Place} {b : Bool} {x : ℕ} {v : ℕ → ℕ} {g : Commons} {d : ℕ}
    → m < u.count → Free c (w.seat m).row t → w.floor ≤ t → t < unlimited → (w.seat m).row.local.place ≡ p → RowOk κ u m (w.seat m).row
    → Moves (clock c u.delta) w m t p b x v g d → Inv c κ u w → Inv c κ u (after_move c κ u w m t l p b x v g d)
inv_moves c (Routine.Lock how) u w m t l h free later short e ok rule inv =
    lock_moves (clock c u.delta) w m t (slots_of how u (w.seat m).row.local) l later short free.awake (ok.own h) e (rw e at (ok.place h)) rule inv
inv_moves c Routine.Plain u w m t l h free later short e ok rule inv =
    plain_moves (clock c u.delta) w m t l later free.awake ok.slot (λ z. omega (arith, ok.own h)) e (rw e at (ok.place h)) rule inv
inv_moves c Routine.Fast u w m t l h free later short e ok rule inv =
    fast_moves (clock c u.delta) u.size w m t l later free.awake ok.slot (ok.own h) e (rw e at (ok.place h)) rule inv

inv_crashes : (c : Pace) (κ : Routine) (u : Shape) (w : World) (m t : ℕ) → w.floor ≤ t → Inv c κ u w
    → Inv c κ u (crashed w m (crash (w.seat m).row) (c.next t))
inv_crashes c (Routine.Lock how) u w m t later inv = lock_crashes (clock c u.delta) w m t later inv
inv_crashes c Routine.Plain u w m t later inv = decide_crashes (clock c u.delta) w m t later inv
inv_crashes c Routine.Fast u w m t later inv = fast_crashes (clock c u.delta) u.size w m t later inv

-- What a further property P of the world must meet to hold along a trace: moves and crashes keep it. l is whether memory calls the move late.
pub record Along (c : Pace) (u : Shape) (P : World → Type 0) : Type 0 where
  pub on_move : (w : World) (m t : ℕ) (l : Bool) {p : Place} {b : Bool} {x : ℕ} {v : ℕ → ℕ} {g : Commons} {d : ℕ} → m < u.count
      → (w.seat m).row.local.place ≡ p → (T (putting p) → l ≡ b) → RowOk (routine u) u m (w.seat m).row → Inv c (routine u) u w
      → Moves (clock c u.delta) w m t p b x v g d → P w → P (after_move c (routine u) u w m t l p b x v g d)
  pub on_crash : (w : World) (m t : ℕ) → P w → P (crashed w m (crash (w.seat m).row) (c.next t))

-- no further property
abbrev pub nothing : (c : Pace) (u : Shape) → Along c u (λ w. Unit {0})
nothing c u = record { on_move = λ w m t l h e q ok inv rule z. tt; on_crash = λ w m t z. tt }

-- ONE RECORD, of the bench

pub shaped : (u : Shape) (s : State) → Sound u → Kept u s → Shaped s
shaped u s so kt =
    record {
      values = kt.values;
      deadlines = kt.deadlines;
      flags = kt.flags;
      slots = λ j. slot_small (routine u) u so j (row_at s j) (kt.each j);
    }

mobile : (p : Place) → is_decided p ≡ false → Mobile p
mobile p e = rw e tt

-- at put, a process learns whether it was late
late-told : (r : Row) (a : Reply) (p : Place) → T (putting p) → a.late ≡ told p r a
late-told r a Place.Rest h = absurd h
late-told r a Place.Look h = absurd h
late-told r a Place.Put h = refl
late-told r a Place.Wait h = absurd h
late-told r a Place.Check h = absurd h
late-told r a Place.Critical h = absurd h
late-told r a Place.Flag h = absurd h
late-told r a Place.Scan h = absurd h
late-told r a Place.Decided h = absurd h

module _ (c : Pace) (u : Shape) (so : Sound u) (P : World → Type 0) (al : Along c u P) where
  -- a state of a run whose next record comes at tick f or later, with the further property
  pub record Good (f : ℕ) (s : State) : Type 0 where
    pub kept : Kept u s
    pub inv : Inv c (routine u) u (view f s)
    pub also : P (view f s)

  module _ (f : ℕ) (s : State) (good : Good f s) (i : ProcessNumber) (t : ℕ) (h : index_of i < u.count) (later : f ≤ t) where
    few : index_of i < length s.rows
    few = omega (arith, good.kept.rows)

    pub good_move : t ≤ top_tick → Free c (row_of s i) t → Good (c.next t) (move u s i t)
    good_move top free =
        let r : Row = row_of s i in
        let p : Place = r.local.place in
        let a : Reply = reply s.bank s.shared i t (ask_at p u.delta r) in
        let ok = good.kept.each (index_of i) in
        let seen = sees (clock c u.delta) u s i t (shaped u s so good.kept) few refl (omega (arith, so.bounded)) f (c.next t) p (told p r a) refl
        (mobile p free.undecided) (ask_fits (routine u) u so (index_of i) r ok p (ok.place h)) in
        record {
          kept = kept_move u so s good.kept i t h free.undecided;
          inv =
              subst (Inv c (routine u) u) (sym seen.looks)
              (inv_moves c (routine u) u (view f s) (index_of i) t a.late h free later (omega arith) refl ok seen.rule good.inv);
          also =
              subst P (sym seen.looks)
              (al.on_move (view f s) (index_of i) t a.late h refl (late-told r a p) ok good.inv seen.rule good.also);
        }

    pub good_stop : Good (c.next t) (stop s i t)
    good_stop =
        let looks = sees_stop s i t f (c.next t) (shaped u s so good.kept) few in
        record {
          kept = kept_stop u so s good.kept i t h;
          inv = subst (Inv c (routine u) u) (sym looks) (inv_crashes c (routine u) u (view f s) (index_of i) t later good.inv);
          also = subst P (sym looks) (al.on_crash (view f s) (index_of i) t good.also);
        }

-- THE BEGINNING

-- a row that has not moved
pub record Unmoved (κ : Routine) (r : Row) : Type 0 where
  pub place : T (begins κ r.local.place)
  pub wake : r.local.wake ≡ 0
  pub moves : r.moves ≡ 0
  pub lates : r.lates ≡ 0

-- and registers that are empty, flags that are clear
pub record Bare (κ : Routine) (w : World) : Type 0 where
  pub value : (c : ℕ) → w.value c ≡ 0
  pub flag : (v : ℕ) → w.shared.flag v ≡ false
  pub rows : (j : ℕ) → Unmoved κ (w.seat j).row

inv_start : (c : Pace) (κ : Routine) (u : Shape) (w : World) → Bare κ w → ((j : ℕ) → RowOk κ u j (w.seat j).row) → Inv c κ u w
inv_start c (Routine.Lock how) u w bare ok =
    record {
      holds = λ i c e. absurd (omega (arith, bare.value c));
      inside = λ i a. absurd (differ (begins (Routine.Lock how)) inside tt (w.seat i).row.local.place (bare.rows i).place a);
      waited = λ i a e. absurd (omega (arith, bare.value (slot_at (w.seat i))));
      bound = λ j a. absurd (differ (begins (Routine.Lock how)) putting tt (w.seat j).row.local.place (bare.rows j).place a);
    }
inv_start c Routine.Plain u w bare ok =
    record {
      filled = λ i a. absurd (differ (begins Routine.Plain) past tt (w.seat i).row.local.place (bare.rows i).place a);
      concluded = λ i a. absurd (differ (begins Routine.Plain) concluded tt (w.seat i).row.local.place (bare.rows i).place a);
      waited = λ i a. absurd (differ (begins Routine.Plain) checking tt (w.seat i).row.local.place (bare.rows i).place a);
      agreed = λ i j a. absurd (differ (begins Routine.Plain) checking tt (w.seat i).row.local.place (bare.rows i).place a);
      bound = λ j a. absurd (differ (begins Routine.Plain) putting tt (w.seat j).row.local.place (bare.rows j).place a);
    }
inv_start c Routine.Fast u w bare ok =
    record {
      decide =
          record {
            filled = λ i a. absurd (differ (begins Routine.Fast) past tt (w.seat i).row.local.place (bare.rows i).place a);
            concluded = λ i a. absurd (differ (begins Routine.Fast) concluded tt (w.seat i).row.local.place (bare.rows i).place a);
            waited = λ i a. absurd (differ (begins Routine.Fast) checking tt (w.seat i).row.local.place (bare.rows i).place a);
            agreed = λ i j a. absurd (differ (begins Routine.Fast) checking tt (w.seat i).row.local.place (bare.rows i).place a);
            bound = λ j a. absurd (differ (begins Routine.Fast) putting tt (w.seat j).row.local.place (bare.rows j).place a);
          };
      fast =
          record {
            raised = λ i a. absurd (differ (begins Routine.Fast) raised tt (w.seat i).row.local.place (bare.rows i).place a);
            valued = λ n. absurd (n (bare.value 0));
            ranged = omega (arith, bare.value 0);
            real = λ i a. absurd (differ (begins Routine.Fast) putting tt (w.seat i).row.local.place (bare.rows i).place a);
            small = λ i. (ok i).small;
            unwaited = λ i n. (bare.rows i).wake;
            scanned = λ i a. absurd (differ (begins Routine.Fast) scanning tt (w.seat i).row.local.place (bare.rows i).place a);
          };
    }

unmoved_as : (κ : Routine) (p : Place) (c : SlotNumber) (v : ℕ) → T (begins κ p) → Unmoved κ (unmoved p c v)
unmoved_as κ p c v h = record { place = h; wake = refl; moves = refl; lates = refl }

unmoved_begin : (κ : Routine) (j x : ℕ) → Unmoved κ (begin κ j x)
unmoved_begin (Routine.Lock how) j x = unmoved_as (Routine.Lock how) Place.Rest (slot_of x) (j + 1) tt
unmoved_begin Routine.Plain j x = unmoved_as Routine.Plain Place.Look (slot_of 0) x tt
unmoved_begin Routine.Fast j x = unmoved_as Routine.Fast Place.Flag (slot_of 0) x tt

replicate_all : {A : Type 0} (n j : ℕ) (a : A) → get_or (replicate n a) j a ≡ a
replicate_all zero j a = refl
replicate_all (suc n) zero a = refl
replicate_all (suc n) (suc j) a = replicate_all n j a

pub bare_fresh : (u : Shape) → Sound u → (xs : List ℕ) → Starts u xs → (f : ℕ) → Bare (routine u) (view f (fresh u xs))
unfolding fresh
bare_fresh u so xs st f =
    record {
      value = λ c. replicate_all most_slots c 0;
      flag = λ v. replicate_all flag_count v false;
      rows =
          fresh_rows u so xs st (λ j r. Unmoved (routine u) r) (λ j h. unmoved_as (routine u) Place.Rest (slot_of 0) 0 tt)
          (λ j h ok. unmoved_begin (routine u) j (get_or xs j 0));
    }

-- A TRACE

-- whatever its records are, as long as they are accepted: the state that they lead to keeps the invariant, and the further property
module _ (u : Shape) (so : Sound u) (P : World → Type 0) (al : Along ordinary u P) where
  good_record : (s : State) (k : Step) → Admitted u s k → Good ordinary u so P al s.newest s → Good ordinary u so P al k.tick (after u s k)
  good_record s k ad good =
      move_or_stop u s k (Good ordinary u so P al k.tick)
      (λ e.
      good_move ordinary u so P al s.newest s good k.process k.tick ad.among ad.later ad.top
      (record { undecided = ad.undecided e; awake = ad.awake e }))
      (λ e. good_stop ordinary u so P al s.newest s good k.process k.tick ad.among ad.later)

  module _ (xs : List ℕ) (st : Starts u xs) (first : (w : World) → Bare (routine u) w → P w) where
    good_fresh : Good ordinary u so P al (fresh u xs).newest (fresh u xs)
    good_fresh =
        let kt = kept_fresh u so xs st in
        let bare = bare_fresh u so xs st (fresh u xs).newest in
        record { kept = kt; inv = inv_start ordinary (routine u) u _ bare kt.each; also = first _ bare }

    pub reach_good : (rest : List ℕ) (k : ℕ) {s : State} → reach u (fresh u xs) rest k ≡ going s → Good ordinary u so P al s.newest s
    reach_good rest =
        each_record (step_tape u rest) (fresh u xs) (λ k s. Good ordinary u so P al s.newest s) good_fresh
        (λ k s e good.
        let bytes : List ℕ = record_at rest k in
        subst (λ (f : ℕ). Good ordinary u so P al f (after u s (step_fields bytes))) (sym (newest-after u s (step_fields bytes)))
        (good_record s (step_fields bytes) (admitted u s bytes e) good))
