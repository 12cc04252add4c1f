-- What the bench (any number of rows, a deadline for each pair of process and register) does at a move and at a crash, as the theorems see it.
-- Assumes nothing.
use Prim.Native.Nat.{ℕ, ◌+◌, ◌*◌, ◌≤◌, ◌<◌}
use mathlib.Core.Path.{◌≡◌, refl, ap, subst, ◌∙◌, fun_ext}
use mathlib.Core.Logic.{◌≢◌}
use mathlib.Core.Bool.{Bool, true, false, not, cond}
use mathlib.Core.List.{List}
use native.Mathlib.Omega.{arith}
use lib.Dec.{T, eqb}
use lib.ListN.{length, get_or, set}
use lib.Seq.{get_or-set_same, get_or-set_other}
use borrow.Author.Tests.{eqb-true, eqb-false, ltb-true, ltb-false, ne_eqb}
use Rattle.terms.specs.Limits.{most_slots, unlimited}
use Rattle.terms.specs.declared.ProcessNumber.{ProcessNumber}
use Rattle.terms.specs.declared.SlotNumber.{SlotNumber}
use Rattle.terms.specs.Numbers.{index_of}
use Rattle.registers.specs.Deadlines.{pair_of, due}
use Rattle.bank.specs.declared.Bank.{Bank}
use Rattle.bank.specs.Registers.{late_at, deadline_at, after_read, after_write}
use Rattle.model.specs.declared.Place.{Place}
use Rattle.model.specs.declared.Ask.{Ask}
use Rattle.model.specs.declared.Shared.{Shared}
use Rattle.model.specs.declared.Shape.{Shape}
use Rattle.model.specs.declared.Local.{Local}
use Rattle.model.specs.declared.Row.{Row}
use Rattle.model.specs.declared.Reply.{Reply}
use Rattle.model.specs.declared.State.{State}
use Rattle.model.specs.Time.{wake_at}
use Rattle.model.specs.Routine.{Routine, routine, ask_at, told, counted, crash, next_of, is_decided}
use Rattle.model.specs.Memory.{reply, bank_after, shared_after}
use Rattle.model.specs.Bounds.{AskFits}
use Rattle.model.specs.Sizes.{flag_count}
use Rattle.model.specs.Run.{blank, row_at, row_of, move_at, stop}
use Rattle.model.proofs.World.{Seat, Commons, World, Clock, Moves, raise, put, put_all, moved, crashed}

-- the deadline of the pair of the process at index j and register c
abbrev pub deadline_of : Bank → ℕ → SlotNumber → ℕ
deadline_of b j c = get_or b.deadlines (j * most_slots + c.0) 0

abbrev pub seat_of : State → ℕ → Seat
seat_of s j = record { row = row_at s j; deadline = deadline_of s.bank j (row_at s j).local.slot }

abbrev pub commons : Shared → Commons
commons m = record { flag = λ v. get_or m.flags v false }

-- a state, with the least tick f of its next record
abbrev pub view : ℕ → State → World
view f s = record { seat = seat_of s; value = λ c. get_or s.bank.values c 0; shared = commons s.shared; floor = f }

pub record Shaped (s : State) : Type 0 where
  pub values : length s.bank.values ≡ most_slots
  pub deadlines : length s.bank.deadlines ≡ length s.rows * most_slots
  pub flags : length s.shared.flags ≡ flag_count
  pub slots : (j : ℕ) → (row_at s j).local.slot.0 < most_slots

-- one element of a list is new
get_or-put : {A : Type 0} (l : List A) (i : ℕ) (a d : A) → i < length l → (λ (j : ℕ). get_or (set l i a) j d) ≡ put (λ (j : ℕ). get_or l j d) i a
get_or-put l i a d h = fun_ext (put_all (λ j y. get_or (set l i a) j d ≡ y) (get_or-set_same l i a d h) (λ j n. get_or-set_other l i j a d n))

-- one seat is new, where nobody else's deadline changed
pub seats : (s : State) (m t : ℕ) (r : Row) (b : Bank) (f : Shared) → m < length s.rows
    → ((j : ℕ) → j ≢ m → deadline_of b j (row_at s j).local.slot ≡ deadline_of s.bank j (row_at s j).local.slot)
    → seat_of (record { rows = set s.rows m r; bank = b; shared = f; newest = t })
    ≡ put (seat_of s) m (record { row = r; deadline = deadline_of b m r.local.slot })
seats s m t r b f h others =
    fun_ext
    (put_all (λ j y. seat_of (record { rows = set s.rows m r; bank = b; shared = f; newest = t }) j ≡ y) (rw (get_or-set_same s.rows m r blank h))
    (λ j n. rw (get_or-set_other s.rows m j r blank n, others j n)))

-- two pairs are apart where the processes are, so a deadline set for one process leaves another's
apart : (i : ProcessNumber) (j : ℕ) (c d : SlotNumber) → j ≢ index_of i → c.0 < most_slots → d.0 < most_slots → j * most_slots + d.0 ≢ pair_of i c
apart i j c d n h g e = n (omega arith)

elsewhere : (s : State) (i : ProcessNumber) → Shaped s → (c : SlotNumber) → c.0 < most_slots → (x j : ℕ) → j ≢ index_of i
    → get_or (set s.bank.deadlines (pair_of i c) x) (j * most_slots + (row_at s j).local.slot.0) 0 ≡ deadline_of s.bank j (row_at s j).local.slot
elsewhere s i sh c h x j n =
    get_or-set_other s.bank.deadlines (pair_of i c) (j * most_slots + (row_at s j).local.slot.0) x 0 (apart i j c (row_at s j).local.slot n h (sh.slots j))

pub others : (s : State) (i : ProcessNumber) (t : ℕ) → Shaped s → (q : Ask) → AskFits q → (j : ℕ) → j ≢ index_of i
    → deadline_of (bank_after s.bank i t q) j (row_at s j).local.slot ≡ deadline_of s.bank j (row_at s j).local.slot
unfolding after_read after_write
others s i t sh Ask.Nothing o j n = refl
others s i t sh (Ask.Read c d) o j n = elsewhere s i sh c o.0 (due t d) j n
others s i t sh (Ask.Write c v) o j n = elsewhere s i sh c o unlimited j n
others s i t sh (Ask.Raise v) o j n = refl
others s i t sh (Ask.Peek v) o j n = refl

-- the process keeps its slot when it finds it empty and when it wins it
keeps_slot : (κ : Routine) (u : Shape) (n v w : ℕ) (x : Local)
    → ((next_of κ u n Place.Look true v w x).slot ≡ x.slot) × ((next_of κ u n Place.Check true v w x).slot ≡ x.slot)
keeps_slot (Routine.Lock how) u n v w x = (refl, refl)
keeps_slot Routine.Plain u n v w x = (refl, refl)
keeps_slot Routine.Fast u n v w x = (refl, refl)

pub world_is : (a b : ℕ → Seat) (c d : ℕ → ℕ) (g h : Commons) (f : ℕ) → a ≡ b → c ≡ d → g ≡ h
    → ◌≡◌ {A = World} (record { seat = a; value = c; shared = g; floor = f }) (record { seat = b; value = d; shared = h; floor = f })
world_is a b c d g h f p q r = λ x. record { seat = p x; value = q x; shared = r x; floor = f }

bit_clear : (c : Bool) → eqb (cond c 1 0) 0 ≡ true → c ≡ false
bit_clear true e = cc
bit_clear false e = refl

bit_set : (c : Bool) → eqb (cond c 1 0) 0 ≡ false → c ≡ true
bit_set true e = refl
bit_set false e = cc

-- from where a process may move
abbrev pub Mobile : Place → Type 0
Mobile p = T (not (is_decided p))

module _ (k : Clock) (u : Shape) (s : State) (i : ProcessNumber) (t : ℕ) (sh : Shaped s) (small : index_of i < length s.rows) (bound : k.delta ≡ u.delta)
    (short : u.delta < unlimited) where
  abbrev answer : Place → Reply
  answer p = reply s.bank s.shared i t (ask_at p u.delta (row_of s i))

  abbrev row_after_lem : Place → Bool → Row
  row_after_lem p b = counted (answer p).late (next_of (routine u) u (row_of s i).own p b (answer p).value (wake_at u.delta t) (row_of s i).local) (row_of s i)

  abbrev bank_after_lem : Place → Bank
  bank_after_lem p = bank_after s.bank i t (ask_at p u.delta (row_of s i))

  abbrev deadline_after : Place → Bool → ℕ
  deadline_after p b = deadline_of (bank_after_lem p) (index_of i) (row_after_lem p b).local.slot

  in_rows : index_of i < length s.rows
  in_rows = small

  in_pairs : pair_of i (row_of s i).local.slot < length s.bank.deadlines
  in_pairs = omega (arith, small, sh.deadlines, sh.slots (index_of i))

  in_values : (row_of s i).local.slot.0 < length s.bank.values
  in_values = omega (arith, sh.values, sh.slots (index_of i))

  -- the process's own deadline, where it keeps its slot
  set_here : (x : ℕ) (c : SlotNumber) → c ≡ (row_of s i).local.slot
      → get_or (set s.bank.deadlines (pair_of i (row_of s i).local.slot) x) (index_of i * 8 + c.0) 0 ≡ x
  set_here x c q = rw q (get_or-set_same s.bank.deadlines (pair_of i (row_of s i).local.slot) x 0 in_pairs)

  due_is : due t u.delta ≡ t + k.delta
  due_is = rw (ne_eqb u.delta unlimited (λ q. omega arith), bound)

  seat_path : (p : Place) (b : Bool) → told p (row_of s i) (answer p) ≡ b → AskFits (ask_at p u.delta (row_of s i))
      → seat_of (move_at u p s i t) ≡ put (seat_of s) (index_of i) (record { row = row_after_lem p b; deadline = deadline_after p b })
  unfolding move_at
  seat_path p b e o =
      subst (λ (y : Bool). seat_of (move_at u p s i t) ≡ put (seat_of s) (index_of i) (record { row = row_after_lem p y; deadline = deadline_after p y })) e
      (seats s (index_of i) t (row_after_lem p (told p (row_of s i) (answer p))) (bank_after_lem p) (shared_after s.shared (ask_at p u.delta (row_of s i)))
      in_rows
      (others s i t sh (ask_at p u.delta (row_of s i)) o))

  -- what the theorems see of a move at place p, having learnt b
  pub record Seen (f f' : ℕ) (p : Place) (b : Bool) : Type 0 where
    pub v : ℕ → ℕ
    pub g : Commons
    pub rule : Moves k (view f s) (index_of i) t p b (answer p).value v g (deadline_after p b)
    pub looks : view f' (move_at u p s i t) ≡ moved (view f s) (index_of i) (record { row = row_after_lem p b; deadline = deadline_after p b }) v g f'

  -- where no register and no flag changes
  plainly : (f f' : ℕ) (p : Place) (b : Bool) → told p (row_of s i) (answer p) ≡ b → AskFits (ask_at p u.delta (row_of s i))
      → (bank_after_lem p).values ≡ s.bank.values → shared_after s.shared (ask_at p u.delta (row_of s i)) ≡ s.shared
      → Moves k (view f s) (index_of i) t p b (answer p).value (view f s).value (view f s).shared (deadline_after p b) → Seen f f' p b
  unfolding move_at
  plainly f f' p b e o q h m =
      record {
        v = (view f s).value;
        g = (view f s).shared;
        rule = m;
        looks = world_is _ _ _ _ _ _ f' (seat_path p b e o) (ap (λ (l : List ℕ). λ (x : ℕ). get_or l x 0) q) (ap commons h);
      }

  -- where a flag is raised
  raising : (f f' : ℕ) (p : Place) (b : Bool) (n : ℕ) → told p (row_of s i) (answer p) ≡ b → AskFits (ask_at p u.delta (row_of s i))
      → (bank_after_lem p).values ≡ s.bank.values
      → shared_after s.shared (ask_at p u.delta (row_of s i)) ≡ record { flags = set s.shared.flags n true } → n ≤ most_slots
      → Moves k (view f s) (index_of i) t p b (answer p).value (view f s).value (raise (view f s).shared n) (deadline_after p b) → Seen f f' p b
  unfolding move_at
  raising f f' p b n e o q r h m =
      record {
        v = (view f s).value;
        g = raise (view f s).shared n;
        rule = m;
        looks =
            world_is _ _ _ _ _ _ f' (seat_path p b e o) (ap (λ (l : List ℕ). λ (x : ℕ). get_or l x 0) q)
            (ap commons r
            ∙ ap (λ (y : ℕ → Bool). record { flag = y }) (get_or-put s.shared.flags n true false (omega (arith, sh.flags))));
      }

  pub sees : (f f' : ℕ) (p : Place) (b : Bool) → told p (row_of s i) (answer p) ≡ b → Mobile p → AskFits (ask_at p u.delta (row_of s i)) → Seen f f' p b
  unfolding move_at after_read after_write
  sees f f' Place.Rest b e h o = plainly f f' Place.Rest b e o refl refl Moves.leaves
  sees f f' Place.Look true e h o =
      plainly f f' Place.Look true e o refl refl
      (Moves.finds (eqb-true _ _ e) (set_here (due t u.delta) _ (keeps_slot (routine u) u _ _ _ _).0 ∙ due_is))
  sees f f' Place.Look false e h o = plainly f f' Place.Look false e o refl refl (Moves.meets (eqb-false _ _ e))
  sees f f' Place.Put true e h o = plainly f f' Place.Put true e o (rw e) refl Moves.fails
  sees f f' Place.Put false e h o =
      record {
        v = put (view f s).value (row_of s i).local.slot.0 (row_of s i).own;
        g = (view f s).shared;
        rule = Moves.stores (ltb-false (deadline_at s.bank i (row_of s i).local.slot) t e);
        looks =
            world_is _ _ _ _ _ _ f' (seat_path Place.Put false e o)
            (rw e (get_or-put s.bank.values (row_of s i).local.slot.0 (row_of s i).own 0 in_values)) refl;
      }
  sees f f' Place.Wait b e h o = plainly f f' Place.Wait b e o refl refl Moves.pauses
  sees f f' Place.Check true e h o =
      plainly f f' Place.Check true e o refl refl
      (Moves.knows (eqb-true _ _ e) (set_here unlimited _ (keeps_slot (routine u) u _ _ _ _).1))
  sees f f' Place.Check false e h o = plainly f f' Place.Check false e o refl refl (Moves.learns (eqb-false _ _ e))
  sees f f' Place.Critical b e h o = leave (late_at s.bank i (row_of s i).local.slot t) refl
    where
      leave : (y : Bool) → late_at s.bank i (row_of s i).local.slot t ≡ y → Seen f f' Place.Critical b
      leave true q = plainly f f' Place.Critical b e o (rw q) refl (Moves.sticks (ltb-true (deadline_at s.bank i (row_of s i).local.slot) t q))
      leave false q =
          record {
            v = put (view f s).value (row_of s i).local.slot.0 0;
            g = (view f s).shared;
            rule = Moves.clears (ltb-false (deadline_at s.bank i (row_of s i).local.slot) t q);
            looks =
                world_is _ _ _ _ _ _ f' (seat_path Place.Critical b e o)
                (rw q (get_or-put s.bank.values (row_of s i).local.slot.0 0 0 in_values)) refl;
          }
  sees f f' Place.Flag b e h o = raising f f' Place.Flag b (row_of s i).own e o refl refl o Moves.raises
  sees f f' Place.Scan true e h o = plainly f f' Place.Scan true e o refl refl (Moves.passes (bit_clear _ e))
  sees f f' Place.Scan false e h o = plainly f f' Place.Scan false e o refl refl (Moves.halts (bit_set _ e))
  sees f f' Place.Decided b e h o = absurd h

-- of a crash they see the mark in the row alone
pub sees_stop : (s : State) (i : ProcessNumber) (t f f' : ℕ) → Shaped s → index_of i < length s.rows
    → view f' (stop s i t) ≡ crashed (view f s) (index_of i) (crash (row_of s i)) f'
unfolding stop
sees_stop s i t f f' sh small =
    world_is _ _ _ _ _ _ f' (seats s (index_of i) t (crash (row_of s i)) s.bank s.shared small (λ j n. refl)) refl refl
