-- What every state of a run keeps: the lengths of its lists, and each row as its routine has it.
-- Assumes nothing.
use Prim.Native.Nat.{ℕ, zero, suc, ◌+◌, ◌*◌, ◌≤◌, ◌<◌}
use mathlib.Core.Path.{◌≡◌, refl, sym, ap, ◌∙◌}
use mathlib.Core.Bool.{Bool, true, false, cond, false≢true}
use mathlib.Core.List.{List, [], ◌∷◌}
use native.Mathlib.Omega.{arith}
use native.Mathlib.Nat.{add-zero, add-suc, suc-add, zero-add}
use lib.Dec.{ltb}
use lib.ListN.{length, get_or, set, length-set, length-replicate, get_or-eq_default}
use borrow.Author.Tests.{ltb-true, ltb-false}
use Rattle.terms.specs.Limits.{most_slots, unlimited}
use Rattle.terms.specs.declared.ProcessNumber.{ProcessNumber}
use Rattle.terms.specs.Numbers.{index_of}
use Rattle.bank.specs.declared.Bank.{Bank}
use Rattle.bank.specs.Registers.{late_at, after_read, after_write}
use Rattle.steps.specs.declared.Step.{Step}
use Rattle.model.specs.declared.Shape.{Shape}
use Rattle.model.specs.declared.Row.{Row}
use Rattle.model.specs.declared.Ask.{Ask}
use Rattle.model.specs.declared.Reply.{Reply}
use Rattle.model.specs.declared.Shared.{Shared}
use Rattle.model.specs.declared.State.{State}
use Rattle.model.specs.Time.{wake_at}
use Rattle.model.specs.Routine.{routine, ask_at, begin, is_decided}
use Rattle.model.specs.Memory.{reply, bank_after, shared_after}
use Rattle.model.specs.Bounds.{Sound, start_ok, Starts}
use Rattle.model.specs.Sizes.{flag_count}
use Rattle.model.specs.Run.{row_at, row_of, blank, start_row, start_rows, fresh, move, move_at, stop, after, step_at, step_tape, reach, Progress.going}
use Rattle.model.proofs.RunLaws.{record_at, Keeps, reach_start, follow_accepts, each_record}
use Rattle.model.proofs.Turns.{each_row, move_or_stop}
use Rattle.model.proofs.Rows.{local_ok, row_ok, next_ok, ok_begin, ok_blank}
pub use Rattle.model.proofs.Rows.{RowOk, slot_small}
pub use Rattle.model.proofs.Admits.{Admitted, admitted, admitted_accepts}

pub record Kept (u : Shape) (s : State) : Type 0 where
  pub rows : u.count ≤ length s.rows
  pub values : length s.bank.values ≡ most_slots
  pub deadlines : length s.bank.deadlines ≡ length s.rows * most_slots
  pub flags : length s.shared.flags ≡ flag_count
  pub each : (j : ℕ) → RowOk (routine u) u j (row_at s j)
  pub beyond : (j : ℕ) → u.count ≤ j → row_at s j ≡ blank

-- A RECORD

cond-length : (b : Bool) (l : List ℕ) (n v : ℕ) → length (cond b l (set l n v)) ≡ length l
cond-length true l n v = refl
cond-length false l n v = length-set l n v

module _ (b : Bank) (i : ProcessNumber) (t : ℕ) where
  values_length : (q : Ask) → length (bank_after b i t q).values ≡ length b.values
  unfolding after_read after_write
  values_length Ask.Nothing = refl
  values_length (Ask.Read c d) = refl
  values_length (Ask.Write c v) = cond-length (late_at b i c t) b.values c.0 v
  values_length (Ask.Raise v) = refl
  values_length (Ask.Peek v) = refl

  deadlines-length : (q : Ask) → length (bank_after b i t q).deadlines ≡ length b.deadlines
  unfolding after_read after_write
  deadlines-length Ask.Nothing = refl
  deadlines-length (Ask.Read c d) = length-set b.deadlines _ _
  deadlines-length (Ask.Write c v) = length-set b.deadlines _ _
  deadlines-length (Ask.Raise v) = refl
  deadlines-length (Ask.Peek v) = refl

flags-length : (m : Shared) (q : Ask) → length (shared_after m q).flags ≡ length m.flags
flags-length m Ask.Nothing = refl
flags-length m (Ask.Read c d) = refl
flags-length m (Ask.Write c v) = refl
flags-length m (Ask.Raise v) = length-set m.flags v true
flags-length m (Ask.Peek v) = refl

module _ (u : Shape) (so : Sound u) (s : State) (kt : Kept u s) where
  module _ (i : ProcessNumber) (t : ℕ) (h : index_of i < u.count) where
    there : index_of i < length s.rows
    there = omega (arith, kt.rows)

    pub kept_move : is_decided (row_of s i).local.place ≡ false → Kept u (move u s i t)
    unfolding move_at
    kept_move undecided =
        let r : Row = row_of s i in
        let q : Ask = ask_at r.local.place u.delta r in
        let a : Reply = reply s.bank s.shared i t q in
        let none = (kt.each (index_of i)).undecided (λ e. false≢true (sym undecided ∙ ap is_decided e)) in
        record {
          rows = rw (length-set s.rows) kt.rows;
          values = values_length s.bank i t q ∙ kt.values;
          deadlines = rw (length-set s.rows) (deadlines-length s.bank i t q ∙ kt.deadlines);
          flags = flags-length s.shared q ∙ kt.flags;
          each =
              each_row (RowOk (routine u) u) s.rows (index_of i) _ there (λ j n. kt.each j)
              (row_ok (routine u) u (index_of i) r _ (kt.each (index_of i)) refl
              (next_ok u so (index_of i) r none a.value (wake_at u.delta t) (routine u) (kt.each (index_of i)) r.local.place _));
          beyond = each_row (λ j x. u.count ≤ j → x ≡ blank) s.rows (index_of i) _ there (λ j n. kt.beyond j) (λ l. absurd (omega arith));
        }

    pub kept_stop : Kept u (stop s i t)
    unfolding stop
    kept_stop =
        record {
          rows = rw (length-set s.rows) kt.rows;
          values = kt.values;
          deadlines = rw (length-set s.rows) kt.deadlines;
          flags = kt.flags;
          each =
              each_row (RowOk (routine u) u) s.rows (index_of i) _ there (λ j n. kt.each j)
              (row_ok (routine u) u (index_of i) (row_of s i) _ (kt.each (index_of i)) refl
              (local_ok (routine u) u (index_of i) (row_of s i) (kt.each (index_of i))));
          beyond = each_row (λ j x. u.count ≤ j → x ≡ blank) s.rows (index_of i) _ there (λ j n. kt.beyond j) (λ l. absurd (omega arith));
        }

  pub kept_after : (k : Step) → Admitted u s k → Kept u (after u s k)
  kept_after k ad =
      move_or_stop u s k (Kept u) (λ e. kept_move k.process k.tick ad.among (ad.undecided e)) (λ e. kept_stop k.process k.tick ad.among)

-- A RUN, from its beginning

pub length-start_rows : (u : Shape) (j : ℕ) (xs : List ℕ) → length (start_rows u j xs) ≡ length xs
unfolding start_rows
length-start_rows u j [] = refl
length-start_rows u j (x ∷ xs) = ap suc (length-start_rows u (suc j) xs)

pub get_or-start_rows : (u : Shape) (i : ℕ) (xs : List ℕ) (j : ℕ) → j < length xs → get_or (start_rows u i xs) j blank ≡ start_row u (i + j) (get_or xs j 0)
unfolding start_rows
get_or-start_rows u i [] j h = absurd (omega arith)
get_or-start_rows u i (x ∷ xs) zero h = rw add-zero
get_or-start_rows u i (x ∷ xs) (suc j) h = get_or-start_rows u (suc i) xs j (omega arith) ∙ rw (suc-add, add-suc)

module _ (u : Shape) (so : Sound u) (xs : List ℕ) (st : Starts u xs) where
  -- at the start: what holds of each row that begins, and of blank ones, holds of all
  pub fresh_rows : (P : ℕ → Row → Type 0) → ((j : ℕ) → u.count ≤ j → P j blank)
      → ((j : ℕ) → j < u.count → start_ok (routine u) u.size (get_or xs j 0) → P j (begin (routine u) j (get_or xs j 0)))
      → (j : ℕ) → P j (row_at (fresh u xs) j)
  unfolding fresh
  fresh_rows P none some j = by (ltb j u.count) refl (ltb j (length xs)) refl
    where
      by : (b : Bool) → ltb j u.count ≡ b → (c : Bool) → ltb j (length xs) ≡ c → P j (get_or (start_rows u 0 xs) j blank)
      by true e true f =
          let below = ltb-true j u.count e in
          rw (get_or-start_rows u 0 xs j (ltb-true j (length xs) f), zero-add, e) (some j below (st.each j below))
      by false e true f = rw (get_or-start_rows u 0 xs j (ltb-true j (length xs) f), zero-add, e) (none j (ltb-false j u.count e))
      by b e false f =
          let past = ltb-false j (length xs) f in
          rw (get_or-eq_default (start_rows u 0 xs) blank {n = j} (omega (arith, length-start_rows u 0 xs))) (none j (omega (arith, st.few)))

  pub kept_fresh : Kept u (fresh u xs)
  unfolding fresh
  kept_fresh =
      record {
        rows = rw (length-start_rows u 0 xs) st.few;
        values = refl;
        deadlines = rw (length-start_rows u 0 xs) (length-replicate (length xs * most_slots) unlimited);
        flags = refl;
        each = fresh_rows (RowOk (routine u) u) (λ j h. ok_blank (routine u) u j so h) (λ j h ok. ok_begin (routine u) u j (get_or xs j 0) ok);
        beyond = fresh_rows (λ j r. u.count ≤ j → r ≡ blank) (λ j h l. refl) (λ j h ok l. absurd (omega arith));
      }

  -- what holds at the start and is kept by each accepted record of a kept state holds after each of them
  pub each_kept : (rest : List ℕ) (P : ℕ → State → Type 0) → P 0 (fresh u xs)
      → ((k : ℕ) (s : State) → reach u (fresh u xs) rest k ≡ going s → Kept u s
      → Admitted u s (step_at rest k) → P k s → P (suc k) (after u s (step_at rest k)))
      → (k : ℕ) {s : State} → reach u (fresh u xs) rest k ≡ going s → Kept u s × P k s
  each_kept rest P start keep k e =
      let all = each_record (step_tape u rest) (fresh u xs) Q (reach_start u (fresh u xs) rest, kept_fresh, start) kept k e in
      (all.1, all.2)
    where
      Q : ℕ → State → Type 0
      Q k s = (reach u (fresh u xs) rest k ≡ going s) × Kept u s × P k s

      kept : Keeps u rest Q
      kept k s h q =
          let ad = admitted u s (record_at rest k) h in
          (follow_accepts (step_tape u rest) (fresh u xs) k q.0 h, kept_after u so s q.1 _ ad, keep k s q.0 q.1 ad q.2)

  pub reach_kept : (rest : List ℕ) (k : ℕ) {s : State} → reach u (fresh u xs) rest k ≡ going s → Kept u s
  reach_kept rest k e = (each_kept rest (λ k s. Unit {0}) tt (λ k s e kt ad z. tt) k e).0
