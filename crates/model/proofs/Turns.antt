-- One record: the row of its process stops or goes, every other row stays; a stop changes no memory.
-- Assumes nothing.
use Prim.Native.Nat.{ℕ, ◌<◌}
use mathlib.Core.Path.{◌≡◌, refl}
use mathlib.Core.Logic.{◌≢◌}
use mathlib.Core.Bool.{Bool, true, false, cond}
use mathlib.Core.List.{List}
use native.Mathlib.Decide.{ℕ_discrete}
use lib.ListN.{length, get_or, set}
use lib.Seq.{get_or-set_same, get_or-set_other}
use Rattle.terms.specs.Numbers.{index_of}
use Rattle.steps.specs.declared.Step.{Step}
use Rattle.model.specs.declared.Shape.{Shape}
use Rattle.model.specs.declared.Row.{Row}
use Rattle.model.specs.declared.State.{State}
use Rattle.model.specs.Time.{wake_at}
use Rattle.model.specs.Routine.{row_after, crash}
use Rattle.model.specs.Run.{row_at, row_of, blank, is_move, move, move_at, stop, after}
use Rattle.model.specs.Counts.{reply_to}

-- the row of the process that makes the move k, after it
abbrev pub row_gone : Shape → State → Step → Row
row_gone u s k =
    let r : Row = row_of s k.process in
    row_after u r.local.place (wake_at u.delta k.tick) r (reply_to u s k)

-- one row of a list is new
pub each_row : (P : ℕ → Row → Type 0) (rows : List Row) (i : ℕ) (r : Row) → i < length rows → ((j : ℕ) → j ≢ i → P j (get_or rows j blank)) → P i r
    → (j : ℕ) → P j (get_or (set rows i r) j blank)
each_row P rows i r h old new j = by (ℕ_discrete j i)
  where
    by : Dec (j ≡ i) → P j (get_or (set rows i r) j blank)
    by (yes e) = rw (e, get_or-set_same rows i r blank h) new
    by (no n) = rw (get_or-set_other rows i j r blank n) (old j n)

module _ (u : Shape) (s : State) (k : Step) where
  -- a record is a move or a crash
  pub move_or_stop : (P : State → Type 0) → (is_move k ≡ true → P (move u s k.process k.tick)) → (is_move k ≡ false → P (stop s k.process k.tick))
      → P (after u s k)
  unfolding after
  move_or_stop P goes stops = by (is_move k) refl
    where
      by : (b : Bool) → is_move k ≡ b → P (cond b (move u s k.process k.tick) (stop s k.process k.tick))
      by true e = goes e
      by false e = stops e

  pub newest-after : (after u s k).newest ≡ k.tick
  unfolding move_at stop
  newest-after = move_or_stop (λ x. x.newest ≡ k.tick) (λ e. refl) (λ e. refl)

  -- what holds of the other rows as they were, and of the row that stopped or went, holds of every row
  pub turn : index_of k.process < length s.rows → (P : ℕ → Row → Type 0) → ((j : ℕ) → j ≢ index_of k.process → P j (row_at s j))
      → (is_move k ≡ false → P (index_of k.process) (crash (row_of s k.process))) → (is_move k ≡ true → P (index_of k.process) (row_gone u s k))
      → (j : ℕ) → P j (row_at (after u s k) j)
  unfolding move_at stop
  turn h P stays stops goes =
      move_or_stop (λ x. (j : ℕ) → P j (row_at x j)) (λ e. each_row P s.rows _ _ h stays (goes e)) (λ e. each_row P s.rows _ _ h stays (stops e))

  -- row by row
  pub stays : (j : ℕ) → j ≢ index_of k.process → row_at (after u s k) j ≡ row_at s j
  unfolding move_at stop
  stays j n = move_or_stop (λ x. row_at x j ≡ row_at s j) (λ e. get_or-set_other s.rows _ j _ blank n) (λ e. get_or-set_other s.rows _ j _ blank n)

  pub stops : index_of k.process < length s.rows → is_move k ≡ false → row_of (after u s k) k.process ≡ crash (row_of s k.process)
  unfolding after stop
  stops h e = rw e (get_or-set_same s.rows _ _ blank h)

  pub goes : index_of k.process < length s.rows → is_move k ≡ true → row_of (after u s k) k.process ≡ row_gone u s k
  unfolding after move_at
  goes h e = rw e (get_or-set_same s.rows _ _ blank h)

  pub stop_keeps_memory : is_move k ≡ false → ((after u s k).bank ≡ s.bank) × ((after u s k).shared ≡ s.shared)
  unfolding after stop
  stop_keeps_memory e = rw e (refl, refl)
