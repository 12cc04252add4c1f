-- Rows of which one was changed: that row is what it was made, and the others are as they were; two such lists agree. A move and a crash change
-- the row of their process, and no other.
-- Assumes nothing.
use Prim.Native.Nat.{ℕ, ◌<◌}
use mathlib.Core.Path.{◌≡◌, refl, sym, ap, ◌∙◌}
use mathlib.Core.Bool.{Bool, true, false}
use mathlib.Core.List.{List}
use borrow.Author.Tests.{eqb-true, eqb-false}
use lib.Dec.{eqb}
use lib.ListN.{length, get_or, set, length-set}
use lib.Seq.{ext_get_or, get_or-set_same, get_or-set_other}
use Rattle.terms.specs.declared.ProcessNumber.{ProcessNumber}
use Rattle.terms.specs.Numbers.{index_of}
use Rattle.model.specs.declared.Shape.{Shape}
use Rattle.model.specs.declared.Row.{Row}
use Rattle.model.specs.declared.State.{State}
use Rattle.model.specs.Time.{wake_at}
use Rattle.model.specs.Routine.{ask_at, row_after, crash}
use Rattle.model.specs.Memory.{reply}
use Rattle.model.specs.Run.{blank, move_at, move, stop}

-- of the rows only row j is another: it is what g makes of it
pub record Changed (j : ℕ) (g : Row → Row) (old new : List Row) : Type 0 where
  pub long : length new ≡ length old
  pub row : get_or new j blank ≡ g (get_or old j blank)
  pub others : (k : ℕ) → (k ≡ j → ⊥) → get_or new k blank ≡ get_or old k blank

-- THE LAW: a row that is written, as a move and a crash write it (`move`, `stop`), changes alone
pub changed : (rows : List Row) (j : ℕ) (g : Row → Row) → j < length rows → Changed j g rows (set rows j (g (get_or rows j blank)))
changed rows j g h =
    record {
      long = length-set rows j (g (get_or rows j blank));
      row = get_or-set_same rows j (g (get_or rows j blank)) blank h;
      others = λ k n. get_or-set_other rows j k (g (get_or rows j blank)) blank n;
    }

-- and the other way round: rows of which one has changed are the old ones with that row set
pub changed_rows : {j : ℕ} {g : Row → Row} {old new : List Row} → j < length old → Changed j g old new → new ≡ set old j (g (get_or old j blank))
changed_rows {j} {g} {old} {new} h x =
    ext_get_or blank new (set old j (g (get_or old j blank))) (x.long ∙ sym (length-set old j (g (get_or old j blank)))) (λ i f. at i (eqb i j) refl)
  where
    at : (i : ℕ) (b : Bool) → eqb i j ≡ b → get_or new i blank ≡ get_or (set old j (g (get_or old j blank))) i blank
    at i true e = rw (eqb-true i j e, get_or-set_same old j (g (get_or old j blank)) blank h) x.row
    at i false e = x.others i (eqb-false i j e) ∙ sym (get_or-set_other old j i (g (get_or old j blank)) blank (eqb-false i j e))

-- one change after the other; a change told in other words
module _ {j : ℕ} {g h : Row → Row} {a b : List Row} where
  pub also : {c : List Row} → Changed j g a b → Changed j h b c → Changed j (λ r. h (g r)) a c
  also x y =
      record {
        long = y.long ∙ x.long;
        row = y.row ∙ ap h x.row;
        others = λ k n. y.others k n ∙ x.others k n;
      }

  pub told_as : Changed j g a b → g (get_or a j blank) ≡ h (get_or a j blank) → Changed j h a b
  told_as x e = record { long = x.long; row = x.row ∙ e; others = x.others }

module _ {j : ℕ} {g : Row → Row} {old a b : List Row} (x : Changed j g old a) (y : Changed j g old b) where
  pub row_settled : get_or a j blank ≡ get_or b j blank
  row_settled = x.row ∙ sym y.row

  pub others_settled : (k : ℕ) → (k ≡ j → ⊥) → get_or a k blank ≡ get_or b k blank
  others_settled k other = x.others k other ∙ sym (y.others k other)

-- WHAT A STEP CHANGES. (That every other row stays, whatever the step: `Turns.stays`.)

-- what a move of process i at tick t makes of the process's row
abbrev pub gone : Shape → State → ProcessNumber → ℕ → Row → Row
gone u s i t r = row_after u r.local.place (wake_at u.delta t) r (reply s.bank s.shared i t (ask_at r.local.place u.delta r))

module _ (s : State) (i : ProcessNumber) (t : ℕ) (there : index_of i < length s.rows) where
  pub move_changes : (u : Shape) → Changed (index_of i) (gone u s i t) s.rows (move u s i t).rows
  unfolding move_at
  move_changes u = changed s.rows (index_of i) (gone u s i t) there

  pub crash_changes : Changed (index_of i) crash s.rows (stop s i t).rows
  unfolding stop
  crash_changes = changed s.rows (index_of i) crash there
