-- The rows at the start as they are filled from the front: the first j begin, the others are still blank.
-- Assumes nothing.
use Prim.Native.Nat.{ℕ, zero, suc, ◌+◌, ◌≤◌, ◌<◌}
use mathlib.Core.Path.{◌≡◌, refl, ◌∙◌}
use mathlib.Core.Bool.{Bool, true, false}
use mathlib.Core.List.{List}
use native.Mathlib.Nat.{zero-add}
use native.Mathlib.Omega.{arith}
use borrow.Author.Tests.{ltb-true, ltb-false, lt-ltb, le-ltb, eqb-true, eqb-false}
use lib.Dec.{eqb, ltb}
use lib.ListN.{length, get_or, set, replicate, length-set}
use lib.Seq.{ext_get_or, get_or-set_same, get_or-set_other}
use Rattle.terms.specs.Limits.{most_processes}
use Rattle.model.specs.declared.Shape.{Shape}
use Rattle.model.specs.declared.Row.{Row}
use Rattle.model.specs.Routine.{Routine, routine, begin, begun}
use Rattle.model.specs.Run.{blank, start_row, start_rows}
use Rattle.model.proofs.Keeping.{length-start_rows, get_or-start_rows}

pub record Filled (u : Shape) (xs : List ℕ) (j : ℕ) (rows : List Row) : Type 0 where
  pub long : length rows ≡ most_processes
  pub first : (i : ℕ) → i < j → get_or rows i blank ≡ start_row u i (get_or xs i 0)
  pub others : (i : ℕ) → j ≤ i → get_or rows i blank ≡ blank

all_blank : (n i : ℕ) → get_or (replicate n blank) i blank ≡ blank
all_blank zero i = refl
all_blank (suc n) zero = refl
all_blank (suc n) (suc i) = all_blank n i

-- a row that begins is a blank one, but for its place, its slot and the value that it writes
pub begun_from_blank : (κ : Routine) (j x : ℕ) {r : Row} → r ≡ blank → begun (begin κ j x) r ≡ begin κ j x
begun_from_blank (Routine.Lock how) j x e = rw e
begun_from_blank Routine.Plain j x e = rw e
begun_from_blank Routine.Fast j x e = rw e

module _ (u : Shape) (xs : List ℕ) where
  pub filled_none : (r : Row) → r ≡ blank → Filled u xs 0 (replicate most_processes r)
  filled_none r e = rw e (record { long = refl; first = λ i h. absurd (omega arith); others = λ i h. all_blank most_processes i })

  module _ (j : ℕ) (rows : List Row) (filled : Filled u xs j rows) where
    pub filled_more : j < most_processes → j < u.count → {r : Row} → r ≡ begin (routine u) j (get_or xs j 0) → Filled u xs (j + 1) (set rows j r)
    filled_more room below {r} e =
        record {
          long = simp length-set filled.long;
          first = λ i h. at i h (eqb i j) refl;
          others = λ i h. get_or-set_other rows j i r blank (λ e. absurd (omega arith)) ∙ filled.others i (omega arith);
        }
      where
        at : (i : ℕ) → i < j + 1 → (b : Bool) → eqb i j ≡ b → get_or (set rows j r) i blank ≡ start_row u i (get_or xs i 0)
        at i h true s =
            let same : i ≡ j = eqb-true i j s in
            rw (same, get_or-set_same rows j r blank (omega (arith, filled.long)), lt-ltb j u.count below) e
        at i h false s =
            let differ = eqb-false i j s in
            get_or-set_other rows j i r blank differ ∙ filled.first i (omega arith)

    pub filled_done : length xs ≡ most_processes → ((i : ℕ) → j ≤ i → i < most_processes → u.count ≤ i) → rows ≡ start_rows u 0 xs
    filled_done long past =
        ext_get_or blank rows (start_rows u 0 xs) (omega (arith, filled.long, length-start_rows u 0 xs))
        (λ i h. at i (omega (arith, filled.long)) (ltb i j) refl)
      where
        at : (i : ℕ) → i < most_processes → (b : Bool) → ltb i j ≡ b → get_or rows i blank ≡ get_or (start_rows u 0 xs) i blank
        at i h true s = rw (get_or-start_rows u 0 xs i (omega arith), zero-add) (filled.first i (ltb-true i j s))
        at i h false s =
            let beyond : j ≤ i = ltb-false i j s in
            rw (get_or-start_rows u 0 xs i (omega arith), zero-add, le-ltb i u.count (past i beyond h)) (filled.others i beyond)
