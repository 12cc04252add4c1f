-- The moves and late writes of a row are counts over the records of its trace; and so is any further column.
-- Assumes nothing.
use Prim.Native.Nat.{ℕ, zero, suc, ◌+◌, ◌≤◌}
use mathlib.Core.Path.{◌≡◌, refl, ap, ◌∙◌}
use mathlib.Core.Logic.{◌≢◌}
use mathlib.Core.Bool.{Bool, true, false, cond, ◌&&◌}
use mathlib.Core.List.{List}
use native.Mathlib.Omega.{arith}
use borrow.Author.Tests.{eq-eqb, ne_eqb}
use Rattle.terms.specs.declared.SlotNumber.{SlotNumber}
use Rattle.terms.specs.Numbers.{process_of, index_of}
use Rattle.steps.specs.declared.Step.{Step}
use Rattle.model.specs.declared.Place.{Place}
use Rattle.model.specs.declared.Shape.{Shape}
use Rattle.model.specs.declared.Row.{Row}
use Rattle.model.specs.declared.State.{State}
use Rattle.model.specs.Routine.{Routine, routine, crash, unmoved, begin}
use Rattle.model.specs.Bounds.{Bytes, Sound, Starts}
use Rattle.model.specs.Run.{row_at, row_of, fresh, is_move, after, step_at, reach, Progress, Progress.going, shape, rest_of, start_of, records, run_of}
use Rattle.model.specs.Counts.{how_many, move_of, wrote_late}
use Rattle.model.specs.Claims.{Counted}
use Rattle.model.proofs.RunLaws.{run_going}
use Rattle.model.proofs.Turns.{row_gone, turn}
use Rattle.model.proofs.Keeping.{Kept, Admitted, fresh_rows, each_kept}
use Rattle.model.proofs.SetupSays.{run_said, setup_sound, setup_starts}

-- A COLUMN of the rows that begins at 0, keeps through a crash, and grows by one at each move that passes the test
pub record Column (u : Shape) (f : Row → ℕ) (test : Progress → Step → Bool) : Type 0 where
  pub begins : (p : Place) (c : SlotNumber) (v : ℕ) → f (unmoved p c v) ≡ 0
  pub stops : (r : Row) → f (crash r) ≡ f r
  pub goes : (s : State) (k : Step) → f (row_gone u s k) ≡ f (row_of s k.process) + cond (test (going s) k) 1 0

-- a test that holds counts one
abbrev one : Bool → ℕ
one b = cond b 1 0

-- whose move a record is
module _ (k : Step) (named : 1 ≤ k.process.0) where
  others_move : (j : ℕ) → j ≢ index_of k.process → move_of (process_of (j + 1)) k ≡ false
  others_move j n = rw (ne_eqb k.process.0 (j + 1) (λ e. n (omega arith)))

  own_move : move_of (process_of (index_of k.process + 1)) k ≡ is_move k
  own_move = rw (eq-eqb k.process.0 (index_of k.process + 1) (omega arith))

uncounted : (a b : Bool) → b ≡ false → one (a && b) ≡ 0
uncounted true b e = rw e
uncounted false b e = refl

counted_once : (a b : Bool) → b ≡ true → one (a && b) ≡ one a
counted_once true b e = rw e
counted_once false b e = refl

one_small : (b : Bool) → one b ≤ 1
one_small true = omega arith
one_small false = omega arith

one_fewer : (a b : Bool) → one (a && b) ≤ one b
one_fewer true b = omega arith
one_fewer false b = omega arith

module _ (u : Shape) (f : Row → ℕ) (test : Progress → Step → Bool) (c : Column u f test) where
  begins_at : (κ : Routine) (j x : ℕ) → f (begin κ j x) ≡ 0
  begins_at (Routine.Lock how) j x = c.begins _ _ _
  begins_at Routine.Plain j x = c.begins _ _ _
  begins_at Routine.Fast j x = c.begins _ _ _

  module _ (so : Sound u) (xs : List ℕ) (st : Starts u xs) (rest : List ℕ) where
    -- the moves of row j among the first k records that pass the test where the records before them led
    abbrev pub tally_of : ℕ → ℕ → ℕ
    tally_of j k = how_many (λ i. test (reach u (fresh u xs) rest i) (step_at rest i) && move_of (process_of (j + 1)) (step_at rest i)) k

    one_more : (k : ℕ) (s : State) → reach u (fresh u xs) rest k ≡ going s → Kept u s → Admitted u s (step_at rest k)
        → ((j : ℕ) → f (row_at s j) ≡ tally_of j k) → (j : ℕ) → f (row_at (after u s (step_at rest k)) j) ≡ tally_of j (suc k)
    unfolding how_many
    one_more k s e kt ad so_far =
        let here = step_at rest k in
        let i = index_of here.process in
        turn u s here (omega (arith, kt.rows, ad.among)) (λ j r. f r ≡ tally_of j (suc k))
        (λ j n. omega (arith, so_far j, uncounted (test (reach u (fresh u xs) rest k) here) _ (others_move here ad.process j n)))
        (λ b. omega (arith, so_far i, c.stops (row_at s i), uncounted (test (reach u (fresh u xs) rest k) here) _ (own_move here ad.process ∙ b)))
        (λ b.
        omega (
          arith,
          so_far i,
          c.goes s here,
          counted_once (test (reach u (fresh u xs) rest k) here) _ (own_move here ad.process ∙ b),
          ap (λ (p : Progress). one (test p here)) e,
        ))

    pub tally : (k : ℕ) {s : State} → reach u (fresh u xs) rest k ≡ going s → (j : ℕ) → f (row_at s j) ≡ tally_of j k
    unfolding how_many
    tally k e =
        (each_kept u so xs st rest (λ k s. (j : ℕ) → f (row_at s j) ≡ tally_of j k)
        (fresh_rows u so xs st (λ j r. f r ≡ 0) (λ j h. c.begins _ _ _) (λ j h ok. begins_at (routine u) j _)) one_more k e).1

-- no more than there are records, and fewer by a further test
how_many_within : (test : ℕ → Bool) (k : ℕ) → how_many test k ≤ k
unfolding how_many
how_many_within test zero = omega arith
how_many_within test (suc k) = omega (arith, how_many_within test k, one_small (test k))

how_many_fewer : (further test : ℕ → Bool) (k : ℕ) → how_many (λ i. further i && test i) k ≤ how_many test k
unfolding how_many
how_many_fewer further test zero = omega arith
how_many_fewer further test (suc k) = omega (arith, how_many_fewer further test k, one_fewer (further k) (test k))

-- THE TWO COLUMNS
moves_column : (u : Shape) → Column u (λ r. r.moves) (λ p k. true)
moves_column u = record { begins = λ p c v. refl; stops = λ r. refl; goes = λ s k. refl }

lates_column : (u : Shape) → Column u (λ r. r.lates) (wrote_late u)
lates_column u = record { begins = λ p c v. refl; stops = λ r. refl; goes = λ s k. refl }

-- after each accepted record
pub reach_counts : (u : Shape) → Sound u → (xs : List ℕ) → Starts u xs → (rest : List ℕ) (k : ℕ) {s : State} → reach u (fresh u xs) rest k ≡ going s
    → (j : ℕ) → Counted u (fresh u xs) rest k j (row_at s j)
reach_counts u so xs st rest k e j =
    let moves = tally u (λ r. r.moves) (λ p k. true) (moves_column u) so xs st rest k e j in
    let lates = tally u (λ r. r.lates) (wrote_late u) (lates_column u) so xs st rest k e j in
    let mine : ℕ → Bool = λ i. move_of (process_of (j + 1)) (step_at rest i) in
    record {
      moves = moves;
      lates = lates;
      fewer = omega (arith, moves, lates, how_many_fewer (λ i. wrote_late u (reach u (fresh u xs) rest i) (step_at rest i)) mine k);
      within = omega (arith, moves, how_many_within mine k);
    }

-- after an accepted run
pub run_counts : (most : ℕ) (trace : List ℕ) (room : ℕ) {s : State} → Bytes trace → run_of most trace room ≡ going s
    → (j : ℕ) → Counted (shape trace) (start_of most trace) (rest_of trace) (records (rest_of trace)) j (row_at s j)
run_counts most trace room bytes e =
    let both = run_going _ _ _ _ e in
    let setup = (run_said most trace room both.0).setup in
    reach_counts _ (setup_sound most trace setup bytes) _ (setup_starts most trace setup) (rest_of trace) _ both.1
