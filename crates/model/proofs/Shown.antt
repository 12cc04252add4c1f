-- Reading a report: a number is shown of one place, an accepted run is one that went on to its end, and the four numbers of row j stand from
-- 4 × j on.
-- Assumes nothing.
use Prim.Native.Nat.{ℕ, zero, suc, ◌+◌, ◌*◌, ◌<◌}
use mathlib.Core.Path.{◌≡◌, refl, sym, ap, ap₂, ◌∙◌}
use mathlib.Core.Logic.{◌≢◌}
use mathlib.Core.Bool.{Bool, true, false, cond}
use mathlib.Core.List.{List, ◌++◌}
use native.Mathlib.Omega.{arith}
use native.Mathlib.Decide.{dec_lt}
use lib.Dec.{T, eqb}
use lib.ListN.{length, get_or, drop, get_or-append}
use lib.Seq.{get_or-append-add}
use Rattle.terms.specs.Refusal.{if_accepted}
use Rattle.records.specs.Record.{byte}
use Rattle.model.specs.declared.Place.{Place}
use Rattle.model.specs.declared.Row.{Row}
use Rattle.model.specs.declared.State.{State}
use Rattle.model.specs.Places.{code_of, place_of}
use Rattle.model.specs.Routine.{Routine, routine}
use Rattle.model.specs.Sizes.{line_width}
use Rattle.model.specs.Run.{blank, row_at, Tape, advance, follow, run_on, rest_of, records, shape, run_of, Progress, Progress.going, Progress.stopped}
use Rattle.model.specs.Claims.{shown}
use Rattle.model.specs.Report.{shown_of, shown_place, figure_of, line, lines, report_of, outcome_of, ran_of, Outcome}
use Rattle.model.proofs.Places.{place_of_code, one_place, imply, concluded, inside}
use Rattle.model.proofs.ReportLaws.{length-lines}
use Rattle.model.proofs.RunLaws.{going-stopped}

-- A PLACE HAS A NUMBER

-- the number that is shown of a place (`u32::from`) is its code
pub shown_is_code : (p : Place) → shown_of p ≡ code_of p
shown_is_code Place.Rest = refl
shown_is_code Place.Look = refl
shown_is_code Place.Put = refl
shown_is_code Place.Wait = refl
shown_is_code Place.Check = refl
shown_is_code Place.Critical = refl
shown_is_code Place.Flag = refl
shown_is_code Place.Scan = refl
shown_is_code Place.Decided = refl

-- so it is that of one place
pub place_of_shown : (p : Place) → place_of (shown_of p) ≡ p
place_of_shown p = ap place_of (shown_is_code p) ∙ place_of_code p

pub one_shown : (p q : Place) → shown_of p ≡ shown_of q → p ≡ q
one_shown p q e = one_place p q (sym (shown_is_code p) ∙ e ∙ shown_is_code q)

-- A REFUSAL HAS A NUMBER

stopped_number : {x y j i : ℕ} → stopped x j ≡ stopped y i → x ≡ y
stopped_number e = cc

pub stopped_at : {x y j i : ℕ} → stopped x j ≡ stopped y i → j ≡ i
stopped_at e = cc

if_stopped : (n k : ℕ) (s : State) {y j : ℕ} → if_accepted n (going s) (stopped n k) ≡ stopped y j → y ≢ 0
if_stopped zero k s e z = going-stopped e
if_stopped (suc n) k s e z = let q = stopped_number e in omega arith

pub follow_number : (tape : Tape) (x : State) (k : ℕ) {y j : ℕ} → follow tape x k ≡ stopped y j → y ≢ 0
unfolding follow advance
follow_number tape x zero e = absurd (going-stopped e)
follow_number tape x (suc k) {y} {j} e = by (follow tape x k) refl e (λ f. follow_number tape x k f)
  where
    by : (p : Progress) → follow tape x k ≡ p → advance tape k p ≡ stopped y j → (follow tape x k ≡ stopped y j → y ≢ 0) → y ≢ 0
    by (going s) f g before = if_stopped (tape.refusal k s) (suc k) (tape.after k s) g
    by (stopped z i) f g before = before (f ∙ g)

-- and stands at a record whose predecessors were accepted, and is what the tape says there
if_stopped_at : (n k : ℕ) (s : State) {y j : ℕ} → if_accepted n (going s) (stopped n k) ≡ stopped y j → (j ≡ k) × (n ≡ y)
if_stopped_at zero k s e = absurd (going-stopped e)
if_stopped_at (suc n) k s e = (sym (stopped_at e), stopped_number e)

-- where the record after the first k is refused with y
pub record Refused (tape : Tape) (x : State) (n y j : ℕ) : Type 0 where
  pub k : ℕ
  pub state : State
  pub index : j ≡ suc k
  pub led : follow tape x k ≡ going state
  pub refusal : tape.refusal k state ≡ y
  pub among : k < n

pub stopped_after : (tape : Tape) (x : State) (n : ℕ) {y j : ℕ} → follow tape x n ≡ stopped y j → Refused tape x n y j
unfolding follow advance
stopped_after tape x zero e = absurd (going-stopped e)
stopped_after tape x (suc n) {y} {j} e = by (follow tape x n) refl e (λ f. stopped_after tape x n f)
  where
    by : (p : Progress) → follow tape x n ≡ p → advance tape n p ≡ stopped y j → (follow tape x n ≡ stopped y j → Refused tape x n y j)
        → Refused tape x (suc n) y j
    by (going s) f g before =
        let a = if_stopped_at (tape.refusal n s) (suc n) (tape.after n s) g in
        record { k = n; state = s; index = a.0; led = f; refusal = a.1; among = omega arith }
    by (stopped z i) f g before =
        let b = before (f ∙ g) in
        record { k = b.k; state = b.state; index = b.index; led = b.led; refusal = b.refusal; among = omega (arith, b.among) }

-- of a run: before its first record, or there
pub run_number : (first : ℕ) (tape : Tape) (x : State) (n : ℕ) {y j : ℕ} → run_on first tape x n ≡ stopped y j → y ≢ 0
unfolding run_on
run_number zero tape x n e z = follow_number tape x n e z
run_number (suc first) tape x n e z = let q = stopped_number e in omega arith

pub run_stopped_after : (first : ℕ) (tape : Tape) (x : State) (n : ℕ) {y j : ℕ} → run_on first tape x n ≡ stopped y (suc j)
    → (first ≡ 0) × Refused tape x n y (suc j)
unfolding run_on
run_stopped_after zero tape x n e = (refl, stopped_after tape x n e)
run_stopped_after (suc first) tape x n e = absurd (omega (arith, stopped_at e))

-- so a run whose outcome is 0 went on to its end
pub accepted_goes : (most : ℕ) (trace old : List ℕ) → (ran_of most trace old).outcome.number ≡ 0 → (s : State) × (run_of most trace (length old) ≡ going s)
unfolding ran_of outcome_of
accepted_goes most trace old e = by (run_of most trace (length old)) refl e
  where
    by : (p : Progress) → run_of most trace (length old) ≡ p → (outcome_of (records (rest_of trace)) p).number ≡ 0
        → (s : State) × (run_of most trace (length old) ≡ going s)
    by (going s) f z = (s, f)
    by (stopped x j) f z = absurd (run_number _ _ _ _ f z)

-- and one whose outcome is a refusal was refused so
pub refused_stops : (most : ℕ) (trace old : List ℕ) {x j : ℕ} → (ran_of most trace old).outcome ≡ record { number = suc x; at = j }
    → run_of most trace (length old) ≡ stopped (suc x) j
unfolding ran_of outcome_of
refused_stops most trace old {x} {j} e = by (run_of most trace (length old)) refl e
  where
    by : (p : Progress) → run_of most trace (length old) ≡ p → outcome_of (records (rest_of trace)) p ≡ record { number = suc x; at = j }
        → run_of most trace (length old) ≡ stopped (suc x) j
    by (going s) f z = absurd (omega (arith, ap (λ (o : Outcome). o.number) z))
    by (stopped y i) f z = f ∙ ap₂ stopped (ap (λ (o : Outcome). o.number) z) (ap (λ (o : Outcome). o.at) z)

-- THE NUMBERS OF A ROW

pub lines_at : (κ : Routine) (rows : List Row) (n j m : ℕ) → j < n → m < line_width
    → get_or (lines κ rows n) (line_width * j + m) 0 ≡ get_or (line κ (get_or rows j blank)) m 0
unfolding lines
lines_at κ rows zero j m h l = absurd (omega arith)
lines_at κ rows (suc n) j m h l = by (dec_lt j n) (λ g. lines_at κ rows n j m g l)
  where
    by : Dec (j < n) → (j < n → get_or (lines κ rows n) (line_width * j + m) 0 ≡ get_or (line κ (get_or rows j blank)) m 0)
        → get_or (lines κ rows n ++ line κ (get_or rows n blank)) (line_width * j + m) 0 ≡ get_or (line κ (get_or rows j blank)) m 0
    by (yes g) before =
        get_or-append (lines κ rows n) (line κ (get_or rows n blank)) 0 (line_width * j + m) (omega (arith, length-lines κ rows n))
        ∙ before g
    by (no g) before =
        let same : j ≡ n = omega arith in
        let end : line_width * n ≡ length (lines κ rows n) = omega (arith, length-lines κ rows n) in
        rw (same, end) (get_or-append-add (lines κ rows n) (line κ (get_or rows n blank)) m 0)

shown_at : (most : ℕ) (trace old : List ℕ) {s : State} → run_of most trace (length old) ≡ going s → (j m : ℕ) → j < byte 3 trace → m < line_width
    → shown most trace old j m ≡ get_or (line (routine (shape trace)) (row_at s j)) m 0
unfolding ran_of report_of
shown_at most trace old {s} e j m h l =
    let κ : Routine = routine (shape trace) in
    rw e
    (get_or-append (lines κ s.rows (byte 3 trace)) (drop (length (lines κ s.rows (byte 3 trace))) old) 0 (line_width * j + m)
    (omega (arith, length-lines κ s.rows (byte 3 trace)))
    ∙ lines_at κ s.rows (byte 3 trace) j m h l)

-- what the line of row j shows
pub record Shows (most : ℕ) (trace old : List ℕ) (j : ℕ) (r : Row) : Type 0 where
  pub place : shown most trace old j 0 ≡ shown_place r
  pub figure : shown most trace old j 1 ≡ figure_of (routine (shape trace)) r
  pub moves : shown most trace old j 2 ≡ r.moves
  pub lates : shown most trace old j 3 ≡ r.lates

pub shows : (most : ℕ) (trace old : List ℕ) {s : State} → run_of most trace (length old) ≡ going s → (j : ℕ) → j < byte 3 trace
    → Shows most trace old j (row_at s j)
unfolding line
shows most trace old e j h =
    record {
      place = shown_at most trace old e j 0 h (omega arith);
      figure = shown_at most trace old e j 1 h (omega arith);
      moves = shown_at most trace old e j 2 h (omega arith);
      lates = shown_at most trace old e j 3 h (omega arith);
    }

-- a row that shows 5 is inside and one that shows 8 has decided, and neither has crashed
live : (P : Place → Bool) (n : ℕ) → n ≢ 9 → ((p : Place) → shown_of p ≡ n → T (P p)) → (r : Row) → shown_place r ≡ n → T (P r.local.place)
live P n q f r e = by r.crashed e
  where
    by : (b : Bool) → cond b 9 (shown_of r.local.place) ≡ n → T (P r.local.place)
    by true g = absurd (q (sym g))
    by false g = f r.local.place g

pub shows_inside : (r : Row) → shown_place r ≡ 5 → T (inside r.local.place)
shows_inside = live inside 5 (λ e. omega arith) (λ p e. imply (λ q. eqb (shown_of q) 5) inside tt p (rw e tt))

pub shows_decided : (r : Row) → shown_place r ≡ 8 → T (concluded r.local.place)
shows_decided = live concluded 8 (λ e. omega arith) (λ p e. imply (λ q. eqb (shown_of q) 8) concluded tt p (rw e tt))

-- a row that has decided shows 8, or 9 where it crashed
pub decided_shows : (r : Row) → r.local.place ≡ Place.Decided → shown_place r ≢ 9 → shown_place r ≡ 8
decided_shows r e n = by r.crashed n
  where
    by : (b : Bool) → cond b 9 (shown_of r.local.place) ≢ 9 → cond b 9 (shown_of r.local.place) ≡ 8
    by true q = absurd (q refl)
    by false q = rw e

-- and one that shows neither has not decided
pub neither_shows : (r : Row) → shown_place r ≢ 8 → shown_place r ≢ 9 → r.local.place ≢ Place.Decided
neither_shows r n m e = by r.crashed n m
  where
    by : (b : Bool) → cond b 9 (shown_of r.local.place) ≢ 8 → cond b 9 (shown_of r.local.place) ≢ 9 → ⊥
    by true n m = m refl
    by false n m = n (ap shown_of e)
