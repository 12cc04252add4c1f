-- Bytes that are cut short: a setup and the records before the cut are read and refused as they were.
-- Assumes nothing.
use Prim.Native.Nat.{ℕ, zero, suc, ◌+◌, ◌*◌, ◌-◌, ◌≤◌, ◌<◌, min}
use mathlib.Core.Path.{◌≡◌, refl, ap, ap₂, ◌∙◌}
use mathlib.Core.Bool.{Bool, true, false}
use mathlib.Core.List.{List, [], ◌∷◌}
use native.Mathlib.Omega.{arith}
use native.Mathlib.Nat.{zero-add, suc-add}
use lib.Dec.{ltb, lit<}
use lib.ListN.{length, take, drop, length-take}
use lib.Seq.{get_or-take, take-take, take-nil, drop-nil}
use borrow.Author.Tests.{lt-ltb, le-ltb, ltb-true, ltb-false}
use Rattle.terms.specs.Refusal.{◌then◌}
use Rattle.records.specs.Record.{byte}
use Rattle.setups.specs.Setup.{setup_refusal, start_bytes}
use Rattle.steps.specs.Step.{step_refusal, step_fields}
use Rattle.steps.specs.declared.Step.{Step}
use Rattle.model.specs.declared.Shape.{Shape}
use Rattle.model.specs.declared.State.{State}
use Rattle.model.specs.Run.{Progress, Progress.going, Progress.stopped, row_of, judge, record_refusal, record_at, advance, follow, step_tape, reach}
use Rattle.model.specs.Run.{shape, rest_of}

-- the part past i of what is cut at i + n
pub drop-take : (i n : ℕ) (s : List ℕ) → drop i (take (i + n) s) ≡ take n (drop i s)
drop-take zero n s = rw zero-add
drop-take (suc i) n [] = rw (take-nil, drop-nil, take-nil)
drop-take (suc i) n (x ∷ s) = rw suc-add (drop-take i n s)

-- a length below the cut is told as it was
same_test : (b : Bool) (m l n : ℕ) → n ≤ m → ltb l n ≡ b → ltb (min m l) n ≡ b
same_test true m l n h e = lt-ltb (min m l) n (omega (arith, ltb-true l n e))
same_test false m l n h e = le-ltb (min m l) n (omega (arith, ltb-false l n e))

pub short_cut : (m : ℕ) (s : List ℕ) (n : ℕ) → n ≤ m → ltb (length (take m s)) n ≡ ltb (length s) n
short_cut m s n h = rw length-take (same_test (ltb (length s) n) m (length s) n h refl)

-- A RECORD, cut at its end or later
module _ (m : ℕ) (s : List ℕ) (h : 8 ≤ m) where
  byte_cut : (i : ℕ) → i < 8 → byte i (take m s) ≡ byte i s
  byte_cut i l = get_or-take m s i 0 (omega arith)

  fields_cut : step_fields (take m s) ≡ step_fields s
  fields_cut = rw (byte_cut 2 (lit< tt), byte_cut 3 (lit< tt), byte_cut 4 (lit< tt), byte_cut 5 (lit< tt), byte_cut 6 (lit< tt), byte_cut 7 (lit< tt))

  step_cut : (most : ℕ) → step_refusal most (take m s) ≡ step_refusal most s
  unfolding step_refusal
  step_cut most =
      rw (
        short_cut m s 8 h,
        byte_cut 0 (lit< tt),
        byte_cut 1 (lit< tt),
        byte_cut 2 (lit< tt),
        byte_cut 3 (lit< tt),
        byte_cut 4 (lit< tt),
        byte_cut 5 (lit< tt),
        byte_cut 6 (lit< tt),
        byte_cut 7 (lit< tt),
      )

  record_cut : (u : Shape) (x : State) → record_refusal u x (take m s) ≡ record_refusal u x s
  unfolding record_refusal
  record_cut u x = ap₂ (λ (n : ℕ) (k : Step). n then judge u (row_of x k.process) x.newest k) (step_cut u.count) fields_cut

-- the first k records of bytes that are cut after them or later
pub reach_cut : (u : Shape) (x : State) (rest : List ℕ) (m k : ℕ) → k * 8 ≤ m → reach u x (take m rest) k ≡ reach u x rest k
unfolding follow advance
reach_cut u x rest m zero h = refl
reach_cut u x rest m (suc k) h = ap (advance (step_tape u (take m rest)) k) (reach_cut u x rest m k (omega arith)) ∙ here (reach u x rest k)
  where
    part : record_at (take m rest) k ≡ take (m - k * 8) (record_at rest k)
    part =
        let split : m ≡ k * 8 + (m - k * 8) = omega arith in
        ap (λ (n : ℕ). record_at (take n rest) k) split ∙ drop-take (k * 8) (m - k * 8) rest

    here : (p : Progress) → advance (step_tape u (take m rest)) k p ≡ advance (step_tape u rest) k p
    here (going y) =
        let eight : 8 ≤ m - k * 8 = omega arith in
        rw (part, record_cut (m - k * 8) (record_at rest k) eight u y, fields_cut (m - k * 8) (record_at rest k) eight)
    here (stopped y j) = refl

-- A SETUP, cut past its start bytes
module _ (trace : List ℕ) (m : ℕ) where
  abbrev front : List ℕ
  front = take (8 + byte 3 trace + m) trace

  at : (i : ℕ) → i < 8 → byte i front ≡ byte i trace
  at = byte_cut (8 + byte 3 trace + m) trace (omega arith)

  pub starts_cut : start_bytes front ≡ start_bytes trace
  starts_cut =
      let n = byte 3 trace in
      let split : 8 + n + m ≡ 8 + (n + m) = omega arith in
      rw (at 3 (lit< tt), split, drop-take 8 (n + m) trace, take-take n (n + m) (drop 8 trace) (omega arith))

  pub shape_cut : shape front ≡ shape trace
  shape_cut = rw (at 2 (lit< tt), at 3 (lit< tt), at 4 (lit< tt), at 6 (lit< tt), at 7 (lit< tt))

  pub setup_cut : (most : ℕ) → setup_refusal most front ≡ setup_refusal most trace
  unfolding setup_refusal
  setup_cut most =
      rw (
        starts_cut,
        at 0 (lit< tt),
        at 1 (lit< tt),
        at 2 (lit< tt),
        at 3 (lit< tt),
        at 4 (lit< tt),
        at 5 (lit< tt),
        short_cut (8 + byte 3 trace + m) trace 8 (omega arith),
        short_cut (8 + byte 3 trace + m) trace (8 + byte 3 trace) (omega arith),
      )

  pub rest_cut : rest_of front ≡ take m (rest_of trace)
  rest_cut = rw (at 3 (lit< tt)) (drop-take (8 + byte 3 trace) m trace)
