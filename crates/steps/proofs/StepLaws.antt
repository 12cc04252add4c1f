-- What an accepted step says, and that what says it is accepted: no caller looks into the table.
-- Assumes nothing.
use mathlib.Core.Path.{◌≡◌}
use mathlib.Core.List.{List}
use Prim.Native.Nat.{ℕ, ◌≤◌, ◌<◌}
use native.Mathlib.Omega.{arith}
use borrow.Author.Tests.{ltb-false, le-ltb, eq-eqb, not-false}
use lib.ListN.{length}
use lib.Dec.{ltb}
use Rattle.std.specs.Prelude.{Ok, Err}
use Rattle.terms.specs.Limits.{top_tick}
use Rattle.terms.specs.Little.{AllBytes}
use Rattle.terms.proofs.RefusalLaws.{if_refused, then_both, passed, refuse-false, not_outside, inside, accepted_says, refused_says}
use Rattle.records.specs.Record.{byte}
use Rattle.steps.specs.Step.{step_mark, step_limits, step_fields, step_refusal, step_read, step_write_refusal}
use Rattle.records.proofs.RecordLaws.{marked_said, byte_small}
use Rattle.steps.specs.declared.Step.{Step}

-- LIMITS

pub record InLimits (most : ℕ) (k : Step) : Type 0 where
  pub process_low : 1 ≤ k.process.0
  pub process_high : k.process.0 ≤ most
  pub event_high : k.event ≤ 1
  pub tick_high : k.tick ≤ top_tick

pub step_limits_said : (most : ℕ) (k : Step) → step_limits most k ≡ 0 → InLimits most k
step_limits_said most k h =
    let p = passed 12 _ _ h in
    let q = passed 11 _ _ p.0 in
    let i = not_outside 1 most k.process.0 (refuse-false 10 _ q.0) in
    record {
      process_low = i.0;
      process_high = i.1;
      event_high = ltb-false 1 k.event q.1;
      tick_high = ltb-false top_tick k.tick p.1;
    }

pub said_step_limits : (most : ℕ) (k : Step) → InLimits most k → step_limits most k ≡ 0
said_step_limits most k h =
    simp (inside 1 most k.process.0 h.process_low h.process_high, le-ltb _ _ h.event_high, le-ltb _ _ h.tick_high)

-- READING

pub record AcceptedStep (most : ℕ) (s : List ℕ) : Type 0 where
  pub eight : 8 ≤ length s
  pub mark0 : byte 0 s ≡ 0x4F
  pub mark1 : byte 1 s ≡ 0x54
  pub limits : InLimits most (step_fields s)

module _ (most : ℕ) (s : List ℕ) where
  pub step_said : step_refusal most s ≡ 0 → AcceptedStep most s
  unfolding step_refusal
  step_said h =
      let l = then_both _ _ h in
      let m = passed 9 _ _ l.0 in
      let marks = marked_said step_mark s (not-false _ m.1) in
      record {
        eight = ltb-false _ _ (refuse-false 8 _ m.0);
        mark0 = marks.0;
        mark1 = marks.1;
        limits = step_limits_said most (step_fields s) l.1;
      }

  pub said_step : AcceptedStep most s → step_refusal most s ≡ 0
  unfolding step_refusal
  said_step h =
      simp (le-ltb _ _ h.eight, eq-eqb _ _ h.mark0, eq-eqb _ _ h.mark1, said_step_limits most (step_fields s) h.limits)

  -- past the mark the table is that of the limits
  pub past_the_mark : 8 ≤ length s → byte 0 s ≡ 0x4F → byte 1 s ≡ 0x54 → step_refusal most s ≡ step_limits most (step_fields s)
  unfolding step_refusal
  past_the_mark eight m n = simp (le-ltb _ _ eight, eq-eqb _ _ m, eq-eqb _ _ n)

  -- what is read, by the refusal
  pub step_refused : (step_refusal most s ≡ 0 → ⊥) → step_read most s ≡ Err (step_refusal most s)
  unfolding step_read
  step_refused h = if_refused _ h _ _

  pub step_accepted : step_refusal most s ≡ 0 → step_read most s ≡ Ok (step_fields s)
  unfolding step_read
  step_accepted e = simp e

  -- and what is said by a step that was read, or a refusal
  pub step_was_read : {k : Step} → Ok k ≡ step_read most s → (step_refusal most s ≡ 0) × (k ≡ step_fields s)
  unfolding step_read
  step_was_read e = accepted_says (step_refusal most s) (step_fields s) e

  pub step_was_refused : {x : ℕ} → Err x ≡ step_read most s → (step_refusal most s ≡ x) × (x ≡ 0 → ⊥)
  unfolding step_read
  step_was_refused e = refused_says (step_refusal most s) (step_fields s) e

-- a tick of four bytes is a 32-bit number
pub tick_small : (s : List ℕ) → AllBytes s → (step_fields s).tick < 4_294_967_296
tick_small s h = omega (arith, byte_small s h 4, byte_small s h 5, byte_small s h 6, byte_small s h 7)

-- WRITING

pub record WritableStep (most : ℕ) (k : Step) (room : ℕ) : Type 0 where
  pub limits : InLimits most k
  pub fits : 8 ≤ room

module _ (most : ℕ) (k : Step) (room : ℕ) where
  pub step_write_said : step_write_refusal most k room ≡ 0 → WritableStep most k room
  unfolding step_write_refusal
  step_write_said h =
      let p = passed 18 _ (ltb room 8) h in
      record { limits = step_limits_said most k p.0; fits = ltb-false _ _ p.1 }

  pub said_step_write : WritableStep most k room → step_write_refusal most k room ≡ 0
  unfolding step_write_refusal
  said_step_write h = simp (said_step_limits most k h.limits, le-ltb _ _ h.fits)
