-- What an accepted record says, and that what says it is accepted: nobody looks into the table of refusals again.
-- Assumes nothing.
use Prim.Native.Nat.{ℕ, ◌≤◌, ◌<◌}
use mathlib.Core.Path.{◌≡◌, refl}
use mathlib.Core.Bool.{Bool, true, false, ◌&&◌}
use mathlib.Core.List.{List}
use native.Mathlib.Omega.{arith}
use borrow.Author.Tests.{ltb-false, le-ltb}
use Rattle.terms.specs.Limits.{top_tick}
use Rattle.terms.specs.Numbers.{index_of}
use Rattle.terms.proofs.RefusalLaws.{then_both, passed, refuse-false}
use Rattle.steps.specs.declared.Step.{Step}
use Rattle.steps.specs.Step.{step_refusal, step_fields}
use Rattle.steps.proofs.StepLaws.{step_said}
use Rattle.model.specs.declared.Shape.{Shape}
use Rattle.model.specs.declared.State.{State}
use Rattle.model.specs.Time.{waiting}
use Rattle.model.specs.Routine.{is_decided}
use Rattle.model.specs.Run.{row_of, is_move, judge, record_refusal}

pub record Admitted (u : Shape) (s : State) (k : Step) : Type 0 where
  pub process : 1 ≤ k.process.0
  pub among : index_of k.process < u.count
  pub event : k.event ≤ 1
  pub top : k.tick ≤ top_tick
  pub later : s.newest ≤ k.tick
  pub alive : (row_of s k.process).crashed ≡ false
  pub undecided : is_move k ≡ true → is_decided (row_of s k.process).local.place ≡ false
  pub awake : is_move k ≡ true → (row_of s k.process).local.wake ≤ k.tick

and_false : (a b : Bool) → (a && b) ≡ false → a ≡ true → b ≡ false
and_false true b e h = e
and_false false b e h = cc

false_and : (a b : Bool) → (a ≡ true → b ≡ false) → (a && b) ≡ false
false_and true b h = h refl
false_and false b h = refl

module _ (u : Shape) (s : State) (bytes : List ℕ) where
  pub admitted : record_refusal u s bytes ≡ 0 → Admitted u s (step_fields bytes)
  unfolding record_refusal judge
  admitted h =
      let k = step_fields bytes in
      let r = row_of s k.process in
      let both = then_both _ _ h in
      let limits = (step_said u.count bytes both.0).limits in
      let p16 = passed 15 _ (is_move k && waiting r.local.wake k.tick) both.1 in
      let p15 = passed 14 _ (is_move k && is_decided r.local.place) p16.0 in
      let p14 = passed 13 _ r.crashed p15.0 in
      record {
        process = limits.process_low;
        among = omega (arith, limits.process_low, limits.process_high);
        event = limits.event_high;
        top = limits.tick_high;
        later = ltb-false _ _ (refuse-false 12 _ p14.0);
        alive = p14.1;
        undecided = and_false _ _ p15.1;
        awake = λ e. ltb-false _ _ (and_false _ _ p16.1 e);
      }

  pub admitted_accepts : step_refusal u.count bytes ≡ 0 → Admitted u s (step_fields bytes) → record_refusal u s bytes ≡ 0
  unfolding record_refusal judge
  admitted_accepts h ad =
      rw (
        h,
        le-ltb _ _ ad.later,
        ad.alive,
        false_and _ _ ad.undecided,
        false_and _ _ (λ e. le-ltb _ _ (ad.awake e)),
      )
