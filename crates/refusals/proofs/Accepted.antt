-- A call is accepted (its refusal is 0) just where its numbers are good.
-- Assumes nothing.
use Prim.Native.Nat.{ℕ, ◌≤◌}
use mathlib.Core.Path.{◌≡◌, refl}
use mathlib.Core.Bool.{Bool, true, false, not, ◌||◌, ◌&&◌, true≢false}
use native.Mathlib.Omega.{arith}
use lib.Dec.{eqb, leb, ltb}
use borrow.Author.Tests.{le-ltb, lt-leb, ltb-true, ltb-false, leb-false, eqb-true, eqb-false}
use Rattle.terms.specs.declared.ProcessNumber.{ProcessNumber}
use Rattle.terms.specs.declared.SlotNumber.{SlotNumber}
use Rattle.terms.specs.Limits.{most_processes, most_slots, top_tick, top_wait, unlimited}
use Rattle.terms.specs.Ranges.{IsPair, IsTick, IsWait}
use Rattle.terms.specs.Refusal.{refuse, ◌then◌, outside}
use Rattle.terms.proofs.RefusalLaws.{passed, refuse-false, both_false, inside, not_outside}
use Rattle.refusals.specs.Refusals.{call_refusal, read_refusal}

pub short_is_a_wait : (d : ℕ) → d ≤ top_wait → IsWait d
short_is_a_wait d h = omega arith

pub unlimited_is_a_wait : IsWait unlimited
unlimited_is_a_wait = omega arith

module _ (last : ℕ) (i : ProcessNumber) (c : SlotNumber) (t : ℕ) where
  pub accepted_good : call_refusal last i c t ≡ 0 → IsPair i c × (IsTick t × (last ≤ t))
  unfolding call_refusal
  accepted_good h =
      let third = passed 12 (refuse 11 (outside 1 most_processes i.0) then refuse 17 (leb most_slots c.0)) (ltb top_tick t || ltb t last) h in
      let second = passed 16 (refuse 11 (outside 1 most_processes i.0)) (leb most_slots c.0) third.0 in
      let process = not_outside 1 most_processes i.0 (refuse-false 10 (outside 1 most_processes i.0) second.0) in
      let tick = both_false (ltb top_tick t) (ltb t last) third.1 in (
        record { least = process.0; most = process.1; slot = leb-false most_slots c.0 second.1 },
        (record { top = ltb-false top_tick t tick.0 }, ltb-false t last tick.1),
      )

  pub good_accepted : IsPair i c → IsTick t → last ≤ t → call_refusal last i c t ≡ 0
  unfolding call_refusal
  good_accepted p k o =
      rw (inside 1 most_processes i.0 p.least p.most, lt-leb most_slots c.0 p.slot, le-ltb top_tick t k.top, le-ltb t last o)

  -- d's part of a read's table
  wait_good : (d : ℕ) → (ltb top_wait d && not (eqb d unlimited)) ≡ false → IsWait d
  wait_good d = go (ltb top_wait d) (eqb d unlimited) refl refl
    where
      go : (a b : Bool) → ltb top_wait d ≡ a → eqb d unlimited ≡ b → (a && not b) ≡ false → IsWait d
      go false b p q h = record { limited = λ o. ltb-false top_wait d p }
      go true true p q h = record { limited = λ o. absurd (o (eqb-true d unlimited q)) }
      go true false p q h = absurd (true≢false h)

  good_wait : (d : ℕ) → IsWait d → (ltb top_wait d && not (eqb d unlimited)) ≡ false
  good_wait d w = go (ltb top_wait d) (eqb d unlimited) refl refl
    where
      go : (a b : Bool) → ltb top_wait d ≡ a → eqb d unlimited ≡ b → (a && not b) ≡ false
      go false b p q = refl
      go true true p q = refl
      go true false p q =
          let short : d ≤ top_wait = w.limited (eqb-false d unlimited q) in
          absurd (omega (arith, ltb-true top_wait d p))

  pub read_accepted_good : (d : ℕ) → read_refusal last i c t d ≡ 0 → (call_refusal last i c t ≡ 0) × IsWait d
  unfolding read_refusal
  read_accepted_good d h =
      let last_line = passed 17 (call_refusal last i c t) (ltb top_wait d && not (eqb d unlimited)) h in
      (last_line.0, wait_good d last_line.1)

  pub good_read_accepted : (d : ℕ) → call_refusal last i c t ≡ 0 → IsWait d → read_refusal last i c t d ≡ 0
  unfolding read_refusal
  good_read_accepted d h w = rw (h, good_wait d w)
