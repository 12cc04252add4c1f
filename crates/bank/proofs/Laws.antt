-- The laws of one call, for every process and register at once: what a read and a write change, and what they leave.
-- Assumes nothing.
use Prim.Native.Nat.{ℕ, zero, suc, ◌<◌, ◌≤◌}
use mathlib.Core.Path.{◌≡◌, refl, sym, subst, ◌∙◌}
use mathlib.Core.Bool.{Bool, true, false, cond}
use mathlib.Core.List.{List}
use native.Mathlib.Omega.{arith}
use lib.Dec.{ltb}
use lib.ListN.{length, get_or, set, length-set}
use lib.Seq.{get_or-set_same, get_or-set_other}
use borrow.Author.Tests.{lt-ltb, le-ltb}
use Rattle.terms.specs.declared.ProcessNumber.{ProcessNumber}
use Rattle.terms.specs.declared.SlotNumber.{SlotNumber}
use Rattle.terms.specs.Limits.{unlimited}
use Rattle.terms.specs.Ranges.{IsPair}
use Rattle.std.specs.Prelude.{Ok, Err}
use Rattle.refusals.specs.Refusals.{call_refusal, read_refusal}
use Rattle.refusals.proofs.Accepted.{accepted_good, read_accepted_good}
use Rattle.registers.specs.Sizes.{register_count}
use Rattle.registers.specs.Deadlines.{pair_of, due, write_granted}
use Rattle.registers.proofs.Pairs.{pair_below, pair_same}
use Rattle.bank.specs.declared.Bank.{Bank}
use Rattle.bank.specs.Registers.{bank_of, value_at, deadline_at, late_at, after_read, after_write}
use Rattle.bank.specs.Calls.{read_of, done_or_late, write_of}
use Rattle.bank.specs.History.{Call, caller, register, tick_of, leaves, refusal_at, after, Elsewhere, NotWrite, Sized}
use Rattle.bank.proofs.Outcomes.{read_refused, read_given, write_refused, write_given}

-- The values that an accepted call leaves.
abbrev pub values_after : Bank → Call → List ℕ
values_after b (Call.reading i c t d) = b.values
values_after b (Call.writing i c t v) = (write_granted b.values b.deadlines i c t v).values

pub accepted_call_has_a_pair : (last : ℕ) (k : Call) → refusal_at last k ≡ 0 → IsPair (caller k) (register k)
accepted_call_has_a_pair last (Call.reading i c t d) h = (accepted_good last i c t (read_accepted_good last i c t d h).0).0
accepted_call_has_a_pair last (Call.writing i c t v) h = (accepted_good last i c t h).0

pub refused_call_changes_nothing : (b : Bank) (k : Call) → (refusal_at b.last k ≡ 0 → ⊥) → after b k ≡ b
refused_call_changes_nothing b (Call.reading i c t d) h =
    λ x. (sym (read_refused b.values b.deadlines b.last i c t d h) x).bank
refused_call_changes_nothing b (Call.writing i c t v) h = λ x. (sym (write_refused b i c t v h) x).bank

-- the result of an accepted read, and of an accepted write
module _ (b : Bank) (i : ProcessNumber) (c : SlotNumber) (t : ℕ) where
  read_result : (d : ℕ) → read_refusal b.last i c t d ≡ 0
      → read_of b i c t d ≡ record { bank = after_read b i c t d; answer = Ok (value_at b c) }
  unfolding after_read
  read_result d h = sym (read_given b.values b.deadlines b.last i c t d (sym h) _ _ _ refl)

  write_result : (v : ℕ) → call_refusal b.last i c t ≡ 0
      → write_of b i c t v ≡ record { bank = after_write b i c t v; answer = Ok (done_or_late (late_at b i c t)) }
  unfolding after_write
  write_result v h = sym (write_given b i c t v (sym h) _ _ _ _ refl)

pub accepted_call_result : (b : Bank) (k : Call) → refusal_at b.last k ≡ 0
    → after b k ≡ bank_of (values_after b k) (set b.deadlines (pair_of (caller k) (register k)) (leaves k)) (tick_of k)
unfolding after_read after_write
accepted_call_result b (Call.reading i c t d) h = λ x. (read_result b i c t d h x).bank
accepted_call_result b (Call.writing i c t v) h = λ x. (write_result b i c t v h x).bank

-- what holds of a bank as it was, and of what an accepted call leaves, holds after any call
pub after_either : (b : Bank) (k : Call) (P : Bank → Type 0) → P b
    → (refusal_at b.last k ≡ 0 → P (bank_of (values_after b k) (set b.deadlines (pair_of (caller k) (register k)) (leaves k)) (tick_of k)))
    → P (after b k)
after_either b k P stays goes = split (refusal_at b.last k) refl
  where
    split : (r : ℕ) → refusal_at b.last k ≡ r → P (after b k)
    split zero e = subst P (sym (accepted_call_result b k e)) (goes e)
    split (suc r) e = subst P (sym (refused_call_changes_nothing b k (λ z. omega arith))) stays

module _ (b : Bank) (k : Call) where
  pub call_keeps_sizes : Sized b → Sized (after b k)
  call_keeps_sizes s =
      after_either b k Sized s (λ e. record { values = kept k; deadlines = length-set b.deadlines _ _ ∙ s.deadlines })
    where
      either_length : (late : Bool) (c v : ℕ) → length (cond late b.values (set b.values c v)) ≡ register_count
      either_length true c v = s.values
      either_length false c v = length-set b.values c v ∙ s.values

      kept : (k : Call) → length (values_after b k) ≡ register_count
      kept (Call.reading i c t d) = s.values
      kept (Call.writing i c t v) = either_length (late_at b i c t) c.0 v

  pub accepted_call_sets_last_tick : refusal_at b.last k ≡ 0 → (after b k).last ≡ tick_of k
  accepted_call_sets_last_tick h = λ x. (accepted_call_result b k h x).last

  -- an accepted read binds its pair, and an accepted write, late or not, frees it
  pub accepted_call_leaves_its_deadline : Sized b → refusal_at b.last k ≡ 0 → deadline_at (after b k) (caller k) (register k) ≡ leaves k
  accepted_call_leaves_its_deadline s h =
      rw (accepted_call_result b k h)
      (get_or-set_same b.deadlines (pair_of (caller k) (register k)) (leaves k) 0 (rw s.deadlines (pair_below (accepted_call_has_a_pair b.last k h))))

  pub call_keeps_other_deadlines : {i : ProcessNumber} {c : SlotNumber} → IsPair i c → Elsewhere i c k → deadline_at (after b k) i c ≡ deadline_at b i c
  call_keeps_other_deadlines {i} {c} p o =
      after_either b k (λ (b' : Bank). deadline_at b' i c ≡ deadline_at b i c) refl
      (λ h. get_or-set_other b.deadlines (pair_of (caller k) (register k)) (pair_of i c) (leaves k) 0
      (λ e. o (pair_same (accepted_call_has_a_pair b.last k h) p (sym e))))

pub call_keeps_value_unless_written : (b : Bank) (k : Call) (c : SlotNumber) → NotWrite c k → value_at (after b k) c ≡ value_at b c
call_keeps_value_unless_written b k c o = after_either b k (λ (b' : Bank). value_at b' c ≡ value_at b c) refl (λ h. kept k o)
  where
    either_value : (late : Bool) (c' v : ℕ) → (c.0 ≡ c' → ⊥) → get_or (cond late b.values (set b.values c' v)) c.0 0 ≡ value_at b c
    either_value true c' v n = refl
    either_value false c' v n = get_or-set_other b.values c' c.0 v 0 n

    kept : (k : Call) → NotWrite c k → get_or (values_after b k) c.0 0 ≡ value_at b c
    kept (Call.reading i c' t d) n = refl
    kept (Call.writing i c' t v) n = either_value (late_at b i c' t) c'.0 v (λ e. n (λ x. record { 0 = sym e x }))

module _ (b : Bank) (i : ProcessNumber) (c : SlotNumber) (t : ℕ) where
  pub read_keeps_values : (d : ℕ) → (read_of b i c t d).bank.values ≡ b.values
  read_keeps_values d = after_either b (Call.reading i c t d) (λ (b' : Bank). b'.values ≡ b.values) refl (λ h. refl)

  pub accepted_read_gives_the_value : (d : ℕ) → read_refusal b.last i c t d ≡ 0 → (read_of b i c t d).answer ≡ Ok (value_at b c)
  accepted_read_gives_the_value d h = λ x. (read_result b i c t d h x).answer

  pub refused_read_gives_its_number : (d : ℕ) → (read_refusal b.last i c t d ≡ 0 → ⊥)
      → (read_of b i c t d).answer ≡ Err (read_refusal b.last i c t d)
  refused_read_gives_its_number d h = λ x. (sym (read_refused b.values b.deadlines b.last i c t d h) x).answer

  pub refused_write_gives_its_number : (v : ℕ) → (call_refusal b.last i c t ≡ 0 → ⊥)
      → (write_of b i c t v).answer ≡ Err (call_refusal b.last i c t)
  refused_write_gives_its_number v h = λ x. (sym (write_refused b i c t v h) x).answer

  pub latest_read_counts : (d t' d' : ℕ) → Sized b → read_refusal (read_of b i c t d).bank.last i c t' d' ≡ 0
      → deadline_at (read_of (read_of b i c t d).bank i c t' d').bank i c ≡ due t' d'
  latest_read_counts d t' d' s h =
      accepted_call_leaves_its_deadline (read_of b i c t d).bank (Call.reading i c t' d') (call_keeps_sizes b (Call.reading i c t d) s) h

  module _ (v : ℕ) (h : call_refusal b.last i c t ≡ 0) where
    pub accepted_write_answers_by_the_deadline : (write_of b i c t v).answer ≡ Ok (done_or_late (ltb (deadline_at b i c) t))
    accepted_write_answers_by_the_deadline = λ x. (write_result b i c t v h x).answer

    pub write_in_time_stores : Sized b → t ≤ deadline_at b i c → value_at (write_of b i c t v).bank c ≡ v
    unfolding after_write
    write_in_time_stores s l =
        let slot = (accepted_good b.last i c t h).0.slot in
        rw (write_result b i c t v h, le-ltb (deadline_at b i c) t l) (get_or-set_same b.values c.0 v 0 (rw s.values slot))

    pub late_write_keeps_values : deadline_at b i c < t → (write_of b i c t v).bank.values ≡ b.values
    unfolding after_write
    late_write_keeps_values l = rw (write_result b i c t v h, lt-ltb (deadline_at b i c) t l)

    pub late_write_frees_its_pair : Sized b → deadline_at b i c < t → deadline_at (write_of b i c t v).bank i c ≡ unlimited
    late_write_frees_its_pair s l = accepted_call_leaves_its_deadline b (Call.writing i c t v) s h
