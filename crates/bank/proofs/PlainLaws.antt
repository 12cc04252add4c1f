-- With unlimited waits the bank is a plain memory, as document 003 remarks in its section 2.2: no write is late, and the values are
-- those of the latest accepted writes.
-- Assumes nothing.
use Prim.Native.Nat.{ℕ, zero, suc}
use mathlib.Core.Path.{◌≡◌, refl, ◌∙◌}
use mathlib.Core.List.{List, [], ◌∷◌}
use native.Mathlib.Omega.{arith}
use lib.ListN.{length-replicate, get_or-replicate}
use borrow.Author.Tests.{le-ltb}
use Rattle.terms.specs.declared.ProcessNumber.{ProcessNumber}
use Rattle.terms.specs.declared.SlotNumber.{SlotNumber}
use Rattle.terms.specs.Limits.{unlimited}
use Rattle.std.specs.Prelude.{Ok}
use Rattle.answers.specs.declared.Write.{Write}
use Rattle.refusals.specs.Refusals.{call_refusal}
use Rattle.refusals.proofs.Accepted.{accepted_good}
use Rattle.registers.specs.Sizes.{register_count, pair_count}
use Rattle.registers.specs.Deadlines.{pair_of}
use Rattle.registers.proofs.Pairs.{pair_below}
use Rattle.bank.specs.declared.Bank.{Bank}
use Rattle.bank.specs.Registers.{fresh_bank, value_at}
use Rattle.bank.specs.Calls.{write_of}
use Rattle.bank.specs.History.{Call, leaves, refusal_at, after, after_all, Each, NotWrite, Limitless, Sized, Unbound, plain, plain_all}
use Rattle.bank.proofs.Laws.{refused_call_changes_nothing, accepted_call_result, accepted_call_sets_last_tick, call_keeps_sizes}
use Rattle.bank.proofs.Laws.{read_keeps_values, write_in_time_stores}
use Rattle.bank.proofs.HistoryLaws.{call_keeps_unbound, unbound_write_is_done, value_stays_until_written}

pub fresh_bank_is_sized : Sized fresh_bank
unfolding fresh_bank
fresh_bank_is_sized = record { values = length-replicate {A = ℕ} register_count 0; deadlines = length-replicate pair_count unlimited }

pub fresh_bank_is_unbound : Unbound fresh_bank
unfolding fresh_bank
fresh_bank_is_unbound i c p = get_or-replicate pair_count (pair_of i c) unlimited 0 (pair_below p)

limitless_leaves : (k : Call) → Limitless k → leaves k ≡ unlimited
limitless_leaves (Call.reading i c t d) h = rw h
limitless_leaves (Call.writing i c t v) h = refl

-- calls without limited waits bind no pair
pub limitless_call_binds_nobody : (b : Bank) (k : Call) → Sized b → Limitless k → Unbound b → Unbound (after b k)
limitless_call_binds_nobody b k s h u i c p = call_keeps_unbound p b k s (limitless_leaves k h) (u i c p)

pub limitless_run_binds_nobody : (b : Bank) (ks : List Call) → Sized b → Each Limitless ks → Unbound b → Unbound (after_all b ks)
limitless_run_binds_nobody b [] s h u = u
limitless_run_binds_nobody b (k ∷ ks) s h u =
    limitless_run_binds_nobody (after b k) ks (call_keeps_sizes b k s) h.1 (limitless_call_binds_nobody b k s h.0 u)

module _ (b : Bank) (s : Sized b) (u : Unbound b) where
  pub limitless_write_is_never_late : (ks : List Call) → Each Limitless ks → (i : ProcessNumber) (c : SlotNumber) (t v : ℕ)
      → call_refusal (after_all b ks).last i c t ≡ 0 → (write_of (after_all b ks) i c t v).answer ≡ Ok Write.Done
  limitless_write_is_never_late ks h i c t v a =
      unbound_write_is_done (after_all b ks) i c t v a
      (limitless_run_binds_nobody b ks s h u i c (accepted_good (after_all b ks).last i c t a).0)

  -- an accepted write's value stands until the next write to its register, be that accepted or not
  pub limitless_write_stands : (i : ProcessNumber) (c : SlotNumber) (t v : ℕ) → call_refusal b.last i c t ≡ 0 → (ks : List Call) → Each (NotWrite c) ks
      → value_at (after_all (write_of b i c t v).bank ks) c ≡ v
  limitless_write_stands i c t v a ks o =
      let good = accepted_good b.last i c t a in
      value_stays_until_written (write_of b i c t v).bank ks c o
      ∙ write_in_time_stores b i c t v a s (rw (u i c good.0) (omega (arith, good.1.0.top)))

-- an accepted call does to the values of an unbound bank what it does to a plain memory
unbound_call_is_plain : (b : Bank) (k : Call) → Unbound b → refusal_at b.last k ≡ 0 → (after b k).values ≡ plain b.values k
unbound_call_is_plain b (Call.reading i c t d) u h = read_keeps_values b i c t d
unbound_call_is_plain b (Call.writing i c t v) u h =
    let good = accepted_good b.last i c t h in
    (λ x. (accepted_call_result b (Call.writing i c t v) h x).values) ∙ rw (u i c good.0, le-ltb unlimited t (omega (arith, good.1.0.top)))

plain_from_after : (b : Bank) (k : Call) (ks : List Call) → Unbound b
    → plain_all (after b k).last (after b k).values ks ≡ plain_all b.last b.values (k ∷ ks)
plain_from_after b k ks u = split (refusal_at b.last k) refl
  where
    split : (r : ℕ) → refusal_at b.last k ≡ r → plain_all (after b k).last (after b k).values ks ≡ plain_all b.last b.values (k ∷ ks)
    split zero e = rw (e, accepted_call_sets_last_tick b k e, unbound_call_is_plain b k u e)
    split (suc r) e = rw (e, refused_call_changes_nothing b k (λ z. omega arith))

pub limitless_bank_is_a_plain_memory : (b : Bank) (ks : List Call) → Sized b → Unbound b → Each Limitless ks
    → (after_all b ks).values ≡ plain_all b.last b.values ks
limitless_bank_is_a_plain_memory b [] s u h = refl
limitless_bank_is_a_plain_memory b (k ∷ ks) s u h =
    limitless_bank_is_a_plain_memory (after b k) ks (call_keeps_sizes b k s) (limitless_call_binds_nobody b k s h.0 u) h.1
    ∙ plain_from_after b k ks u
