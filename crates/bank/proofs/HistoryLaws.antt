-- The deadline rule over any run of calls, refused ones among them: the first write after a read is bound by it, and no later one,
-- whatever calls of other pairs come in between.
-- Assumes nothing.
use Prim.Native.Nat.{ℕ}
use mathlib.Core.Path.{◌≡◌, refl, ◌∙◌}
use mathlib.Core.List.{List, [], ◌∷◌}
use native.Mathlib.Decide.{ℕ_discrete}
use native.Mathlib.Omega.{arith}
use lib.Dec.{ltb}
use lib.ListN.{get_or, set}
use lib.Seq.{get_or-set_same, get_or-set_other}
use borrow.Author.Tests.{le-ltb}
use Rattle.terms.specs.declared.ProcessNumber.{ProcessNumber}
use Rattle.terms.specs.declared.SlotNumber.{SlotNumber}
use Rattle.terms.specs.Limits.{unlimited}
use Rattle.terms.specs.Ranges.{IsPair}
use Rattle.std.specs.Prelude.{Ok}
use Rattle.answers.specs.declared.Write.{Write}
use Rattle.refusals.specs.Refusals.{call_refusal, read_refusal}
use Rattle.refusals.proofs.Accepted.{accepted_good, read_accepted_good}
use Rattle.registers.specs.Deadlines.{pair_of, due}
use Rattle.registers.proofs.Pairs.{pair_below}
use Rattle.bank.specs.declared.Bank.{Bank}
use Rattle.bank.specs.Registers.{value_at, deadline_at}
use Rattle.bank.specs.Calls.{read_of, done_or_late, write_of}
use Rattle.bank.specs.History.{Call, caller, register, leaves, after, after_all, Each, Elsewhere, NotRead, NotWrite, Sized}
use Rattle.bank.proofs.Laws.{after_either, call_keeps_sizes, accepted_call_leaves_its_deadline, call_keeps_other_deadlines}
use Rattle.bank.proofs.Laws.{call_keeps_value_unless_written, accepted_write_answers_by_the_deadline}

pub run_keeps_sizes : (b : Bank) (ks : List Call) → Sized b → Sized (after_all b ks)
run_keeps_sizes b [] s = s
run_keeps_sizes b (k ∷ ks) s = run_keeps_sizes (after b k) ks (call_keeps_sizes b k s)

pub value_stays_until_written : (b : Bank) (ks : List Call) (c : SlotNumber) → Each (NotWrite c) ks → value_at (after_all b ks) c ≡ value_at b c
value_stays_until_written b [] c h = refl
value_stays_until_written b (k ∷ ks) c h = value_stays_until_written (after b k) ks c h.1 ∙ call_keeps_value_unless_written b k c h.0

module _ {i : ProcessNumber} {c : SlotNumber} (p : IsPair i c) where
  pub deadline_stays_while_others_call : (b : Bank) (ks : List Call) → Each (Elsewhere i c) ks → deadline_at (after_all b ks) i c ≡ deadline_at b i c
  deadline_stays_while_others_call b [] h = refl
  deadline_stays_while_others_call b (k ∷ ks) h =
      deadline_stays_while_others_call (after b k) ks h.1 ∙ call_keeps_other_deadlines b k p h.0

  -- a call that leaves its own pair unbound leaves an unbound pair so, be it its own or not
  pub call_keeps_unbound : (b : Bank) (k : Call) → Sized b → leaves k ≡ unlimited → deadline_at b i c ≡ unlimited → deadline_at (after b k) i c ≡ unlimited
  call_keeps_unbound b k s l f =
      after_either b k (λ (b' : Bank). deadline_at b' i c ≡ unlimited) f (λ h. rw l (freed (ℕ_discrete (pair_of i c) (pair_of (caller k) (register k)))))
    where
      freed : Dec (pair_of i c ≡ pair_of (caller k) (register k))
          → get_or (set b.deadlines (pair_of (caller k) (register k)) unlimited) (pair_of i c) 0 ≡ unlimited
      freed (yes e) = rw (← e) (get_or-set_same b.deadlines (pair_of i c) unlimited 0 (rw s.deadlines (pair_below p)))
      freed (no o) = get_or-set_other b.deadlines (pair_of (caller k) (register k)) (pair_of i c) unlimited 0 o ∙ f

  pub unbound_until_it_reads : (b : Bank) (ks : List Call) → Sized b → Each (NotRead i c) ks → deadline_at b i c ≡ unlimited
      → deadline_at (after_all b ks) i c ≡ unlimited
  unbound_until_it_reads b [] s h f = f
  unbound_until_it_reads b (Call.reading i' c' t d ∷ ks) s h f =
      unbound_until_it_reads (after b (Call.reading i' c' t d)) ks (call_keeps_sizes b (Call.reading i' c' t d) s) h.1
      (call_keeps_other_deadlines b (Call.reading i' c' t d) p h.0 ∙ f)
  unbound_until_it_reads b (Call.writing i' c' t v ∷ ks) s h f =
      unbound_until_it_reads (after b (Call.writing i' c' t v)) ks (call_keeps_sizes b (Call.writing i' c' t v) s) h.1
      (call_keeps_unbound b (Call.writing i' c' t v) s refl f)

-- a write of an unbound pair is done
pub unbound_write_is_done : (b : Bank) (i : ProcessNumber) (c : SlotNumber) (t v : ℕ) → call_refusal b.last i c t ≡ 0 → deadline_at b i c ≡ unlimited
    → (write_of b i c t v).answer ≡ Ok Write.Done
unbound_write_is_done b i c t v h f =
    accepted_write_answers_by_the_deadline b i c t v h ∙ rw (f, le-ltb unlimited t (omega (arith, (accepted_good b.last i c t h).1.0.top)))

-- After an accepted read at tick t with the wait d and any calls of other pairs, the pair's write is done up to t + d and late after.
pub first_write_after_a_read_is_bound : (b : Bank) (i : ProcessNumber) (c : SlotNumber) (t d : ℕ) (ks : List Call) (t' v : ℕ)
    → Sized b → read_refusal b.last i c t d ≡ 0 → Each (Elsewhere i c) ks → call_refusal (after_all (read_of b i c t d).bank ks).last i c t' ≡ 0
    → (write_of (after_all (read_of b i c t d).bank ks) i c t' v).answer ≡ Ok (done_or_late (ltb (due t d) t'))
first_write_after_a_read_is_bound b i c t d ks t' v s h o h' =
    let p : IsPair i c = (accepted_good b.last i c t (read_accepted_good b.last i c t d h).0).0 in
    let bound : deadline_at (after_all (read_of b i c t d).bank ks) i c ≡ due t d
    = deadline_stays_while_others_call p (read_of b i c t d).bank ks o ∙ accepted_call_leaves_its_deadline b (Call.reading i c t d) s h in
    accepted_write_answers_by_the_deadline (after_all (read_of b i c t d).bank ks) i c t' v h' ∙ rw bound

-- After an accepted write, late or not, every write of the pair is done until it reads again, whatever other calls come in between.
pub later_writes_are_done : (b : Bank) (i : ProcessNumber) (c : SlotNumber) (t v : ℕ) (ks : List Call) (t' v' : ℕ)
    → Sized b → call_refusal b.last i c t ≡ 0 → Each (NotRead i c) ks → call_refusal (after_all (write_of b i c t v).bank ks).last i c t' ≡ 0
    → (write_of (after_all (write_of b i c t v).bank ks) i c t' v').answer ≡ Ok Write.Done
later_writes_are_done b i c t v ks t' v' s h o h' =
    let p : IsPair i c = (accepted_good b.last i c t h).0 in
    let freed : deadline_at (write_of b i c t v).bank i c ≡ unlimited = accepted_call_leaves_its_deadline b (Call.writing i c t v) s h in
    unbound_write_is_done (after_all (write_of b i c t v).bank ks) i c t' v' h'
    (unbound_until_it_reads p (write_of b i c t v).bank ks (call_keeps_sizes b (Call.writing i c t v) s) o freed)
