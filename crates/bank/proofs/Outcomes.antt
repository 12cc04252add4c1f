-- The outcome of each call by the case that holds, in the form in which the code's proofs ask for it: what the code knows there are the premises.
-- Assumes nothing.
use Prim.Native.Nat.{ℕ}
use mathlib.Core.Path.{◌≡◌, sym, ap, ◌∙◌}
use mathlib.Core.Bool.{Bool}
use mathlib.Core.List.{List}
use Rattle.terms.specs.declared.ProcessNumber.{ProcessNumber}
use Rattle.terms.specs.declared.SlotNumber.{SlotNumber}
use Rattle.terms.proofs.RefusalLaws.{if_refused, some_number}
use Rattle.terms.specs.Ranges.{IsPair, IsTick, IsWait}
use Rattle.std.specs.Prelude.{Ok, Err}
use Rattle.terms.specs.declared.Refusal.{Refusal}
use Rattle.terms.specs.Refusal.{number}
use Rattle.refusals.specs.Refusals.{call_refusal, read_refusal}
use Rattle.refusals.proofs.Accepted.{accepted_good, read_accepted_good}
use Rattle.registers.specs.Deadlines.{Seen, Stored, read_granted, write_granted}
use Rattle.bank.specs.declared.Bank.{Bank}
use Rattle.bank.specs.Registers.{bank_of, bank_seen, bank_stored, after_read, after_write}
use Rattle.bank.specs.Calls.{read_of, done_or_late, write_of}

-- What an accepted call has shown of its numbers.
pub write_pair : (last : ℕ) (i : ProcessNumber) (c : SlotNumber) (t : ℕ) → 0 ≡ call_refusal last i c t → IsPair i c
write_pair last i c t h = (accepted_good last i c t (sym h)).0

module _ (last : ℕ) (i : ProcessNumber) (c : SlotNumber) (t d : ℕ) (h : 0 ≡ read_refusal last i c t d) where
  call : call_refusal last i c t ≡ 0
  call = (read_accepted_good last i c t d (sym h)).0

  pub read_pair : IsPair i c
  read_pair = (accepted_good last i c t call).0

  pub read_tick : IsTick t
  read_tick = (accepted_good last i c t call).1.0

  pub read_wait : IsWait d
  read_wait = (read_accepted_good last i c t d (sym h)).1

-- A call of a bank: refused, or what the deadline rule gives. A read's bank is given by its parts: it leaves one of them.
module _ (values deadlines : List ℕ) (last : ℕ) (i : ProcessNumber) (c : SlotNumber) (t d : ℕ) where
  pub read_refused : (read_refusal last i c t d ≡ 0 → ⊥)
      → record { bank = bank_of values deadlines last; answer = Err (read_refusal last i c t d) } ≡ read_of (bank_of values deadlines last) i c t d
  unfolding read_of
  read_refused h = sym (if_refused (read_refusal last i c t d) h _ _)

  pub read_given : 0 ≡ read_refusal last i c t d → (x : ℕ) (deadlines' : List ℕ) (last' : ℕ)
      → record { value = x; deadlines = deadlines'; last = last' } ≡ read_granted values deadlines i c t d
      → record { bank = bank_of values deadlines' last'; answer = Ok x } ≡ read_of (bank_of values deadlines last) i c t d
  unfolding read_of after_read
  read_given h x deadlines' last' e =
      rw (← h) (ap (λ (s : Seen). record { bank = bank_seen values s; answer = Ok s.value }) e)

module _ (b : Bank) (i : ProcessNumber) (c : SlotNumber) (t v : ℕ) where
  pub write_refused : (call_refusal b.last i c t ≡ 0 → ⊥) → record { bank = b; answer = Err (call_refusal b.last i c t) } ≡ write_of b i c t v
  unfolding write_of
  write_refused h = sym (if_refused (call_refusal b.last i c t) h _ _)

  module _ (h : 0 ≡ call_refusal b.last i c t) (l : Bool) (values deadlines : List ℕ) (last : ℕ)
      (e : record { late = l; values = values; deadlines = deadlines; last = last } ≡ write_granted b.values b.deadlines i c t v) where
    pub write_given : record { bank = bank_of values deadlines last; answer = Ok (done_or_late l) } ≡ write_of b i c t v
    unfolding write_of after_write
    write_given = rw (← h) (ap (λ (s : Stored). record { bank = bank_stored s; answer = Ok (done_or_late s.late) }) e)

-- the same of a refusal by name
pub read_stops : (values deadlines : List ℕ) (last : ℕ) (i : ProcessNumber) (c : SlotNumber) (t d : ℕ) (e : Refusal) → number e ≡ read_refusal last i c t d
    → record { bank = bank_of values deadlines last; answer = Err (number e) } ≡ read_of (bank_of values deadlines last) i c t d
read_stops values deadlines last i c t d e h = rw h (read_refused values deadlines last i c t d (λ z. some_number e (h ∙ z)))

pub write_stops : (b : Bank) (i : ProcessNumber) (c : SlotNumber) (t v : ℕ) (e : Refusal) → number e ≡ call_refusal b.last i c t
    → record { bank = b; answer = Err (number e) } ≡ write_of b i c t v
write_stops b i c t v e h = rw h (write_refused b i c t v (λ z. some_number e (h ∙ z)))
