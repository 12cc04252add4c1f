-- A call of the bank as a value, and runs of calls, refused ones among them: what the laws over time speak of.
use Rattle.std.specs.Prelude.{ℕ, ◌≡◌, List, [], ◌∷◌, length, set}
use Rattle.terms.specs.declared.ProcessNumber.{ProcessNumber}
use Rattle.terms.specs.declared.SlotNumber.{SlotNumber}
use Rattle.terms.specs.Limits.{unlimited}
use Rattle.terms.specs.Ranges.{IsPair}
use Rattle.terms.specs.Refusal.{if_accepted}
use Rattle.refusals.specs.Refusals.{call_refusal, read_refusal}
use Rattle.registers.specs.Sizes.{register_count, pair_count}
use Rattle.registers.specs.Deadlines.{due}
use Rattle.bank.specs.declared.Bank.{Bank}
use Rattle.bank.specs.Registers.{deadline_at}
use Rattle.bank.specs.Calls.{read_of, write_of}

-- a read with its tick and its wait, a write with its tick and its value
pub data Call : Type 0 where
  reading : ProcessNumber → SlotNumber → ℕ → ℕ → Call
  writing : ProcessNumber → SlotNumber → ℕ → ℕ → Call

abbrev pub caller : Call → ProcessNumber
caller (Call.reading i c t d) = i
caller (Call.writing i c t v) = i

abbrev pub register : Call → SlotNumber
register (Call.reading i c t d) = c
register (Call.writing i c t v) = c

abbrev pub tick_of : Call → ℕ
tick_of (Call.reading i c t d) = t
tick_of (Call.writing i c t v) = t

-- the deadline that a call leaves to its pair
abbrev pub leaves : Call → ℕ
leaves (Call.reading i c t d) = due t d
leaves (Call.writing i c t v) = unlimited

abbrev pub refusal_at : ℕ → Call → ℕ
refusal_at last (Call.reading i c t d) = read_refusal last i c t d
refusal_at last (Call.writing i c t v) = call_refusal last i c t

abbrev pub after : Bank → Call → Bank
after b (Call.reading i c t d) = (read_of b i c t d).bank
after b (Call.writing i c t v) = (write_of b i c t v).bank

abbrev pub after_all : Bank → List Call → Bank
after_all b [] = b
after_all b (k ∷ ks) = after_all (after b k) ks

abbrev pub Each : (Call → Type 0) → List Call → Type 0
Each P [] = Unit {0}
Each P (k ∷ ks) = P k × Each P ks

-- a call of another pair; one that is no read by this pair; one that is no write to this register; one without a limited wait
abbrev pub Elsewhere : ProcessNumber → SlotNumber → Call → Type 0
Elsewhere i c k = (caller k ≡ i) × (register k ≡ c) → ⊥

abbrev pub NotRead : ProcessNumber → SlotNumber → Call → Type 0
NotRead i c (Call.reading i' c' t d) = (i' ≡ i) × (c' ≡ c) → ⊥
NotRead i c (Call.writing i' c' t v) = Unit {0}

abbrev pub NotWrite : SlotNumber → Call → Type 0
NotWrite c (Call.reading i' c' t d) = Unit {0}
NotWrite c (Call.writing i' c' t v) = c' ≡ c → ⊥

abbrev pub Limitless : Call → Type 0
Limitless (Call.reading i c t d) = d ≡ unlimited
Limitless (Call.writing i c t v) = Unit {0}

-- a bank has a value for each register and a deadline for each pair, as each `Bank` in code does
pub record Sized (b : Bank) : Type 0 where
  pub values : length b.values ≡ register_count
  pub deadlines : length b.deadlines ≡ pair_count

-- no pair is bound
abbrev pub Unbound : Bank → Type 0
Unbound b = (i : ProcessNumber) (c : SlotNumber) → IsPair i c → deadline_at b i c ≡ unlimited

-- a memory with no deadlines: a read leaves it, a write stores
abbrev pub plain : List ℕ → Call → List ℕ
plain values (Call.reading i c t d) = values
plain values (Call.writing i c t v) = set values c.0 v

-- and its values after a run of calls, of which some are refused by their numbers
abbrev pub plain_all : ℕ → List ℕ → List Call → List ℕ
plain_all last values [] = values
plain_all last values (k ∷ ks) =
    if_accepted (refusal_at last k) (plain_all (tick_of k) (plain values k) ks) (plain_all last values ks)
