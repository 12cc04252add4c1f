-- What an answer of a bank says beside its refusal's number (`refusal_in`): the value read, done, late.
use Rattle.std.specs.Prelude.{ℕ, Bool, true, false, Result, Ok, Err}
use Rattle.answers.specs.declared.Write.{Write}

-- the value read, 0 where the read was refused
abbrev pub read_value : {E : Type 0} → Result ℕ E → ℕ
read_value (Ok v) = v
read_value (Err e) = 0

abbrev pub is_done : {E : Type 0} → Result Write E → Bool
is_done (Ok Write.Done) = true
is_done (Ok Write.Late) = false
is_done (Err e) = false

abbrev pub is_late : {E : Type 0} → Result Write E → Bool
is_late (Ok Write.Done) = false
is_late (Ok Write.Late) = true
is_late (Err e) = false
