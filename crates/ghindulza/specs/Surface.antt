-- How the surface's numbers stand for what the layers below answer. Nothing new is decided here.
use Rattle.std.specs.Prelude.{ℕ, ◌≡◌, List, [], ◌∷◌, length, replicate, Result, Ok, Err}
use Rattle.terms.specs.Limits.{most_processes}
use Rattle.terms.specs.Numbers.{process_of}
use Rattle.terms.specs.Refusal.{number_in}
use Rattle.kinds.specs.Kinds.{number_of}
use Rattle.answers.specs.declared.Write.{Write}
use Rattle.answers.specs.Answers.{read_value}
use Rattle.bank.specs.declared.Bank.{Bank}
use Rattle.bank.specs.Calls.{Called}
use Rattle.setups.specs.declared.Setup.{Setup}
use Rattle.steps.specs.declared.Step.{Step}
use Rattle.setups.specs.Setup.{setup_read, setup_rest, rest_start}
use Rattle.model.specs.Report.{Ran}

-- a run: the number of the refusal, the count of accepted steps or the record of the refusal, and the report
abbrev pub ran_out : ℕ → ℕ → List ℕ → Ran
ran_out number at report = record { outcome = record { number = number; at = at }; report = report }

-- kind, n, ℓ or b, byte 5 (0 in every accepted setup), Δ; 0 each where the setup is refused
abbrev pub setup_numbers : Result Setup ℕ → List ℕ
setup_numbers (Ok f) = number_of f.kind ∷ f.processes ∷ f.size ∷ 0 ∷ f.delta ∷ []
setup_numbers (Err k) = replicate 5 0

abbrev pub setup_starts : Result Setup ℕ → List ℕ
setup_starts (Ok f) = f.starts
setup_starts (Err k) = replicate most_processes 0

-- a setup that was read: the number of the refusal, its fields, its start bytes, and where the rest lies (offset and length)
pub record SetupOut : Type 0 where
  pub number : ℕ
  pub fields : List ℕ
  pub starts : List ℕ
  pub rest : List ℕ

abbrev pub setup_out : List ℕ → SetupOut
setup_out s =
    record {
      number = number_in (setup_read most_processes s);
      fields = setup_numbers (setup_read most_processes s);
      starts = setup_starts (setup_read most_processes s);
      rest = rest_start most_processes s ∷ length (setup_rest most_processes s) ∷ [];
    }

-- a step that was read: the number of the refusal, and process, event, tick, 0 each where it is refused
pub record StepOut : Type 0 where
  pub number : ℕ
  pub fields : List ℕ

abbrev pub step_out : Result Step ℕ → StepOut
step_out (Ok k) = record { number = 0; fields = k.process.0 ∷ k.event ∷ k.tick ∷ [] }
step_out (Err n) = record { number = n; fields = replicate 3 0 }

-- the step of a process, an event and a tick given as numbers
abbrev pub step_of : ℕ → ℕ → ℕ → Step
step_of process event tick = record { process = process_of process; event = event; tick = tick }

-- a writer's answer: the number of the refusal, and the record's length, 0 where it is refused
pub record WrittenOut : Type 0 where
  pub number : ℕ
  pub length : ℕ

abbrev pub written_out : Result ℕ ℕ → WrittenOut
written_out (Ok n) = record { number = 0; length = n }
written_out (Err k) = record { number = k; length = 0 }

-- and what it left of the buffer, beside that answer
pub record Told (Left : Result ℕ ℕ → List ℕ → Type 0) (number len : ℕ) (after : List ℕ) : Type 0 where
  pub answer : Result ℕ ℕ
  pub told : record { number = number; length = len } ≡ written_out answer
  pub left : Left answer after

-- a bank call: the number of the refusal, the bank, and the value read, or 1 for done, 2 for late, 0 for neither
pub record BankOut : Type 0 where
  pub number : ℕ
  pub bank : Bank
  pub answer : ℕ

abbrev pub answer_code : Result Write ℕ → ℕ
answer_code (Ok Write.Done) = 1
answer_code (Ok Write.Late) = 2
answer_code (Err k) = 0

abbrev pub read_out : Called ℕ → BankOut
read_out r = record { number = number_in r.answer; bank = r.bank; answer = read_value r.answer }

abbrev pub write_out : Called Write → BankOut
write_out r = record { number = number_in r.answer; bank = r.bank; answer = answer_code r.answer }
