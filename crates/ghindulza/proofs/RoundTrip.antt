-- The round trips of `setups` and `steps`, from what the surface's writers promise: the number returned, the length and the buffer.
-- Assumes nothing.
use mathlib.Core.Path.{◌≡◌, sym, ap, ◌∙◌}
use mathlib.Core.List.{List, ◌++◌}
use Prim.Native.Nat.{ℕ, ◌+◌, ◌≤◌, ◌<◌}
use lib.ListN.{length, take, drop}
use contract.Lifetimes.{Lfts}
use denote.Triple.Clauses.{Lasts, at_exit}
use borrow.Fn.Kinds.{Dens, ended_of}
use Rattle.std.specs.Prelude.{Result, Ok, Err}
use Rattle.terms.specs.Limits.{most_processes}
use Rattle.terms.specs.Little.{AllBytes}
use Rattle.terms.specs.Refusal.{if_accepted}
use Rattle.terms.proofs.RefusalLaws.{refused_says}
use Rattle.kinds.specs.Kinds.{number_of}
use Rattle.records.specs.Record.{Wrote}
use Rattle.setups.specs.declared.Setup.{Setup}
use Rattle.setups.specs.Setup.{setup_read, setup_rest, rest_start, WroteSetup}
use Rattle.setups.proofs.RoundTrip.{given, written_setup_back, written_rest_back, setup_rewritten}
use Rattle.steps.specs.declared.Step.{Step}
use Rattle.steps.specs.Step.{step_read, WroteStep}
use Rattle.steps.proofs.RoundTrip.{written_step_back, step_rewritten}
use Rattle.ghindulza.specs.Surface.{step_of, WrittenOut, written_out, Told}
use Rattle.ghindulza.proofs.ghindulza_write_setup.Kinds as write_setup_kinds
use Rattle.ghindulza.proofs.ghindulza_write_setup.Reads as write_setup_reads
use Rattle.ghindulza.proofs.ghindulza_write_step.Kinds as write_step_kinds
use Rattle.ghindulza.proofs.ghindulza_write_step.Reads as write_step_reads

-- a writer's two numbers
abbrev pub numbers : ℕ → ℕ → WrittenOut
numbers number len = record { number = number; length = len }

-- 0 is told of an accepted record alone, and with its length
accepted_answer : (refusal whole : ℕ) (answer : Result ℕ ℕ) {len : ℕ}
    → numbers 0 len ≡ written_out answer → answer ≡ if_accepted refusal (Ok whole) (Err refusal) → answer ≡ Ok len
accepted_answer refusal whole (Ok n) told by_table = ap Ok (sym (ap (λ (w : WrittenOut). w.length) told))
accepted_answer refusal whole (Err k) told by_table =
    absurd ((refused_says refusal whole by_table).1 (sym (ap (λ (w : WrittenOut). w.number) told)))

pub told_accepted : (refusal : ℕ) (rec before : List ℕ) {len : ℕ} {after : List ℕ}
    (told : Told (Wrote refusal rec before) 0 len after) → told.answer ≡ Ok len
told_accepted refusal rec before told = accepted_answer refusal (length rec) told.answer told.told told.left.answer

-- a setup that was written reads back, and what follows it is the rest
module _ (kind size delta : ℕ) (starts before after : List ℕ) {len : ℕ}
    (told : Told (WroteSetup most_processes kind size delta starts before) 0 len after) where
  pub write_setup_back : delta < 65_536 → setup_read most_processes after ≡ Ok (given most_processes kind size delta starts)
  write_setup_back = written_setup_back most_processes kind size delta starts before after told.answer told.left (told_accepted _ _ before told)

  pub write_rest_back : (setup_rest most_processes after ≡ drop (8 + length starts) before) × (rest_start most_processes after ≡ 8 + length starts)
  write_rest_back = written_rest_back most_processes kind size delta starts before after told.answer told.left (told_accepted _ _ before told)

-- a setup that was read, written where it has room, gives its bytes
module _ (s : List ℕ) (bytes : AllBytes s) {t : Setup} (read : setup_read most_processes s ≡ Ok t) (before after : List ℕ)
    (room : 8 + t.processes ≤ length before) {number len : ℕ}
    (told : Told (WroteSetup most_processes (number_of t.kind) t.size t.delta (take t.processes t.starts) before) number len after) where
  pub write_setup_again : (numbers number len ≡ numbers 0 (8 + t.processes))
      × (after ≡ take (8 + t.processes) s ++ drop (8 + t.processes) before)
  write_setup_again =
      let p = setup_rewritten most_processes s bytes read before after told.answer room told.left in
      (told.told ∙ ap written_out p.0, p.1)

-- a step that was written reads back
module _ (process event tick : ℕ) (before after : List ℕ) {len : ℕ}
    (told : Told (WroteStep most_processes (step_of process event tick) before) 0 len after) where
  pub write_step_back : step_read most_processes after ≡ Ok (step_of process event tick)
  write_step_back = written_step_back (step_of process event tick) before after told.answer told.left (told_accepted _ _ before told)

-- a step that was read, written where it has room, gives its bytes
module _ (s : List ℕ) (bytes : AllBytes s) {k : Step} (read : step_read most_processes s ≡ Ok k) (before after : List ℕ)
    (room : 8 ≤ length before) {number len : ℕ}
    (told : Told (WroteStep most_processes (step_of k.process.0 k.event k.tick) before) number len after) where
  pub write_step_again : (numbers number len ≡ numbers 0 8) × (after ≡ take 8 s ++ drop 8 before)
  write_step_again =
      let p = step_rewritten s bytes read before after told.answer room told.left in
      (told.told ∙ ap written_out p.0, p.1)

-- `Told` above is the promise of each writer, as the check reads it
pub write_setup_tells : (κs : Lfts 3) (a : Dens κs write_setup_kinds.ps) (number : ℕ)
    (u : Lasts (ended_of 3 write_setup_kinds.ps write_setup_kinds.r) κs a)
    → write_setup_reads.Post κs a number (at_exit (ended_of 3 write_setup_kinds.ps write_setup_kinds.r) κs a u)
    → Told (WroteSetup most_processes a.1.0 a.1.1.0 a.1.1.1.0 a.1.1.1.1.0.now a.0.now) number u.1.1.1.1.1.0 u.0
write_setup_tells κs a number u promise = promise

pub write_step_tells : (κs : Lfts 2) (a : Dens κs write_step_kinds.ps) (number : ℕ)
    (u : Lasts (ended_of 2 write_step_kinds.ps write_step_kinds.r) κs a)
    → write_step_reads.Post κs a number (at_exit (ended_of 2 write_step_kinds.ps write_step_kinds.r) κs a u)
    → Told (WroteStep most_processes (step_of a.1.0 a.1.1.0 a.1.1.1.0) a.0.now) number u.1.1.1.1.0 u.0
write_step_tells κs a number u promise = promise
