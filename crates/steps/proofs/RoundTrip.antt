-- What a writer writes reads back as the same values, whatever bytes follow; and a step read and written again gives the same bytes.
-- Assumes nothing.
use mathlib.Core.Path.{◌≡◌, refl, sym, ◌∙◌, ap}
use mathlib.Core.List.{List, [], ◌∷◌, ◌++◌}
use Prim.Native.Nat.{ℕ, ◌≤◌}
use native.Mathlib.Omega.{arith}
use lib.ListN.{length, take, drop}
use Rattle.std.specs.Prelude.{Result, Ok}
use Rattle.terms.specs.Limits.{most_processes}
use Rattle.terms.specs.Little.{AllBytes}
use Rattle.terms.proofs.LittleLaws.{little_of_bytes, little_bytes_of}
use Rattle.terms.proofs.Parts.{elements, take-elements}
use Rattle.records.specs.Record.{byte}
use Rattle.records.proofs.RecordLaws.{byte_small, wrote_whole, wrote_said}
use Rattle.steps.specs.declared.Step.{Step}
use Rattle.steps.specs.Step.{step_read, step_fields, step_bytes, WroteStep}
use Rattle.steps.proofs.StepLaws.{InLimits, AcceptedStep, step_said, said_step, step_accepted, step_was_read, step_write_said, said_step_write}

-- a step within the limits, written before any bytes, reads back
module _ (most : ℕ) (k : Step) (rest : List ℕ) (limits : InLimits most k) where
  told : step_fields (step_bytes k ++ rest) ≡ k
  told = simp (little_of_bytes 4 k.tick (omega arith))

  pub step_back : step_read most (step_bytes k ++ rest) ≡ Ok k
  step_back =
      let said : AcceptedStep most (step_bytes k ++ rest) = record { eight = omega arith; mark0 = refl; mark1 = refl; limits = rw told limits } in
      step_accepted most _ (said_step most _ said) ∙ simp told

-- from the writer's own promise, over any buffer
module _ (k : Step) (before after : List ℕ) (r : Result ℕ ℕ)
    (w : WroteStep most_processes k before r after)
    {n : ℕ} (ok : r ≡ Ok n) where
  pub written_step_back : step_read most_processes after ≡ Ok k
  written_step_back =
      let said = wrote_said _ _ _ _ _ w ok in
      ap (step_read most_processes) said.1 ∙ step_back most_processes k (drop 8 before) (step_write_said _ k (length before) said.0).limits

-- an accepted step, written again from what was read of it, gives its bytes
module _ (most : ℕ) (s : List ℕ) (bytes : AllBytes s) {k : Step} (ok : step_read most s ≡ Ok k) where
  pub step_again : step_bytes k ≡ take 8 s
  step_again =
      let said = step_was_read most s (sym ok) in
      let h = step_said most s said.0 in
      let small = byte_small s bytes in
      let tick = little_bytes_of (byte 4 s ∷ byte 5 s ∷ byte 6 s ∷ byte 7 s ∷ []) (small 4, (small 5, (small 6, (small 7, tt)))) in
      let same : step_bytes (step_fields s) ≡ elements 8 0 s = cc in
      rw said.1 (same ∙ sym (take-elements 8 0 s h.eight))

-- from the writer's own promise, over any buffer that has room
module _ (s : List ℕ) (bytes : AllBytes s) {k : Step} (ok : step_read most_processes s ≡ Ok k) (before after : List ℕ) (r : Result ℕ ℕ)
    (room : 8 ≤ length before) (w : WroteStep most_processes k before r after) where
  pub step_rewritten : (r ≡ Ok 8) × (after ≡ take 8 s ++ drop 8 before)
  step_rewritten =
      let said = step_was_read most_processes s (sym ok) in
      let limits = (step_said most_processes s said.0).limits in
      let p = wrote_whole _ _ before r after w (said_step_write most_processes _ (length before) (record { limits = rw said.1 limits; fits = room })) in
      (p.0, p.1 ∙ ap (λ (l : List ℕ). l ++ drop 8 before) (step_again most_processes s bytes ok))
