-- What the surface puts out of a setup, by what the setup reader answered: a law an outcome, in the direction of the contract.
-- Assumes nothing.
use mathlib.Core.Path.{◌≡◌}
use mathlib.Core.List.{List, [], ◌∷◌}
use Prim.Native.Nat.{ℕ, ◌+◌, ◌-◌, ◌≤◌}
use lib.ListN.{length, length-drop, replicate}
use Rattle.std.specs.Prelude.{Ok, Err}
use Rattle.terms.specs.Limits.{most_processes}
use Rattle.setups.specs.declared.Setup.{Setup}
use Rattle.setups.specs.Setup.{setup_refusal, setup_fields, setup_read}
use Rattle.setups.proofs.SetupLaws.{setup_said, setup_was_read, setup_was_refused, rest_accepted, rest_refused}
use Rattle.ghindulza.specs.Surface.{setup_numbers, setup_out}

module _ (s : List ℕ) where
  module _ {f : Setup} (read : Ok f ≡ setup_read most_processes s) where
    accepted : setup_refusal most_processes s ≡ 0
    accepted = (setup_was_read most_processes s read).0

    fields : f ≡ setup_fields most_processes s
    fields = (setup_was_read most_processes s read).1

    -- the rest begins past the n start bytes, which the trace has
    pub rest_within : 8 + f.processes ≤ length s
    rest_within = rw fields (setup_said most_processes s accepted).head.whole

    pub setup_accepted : record {
      number = 0;
      fields = setup_numbers (Ok f);
      starts = f.starts;
      rest = (8 + f.processes) ∷ (length s - (8 + f.processes)) ∷ [];
    } ≡ setup_out s
    setup_accepted =
        let rest = rest_accepted most_processes s accepted in
        rw (← read, rest.0, rest.1, fields, length-drop)

  -- refused: an empty rest at the beginning
  pub setup_refused : {k begin count : ℕ} → begin ≡ 0 → count ≡ 0 → Err k ≡ setup_read most_processes s
      → record { number = k; fields = replicate 5 0; starts = replicate most_processes 0; rest = begin ∷ count ∷ [] } ≡ setup_out s
  setup_refused {k} at_none of_none read =
      let said = setup_was_refused most_processes s read in
      let rest = rest_refused most_processes s k said.0 said.1 in
      rw (at_none, of_none, ← read, rest.0, rest.1)
