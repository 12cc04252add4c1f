-- What an accepted setup says of the shape and the start bytes of its run, and an accepted run of the report and the bytes.
-- Assumes nothing.
use Prim.Native.Nat.{ℕ, ◌+◌, ◌*◌, ◌≤◌}
use mathlib.Core.Path.{◌≡◌}
use mathlib.Core.List.{List}
use native.Mathlib.Omega.{arith}
use lib.ListN.{length}
use borrow.Author.Tests.{ltb-false, le-ltb}
use Rattle.terms.specs.Limits.{most_steps}
use Rattle.terms.proofs.RefusalLaws.{passed}
use Rattle.records.specs.Record.{byte}
use Rattle.setups.specs.Setup.{start_bytes, places, setup_refusal}
use Rattle.setups.proofs.SetupLaws.{AcceptedSetup, setup_said, limits_size, StartSaid, start_said, start_good, start_count, place_at, length-places}
use Rattle.kinds.specs.declared.Kind.{Kind}
use Rattle.kinds.specs.Kinds.{kind_of}
use Rattle.model.specs.Routine.{routine_of}
use Rattle.model.specs.Bounds.{Bytes, Sound, start_ok, Starts}
use Rattle.model.specs.Sizes.{line_width}
use Rattle.model.specs.Run.{shape, rest_of, run_refusal}

pub start_ok_lem : (κ : Kind) (size x : ℕ) → StartSaid κ size x → start_ok (routine_of κ) size x
start_ok_lem Kind.Lock size x h = h
start_ok_lem Kind.Plain size x h = h
start_ok_lem Kind.Fast size x h = h

module _ (most : ℕ) (trace : List ℕ) (h : setup_refusal most trace ≡ 0) where
  said : AcceptedSetup most trace
  said = setup_said most trace h

  pub setup_sound : Bytes trace → Sound (shape trace)
  setup_sound bytes =
      let l = said.head.limits in
      let size = limits_size _ _ _ _ _ l in
      record {
        some = l.someone;
        sized = size.0;
        slim = size.1;
        bounded = omega (arith, bytes 6, bytes 7);
      }

  pub setup_starts : Starts (shape trace) (places most (start_bytes trace))
  setup_starts =
      let whole = said.head.whole in
      let few = said.head.limits.few in
      record {
        few = rw (length-places most (start_bytes trace) (omega (arith, start_count trace whole, few))) few;
        each =
            λ j below.
            rw (place_at trace whole most j below)
            (start_ok_lem (kind_of (byte 2 trace)) (byte 4 trace) (byte (8 + j) trace) (start_said _ _ _ _ _ _ (start_good most trace said j below)));
      }

-- a setup that is accepted, and room for the report and the steps
pub record Runs (most : ℕ) (trace : List ℕ) (room : ℕ) : Type 0 where
  pub setup : setup_refusal most trace ≡ 0
  pub lines : line_width * byte 3 trace ≤ room
  pub short : length (rest_of trace) ≤ 8 * most_steps

module _ (most : ℕ) (trace : List ℕ) (room : ℕ) where
  pub run_said : run_refusal most trace room ≡ 0 → Runs most trace room
  unfolding run_refusal
  run_said h =
      let p = passed 7 _ _ h in
      let q = passed 6 _ _ p.0 in
      record { setup = q.0; lines = ltb-false _ _ q.1; short = ltb-false _ _ p.1 }

  pub said_run : Runs most trace room → run_refusal most trace room ≡ 0
  unfolding run_refusal
  said_run r = simp (r.setup, le-ltb _ _ r.lines, le-ltb _ _ r.short)
