-- A run before its first record: what the setup that was read says, the refusals 1 to 8, and the rest of the trace.
-- Assumes nothing.
use Prim.Native.Nat.{ℕ, ◌+◌, ◌*◌, ◌-◌, ◌≤◌, ◌<◌}
use mathlib.Core.Path.{◌≡◌, sym, ap, subst, ◌∙◌}
use mathlib.Core.List.{List}
use native.Mathlib.Omega.{arith}
use borrow.Author.Tests.{lt-ltb, le-ltb}
use lib.ListN.{length, take, drop, length-drop}
use Rattle.std.specs.Prelude.{Ok, Err}
use Rattle.terms.specs.declared.Refusal.{Refusal}
use Rattle.terms.specs.Limits.{most_processes, most_steps}
use Rattle.terms.specs.Refusal.{number}
use Rattle.terms.proofs.Parts.{part_to_end}
use Rattle.terms.proofs.RefusalLaws.{then_stop, if_refused, some_number, accepted_says, refused_says}
use Rattle.setups.specs.declared.Setup.{Setup}
use Rattle.records.specs.Record.{byte}
use Rattle.setups.specs.Setup.{setup_refusal, setup_fields, setup_read}
use Rattle.setups.proofs.SetupLaws.{setup_said, setup_was_read, setup_was_refused}
use Rattle.model.specs.declared.Shape.{Shape}
use Rattle.model.specs.Bounds.{Bytes, Sound, Starts}
use Rattle.model.specs.Sizes.{line_width}
use Rattle.model.specs.Run.{shape_of, rest_of, run_refusal}
use Rattle.model.specs.Report.{ran_of}
use Rattle.model.proofs.SetupSays.{setup_sound, setup_starts, run_said}
use Rattle.model.proofs.ReportLaws.{refused_run, ran_refused_first, ran_on}
use Rattle.engine.specs.Walk.{set_up, ran_from}

-- 1 TO 8

module _ (trace : List ℕ) (room : ℕ) where
  pub unset : {k : ℕ} → Err k ≡ setup_read most_processes trace → Err k ≡ set_up trace room
  unfolding run_refusal
  unset {k} e =
      let r = setup_was_refused most_processes trace e in
      rw (r.0, then_stop k r.1, then_stop k r.1) (sym (if_refused k r.1 _ _))

  module _ {f : Setup} (read : Ok f ≡ setup_read most_processes trace) where
    passed : setup_refusal most_processes trace ≡ 0
    passed = (setup_was_read most_processes trace read).0

    fields : f ≡ setup_fields most_processes trace
    fields = (setup_was_read most_processes trace read).1

    count : f.processes ≡ byte 3 trace
    count = ap (λ (x : Setup). x.processes) fields

    pub begins_inside : 8 + f.processes ≤ length trace
    begins_inside = omega (arith, count, (setup_said most_processes trace passed).head.whole)

    pub narrow : room < line_width * f.processes → Err 7 ≡ set_up trace room
    unfolding run_refusal
    narrow h = rw (passed, lt-ltb room (line_width * byte 3 trace) (omega (arith, count)))

    module _ (wide : line_width * f.processes ≤ room) where
      pub too_long : 8 * most_steps < length trace - (8 + f.processes) → Err 8 ≡ set_up trace room
      unfolding run_refusal
      too_long h =
          rw (
            passed,
            le-ltb room (line_width * byte 3 trace) (omega (arith, count)),
            lt-ltb (8 * most_steps) (length (rest_of trace)) (omega (arith, count, length-drop (8 + byte 3 trace) trace)),
          )

      pub sets_up : length trace - (8 + f.processes) ≤ 8 * most_steps → Ok f ≡ set_up trace room
      unfolding run_refusal
      sets_up h =
          rw (
            passed,
            le-ltb room (line_width * byte 3 trace) (omega (arith, count)),
            le-ltb (8 * most_steps) (length (rest_of trace)) (omega (arith, count, length-drop (8 + byte 3 trace) trace)),
          )
          (ap Ok fields)

-- THEN THE RECORDS

module _ (trace old : List ℕ) where
  pub refused_first : (e : Refusal) → Err (number e) ≡ set_up trace (length old) → refused_run (number e) 0 old ≡ ran_of most_processes trace old
  refused_first e h =
      let r = refused_says (run_refusal most_processes trace (length old)) (setup_fields most_processes trace) h in
      ran_refused_first most_processes trace old (sym r.0) (some_number e)

  module _ {f : Setup} (set : Ok f ≡ set_up trace (length old)) where
    accepted : run_refusal most_processes trace (length old) ≡ 0
    accepted = (accepted_says (run_refusal most_processes trace (length old)) (setup_fields most_processes trace) set).0

    fields' : f ≡ setup_fields most_processes trace
    fields' = (accepted_says (run_refusal most_processes trace (length old)) (setup_fields most_processes trace) set).1

    count' : f.processes ≡ byte 3 trace
    count' = ap (λ (x : Setup). x.processes) fields'

    passed' : setup_refusal most_processes trace ≡ 0
    passed' = (run_said most_processes trace (length old) accepted).setup

    pub rest_inside : 8 + f.processes ≤ length trace
    rest_inside = omega (arith, count', (setup_said most_processes trace passed').head.whole)

    pub few : f.processes ≤ most_processes
    few = omega (arith, count', (setup_said most_processes trace passed').head.limits.few)

    -- the rest as the code takes it
    abbrev pub part : List ℕ
    part = take (length trace - (8 + f.processes)) (drop (8 + f.processes) trace)

    part_is : part ≡ rest_of trace
    part_is = part_to_end (8 + f.processes) trace ∙ ap (λ (n : ℕ). drop (8 + n) trace) count'

    pub short : length part ≤ 8 * most_steps
    short = omega (arith, (run_said most_processes trace (length old) accepted).short, ap length part_is)

    pub room_for_lines : line_width * f.processes ≤ length old
    room_for_lines = omega (arith, count', (run_said most_processes trace (length old) accepted).lines)

    module _ (u : Shape) (shapes : u ≡ shape_of f) where
      shape : u ≡ shape_of (setup_fields most_processes trace)
      shape = shapes ∙ ap shape_of fields'

      pub sound : Bytes trace → Sound u
      sound h = subst Sound (sym shape) (setup_sound most_processes trace passed' h)

      pub starts : Starts u f.starts
      starts = rw (shape, fields') (setup_starts most_processes trace passed')

      pub goes_on : ran_from u f.starts part old ≡ ran_of most_processes trace old
      goes_on = rw (shape, ap (λ (x : Setup). x.starts) fields', part_is) (ran_on most_processes trace old accepted)
