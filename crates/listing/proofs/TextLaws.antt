-- The program's text by cases: input over the limit, a refused run, an accepted one, whose report holds all its processes.
-- Assumes nothing.
use mathlib.Core.Path.{◌≡◌, refl, ap, sym}
use mathlib.Core.List.{List, ◌++◌}
use Prim.Native.Nat.{ℕ, zero, suc, ◌+◌, ◌*◌, ◌≤◌, ◌<◌}
use native.Mathlib.Numerals.{add-one}
use native.Mathlib.Omega.{arith}
use borrow.Author.Tests.{lt-ltb, le-ltb, ltb-false}
use lib.Dec.{ltb}
use lib.ListN.{length, replicate, length-append}
use lib.Seq.{take-append_seam}
use Rattle.terms.specs.Limits.{most_processes, most_steps}
use Rattle.terms.specs.Refusal.{if_accepted}
use Rattle.terms.proofs.RefusalLaws.{passed, if_accepted_lem, if_refused}
use Rattle.records.specs.Record.{byte}
use Rattle.setups.specs.Setup.{setup_refusal}
use Rattle.model.specs.Sizes.{line_width, report_width}
use Rattle.model.specs.Run.{Progress, Progress.stopped, rest_of, records, reached, run_on, run_refusal}
use Rattle.model.specs.Report.{Ran, outcome_of, ran_of}
use Rattle.terms.specs.Overlay.{overlay}
use Rattle.listing.specs.Text.{over_line, head_line, refused_line, process_line, process_lines, ran_text, most_input, text_of, Listed}

refused_number : (k x : ℕ) (p : Progress) → (outcome_of k (if_accepted x p (stopped x 0))).number ≡ 0 → x ≡ 0
unfolding outcome_of
refused_number k zero p h = refl
refused_number k (suc x) p h = h

-- an accepted run's report has room for its lines (refusal 7)
pub accepted_fits : (trace old : List ℕ) → (ran_of most_processes trace old).outcome.number ≡ 0 → line_width * byte 3 trace ≤ length old
unfolding ran_of run_on run_refusal
accepted_fits trace old h =
    let n = records (rest_of trace) in
    let none = refused_number n (run_refusal most_processes trace (length old)) (reached most_processes trace n) h in
    let first = (passed 7 _ (ltb (8 * most_steps) (length (rest_of trace))) none).0 in
    ltb-false (length old) (line_width * byte 3 trace) (passed 6 (setup_refusal most_processes trace) _ first).1

module _ (input : List ℕ) (ran : Ran) where
  pub text_accepted : {kind n : ℕ} → kind ≡ byte 2 input → n ≡ byte 3 input → ran.outcome.number ≡ 0
      → head_line kind n ran.outcome.at ++ process_lines ran.report n ≡ ran_text input ran
  unfolding ran_text
  text_accepted k e h = rw (k, e) (sym (if_accepted_lem ran.outcome.number h _ _))

  pub text_refused : (ran.outcome.number ≡ 0 → ⊥) → refused_line ran.outcome.number ran.outcome.at ≡ ran_text input ran
  unfolding ran_text
  text_refused h = sym (if_refused ran.outcome.number h _ _)

module _ (input : List ℕ) where
  pub text_over : most_input < length input → over_line ≡ text_of input
  unfolding text_of
  text_over h = rw (lt-ltb most_input (length input) h)

  pub text_ran : length input ≤ most_input → (ran : Ran) → ran ≡ ran_of most_processes input (replicate report_width 0) → ran_text input ran ≡ text_of input
  unfolding text_of
  text_ran h ran e = rw (le-ltb most_input (length input) h) (ap (ran_text input) e)

-- one line more
pub lines_more : (report : List ℕ) (j : ℕ) → process_lines report j ++ process_line report j ≡ process_lines report (j + 1)
unfolding process_lines
lines_more report j = ap (process_lines report) (sym (add-one j))

-- what a copy of the text over the front of a buffer leaves is what `list` promises
pub listed : {piece : List ℕ} (input before : List ℕ) → piece ≡ text_of input → length piece ≤ length before
    → Listed input before (length piece) (overlay piece before)
listed {piece = piece} input before e h =
    record { len = ap length e; text = rw e; within = (simp length-append (omega arith), rw take-append_seam) }
