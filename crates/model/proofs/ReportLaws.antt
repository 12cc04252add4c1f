-- Laws of the report, and of what a run returns and leaves, as code meets them: a line more; a run that is refused before its first record,
-- or that goes on to its records.
-- Assumes nothing.
use Prim.Native.Nat.{ℕ, zero, suc, ◌+◌, ◌*◌, ◌≤◌}
use mathlib.Core.Path.{◌≡◌, refl, sym, ap, ap₂, ◌∙◌}
use mathlib.Core.List.{List, ◌++◌, append_assoc}
use native.Mathlib.Nat.{zero-add}
use native.Mathlib.Numerals.{add-one, add-two, add-three}
use native.Mathlib.Omega.{arith}
use lib.ListN.{length, take, drop, get_or, set, length-append}
use lib.Seq.{sets-eq}
use Rattle.terms.specs.Overlay.{overlay, spliced}
use Rattle.terms.proofs.OverlayLaws.{spliced_front, spliced_then}
use Rattle.terms.proofs.RefusalLaws.{some_number, same_name}
use Rattle.model.specs.declared.Shape.{Shape}
use Rattle.std.specs.Prelude.{Result, Ok, Err}
use Rattle.model.specs.declared.Refused.{Refused}
use Rattle.model.specs.declared.Row.{Row}
use Rattle.model.specs.Routine.{Routine}
use Rattle.model.specs.Sizes.{line_width}
use Rattle.model.specs.Run.{blank, shape, rest_of, run_refusal, records, reached, Progress, Progress.stopped}
use Rattle.model.specs.Report.{shown_place, figure_of, line, lines, report_of, outcome_of, outcome_in, Outcome, Ran, ran_of}
use Rattle.model.proofs.RunLaws.{run_refused, run_follows}

-- LINES

module _ (κ : Routine) where
  -- four stores are a line
  pub line_stored : (r : Row) (at : ℕ) (l : List ℕ) → at + line_width ≤ length l
      → set (set (set (set l at (shown_place r)) (at + 1) (figure_of κ r)) (at + 2) r.moves) (at + 3) r.lates
      ≡ spliced at (line κ r) l
  unfolding line spliced
  line_stored r at l h =
      let new : List ℕ = line κ r in
      rw (add-one, add-two, add-three) (sets-eq new l at h ∙ append_assoc (take at l) new (drop (at + line_width) l))

  pub length-lines : (rows : List Row) (k : ℕ) → length (lines κ rows k) ≡ k * line_width
  unfolding line lines
  length-lines rows zero = refl
  length-lines rows (suc k) = simp length-append (omega (arith, length-lines rows k))

  -- one line more over the front of the report
  pub lines_more : (rows : List Row) (j : ℕ) (old now : List ℕ) → now ≡ overlay (lines κ rows j) old
      → spliced (j * line_width) (line κ (get_or rows j blank)) now ≡ overlay (lines κ rows (j + 1)) old
  unfolding lines
  lines_more rows j old now e =
      let L = lines κ rows j in
      let new = line κ (get_or rows j blank) in
      let at : j * line_width ≡ 0 + length L = sym (zero-add (length L) ∙ length-lines rows j) in
      ap₂ (λ (n : ℕ) (s : List ℕ). spliced n new s) at (e ∙ sym (spliced_front L old))
      ∙ spliced_then 0 L new old (omega arith)
      ∙ rw add-one (spliced_front (L ++ new) old)

-- A RUN

-- what the records of `rest` return and leave, once they led to p
abbrev pub ran_by : Shape → List ℕ → List ℕ → Progress → Ran
ran_by u rest old p = record { outcome = outcome_of (records rest) p; report = report_of u old p }

abbrev pub refused_run : ℕ → ℕ → List ℕ → Ran
refused_run x k old = record { outcome = record { number = x; at = k }; report = old }

pub ran_stopped : (u : Shape) (rest old : List ℕ) {p : Progress} {x k : ℕ} → p ≡ stopped x k → refused_run x k old ≡ ran_by u rest old p
unfolding outcome_of report_of
ran_stopped u rest old e = sym (ap (ran_by u rest old) e)

module _ (most : ℕ) (trace old : List ℕ) where
  -- refused before the first record; and on to the records
  pub ran_refused_first : {k : ℕ} → k ≡ run_refusal most trace (length old) → (k ≡ 0 → ⊥) → refused_run k 0 old ≡ ran_of most trace old
  unfolding ran_of
  ran_refused_first e h =
      ap (λ (y : ℕ). refused_run y 0 old) e ∙ ran_stopped (shape trace) (rest_of trace) old (run_refused _ _ _ _ (λ z. h (e ∙ z)))

  pub ran_on : run_refusal most trace (length old) ≡ 0
      → ran_by (shape trace) (rest_of trace) old (reached most trace (records (rest_of trace))) ≡ ran_of most trace old
  unfolding ran_of
  ran_on h = ap (ran_by (shape trace) (rest_of trace) old) (sym (run_follows _ _ _ _ h))

-- a run's answer is settled by its outcome's numbers
pub outcome_settles : (x y : Result ℕ Refused) → outcome_in x ≡ outcome_in y → x ≡ y
outcome_settles (Ok a) (Ok b) h = ap Ok (ap (λ (o : Outcome). o.at) h)
outcome_settles (Ok a) (Err e) h = absurd (some_number e.refusal (sym (ap (λ (o : Outcome). o.number) h)))
outcome_settles (Err e) (Ok b) h = absurd (some_number e.refusal (ap (λ (o : Outcome). o.number) h))
outcome_settles (Err d) (Err e) h =
    let refusal = same_name d.refusal e.refusal (ap (λ (o : Outcome). o.number) h) in
    let at : d.at ≡ e.at = ap (λ (o : Outcome). o.at) h in
    λ k. Err (record { refusal = refusal k; at = at k })
