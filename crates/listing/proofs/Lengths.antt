-- How long the pieces of the text are at most.
-- Assumes nothing.
use Rattle.std.proofs.Common.{arith}
use mathlib.Core.Bool.{Bool, true, false, cond}
use mathlib.Core.Path.{◌≡◌, refl}
use mathlib.Core.List.{List, [], ◌++◌}
use Prim.Native.Nat.{ℕ, zero, suc, ◌+◌, ◌-◌, ◌*◌, ◌/◌, ◌≤◌, ◌<◌}
use native.Mathlib.Nat.{add-zero, add-suc}
use lib.Dec.{ltb}
use lib.ListN.{length, length-append}
use Rattle.terms.specs.Limits.{most_processes}
use Rattle.terms.specs.Refusal.{if_accepted}
use Rattle.records.specs.Record.{byte}
use Rattle.model.specs.Report.{Ran}
use Rattle.listing.specs.Sizes.{line_bytes, head_bytes, refused_bytes, text_bytes}
use Rattle.listing.specs.Text.{digits, most_digits, decimal, head_line, refused_line, process_line, process_lines, ran_text}

tenth_length : (t : Bool) (k : ℕ) (tenth : List ℕ) → length tenth ≤ k → length (cond t [] tenth) ≤ k
tenth_length true k tenth h = omega arith
tenth_length false k tenth h = h

digits_length : (k x : ℕ) → length (digits k x) ≤ k
unfolding digits
digits_length zero x = omega arith
digits_length (suc k) x = simp length-append (omega (arith, tenth_length (ltb x 10) k (digits k (x / 10)) (digits_length k (x / 10))))

pub decimal_length : (x : ℕ) → length (decimal x) ≤ most_digits
decimal_length x = digits_length most_digits x

pub head_length : (kind n accepted : ℕ) → length (head_line kind n accepted) ≤ head_bytes
head_length kind n accepted = simp length-append (omega (arith, decimal_length))

pub refused_length : (number at : ℕ) → length (refused_line number at) ≤ refused_bytes
refused_length number at = simp length-append (omega (arith, decimal_length))

-- five figures, and what stands after each
line_length : (report : List ℕ) (j : ℕ) → length (process_line report j) ≤ line_bytes
line_length report j = simp length-append (omega (arith, decimal_length))

-- one line more
next_length : (report : List ℕ) (j : ℕ) → length (process_lines report (suc j)) ≡ length (process_lines report j) + length (process_line report j)
unfolding process_lines
next_length report j = length-append (process_lines report j) (process_line report j)

pub lines_length : (report : List ℕ) (k : ℕ) → length (process_lines report k) ≤ line_bytes * k
unfolding process_lines
lines_length report zero = omega arith
lines_length report (suc k) = omega (arith, next_length report k, line_length report k, lines_length report k)

lines_from : (report : List ℕ) (j d : ℕ) → length (process_lines report j) ≤ length (process_lines report (j + d))
lines_from report j zero = rw add-zero (omega arith)
lines_from report j (suc d) = rw add-suc (omega (arith, next_length report (j + d), lines_from report j d))

-- the lines of the first j processes and the next one are no longer than those of the first n
pub lines_within : (report : List ℕ) (j n : ℕ) → j < n
    → length (process_lines report j) + length (process_line report j) ≤ length (process_lines report n)
lines_within report j n h =
    let e : suc j + (n - suc j) ≡ n = omega arith in
    omega (arith, next_length report j, rw e at (lines_from report (suc j) (n - suc j)))

-- a whole text: its lines are those of the processes that there may be
pub text_length : (input : List ℕ) (ran : Ran) → (ran.outcome.number ≡ 0 → byte 3 input ≤ most_processes) → length (ran_text input ran) ≤ text_bytes
unfolding ran_text
text_length input ran few = by ran.outcome.number few
  where
    head : List ℕ
    head = head_line (byte 2 input) (byte 3 input) ran.outcome.at

    lines : List ℕ
    lines = process_lines ran.report (byte 3 input)

    by : (n : ℕ) → (n ≡ 0 → byte 3 input ≤ most_processes)
        → length (if_accepted n (head ++ lines) (refused_line ran.outcome.number ran.outcome.at)) ≤ text_bytes
    by zero f =
        let short = head_length (byte 2 input) (byte 3 input) ran.outcome.at in
        omega (arith, length-append head lines, short, lines_length ran.report (byte 3 input), f refl)
    by (suc n) f = omega (arith, refused_length ran.outcome.number ran.outcome.at)
