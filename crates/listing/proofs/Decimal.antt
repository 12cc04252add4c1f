-- The decimal digits of the text are those that std writes, and so the crate itoa.
-- Assumes nothing.
use Rattle.std.proofs.Common.{rules, arith}
use Rattle.std.proofs.lemmas.Fmt.{AppendsLastDigit, decimal_from_appends, length-decimal-le}
use Rattle.std.specs.Fmt as std
use mathlib.Core.Path.{◌≡◌}
use Prim.Native.Nat.{ℕ, ◌/◌, ◌^◌, ◌≤◌, ◌<◌}
use lib.ListN.{length}
use Rattle.listing.specs.Text.{digits, most_digits, decimal}

appends : AppendsLastDigit digits
unfolding digits
appends = search rules

pub decimal_is_std : (x : ℕ) → x < 2 ^ 32 → decimal x ≡ std.decimal x
decimal_is_std x h =
    let fits : x < 2 ^ 64 = omega arith in
    decimal_from_appends digits appends most_digits x fits (length-decimal-le most_digits x (omega arith) (omega arith) fits)

-- the tenth of a 32-bit number has 9 digits at most
pub decimal_tenth : (x : ℕ) → x < 2 ^ 32 → length (decimal (x / 10)) ≤ 9
decimal_tenth x h = rw (decimal_is_std (x / 10) (omega arith)) (length-decimal-le 9 (x / 10) (omega arith) (omega arith) (omega arith))
