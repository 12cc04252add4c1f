-- Laws of what both records have: marks, bytes, lists of good bytes, and what a writer leaves.
-- Assumes nothing.
use mathlib.Core.Path.{◌≡◌, refl, sym, ◌∙◌}
use native.Mathlib.Decide.{ℕ_discrete}
use Rattle.std.specs.Prelude.{Result, Ok, Err}
use mathlib.Core.Bool.{Bool, true, false}
use mathlib.Core.List.{List, [], ◌∷◌}
use Prim.Native.Nat.{ℕ, zero, suc, ◌+◌, ◌<◌}
use native.Mathlib.Nat.{add-zero}
use native.Mathlib.Omega.{arith}
use borrow.Author.Tests.{eqb-true, eq-eqb}
use lib.ListN.{length, get_or}
use Rattle.terms.specs.Little.{AllBytes}
use Rattle.terms.specs.Overlay.{overlay}
use Rattle.terms.specs.Refusal.{any_from}
use Rattle.terms.proofs.RefusalLaws.{both_false, both_true, if_refused, ok_is_no_error}
use Rattle.records.specs.Record.{byte, marked, Wrote}

-- a list that a mark stands before has its two bytes, and the other way round
pub marked_said : (mark s : List ℕ) → marked mark s ≡ true → (byte 0 s ≡ byte 0 mark) × (byte 1 s ≡ byte 1 mark)
marked_said mark s h =
    let both = both_true _ _ h in
    (eqb-true _ _ both.0, eqb-true _ _ both.1)

pub said_marked : (mark s : List ℕ) → byte 0 s ≡ byte 0 mark → byte 1 s ≡ byte 1 mark → marked mark s ≡ true
said_marked mark s p q = simp (eq-eqb _ _ p, eq-eqb _ _ q)

-- each byte of a list of bytes is one, and the other way round
pub byte_small : (s : List ℕ) → AllBytes s → (i : ℕ) → byte i s < 256
byte_small [] h i = omega arith
byte_small (b ∷ bs) h zero = h.0
byte_small (b ∷ bs) h (suc i) = byte_small bs h.1 i

pub small_bytes : (s : List ℕ) → ((i : ℕ) → byte i s < 256) → AllBytes s
small_bytes [] h = tt
small_bytes (b ∷ bs) h = (h 0, small_bytes bs (λ i. h (suc i)))

-- of a list with no bad element no element is bad at its index, and the other way round
pub none_bad : (i : ℕ) (bad : ℕ → ℕ → Bool) (xs : List ℕ) → any_from i bad xs ≡ false → (j : ℕ) → j < length xs → bad (i + j) (get_or xs j 0) ≡ false
none_bad i bad [] h j below = absurd (omega arith)
none_bad i bad (x ∷ xs) h zero below = rw (add-zero i) (both_false (bad i x) (any_from (suc i) bad xs) h).0
none_bad i bad (x ∷ xs) h (suc j) below =
    let next : i + suc j ≡ suc i + j = omega arith in
    rw next (none_bad (suc i) bad xs (both_false (bad i x) (any_from (suc i) bad xs) h).1 j (omega arith))

pub all_good : (i : ℕ) (bad : ℕ → ℕ → Bool) (xs : List ℕ) → ((j : ℕ) → j < length xs → bad (i + j) (get_or xs j 0) ≡ false) → any_from i bad xs ≡ false
all_good i bad [] h = refl
all_good i bad (x ∷ xs) h =
    let first : bad i x ≡ false = rw (add-zero i) at (h 0 (omega arith)) in
    let next : (j : ℕ) → suc i + j ≡ i + suc j = λ j. omega arith in
    rw (first, all_good (suc i) bad xs (λ j below. rw (next j) (h (suc j) (omega arith))))

-- what a promise says where its table accepts, where it refuses, and of an answer that is no refusal
module _ (refusal : ℕ) (rec before : List ℕ) (r : Result ℕ ℕ) (after : List ℕ) (w : Wrote refusal rec before r after) where
  pub wrote_whole : refusal ≡ 0 → (r ≡ Ok (length rec)) × (after ≡ overlay rec before)
  wrote_whole e = (w.answer ∙ simp e, w.buffer ∙ simp e)

  pub wrote_nothing : (refusal ≡ 0 → ⊥) → (r ≡ Err refusal) × (after ≡ before)
  wrote_nothing h = (w.answer ∙ if_refused refusal h _ _, w.buffer ∙ if_refused refusal h _ _)

  pub wrote_said : {n : ℕ} → r ≡ Ok n → (refusal ≡ 0) × (after ≡ overlay rec before)
  wrote_said {n} ok = by (ℕ_discrete refusal 0)
    where
      by : Dec (refusal ≡ 0) → (refusal ≡ 0) × (after ≡ overlay rec before)
      by (yes e) = (e, (wrote_whole e).1)
      by (no h) = absurd (ok_is_no_error (sym ok ∙ (wrote_nothing h).0))
