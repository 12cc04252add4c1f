-- Laws of refusal tables: how a table is read forwards (a test that holds, one that does not) and backwards (what an accepted table says).
-- Assumes nothing.
use mathlib.Core.Path.{◌≡◌, refl, sym, ap, ◌∙◌}
use mathlib.Core.Bool.{Bool, true, false, ◌||◌, ◌&&◌, true≢false, false≢true}
use mathlib.Core.List.{List, [], ◌∷◌}
use Prim.Native.Nat.{ℕ, zero, suc, ◌-◌, ◌≤◌}
use native.Mathlib.Omega.{arith}
use borrow.Author.Tests.{ltb-false, le-ltb}
use lib.ListN.{get_or}
use lib.Dec.{ltb}
use Rattle.std.specs.Prelude.{Result, Ok, Err}
use Rattle.std.specs.Result.{result_unwrap_or}
use Rattle.terms.specs.declared.Refusal.{Refusal}
use Rattle.terms.specs.Refusal.{refuse, ◌then◌, if_accepted, outside, number, refusal_in, numbered, number_in}

-- a test that accepts hands on, and one that refuses decides
pub then_on : (a b : ℕ) → a ≡ 0 → (a then b) ≡ b
then_on zero b h = refl
then_on (suc a) b h = absurd (omega arith)

pub then_stop : (a : ℕ) → (a ≡ 0 → ⊥) → (b : ℕ) → (a then b) ≡ a
then_stop zero h b = absurd (h refl)
then_stop (suc a) h b = refl

-- both parts of an accepted table accept
pub then_both : (a b : ℕ) → (a then b) ≡ 0 → (a ≡ 0) × (b ≡ 0)
then_both zero b h = (refl, h)
then_both (suc a) b h = absurd (omega arith)

pub refuse-false : (k : ℕ) (t : Bool) → refuse (suc k) t ≡ 0 → t ≡ false
refuse-false k true h = absurd (omega arith)
refuse-false k false h = refl

-- the last test of an accepted table
pub passed : (k a : ℕ) (t : Bool) → (a then refuse (suc k) t) ≡ 0 → (a ≡ 0) × (t ≡ false)
passed k a t h = let both = then_both a (refuse (suc k) t) h in (both.0, refuse-false k t both.1)

pub if_accepted_lem : (k : ℕ) → k ≡ 0 → {A : Type 0} (yea nay : A) → if_accepted k yea nay ≡ yea
if_accepted_lem zero h yea nay = refl
if_accepted_lem (suc k) h yea nay = absurd (omega arith)

pub if_refused : (k : ℕ) → (k ≡ 0 → ⊥) → {A : Type 0} (yea nay : A) → if_accepted k yea nay ≡ nay
if_refused zero h yea nay = absurd (h refl)
if_refused (suc k) h yea nay = refl

pub both_false : (a b : Bool) → (a || b) ≡ false → (a ≡ false) × (b ≡ false)
both_false true b h = absurd (true≢false h)
both_false false b h = (refl, h)

pub both_true : (a b : Bool) → (a && b) ≡ true → (a ≡ true) × (b ≡ true)
both_true true b h = (refl, h)
both_true false b h = absurd (false≢true h)

pub inside : (low high x : ℕ) → low ≤ x → x ≤ high → outside low high x ≡ false
inside low high x l h = simp (le-ltb x low l, le-ltb high x h)

pub not_outside : (low high x : ℕ) → outside low high x ≡ false → (low ≤ x) × (x ≤ high)
not_outside low high x e =
    let both = both_false (ltb x low) (ltb high x) e in
    (ltb-false x low both.0, ltb-false high x both.1)

-- WHAT REFUSES, BY NAME

-- the names in the order of their numbers: a number has one name
abbrev in_order : List Refusal
in_order =
    Refusal.SetupCut ∷ Refusal.SetupMark ∷ Refusal.Kind ∷ Refusal.Processes ∷ Refusal.Size ∷ Refusal.Start ∷ Refusal.ReportShort ∷
    Refusal.TraceLong ∷ Refusal.StepCut ∷ Refusal.StepMark ∷ Refusal.Process ∷ Refusal.Event ∷ Refusal.Tick ∷ Refusal.Crashed ∷
    Refusal.Decided ∷ Refusal.Waiting ∷ Refusal.Register ∷ Refusal.Wait ∷ Refusal.BufferShort ∷ []

abbrev named : ℕ → Refusal
named k = get_or in_order (k - 1) Refusal.BufferShort

named_number : (e : Refusal) → named (number e) ≡ e
named_number Refusal.SetupCut = refl
named_number Refusal.SetupMark = refl
named_number Refusal.Kind = refl
named_number Refusal.Processes = refl
named_number Refusal.Size = refl
named_number Refusal.Start = refl
named_number Refusal.ReportShort = refl
named_number Refusal.TraceLong = refl
named_number Refusal.StepCut = refl
named_number Refusal.StepMark = refl
named_number Refusal.Process = refl
named_number Refusal.Event = refl
named_number Refusal.Tick = refl
named_number Refusal.Crashed = refl
named_number Refusal.Decided = refl
named_number Refusal.Waiting = refl
named_number Refusal.Register = refl
named_number Refusal.Wait = refl
named_number Refusal.BufferShort = refl

pub same_name : (d e : Refusal) → number d ≡ number e → d ≡ e
same_name d e h = sym (named_number d) ∙ ap named h ∙ named_number e

-- none has the number 0
pub some_number : (e : Refusal) → number e ≡ 0 → ⊥
some_number Refusal.SetupCut h = absurd (omega (arith, h))
some_number Refusal.SetupMark h = absurd (omega (arith, h))
some_number Refusal.Kind h = absurd (omega (arith, h))
some_number Refusal.Processes h = absurd (omega (arith, h))
some_number Refusal.Size h = absurd (omega (arith, h))
some_number Refusal.Start h = absurd (omega (arith, h))
some_number Refusal.ReportShort h = absurd (omega (arith, h))
some_number Refusal.TraceLong h = absurd (omega (arith, h))
some_number Refusal.StepCut h = absurd (omega (arith, h))
some_number Refusal.StepMark h = absurd (omega (arith, h))
some_number Refusal.Process h = absurd (omega (arith, h))
some_number Refusal.Event h = absurd (omega (arith, h))
some_number Refusal.Tick h = absurd (omega (arith, h))
some_number Refusal.Crashed h = absurd (omega (arith, h))
some_number Refusal.Decided h = absurd (omega (arith, h))
some_number Refusal.Waiting h = absurd (omega (arith, h))
some_number Refusal.Register h = absurd (omega (arith, h))
some_number Refusal.Wait h = absurd (omega (arith, h))
some_number Refusal.BufferShort h = absurd (omega (arith, h))

-- what refuses decides a table; where nothing does, the rest of it
pub stops : (e : Refusal) (a b : ℕ) → number e ≡ a → number e ≡ (a then b)
stops e a b h = rw (← h, then_stop (number e) (some_number e) b)

pub goes_on : (a b : ℕ) → 0 ≡ a → {k : ℕ} → k ≡ b → k ≡ (a then b)
goes_on a b h e = rw (← h) e

-- both, for the tests of a table by `?`
pub ruleset in_turn = (stops, goes_on)

-- an answer is settled by its numbers
pub refusal_settles : (x y : Result (Unit {0}) Refusal) → refusal_in x ≡ refusal_in y → x ≡ y
refusal_settles (Ok a) (Ok b) h = refl
refusal_settles (Ok a) (Err e) h = absurd (some_number e (sym h))
refusal_settles (Err e) (Ok b) h = absurd (some_number e h)
refusal_settles (Err d) (Err e) h = ap Err (same_name d e h)

pub ok_is_no_error : {A E : Type 0} {x : A} {e : E} → ◌≡◌ {A = Result A E} (Ok x) (Err e) → ⊥
ok_is_no_error h = cc

-- the same of an answer with its number
pub numbers_settle : {A : Type 0} (x y : Result A Refusal) → numbered x ≡ numbered y → x ≡ y
numbers_settle (Ok a) (Ok b) h = ap Ok (ap (λ r. result_unwrap_or r a) h)
numbers_settle (Ok a) (Err e) h = absurd (ok_is_no_error h)
numbers_settle (Err e) (Ok b) h = absurd (ok_is_no_error (sym h))
numbers_settle (Err d) (Err e) h = ap Err (same_name d e (ap number_in h))

-- what an answer by a table says of it
pub accepted_says : (k : ℕ) {A : Type 0} (x : A) {y : A} → Ok y ≡ if_accepted k (Ok x) (Err k) → (k ≡ 0) × (y ≡ x)
accepted_says zero x e = (refl, ap (λ r. result_unwrap_or r x) e)
accepted_says (suc k) x e = absurd (ok_is_no_error e)

pub refused_says : (k : ℕ) {A : Type 0} (x : A) {n : ℕ} → Err n ≡ if_accepted k (Ok x) (Err k) → (k ≡ n) × (n ≡ 0 → ⊥)
refused_says zero x e = absurd (ok_is_no_error (sym e))
refused_says (suc k) x {n} e =
    let same : n ≡ suc k = ap number_in e in
    (sym same, λ z. absurd (omega (arith, same, z)))

-- and what such an answer is
pub answers_refused : (k : ℕ) {A : Type 0} (x : A) (e : Refusal) → number e ≡ k → numbered (Err e) ≡ if_accepted k (Ok x) (Err k)
answers_refused k x e h = rw (← h) (sym (if_refused (number e) (some_number e) _ _))

pub answers_accepted : (k : ℕ) {A : Type 0} (x : A) → 0 ≡ k → Ok x ≡ if_accepted k (Ok x) (Err k)
answers_accepted k x h = sym (if_accepted_lem k (sym h) _ _)
