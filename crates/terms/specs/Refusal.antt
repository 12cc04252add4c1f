-- Refusals in order (01, "Numbers for what is refused"). A test gives 0, or the number of what it refuses; `a then b` is the first of the two
-- that is not 0. Tables nest to the left, so that a table cut after any line is a table.
use Rattle.std.specs.Prelude.{Bool, true, false, ◌||◌, List, [], ◌∷◌, ℕ, zero, suc, ltb, Result, Ok, Err}
use Rattle.terms.specs.declared.Refusal.{Refusal}

-- the number k where the test holds
abbrev pub refuse : ℕ → Bool → ℕ
refuse k true = k
refuse k false = 0

infixl 20 ◌then◌
abbrev pub ◌then◌ : ℕ → ℕ → ℕ
zero then b = b
suc a then b = suc a

-- what is answered where a refusal is 0, and where it is not
abbrev pub if_accepted : {A : Type 0} → ℕ → A → A → A
if_accepted zero yea nay = yea
if_accepted (suc k) yea nay = nay

-- x is not one of low .. high
abbrev pub outside : ℕ → ℕ → ℕ → Bool
outside low high x = ltb x low || ltb high x

-- some x of a list is bad at its index; the list's first has the index i
abbrev pub any_from : ℕ → (ℕ → ℕ → Bool) → List ℕ → Bool
any_from i bad [] = false
any_from i bad (x ∷ xs) = bad i x || any_from (suc i) bad xs

-- THE REFUSALS BY NAME: the number of each in 01
abbrev pub number : Refusal → ℕ
number Refusal.SetupCut = 1
number Refusal.SetupMark = 2
number Refusal.Kind = 3
number Refusal.Processes = 4
number Refusal.Size = 5
number Refusal.Start = 6
number Refusal.ReportShort = 7
number Refusal.TraceLong = 8
number Refusal.StepCut = 9
number Refusal.StepMark = 10
number Refusal.Process = 11
number Refusal.Event = 12
number Refusal.Tick = 13
number Refusal.Crashed = 14
number Refusal.Decided = 15
number Refusal.Waiting = 16
number Refusal.Register = 17
number Refusal.Wait = 18
number Refusal.BufferShort = 19

-- the number of what refuses, 0 where nothing does
abbrev pub refusal_in : {A : Type 0} → Result A Refusal → ℕ
refusal_in (Ok x) = 0
refusal_in (Err e) = number e

-- an answer with the refusal's number in place of its name
abbrev pub numbered : {A : Type 0} → Result A Refusal → Result A ℕ
numbered (Ok x) = Ok x
numbered (Err e) = Err (number e)

-- the number of the refusal, 0 for none
abbrev pub number_in : {A : Type 0} → Result A ℕ → ℕ
number_in (Ok x) = 0
number_in (Err k) = k
