-- The code of a place, another one for each, and the place with a code. What the report shows of a place is `shown_of` (Report.antt).
use Rattle.std.specs.Prelude.{ℕ, cond, eqb}
use Rattle.model.specs.declared.Place.{Place}

abbrev pub code_of : Place → ℕ
code_of Place.Rest = 0
code_of Place.Look = 1
code_of Place.Put = 2
code_of Place.Wait = 3
code_of Place.Check = 4
code_of Place.Critical = 5
code_of Place.Flag = 6
code_of Place.Scan = 7
code_of Place.Decided = 8

-- its inverse (proofs/Places.antt, `place_of_code`)
abbrev pub place_of : ℕ → Place
place_of n =
    cond (eqb n 0) Place.Rest
    (cond (eqb n 1) Place.Look
    (cond (eqb n 2) Place.Put
    (cond (eqb n 3) Place.Wait
    (cond (eqb n 4) Place.Check
    (cond (eqb n 5) Place.Critical
    (cond (eqb n 6) Place.Flag
    (cond (eqb n 7) Place.Scan Place.Decided)))))))
