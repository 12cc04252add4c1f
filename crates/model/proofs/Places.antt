-- Classes of places, as tests on a code, and statements on every place that one computed test proves.
-- Assumes nothing.
use mathlib.Core.Bool.{Bool, true, false, not, ◌&&◌, ◌||◌}
use mathlib.Core.Path.{◌≡◌, refl, sym, ap, ◌∙◌}
use lib.Dec.{T, eqb, leb}
use Rattle.model.specs.declared.Place.{Place}
use Rattle.model.specs.Places.{code_of, place_of}
use Rattle.model.specs.Routine.{Routine}

-- THE CODE

-- a code is that of one place
pub place_of_code : (p : Place) → place_of (code_of p) ≡ p
place_of_code Place.Rest = refl
place_of_code Place.Look = refl
place_of_code Place.Put = refl
place_of_code Place.Wait = refl
place_of_code Place.Check = refl
place_of_code Place.Critical = refl
place_of_code Place.Flag = refl
place_of_code Place.Scan = refl
place_of_code Place.Decided = refl

pub one_place : (p q : Place) → code_of p ≡ code_of q → p ≡ q
one_place p q e = sym (place_of_code p) ∙ ap place_of e ∙ place_of_code q

-- CLASSES

-- the places of the lock, and those of each routine
abbrev pub of_lock : Place → Bool
of_lock p = leb (code_of p) 5

abbrev pub in_kind : Routine → Place → Bool
in_kind (Routine.Lock how) p = of_lock p
in_kind Routine.Plain p = (leb 1 (code_of p) && leb (code_of p) 4) || eqb (code_of p) 8
in_kind Routine.Fast p = (leb 1 (code_of p) && leb (code_of p) 4) || (leb 6 (code_of p) && leb (code_of p) 8)

-- the routines that decide by the timed register
abbrev pub timed_decision : Routine → Bool
timed_decision (Routine.Lock how) = false
timed_decision Routine.Plain = true
timed_decision Routine.Fast = true

-- the place where a process of a routine begins; that, or a blank row's
abbrev pub start_place : Routine → Place
start_place (Routine.Lock how) = Place.Rest
start_place Routine.Plain = Place.Look
start_place Routine.Fast = Place.Flag

abbrev pub begins : Routine → Place → Bool
begins κ p = eqb (code_of p) 0 || eqb (code_of p) (code_of (start_place κ))

-- at look; at put; at scan; at look or put; decided
abbrev pub looking : Place → Bool
looking p = eqb (code_of p) 1

abbrev pub putting : Place → Bool
putting p = eqb (code_of p) 2

abbrev pub scanning : Place → Bool
scanning p = eqb (code_of p) 7

abbrev pub raised : Place → Bool
raised p = eqb (code_of p) 1 || eqb (code_of p) 2

abbrev pub concluded : Place → Bool
concluded p = eqb (code_of p) 8

-- in a decision: about to check, or decided; past a look that found the register filled
abbrev pub checking : Place → Bool
checking p = eqb (code_of p) 4 || eqb (code_of p) 8

abbrev pub past : Place → Bool
past p = (eqb (code_of p) 3 || eqb (code_of p) 4) || (leb 7 (code_of p) && leb (code_of p) 8)

-- in the lock: inside; about to check, or inside; with a number that may stand in a register
abbrev pub inside : Place → Bool
inside p = eqb (code_of p) 5

abbrev pub claiming : Place → Bool
claiming p = leb 4 (code_of p) && leb (code_of p) 5

abbrev pub holding : Place → Bool
holding p = leb 3 (code_of p) && leb (code_of p) 5

-- ON EVERY PLACE

pub and_left : (a b : Bool) → T (a && b) → T a
and_left true b t = tt
and_left false b t = t

pub and_right : (a b : Bool) → T (a && b) → T b
and_right true b t = t
and_right false b t = absurd t

-- a test holds at every place
abbrev pub everywhere : (Place → Bool) → Bool
everywhere f =
    ((f Place.Rest && f Place.Look) && (f Place.Put && f Place.Wait))
    && (((f Place.Check && f Place.Critical) && (f Place.Flag && f Place.Scan)) && f Place.Decided)

pub every_place : (f : Place → Bool) → T (everywhere f) → (p : Place) → T (f p)
every_place f t p =
    let low : Bool = (f Place.Rest && f Place.Look) && (f Place.Put && f Place.Wait) in
    let mid : Bool = (f Place.Check && f Place.Critical) && (f Place.Flag && f Place.Scan) in
    let x = and_left low (mid && f Place.Decided) t in
    let y = and_right low (mid && f Place.Decided) t in
    let z = and_left mid (f Place.Decided) y in
    let x0 = and_left (f Place.Rest && f Place.Look) (f Place.Put && f Place.Wait) x in
    let x1 = and_right (f Place.Rest && f Place.Look) (f Place.Put && f Place.Wait) x in
    let z0 = and_left (f Place.Check && f Place.Critical) (f Place.Flag && f Place.Scan) z in
    let z1 = and_right (f Place.Check && f Place.Critical) (f Place.Flag && f Place.Scan) z in
    elim p as (λ v. T (f v)) [
      | Place.Rest ↦ and_left (f Place.Rest) (f Place.Look) x0
      | Place.Look ↦ and_right (f Place.Rest) (f Place.Look) x0
      | Place.Put ↦ and_left (f Place.Put) (f Place.Wait) x1
      | Place.Wait ↦ and_right (f Place.Put) (f Place.Wait) x1
      | Place.Check ↦ and_left (f Place.Check) (f Place.Critical) z0
      | Place.Critical ↦ and_right (f Place.Check) (f Place.Critical) z0
      | Place.Flag ↦ and_left (f Place.Flag) (f Place.Scan) z1
      | Place.Scan ↦ and_right (f Place.Flag) (f Place.Scan) z1
      | Place.Decided ↦ and_right mid (f Place.Decided) y
    ]

apply : (a b : Bool) → T (not a || b) → T a → T b
apply true b t h = t
apply false b t h = absurd h

clash : (a b : Bool) → T (not (a && b)) → T a → T b → ⊥
clash true true t h g = t
clash true false t h g = g
clash false b t h g = h

-- one test implies another at every place; two tests never hold at once
pub imply : (f g : Place → Bool) → T (everywhere (λ p. not (f p) || g p)) → (p : Place) → T (f p) → T (g p)
imply f g t p = apply (f p) (g p) (every_place (λ q. not (f q) || g q) t p)

pub differ : (f g : Place → Bool) → T (everywhere (λ p. not (f p && g p))) → (p : Place) → T (f p) → T (g p) → ⊥
differ f g t p = clash (f p) (g p) (every_place (λ q. not (f q && g q)) t p)

-- the class of the decided is one place
pub decided_place : (p : Place) → T (concluded p) → p ≡ Place.Decided
decided_place Place.Rest h = absurd h
decided_place Place.Look h = absurd h
decided_place Place.Put h = absurd h
decided_place Place.Wait h = absurd h
decided_place Place.Check h = absurd h
decided_place Place.Critical h = absurd h
decided_place Place.Flag h = absurd h
decided_place Place.Scan h = absurd h
decided_place Place.Decided h = refl
