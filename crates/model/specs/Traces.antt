-- 01's "Traces to try", P1 to P11, with what 01 says of each; then a few more, which bind what those leave open. proofs/Examples.antt computes them
-- all. Bytes stand here as numbers: no definition of a record makes them.
use Rattle.std.specs.Prelude.{ℕ, ◌+◌, ◌*◌, List, [], ◌∷◌, ◌++◌, take}

-- BYTES

infix 70 ◌moves◌ ◌crashes◌
-- 01's i@t, a move of process i at tick t (below 256); and a crash
abbrev pub ◌moves◌ : ℕ → ℕ → List ℕ
i moves t = 0x4F ∷ 0x54 ∷ i ∷ 0 ∷ t ∷ 0 ∷ 0 ∷ 0 ∷ []

abbrev pub ◌crashes◌ : ℕ → ℕ → List ℕ
i crashes t = 0x4F ∷ 0x54 ∷ i ∷ 1 ∷ t ∷ 0 ∷ 0 ∷ 0 ∷ []

abbrev pub steps : List (List ℕ) → List ℕ
steps [] = []
steps (k ∷ ks) = k ++ steps ks

-- mark, kind, n = 2, ℓ or b, a zero byte, Δ = 2, two start bytes; and steps
abbrev pub lock : ℕ → ℕ → ℕ → List (List ℕ) → List ℕ
lock ℓ c d ks = 0x4F ∷ 0x53 ∷ 1 ∷ 2 ∷ ℓ ∷ 0 ∷ 2 ∷ 0 ∷ c ∷ d ∷ steps ks

abbrev pub plain : List (List ℕ) → List ℕ
plain ks = 0x4F ∷ 0x53 ∷ 2 ∷ 2 ∷ 2 ∷ 0 ∷ 2 ∷ 0 ∷ 1 ∷ 2 ∷ steps ks

abbrev pub fast : ℕ → ℕ → ℕ → List (List ℕ) → List ℕ
fast b v w ks = 0x4F ∷ 0x53 ∷ 3 ∷ 2 ∷ b ∷ 0 ∷ 2 ∷ 0 ∷ v ∷ w ∷ steps ks

-- the setup and the first k records
abbrev pub first : ℕ → List ℕ → List ℕ
first k trace = take (10 + 8 * k) trace

-- THE TRACES

abbrev pub p1 : List ℕ
p1 = plain (1 moves 0 ∷ 1 moves 1 ∷ 1 moves 1 ∷ 1 moves 2 ∷ 1 moves 4 ∷ [])

abbrev pub p2 : List ℕ
p2 = plain (1 moves 0 ∷ 1 moves 1 ∷ 1 moves 1 ∷ 1 moves 2 ∷ 1 moves 5 ∷ [])

abbrev pub p3 : List ℕ
p3 = plain (1 moves 0 ∷ 1 moves 2 ∷ [])

abbrev pub p4 : List ℕ
p4 = plain (1 moves 0 ∷ 1 moves 3 ∷ [])

-- the beginning of P5 and P6
abbrev pub beginning : List (List ℕ) → List (List ℕ)
beginning ks = 2 moves 0 ∷ 1 moves 0 ∷ 1 moves 0 ∷ 1 moves 0 ∷ 1 moves 0 ∷ ks

abbrev pub p5 : List ℕ
p5 = plain (beginning (2 moves 2 ∷ 1 moves 3 ∷ 2 moves 3 ∷ 2 moves 3 ∷ 2 moves 6 ∷ []))

abbrev pub p6 : List ℕ
p6 = plain (beginning (1 moves 3 ∷ 2 moves 3 ∷ 2 moves 3 ∷ 2 moves 3 ∷ 2 moves 6 ∷ []))

-- P7's steps, and then others
abbrev pub enters : List (List ℕ) → List (List ℕ)
enters ks = 1 moves 0 ∷ 1 moves 0 ∷ 1 moves 1 ∷ 1 moves 1 ∷ 1 moves 4 ∷ ks

abbrev pub p7 : List ℕ
p7 = lock 1 0 0 (enters [])

abbrev pub p8 : List ℕ
p8 = lock 1 0 0 (enters (2 moves 4 ∷ 2 moves 4 ∷ []))

abbrev pub p9 : List ℕ
p9 = lock 2 0 0 (enters (2 moves 4 ∷ 2 moves 4 ∷ 2 moves 4 ∷ 2 moves 5 ∷ 2 moves 5 ∷ 2 moves 8 ∷ []))

abbrev pub p10 : List ℕ
p10 = fast 2 2 2 (1 moves 0 ∷ 1 moves 0 ∷ 1 moves 0 ∷ 1 moves 0 ∷ 1 moves 0 ∷ 1 moves 0 ∷ [])

abbrev pub p11 : List ℕ
p11 = fast 2 1 2 (1 moves 0 ∷ 2 moves 0 ∷ 1 moves 0 ∷ 1 moves 0 ∷ 1 moves 0 ∷ 1 moves 0 ∷ 1 moves 0 ∷ 1 moves 3 ∷ [])

-- P5 with 1@2 put before 2@2 (01, "Slips that look right")
abbrev pub wait_too_short : List ℕ
wait_too_short = plain (beginning (1 moves 2 ∷ 2 moves 2 ∷ []))

-- nothing to scan
abbrev pub one_value : List ℕ
one_value = fast 1 1 1 (1 moves 0 ∷ 1 moves 0 ∷ 1 moves 0 ∷ 1 moves 0 ∷ 1 moves 0 ∷ [])

-- a late write of the lock, on slot 1
abbrev pub late_lock : List ℕ
late_lock = lock 2 1 0 (1 moves 0 ∷ 1 moves 0 ∷ 1 moves 3 ∷ 1 moves 3 ∷ [])

-- one late write of the plain decision
abbrev pub late_once : List ℕ
late_once = plain (1 moves 0 ∷ 1 moves 3 ∷ 1 moves 3 ∷ 1 moves 3 ∷ 1 moves 3 ∷ 1 moves 3 ∷ 1 moves 6 ∷ [])

-- a crash of one who has decided, before the other decides; and of one who waits
abbrev pub crashes_decided : List ℕ
crashes_decided =
    plain (1 moves 0 ∷ 1 moves 1 ∷ 1 moves 1 ∷ 1 moves 2 ∷ 1 moves 5 ∷ 1 crashes 5 ∷ 2 moves 5 ∷ 2 moves 5 ∷ 2 moves 8 ∷ [])

abbrev pub crashes_waiting : List ℕ
crashes_waiting = plain (1 moves 0 ∷ 1 moves 1 ∷ 1 moves 1 ∷ 1 moves 2 ∷ 1 crashes 3 ∷ [])

-- a crash inside, and the move out
abbrev pub crashes_inside : List ℕ
crashes_inside = lock 1 0 0 (enters (1 crashes 4 ∷ []))

abbrev pub leaves : List ℕ
leaves = lock 1 0 0 (enters (1 moves 9 ∷ 2 moves 9 ∷ 2 moves 9 ∷ []))

-- THE CASES

-- what a run of a trace returns, leaves in a report of nine 7s, and leaves in the registers (none are told of a refused run)
pub record Case : Type 0 where
  pub trace : List ℕ
  pub number : ℕ
  pub at : ℕ
  pub report : List ℕ
  pub registers : List ℕ

-- a process's place, second figure, moves and late writes; what registers 0 and 1 hold, with the others empty
abbrev pub shows : ℕ → ℕ → ℕ → ℕ → List ℕ
shows place figure made late = place ∷ figure ∷ made ∷ late ∷ []

abbrev pub hold : ℕ → ℕ → List ℕ
hold x y = x ∷ y ∷ 0 ∷ 0 ∷ 0 ∷ 0 ∷ 0 ∷ 0 ∷ []

-- the first k records of a trace are accepted, and then processes 1 and 2 and the registers stand so
abbrev pub stands : List ℕ → ℕ → List ℕ → List ℕ → List ℕ → Case
stands s k x y held = record { trace = first k s; number = 0; at = k; report = x ++ y ++ (7 ∷ []); registers = held }

-- a trace is refused with number x at record k
abbrev pub refused : List ℕ → ℕ → ℕ → Case
refused s x k = record { trace = s; number = x; at = k; report = 7 ∷ 7 ∷ 7 ∷ 7 ∷ 7 ∷ 7 ∷ 7 ∷ 7 ∷ 7 ∷ []; registers = [] }

abbrev pub cases : List Case
cases =
    -- P1: 1@4 is refused 16
    stands p1 4 (shows 4 0 4 0) (shows 1 0 0 0) (hold 1 0)
    ∷ refused p1 16 5
    -- P2: decides 1, 5 moves
    ∷ stands p2 5 (shows 8 1 5 0) (shows 1 0 0 0) (hold 1 0)
    -- P3: done. P4: late, register empty, process at 1
    ∷ stands p3 2 (shows 1 0 2 0) (shows 1 0 0 0) (hold 1 0)
    ∷ stands p4 2 (shows 1 0 2 1) (shows 1 0 0 0) (hold 0 0)
    -- P5: 2@2 done, 1@3: process 1 decides 2, not its own proposal; then 2 decides 2
    ∷ stands p5 5 (shows 4 0 4 0) (shows 2 0 1 0) (hold 1 0)
    ∷ stands p5 6 (shows 4 0 4 0) (shows 1 0 2 0) (hold 2 0)
    ∷ stands p5 7 (shows 8 2 5 0) (shows 1 0 2 0) (hold 2 0)
    ∷ stands p5 10 (shows 8 2 5 0) (shows 8 2 5 0) (hold 2 0)
    -- P6: 1@3 decides 1, 2@3 late (with one deadline for all processes it would be done); 2 decides 1 with 5 moves, 1 late
    ∷ stands p6 6 (shows 8 1 5 0) (shows 2 0 1 0) (hold 1 0)
    ∷ stands p6 7 (shows 8 1 5 0) (shows 1 0 2 1) (hold 1 0)
    ∷ stands p6 10 (shows 8 1 5 0) (shows 8 1 5 1) (hold 1 0)
    -- P7: critical. P8: process 2 stays at 1
    ∷ stands p7 5 (shows 5 0 5 0) (shows 0 0 0 0) (hold 1 0)
    ∷ stands p8 6 (shows 5 0 5 0) (shows 1 0 1 0) (hold 1 0)
    ∷ stands p8 7 (shows 5 0 5 0) (shows 1 0 2 0) (hold 1 0)
    -- P9: critical on slot 1, two inside
    ∷ stands p9 5 (shows 5 0 5 0) (shows 0 0 0 0) (hold 1 0)
    ∷ stands p9 7 (shows 5 0 5 0) (shows 1 1 2 0) (hold 1 0)
    ∷ stands p9 11 (shows 5 0 5 0) (shows 5 1 6 0) (hold 1 2)
    -- P10: decides 2 without a wait; the scan comes after the register was found filled
    ∷ stands p10 2 (shows 2 0 2 0) (shows 6 0 0 0) (hold 0 0)
    ∷ stands p10 4 (shows 7 0 4 0) (shows 6 0 0 0) (hold 2 0)
    ∷ stands p10 6 (shows 8 2 6 0) (shows 6 0 0 0) (hold 2 0)
    -- P11: decides 1 with 7 moves, the fast decision's bound; the flag of 2 sends it to wait
    ∷ stands p11 6 (shows 3 0 5 0) (shows 1 0 1 0) (hold 1 0)
    ∷ stands p11 8 (shows 8 1 7 0) (shows 1 0 1 0) (hold 1 0)
    -- empty input; setup only
    ∷ refused [] 1 0
    ∷ stands (plain []) 0 (shows 1 0 0 0) (shows 1 0 0 0) (hold 0 0)
    -- the wait ends after t + Δ, not at it
    ∷ refused wait_too_short 16 6
    -- with b = 1 look goes to check
    ∷ stands one_value 4 (shows 4 0 4 0) (shows 6 0 0 0) (hold 1 0)
    ∷ stands one_value 5 (shows 8 1 5 0) (shows 6 0 0 0) (hold 1 0)
    -- a late write of the lock goes to check, and then to look with the same c
    ∷ stands late_lock 3 (shows 4 1 3 1) (shows 0 0 0 0) (hold 0 0)
    ∷ stands late_lock 4 (shows 1 1 4 1) (shows 0 0 0 0) (hold 0 0)
    -- one late write and seven moves: the plain decision's bound
    ∷ stands late_once 7 (shows 8 1 7 1) (shows 1 0 0 0) (hold 1 0)
    -- a crash of the decided and of the waiting: place 9, and the other three figures stay
    ∷ stands crashes_decided 6 (shows 9 1 5 0) (shows 1 0 0 0) (hold 1 0)
    ∷ stands crashes_decided 9 (shows 9 1 5 0) (shows 8 1 3 0) (hold 1 0)
    ∷ stands crashes_waiting 5 (shows 9 0 4 0) (shows 1 0 0 0) (hold 1 0)
    -- a crash of one inside leaves the register; who leaves empties it
    ∷ stands crashes_inside 6 (shows 9 0 5 0) (shows 0 0 0 0) (hold 1 0)
    ∷ stands leaves 6 (shows 0 0 6 0) (shows 0 0 0 0) (hold 0 0)
    ∷ stands leaves 8 (shows 0 0 6 0) (shows 2 0 2 0) (hold 0 0)
    -- a step of the dead, a move of the decided, a tick that goes back
    ∷ refused (plain (1 crashes 0 ∷ 1 moves 0 ∷ [])) 14 2
    ∷ refused (plain (1 moves 0 ∷ 1 moves 1 ∷ 1 moves 1 ∷ 1 moves 2 ∷ 1 moves 5 ∷ 1 moves 5 ∷ [])) 15 6
    ∷ refused (plain (2 crashes 1 ∷ 1 moves 0 ∷ [])) 13 2
    ∷ []
