-- Along a trace of a decision: where the register's value came from, and how many moves a process can have made at each place.
-- Assumes nothing.
use Prim.Native.Nat.{ℕ, ◌+◌, ◌*◌, ◌≤◌, ◌<◌}
use mathlib.Core.Path.{◌≡◌, refl, sym, subst, ◌∙◌}
use mathlib.Core.Logic.{◌≢◌}
use mathlib.Core.Bool.{Bool, true, false, not, cond, ◌&&◌, ◌||◌}
use native.Mathlib.Omega.{arith}
use native.Mathlib.Decide.{dec_lt}
use lib.Dec.{T, eqb, leb}
use borrow.Author.Tests.{eqb-true, eqb-false, leb-true, le-leb}
use Rattle.model.specs.declared.Place.{Place}
use Rattle.model.specs.declared.Shape.{Shape}
use Rattle.model.specs.declared.Local.{Local}
use Rattle.model.specs.declared.Row.{Row}
use Rattle.model.specs.Time.{wake_at}
use Rattle.model.specs.Routine.{Routine, routine, to, scans, counted, crash, scan_at, plain_next, fast_next, next_of}
use Rattle.model.specs.Claims.{Within}
use Rattle.model.proofs.Places.{and_left, and_right, everywhere, every_place, imply, differ, timed_decision, in_kind, begins, putting, scanning}
use Rattle.model.proofs.Places.{looking, past, concluded, inside, decided_place}
use Rattle.model.proofs.World.{Seat, Commons, World, Clock, Pace, clock, Moves, put, put_all, put_same, slot_at, own_of}
use Rattle.model.proofs.DecideSafe.{put_at}
use Rattle.model.proofs.Keeping.{RowOk}
use Rattle.model.proofs.Invariants.{Along, Unmoved, Bare}

-- WHERE THE VALUE CAME FROM

-- the register's value after a move of m: as before, or m's own
data From (w : World) (m y : ℕ) : Type 0 where
  same : y ≡ w.value 0 → From w m y
  mine : y ≡ own_of (w.seat m) → From w m y

from : {k : Clock} {w : World} {m t : ℕ} {p : Place} {b : Bool} {x : ℕ} {v : ℕ → ℕ} {g : Commons} {d : ℕ} → slot_at (w.seat m) ≡ 0 → T (not (inside p))
    → Moves k w m t p b x v g d → From w m (v 0)
from z o Moves.leaves = same refl
from z o (Moves.finds a q) = same refl
from z o (Moves.meets a) = same refl
from z o Moves.fails = same refl
from {w = w} {m = m} z o (Moves.stores h) = mine (put_at w.value (slot_at (w.seat m)) (own_of (w.seat m)) z)
from z o Moves.pauses = same refl
from z o (Moves.knows h q) = same refl
from z o (Moves.learns h) = same refl
from z o (Moves.clears h) = absurd o
from z o (Moves.sticks h) = absurd o
from z o Moves.raises = same refl
from z o (Moves.passes h) = same refl
from z o (Moves.halts h) = same refl

-- a row of a decision uses register 0, and its process is never inside
record Deciding (r : Row) : Type 0 where
  slot : r.local.slot.0 ≡ 0
  outside : T (not (inside r.local.place))
  real : r.own ≢ 0

deciding : (κ : Routine) (u : Shape) (j : ℕ) (r : Row) → T (timed_decision κ) → j < u.count → RowOk κ u j r → Deciding r
deciding (Routine.Lock how) u j r n h ok = absurd n
deciding Routine.Plain u j r n h ok =
    record {
      slot = ok.slot;
      outside = imply (in_kind Routine.Plain) (λ p. not (inside p)) tt r.local.place (ok.place h);
      real = λ z. omega (arith, ok.own h);
    }
deciding Routine.Fast u j r n h ok =
    record {
      slot = ok.slot;
      outside = imply (in_kind Routine.Fast) (λ p. not (inside p)) tt r.local.place (ok.place h);
      real = λ z. omega (arith, ok.own h);
    }

-- a process that moved, with that proposal
pub record Proposer (n y : ℕ) (seat : ℕ → Seat) : Type 0 where
  pub who : ℕ
  pub among : who < n
  pub proposed : own_of (seat who) ≡ y
  pub active : 0 < (seat who).row.moves

abbrev pub HasProposer : ℕ → World → Type 0
HasProposer n w = w.value 0 ≢ 0 → Proposer n (w.value 0) w.seat

-- a seat with the same proposal and no fewer moves
pub proposer_stays : (n y m : ℕ) (seat : ℕ → Seat) (s : Seat) → own_of s ≡ own_of (seat m) → (seat m).row.moves ≤ s.row.moves → Proposer n y seat
    → Proposer n y (put seat m s)
proposer_stays n y m seat s e h p =
    let q =
    put_all (λ i x. (own_of x ≡ own_of (seat i)) × ((seat i).row.moves ≤ x.row.moves)) {f = seat} {i = m} {a = s} (e, h) (λ i o. (refl, omega arith))
    p.who in
    record { who = p.who; among = p.among; proposed = q.0 ∙ p.proposed; active = omega (arith, q.1, p.active) }

pub proposed_along : (c : Pace) (u : Shape) → T (timed_decision (routine u)) → Along c u (HasProposer u.count)
proposed_along c u n =
    record {
      on_move =
          λ w m t l h e q ok inv rule old.
          let dg = deciding (routine u) u m (w.seat m).row n h ok in
          go w m h old _ refl (omega arith) (from dg.slot (rw e at dg.outside) rule);
      on_crash = λ w m t old z. proposer_stays u.count _ m w.seat _ refl (omega arith) (old z);
    }
  where
    go : (w : World) (m : ℕ) {y : ℕ} → m < u.count → HasProposer u.count w → (s : Seat) → own_of s ≡ own_of (w.seat m)
        → (w.seat m).row.moves < s.row.moves
        → From w m y → y ≢ 0 → Proposer u.count y (put w.seat m s)
    go w m h old s e g (same q) z = rw q (proposer_stays u.count _ m w.seat s e (omega arith) (old (rw q at z)))
    go w m h old s e g (mine q) z =
        record { who = m; among = h; proposed = rw put_same (e ∙ sym q); active = rw put_same (omega arith) }

pub proposed_start : (u : Shape) (w : World) → Bare (routine u) w → HasProposer u.count w
proposed_start u w bare z = absurd (z (bare.value 0))

-- HOW MANY MOVES

-- the most moves of a process at each place, beside two for each late write; in the fast decision, b more where the scan has begun
abbrev pub plain_most : Place → ℕ
plain_most Place.Rest = 0
plain_most Place.Look = 2
plain_most Place.Put = 1
plain_most Place.Wait = 3
plain_most Place.Check = 4
plain_most Place.Critical = 0
plain_most Place.Flag = 0
plain_most Place.Scan = 0
plain_most Place.Decided = 5

abbrev pub fast_most : Place → ℕ
fast_most Place.Rest = 0
fast_most Place.Look = 3
fast_most Place.Put = 2
fast_most Place.Wait = 3
fast_most Place.Check = 4
fast_most Place.Critical = 0
fast_most Place.Flag = 0
fast_most Place.Scan = 2
fast_most Place.Decided = 5

-- a moves and l late writes: at most `most`, and at a look only `first` while the register, with the value y, is still empty
pub record Most (most first : ℕ) (looks : Bool) (y a l : ℕ) : Type 0 where
  pub all : a ≤ 2 * l + most
  pub empty : T looks → y ≡ 0 → a ≤ 2 * l + first

-- of a scan at value s: it never stands at the own value, and the values passed are counted
pub record ScanCap (size own s a l : ℕ) : Type 0 where
  pub skips : s ≢ own
  pub beyond : own < s → a + 2 ≤ 2 * l + 4 + s
  pub before : s < own → a + 1 ≤ 2 * l + 4 + s

pub record FastCap (size : ℕ) (p : Place) (y own s a l : ℕ) : Type 0 where
  pub most : Most (cond (past p) size 0 + fast_most p) 1 (looking p) y a l
  pub scans : T (scanning p) → ScanCap size own s a l

abbrev pub Cap : Routine → Shape → ℕ → Row → Type 0
Cap (Routine.Lock how) u y r = Unit {0}
Cap Routine.Plain u y r = Most (0 + plain_most r.local.place) 0 (looking r.local.place) y r.moves r.lates
Cap Routine.Fast u y r = FastCap u.size r.local.place y r.own r.local.scan r.moves r.lates

-- a register that is filled stays filled
most_stays : {m f : ℕ} {b : Bool} {y z a l : ℕ} → (z ≡ 0 → y ≡ 0) → Most m f b y a l → Most m f b z a l
most_stays h c = record { all = c.all; empty = λ x e. c.empty x (h e) }

cap_stays : (κ : Routine) (u : Shape) (y z : ℕ) (r : Row) → (z ≡ 0 → y ≡ 0) → Cap κ u y r → Cap κ u z r
cap_stays (Routine.Lock how) u y z r h c = tt
cap_stays Routine.Plain u y z r h c = most_stays h c
cap_stays Routine.Fast u y z r h c = record { most = most_stays h c.most; scans = c.scans }

-- at no look
elsewhere : {m f y a l : ℕ} → a ≤ 2 * l + m → Most m f false y a l
elsewhere h = record { all = h; empty = λ x. absurd x }

module _ (k : Clock) (w : World) (m t : ℕ) (dg : Deciding (w.seat m).row) (l : Bool) (u : ℕ) where
  -- after one move more, at place p
  abbrev PlainAt : Place → ℕ → Type 0
  PlainAt p y = Most (0 + plain_most p) 0 (looking p) y ((w.seat m).row.moves + 1) ((w.seat m).row.lates + cond l 1 0)

  -- a value that was written is there
  written : {x : ℕ} → put w.value (slot_at (w.seat m)) (own_of (w.seat m)) 0 ≡ 0 → x ≡ 0
  written e = absurd (dg.real (sym (put_at w.value (slot_at (w.seat m)) (own_of (w.seat m)) dg.slot) ∙ e))

  plain_cap : {p : Place} {b : Bool} {x : ℕ} {v : ℕ → ℕ} {g : Commons} {d : ℕ} → Moves k w m t p b x v g d → (T (putting p) → l ≡ b)
      → T (in_kind Routine.Plain p)
      → Most (0 + plain_most p) 0 (looking p) (w.value 0) (w.seat m).row.moves (w.seat m).row.lates
      → PlainAt (plain_next p b x u (w.seat m).row.local).place (v 0)
  plain_cap Moves.leaves q o c = absurd o
  plain_cap (Moves.finds z d) q o c = elsewhere (omega (arith, c.empty tt (rw dg.slot at z)))
  plain_cap (Moves.meets z) q o c = elsewhere (omega (arith, c.all))
  plain_cap Moves.fails q o c = rw (q tt) (record { all = omega (arith, c.all); empty = λ x e. omega (arith, c.all) })
  plain_cap (Moves.stores h) q o c = record { all = omega (arith, c.all); empty = λ x e. absurd (omega (arith, written {x = 1} e)) }
  plain_cap Moves.pauses q o c = elsewhere (omega (arith, c.all))
  plain_cap (Moves.knows h e) q o c = elsewhere (omega (arith, c.all))
  plain_cap (Moves.learns h) q o c = elsewhere (omega (arith, c.all))
  plain_cap (Moves.clears h) q o c = absurd o
  plain_cap (Moves.sticks h) q o c = absurd o
  plain_cap Moves.raises q o c = absurd o
  plain_cap (Moves.passes h) q o c = absurd o
  plain_cap (Moves.halts h) q o c = absurd o

-- the first value from s on that is not own
cond_skip : (Q : ℕ → Type 0) (s own : ℕ) → (s ≡ own → Q (s + 1)) → (s ≢ own → Q s) → Q (cond (eqb s own) (s + 1) s)
cond_skip Q s own f g = go (eqb s own) refl
  where
    go : (y : Bool) → eqb s own ≡ y → Q (cond y (s + 1) s)
    go true e = f (eqb-true s own e)
    go false e = g (eqb-false s own e)

-- the moves of a scan at s are fewer than the values
scan_total : (size own s a l : ℕ) → own ≤ size → s ≤ size → ScanCap size own s a l → a + 2 ≤ 2 * l + 4 + size
scan_total size own s a l small within c = go (dec_lt own s)
  where
    go : Dec (own < s) → a + 2 ≤ 2 * l + 4 + size
    go (yes h) = omega (arith, c.beyond h)
    go (no h) =
        let n = c.skips in
        let b = c.before (omega arith) in
        omega arith

module _ (k : Clock) (size : ℕ) (w : World) (m t : ℕ) (dg : Deciding (w.seat m).row) (small : own_of (w.seat m) ≤ size) (l : Bool) (u : ℕ) where
  -- after one move more, with the local part x
  abbrev FastAt : Local → ℕ → Type 0
  FastAt x y = FastCap size x.place y (own_of (w.seat m)) x.scan ((w.seat m).row.moves + 1) ((w.seat m).row.lates + cond l 1 0)

  -- a scan that goes on at s, or ends there
  scan_cap : (s : ℕ) → ScanCap size (own_of (w.seat m)) s ((w.seat m).row.moves + 1) ((w.seat m).row.lates + cond l 1 0)
      → (w.seat m).row.moves + 1 ≤ 2 * ((w.seat m).row.lates + cond l 1 0) + 4 + size → FastAt (scan_at size s (w.seat m).row.local) (w.value 0)
  scan_cap s c total = go (leb s size) refl
    where
      go : (y : Bool) → leb s size ≡ y
          → FastAt (cond y (scans s (to Place.Scan (w.seat m).row.local)) (to Place.Check (w.seat m).row.local)) (w.value 0)
      go true e =
          let z = scan_total size (own_of (w.seat m)) s _ _ small (leb-true s size e) c in
          record { most = elsewhere (omega arith); scans = λ x. c }
      go false e = record { most = elsewhere (omega arith); scans = λ x. absurd x }

  fast_cap : {p : Place} {b : Bool} {x : ℕ} {v : ℕ → ℕ} {g : Commons} {d : ℕ} → Moves k w m t p b x v g d → (T (putting p) → l ≡ b) → T (in_kind Routine.Fast p)
      → FastCap size p (w.value 0) (own_of (w.seat m)) (w.seat m).row.local.scan (w.seat m).row.moves (w.seat m).row.lates
      → FastAt (fast_next size (own_of (w.seat m)) p b x u (w.seat m).row.local) (v 0)
  fast_cap Moves.leaves q o c = absurd o
  fast_cap (Moves.finds z d) q o c = record { most = elsewhere (omega (arith, c.most.empty tt (rw dg.slot at z))); scans = λ x. absurd x }
  fast_cap (Moves.meets z) q o c =
      let a = c.most.all in
      let r = dg.real in
      cond_skip
      (λ s. FastAt (scan_at size s (w.seat m).row.local) (w.value 0)) 1 (own_of (w.seat m))
      (λ e. scan_cap 2 (record { skips = omega arith; beyond = λ h. omega arith; before = λ h. omega arith }) (omega arith))
      (λ n. scan_cap 1 (record { skips = n; beyond = λ h. absurd (omega arith); before = λ h. omega arith }) (omega arith))
  fast_cap Moves.fails q o c =
      rw (q tt)
      (record { most = record { all = omega (arith, c.most.all); empty = λ x e. omega (arith, c.most.all) }; scans = λ x. absurd x })
  fast_cap (Moves.stores h) q o c =
      record {
        most = record { all = omega (arith, c.most.all); empty = λ x e. absurd (omega (arith, written k w m t dg l u {x = 1} e)) };
        scans = λ x. absurd x;
      }
  fast_cap Moves.pauses q o c = record { most = elsewhere (omega (arith, c.most.all)); scans = λ x. absurd x }
  fast_cap (Moves.knows h e) q o c = record { most = elsewhere (omega (arith, c.most.all)); scans = λ x. absurd x }
  fast_cap (Moves.learns h) q o c = record { most = elsewhere (omega (arith, c.most.all)); scans = λ x. absurd x }
  fast_cap (Moves.clears h) q o c = absurd o
  fast_cap (Moves.sticks h) q o c = absurd o
  fast_cap Moves.raises q o c =
      record { most = record { all = omega (arith, c.most.all); empty = λ x e. omega (arith, c.most.all) }; scans = λ x. absurd x }
  fast_cap (Moves.passes h) q o c =
      let s : ℕ = (w.seat m).row.local.scan in
      let z = c.scans tt in
      let n = z.skips in
      let a = c.most.all in
      cond_skip
      (λ s. FastAt (scan_at size s (w.seat m).row.local) (w.value 0)) (s + 1) (own_of (w.seat m))
      (λ e.
      scan_cap (s + 1 + 1)
      (record { skips = omega arith; beyond = λ g. omega (arith, z.before (omega arith)); before = λ g. absurd (omega arith) }) (omega arith))
      (λ e.
      scan_cap (s + 1)
      (record { skips = e; beyond = λ g. omega (arith, z.beyond (omega arith)); before = λ g. omega (arith, z.before (omega arith)) }) (omega arith))
  fast_cap (Moves.halts h) q o c = record { most = elsewhere (omega (arith, c.most.all)); scans = λ x. absurd x }

cap_moves : (c : Pace) (κ : Routine) (u : Shape) (w : World) (m t : ℕ) (l : Bool) {p : Place} {b : Bool} {x : ℕ} {v : ℕ → ℕ} {g : Commons} {d : ℕ}
    → m < u.count
    → T (timed_decision κ) → RowOk κ u m (w.seat m).row → (w.seat m).row.local.place ≡ p → (T (putting p) → l ≡ b)
    → Moves (clock c u.delta) w m t p b x v g d
    → Cap κ u (w.value 0) (w.seat m).row
    → Cap κ u (v 0) (counted l (next_of κ u (own_of (w.seat m)) p b x (wake_at u.delta t) (w.seat m).row.local) (w.seat m).row)
cap_moves c (Routine.Lock how) u w m t l h n ok e q rule cp = tt
cap_moves c Routine.Plain u w m t l h n ok e q rule cp =
    plain_cap (clock c u.delta) w m t (deciding Routine.Plain u m (w.seat m).row n h ok) l _ rule q (rw e at (ok.place h))
    (subst (λ (p : Place). Most (0 + plain_most p) 0 (looking p) (w.value 0) (w.seat m).row.moves (w.seat m).row.lates) e cp)
cap_moves c Routine.Fast u w m t l h n ok e q rule cp =
    fast_cap (clock c u.delta) u.size w m t (deciding Routine.Fast u m (w.seat m).row n h ok) ok.small l _ rule q (rw e at (ok.place h))
    (subst
    (λ (p : Place). FastCap u.size p (w.value 0) (own_of (w.seat m)) (w.seat m).row.local.scan (w.seat m).row.moves (w.seat m).row.lates) e cp)

-- every row of a decision keeps to its place's most
abbrev pub Capped : Shape → World → Type 0
Capped u w = (i : ℕ) → Cap (routine u) u (w.value 0) (w.seat i).row

still_filled : {w : World} {m y : ℕ} → own_of (w.seat m) ≢ 0 → From w m y → y ≡ 0 → w.value 0 ≡ 0
still_filled r (same e) z = sym e ∙ z
still_filled r (mine e) z = absurd (r (sym e ∙ z))

cap_crash : (κ : Routine) (u : Shape) (y : ℕ) (r : Row) → Cap κ u y r → Cap κ u y (crash r)
cap_crash (Routine.Lock how) u y r c = tt
cap_crash Routine.Plain u y r c = c
cap_crash Routine.Fast u y r c = c

pub capped_along : (c : Pace) (u : Shape) → T (timed_decision (routine u)) → Along c u (Capped u)
capped_along c u n =
    record {
      on_move =
          λ w m t l {v = v} h e q ok inv rule old.
          let dg = deciding (routine u) u m (w.seat m).row n h ok in
          let y = from dg.slot (rw e at dg.outside) rule in
          put_all {A = Seat} (λ i y. Cap (routine u) u (v 0) y.row) (cap_moves c (routine u) u w m t l h n ok e q rule (old m))
          (λ i o. cap_stays (routine u) u (w.value 0) (v 0) (w.seat i).row (still_filled dg.real y) (old i));
      on_crash =
          λ w m t old.
          put_all {A = Seat} (λ i y. Cap (routine u) u (w.value 0) y.row) (cap_crash (routine u) u (w.value 0) (w.seat m).row (old m))
          (λ i o. old i);
    }

-- before the first move
cap_zero : (κ : Routine) (u : Shape) (y : ℕ) (r : Row) → Unmoved κ r → Cap κ u y r
cap_zero (Routine.Lock how) u y r z = tt
cap_zero Routine.Plain u y r z = rw (z.moves, z.lates) (record { all = omega arith; empty = λ x e. omega arith })
cap_zero Routine.Fast u y r z =
    rw (z.moves, z.lates)
    (record {
      most = record { all = omega arith; empty = λ x e. omega arith };
      scans = λ x. absurd (differ (begins Routine.Fast) scanning tt r.local.place z.place x);
    })

pub capped_start : (u : Shape) (w : World) → Bare (routine u) w → Capped u w
capped_start u w bare i = cap_zero (routine u) u (w.value 0) (w.seat i).row (bare.rows i)

-- WHAT FOLLOWS

-- a table of most moves that has 5 where a process has decided and less elsewhere
abbrev Ends : (Place → ℕ) → Place → Bool
Ends f p = leb (f p) 5 && (not (leb 5 (f p)) || concluded p)

ends_within : (f : Place → ℕ) → T (everywhere (Ends f)) → (r : Row) (x b : ℕ) → x ≤ b → r.moves ≤ 2 * r.lates + (x + f r.local.place)
    → Within (b + 5 + 2 * r.lates) r
ends_within f test r x b h c =
    let n : ℕ = f r.local.place in
    let five = at_most n (and_left (leb n 5) _ here) in
    record { bounded = omega arith; decided = λ e. decided_place r.local.place (ends n (and_right (leb n 5) _ here) (omega arith)) }
  where
    here : T (Ends f r.local.place)
    here = every_place (Ends f) test r.local.place

    at_most : (n : ℕ) → T (leb n 5) → n ≤ 5
    at_most n q = by (leb n 5) refl q
      where
        by : (y : Bool) → leb n 5 ≡ y → T y → n ≤ 5
        by true e z = leb-true n 5 e
        by false e z = absurd z

    ends : (n : ℕ) → T (not (leb 5 n) || concluded r.local.place) → 5 ≤ n → T (concluded r.local.place)
    ends n q g = rw (le-leb 5 n g) at q

pub plain_within : (u : Shape) (y : ℕ) (r : Row) → Cap Routine.Plain u y r → Within (5 + 2 * r.lates) r
plain_within u y r c = ends_within plain_most tt r 0 0 (omega arith) c.all

pub fast_within : (u : Shape) (y : ℕ) (r : Row) → Cap Routine.Fast u y r → Within (u.size + 5 + 2 * r.lates) r
fast_within u y r c = ends_within fast_most tt r (cond (past r.local.place) u.size 0) u.size (at_most (past r.local.place)) c.most.all
  where
    at_most : (b : Bool) → cond b u.size 0 ≤ u.size
    at_most true = omega arith
    at_most false = omega arith
