-- What the invariants say of the rows of a state that accepted records led to, whatever the kind of the run.
-- Assumes nothing.
use Prim.Native.Nat.{ℕ, suc, ◌+◌, ◌*◌, ◌≤◌, ◌<◌}
use mathlib.Core.Path.{◌≡◌, refl, sym, ap, subst, ◌∙◌}
use mathlib.Core.Logic.{◌≢◌}
use mathlib.Core.Bool.{Bool, true, false, false≢true, ◌||◌}
use mathlib.Core.List.{List}
use native.Mathlib.Omega.{arith}
use native.Mathlib.Decide.{dec_lt}
use lib.Dec.{T, eqb}
use lib.ListN.{get_or}
use lib.Seq.{get_or-set_same}
use borrow.Author.Tests.{le-ltb}
use Rattle.terms.specs.declared.ProcessNumber.{ProcessNumber}
use Rattle.terms.specs.Limits.{top_tick}
use Rattle.terms.specs.Numbers.{index_of, slot_of}
use Rattle.bank.specs.Registers.{value_at, late_at, after_write}
use Rattle.model.specs.declared.Place.{Place}
use Rattle.model.specs.declared.Shape.{Shape}
use Rattle.model.specs.declared.Row.{Row}
use Rattle.model.specs.declared.State.{State}
use Rattle.model.specs.Places.{code_of}
use Rattle.model.specs.Routine.{Routine, routine, begin}
use Rattle.model.specs.Bounds.{Sound, Starts}
use Rattle.model.specs.Run.{row_at, row_of, fresh, move_at, step_at, reach, Progress.going}
use Rattle.model.specs.Claims.{Within}
use Rattle.model.specs.Report.{shown_place, figure_of}
use Rattle.model.proofs.Places.{imply, differ, in_kind, timed_decision, concluded, past, inside}
use Rattle.model.proofs.World.{World, ordinary, clock}
use Rattle.model.proofs.LockSafe.{LockInv, exclusion, exit_in_time}
use Rattle.model.proofs.DecideSafe.{DecideInv, agreement}
use Rattle.model.proofs.Turns.{turn}
use Rattle.model.proofs.Keeping.{slot_small, fresh_rows, each_kept}
use Rattle.model.proofs.View.{view}
use Rattle.model.proofs.Invariants.{Inv, Along, nothing, Good, Bare, reach_good}
use Rattle.model.proofs.Shown.{shows_inside, shows_decided, decided_shows, neither_shows}
use Rattle.model.proofs.Tally.{Proposer, HasProposer, proposed_along, proposed_start, Cap, Capped, capped_along, capped_start, plain_within}
use Rattle.model.proofs.Tally.{fast_within}

-- THE KIND, from a place

-- the places of a routine, and of a blank row
abbrev reachable : Routine → Place → Bool
reachable κ p = in_kind κ p || eqb (code_of p) 0

either : (a b : Bool) → T a → T (a || b)
either true b h = tt
either false b h = absurd h

-- only the lock has a section, and only it does not decide
lock_inv : (κ : Routine) (u : Shape) (w : World) (p : Place) → T (reachable κ p) → T (inside p) → Inv ordinary κ u w → LockInv (clock ordinary u.delta) w
lock_inv (Routine.Lock how) u w p a b inv = inv
lock_inv Routine.Plain u w p a b inv = absurd (differ (reachable Routine.Plain) inside tt p a b)
lock_inv Routine.Fast u w p a b inv = absurd (differ (reachable Routine.Fast) inside tt p a b)

decide_inv : (κ : Routine) (u : Shape) (w : World) (p : Place) → T (reachable κ p) → T (concluded p) → Inv ordinary κ u w
    → T (timed_decision κ) × DecideInv (clock ordinary u.delta) w
decide_inv (Routine.Lock how) u w p a b inv = absurd (differ (reachable (Routine.Lock how)) concluded tt p a b)
decide_inv Routine.Plain u w p a b inv = (tt, inv)
decide_inv Routine.Fast u w p a b inv = (tt, inv.decide)

concluded-past : (p : Place) → T (concluded p) → T (past p)
concluded-past = imply concluded past tt

-- what a process of a decision writes is its start byte
own_begins : (κ : Routine) (j x : ℕ) → T (timed_decision κ) → (begin κ j x).own ≡ x
own_begins (Routine.Lock how) j x h = absurd h
own_begins Routine.Plain j x h = refl
own_begins Routine.Fast j x h = refl

-- the second number of the report is the slot, or the decided value
slot_figure : (κ : Routine) (p : Place) → T (reachable κ p) → T (inside p) → (r : Row) → figure_of κ r ≡ r.local.slot.0
slot_figure (Routine.Lock how) p a b r = refl
slot_figure Routine.Plain p a b r = absurd (differ (reachable Routine.Plain) inside tt p a b)
slot_figure Routine.Fast p a b r = absurd (differ (reachable Routine.Fast) inside tt p a b)

pub decision_figure : (κ : Routine) → T (timed_decision κ) → (r : Row) → figure_of κ r ≡ r.local.decided
decision_figure (Routine.Lock how) h r = absurd h
decision_figure Routine.Plain h r = refl
decision_figure Routine.Fast h r = refl

-- A POINT of a run: the state s after k accepted records
pub record Point (u : Shape) (s : State) : Type 0 where
  pub sound : Sound u
  pub bytes : List ℕ
  pub starts : Starts u bytes
  pub rest : List ℕ
  pub k : ℕ
  pub led : reach u (fresh u bytes) rest k ≡ going s

module _ {u : Shape} {s : State} (point : Point u s) where
  abbrev so : Sound u
  so = point.sound

  abbrev xs : List ℕ
  xs = point.bytes

  -- a further property of the run holds here
  along : (P : World → Type 0) → Along ordinary u P → ((w : World) → Bare (routine u) w → P w) → P (view s.newest s)
  along P al first = (reach_good u so P al xs point.starts first point.rest point.k point.led).also

  abbrev good : Good ordinary u so (λ w. Unit {0}) (nothing ordinary u) s.newest s
  good = reach_good u so (λ w. Unit {0}) (nothing ordinary u) xs point.starts (λ w bare. tt) point.rest point.k point.led

  abbrev seen : World
  seen = view s.newest s

  reaches : (j : ℕ) → T (reachable (routine u) (row_at s j).local.place)
  reaches j = by (dec_lt j u.count)
    where
      by : Dec (j < u.count) → T (reachable (routine u) (row_at s j).local.place)
      by (yes h) = either (in_kind (routine u) (row_at s j).local.place) (eqb (code_of (row_at s j).local.place) 0) ((good.kept.each j).place h)
      by (no h) = rw (good.kept.beyond j (omega arith)) (blank_reaches (routine u))
        where
          blank_reaches : (κ : Routine) → T (reachable κ Place.Rest)
          blank_reaches (Routine.Lock how) = tt
          blank_reaches Routine.Plain = tt
          blank_reaches Routine.Fast = tt

  -- THE LOCK
  module _ (j : ℕ) (a : T (inside (row_at s j).local.place)) where
    of_lock_lem : LockInv (clock ordinary u.delta) seen
    of_lock_lem = lock_inv (routine u) u seen (row_at s j).local.place (reaches j) a good.inv

    -- two inside on one slot are one
    pub one_inside : (i : ℕ) → T (inside (row_at s i).local.place) → (row_at s i).local.slot.0 ≡ (row_at s j).local.slot.0 → i ≡ j
    one_inside i b c = exclusion (clock ordinary u.delta) seen of_lock_lem i j b a c

    -- its number stands in its slot
    pub number_stands : value_at s.bank (row_at s j).local.slot ≡ suc j
    number_stands = (of_lock_lem.inside j a).stands

  -- leaving the section is not late, and empties the slot
  module _ (i : ProcessNumber) (t : ℕ) (top : t ≤ top_tick) (a : (row_of s i).local.place ≡ Place.Critical) where
    pub leaves_in_time : late_at s.bank i (row_of s i).local.slot t ≡ false
    leaves_in_time = le-ltb _ _ (exit_in_time (clock ordinary u.delta) seen (of_lock_lem (index_of i) (rw a tt)) (index_of i) t (rw a tt) (omega arith))

    pub leaves_empty : value_at (move_at u Place.Critical s i t).bank (row_of s i).local.slot ≡ 0
    unfolding move_at after_write
    leaves_empty =
        rw leaves_in_time
        (get_or-set_same s.bank.values (row_of s i).local.slot.0 0 0
        (omega (arith, good.kept.values, slot_small (routine u) u so (index_of i) (row_of s i) (good.kept.each (index_of i)))))

  -- THE DECISIONS
  module _ (j : ℕ) (a : T (concluded (row_at s j).local.place)) where
    of_decision : T (timed_decision (routine u)) × DecideInv (clock ordinary u.delta) seen
    of_decision = decide_inv (routine u) u seen (row_at s j).local.place (reaches j) a good.inv

    -- it decided something
    pub decision_real : (row_at s j).local.decided ≢ 0
    decision_real z =
        let inv = of_decision.1 in
        inv.filled j (concluded-past (row_at s j).local.place a) (sym (inv.concluded j a).stands ∙ z)

    -- two that decided decided alike
    pub one_decision : (i : ℕ) → T (concluded (row_at s i).local.place) → (row_at s i).local.decided ≡ (row_at s j).local.decided
    one_decision i b = agreement (clock ordinary u.delta) seen of_decision.1 i j b a

    -- what it decided stands in the register
    pub decision_stands : value_at s.bank (slot_of 0) ≡ (row_at s j).local.decided
    decision_stands = sym (of_decision.1.concluded j a).stands

    proposer : Proposer u.count (row_at s j).local.decided seen.seat
    proposer =
        let p = along (HasProposer u.count) (proposed_along ordinary u of_decision.0) (proposed_start u) in
        rw (of_decision.1.concluded j a).stands (p (of_decision.1.filled j (concluded-past (row_at s j).local.place a)))

    own_stays : (i : ℕ) → (row_at s i).own ≡ (row_at (fresh u xs) i).own
    own_stays =
        (each_kept u so xs point.starts point.rest (λ k s. (i : ℕ) → (row_at s i).own ≡ (row_at (fresh u xs) i).own) (λ i. refl)
        (λ k s e kt ad old.
        turn u s (step_at point.rest k) (omega (arith, kt.rows, ad.among)) (λ i r. r.own ≡ (row_at (fresh u xs) i).own) (λ i n. old i) (λ b. old _)
        (λ b. old _))
        point.k point.led).1

    -- and is the start byte of a process that moved
    pub decision_proposed : (i : ℕ) × (i < u.count) × (get_or xs i 0 ≡ (row_at s j).local.decided) × (1 ≤ (row_at s i).moves)
    decision_proposed =
        let p = proposer in
        let i : ℕ = p.who in
        let started =
        fresh_rows u so xs point.starts (λ i r. i < u.count → r.own ≡ get_or xs i 0) (λ i h l. absurd (omega arith))
        (λ i h ok l. own_begins (routine u) i (get_or xs i 0) of_decision.0) in
        (i, p.among, sym (started i p.among) ∙ sym (own_stays i) ∙ p.proposed, p.active)

  -- who has not decided has no decided value, so who has one has decided
  pub undecided_none : (j : ℕ) → (row_at s j).local.place ≢ Place.Decided → (row_at s j).local.decided ≡ 0
  undecided_none j = (good.kept.each j).undecided

  value_decided : (j : ℕ) → (row_at s j).local.decided ≢ 0 → T (concluded (row_at s j).local.place)
  value_decided j n = by (concluded (row_at s j).local.place) refl
    where
      by : (b : Bool) → concluded (row_at s j).local.place ≡ b → T b
      by true e = tt
      by false e = absurd (n (undecided_none j (λ q. false≢true (sym e ∙ ap concluded q))))

  -- MOVES
  capped : T (timed_decision (routine u)) → Capped u seen
  capped n = along (Capped u) (capped_along ordinary u n) (capped_start u)

  -- f late writes and at most 5 + 2 f moves; b more for the flags
  pub plain_bound : routine u ≡ Routine.Plain → (j : ℕ) → Within (5 + 2 * (row_at s j).lates) (row_at s j)
  plain_bound q j =
      let r : Row = row_at s j in
      plain_within u (seen.value 0) r (subst (λ (κ : Routine). Cap κ u (seen.value 0) r) q (capped (rw q tt) j))

  pub fast_bound : routine u ≡ Routine.Fast → (j : ℕ) → Within (u.size + 5 + 2 * (row_at s j).lates) (row_at s j)
  fast_bound q j =
      let r : Row = row_at s j in
      fast_within u (seen.value 0) r (subst (λ (κ : Routine). Cap κ u (seen.value 0) r) q (capped (rw q tt) j))

  -- AS SHOWN
  module _ (i j : ℕ) where
    pub shown_exclusion : shown_place (row_at s i) ≡ 5 → shown_place (row_at s j) ≡ 5
        → figure_of (routine u) (row_at s i) ≡ figure_of (routine u) (row_at s j) → i ≡ j
    shown_exclusion a b e =
        let q = shows_inside (row_at s j) b in
        let slot = slot_figure (routine u) (row_at s j).local.place (reaches j) q in
        one_inside j q i (shows_inside (row_at s i) a) (sym (slot (row_at s i)) ∙ e ∙ slot (row_at s j))

  -- of a decision: a second number that is not 0 is decided
  module _ (n : T (timed_decision (routine u))) where
    figure : (j : ℕ) → figure_of (routine u) (row_at s j) ≡ (row_at s j).local.decided
    figure j = decision_figure (routine u) n (row_at s j)

    figured : (j : ℕ) → figure_of (routine u) (row_at s j) ≢ 0 → T (concluded (row_at s j).local.place)
    figured j a = value_decided j (λ z. a (figure j ∙ z))

    pub shown_agreement : (i j : ℕ) → figure_of (routine u) (row_at s i) ≢ 0 → figure_of (routine u) (row_at s j) ≢ 0
        → figure_of (routine u) (row_at s i) ≡ figure_of (routine u) (row_at s j)
    shown_agreement i j a b = figure i ∙ one_decision j (figured j b) i (figured i a) ∙ sym (figure j)

    pub shown_proposed : (j : ℕ) → figure_of (routine u) (row_at s j) ≢ 0
        → (i : ℕ) × (i < u.count) × (get_or xs i 0 ≡ figure_of (routine u) (row_at s j)) × (1 ≤ (row_at s i).moves)
    shown_proposed j a = rw (figure j) (decision_proposed j (figured j a))

    -- and who shows neither 8 nor 9 has 0 there, who shows 8 has not
    pub shown_undecided : (j : ℕ) → shown_place (row_at s j) ≢ 8 → shown_place (row_at s j) ≢ 9 → figure_of (routine u) (row_at s j) ≡ 0
    shown_undecided j a b = figure j ∙ undecided_none j (neither_shows (row_at s j) a b)

    pub shown_decided : (j : ℕ) → shown_place (row_at s j) ≡ 8 → figure_of (routine u) (row_at s j) ≢ 0
    shown_decided j a z = decision_real j (shows_decided (row_at s j) a) (sym (figure j) ∙ z)

  -- once it has made the most moves, a row that has not crashed shows 8
  pub shown_done : (bound j : ℕ) → Within bound (row_at s j) → (row_at s j).moves ≡ bound → shown_place (row_at s j) ≢ 9
      → shown_place (row_at s j) ≡ 8
  shown_done bound j within e n = decided_shows (row_at s j) (within.decided e) n
