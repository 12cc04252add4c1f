-- What an accepted setup says, and that what says it is accepted: no caller looks into the table.
-- Assumes nothing.
use mathlib.Core.Path.{◌≡◌, refl, sym, ◌∙◌, ap}
use mathlib.Core.Bool.{Bool, false}
use mathlib.Core.List.{List, [], ◌∷◌}
use Prim.Native.Nat.{ℕ, zero, suc, ◌+◌, ◌-◌, ◌≤◌, ◌<◌}
use native.Mathlib.Nat.{zero-add}
use native.Mathlib.Omega.{arith}
use borrow.Author.Tests.{ltb-false, leb-false, eqb-true, le-ltb, lt-leb, eq-eqb, not-false}
use lib.ListN.{length, get_or, drop, replicate, take, length-append, length-take, length-drop, length-replicate, get_or-append}
use lib.Seq.{take_all, get_or-take, get_or-drop, get_or-append-add}
use lib.Dec.{ltb}
use Rattle.std.specs.Prelude.{Result, Ok, Err}
use Rattle.std.specs.List.{list_any}
use Rattle.terms.specs.Limits.{most_slots}
use Rattle.terms.specs.Little.{AllBytes}
use Rattle.terms.specs.Refusal.{any_from, number, refusal_in, numbered}
use Rattle.terms.specs.declared.Refusal.{Refusal}
use Rattle.terms.proofs.RefusalLaws.{if_refused, then_both, passed, refuse-false, both_false, not_outside, inside, accepted_says, refused_says}
use Rattle.terms.proofs.RefusalLaws.{some_number, stops, goes_on}
use Rattle.kinds.specs.declared.Kind.{Kind}
use Rattle.kinds.specs.Kinds.{last_kind, kind_of}
use Rattle.records.specs.Record.{byte}
use Rattle.setups.specs.Setup.{setup_mark, out_of_limits, bad_size, bad_start, proposes, no_start, any_bad_start, setup_limits, head_refusal, start_bytes}
use Rattle.setups.specs.Setup.{places, setup_fields, setup_refusal, setup_read, setup_rest, rest_start, setup_write_refusal}
use Rattle.setups.specs.declared.Setup.{Setup}
use Rattle.records.proofs.RecordLaws.{marked_said, byte_small, none_bad, all_good}

-- BY KIND

limits_in : (size spare : ℕ) → out_of_limits size spare ≡ false → (1 ≤ size) × (size ≤ most_slots) × (spare ≡ 0)
limits_in size spare h =
    let both = both_false _ _ h in
    let range = not_outside 1 most_slots size both.0 in
    (range.0, range.1, eqb-true _ _ (not-false _ both.1))

pub size_said : (κ : Kind) (n size spare : ℕ) → bad_size κ n size spare ≡ false → (1 ≤ size) × (size ≤ most_slots) × (spare ≡ 0)
unfolding bad_size
size_said Kind.Lock n size spare h = limits_in size spare h
size_said Kind.Plain n size spare h = limits_in size spare h
size_said Kind.Fast n size spare h = limits_in size spare h

-- a start byte of a lock is a slot, that of a decision a proposal
abbrev pub StartSaid : Kind → ℕ → ℕ → Type 0
StartSaid Kind.Lock size x = x < size
StartSaid Kind.Plain size x = (1 ≤ x) × (x ≤ size)
StartSaid Kind.Fast size x = (1 ≤ x) × (x ≤ size)

module _ (n size spare j x : ℕ) where
  pub start_said : (κ : Kind) → bad_start κ n size spare j x ≡ false → StartSaid κ size x
  unfolding bad_start
  start_said Kind.Lock h = omega (arith, leb-false size x h)
  start_said Kind.Plain h = not_outside 1 size x h
  start_said Kind.Fast h = not_outside 1 size x h

  pub said_start : (κ : Kind) → StartSaid κ size x → bad_start κ n size spare j x ≡ false
  unfolding bad_start
  said_start Kind.Lock h = lt-leb _ _ h
  said_start Kind.Plain h = inside 1 size x h.0 h.1
  said_start Kind.Fast h = inside 1 size x h.0 h.1

  start_rule : (κ : Kind) → no_start (proposes κ) size x ≡ bad_start κ n size spare j x
  unfolding bad_start
  start_rule Kind.Lock = refl
  start_rule Kind.Plain = refl
  start_rule Kind.Fast = refl

-- the code asks each start byte by its rule alone, the table also by its index; past the last of them both have asked all
module _ (κ : Kind) (n size spare : ℕ) where
  starts_rule : (i : ℕ) (s : List ℕ) → any_from i (bad_start κ n size spare) s ≡ list_any (no_start (proposes κ) size) s
  starts_rule i [] = refl
  starts_rule i (x ∷ xs) = rw (← start_rule n size spare i x κ, starts_rule (suc i) xs)

  pub all_starts : (s : List ℕ) (i : ℕ) → length s ≤ i → any_from 0 (bad_start κ n size spare) s ≡ list_any (no_start (proposes κ) size) (take i s)
  all_starts s i h = rw take_all (starts_rule 0 s)

-- LIMITS

pub record Limits (most kind n size spare : ℕ) : Type 0 where
  pub kind_low : 1 ≤ kind
  pub kind_high : kind ≤ last_kind
  pub someone : 1 ≤ n
  pub few : n ≤ most
  pub sized : bad_size (kind_of kind) n size spare ≡ false

module _ (most kind n size spare : ℕ) where
  pub limits_said : setup_limits most kind n size spare ≡ 0 → Limits most kind n size spare
  limits_said h =
      let p = passed 4 _ _ h in
      let q = passed 3 _ _ p.0 in
      let k = not_outside 1 last_kind kind (refuse-false 2 _ q.0) in
      let m = not_outside 1 most n q.1 in
      record { kind_low = k.0; kind_high = k.1; someone = m.0; few = m.1; sized = p.1 }

  pub said_limits : Limits most kind n size spare → setup_limits most kind n size spare ≡ 0
  said_limits l = simp (inside 1 last_kind kind l.kind_low l.kind_high, inside 1 most n l.someone l.few, l.sized)

  pub limits_size : Limits most kind n size spare → (1 ≤ size) × (size ≤ most_slots) × (spare ≡ 0)
  limits_size l = size_said (kind_of kind) n size spare l.sized

  -- and as the writer's cast asks
  pub limits_small : 0 ≡ setup_limits most kind n size spare → size ≤ most_slots
  limits_small h = (limits_size (limits_said (sym h))).1

-- what decides a chain of `?`
pub ruleset decided = (stops, goes_on, limits_small)

-- READING

-- whether x is no start byte of the process with index j
abbrev pub bad_at : List ℕ → ℕ → ℕ → Bool
bad_at s = bad_start (kind_of (byte 2 s)) (length (start_bytes s)) (byte 4 s) (byte 5 s)

-- all but the start bytes
pub record Head (most : ℕ) (s : List ℕ) : Type 0 where
  pub eight : 8 ≤ length s
  pub mark0 : byte 0 s ≡ 0x4F
  pub mark1 : byte 1 s ≡ 0x53
  pub limits : Limits most (byte 2 s) (byte 3 s) (byte 4 s) (byte 5 s)
  pub whole : 8 + byte 3 s ≤ length s

pub record AcceptedSetup (most : ℕ) (s : List ℕ) : Type 0 where
  pub head : Head most s
  pub good : any_bad_start (kind_of (byte 2 s)) (byte 4 s) (byte 5 s) (start_bytes s) ≡ false

module _ (most : ℕ) (s : List ℕ) where
  pub head_said : head_refusal most s ≡ 0 → Head most s
  head_said h =
      let p = passed 0 _ _ h in
      let l = then_both _ _ p.0 in
      let m = passed 1 _ _ l.0 in
      let marks = marked_said setup_mark s (not-false _ m.1) in
      record {
        eight = ltb-false _ _ (refuse-false 0 _ m.0);
        mark0 = marks.0;
        mark1 = marks.1;
        limits = limits_said _ _ _ _ _ l.1;
        whole = ltb-false _ _ p.1;
      }

  pub said_head : Head most s → head_refusal most s ≡ 0
  said_head h =
      simp (
        le-ltb _ _ h.eight,
        eq-eqb _ _ h.mark0,
        eq-eqb _ _ h.mark1,
        said_limits _ _ _ _ _ h.limits,
        le-ltb _ _ h.whole,
      )

  pub setup_said : setup_refusal most s ≡ 0 → AcceptedSetup most s
  unfolding setup_refusal
  setup_said h =
      let both = then_both _ _ h in
      record { head = head_said both.0; good = refuse-false 5 _ both.1 }

  pub said_setup : AcceptedSetup most s → setup_refusal most s ≡ 0
  unfolding setup_refusal
  said_setup a = simp (said_head a.head, a.good)

  -- and as the reader's parts ask
  pub accepted_small : 0 ≡ setup_refusal most s → (8 ≤ length s) × (8 + byte 3 s ≤ length s) × (byte 3 s ≤ most)
  accepted_small h = let a = setup_said (sym h) in (a.head.eight, a.head.whole, a.head.limits.few)

-- what is read and what is left, by the refusal
module _ (most : ℕ) (s : List ℕ) where
  pub setup_accepted : setup_refusal most s ≡ 0 → Ok (setup_fields most s) ≡ setup_read most s
  unfolding setup_read
  setup_accepted e = simp e

  pub setup_refused : (k : ℕ) → setup_refusal most s ≡ k → (k ≡ 0 → ⊥) → Err k ≡ setup_read most s
  unfolding setup_read
  setup_refused k e h = simp (e, if_refused k h)

  -- and by the name of what refuses
  pub unset : (e : Refusal) → number e ≡ setup_refusal most s → Err (number e) ≡ setup_read most s
  unset e h = setup_refused (number e) (sym h) (some_number e)

  pub rest_accepted : setup_refusal most s ≡ 0 → (setup_rest most s ≡ drop (8 + byte 3 s) s) × (rest_start most s ≡ 8 + byte 3 s)
  unfolding setup_rest rest_start
  rest_accepted e = (simp e, simp e)

  pub rest_refused : (k : ℕ) → setup_refusal most s ≡ k → (k ≡ 0 → ⊥) → (setup_rest most s ≡ []) × (rest_start most s ≡ 0)
  unfolding setup_rest rest_start
  rest_refused k e h = (simp (e, if_refused k h), simp (e, if_refused k h))

  -- what is said by a setup that was read, or a refusal
  pub setup_was_read : {x : Setup} → Ok x ≡ setup_read most s → (setup_refusal most s ≡ 0) × (x ≡ setup_fields most s)
  unfolding setup_read
  setup_was_read e = accepted_says (setup_refusal most s) (setup_fields most s) e

  pub setup_was_refused : {k : ℕ} → Err k ≡ setup_read most s → (setup_refusal most s ≡ k) × (k ≡ 0 → ⊥)
  unfolding setup_read
  setup_was_refused e = refused_says (setup_refusal most s) (setup_fields most s) e

  pub setup_refusal_read : (r : Result Setup Refusal) → numbered r ≡ setup_read most s → setup_refusal most s ≡ refusal_in r
  setup_refusal_read (Ok x) e = (setup_was_read e).0
  setup_refusal_read (Err d) e = (setup_was_refused e).0

  pub setup_fields_read : (r : Result Setup Refusal) → numbered r ≡ setup_read most s → {x : Setup} → r ≡ Ok x → x ≡ setup_fields most s
  setup_fields_read r e {x} h = (setup_was_read (ap numbered (sym h) ∙ e)).1

-- START BYTES

pub length-places : (most : ℕ) (starts : List ℕ) → length starts ≤ most → length (places most starts) ≡ most
length-places most starts h =
    simp (length-append, length-drop, length-replicate) (omega arith)

zeros : (n i : ℕ) → get_or {A = ℕ} (replicate n 0) i 0 ≡ 0
zeros zero i = refl
zeros (suc n) zero = refl
zeros (suc n) (suc i) = zeros n i

-- of a setup whose start bytes are all there
module _ (s : List ℕ) (whole : 8 + byte 3 s ≤ length s) where
  pub start_count : length (start_bytes s) ≡ byte 3 s
  start_count = simp (length-take, length-drop) (omega arith)

  pub start_at : (j : ℕ) → j < byte 3 s → get_or (start_bytes s) j 0 ≡ byte (8 + j) s
  start_at j h = rw (get_or-take, get_or-drop)

  -- the place of row j has its start byte, and a place beyond has 0
  pub place_at : (most j : ℕ) → j < byte 3 s → get_or (places most (start_bytes s)) j 0 ≡ byte (8 + j) s
  place_at most j h =
      get_or-append (start_bytes s) (drop (length (start_bytes s)) (replicate most 0)) 0 j (omega (arith, start_count))
      ∙ start_at j h

  pub place_beyond : (most j : ℕ) → byte 3 s ≤ j → get_or (places most (start_bytes s)) j 0 ≡ 0
  place_beyond most j h =
      let n = length (start_bytes s) in
      let past : j ≡ n + (j - n) = omega (arith, start_count) in
      ap (λ (i : ℕ). get_or (places most (start_bytes s)) i 0) past
      ∙ get_or-append-add (start_bytes s) (drop n (replicate most 0)) (j - n) 0
      ∙ get_or-drop n (replicate most 0) (j - n) 0
      ∙ zeros most (n + (j - n))

  -- start bytes that are good one by one are good together
  pub said_starts : ((j : ℕ) → j < byte 3 s → bad_at s j (byte (8 + j) s) ≡ false)
      → any_bad_start (kind_of (byte 2 s)) (byte 4 s) (byte 5 s) (start_bytes s) ≡ false
  said_starts h =
      all_good 0 (bad_at s) (start_bytes s) (λ j inside.
      let below : j < byte 3 s = omega (arith, start_count) in
      rw (zero-add j, start_at j below) (h j below))

-- and of an accepted setup the start byte of row j is a good one
module _ (most : ℕ) (s : List ℕ) (a : AcceptedSetup most s) (j : ℕ) (below : j < byte 3 s) where
  pub start_good : bad_at s j (byte (8 + j) s) ≡ false
  start_good =
      let whole = a.head.whole in
      rw (zero-add j, start_at s whole j below) at (none_bad 0 (bad_at s) (start_bytes s) a.good j (omega (arith, start_count s whole)))

-- the setup's fields are of their widths
pub delta_small : (most : ℕ) (s : List ℕ) → AllBytes s → (setup_fields most s).delta ≤ 65_535
delta_small most s h = omega (arith, byte_small s h 6, byte_small s h 7)

-- WRITING

pub record WritableSetup (most kind size : ℕ) (starts : List ℕ) (room : ℕ) : Type 0 where
  pub limits : Limits most kind (length starts) size 0
  pub good : any_bad_start (kind_of kind) size 0 starts ≡ false
  pub fits : 8 + length starts ≤ room

module _ (most kind size : ℕ) (starts : List ℕ) (room : ℕ) where
  pub setup_write_said : setup_write_refusal most kind size starts room ≡ 0 → WritableSetup most kind size starts room
  unfolding setup_write_refusal
  setup_write_said h =
      let p = passed 18 _ (ltb room (8 + length starts)) h in
      let q = then_both _ _ p.0 in
      record { limits = limits_said _ _ _ _ _ q.0; good = refuse-false 5 _ q.1; fits = ltb-false _ _ p.1 }

  pub said_setup_write : WritableSetup most kind size starts room → setup_write_refusal most kind size starts room ≡ 0
  unfolding setup_write_refusal
  said_setup_write w = simp (said_limits _ _ _ _ _ w.limits, w.good, le-ltb _ _ w.fits)

  -- and as the writer's casts and parts ask
  pub writes_small : 0 ≡ setup_write_refusal most kind size starts room
      → (kind ≤ last_kind) × (length starts ≤ most) × (size ≤ most_slots) × (8 + length starts ≤ room)
  writes_small h =
      let w = setup_write_said (sym h) in
      (w.limits.kind_high, w.limits.few, (limits_size _ _ _ _ _ w.limits).1, w.fits)
