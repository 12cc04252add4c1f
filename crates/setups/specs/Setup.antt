-- The setup record of a trace (01, "The trace"), and what is refused of it, in 01's order. `most` is the most processes.
use Rattle.std.specs.Prelude.{Bool, true, false, not, cond, ◌||◌, List, [], ◌∷◌, ◌++◌, ℕ, ◌+◌, length, take, drop, replicate, leb, ltb, eqb, Result, Ok, Err}
use Rattle.terms.specs.Limits.{most_slots}
use Rattle.terms.specs.Refusal.{refuse, ◌then◌, outside, any_from, if_accepted}
use Rattle.terms.specs.Little.{little_of, little_bytes}
use Rattle.terms.specs.Overlay.{overlay}
use Rattle.kinds.specs.declared.Kind.{Kind}
use Rattle.kinds.specs.Kinds.{last_kind, bad_kind, kind_of}
use Rattle.records.specs.Record.{byte, marked, Wrote}
use Rattle.setups.specs.declared.Setup.{Setup}

abbrev pub setup_mark : List ℕ
setup_mark = 0x4F ∷ 0x53 ∷ []

-- BY KIND: 5 and 6, of n processes, ℓ or b, byte 5 (`spare`), and of the start byte x of the process with index j

-- ℓ or b not 1 to 8, or the zero byte not 0
abbrev pub out_of_limits : ℕ → ℕ → Bool
out_of_limits size spare = outside 1 most_slots size || not (eqb spare 0)

unfoldable pub bad_size : Kind → ℕ → ℕ → ℕ → Bool
bad_size Kind.Lock n size spare = out_of_limits size spare
bad_size Kind.Plain n size spare = out_of_limits size spare
bad_size Kind.Fast n size spare = out_of_limits size spare

-- a slot is 0 to ℓ - 1, a proposal 1 to b
abbrev pub no_slot : ℕ → ℕ → Bool
no_slot size x = leb size x

abbrev pub no_proposal : ℕ → ℕ → Bool
no_proposal size x = outside 1 size x

unfoldable pub bad_start : Kind → ℕ → ℕ → ℕ → ℕ → ℕ → Bool
bad_start Kind.Lock n size spare j x = no_slot size x
bad_start Kind.Plain n size spare j x = no_proposal size x
bad_start Kind.Fast n size spare j x = no_proposal size x

-- whether a kind's start bytes are proposals: the code asks once for all of them
abbrev pub proposes : Kind → Bool
proposes Kind.Lock = false
proposes Kind.Plain = true
proposes Kind.Fast = true

abbrev pub no_start : Bool → ℕ → ℕ → Bool
no_start proposal size x = cond proposal (no_proposal size x) (no_slot size x)

abbrev pub any_bad_start : Kind → ℕ → ℕ → List ℕ → Bool
any_bad_start kind size spare starts = any_from 0 (bad_start kind (length starts) size spare) starts

-- what the reader and the writer ask alike: 3, 4, 5; and 6
abbrev pub setup_limits : ℕ → ℕ → ℕ → ℕ → ℕ → ℕ
setup_limits most kind n size spare =
    refuse 3 (bad_kind last_kind kind)
    then refuse 4 (outside 1 most n)
    then refuse 5 (bad_size (kind_of kind) n size spare)

abbrev pub start_refusal : Kind → ℕ → ℕ → List ℕ → ℕ
start_refusal kind size spare starts = refuse 6 (any_bad_start kind size spare starts)

-- READING

abbrev pub start_bytes : List ℕ → List ℕ
start_bytes s = take (byte 3 s) (drop 8 s)

-- 1 (8 bytes), 2, 3, 4, 5, 1 (8 + n)
abbrev pub head_refusal : ℕ → List ℕ → ℕ
head_refusal most s =
    refuse 1 (ltb (length s) 8)
    then refuse 2 (not (marked setup_mark s))
    then setup_limits most (byte 2 s) (byte 3 s) (byte 4 s) (byte 5 s)
    then refuse 1 (ltb (length s) (8 + byte 3 s))

-- and 6
unfoldable pub setup_refusal : ℕ → List ℕ → ℕ
setup_refusal most s = head_refusal most s then start_refusal (kind_of (byte 2 s)) (byte 4 s) (byte 5 s) (start_bytes s)

-- the start bytes in as many places as there may be processes, 0 beyond them
abbrev pub places : ℕ → List ℕ → List ℕ
places most starts = overlay starts (replicate most 0)

-- where each field stands
abbrev pub setup_fields : ℕ → List ℕ → Setup
setup_fields most s =
    record {
      kind = kind_of (byte 2 s);
      processes = byte 3 s;
      size = byte 4 s;
      delta = little_of (byte 6 s ∷ byte 7 s ∷ []);
      starts = places most (start_bytes s);
    }

unfoldable pub setup_read : ℕ → List ℕ → Result Setup ℕ
setup_read most s = if_accepted (setup_refusal most s) (Ok (setup_fields most s)) (Err (setup_refusal most s))

-- where the rest begins: past the setup, on refusal at the beginning; and its bytes, none on refusal
unfoldable pub rest_start : ℕ → List ℕ → ℕ
rest_start most s = if_accepted (setup_refusal most s) (8 + byte 3 s) 0

unfoldable pub setup_rest : ℕ → List ℕ → List ℕ
setup_rest most s = if_accepted (setup_refusal most s) (drop (8 + byte 3 s) s) []

-- WRITING

-- the first 8 bytes, and all
abbrev pub setup_head : ℕ → ℕ → ℕ → ℕ → List ℕ
setup_head kind n size delta = setup_mark ++ (kind ∷ n ∷ size ∷ 0 ∷ []) ++ little_bytes 2 delta

abbrev pub setup_bytes : ℕ → ℕ → ℕ → List ℕ → List ℕ
setup_bytes kind size delta starts = setup_head kind (length starts) size delta ++ starts

-- 3, 4, 5, 6, 19, for a buffer of `room` bytes; the zero byte is the writer's own
unfoldable pub setup_write_refusal : ℕ → ℕ → ℕ → List ℕ → ℕ → ℕ
setup_write_refusal most kind size starts room =
    setup_limits most kind (length starts) size 0
    then start_refusal (kind_of kind) size 0 starts
    then refuse 19 (ltb room (8 + length starts))

-- what the writer answers, and the buffer before and after
abbrev pub WroteSetup : ℕ → ℕ → ℕ → ℕ → List ℕ → List ℕ → Result ℕ ℕ → List ℕ → Type 0
WroteSetup most kind size delta starts before r after =
    Wrote (setup_write_refusal most kind size starts (length before)) (setup_bytes kind size delta starts) before r after
