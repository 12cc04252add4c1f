-- What a writer writes reads back as the same values, whatever bytes follow, and with the rest handed back; and a setup read and written again
-- gives the same bytes.
-- Assumes nothing.
use mathlib.Core.Path.{◌≡◌, refl, sym, ◌∙◌, ap}
use mathlib.Core.Bool.{false}
use mathlib.Core.List.{List, [], ◌∷◌, ◌++◌}
use Prim.Native.Nat.{ℕ, ◌+◌, ◌≤◌, ◌<◌}
use native.Mathlib.Omega.{arith}
use lib.ListN.{length, take, drop, replicate, length-append}
use lib.Seq.{take-append_seam, drop-append_seam, take-add, take_at, drop-drop}
use Rattle.std.specs.Prelude.{Result, Ok}
use Rattle.terms.specs.Little.{little_of, AllBytes}
use Rattle.terms.proofs.LittleLaws.{little_of_bytes, little_bytes_of}
use Rattle.terms.proofs.Parts.{elements, take-elements}
use Rattle.terms.proofs.RefusalLaws.{inside}
use Rattle.kinds.specs.Kinds.{last_kind, kind_of, number_of}
use Rattle.kinds.proofs.KindLaws.{number_of_kind}
use Rattle.records.specs.Record.{byte}
use Rattle.records.proofs.RecordLaws.{byte_small, wrote_whole, wrote_said}
use Rattle.setups.specs.declared.Setup.{Setup}
use Rattle.setups.specs.Setup.{any_bad_start, setup_refusal, setup_read, setup_rest, rest_start, setup_head, setup_bytes}
use Rattle.setups.specs.Setup.{WroteSetup, setup_fields, start_bytes, places}
use Rattle.setups.proofs.SetupLaws.{Limits, limits_size, Head, AcceptedSetup, setup_said, said_setup, setup_accepted, rest_accepted}
use Rattle.setups.proofs.SetupLaws.{start_count, setup_was_read, WritableSetup, setup_write_said, said_setup_write}

-- the setup that a writer is given
abbrev pub given : ℕ → ℕ → ℕ → ℕ → List ℕ → Setup
given most kind size delta starts =
    record { kind = kind_of kind; processes = length starts; size = size; delta = delta; starts = places most starts }

length-setup_bytes : (kind size delta : ℕ) (starts : List ℕ) → length (setup_bytes kind size delta starts) ≡ 8 + length starts
length-setup_bytes kind size delta starts = omega arith

-- a setup within the limits, written before any bytes, reads back, and those bytes are the rest
module _ (most kind size delta : ℕ) (starts rest : List ℕ) where
  abbrev trace : List ℕ
  trace = setup_bytes kind size delta starts ++ rest

  same : start_bytes trace ≡ starts
  same = take-append_seam starts rest

  module _ (limits : Limits most kind (length starts) size 0) (good : any_bad_start (kind_of kind) size 0 starts ≡ false) where
    accepted : setup_refusal most trace ≡ 0
    accepted =
        let head : Head most trace = record {
          eight = omega arith;
          mark0 = refl;
          mark1 = refl;
          limits = limits;
          whole = omega (arith, length-append starts rest);
        } in
        said_setup most trace (record { head = head; good = rw same good })

    pub setup_back : delta < 65_536 → setup_read most trace ≡ Ok (given most kind size delta starts)
    setup_back h = sym (setup_accepted most trace accepted) ∙ simp (little_of_bytes 2 delta h, same)

    pub rest_back : (setup_rest most trace ≡ rest) × (rest_start most trace ≡ 8 + length starts)
    rest_back =
        let r = rest_accepted most trace accepted in
        (r.0 ∙ sym (drop-drop (length starts) 8 trace) ∙ drop-append_seam starts rest, r.1)

-- from the writer's own promise, over any buffer
module _ (most kind size delta : ℕ) (starts before after : List ℕ) (r : Result ℕ ℕ)
    (w : WroteSetup most kind size delta starts before r after)
    {n : ℕ} (ok : r ≡ Ok n) where
  writable : WritableSetup most kind size starts (length before)
  writable = setup_write_said _ kind size starts (length before) (wrote_said _ _ _ _ _ w ok).0

  laid : after ≡ setup_bytes kind size delta starts ++ drop (8 + length starts) before
  laid =
      (wrote_said _ _ _ _ _ w ok).1
      ∙ ap (λ (n : ℕ). setup_bytes kind size delta starts ++ drop n before) (length-setup_bytes kind size delta starts)

  pub written_setup_back : delta < 65_536 → setup_read most after ≡ Ok (given most kind size delta starts)
  written_setup_back h = ap (setup_read most) laid ∙ setup_back most kind size delta starts _ writable.limits writable.good h

  pub written_rest_back : (setup_rest most after ≡ drop (8 + length starts) before) × (rest_start most after ≡ 8 + length starts)
  written_rest_back = rw laid (rest_back most kind size delta starts _ writable.limits writable.good)

-- an accepted setup, written again from its fields, gives its bytes
module _ (most : ℕ) (s : List ℕ) (bytes : AllBytes s) (ok : setup_refusal most s ≡ 0) where
  known : AcceptedSetup most s
  known = setup_said most s ok

  abbrev delta : ℕ
  delta = little_of (byte 6 s ∷ byte 7 s ∷ [])

  head_again : setup_head (byte 2 s) (byte 3 s) (byte 4 s) delta ≡ elements 8 0 s
  head_again =
      let h = known.head in
      cc ((limits_size _ _ _ _ _ h.limits).2, little_bytes_of (byte 6 s ∷ byte 7 s ∷ []) (byte_small s bytes 6, (byte_small s bytes 7, tt)))

  bytes_again : setup_bytes (byte 2 s) (byte 4 s) delta (start_bytes s) ≡ take (8 + byte 3 s) s
  bytes_again =
      ap (λ (n : ℕ). setup_head (byte 2 s) n (byte 4 s) delta ++ start_bytes s) (start_count s known.head.whole)
      ∙ ap (λ (l : List ℕ). l ++ start_bytes s) (head_again ∙ sym (take-elements 8 0 s known.head.eight))
      ∙ sym (take-add 8 (byte 3 s) s)

  starts_again : take (byte 3 s) (places most (start_bytes s)) ≡ start_bytes s
  starts_again = take_at (start_bytes s) (drop (length (start_bytes s)) (replicate most 0)) (byte 3 s) (start_count s known.head.whole)

  pub kind_again : number_of (kind_of (byte 2 s)) ≡ byte 2 s
  kind_again = let l = known.head.limits in number_of_kind (byte 2 s) (inside 1 last_kind (byte 2 s) l.kind_low l.kind_high)

  fields_again : let t = setup_fields most s in setup_bytes (number_of t.kind) t.size t.delta (take t.processes t.starts) ≡ take (8 + t.processes) s
  fields_again = simp (kind_again, starts_again) bytes_again

  -- from the writer's own promise, over any buffer that has room
  module _ (before after : List ℕ) (r : Result ℕ ℕ) (room : 8 + byte 3 s ≤ length before)
      (w : let t = setup_fields most s in
      WroteSetup most (number_of t.kind) t.size t.delta (take t.processes t.starts) before r after) where
    -- the number of start bytes is n, and byte 5 is 0
    writes : WritableSetup most (byte 2 s) (byte 4 s) (start_bytes s) (length before)
    writes =
        let l = known.head.limits in
        let n = start_count s known.head.whole in
        let zero = (limits_size _ _ _ _ _ l).2 in
        record {
          limits = record {
            kind_low = l.kind_low;
            kind_high = l.kind_high;
            someone = omega arith;
            few = omega arith;
            sized = rw n (rw zero at l.sized);
          };
          good = rw zero at known.good;
          fits = omega arith;
        }

    fields_rewritten : (r ≡ Ok (8 + byte 3 s)) × (after ≡ take (8 + byte 3 s) s ++ drop (8 + byte 3 s) before)
    fields_rewritten =
        let rec : List ℕ = setup_bytes (byte 2 s) (byte 4 s) delta (start_bytes s) in
        let count : length rec ≡ 8 + byte 3 s = omega (arith, start_count s known.head.whole) in
        let p = wrote_whole _ rec before r after (simp (kind_again, starts_again) at w) (said_setup_write _ _ _ _ _ writes) in (
          p.0 ∙ rw count,
          p.1 ∙ ap (λ (n : ℕ). rec ++ drop n before) count ∙ ap (λ (l : List ℕ). l ++ drop (8 + byte 3 s) before) bytes_again,
        )

-- and so does a setup that was read
module _ (most : ℕ) (s : List ℕ) (bytes : AllBytes s) {t : Setup} (read : setup_read most s ≡ Ok t) where
  said : (setup_refusal most s ≡ 0) × (t ≡ setup_fields most s)
  said = setup_was_read most s (sym read)

  pub setup_again : setup_bytes (number_of t.kind) t.size t.delta (take t.processes t.starts) ≡ take (8 + t.processes) s
  setup_again = rw said.1 (fields_again most s bytes said.0)

  pub setup_rewritten : (before after : List ℕ) (r : Result ℕ ℕ) → 8 + t.processes ≤ length before
      → WroteSetup most (number_of t.kind) t.size t.delta (take t.processes t.starts) before r after
      → (r ≡ Ok (8 + t.processes)) × (after ≡ take (8 + t.processes) s ++ drop (8 + t.processes) before)
  setup_rewritten before after r room w =
      rw said.1 (fields_rewritten most s bytes said.0 before after r (rw said.1 at room) (rw said.1 at w))
