-- The read/write pattern on a timed register (document 003, Theorem 1). Who reads the register empty with the wait Δ may write to it until Δ ticks
-- later and no longer; who finds it filled waits more than Δ. So once such a wait is over, no write that was pending is in time any more, and
-- nobody new is about to write: the register has its definitive value.
-- Assumes nothing.
use Prim.Native.Nat.{ℕ, ◌+◌, ◌≤◌, ◌<◌}
use mathlib.Core.Path.{◌≡◌, refl, sym, ◌∙◌}
use mathlib.Core.Logic.{◌≢◌}
use native.Mathlib.Omega.{arith}
use Rattle.model.proofs.World.{Seat, Commons, World, Putting, Clock, wake_of, put, put_all, put_other, moved, slot_at, own_of}

-- every put to register c that is pending is late from the tick `wake` on
abbrev pub LateFrom : World → ℕ → ℕ → Type 0
LateFrom w c wake = (j : ℕ) → Putting (w.seat j) → slot_at (w.seat j) ≡ c → (w.seat j).deadline < wake

-- every pending put was bound by a read before now: it is late once a wait is over that begins now
abbrev pub Bound : Clock → World → Type 0
Bound k w = (j : ℕ) → Putting (w.seat j) → (w.seat j).deadline < wake_of k w.floor

-- a read at t with the wait Δ binds so
pub read_binds : (k : Clock) (t d : ℕ) → d ≡ t + k.delta → d < wake_of k (k.next t)
read_binds k t d e = omega (arith, k.onward t)

-- and a deadline stays so while time goes on
pub stays_bound : (k : Clock) (f t d : ℕ) → f ≤ t → d < wake_of k f → d < wake_of k t
stays_bound k f t d h b = omega arith

-- what is pending when a wait begins at tick t is late from the end of the wait on
pub wait_outlasts : (k : Clock) (w : World) (t c : ℕ) → Bound k w → w.floor ≤ t → LateFrom w c (wake_of k t)
wait_outlasts k w t c bound h j p e = stays_bound k w.floor t (w.seat j).deadline h (bound j p)

-- so a write that is not late, after that, is to another register
pub in_time_elsewhere : (w : World) (c wake : ℕ) → LateFrom w c wake → (m t : ℕ) → wake ≤ t → Putting (w.seat m) → t ≤ (w.seat m).deadline
    → slot_at (w.seat m) ≢ c
in_time_elsewhere w c wake late m t h p g e = omega (arith, late m p e)

-- THEOREM 1

-- a register that is filled, and was so during the whole of a wait that is over
pub record Definitive (w : World) (c : ℕ) : Type 0 where
  pub filled : w.value c ≢ 0
  pub wake : ℕ
  pub over : wake ≤ w.floor
  pub late : LateFrom w c wake

-- what a process m does in the pattern at tick t, as far as registers go: nothing, or a write in time
pub data Touches (w : World) (m t : ℕ) : (ℕ → ℕ) → Type 0 where
  none : Touches w m t w.value
  write : Putting (w.seat m) → t ≤ (w.seat m).deadline → Touches w m t (put w.value (slot_at (w.seat m)) (own_of (w.seat m)))

-- the value stands, whoever moves
pub definitive_stands : (w : World) (c m t : ℕ) {v : ℕ → ℕ} → Definitive w c → w.floor ≤ t → Touches w m t v → v c ≡ w.value c
definitive_stands w c m t def h none = refl
definitive_stands w c m t def h (write p g) =
    put_other w.value (slot_at (w.seat m)) c (own_of (w.seat m))
    (λ e. in_time_elsewhere w c def.wake def.late m t (omega (arith, def.over)) p g (sym e))

-- and stays definitive, where a process m comes to its put only if it read its register empty
pub definitive_stays : (w : World) (c m t f : ℕ) (s : Seat) (v : ℕ → ℕ) (g : Commons) → Definitive w c → w.floor ≤ t → w.floor ≤ f
    → Touches w m t v → (Putting s → w.value (slot_at s) ≡ 0) → Definitive (moved w m s v g f) c
definitive_stays w c m t f s v g def h l move reads =
    record {
      filled = λ z. def.filled (sym (definitive_stands w c m t def h move) ∙ z);
      wake = def.wake;
      over = omega (arith, def.over);
      late =
          put_all {A = Seat} (λ j y. Putting y → slot_at y ≡ c → y.deadline < def.wake) {f = w.seat} {i = m} {a = s}
          (λ p e. absurd (def.filled (rw e at (reads p)))) (λ j n. def.late j);
    }

-- further steps of the pattern, by any processes
pub data Onward : World → World → Type 0 where
  now : {w : World} → Onward w w
  further : {w w' : World} (m t f : ℕ) (s : Seat) (v : ℕ → ℕ) (g : Commons) → w.floor ≤ t → w.floor ≤ f → Touches w m t v
      → (Putting s → w.value (slot_at s) ≡ 0) → Onward (moved w m s v g f) w' → Onward w w'

-- whoever reads the register from then on reads the same
pub theorem_1 : {w w' : World} (c : ℕ) → Onward w w' → Definitive w c → w'.value c ≡ w.value c
theorem_1 c now def = refl
theorem_1 {w} c (further m t f s v g h l move reads rest) def =
    theorem_1 c rest (definitive_stays w c m t f s v g def h l move reads) ∙ definitive_stands w c m t def h move
