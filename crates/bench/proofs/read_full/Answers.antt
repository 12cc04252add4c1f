-- `read_full` meets its contract: what one more read gave lies behind what was read before. Assumes nothing.
use Rattle.std.proofs.Common.{rules, ◌≡◌, ℕ, ◌+◌, ◌≤◌, List, ◌++◌, length, take, drop, ◌-◌, drop_at, length-take-le, subst}
use Rattle.std.specs.Io.KnownBytes.{Consumes}
use Rattle.std.proofs.KnownBytes.{Consumes-trans}
use Rattle.std.proofs.Math.Seq.{take-add, take_at, take-append-le}
use borrow.Rule.Slice.PartMut.{put_mid}
use Rattle.bench.proofs.read_full.Goals as goal

-- the first n bytes of a part that was put back at index t
read_more : (t k n : ℕ) (buffer part : List ℕ) → t ≤ length buffer → n ≤ length part
    → take t buffer ++ take n part ≡ take (t + n) (put_mid t k buffer part)
read_more t k n buffer part h f =
    let after = drop k (drop t buffer) in
    let front = length-take-le t buffer h in
    rw (
      take-add t n,
      take_at (take t buffer) (part ++ after) t front,
      drop_at (take t buffer) (part ++ after) t front,
      take-append-le n part after f,
    )

pub loop-taken-preserved : goal.loop-taken-preserved
loop-taken-preserved g c =
    let l = c.loop-taken in
    let e = read_more l.taken (length l.buffer - l.taken) c.in_ok-n.n l.buffer c.read.new.buf l.invariant.within c.in_ok-n.ensures.bound.0 in
    record {
      within = search rules;
      bytes = subst (Consumes _ _) e (Consumes-trans _ _ _ _ _ l.invariant.bytes c.in_ok-n.ensures.bytes.0);
    }
