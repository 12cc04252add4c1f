-- The pairs: each has its own place among the deadlines.
-- Assumes nothing.
use Prim.Native.Nat.{◌<◌}
use mathlib.Core.Path.{◌≡◌}
use native.Mathlib.Omega.{arith}
use Rattle.terms.specs.declared.ProcessNumber.{ProcessNumber}
use Rattle.terms.specs.declared.SlotNumber.{SlotNumber}
use Rattle.terms.specs.Ranges.{IsPair}
use Rattle.registers.specs.Sizes.{pair_count}
use Rattle.registers.specs.Deadlines.{pair_of}

pub pair_below : {i : ProcessNumber} {c : SlotNumber} → IsPair i c → pair_of i c < pair_count
pair_below p = omega arith

pub pair_same : {i i' : ProcessNumber} {c c' : SlotNumber} → IsPair i c → IsPair i' c' → pair_of i c ≡ pair_of i' c' → (i ≡ i') × (c ≡ c')
pair_same {i} {i'} {c} {c'} p p' e =
    let same-process : i.0 ≡ i'.0 = omega arith in
    let same-slot : c.0 ≡ c'.0 = omega arith in
    ((λ k. record { 0 = same-process k }), (λ k. record { 0 = same-slot k }))
