-- What a call of the bank is refused for, in 01's order.
use Rattle.std.specs.Prelude.{ℕ, not, ◌||◌, ◌&&◌, eqb, leb, ltb}
use Rattle.terms.specs.declared.ProcessNumber.{ProcessNumber}
use Rattle.terms.specs.declared.SlotNumber.{SlotNumber}
use Rattle.terms.specs.Limits.{most_processes, most_slots, top_tick, top_wait, unlimited}
use Rattle.terms.specs.Refusal.{refuse, ◌then◌, outside}

abbrev pub process_refusal : ProcessNumber → ℕ
process_refusal i = refuse 11 (outside 1 most_processes i.0)

abbrev pub slot_refusal : SlotNumber → ℕ
slot_refusal c = refuse 17 (leb most_slots c.0)

abbrev pub tick_refusal : ℕ → ℕ → ℕ
tick_refusal last t = refuse 13 (ltb top_tick t || ltb t last)

abbrev pub wait_refusal : ℕ → ℕ
wait_refusal d = refuse 18 (ltb top_wait d && not (eqb d unlimited))

-- what a read and a write are refused for alike: 11, 17, 13
unfoldable pub call_refusal : ℕ → ProcessNumber → SlotNumber → ℕ → ℕ
call_refusal last i c t = process_refusal i then slot_refusal c then tick_refusal last t

-- and 18
unfoldable pub read_refusal : ℕ → ProcessNumber → SlotNumber → ℕ → ℕ → ℕ
read_refusal last i c t d = call_refusal last i c t then wait_refusal d
