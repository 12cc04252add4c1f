-- The row of a process after a move, by what memory answered.
use Rattle.std.specs.Prelude.{ℕ, ◌≡◌, Bool}
use Rattle.model.specs.declared.Place.{Place}
use Rattle.model.specs.declared.Shape.{Shape}
use Rattle.model.specs.declared.Local.{Local}
use Rattle.model.specs.declared.Row.{Row}
use Rattle.model.specs.Routine.{row_after}

-- a row with another local part
abbrev pub turn : (Local → Local) → Row → Row
turn f r = record { local = f r.local; own = r.own; moves = r.moves; lates = r.lates; crashed = r.crashed }

-- a row after a move at place p, where memory answered the value v and whether the write was late
abbrev pub taken : Shape → Place → ℕ → ℕ → Bool → Row → Row
taken u p w v late r = row_after u p w r (record { value = v; late = late })

-- a row takes a move at place p, whenever a wait that begins now ends
abbrev pub Takes : Shape → Place → ℕ → Bool → Row → Row → Type 0
Takes u p v late old new = (w : ℕ) → new ≡ taken u p w v late old
