-- The kinds and their numbers (01, "What belongs to it"): one table, in the order of the numbers, which count from 1.
use Rattle.std.specs.Prelude.{Bool, List, [], ◌∷◌, ℕ, ◌-◌, length, get_or, Result, Ok, Err}
use Rattle.terms.specs.Refusal.{outside, refuse, if_accepted}
use Rattle.kinds.specs.declared.Kind.{Kind}

abbrev pub kinds : List Kind
kinds = Kind.Lock ∷ Kind.Plain ∷ Kind.Fast ∷ []

abbrev pub last_kind : ℕ
last_kind = length kinds

-- k is the number of none of the kinds 1 to `last`
abbrev pub bad_kind : ℕ → ℕ → Bool
bad_kind last k = outside 1 last k

-- the kind with the number k; beside the table the nearest
abbrev pub kind_of : ℕ → Kind
kind_of k = get_or kinds (k - 1) Kind.Fast

-- and the number of a kind
abbrev pub number_of : Kind → ℕ
number_of Kind.Lock = 1
number_of Kind.Plain = 2
number_of Kind.Fast = 3

-- 3 where k is the number of no kind, else the kind
abbrev pub kind_read : ℕ → Result Kind ℕ
kind_read k = if_accepted (refuse 3 (bad_kind last_kind k)) (Ok (kind_of k)) (Err 3)
