-- Time's rule: which tick may follow, and when a wait is over.
use Rattle.std.specs.Prelude.{ℕ, ◌+◌, Bool, ltb}

-- a tick below the newest accepted one; equal ticks are accepted
abbrev pub early : ℕ → ℕ → Bool
early newest t = ltb t newest

-- the least tick at which a process may move whose wait began at t: the first above t + Δ
abbrev pub wake_at : ℕ → ℕ → ℕ
wake_at Δ t = t + Δ + 1

-- a process that may not move before the tick `wake` is still waiting at t
abbrev pub waiting : ℕ → ℕ → Bool
waiting wake t = ltb t wake
