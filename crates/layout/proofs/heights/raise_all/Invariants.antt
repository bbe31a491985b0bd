use Rattle.std.proofs.Common.{◌≡◌, ◌≤◌, ◌<◌, ◌+◌, ◌-◌, ℕ, max, get_or}
use Rattle.layout.proofs.heights.raise_all.Given as goal

abbrev pub invariant-loop-read : goal.invariant-loop-read
invariant-loop-read l =
    ((s : ℕ) → s < l.read → get_or l.to s 0 ≡ max (get_or l.fn.to s 0) (l.height + get_or l.row s 0 - 900000))
    × ((s : ℕ) → l.read ≤ s → get_or l.to s 0 ≡ get_or l.fn.to s 0)
