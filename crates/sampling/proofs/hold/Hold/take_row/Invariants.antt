use Rattle.std.proofs.Common.{◌≡◌, ◌<◌, ◌≤◌, ℕ, length}
use Rattle.sampling.specs.Holds.{after, record_at}
use Rattle.sampling.proofs.hold.Hold.take_row.Given as goal

abbrev pub invariant-loop-channel : goal.invariant-loop-channel
invariant-loop-channel g l =
    (l.self.below ≡ l.fn.self.below)
    × (l.self.bridges ≡ l.fn.self.bridges)
    × (l.self.latched ≡ l.fn.self.latched)
    × ((k : ℕ) → k < l.channel → record_at l.self.channels k ≡ after l.fn.self.bridges (record_at l.fn.self.channels k) ((g.S.Sampler.meaning l.fn.self.below).present k))
    × ((k : ℕ) → l.channel ≤ k → record_at l.self.channels k ≡ record_at l.fn.self.channels k)
    × (length l.self.channels ≡ 16)
