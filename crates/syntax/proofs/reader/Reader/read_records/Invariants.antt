use Rattle.std.proofs.Common.{◌≡◌, ℕ, ◌+◌, ◌-◌, ◌≤◌, [], map, length, vec_items}
use Rattle.syntax.specs.Entries.{entry_of}
use Rattle.syntax.specs.Reading.{entries}
use Rattle.syntax.proofs.reader.Reader.read_records.Given as goal

abbrev pub invariant-loop-self : goal.invariant-loop-self
invariant-loop-self l =
    let bs = l.fn.self.bytes.now in
    (l.self.bytes.now ≡ bs)
    × (l.fn.self.at ≤ l.self.at)
    × ((f : ℕ) × (length bs ≤ l.self.at + f) × (entries (length bs) [] bs l.fn.self.at ≡ entries f (map entry_of (vec_items l.records)) bs l.self.at))

abbrev pub decreases-loop-self : goal.decreases-loop-self
decreases-loop-self l = length l.self.bytes.now - l.self.at
