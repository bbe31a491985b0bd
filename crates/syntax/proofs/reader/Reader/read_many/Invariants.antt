use Rattle.std.proofs.Common.{◌≡◌, ◌-◌, map, vec_items}
use Rattle.syntax.specs.Reading.{many}
use Rattle.syntax.proofs.Many.{onto}
use Rattle.syntax.proofs.reader.Reader.read_many.Given as goal

abbrev pub invariant-loop : goal.invariant-loop
invariant-loop g l =
    (l.ahead.bytes.now ≡ l.fn.self.bytes.now)
    × (many (g.P.Part.found l.known l.fn.self.bytes.now) l.count l.fn.self.at
    ≡ onto (map g.P.Part.see (vec_items l.parts)) (many (g.P.Part.found l.known l.fn.self.bytes.now) (l.count - l.counter) l.ahead.at))
