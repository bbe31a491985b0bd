use Rattle.std.proofs.Common.{ℕ, ◌+◌, ◌%◌, length, get_or, pos, ◌∙◌, sym, ap, arith}
use Rattle.std.proofs.lemmas.Bool.{cond-true, lt-ltb}
use Rattle.values.specs.Values.{wrap}
use Rattle.tables.specs.Tables.{streams_of}
use Rattle.engine.proofs.Known.{found, stream_lies, stream_read}
use Rattle.engine.proofs.reader.ReaderSource.stream.Goals as goal

pub slot-slot-requires-clause-some : goal.slot-slot-requires-clause-some
slot-slot-requires-clause-some c =
    let t = c.args.self.now.table.now in
    let (l, e) = found (streams_of t) c.streams.result.now c.args.number c.from.result c.in-Some.stream.now c.streams.ensures c.from.ensures c.in-Some.ensures.lookup.0 c.in-Some.ensures.lookup.1 in
    (stream_lies t c.args.number c.in-Some.stream.now l e).some

pub slot-slot-requires-clause-small : goal.slot-slot-requires-clause-small
slot-slot-requires-clause-small c =
    let t = c.args.self.now.table.now in
    let (l, e) = found (streams_of t) c.streams.result.now c.args.number c.from.result c.in-Some.stream.now c.streams.ensures c.from.ensures c.in-Some.ensures.lookup.0 c.in-Some.ensures.lookup.1 in
    let lies = stream_lies t c.args.number c.in-Some.stream.now l e in
    omega (arith, lies.within, lies.small)

pub offset_bounds-self-slot : goal.offset_bounds-self-slot
offset_bounds-self-slot c =
    let t = c.args.self.now.table.now in
    let (l, e) = found (streams_of t) c.streams.result.now c.args.number c.from.result c.in-Some.stream.now c.streams.ensures c.from.ensures c.in-Some.ensures.lookup.0 c.in-Some.ensures.lookup.1 in
    let lies = stream_lies t c.args.number c.in-Some.stream.now l e in
    record { fits = omega (arith, c.slot-slot.ensures.inside, lies.within, lies.small) }

pub bounds-self-slot : goal.bounds-self-slot
bounds-self-slot c =
    let t = c.args.self.now.table.now in
    let (l, e) = found (streams_of t) c.streams.result.now c.args.number c.from.result c.in-Some.stream.now c.streams.ensures c.from.ensures c.in-Some.ensures.lookup.0 c.in-Some.ensures.lookup.1 in
    let lies = stream_lies t c.args.number c.in-Some.stream.now l e in
    omega (arith, c.slot-slot.ensures.inside, lies.within, c.args.self.now.room)

pub returns : goal.returns
returns c =
    let t = c.args.self.now.table.now in
    let (l, e) = found (streams_of t) c.streams.result.now c.args.number c.from.result c.in-Some.stream.now c.streams.ensures c.from.ensures c.in-Some.ensures.lookup.0 c.in-Some.ensures.lookup.1 in
    c.from_word.ensures ∙ ap (λ (k : ℕ). wrap c.in-Some.stream.now.ty (pos (get_or c.args.self.now.rings.now k 0))) (c.slot-slot.ensures.is ∙ ap (λ (d : ℕ). c.in-Some.stream.now.ring.base + (c.args.self.now.at + d) % c.in-Some.stream.now.ring.length) c.from-2.ensures) ∙
    stream_read t c.args.number c.in-Some.stream.now l e c.args.self.now.rings.now (c.args.self.now.at + c.args.drop) ∙
    sym (cond-true _ _ _ (lt-ltb c.args.number (length (streams_of t)) l))
