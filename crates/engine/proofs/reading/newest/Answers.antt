use Rattle.std.proofs.Common.{ℕ, ◌+◌, ◌-◌, get_or, pos, ap, ◌∙◌, arith}
use Rattle.values.specs.Values.{wrap}
use Rattle.tables.specs.Tables.{streams_of}
use Rattle.engine.proofs.Known.{indexed, stream_lies, stream_read, lead_is}
use Rattle.engine.proofs.Histories.{shows_value}
use Rattle.engine.proofs.reading.newest.Goals as goal

pub returns-then-end-eq0 : goal.returns-then-end-eq0
returns-then-end-eq0 c =
    let t = c.args.table.now in
    let e = indexed (streams_of t) c.streams.result.now c.args.stream c.index-streams-stream.result c.streams.ensures c.index-streams-stream.is in
    omega (arith, c.if-end-eq0.true, c.from.ensures, c.from-2.ensures, lead_is t c.args.stream c.index-streams-stream.result c.requires.known e)

pub slot-slot-requires-clause-some : goal.slot-slot-requires-clause-some
slot-slot-requires-clause-some c =
    let t = c.args.table.now in
    let e = indexed (streams_of t) c.streams.result.now c.args.stream c.index-streams-stream.result c.streams.ensures c.index-streams-stream.is in
    (stream_lies t c.args.stream c.index-streams-stream.result c.requires.known e).some

pub slot-slot-requires-clause-small : goal.slot-slot-requires-clause-small
slot-slot-requires-clause-small c =
    let t = c.args.table.now in
    let e = indexed (streams_of t) c.streams.result.now c.args.stream c.index-streams-stream.result c.streams.ensures c.index-streams-stream.is in
    let lies = stream_lies t c.args.stream c.index-streams-stream.result c.requires.known e in
    omega (arith, lies.within, lies.small)

pub offset_bounds-rings-slot : goal.offset_bounds-rings-slot
offset_bounds-rings-slot c =
    let t = c.args.table.now in
    let e = indexed (streams_of t) c.streams.result.now c.args.stream c.index-streams-stream.result c.streams.ensures c.index-streams-stream.is in
    let lies = stream_lies t c.args.stream c.index-streams-stream.result c.requires.known e in
    record { fits = omega (arith, c.slot-slot.ensures.inside, lies.within, lies.small) }

pub bounds-rings-slot : goal.bounds-rings-slot
bounds-rings-slot c =
    let t = c.args.table.now in
    let e = indexed (streams_of t) c.streams.result.now c.args.stream c.index-streams-stream.result c.streams.ensures c.index-streams-stream.is in
    let lies = stream_lies t c.args.stream c.index-streams-stream.result c.requires.known e in
    omega (arith, c.slot-slot.ensures.inside, lies.within, c.requires.room)

pub returns-clause-read : goal.returns-clause-read
returns-clause-read c =
    let t = c.args.table.now in
    let e = indexed (streams_of t) c.streams.result.now c.args.stream c.index-streams-stream.result c.streams.ensures c.index-streams-stream.is in (
      omega (arith, c.if-end-eq0.false, c.from.ensures, c.from-2.ensures, lead_is t c.args.stream c.index-streams-stream.result c.requires.known e),
      c.from_word.ensures ∙ ap (λ (k : ℕ). wrap c.index-streams-stream.result.ty (pos (get_or c.args.rings.now k 0))) c.slot-slot.ensures.is ∙
          stream_read t c.args.stream c.index-streams-stream.result c.requires.known e c.args.rings.now (c.from.result + c.from-2.result - 1),
    )

pub returns-clause-shows : goal.returns-clause-shows
returns-clause-shows c =
    let read = returns-clause-read c in
    shows_value c.args.table.now c.args.ticks c.args.rings.now c.args.stream (c.from.result + c.from-2.result - 1) c.from_word.result c.requires.known read.0 read.1
