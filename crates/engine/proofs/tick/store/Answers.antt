use Rattle.std.proofs.Common.{◌+◌, ◌%◌, set, ap, ap₂, sym, subst, ◌∙◌, arith}
use Rattle.values.specs.Values.{word}
use Rattle.tables.specs.declared.content.Stream.{Stream}
use Rattle.tables.specs.Tables.{streams_of}
use Rattle.engine.proofs.Known.{Lies, indexed, stream_lies, stream_slot}
use Rattle.engine.proofs.tick.store.Goals as goal

pub slot-requires-clause-some : goal.slot-requires-clause-some
slot-requires-clause-some c =
    let t = c.args.table.now in
    let e = indexed (streams_of t) c.streams.result.now c.args.stream c.index-streams-stream.result c.streams.ensures c.index-streams-stream.is in
    let lies = subst (λ (x : Stream). Lies t x.ring) c.index-streams-stream.is (stream_lies t c.args.stream c.index-streams-stream.result c.requires.known e) in
    lies.some

pub slot-requires-clause-small : goal.slot-requires-clause-small
slot-requires-clause-small c =
    let t = c.args.table.now in
    let e = indexed (streams_of t) c.streams.result.now c.args.stream c.index-streams-stream.result c.streams.ensures c.index-streams-stream.is in
    let lies = subst (λ (x : Stream). Lies t x.ring) c.index-streams-stream.is (stream_lies t c.args.stream c.index-streams-stream.result c.requires.known e) in
    omega (arith, lies.within, lies.small)

pub offset_bounds-rings-slot : goal.offset_bounds-rings-slot
offset_bounds-rings-slot c =
    let t = c.args.table.now in
    let e = indexed (streams_of t) c.streams.result.now c.args.stream c.index-streams-stream.result c.streams.ensures c.index-streams-stream.is in
    let lies = subst (λ (x : Stream). Lies t x.ring) c.index-streams-stream.is (stream_lies t c.args.stream c.index-streams-stream.result c.requires.known e) in
    record { fits = omega (arith, c.slot.ensures.inside, lies.within, lies.small) }

pub bounds-rings-slot : goal.bounds-rings-slot
bounds-rings-slot c =
    let t = c.args.table.now in
    let e = indexed (streams_of t) c.streams.result.now c.args.stream c.index-streams-stream.result c.streams.ensures c.index-streams-stream.is in
    let lies = subst (λ (x : Stream). Lies t x.ring) c.index-streams-stream.is (stream_lies t c.args.stream c.index-streams-stream.result c.requires.known e) in
    omega (arith, c.slot.ensures.inside, lies.within, c.requires.room)

pub returns : goal.returns
returns c =
    let t = c.args.table.now in
    let e = indexed (streams_of t) c.streams.result.now c.args.stream c.index-streams-stream.result c.streams.ensures c.index-streams-stream.is in
    ap₂ (set c.args.rings.now)
    (c.slot.ensures.is ∙ sym (ap (λ (x : Stream). x.ring.base + c.args.index % x.ring.length) c.index-streams-stream.is) ∙ stream_slot t c.args.stream c.index-streams-stream.result c.requires.known e c.args.index)
    (c.word-word.ensures.value ∙ ap word c.work_out.ensures)
