use Rattle.std.proofs.Common.{ℕ, length, get_or, pos, ◌∙◌, sym, ap, arith}
use Rattle.std.proofs.lemmas.Bool.{cond-true, lt-ltb}
use Rattle.values.specs.Values.{wrap}
use Rattle.tables.specs.Tables.{channels_of}
use Rattle.engine.proofs.Known.{found, channel_lies, channel_read}
use Rattle.engine.proofs.reader.ReaderSource.channel.Goals as goal

pub slot-slot-requires-clause-some : goal.slot-slot-requires-clause-some
slot-slot-requires-clause-some c =
    let t = c.args.self.now.table.now in
    let (l, e) = found (channels_of t) c.channels.result.now c.args.number c.from.result c.in-Some.channel.now c.channels.ensures c.from.ensures c.in-Some.ensures.lookup.0 c.in-Some.ensures.lookup.1 in
    (channel_lies t c.args.number c.in-Some.channel.now l e).some

pub slot-slot-requires-clause-small : goal.slot-slot-requires-clause-small
slot-slot-requires-clause-small c =
    let t = c.args.self.now.table.now in
    let (l, e) = found (channels_of t) c.channels.result.now c.args.number c.from.result c.in-Some.channel.now c.channels.ensures c.from.ensures c.in-Some.ensures.lookup.0 c.in-Some.ensures.lookup.1 in
    let lies = channel_lies t c.args.number c.in-Some.channel.now l e in
    omega (arith, lies.within, lies.small)

pub offset_bounds-self-slot : goal.offset_bounds-self-slot
offset_bounds-self-slot c =
    let t = c.args.self.now.table.now in
    let (l, e) = found (channels_of t) c.channels.result.now c.args.number c.from.result c.in-Some.channel.now c.channels.ensures c.from.ensures c.in-Some.ensures.lookup.0 c.in-Some.ensures.lookup.1 in
    let lies = channel_lies t c.args.number c.in-Some.channel.now l e in
    record { fits = omega (arith, c.slot-slot.ensures.inside, lies.within, lies.small) }

pub bounds-self-slot : goal.bounds-self-slot
bounds-self-slot c =
    let t = c.args.self.now.table.now in
    let (l, e) = found (channels_of t) c.channels.result.now c.args.number c.from.result c.in-Some.channel.now c.channels.ensures c.from.ensures c.in-Some.ensures.lookup.0 c.in-Some.ensures.lookup.1 in
    let lies = channel_lies t c.args.number c.in-Some.channel.now l e in
    omega (arith, c.slot-slot.ensures.inside, lies.within, c.args.self.now.room)

pub returns : goal.returns
returns c =
    let t = c.args.self.now.table.now in
    let (l, e) = found (channels_of t) c.channels.result.now c.args.number c.from.result c.in-Some.channel.now c.channels.ensures c.from.ensures c.in-Some.ensures.lookup.0 c.in-Some.ensures.lookup.1 in
    c.from_word.ensures ∙ ap (λ (k : ℕ). wrap c.in-Some.channel.now.ty (pos (get_or c.args.self.now.rings.now k 0))) (c.slot-slot.ensures.is) ∙
    channel_read t c.args.number c.in-Some.channel.now l e c.args.self.now.rings.now (c.args.self.now.at) ∙
    sym (cond-true _ _ _ (lt-ltb c.args.number (length (channels_of t)) l))
