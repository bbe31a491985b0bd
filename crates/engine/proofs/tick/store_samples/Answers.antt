use Rattle.std.proofs.Common.{◌≡◌, ℕ, suc, ◌+◌, ◌<◌, List, length, get_or, set, ap, ap₂, ◌∙◌, arith}
use Rattle.rings.specs.Steps.{stored_samples}
use Rattle.values.specs.declared.types.«Type».TheVariants as type
use Rattle.schedule.specs.Plans.{no_ring}
use Rattle.tables.specs.declared.content.Channel.{Channel}
use Rattle.tables.specs.Tables.{channels_of}
use Rattle.engine.specs.Rings.{rings_of, value_at}
use Rattle.engine.proofs.Known.{read_there, channel_lies, channel_slot, few_channels, sampled}
use Rattle.engine.proofs.Histories.{adds_samples}
use Rattle.engine.proofs.tick.store_samples.Goals as goal

abbrev no_channel : Channel
no_channel = record { ty = type.Bool; ring = no_ring }

pub bounds-row-number : goal.bounds-row-number
bounds-row-number c = omega (arith, c.loop-number-test.true, ap length c.channels-channel-items.ensures, few_channels c.args.table.now)

pub slot-requires-clause-some : goal.slot-requires-clause-some
slot-requires-clause-some c =
    let t = c.args.table.now in
    let n = c.loop-number.number in
    let l : n < length (channels_of t) = omega (arith, c.loop-number-test.true, ap length c.channels-channel-items.ensures) in
    let x = get_or c.channels-channel-items.result.now n no_channel in
    let e = read_there (channels_of t) c.channels-channel-items.result.now n no_channel c.channels-channel-items.ensures l in
    (channel_lies t n x l e).some

pub slot-requires-clause-small : goal.slot-requires-clause-small
slot-requires-clause-small c =
    let t = c.args.table.now in
    let n = c.loop-number.number in
    let l : n < length (channels_of t) = omega (arith, c.loop-number-test.true, ap length c.channels-channel-items.ensures) in
    let x = get_or c.channels-channel-items.result.now n no_channel in
    let e = read_there (channels_of t) c.channels-channel-items.result.now n no_channel c.channels-channel-items.ensures l in
    let lies = channel_lies t n x l e in
    omega (arith, lies.within, lies.small)

pub offset_bounds-rings-slot : goal.offset_bounds-rings-slot
offset_bounds-rings-slot c =
    let t = c.args.table.now in
    let n = c.loop-number.number in
    let l : n < length (channels_of t) = omega (arith, c.loop-number-test.true, ap length c.channels-channel-items.ensures) in
    let x = get_or c.channels-channel-items.result.now n no_channel in
    let e = read_there (channels_of t) c.channels-channel-items.result.now n no_channel c.channels-channel-items.ensures l in
    let lies = channel_lies t n x l e in
    record { fits = omega (arith, c.slot.ensures.inside, lies.within, lies.small) }

pub bounds-rings-slot : goal.bounds-rings-slot
bounds-rings-slot c =
    let t = c.args.table.now in
    let n = c.loop-number.number in
    let l : n < length (channels_of t) = omega (arith, c.loop-number-test.true, ap length c.channels-channel-items.ensures) in
    let x = get_or c.channels-channel-items.result.now n no_channel in
    let e = read_there (channels_of t) c.channels-channel-items.result.now n no_channel c.channels-channel-items.ensures l in
    let lies = channel_lies t n x l e in
    omega (arith, c.slot.ensures.inside, lies.within, c.requires, c.loop-number.auto.rings)

pub loop-number-preserved : goal.loop-number-preserved
loop-number-preserved c =
    let t = c.args.table.now in
    let n = c.loop-number.number in
    let l : n < length (channels_of t) = omega (arith, c.loop-number-test.true, ap length c.channels-channel-items.ensures) in
    let x = get_or c.channels-channel-items.result.now n no_channel in
    let e = read_there (channels_of t) c.channels-channel-items.result.now n no_channel c.channels-channel-items.ensures l in
    let rows : ℕ → List ℕ = λ k. stored_samples (rings_of t) c.args.tick (value_at c.args.row.now) c.args.rings.now k in
    let more : suc n ≡ n + 1 = omega arith in
    ap (λ (m : List ℕ). set m c.slot.result c.word.result) c.loop-number.invariant ∙
    ap₂ (set (rows n)) (c.slot.ensures.is ∙ channel_slot t n x l e c.args.tick) c.word.ensures.value ∙ ap rows more

pub returns-clause-made : goal.returns-clause-made
returns-clause-made c =
    let t = c.args.table.now in
    let end : c.loop-number.number ≡ length (channels_of t) = omega (arith, c.loop-number-test.false, ap length c.channels-channel-items.ensures, c.loop-number.auto) in
    sampled t c.args.rings.now c.requires c.args.tick (value_at c.args.row.now) c.loop-number.rings
    (c.loop-number.invariant ∙ ap (λ (k : ℕ). stored_samples (rings_of t) c.args.tick (value_at c.args.row.now) c.args.rings.now k) end)

pub returns-clause-holds : goal.returns-clause-holds
returns-clause-holds c = adds_samples c.args.table.now c.args.tick (value_at c.args.row.now) c.args.rings.now c.loop-number.rings (returns-clause-made c)
