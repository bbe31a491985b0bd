use Rattle.std.proofs.Common.{List, length, map, subst, ap, refl, vec_items, arith, rules}
use Rattle.lists.specs.Lists.{items}
use Rattle.schedule.specs.declared.plan.Ring.{Ring}
use Rattle.syntax.specs.declared.record.Record.{Record}
use Rattle.syntax.specs.Entries.{entry_of, entries_of}
use Rattle.tables.proofs.Sorting.{Sorted, taken, taken_all, channel_room, stream_room, more_channel, more_stream, rings_are}
use Rattle.tables.proofs.content.Content.new.Goals as goal

pub bounds-rings-len : goal.bounds-rings-len
bounds-rings-len c =
    let front = taken (vec_items c.args.records) c.into_iter-record-iterator.result c.loop-record.record-iterator c.next.new.self c.loop-record.yielded c.next.result c.in-Some.record (search rules) (search rules) c.loop-record.yielded_by c.in-Some.is c.next.ensures.steps in
    let room = channel_room c.loop-record.yielded c.in-Some.record _ _ _ _ _ _ c.loop-record.invariant (vec_items c.args.records) front c.args.plan.now c.requires c.in-Channel.ty c.in-Channel.is refl in
    omega (arith, room, ap length c.as_slice-rings.ensures.value, c.len.ensures, c.loop-record.channels.ok.0)

pub loop-record-preserved-in-Continue-branch-4 : goal.loop-record-preserved-in-Continue-branch-4
loop-record-preserved-in-Continue-branch-4 c =
    let front = taken (vec_items c.args.records) c.into_iter-record-iterator.result c.loop-record.record-iterator c.next.new.self c.loop-record.yielded c.next.result c.in-Some.record (search rules) (search rules) c.loop-record.yielded_by c.in-Some.is c.next.ensures.steps in
    let room = channel_room c.loop-record.yielded c.in-Some.record _ _ _ _ _ _ c.loop-record.invariant (vec_items c.args.records) front c.args.plan.now c.requires c.in-Channel.ty c.in-Channel.is refl in
    more_channel c.loop-record.yielded c.in-Some.record _ _ _ _ _ _ c.loop-record.invariant _ _ c.in_ok-push-in-Channel.ensures.items c.in-Channel.is (cc (c.as_slice-rings.ensures.value, c.len.ensures, c.loop-record.channels.ok.0)) room

pub bounds-rings-counts : goal.bounds-rings-counts
bounds-rings-counts c =
    let front = taken (vec_items c.args.records) c.into_iter-record-iterator.result c.loop-record.record-iterator c.next.new.self c.loop-record.yielded c.next.result c.in-Some.record (search rules) (search rules) c.loop-record.yielded_by c.in-Some.is c.next.ensures.steps in
    let room = stream_room c.loop-record.yielded c.in-Some.record _ _ _ _ _ _ c.loop-record.invariant (vec_items c.args.records) front c.args.plan.now c.requires c.in-Stream.field-0 c.in-Stream.is refl refl in
    omega (arith, room, ap length c.as_slice-rings.ensures.value, c.len-in-Stream.ensures, c.loop-record.streams.ok.0)

pub loop-record-preserved-in-Continue-branch-5 : goal.loop-record-preserved-in-Continue-branch-5
loop-record-preserved-in-Continue-branch-5 c =
    let front = taken (vec_items c.args.records) c.into_iter-record-iterator.result c.loop-record.record-iterator c.next.new.self c.loop-record.yielded c.next.result c.in-Some.record (search rules) (search rules) c.loop-record.yielded_by c.in-Some.is c.next.ensures.steps in
    let room = stream_room c.loop-record.yielded c.in-Some.record _ _ _ _ _ _ c.loop-record.invariant (vec_items c.args.records) front c.args.plan.now c.requires c.in-Stream.field-0 c.in-Stream.is refl refl in
    more_stream c.loop-record.yielded c.in-Some.record _ _ _ _ _ _ c.loop-record.invariant _ _ _ c.in_ok-push-in-Stream.ensures.items (ap entry_of c.in-Stream.is) (cc (c.as_slice-rings.ensures.value, c.len-in-Stream.ensures, c.loop-record.streams.ok.0)) room (search rules)

pub returns : goal.returns
returns c =
    let all = taken_all (vec_items c.args.records) c.into_iter-record-iterator.result c.loop-record.record-iterator c.next.new.self c.loop-record.yielded c.next.result (search rules) (search rules) c.loop-record.yielded_by c.in-None.is c.next.ensures.steps in
    let p = c.args.plan.now in
    let sorted = subst (λ (l : List Record). Sorted (map entry_of l) (items p.rings) p.counts.records.channels c.loop-record.channels.items c.loop-record.streams.items c.loop-record.rules.items c.loop-record.greatest_lead) all c.loop-record.invariant in
    let rings = rings_are (entries_of c.args.records) p c.requires _ _ _ _ sorted in
    record { kinds = sorted.kinds; rings = rings; greatest = sorted.greatest }
