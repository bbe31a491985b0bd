use Rattle.std.proofs.Common.{◌≡◌, ℕ, List, length, get_or, ap, ◌∙◌, sym, arith}
use Rattle.lists.specs.Lists.{items}
use Rattle.rings.specs.Steps.{worked_first}
use Rattle.tables.specs.declared.content.Stream.{Stream}
use Rattle.tables.specs.Tables.{streams_of, plan_of}
use Rattle.engine.specs.Rings.{rings_of}
use Rattle.engine.proofs.Known.{indexed, lead_is, order_long, order_within, stores_on, skips_on}
use Rattle.engine.proofs.tick.work_tick.Goals as goal
use Rattle.engine.proofs.tick.work_tick.Goals.{then-top-end, else-top-end}

pub bounds-streams-stream : goal.bounds-streams-stream
bounds-streams-stream c =
    let t = c.args.table.now in
    let k = c.loop-stream.stream-index in
    let within = order_within t k (omega (arith, c.loop-stream-test.true, ap length c.order-stream-items.ensures)) in
    let turn = ap (λ (o : List ℕ). get_or o k 0) c.order-stream-items.ensures in
    omega (arith, within, turn, ap length c.streams.ensures)

pub bounds-streams-stream-in-loop-stream : goal.bounds-streams-stream-in-loop-stream
bounds-streams-stream-in-loop-stream c =
    let t = c.args.table.now in
    let k = c.loop-stream.stream-index in
    let within = order_within t k (omega (arith, c.loop-stream-test.true, ap length c.order-stream-items.ensures)) in
    let turn = ap (λ (o : List ℕ). get_or o k 0) c.order-stream-items.ensures in
    omega (arith, within, turn, ap length c.streams.ensures)

pub store-requires-clause-known : goal.store-requires-clause-known
store-requires-clause-known c =
    let t = c.args.table.now in
    let k = c.loop-stream.stream-index in
    let within = order_within t k (omega (arith, c.loop-stream-test.true, ap length c.order-stream-items.ensures)) in
    let turn = ap (λ (o : List ℕ). get_or o k 0) c.order-stream-items.ensures in
    omega (arith, within, turn)

pub loop-stream-preserved : goal.loop-stream-preserved
loop-stream-preserved c =
    let t = c.args.table.now in
    let k = c.loop-stream.stream-index in
    let within = order_within t k (omega (arith, c.loop-stream-test.true, ap length c.order-stream-items.ensures)) in
    let turn = ap (λ (o : List ℕ). get_or o k 0) c.order-stream-items.ensures in
    let s = get_or c.order-stream-items.result.now k 0 in
    let x = c.index-streams-stream.result in
    let e = indexed (streams_of t) c.streams.result.now s x c.streams.ensures c.index-streams-stream.is in
    let y = get_or c.streams.result.now s x in
    let lead = sym (ap (λ (z : Stream). z.ring.lead) c.index-streams-stream.is) ∙ lead_is t s x (omega (arith, within, turn)) e in
    elim c.if-top-end.branch [
      | then-top-end w ↦ stores_on t c.args.top c.args.tick c.args.rings.now k s y.ring.lead c.loop-stream.rings c.if-top-end.rings turn lead c.loop-stream.invariant w.if-top-end.true (w.rings-is ∙ w.store.ensures)
      | else-top-end w ↦ skips_on t c.args.top c.args.tick c.args.rings.now k s y.ring.lead c.loop-stream.rings c.if-top-end.rings turn lead c.loop-stream.invariant w.if-top-end.false w.rings-is
    ]

pub returns : goal.returns
returns c =
    let t = c.args.table.now in
    let end : c.loop-stream.stream-index ≡ _ = omega (arith, c.loop-stream-test.false, ap length c.order-stream-items.ensures, c.loop-stream.auto, order_long t) in
    c.loop-stream.invariant ∙ ap (λ (k : ℕ). worked_first (rings_of t) (items (plan_of t).order) c.args.top c.args.tick c.args.rings.now k) end
