use Rattle.std.proofs.Common.{◌≡◌, ℕ, replicate, drop, ◌++◌, ap, ◌∙◌, arith}
use Rattle.lists.specs.Lists.{items}
use Rattle.rings.specs.Steps.{worked_through}
use Rattle.tables.specs.Tables.{plan_of}
use Rattle.engine.specs.Rings.{rings_of}
use Rattle.engine.proofs.Known.{opens}
use Rattle.engine.proofs.tick.open.Goals as goal

pub returns : goal.returns
returns c =
    let t = c.args.table.now in
    let top = c.greatest_lead-top.result in
    let end : c.loop-tick.tick ≡ top = omega (arith, c.loop-tick-test.false, c.loop-tick.auto) in
    opens t c.args.rings.now c.requires top c.loop-tick.rings c.greatest_lead-top.ensures
    (c.loop-tick.invariant ∙
    ap (λ (k : ℕ). worked_through (rings_of t) (items (plan_of t).order) top (replicate (plan_of t).counts.slots 0 ++ drop (plan_of t).counts.slots c.args.rings.now) k) end)
