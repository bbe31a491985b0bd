use Rattle.std.proofs.Common.{arith, replicate}
use Rattle.values.specs.declared.value.Value.TheVariants.{Word8}
use Rattle.equations.specs.Examples.{m3_and_m2}
use Rattle.engine.specs.Rings.{value_at}
use Rattle.cases.proofs.Turns.{known}
use Rattle.cases.proofs.Shown.{repeats}
use Rattle.cases.proofs.showing.show_m3_and_m2.Goals as goal

pub turn-first-requires-clause-known : goal.turn-first-requires-clause-known
turn-first-requires-clause-known c = known c.args.table.now m3_and_m2 c.requires.records 1 (omega arith)

pub turn-second-requires-clause-known : goal.turn-second-requires-clause-known
turn-second-requires-clause-known c = known c.args.table.now m3_and_m2 c.requires.records 1 (omega arith)

pub turn-third-requires-clause-known : goal.turn-third-requires-clause-known
turn-third-requires-clause-known c = known c.args.table.now m3_and_m2 c.requires.records 1 (omega arith)

pub turn-fourth-requires-clause-known : goal.turn-fourth-requires-clause-known
turn-fourth-requires-clause-known c = known c.args.table.now m3_and_m2 c.requires.records 1 (omega arith)

pub returns : goal.returns
returns c =
    repeats c.args.table.now c.requires.records (value_at (replicate 16 (Word8 0)))
    c.args.rings.now c.open.new.rings c.turn-first.new.rings c.turn-second.new.rings c.turn-third.new.rings c.turn-fourth.new.rings
    c.turn-first.result c.turn-second.result c.turn-third.result c.turn-fourth.result
    c.open.ensures c.turn-first.ensures.adds c.turn-second.ensures.adds c.turn-third.ensures.adds c.turn-fourth.ensures.adds
    c.turn-first.ensures.shows c.turn-second.ensures.shows c.turn-third.ensures.shows c.turn-fourth.ensures.shows
