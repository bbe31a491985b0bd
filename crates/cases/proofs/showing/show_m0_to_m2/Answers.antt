use Rattle.std.proofs.Common.{arith}
use Rattle.equations.specs.Examples.{m0_to_m2}
use Rattle.cases.proofs.Turns.{known}
use Rattle.cases.proofs.Shown.{looks_ahead}
use Rattle.cases.proofs.showing.show_m0_to_m2.Goals as goal

pub turn-first-requires-clause-known : goal.turn-first-requires-clause-known
turn-first-requires-clause-known c = known c.args.table.now m0_to_m2 c.requires.records 2 (omega arith)

pub turn-second-requires-clause-known : goal.turn-second-requires-clause-known
turn-second-requires-clause-known c = known c.args.table.now m0_to_m2 c.requires.records 2 (omega arith)

pub returns : goal.returns
returns c =
    looks_ahead c.args.table.now c.requires.records
    c.args.rings.now c.open.new.rings c.turn-first.new.rings c.turn-second.new.rings c.turn-first.result c.turn-second.result
    c.open.ensures c.turn-first.ensures.adds c.turn-second.ensures.adds c.turn-first.ensures.shows c.turn-second.ensures.shows
