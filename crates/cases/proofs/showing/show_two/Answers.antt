use Rattle.tables.specs.Tables.{records_of}
use Rattle.tables.proofs.Deciding.{same_records}
use Rattle.equations.specs.Examples.{m3_and_m2}
use Rattle.cases.specs.Cases.{two_streams}
use Rattle.cases.proofs.Turns.{accepting}
use Rattle.cases.proofs.Two.{both_streams, two_order}
use Rattle.cases.proofs.showing.show_two.Goals as goal

pub accept-requires : goal.accept-requires
accept-requires c = accepting two_streams 4 both_streams.1

pub show_m3_and_m2-requires-clause-records : goal.show_m3_and_m2-requires-clause-records
show_m3_and_m2-requires-clause-records c = same_records two_streams (records_of c.in_ok-table.table) m3_and_m2 c.in_ok-table.ensures two_order
