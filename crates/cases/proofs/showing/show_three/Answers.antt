use Rattle.std.proofs.Common.{◌≡◌, ℕ, List, Ok, subst, sym}
use Rattle.tables.specs.Checking.{Accepting}
use Rattle.tables.specs.Reading.{checked}
use Rattle.tables.specs.Tables.{records_of}
use Rattle.tables.proofs.Deciding.{same_records}
use Rattle.equations.specs.Examples.{m0_to_m2}
use Rattle.cases.specs.Cases.{Checks, three_streams}
use Rattle.cases.proofs.Turns.{accepting}
use Rattle.cases.proofs.Three.{two_ahead, two_order}
use Rattle.cases.proofs.showing.show_three.Goals as goal

pub accept-requires : goal.accept-requires
accept-requires c = subst (λ (l : List ℕ). Checks l Accepting) (sym c.three_streams.ensures) (accepting (three_streams 2) 5 two_ahead)

pub show_m0_to_m2-requires-clause-records : goal.show_m0_to_m2-requires-clause-records
show_m0_to_m2-requires-clause-records c =
    same_records (three_streams 2) (records_of c.in_ok-table.table) m0_to_m2
    (subst (λ (l : List ℕ). checked l ≡ Ok (records_of c.in_ok-table.table)) c.three_streams.ensures c.in_ok-table.ensures) two_order
