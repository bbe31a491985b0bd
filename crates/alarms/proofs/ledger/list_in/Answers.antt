use Rattle.std.proofs.Common.{rules, Ok, Err}
use Rattle.alarms.proofs.Listing.{offered_to_empty}
use Rattle.alarms.proofs.ledger.list_in.Goals as goal

pub returns-in-Ok-clause-count : goal.returns-in-Ok-clause-count
returns-in-Ok-clause-count c =
    let new = c.new-ledger.ensures in
    (offered_to_empty _ c.offer.new.sink _ _ (Ok c.in-Ok.field-0) new.entries new.count new.number c.in-Ok.ensures.run).count

pub returns-in-Ok-clause-entries : goal.returns-in-Ok-clause-entries
returns-in-Ok-clause-entries c =
    let new = c.new-ledger.ensures in
    let l = offered_to_empty _ c.offer.new.sink _ _ (Ok c.in-Ok.field-0) new.entries new.count new.number c.in-Ok.ensures.run in
    search (rules, l.entries, l.lent, new.lent)

pub returns-in-Err-clause-count : goal.returns-in-Err-clause-count
returns-in-Err-clause-count c =
    let new = c.new-ledger.ensures in
    (offered_to_empty _ c.offer.new.sink _ _ (Err c.in-Err.untaken) new.entries new.count new.number c.in-Err.ensures.run).count

pub returns-in-Err-clause-entries : goal.returns-in-Err-clause-entries
returns-in-Err-clause-entries c =
    let new = c.new-ledger.ensures in
    let l = offered_to_empty _ c.offer.new.sink _ _ (Err c.in-Err.untaken) new.entries new.count new.number c.in-Err.ensures.run in
    search (rules, l.entries, l.lent, new.lent)
