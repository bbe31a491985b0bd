use Rattle.std.proofs.Common.{rules}
use Rattle.syntax.specs.Entries.{entry_of}
use Rattle.syntax.proofs.Each.{every_from_try_for_each}
use Rattle.names.specs.Uses.{uses_of}
use Rattle.names.specs.Declaring.{undeclared}
use Rattle.names.proofs.Firsts.{undeclared_gathered}
use Rattle.names.proofs.declared.check_names.Goals as goal

pub returns : goal.returns
returns c =
    let declared = c.of-declared.result in
    let each = every_from_try_for_each (λ r. undeclared declared.channels declared.streams (uses_of r)) entry_of c.args.records.now _ c.try_for_each.ensures.ran (search rules) (λ x p d k. search rules) in
    search (rules, undeclared_gathered)
