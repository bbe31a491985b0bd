use Rattle.std.proofs.Common.{map}
use Rattle.syntax.specs.Entries.{entry_of}
use Rattle.lists.specs.Lists.{items}
use Rattle.tables.proofs.Sorting.{Sorted}
use Rattle.tables.proofs.content.Content.new.Given as goal

abbrev pub invariant-loop-record : goal.invariant-loop-record
invariant-loop-record l = Sorted (map entry_of l.yielded) (items l.plan.rings) l.counts.records.channels l.channels.items l.streams.items l.rules.items l.greatest_lead
