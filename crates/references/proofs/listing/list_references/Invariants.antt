use Rattle.std.proofs.Common.{◌≡◌, [], ◌++◌, map, take, drop, vec_items}
use Rattle.syntax.specs.Entries.{entry_of}
use Rattle.references.specs.References.{references}
use Rattle.references.proofs.listing.list_references.Given as goal

abbrev pub invariant-loop-i : goal.invariant-loop-i
invariant-loop-i l =
    references [] (map entry_of l.records)
    ≡ vec_items l.found ++ references (map entry_of (take l.i l.records)) (map entry_of (drop l.i l.records))
