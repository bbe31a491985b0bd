-- A list of fixed room.
use Rattle.std.specs.Prelude.{ℕ, List, take}
use Rattle.lists.specs.declared.list.List.{List as Listed}

-- the items, in order; of the room that is left no clause speaks
abbrev pub items : {T : Type 0} {CAP : ℕ} → Listed T CAP → List T
items l = take l.count l.room
