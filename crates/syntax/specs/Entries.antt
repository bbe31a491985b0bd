-- The records of a table, with their limits. Assumes nothing.
use Rattle.std.specs.Prelude.{ℕ, ◌+◌, cond, List, [], ◌∷◌, map, vec_items, Option, Vec, ◌==◌}
use Rattle.std.specs.declared.alloc.Global.{Global}
use Rattle.values.specs.declared.types.«Type».{«Type» as Ty}
use Rattle.values.specs.declared.value.Value.{Value}
use Rattle.values.specs.Types.{first_coded}
use Rattle.syntax.specs.declared.record.Record.{Record}
use Rattle.syntax.specs.declared.record.Record.TheVariants as owned
use Rattle.syntax.specs.declared.record.Kind.{Kind}
use Rattle.syntax.specs.declared.record.Kind.TheVariants.{Channel, Stream, Rule}
use Rattle.syntax.specs.Trees.{Exp, exp}

-- a channel with its type; a stream with its type, opening values and body; a rule with its guard and arguments
pub data Entry : Type 0 where
  channel : Ty → Entry
  stream : Ty → List Value → Exp → Entry
  rule : Exp → List Exp → Entry

-- what an owned record stands for
abbrev pub entry_of : Record → Entry
entry_of (owned.Channel t) = channel t
entry_of (owned.Stream s) = stream s.ty (vec_items s.opening) (exp s.body)
entry_of (owned.Rule r) = rule (exp r.guard) (map exp (vec_items r.arguments))

abbrev pub entries_of : Vec Record Global → List Entry
entries_of records = map entry_of (vec_items records)

abbrev pub kind_of : Entry → Kind
kind_of (channel t) = Channel
kind_of (stream t vs e) = Stream
kind_of (rule g es) = Rule

abbrev pub kind_code : Kind → ℕ
kind_code Channel = 1
kind_code Stream = 2
kind_code Rule = 3

-- the kind that a code names
abbrev pub kind_coded : ℕ → Option Kind
kind_coded n = first_coded kind_code (Channel ∷ Stream ∷ Rule ∷ []) n

-- how many records of a kind a table has at most
abbrev pub limit : Kind → ℕ
limit Channel = 16
limit Stream = 32
limit Rule = 16

-- how many are of a kind
abbrev pub count : Kind → List Entry → ℕ
count k [] = 0
count k (r ∷ rs) = cond (kind_code (kind_of r) == kind_code k) 1 0 + count k rs
