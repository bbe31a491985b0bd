-- The references of a table as a graph between its records, and how one is told. Assumes nothing.
use Rattle.std.specs.Prelude.{◌≡◌, ℕ, List, [], length, pos, ◌-ℤ◌, Some, None, Option}
use Rattle.std.specs.Option.{unwrap_or}
use Rattle.std.specs.List.{slice_get}
use Rattle.syntax.specs.declared.record.Kind.TheVariants.{Channel, Stream}
use Rattle.syntax.specs.Entries.{Entry}
use Rattle.syntax.specs.Entries as entry
use Rattle.references.specs.declared.reference.Id.{Id}
use Rattle.references.specs.declared.reference.Reference.{Reference}
use Rattle.references.specs.References.{references, position}
use Rattle.walks.specs.declared.edge.SheetEntry.{SheetEntry}
use Rattle.walks.specs.Walks.{Graph}

-- a channel, and a stream, by its number
abbrev pub channel : ℕ → Id
channel n = record { kind = Channel; number = n }

abbrev pub stream : ℕ → Id
stream n = record { kind = Stream; number = n }

-- the record at a place, where there is one
abbrev pub record_at : List Entry → Option ℕ → Option Entry
record_at rs None = None
record_at rs (Some n) = slice_get rs n

-- how many opening values a record has: a stream as many as it lists, any other none
abbrev pub opening_count : Option Entry → ℕ
opening_count None = 0
opening_count (Some (entry.channel t)) = 0
opening_count (Some (entry.stream t vs e)) = length vs
opening_count (Some (entry.rule g es)) = 0

-- how many the record with an id has
unfoldable pub openings : List Entry → Id → ℕ
openings rs id = opening_count (record_at rs (position id.kind id.number rs))

-- the number among all records of the record with an id
unfoldable pub number_of : List Entry → Id → ℕ
number_of rs id = unwrap_or (position id.kind id.number rs) 0

-- a reference weighs its drop less its reader's count of opening values
abbrev pub graph : List Entry → Graph Reference Id
graph rs = record {
  references = references [] rs;
  reader = λ r. r.reader;
  read = λ r. r.read;
  weight = λ r. pos r.drop -ℤ pos (openings rs r.reader);
}

-- how a reference is told: its reader's and what it reads by their numbers among all records, and its drop
abbrev pub told : List Entry → Reference → SheetEntry
told rs r = record { reader = number_of rs r.reader; read = number_of rs r.read; drop = r.drop }

abbrev pub IsChannel : Id → Type 0
IsChannel id = id.kind ≡ Channel
