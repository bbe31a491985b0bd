-- The references of a table in reading order, and the place of a record. Assumes nothing.
use Rattle.std.specs.Prelude.{◌≡◌, ℕ, ◌+◌, ◌-◌, ◌<◌, ◌≤◌, cond, List, [], ◌∷◌, ◌++◌, map, length, take, Some, None, Option, MatchOption, ◌==◌}
use Rattle.std.specs.Option.{option_map}
use Rattle.std.specs.List.{slice_get}
use Rattle.syntax.specs.declared.record.Kind.{Kind}
use Rattle.syntax.specs.declared.record.Kind.TheVariants.{Channel, Stream}
use Rattle.syntax.specs.Entries.{Entry, kind_of, kind_code, count}
use Rattle.names.specs.declared.uses.Name.{Name}
use Rattle.names.specs.declared.uses.Name.TheVariants as name
use Rattle.names.specs.Uses.{Use, uses_of}
use Rattle.references.specs.declared.reference.Id.{Id}
use Rattle.references.specs.declared.reference.Reference.{Reference}

-- a reference to the record of a kind and number
abbrev pub reads : Id → Kind → ℕ → ℕ → Reference
reads reader k i d = record { reader = reader; read = record { kind = k; number = i }; drop = d }

-- what a name refers to: a channel at the index where it is read, a stream so many indexes ahead
abbrev pub refer_name : Id → Name → Reference
refer_name reader (name.Channel i) = reads reader Channel i 0
refer_name reader (name.Stream i d) = reads reader Stream i d

abbrev pub refer : Id → Use → Reference
refer reader u = refer_name reader u.name

-- the id of a record after those before it: its kind, and how many of its kind stand before it
abbrev pub id_after : List Entry → Entry → Id
id_after before r = record { kind = kind_of r; number = count (kind_of r) before }

-- the references of records, after those before them
abbrev pub references : List Entry → List Entry → List Reference
references before [] = []
references before (r ∷ rs) = map (refer (id_after before r)) (uses_of r) ++ references (before ++ (r ∷ [])) rs

-- the number among all records of the record of a kind and number
abbrev pub position : Kind → ℕ → List Entry → Option ℕ
position k n [] = None
position k n (r ∷ rs) =
    cond (kind_code (kind_of r) == kind_code k)
    (cond (n == 0) (Some 0) (option_map (λ m. m + 1) (position k (n - 1) rs)))
    (option_map (λ m. m + 1) (position k n rs))

-- the record at n has the id's kind, and as many of its kind stand before it as the id's number says
pub record StandsAt (entries : List Entry) (id : Id) (n : ℕ) : Type 0 where
  pub inside : n < length entries
  pub here : (r : Entry) × (slice_get entries n ≡ Some r) × (kind_of r ≡ id.kind)
  pub before : count id.kind (take n entries) ≡ id.number

-- an answer is where the record with the id stands; there is none only where there are not so many of the kind
abbrev pub TellsPlace : List Entry → Id → Option ℕ → Type 0
TellsPlace entries id answer = MatchOption answer (count id.kind entries ≤ id.number) (λ n. StandsAt entries id n)
