-- The types of a table's channels and streams, by number. Assumes nothing.
use Rattle.std.specs.Prelude.{◌≡◌, List, [], ◌∷◌, ◌++◌, vec_items}
use Rattle.values.specs.declared.types.«Type».{«Type» as Ty}
use Rattle.syntax.specs.Entries.{Entry}
use Rattle.syntax.specs.Entries as entry
use Rattle.typing.specs.declared.scope.Scope.{Scope}

-- the types of the channels, in their order
abbrev pub channel_types : List Entry → List Ty
channel_types [] = []
channel_types (entry.channel t ∷ rs) = t ∷ channel_types rs
channel_types (entry.stream t vs e ∷ rs) = channel_types rs
channel_types (entry.rule g es ∷ rs) = channel_types rs

-- the types of the streams, in their order
abbrev pub stream_types : List Entry → List Ty
stream_types [] = []
stream_types (entry.channel t ∷ rs) = stream_types rs
stream_types (entry.stream t vs e ∷ rs) = t ∷ stream_types rs
stream_types (entry.rule g es ∷ rs) = stream_types rs

-- a scope after a record was added
abbrev pub Adds : Scope → Entry → Scope → Type 0
Adds s r s' =
    (vec_items s'.channels ≡ vec_items s.channels ++ channel_types (r ∷ []))
    × (vec_items s'.streams ≡ vec_items s.streams ++ stream_types (r ∷ []))

-- a scope has the types of a table
abbrev pub ScopeOf : Scope → List Entry → Type 0
ScopeOf s rs = (vec_items s.channels ≡ channel_types rs) × (vec_items s.streams ≡ stream_types rs)
