-- Facts that have one proof at most. Assumes nothing.
use Rattle.std.proofs.Common.{ℕ, List}
use Rattle.std.proofs.Props.{props}
use Rattle.values.specs.declared.types.«Type».{«Type» as Ty}
use Rattle.values.specs.declared.value.Value.{Value}
use Rattle.values.specs.Values.{HasType}
use Rattle.syntax.specs.Entries.{Entry}
use Rattle.names.specs.declared.uses.Name.{Name}
use Rattle.names.specs.declared.uses.Name.TheVariants as name
use Rattle.equations.proofs.Sound.{Reads, Sound}
use Rattle.rings.specs.Systems.{System}
use Rattle.rings.specs.Calls.{OpensRings, StoresSamples, Judges}
use Rattle.rings.specs.Laws.{Lawful}
use Rattle.tables.specs.declared.table.Table.{Table}
use Rattle.engine.specs.Known.{Has, IsOwn}

pub value_set : IsSet Value
value_set = hlevel props

pub values_set : IsSet (List Value)
values_set = hlevel (props, value_set)

pub numbers_set : IsSet (List ℕ)
numbers_set = hlevel props

type_set : IsSet Ty
type_set = hlevel props

has_prop : (t : Table) (n : Name) → IsProp (Has t n)
has_prop t (name.Channel c) = hlevel props
has_prop t (name.Stream q d) = hlevel props

pub own_prop : (t : Table) (e : _) → IsProp (IsOwn t e)
own_prop t e = hlevel (props, has_prop)

reads_prop : (rs : List Entry) (lead rank : ℕ → ℕ) (l o r : ℕ) (n : Name) → IsProp (Reads rs lead rank l o r n)
reads_prop rs lead rank l o r (name.Channel c) = hlevel props
reads_prop rs lead rank l o r (name.Stream q d) = hlevel props

typed_prop : (t : Ty) (v : Value) → IsProp (HasType t v)
typed_prop t v = hlevel (props, type_set)

pub sound_prop : (rs : List Entry) (lead rank : ℕ → ℕ) (top : ℕ) → IsProp (Sound rs lead rank top)
sound_prop rs lead rank top = hlevel (props, reads_prop, typed_prop)

pub opens_prop : (S : System) (old new : List ℕ) → IsProp (OpensRings S old new)
opens_prop S old new = hlevel props

pub stores_prop : (S : System) (n : ℕ) (row : ℕ → Value) (old new : List ℕ) → IsProp (StoresSamples S n row old new)
stores_prop S n row old new = hlevel props

pub judges_prop : (S : System) (n : ℕ) (old new : List ℕ) → IsProp (Judges S n old new)
judges_prop S n old new = hlevel props

pub lawful_prop : (S : System) → IsProp (Lawful S)
lawful_prop S = hlevel (props, value_set)
