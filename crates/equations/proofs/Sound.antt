-- What the check of a table shows of its equations. Assumes nothing.
use Rattle.std.specs.Prelude.{◌≡◌, ℕ, ◌+◌, ◌<◌, ◌≤◌, List}
use Rattle.std.specs.List.{AllByRecursion}
use Rattle.values.specs.Values.{HasType}
use Rattle.syntax.specs.declared.record.Kind.TheVariants.{Channel, Stream}
use Rattle.syntax.specs.Entries.{Entry, count}
use Rattle.names.specs.declared.uses.Name.{Name}
use Rattle.names.specs.declared.uses.Name.TheVariants as name
use Rattle.names.specs.Uses.{Use, uses}
use Rattle.typing.specs.Scopes.{channel_types, stream_types}
use Rattle.evaluation.specs.Meaning.{Samples, Values, meaning}
use Rattle.evaluation.proofs.Ranges.{AllRanged}
use Rattle.equations.specs.Equations.{equation_of, opening_of}
use Rattle.equations.specs.Alarms.{Rule, rules}

-- what a reader with this lead and so many opening values may read, where streams have these leads and ranks: samples of ticks before it,
module _ (rs : List Entry) (leads ranks : ℕ → ℕ) (lead opening rank : ℕ) where
  pub record ReadsChannel (c : ℕ) : Type 0 where
    pub known : c < count Channel rs
    pub past : lead ≤ opening

  -- and values of a tick before it, or of the same tick and a lower rank
  pub record ReadsStream (q d : ℕ) : Type 0 where
    pub known : q < count Stream rs
    pub ahead : lead + d ≤ leads q + opening
    pub before : lead + d ≡ leads q + opening → ranks q < rank

  abbrev pub Reads : Name → Type 0
  Reads (name.Channel c) = ReadsChannel c
  Reads (name.Stream q d) = ReadsStream q d

  abbrev pub AllRead : List Use → Type 0
  AllRead us = AllByRecursion (λ u. Reads u.name) us

-- a rule has no lead and no opening values, and comes after every stream
pub record RuleReads (rs : List Entry) (leads ranks : ℕ → ℕ) (r : Rule) : Type 0 where
  pub guard : AllRead rs leads ranks 0 0 (count Stream rs) (uses r.guard)
  pub arguments : AllByRecursion (λ e. AllRead rs leads ranks 0 0 (count Stream rs) (uses e)) r.arguments

-- with no lead above `top`
pub record Sound (rs : List Entry) (lead rank : ℕ → ℕ) (top : ℕ) : Type 0 where
  pub most : (s : ℕ) → s < count Stream rs → lead s ≤ top
  pub ranked : (s : ℕ) → s < count Stream rs → rank s < count Stream rs
  pub reads : (s : ℕ) → s < count Stream rs → AllRead rs lead rank (lead s) (opening_of rs s) (rank s) (uses (equation_of rs s).body)
  pub rules_read : AllByRecursion (RuleReads rs lead rank) (rules rs)
  pub opens : (s : ℕ) → s < count Stream rs → AllByRecursion (HasType (equation_of rs s).ty) (equation_of rs s).opening
  pub typed : (s : ℕ) → s < count Stream rs → (x : Samples) (v : Values) (p : ℕ) →
      AllRanged (channel_types rs) (stream_types rs) x v p (uses (equation_of rs s).body) → HasType (equation_of rs s).ty (meaning x v p (equation_of rs s).body)
