-- What the check of a table shows of its rings. Assumes nothing.
use Rattle.std.specs.Prelude.{◌≡◌, ℕ, ◌+◌, ◌<◌, ◌≤◌, List, slice_index}
use Rattle.std.specs.List.{AllByRecursion}
use Rattle.syntax.specs.declared.record.Kind.TheVariants.{Stream}
use Rattle.syntax.specs.Trees.{Exp}
use Rattle.syntax.specs.Entries.{count}
use Rattle.names.specs.declared.uses.Name.{Name}
use Rattle.names.specs.declared.uses.Name.TheVariants as name
use Rattle.names.specs.Uses.{uses}
use Rattle.references.specs.declared.reference.Id.{Id}
use Rattle.schedule.specs.Graphs.{channel, stream}
use Rattle.schedule.specs.Plans.{HasRing}
use Rattle.equations.specs.Equations.{equation_of, opening_of}
use Rattle.equations.specs.Alarms.{Rule, rules}
use Rattle.equations.proofs.Sound.{Reads}
use Rattle.rings.specs.Systems.{System}

-- what a reader with this lead and so many opening values reads is still in its ring
abbrev pub Keeps : System → ℕ → ℕ → Name → Type 0
Keeps S lead opening (name.Channel c) = opening < lead + S.size (channel c)
Keeps S lead opening (name.Stream q d) = S.lead q + opening < lead + d + S.size (stream q)

-- all that an expression names may be read, and is still in its ring
abbrev pub AllFit : System → (ℕ → ℕ) → ℕ → ℕ → ℕ → Exp → Type 0
AllFit S ranks lead opening rank e = AllByRecursion (λ u. Reads S.records S.lead ranks lead opening rank u.name × Keeps S lead opening u.name) (uses e)

-- and so of a rule, which has no lead and no opening values, and comes after every stream
pub record RuleFits (S : System) (ranks : ℕ → ℕ) (r : Rule) : Type 0 where
  pub guard : AllFit S ranks 0 0 (count Stream S.records) r.guard
  pub arguments : AllByRecursion (AllFit S ranks 0 0 (count Stream S.records)) r.arguments

-- k is a slot of some ring
pub record InSomeRing (S : System) (k : ℕ) : Type 0 where
  pub id : Id
  pub ring : HasRing S.records id
  pub at : ℕ
  pub small : at < S.size id
  pub is : k ≡ S.base id + at

-- rings that hold what is read, lie apart, and are the slots; and an order that has the stream of each rank
pub record Fitting (S : System) (order : List ℕ) (rank : ℕ → ℕ) (top : ℕ) : Type 0 where
  pub reads : (s : ℕ) → s < count Stream S.records → AllFit S rank (S.lead s) (opening_of S.records s) (rank s) (equation_of S.records s).body
  pub rules : AllByRecursion (RuleFits S rank) (rules S.records)
  pub most : (s : ℕ) → s < count Stream S.records → S.lead s ≤ top
  pub some : (id : Id) → HasRing S.records id → 0 < S.size id
  pub within : (id : Id) → HasRing S.records id → S.base id + S.size id ≤ S.slots
  pub apart : (a b : Id) → HasRing S.records a → HasRing S.records b → ¬ (a ≡ b) → (i j : ℕ) → i < S.size a → j < S.size b → ¬ (S.base a + i ≡ S.base b + j)
  pub covered : (k : ℕ) → k < S.slots → InSomeRing S k
  pub ordered : (k : ℕ) → k < count Stream S.records → slice_index order k < count Stream S.records
  pub rank_of : (k : ℕ) → k < count Stream S.records → rank (slice_index order k) ≡ k
  pub ranked : (s : ℕ) → s < count Stream S.records → rank s < count Stream S.records
  pub order_of : (s : ℕ) → s < count Stream S.records → slice_index order (rank s) ≡ s
