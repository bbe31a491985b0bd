-- What is known of any table, and of the rules whose alarms are due. Assumes nothing.
use Rattle.std.proofs.Common.{◌≡◌, ℕ, suc, ◌+◌, ◌<◌, ◌≤◌, List, [], ◌∷◌, All, length, map, remove, ap, sym, ◌∙◌, subst, arith}
use Rattle.std.proofs.Math.Logic.{∥∥₁_elim}
use Rattle.std.proofs.Math.Nat.{ℕ_set}
use Rattle.std.proofs.Props.{props}
use Rattle.std.specs.Coded.{le_prop}
use Rattle.values.specs.declared.types.«Type».{«Type» as Ty}
use Rattle.syntax.specs.declared.record.Kind.TheVariants as kind
use Rattle.syntax.specs.Entries.{count}
use Rattle.typing.specs.Scopes.{channel_types}
use Rattle.tables.specs.declared.table.Table.{Table}
use Rattle.tables.specs.Tables.{records_of, channels_of, streams_of, rules_of, plan_of, IsAccepted}
use Rattle.tables.proofs.Known.{channel_count, stream_count, rule_count, channel_types_are}

types_set : IsSet (List Ty)
types_set = hlevel props

module _ (t : Table) where
  pub declared_types : map (λ c. c.ty) (channels_of t) ≡ channel_types (records_of t)
  declared_types = ∥∥₁_elim t.accepted (types_set _ _) (λ a. channel_types_are t a)

  pub channels_counted : length (channels_of t) ≡ count kind.Channel (records_of t)
  channels_counted = ∥∥₁_elim t.accepted (ℕ_set _ _) (λ a. channel_count t a)

  pub few_channels : length (channels_of t) ≤ 16
  few_channels = ∥∥₁_elim t.accepted le_prop (λ a. let e = channel_count t a in let few = a.in_order.few kind.Channel in omega (arith, e, few))

  pub streams_counted : length (streams_of t) ≡ count kind.Stream (records_of t)
  streams_counted = ∥∥₁_elim t.accepted (ℕ_set _ _) (λ a. stream_count t a)

  pub rules_counted : (plan_of t).counts.records.rules ≡ length (rules_of t)
  rules_counted = ∥∥₁_elim t.accepted (ℕ_set _ _) (λ a. ap (λ c. c.records.rules) a.planned.counts ∙ sym (rule_count t a))

  -- rules of the table are among as many as were opened
  pub rules_known : (n : ℕ) (xs : List ℕ) → n ≡ (plan_of t).counts.records.rules → All (λ k. k < length (rules_of t)) xs → All (λ k. k < n) xs
  rules_known n xs same all k d inside = let e = rules_counted in let b = all k d inside in omega (arith, same, e, b)

-- what holds of each of several holds of each but the first
pub rest_all : (P : ℕ → Type 0) (xs : List ℕ) → All P xs → All P (remove xs 0)
rest_all P [] all k d h = absurd (omega (arith, h))
rest_all P (x ∷ xs) all k d h = all (suc k) d (omega (arith, h))
