-- What a tick needs of a table, as its records and their plan give it. Assumes nothing.
use Rattle.std.specs.Prelude.{◌≡◌, ℕ, ◌+◌, ◌<◌, ◌≤◌, max, List, ◌++◌, map, fold, vec_items, ◌==◌}
use Rattle.std.specs.List.{filter}
use Rattle.syntax.specs.declared.record.Kind.{Kind}
use Rattle.syntax.specs.declared.record.Kind.TheVariants as kind
use Rattle.syntax.specs.declared.record.Rule.{Rule}
use Rattle.syntax.specs.Trees.{exp}
use Rattle.syntax.specs.Entries.{Entry, kind_of, kind_code}
use Rattle.syntax.specs.Entries as entry
use Rattle.lists.specs.Lists.{items}
use Rattle.schedule.specs.declared.plan.Plan.{Plan}
use Rattle.schedule.specs.declared.plan.Ring.{Ring}
use Rattle.tables.specs.declared.content.Channel.{Channel}
use Rattle.tables.specs.declared.content.Stream.{Stream}
use Rattle.tables.specs.declared.content.Content.{Content}

-- the record that a channel, a stream or a rule was made of
abbrev pub channel_entry : Channel → Entry
channel_entry c = entry.channel c.ty

abbrev pub stream_entry : Stream → Entry
stream_entry s = entry.stream s.ty (vec_items s.opening) (exp s.body)

abbrev pub rule_entry : Rule → Entry
rule_entry r = entry.rule (exp r.guard) (map exp (vec_items r.arguments))

-- the records of a kind, in their order
abbrev pub of_kind : Kind → List Entry → List Entry
of_kind k rs = filter (λ r. kind_code (kind_of r) == kind_code k) rs

-- the rings of channels and of streams, by number
abbrev pub channel_rings : List Channel → List Ring
channel_rings cs = map (λ c. c.ring) cs

abbrev pub stream_rings : List Stream → List Ring
stream_rings ss = map (λ s. s.ring) ss

-- a ring has a slot at least, and lies within so many
abbrev pub Lies : ℕ → Ring → Type 0
Lies slots g = (0 < g.length) × (g.base + g.length ≤ slots)

-- the greatest of some numbers, 0 where there are none
abbrev pub greatest : List ℕ → ℕ
greatest xs = fold max 0 xs

abbrev pub greatest_lead_in : List Stream → ℕ
greatest_lead_in ss = greatest (map (λ s. s.ring.lead) ss)

-- channels, streams and rules are those of the records, in their order
pub record ByKind (rs : List Entry) (channels : List Channel) (streams : List Stream) (rules : List Rule) : Type 0 where
  pub channels_are : map channel_entry channels ≡ of_kind kind.Channel rs
  pub streams_are : map stream_entry streams ≡ of_kind kind.Stream rs
  pub rules_are : map rule_entry rules ≡ of_kind kind.Rule rs

-- a content has the records by kind, the plan's rings, of which the channels' lie first and then the streams', and the greatest lead of its streams
pub record Sorts (rs : List Entry) (p : Plan) (c : Content) : Type 0 where
  pub kinds : ByKind rs (vec_items c.channels) (vec_items c.streams) (vec_items c.rules)
  pub rings : channel_rings (vec_items c.channels) ++ stream_rings (vec_items c.streams) ≡ items p.rings
  pub greatest : c.greatest_lead ≡ greatest_lead_in (vec_items c.streams)
