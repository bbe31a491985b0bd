-- The first table, which has no records, is in order. Assumes nothing.
use Rattle.std.proofs.Common.{◌≡◌, [], ◌∷◌, length, Ok, refl, ap, arith}
use Rattle.std.proofs.lemmas.Int.{ints}
use Rattle.lists.specs.Lists.{items}
use Rattle.schedule.specs.declared.plan.Counts.{Counts}
use Rattle.schedule.specs.declared.plan.Plan.{Plan}
use Rattle.schedule.specs.Edges.{InOrder}
use Rattle.schedule.specs.Graphs.{graph, IsChannel}
use Rattle.schedule.specs.Plans.{counted, Planned}
use Rattle.syntax.specs.Reading.{read_table, entries}
use Rattle.walks.specs.Walks.{Falling, Settled}
use Rattle.tables.specs.Reading.{checked}

pub first_order : checked (1 ∷ []) ≡ Ok []
unfolding checked read_table entries
first_order = refl

first_falls : Falling (graph [])
first_falls a [] r = omega (arith, r.some)
first_falls a (x ∷ w) r = r.walk.1

first_settled : Settled (graph []) IsChannel
first_settled a b [] c p = omega (arith, ints)
first_settled a b (x ∷ w) c p = absurd p.1

pub first_in_order : InOrder []
first_in_order = record { small = tt; few = λ k. omega arith; named = refl }

pub first_planned : (p : Plan) → p.counts ≡ counted [] 0 → items p.order ≡ [] → items p.rings ≡ [] → Planned [] p
first_planned p e none no_rings = record {
  falls = first_falls;
  settled = first_settled;
  counts = e;
  measured = record { leads = λ s h. absurd (omega arith); lengths = λ id h. absurd (omega (arith, h.valid)) };
  bases = λ q h. absurd (omega arith);
  rings = ap length no_rings;
  order = record {
    each = record { long = ap length none; every = λ s h. absurd (omega arith); within = λ i h. absurd (omega arith); apart = λ i j k l. absurd (omega arith) };
    before = λ r m. absurd m;
  };
}

-- counts that are all 0 are those of no records
pub none_counted : (c : Counts) → ((c.records.channels ≡ 0) × ((c.records.streams ≡ 0) × (c.records.rules ≡ 0))) × (c.slots ≡ 0) → c ≡ counted [] 0
none_counted c ((a, (b, d)), z) = rw (a, b, d, z) refl
