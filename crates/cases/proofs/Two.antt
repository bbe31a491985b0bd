-- Two streams that read each other: m3 = [0, 1, 2] ++ m2 and m2 = drop 1 m3. Assumes nothing.
use Rattle.std.proofs.Common.{◌≡◌, ℕ, zero, suc, ◌<◌, ◌≤◌, [], ◌∷◌, pos, negsuc, ◌≤ℤ◌, Ok, refl, ap, subst, inl, inr, arith}
use lib.Signed.{le_z_yes}
use Rattle.std.specs.List.{AllByRecursion}
use Rattle.std.proofs.lemmas.Int.{ints}
use Rattle.values.specs.declared.types.«Type».TheVariants as type
use Rattle.values.specs.declared.value.Value.TheVariants as value
use Rattle.syntax.specs.declared.record.Kind.TheVariants.{Channel, Stream, Rule}
use Rattle.syntax.specs.Entries.{count, limit}
use Rattle.syntax.specs.Heads.{head}
use Rattle.syntax.specs.Parsing.{parse}
use Rattle.syntax.specs.Reading.{read_table, entries, entry_from, many}
use Rattle.values.specs.Values.{HasType}
use Rattle.typing.specs.Typing.{shape}
use Rattle.references.specs.declared.reference.Id.{Id}
use Rattle.references.specs.declared.reference.Reference.{Reference}
use Rattle.references.specs.References.{reads, references}
use Rattle.schedule.specs.Edges.{InOrder}
use Rattle.schedule.specs.Graphs.{stream, openings, graph}
use Rattle.schedule.specs.Plans.{lead_by, Takes}
use Rattle.schedule.proofs.Taking.{each_ring}
use Rattle.walks.specs.Walks.{reach, Falling, Lead, Ring}
use Rattle.tables.specs.Reading.{checked}
use Rattle.equations.specs.Examples.{m3_and_m2}
use Rattle.cases.specs.Cases.{two_streams, two_leads, Two, TwoStreams}
use Rattle.cases.proofs.Potentials.{falls, reaching, most, settled}
use Rattle.tables.proofs.Deciding.{same_records}
use Rattle.cases.proofs.Answering.{acceptance}

-- their references
abbrev first : Reference
first = reads (stream 0) Stream 1 0

abbrev second : Reference
second = reads (stream 1) Stream 0 1

pub two_order : checked two_streams ≡ Ok m3_and_m2
unfolding checked read_table entries entry_from many parse head shape
two_order = refl

byte : (n : ℕ) → n < 256 → HasType type.Word8 (value.Word8 n)
byte n h = (refl, record { low = omega (arith, ints); high = omega (arith, ints) })

in_order : InOrder m3_and_m2
in_order = record {
  small = ((omega arith, (byte 0 (omega arith), (byte 1 (omega arith), (byte 2 (omega arith), tt))), omega arith), ((omega arith, tt, omega arith), tt));
  few = λ k. elim k as (λ k. count k m3_and_m2 ≤ limit k) [ Channel ↦ omega arith | Stream ↦ omega arith | Rule ↦ omega arith ];
  named = refl;
}

-- each reference rises by more than it weighs: the closed walk through both weighs -2
abbrev heights : ℕ → ℕ
heights zero = 2
heights (suc n) = 0

two_falls : Falling (graph m3_and_m2)
unfolding openings
two_falls = falls (graph m3_and_m2) (lead_by heights) (le_z_yes tt, (le_z_yes tt, tt))

up : AllByRecursion (λ r. reach (graph m3_and_m2) (lead_by two_leads) r ≤ℤ lead_by two_leads r.read) (references [] m3_and_m2)
unfolding openings
up = (le_z_yes tt, (le_z_yes tt, tt))

pub two : Two m3_and_m2
unfolding openings
two = record {
  lead_m3 = record { reached = (stream 1, second ∷ [], (refl, inr (inl refl), refl), refl); most = λ a w p. most m3_and_m2 two_leads up a (stream 0) w p };
  lead_m2 = record { reached = (stream 1, [], refl, refl); most = λ a w p. most m3_and_m2 two_leads up a (stream 1) w p };
  ring_m3 = record {
    least = pos 1;
    own = le_z_yes tt;
    all = reaching (graph m3_and_m2) (lead_by two_leads) (stream 0) (pos 1) (λ e. absurd (omega (arith, ap (λ (x : Id). x.number) e)), (λ _. le_z_yes tt, tt));
    met = inl refl;
    is = refl;
  };
  ring_m2 = record {
    least = negsuc 1;
    own = le_z_yes tt;
    all = reaching (graph m3_and_m2) (lead_by two_leads) (stream 1) (negsuc 1) (λ _. le_z_yes tt, (λ _. le_z_yes tt, tt));
    met = inr (first, inl refl, refl, refl);
    is = refl;
  };
}

leads_are : (s : ℕ) → s < count Stream m3_and_m2 → Lead (graph m3_and_m2) (stream s) (pos (two_leads s))
leads_are zero h = two.lead_m3
leads_are (suc zero) h = two.lead_m2
leads_are (suc (suc s)) h = absurd (omega arith)

-- the lengths of the streams' rings
abbrev lengths : ℕ → ℕ
lengths zero = 1
lengths (suc s) = 3

rings_are : (s : ℕ) → s < count Stream m3_and_m2 → Ring (graph m3_and_m2) (lead_by two_leads) (stream s) (lengths s)
rings_are zero h = two.ring_m3
rings_are (suc zero) h = two.ring_m2
rings_are (suc (suc s)) h = absurd (omega arith)

takes : Takes m3_and_m2 4
takes = record {
  lead = two_leads;
  length = λ id. lengths id.number;
  measured = record { leads = leads_are; lengths = each_ring m3_and_m2 (λ id. Ring (graph m3_and_m2) (lead_by two_leads) id (lengths id.number)) (λ c h. absurd (omega arith)) rings_are };
  total = refl;
}

pub both_streams : TwoStreams
both_streams = (
  λ rs e. subst Two (same_records two_streams m3_and_m2 rs two_order e) two,
  acceptance two_streams m3_and_m2 two_order in_order two_falls (settled m3_and_m2 two_leads up) 4 takes (omega arith),
)
