-- One stream that reads itself. Assumes nothing.
use Rattle.std.proofs.Common.{◌≡◌, ℕ, zero, suc, ◌<◌, ◌≤◌, List, [], ◌∷◌, length, pos, negsuc, Ok, sym, refl, ap, ◌∙◌, inl, inr, arith}
use lib.Signed.{le_z_yes}
use Rattle.values.specs.declared.types.«Type».TheVariants as type
use Rattle.values.specs.declared.value.Value.TheVariants as value
use Rattle.syntax.specs.declared.record.Kind.TheVariants.{Channel, Stream, Rule}
use Rattle.syntax.specs.Trees as tree
use Rattle.syntax.specs.Entries.{Entry, count, limit}
use Rattle.syntax.specs.Entries as entry
use Rattle.syntax.specs.Heads.{head}
use Rattle.syntax.specs.Parsing.{parse}
use Rattle.syntax.specs.Reading.{read_table, entries, entry_from, many}
use Rattle.typing.specs.Typing.{shape}
use Rattle.references.specs.declared.reference.Id.{Id}
use Rattle.references.specs.declared.reference.Reference.{Reference}
use Rattle.references.specs.References.{reads}
use Rattle.schedule.specs.Edges.{InOrder}
use Rattle.schedule.specs.Graphs.{stream, openings, graph}
use Rattle.schedule.specs.Plans.{lead_by, Takes}
use Rattle.schedule.proofs.Taking.{each_ring}
use Rattle.walks.specs.Walks.{at, Apart, Rising, Lead, Ring}
use Rattle.tables.specs.Reading.{checked}
use Rattle.cases.specs.Cases.{one_stream, OneAhead, NoneAhead}
use Rattle.cases.proofs.Potentials.{falls, reaching, most, settled}
use Rattle.cases.proofs.Answering.{acceptance, closed_refusal}

-- its record, and its reference
abbrev one_records : ℕ → List Entry
one_records d = entry.stream type.Word8 (value.Word8 1 ∷ []) (tree.stream 7 0 d) ∷ []

abbrev itself : ℕ → Reference
itself d = reads (stream 0) Stream 0 d

-- ---- drop 1: a closed walk that weighs 0
one_order : checked (one_stream 1) ≡ Ok (one_records 1)
unfolding checked read_table entries entry_from many parse head shape
one_order = refl

rising : Rising (graph (one_records 1)) (stream 0) (itself 1 ∷ [])
unfolding openings
rising = record { walk = (refl, inl refl, refl); some = omega arith; heavy = le_z_yes tt }

-- a walk of two references comes to the stream twice
once : (a : Id) (w : List Reference) → Rising (graph (one_records 1)) a w → Apart (at (graph (one_records 1)) a w) (length w) → length w ≡ 1
once a [] r apart = absurd (omega (arith, r.some))
once a (x ∷ []) r apart = refl
once a (x ∷ y ∷ w) r apart = elim r.walk.1 [
  | inl e ↦ absurd (apart 0 1 (omega arith) (omega arith) (r.walk.0 ∙ ap (λ (s : Reference). s.reader) (sym e) ∙ ap (λ (s : Reference). s.read) e))
  | inr m ↦ absurd m
]

pub one_ahead : OneAhead
one_ahead = closed_refusal (one_stream 1) (one_records 1) one_order (stream 0) (itself 1 ∷ []) 1 rising once

-- ---- drop 0: a lead of 0, and a ring of 2 slots
none_order : checked (one_stream 0) ≡ Ok (one_records 0)
unfolding checked read_table entries entry_from many parse head shape
none_order = refl

in_order : InOrder (one_records 0)
in_order = record {
  small = ((omega arith, ((refl, record { low = le_z_yes tt; high = le_z_yes tt }), tt), omega arith), tt);
  few = λ k. elim k as (λ k. count k (one_records 0) ≤ limit k) [ Channel ↦ omega arith | Stream ↦ omega arith | Rule ↦ omega arith ];
  named = refl;
}

abbrev leads : ℕ → ℕ
leads s = 0

lead_is : (s : ℕ) → Lead (graph (one_records 0)) (stream s) (pos 0)
unfolding openings
lead_is s = record { reached = (stream s, [], refl, refl); most = λ a w p. most (one_records 0) leads (le_z_yes tt, tt) a (stream s) w p }

ring_is : (s : ℕ) → s < count Stream (one_records 0) → Ring (graph (one_records 0)) (lead_by leads) (stream s) 2
unfolding openings
ring_is zero h = record {
  least = negsuc 0;
  own = le_z_yes tt;
  all = reaching (graph (one_records 0)) (lead_by leads) (stream 0) (negsuc 0) (λ _. le_z_yes tt, tt);
  met = inr (itself 0, inl refl, refl, refl);
  is = refl;
}
ring_is (suc s) h = absurd (omega arith)

takes : Takes (one_records 0) 2
takes = record {
  lead = leads;
  length = λ id. 2;
  measured = record { leads = λ s h. lead_is s; lengths = each_ring (one_records 0) (λ id. Ring (graph (one_records 0)) (lead_by leads) id 2) (λ c h. absurd (omega arith)) ring_is };
  total = refl;
}

pub none_ahead : NoneAhead
unfolding openings
none_ahead = acceptance (one_stream 0) (one_records 0) none_order in_order
    (falls (graph (one_records 0)) (λ a. pos 0) (le_z_yes tt, tt)) (settled (one_records 0) leads (le_z_yes tt, tt)) 2 takes (omega arith)
