-- Three streams that read one another down to a channel: m0 = [0, 1, 2] ++ (channel 0 + 3), m1 = m0 + m0 and m2 = drop d m1. Assumes nothing.
use Rattle.std.proofs.Common.{◌≡◌, ℕ, zero, suc, ◌+◌, ◌<◌, ◌≤◌, List, [], ◌∷◌, length, ℤ, pos, negsuc, ◌+ℤ◌, ◌≤ℤ◌, Ok, sym, refl, ap, subst, inl, inr, arith}
use lib.Signed.{le_z_yes}
use Rattle.std.specs.List.{AllByRecursion}
use Rattle.std.proofs.lemmas.Int.{ints}
use Rattle.values.specs.declared.types.«Type».TheVariants as type
use Rattle.values.specs.declared.value.Value.TheVariants as value
use Rattle.operators.specs.declared.operator.Binary.TheVariants.{Add}
use Rattle.syntax.specs.declared.record.Kind.{Kind}
use Rattle.syntax.specs.declared.record.Kind.TheVariants.{Channel, Stream, Rule}
use Rattle.syntax.specs.Trees as tree
use Rattle.syntax.specs.Entries.{Entry, kind_code, count, limit}
use Rattle.syntax.specs.Entries as entry
use Rattle.syntax.specs.Heads.{head}
use Rattle.syntax.specs.Parsing.{parse}
use Rattle.syntax.specs.Reading.{read_table, entries, entry_from, many}
use Rattle.values.specs.Values.{HasType}
use Rattle.typing.specs.Typing.{shape}
use Rattle.references.specs.declared.reference.Id.{Id}
use Rattle.references.specs.declared.reference.Reference.{Reference}
use Rattle.references.specs.References.{reads, references}
use Rattle.schedule.specs.Edges.{InOrder}
use Rattle.schedule.specs.Graphs.{channel, stream, openings, graph, IsChannel}
use Rattle.schedule.specs.Plans.{lead_by, Takes}
use Rattle.schedule.proofs.Taking.{each_ring}
use Rattle.walks.specs.Walks.{Walk, weigh, reach, Falling, Lead, Ring}
use Rattle.walks.proofs.Cut.{all_in}
use Rattle.tables.specs.Reading.{checked}
use Rattle.equations.specs.Examples.{m0_to_m2}
use Rattle.cases.specs.Cases.{Checks, AcceptedWith, three_streams, TwoAhead, ThreeAhead, FourAhead}
use Rattle.cases.proofs.Potentials.{along, falls, reaching, most, settled}
use Rattle.cases.proofs.Answering.{acceptance, ahead_refusal}

-- the records, and the references
abbrev three_records : ℕ → List Entry
three_records d =
    entry.channel type.Word64
    ∷ entry.stream type.Word64 (value.Word64 0 ∷ value.Word64 1 ∷ value.Word64 2 ∷ []) (tree.binary 34 Add (tree.channel 35 0) (tree.constant 37 (value.Word64 3)))
    ∷ entry.stream type.Word64 [] (tree.binary 52 Add (tree.stream 53 0 0) (tree.stream 56 0 0))
    ∷ entry.stream type.Word64 [] (tree.stream 64 1 d)
    ∷ []

abbrev from_m0 : Reference
from_m0 = reads (stream 0) Channel 0 0

abbrev from_m1 : Reference
from_m1 = reads (stream 1) Stream 0 0

abbrev from_m2 : ℕ → Reference
from_m2 d = reads (stream 2) Stream 1 d

-- each reference rises by more than it weighs, so that no closed walk weighs 0 or more
abbrev height : ℕ → Kind → ℕ → ℤ
height d Channel n = pos d
height d Stream zero = pos (d + 2)
height d Stream (suc zero) = pos (d + 1)
height d Stream (suc (suc n)) = pos 0
height d Rule n = pos 0

three_falls : (d : ℕ) → Falling (graph (three_records d))
unfolding openings
three_falls d = falls (graph (three_records d)) (λ a. height d a.kind a.number) (omega (arith, ints), (omega (arith, ints), (omega (arith, ints), (omega (arith, ints), tt))))

no_channel : (s : ℕ) → ¬ (channel 0 ≡ stream s)
no_channel s e = omega (arith, ap (λ (x : Id). kind_code x.kind) e)

-- the length of the channel's ring is n, and of each stream's 1
abbrev length_of_kind : ℕ → Kind → ℕ
length_of_kind n Channel = n
length_of_kind n Stream = 1
length_of_kind n Rule = 0

pub long_word : (n : ℕ) → n < 256 → HasType type.Word64 (value.Word64 n)
long_word n h = (refl, record { low = omega (arith, ints); high = omega (arith, ints) })

-- ---- a drop of 3 at most: the leads of m0 and m1 are the drop, that of m2 is 0, and no stream's ring has more than 1 slot
abbrev leads : ℕ → ℕ → ℕ
leads d zero = d
leads d (suc zero) = d
leads d (suc (suc n)) = 0

module _ (d : ℕ) (low : d ≤ 3) where
  in_order : InOrder (three_records d)
  in_order = record {
    small = (
      tt,
      (
        (omega arith, (long_word 0 (omega arith), (long_word 1 (omega arith), (long_word 2 (omega arith), tt))), (tt, (long_word 3 (omega arith)).1)),
        ((omega arith, tt, (omega arith, omega arith)), ((omega arith, tt, omega arith), tt)),
      ),
    );
    few = λ k. elim k as (λ k. count k (three_records d) ≤ limit k) [ Channel ↦ omega arith | Stream ↦ omega arith | Rule ↦ omega arith ];
    named = refl;
  }

  up : AllByRecursion (λ r. reach (graph (three_records d)) (lead_by (leads d)) r ≤ℤ lead_by (leads d) r.read) (references [] (three_records d))
  unfolding openings
  up = (omega (arith, ints), (omega (arith, ints), (omega (arith, ints), (omega (arith, ints), tt))))

  pub leads_are : (s : ℕ) → s < count Stream (three_records d) → Lead (graph (three_records d)) (stream s) (pos (leads d s))
  unfolding openings
  leads_are zero h = record {
    reached = (stream 2, from_m2 d ∷ from_m1 ∷ [], (refl, inr (inr (inr (inl refl))), (refl, inr (inl refl), refl)), omega (arith, ints));
    most = λ a w p. most (three_records d) (leads d) up a (stream 0) w p;
  }
  leads_are (suc zero) h = record {
    reached = (stream 2, from_m2 d ∷ [], (refl, inr (inr (inr (inl refl))), refl), omega (arith, ints));
    most = λ a w p. most (three_records d) (leads d) up a (stream 1) w p;
  }
  leads_are (suc (suc zero)) h = record { reached = (stream 2, [], refl, refl); most = λ a w p. most (three_records d) (leads d) up a (stream 2) w p }
  leads_are (suc (suc (suc s))) h = absurd (omega arith)

  -- a ring of 1 slot: m0 reads q no further back than its newest value, and m1 and m2 reach as far
  ring_of_one : (q : Id) → (channel 0 ≡ q → (lead_by (leads d) q +ℤ pos 3) ≤ℤ pos d) → lead_by (leads d) q ≤ℤ pos d → Ring (graph (three_records d)) (lead_by (leads d)) q 1
  unfolding openings
  ring_of_one q back ahead = record {
    least = lead_by (leads d) q;
    own = omega (arith, ints);
    all = reaching (graph (three_records d)) (lead_by (leads d)) q (lead_by (leads d) q)
        (λ e. omega (arith, ints, back e), (λ _. omega (arith, ints, ahead), (λ _. omega (arith, ints, ahead), (λ _. omega (arith, ints, ahead), tt))));
    met = inl refl;
    is = omega (arith, ints);
  }

  rings_are : (s : ℕ) → s < count Stream (three_records d) → Ring (graph (three_records d)) (lead_by (leads d)) (stream s) 1
  rings_are zero h = ring_of_one (stream 0) (λ e. absurd (no_channel 0 e)) (omega (arith, ints))
  rings_are (suc zero) h = ring_of_one (stream 1) (λ e. absurd (no_channel 1 e)) (omega (arith, ints))
  rings_are (suc (suc zero)) h = ring_of_one (stream 2) (λ e. absurd (no_channel 2 e)) (omega (arith, ints))
  rings_are (suc (suc (suc s))) h = absurd (omega arith)

  one_channel : (c n : ℕ) → c < count Channel (three_records d) → Ring (graph (three_records d)) (lead_by (leads d)) (channel 0) n →
      Ring (graph (three_records d)) (lead_by (leads d)) (channel c) n
  one_channel zero n h ring = ring
  one_channel (suc c) n h ring = absurd (omega arith)

  -- so the table is accepted with the slots of the channel's ring and 3 more
  accepted : (n z : ℕ) → Ring (graph (three_records d)) (lead_by (leads d)) (channel 0) n → z ≡ n + 3 → n ≤ 2 →
      checked (three_streams d) ≡ Ok (three_records d) → Checks (three_streams d) (AcceptedWith z)
  accepted n z ring is small order =
      let lengths : Id → ℕ = λ id. length_of_kind n id.kind in
      let takes : Takes (three_records d) z = record {
        lead = leads d;
        length = lengths;
        measured = record {
          leads = leads_are;
          lengths = each_ring (three_records d) (λ id. Ring (graph (three_records d)) (lead_by (leads d)) id (lengths id)) (λ c h. one_channel c n h ring) rings_are;
        };
        total = omega (arith, is);
      } in
      acceptance (three_streams d) (three_records d) order in_order (three_falls d) (settled (three_records d) (leads d) up) z takes (omega arith)

-- ---- drop 3: m0 reads the channel's newest sample
three_order : checked (three_streams 3) ≡ Ok (three_records 3)
unfolding checked read_table entries entry_from many parse head shape
three_order = refl

pub three_ahead : ThreeAhead
three_ahead = accepted 3 (omega arith) 1 4 (ring_of_one 3 (omega arith) (channel 0) (λ _. le_z_yes tt) (le_z_yes tt)) refl (omega arith) three_order

-- ---- drop 2: m0 reads the sample before it
pub two_order : checked (three_streams 2) ≡ Ok m0_to_m2
unfolding checked read_table entries entry_from many parse head shape
two_order = refl

channel_ring_is : Ring (graph m0_to_m2) (lead_by (leads 2)) (channel 0) 2
unfolding openings
channel_ring_is = record {
  least = negsuc 0;
  own = le_z_yes tt;
  all = reaching (graph m0_to_m2) (lead_by (leads 2)) (channel 0) (negsuc 0) (λ _. le_z_yes tt, (λ _. le_z_yes tt, (λ _. le_z_yes tt, (λ _. le_z_yes tt, tt))));
  met = inr (from_m0, inl refl, refl, refl);
  is = refl;
}

pub two_ahead : TwoAhead
two_ahead = accepted 2 (omega arith) 2 5 channel_ring_is refl (omega arith) two_order

-- ---- drop 4: a walk from m2 to the channel weighs 1
four_order : checked (three_streams 4) ≡ Ok (three_records 4)
unfolding checked read_table entries entry_from many parse head shape
four_order = refl

-- what a walk to the channel weighs, and how many references it has, by where it begins
abbrev weight_from : Kind → ℕ → ℤ
weight_from Channel n = pos 0
weight_from Stream zero = negsuc 2
weight_from Stream (suc zero) = negsuc 2
weight_from Stream (suc (suc n)) = pos 1
weight_from Rule n = pos 0

abbrev length_from : Kind → ℕ → ℕ
length_from Channel n = 0
length_from Stream zero = 1
length_from Stream (suc zero) = 2
length_from Stream (suc (suc n)) = 3
length_from Rule n = 0

abbrev From : Id → ℤ → ℕ → Type 0
From a z n = (z ≡ weight_from a.kind a.number) × (n ≡ length_from a.kind a.number)

abbrev More : Reference → Type 0
More r = (z : ℤ) (n : ℕ) → From r.read z n → From r.reader ((graph (three_records 4)).weight r +ℤ z) (suc n)

more : AllByRecursion More (references [] (three_records 4))
unfolding openings
more =
    let one : More from_m0 = λ z n f. (omega (arith, ints, f.0), omega (arith, f.1)) in
    let two : More from_m1 = λ z n f. (omega (arith, ints, f.0), omega (arith, f.1)) in
    let three : More (from_m2 4) = λ z n f. (omega (arith, ints, f.0), omega (arith, f.1)) in
    (one, (two, (two, (three, tt))))

goes_from : (a b : Id) (w : List Reference) → IsChannel b → Walk (graph (three_records 4)) a w b → From a (weigh (graph (three_records 4)) w) (length w)
goes_from a b w c p = along (graph (three_records 4)) b From
    (subst (λ (k : Kind). (pos 0 ≡ weight_from k b.number) × (0 ≡ length_from k b.number)) (sym c) (refl, refl))
    (λ r m. all_in More (references [] (three_records 4)) r more m)
    a w p

-- only from m2 does one weigh more than 0
heavy_from : (k : Kind) (n : ℕ) → pos 1 ≤ℤ weight_from k n → length_from k n ≡ 3
heavy_from Channel n h = absurd (omega (arith, ints))
heavy_from Stream zero h = absurd (omega (arith, ints))
heavy_from Stream (suc zero) h = absurd (omega (arith, ints))
heavy_from Stream (suc (suc n)) h = refl
heavy_from Rule n h = absurd (omega (arith, ints))

three_long : (a b : Id) (w : List Reference) → IsChannel b → Walk (graph (three_records 4)) a w b → pos 1 ≤ℤ weigh (graph (three_records 4)) w → length w ≡ 3
three_long a b w c p h =
    let (weighs, long) = goes_from a b w c p in
    omega (arith, long, heavy_from a.kind a.number (subst (λ (z : ℤ). pos 1 ≤ℤ z) weighs h))

pub four_ahead : FourAhead
unfolding openings
four_ahead = ahead_refusal (three_streams 4) (three_records 4) four_order (three_falls 4) (stream 2) (channel 0) (from_m2 4 ∷ from_m1 ∷ from_m0 ∷ []) 3 refl
    (refl, inr (inr (inr (inl refl))), (refl, inr (inl refl), (refl, inl refl, refl))) (le_z_yes tt) three_long
