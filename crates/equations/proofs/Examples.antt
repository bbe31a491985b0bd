-- What the equations and rules of three small tables give. Assumes nothing.
use Rattle.std.proofs.Common.{◌≡◌, ℕ, ◌<◌, ◌≤◌, List, [], ◌∷◌, pos, refl, ap, ◌∙◌, inl, inr, arith}
use Rattle.std.proofs.Math.Logic.{∥∥₁_elim}
use Rattle.std.specs.Coded.{le_prop}
use Rattle.std.specs.Prelude.{◌≤ℤ◌}
use Rattle.std.proofs.lemmas.Int.{ints}
use Rattle.values.specs.declared.value.Value.{Value}
use Rattle.values.specs.declared.value.Value.TheVariants.{Word8, Word64}
use Rattle.operators.specs.declared.operator.Binary.TheVariants.{Add}
use Rattle.operators.specs.Operators.{binary}
use Rattle.syntax.specs.declared.record.Kind.TheVariants.{Stream}
use Rattle.syntax.specs.Entries.{Entry, count}
use Rattle.references.specs.declared.reference.Id.{Id}
use Rattle.references.specs.declared.reference.Reference.{Reference}
use Rattle.references.specs.References.{reads}
use Rattle.walks.specs.Walks.{Walk, weigh}
use Rattle.schedule.specs.Graphs.{graph, stream}
use Rattle.equations.specs.Equations.{Leads}
use Rattle.equations.specs.Examples.{m3_and_m2, M2Repeats, m0_to_m2, M2LooksAhead, CallsInTurn}
use Rattle.equations.proofs.Listing.{openings_same}

-- a walk to a stream weighs no more than its lead
at_least : (rs : List Entry) (lead : ℕ → ℕ) → Leads rs lead → (s : ℕ) → s < count Stream rs → (a : Id) (w : List Reference) → Walk (graph rs) a w (stream s) →
    (n : ℕ) → pos n ≤ℤ weigh (graph rs) w → n ≤ lead s
at_least rs lead leads s l a w goes n heavy =
    ∥∥₁_elim (leads s l) le_prop (λ d. omega (arith, ints, d.most a w goes, heavy))

-- m2 reads m3 an index ahead
m3_leads : (lead : ℕ → ℕ) → Leads m3_and_m2 lead → 1 ≤ lead 0
m3_leads lead leads =
    at_least m3_and_m2 lead leads 0 (omega arith) (stream 1) (reads (stream 1) Stream 0 1 ∷ []) (refl, inr (inl refl), refl) 1
    (omega (arith, ints, openings_same m3_and_m2 1 (omega arith)))

pub m2_repeats : M2Repeats
m2_repeats x set =
    let up = m3_leads set.lead set.leads in
    let v = set.values in
    let m = set.meets in
    let a : v 0 1 ≡ Word8 1 = (m 0 1 (omega arith) (omega arith)).1 in
    let b : v 0 2 ≡ Word8 2 = (m 0 2 (omega arith) (omega arith)).1 in
    let c : v 1 0 ≡ Word8 1 = (m 1 0 (omega arith) (omega arith)).1 ∙ a in
    let d : v 1 1 ≡ Word8 2 = (m 1 1 (omega arith) (omega arith)).1 ∙ b in
    let e : v 0 3 ≡ Word8 1 = (m 0 3 (omega arith) (omega arith)).1 ∙ c in
    let f : v 0 4 ≡ Word8 2 = (m 0 4 (omega arith) (omega arith)).1 ∙ d in
    (c, d, (m 1 2 (omega arith) (omega arith)).1 ∙ e, (m 1 3 (omega arith) (omega arith)).1 ∙ f)

-- m2 reads m1 two indexes ahead, and m1 reads m0
m1_leads : (lead : ℕ → ℕ) → Leads m0_to_m2 lead → 2 ≤ lead 1
m1_leads lead leads =
    at_least m0_to_m2 lead leads 1 (omega arith) (stream 2) (reads (stream 2) Stream 1 2 ∷ []) (refl, inr (inr (inr (inl refl))), refl) 2
    (omega (arith, ints, openings_same m0_to_m2 2 (omega arith)))

m0_leads : (lead : ℕ → ℕ) → Leads m0_to_m2 lead → 2 ≤ lead 0
m0_leads lead leads =
    at_least m0_to_m2 lead leads 0 (omega arith) (stream 2) (reads (stream 2) Stream 1 2 ∷ reads (stream 1) Stream 0 0 ∷ [])
    (refl, inr (inr (inr (inl refl))), (refl, inr (inl refl), refl)) 2
    (omega (arith, ints, openings_same m0_to_m2 2 (omega arith), openings_same m0_to_m2 1 (omega arith)))

pub m2_looks_ahead : M2LooksAhead
m2_looks_ahead x sample set =
    let up = m1_leads set.lead set.leads in
    let over = m0_leads set.lead set.leads in
    let v = set.values in
    let m = set.meets in
    let a : v 0 2 ≡ Word64 2 = (m 0 2 (omega arith) (omega arith)).1 in
    let b : v 0 3 ≡ Word64 13 = (m 0 3 (omega arith) (omega arith)).1 ∙ ap (λ (y : Value). binary Add y (Word64 3)) sample in
    let c : v 1 2 ≡ Word64 4 = (m 1 2 (omega arith) (omega arith)).1 ∙ ap (λ (y : Value). binary Add y y) a in
    let d : v 1 3 ≡ Word64 26 = (m 1 3 (omega arith) (omega arith)).1 ∙ ap (λ (y : Value). binary Add y y) b in
    ((m 2 0 (omega arith) (omega arith)).1 ∙ c, (m 2 1 (omega arith) (omega arith)).1 ∙ d)

pub calls_in_turn : CallsInTurn
calls_in_turn v = refl
