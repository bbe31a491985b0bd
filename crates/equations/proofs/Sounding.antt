-- What the check of a table shows makes its equations sound. Assumes nothing.
use Rattle.std.proofs.Common.{◌≡◌, ℕ, ◌+◌, ◌<◌, ◌≤◌, List, [], pos, refl, sym, ap, arith}
use Rattle.std.proofs.Math.Logic.{∥∥₁_elim}
use Rattle.std.proofs.Math.Nat.{ℕ_set}
use Rattle.std.specs.List.{AllByRecursion}
use Rattle.std.proofs.ByRecursion.{All-weaker}
use Rattle.std.proofs.lemmas.Int.{ints}
use Rattle.syntax.specs.declared.record.Kind.TheVariants.{Channel, Stream}
use Rattle.syntax.specs.Entries.{Entry, count}
use Rattle.syntax.specs.Written.{Small}
use Rattle.names.specs.declared.uses.Name.{Name}
use Rattle.names.specs.declared.uses.Name.TheVariants as name
use Rattle.names.specs.Uses.{uses}
use Rattle.typing.specs.Scopes.{channel_types, stream_types}
use Rattle.typing.specs.WellTyped.{EntryTyped}
use Rattle.typing.proofs.WellTyped.{all_typed}
use Rattle.references.specs.declared.reference.Id.{Id}
use Rattle.references.specs.References.{reads, refer_name, references}
use Rattle.walks.specs.Walks.{In}
use Rattle.lists.specs.Lists.{items}
use Rattle.schedule.specs.declared.plan.Plan.{Plan}
use Rattle.schedule.specs.Graphs.{stream, openings}
use Rattle.schedule.specs.Plans.{lead_in, lead_of}
use Rattle.schedule.specs.Serving.{Serves}
use Rattle.schedule.proofs.Carrying.{stands}
use Rattle.schedule.proofs.Serving.{serves}
use Rattle.schedule.proofs.Standing.{orderly}
use Rattle.evaluation.proofs.Ranges.{meaning_typed}
use Rattle.evaluation.specs.Meaning.{Samples, Values}
use Rattle.equations.specs.Equations.{Leads, equation_of, opening_of, TypedSamples, Meets, OneSet}
use Rattle.equations.specs.Alarms.{Rule, rules}
use Rattle.equations.specs.Laws.{WellPlanned, ExactlyOne, AtMostOne, RestsOnThePast, OnThePast}
use Rattle.equations.proofs.Listing.{stream_record, of_stream, rule, ReadsAs, Listed, body_listed, rules_listed, openings_same, openings_none}
use Rattle.equations.proofs.Ranking.{place, ranked, order_of}
use Rattle.equations.proofs.Greatest.{greatest, most}
use Rattle.equations.proofs.Sound.{Reads, RuleReads, Sound}
use Rattle.equations.proofs.One.{unique, exists}
use Rattle.equations.proofs.Past.{meets_later, same_called}

module _ (rs : List Entry) (p : Plan) (w : WellPlanned rs p) where
  pub served : Serves rs p
  served = serves rs (orderly rs w.order) p w.planned

  abbrev pub rank_in : ℕ → ℕ
  rank_in = place (items p.order)

  -- the streams of a rank, and back
  pub ranks : (s : ℕ) → s < count Stream rs → rank_in s < count Stream rs
  ranks = ranked (count Stream rs) (items p.order) served.order.each

  -- what a reader with this lead and so many opening values names may be read
  module _ (id : Id) (lead opening rank : ℕ) (leading : lead_of p id ≡ pos lead) (counted : openings rs id ≡ opening)
      (first : (q d : ℕ) → In (reads id Stream q d) (references [] rs) → q < count Stream rs → lead + d ≡ lead_in p q + opening → rank_in q < rank)
    where
      pub name_reads : (n : Name) → In (refer_name id n) (references [] rs) → Reads rs (lead_in p) rank_in lead opening rank n
      name_reads (name.Channel c) m =
          let r = reads id Channel c 0 in
          record { known = (stands rs (orderly rs w.order) r m).read; past = omega (arith, ints, served.sampled r m refl, leading, counted) }
      name_reads (name.Stream q d) m =
          let r = reads id Stream q d in
          let known = (stands rs (orderly rs w.order) r m).read in
          record { known = known; ahead = omega (arith, ints, (served.finds r m).made, leading, counted); before = first q d m known }

  -- what is read at the index at which its reader works comes before it
  earlier : (s : ℕ) → s < count Stream rs → (q d : ℕ) → In (reads (stream s) Stream q d) (references [] rs) → q < count Stream rs →
      lead_in p s + d ≡ lead_in p q + opening_of rs s → rank_in q < rank_in s
  earlier s l q d m lq e =
      served.order.before (reads (stream s) Stream q d) m (omega (arith, ints, e, openings_same rs s l)) (rank_in q) (rank_in s) (ranks q lq) (ranks s l)
      (ap stream (sym (order_of (count Stream rs) (items p.order) served.order.each q lq))) (ap stream (sym (order_of (count Stream rs) (items p.order) served.order.each s l)))

  pub stream_reads : (s : ℕ) → s < count Stream rs → (n : Name) → In (refer_name (stream s) n) (references [] rs) →
      Reads rs (lead_in p) rank_in (lead_in p s) (opening_of rs s) (rank_in s) n
  stream_reads s l = name_reads (stream s) (lead_in p s) (opening_of rs s) (rank_in s) refl (openings_same rs s l) (earlier s l)

  -- what a rule names may be read
  pub rule_reads : (n : ℕ) (m : Name) → In (refer_name (rule n) m) (references [] rs) → Reads rs (lead_in p) rank_in 0 0 (count Stream rs) m
  rule_reads n = name_reads (rule n) 0 0 (count Stream rs) refl (openings_none rs n) (λ q d _ lq _. ranks q lq)

  rule_sound : (r : Rule) → ReadsAs (Listed rs) r → RuleReads rs (lead_in p) rank_in r
  rule_sound r listed = record {
    guard = All-weaker _ _ (λ u. rule_reads listed.number u.name) (uses r.guard) listed.guard;
    arguments = All-weaker _ _ (λ e. All-weaker _ _ (λ u. rule_reads listed.number u.name) (uses e)) r.arguments listed.arguments;
  }

  small : (s : ℕ) → s < count Stream rs → Small (stream_record (equation_of rs s))
  small s l = of_stream Small rs w.order.small s l

  pub leads : Leads rs (lead_in p)
  leads s l = ∣ w.planned.measured.leads s l ∣₁

  pub sound : (top : ℕ) → ((s : ℕ) → s < count Stream rs → lead_in p s ≤ top) → Sound rs (lead_in p) rank_in top
  sound top most = record {
    most = most;
    ranked = ranks;
    reads = λ s l. All-weaker _ _ (λ u. stream_reads s l u.name) (uses (equation_of rs s).body) (body_listed rs s l);
    rules_read = All-weaker _ _ rule_sound (rules rs) (rules_listed rs);
    opens = λ s l. (small s l).1;
    typed = λ s l x v i.
        meaning_typed (channel_types rs) (stream_types rs) x v i (equation_of rs s).body (equation_of rs s).ty
        (of_stream (EntryTyped (channel_types rs) (stream_types rs)) rs (all_typed rs w.types) s l) (small s l).2;
  }

-- exactly one set meets the equations that are sound
abbrev pub one_set : (rs : List Entry) (lead rank : ℕ → ℕ) (top : ℕ) → Sound rs lead rank top → Leads rs lead → (x : Samples) (n : ℕ) → TypedSamples rs x n → OneSet rs x n
one_set rs lead rank top sound leads x n typed =
    let e = exists rs lead rank top sound x n typed in
    record {
      lead = lead;
      leads = leads;
      values = e.0;
      meets = e.1;
      only = λ v m. unique rs lead rank top sound x n v e.0 m e.1;
    }

abbrev top_of : List Entry → Plan → ℕ
top_of rs p = greatest (lead_in p) (count Stream rs)

sound_of : (rs : List Entry) (p : Plan) (w : WellPlanned rs p) → Sound rs (lead_in p) (rank_in rs p w) (top_of rs p)
sound_of rs p w = sound rs p w (top_of rs p) (most (lead_in p) (count Stream rs))

pub exactly_one : ExactlyOne
exactly_one rs p w x n typed = one_set rs (lead_in p) (rank_in rs p w) (top_of rs p) (sound_of rs p w) (leads rs p w) x n typed

-- a stream has one lead
same_lead : (rs : List Entry) (lead lead' : ℕ → ℕ) → Leads rs lead → Leads rs lead' → (s : ℕ) → s < count Stream rs → lead s ≡ lead' s
same_lead rs lead lead' f g s l =
    ∥∥₁_elim (f s l) (ℕ_set _ _) (λ a. ∥∥₁_elim (g s l) (ℕ_set _ _) (λ b.
    let (_, v, goes, weighs) = a.reached in
    let (_, w, goes', weighs') = b.reached in
    omega (arith, ints, b.most _ v goes, a.most _ w goes', weighs, weighs')))

meets_by : (rs : List Entry) (lead lead' : ℕ → ℕ) → Leads rs lead → Leads rs lead' → (x : Samples) (n : ℕ) (v : Values) → Meets rs lead x n v → Meets rs lead' x n v
meets_by rs lead lead' f g x n v meets s i l h = meets s i l (omega (arith, h, same_lead rs lead lead' f g s l))

pub at_most_one : AtMostOne
at_most_one rs p w lead is x n v u mv mu s i l h =
    let by = meets_by rs lead (lead_in p) is (leads rs p w) x n in
    unique rs (lead_in p) (rank_in rs p w) (top_of rs p) (sound_of rs p w) x n v u (by v mv) (by u mu) s i l (omega (arith, h, same_lead rs lead (lead_in p) is (leads rs p w) s l))

-- what is sound rests on the past
pub past_of : (rs : List Entry) (lead rank : ℕ → ℕ) (top : ℕ) → Sound rs lead rank top → Leads rs lead → RestsOnThePast rs
past_of rs lead rank top sound own =
    let to : (lead' : ℕ → ℕ) → Leads rs lead' → (x : Samples) (n : ℕ) (v : Values) → Meets rs lead' x n v → Meets rs lead x n v =
    λ lead' is. meets_by rs lead' lead is own in
    record {
      values = λ lead' is x y n same v m. meets_by rs lead lead' own is y n v (meets_later rs lead rank top sound x y n same v (to lead' is x n v m));
      alarms = λ lead' is x y n same v u mv mu. same_called rs lead rank top sound x y n same v u (to lead' is x n v mv) (to lead' is y n u mu) n (omega arith);
    }

pub on_the_past : OnThePast
on_the_past rs p w = past_of rs (lead_in p) (rank_in rs p w) (top_of rs p) (sound_of rs p w) (leads rs p w)
