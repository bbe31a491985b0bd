-- What is known of an accepted table's streams and rules, and of where their values lie. Assumes nothing.
use Rattle.std.proofs.Common.{◌≡◌, ℕ, zero, suc, ◌+◌, ◌%◌, ◌<◌, ◌≤◌, ◌-◌, max, cond, ltb, List, [], ◌∷◌, length, map, fold, true, false, get_or, pos, vec_items, refl, sym, ap, ap₂, ◌∙◌, subst, arith}
use Rattle.std.proofs.Math.Logic.{∥∥₁_elim}
use Rattle.std.proofs.Math.Nat.{ℕ_set}
use Rattle.std.proofs.Props.{props}
use Rattle.std.specs.Coded.{le_prop}
use Rattle.std.specs.List.{AllByRecursion}
use Rattle.std.proofs.lemmas.Bool.{cond-true, cond-false, lt-ltb, le-ltb, ltb-true, le-leb, lt-leb}
use Rattle.std.proofs.ByRecursion.{All-weaker, All-get_or}
use Rattle.std.proofs.lemmas.List.{length-map, get_or-map, get_or_default}
use Rattle.values.specs.declared.types.«Type».{«Type» as Ty}
use Rattle.values.specs.declared.types.«Type».TheVariants as type
use Rattle.values.specs.declared.value.Value.{Value}
use Rattle.values.specs.declared.value.Value.TheVariants.{Bool}
use Rattle.values.specs.Values.{wrap}
use Rattle.syntax.specs.declared.record.Kind.TheVariants as kind
use Rattle.syntax.specs.declared.record.Rule.{Rule}
use Rattle.syntax.specs.declared.tree.Expr.{Expr}
use Rattle.syntax.specs.Trees.{Exp, constant, exp}
use Rattle.syntax.specs.Trees as tree
use Rattle.syntax.specs.Entries.{Entry, count}
use Rattle.syntax.specs.Entries as entry
use Rattle.syntax.specs.Written.{Bounded, Small}
use Rattle.names.specs.declared.uses.Name.{Name}
use Rattle.names.specs.declared.uses.Name.TheVariants as name
use Rattle.names.specs.Uses.{uses}
use Rattle.references.specs.declared.reference.Id.{Id}
use Rattle.lists.specs.Lists.{items}
use Rattle.schedule.specs.declared.plan.Ring.{Ring}
use Rattle.schedule.specs.Graphs.{channel, stream}
use Rattle.schedule.specs.Plans.{HasRing, ring_of, lead_in}
use Rattle.schedule.proofs.Taking.{channel_ring, stream_ring}
use Rattle.evaluation.specs.Meaning.{Samples, Values, meaning, levels}
use Rattle.equations.specs.Equations.{Equation, equations, no_equation, equation_of, opening_of, channel_type, by_equation}
use Rattle.equations.specs.Alarms.{rules, no_rule, rule_of}
use Rattle.equations.specs.Alarms as alarm
use Rattle.equations.specs.Laws.{WellPlanned}
use Rattle.equations.proofs.Listing.{rule_record, of_stream}
use Rattle.equations.proofs.Ranking.{place}
use Rattle.equations.proofs.Sound.{Reads}
use Rattle.rings.specs.Systems.{slot}
use Rattle.rings.specs.Memory.{samples_in, values_in}
use Rattle.rings.proofs.Fitting.{AllFit, RuleFits, Keeps, Fitting}
use Rattle.rings.specs.Calls.{OpensRings, StoresSamples, Judges}
use Rattle.rings.specs.Steps.{stored_samples, stored_value, worked, worked_first, opened}
use Rattle.rings.proofs.Tables.{fitting}
use Rattle.rings.proofs.Stepping.{samples_stored, worked_judges}
use Rattle.rings.proofs.Opening.{opened_opens}
use Rattle.tables.specs.declared.content.Channel.{Channel}
use Rattle.tables.specs.declared.content.Stream.{Stream}
use Rattle.tables.specs.declared.table.Table.{Table}
use Rattle.tables.specs.Contents.{of_kind, stream_entry, rule_entry, greatest_lead_in}
use Rattle.tables.specs.Tables.{records_of, channels_of, streams_of, rules_of, plan_of, IsAccepted}
use Rattle.tables.proofs.Known.{well_typed, channel_count, stream_count, rule_count, channel_types_are, ring_of_channel, ring_of_stream}
use Rattle.engine.specs.Known.{Has, IsOwn}
use Rattle.engine.specs.Rings.{rings_of, lead_of, HasRoom}
use Rattle.engine.proofs.Props.{value_set, values_set, own_prop, opens_prop, stores_prop, judges_prop}

-- ---- the greatest of some numbers
no_less : (xs : List ℕ) (n : ℕ) → n ≤ fold max n xs
no_less [] n = omega arith
no_less (x ∷ xs) n = let rest = no_less xs (max n x) in omega (arith, rest)

most_at : (ss : List Stream) (n s : ℕ) (x : Stream) → s < length ss → (get_or ss s x).ring.lead ≤ fold max n (map (λ y. y.ring.lead) ss)
most_at [] n s x l = absurd (omega (arith, l))
most_at (y ∷ ss) n zero x l = let rest = no_less (map (λ (z : Stream). z.ring.lead) ss) (max n y.ring.lead) in omega (arith, rest)
most_at (y ∷ ss) n (suc s) x l = most_at ss (max n y.ring.lead) s x (omega (arith, l))

first : (ss : List Stream) (s : ℕ) → s < length ss → Stream
first [] s l = absurd (omega (arith, l))
first (y ∷ ss) s l = y

-- ---- the equations and rules of the records of a kind
abbrev equation_by : Stream → Equation
equation_by x = record { ty = x.ty; opening = vec_items x.opening; body = exp x.body }

abbrev pub rule_by : Rule → alarm.Rule
rule_by r = record { guard = exp r.guard; arguments = map exp (vec_items r.arguments) }

equations_of_streams : (rs : List Entry) → equations (of_kind kind.Stream rs) ≡ equations rs
equations_of_streams [] = refl
equations_of_streams (entry.channel t ∷ rs) = equations_of_streams rs
equations_of_streams (entry.stream t vs e ∷ rs) = ap (λ l. record { ty = t; opening = vs; body = e } ∷ l) (equations_of_streams rs)
equations_of_streams (entry.rule g es ∷ rs) = equations_of_streams rs

rules_of_rules : (rs : List Entry) → rules (of_kind kind.Rule rs) ≡ rules rs
rules_of_rules [] = refl
rules_of_rules (entry.channel t ∷ rs) = rules_of_rules rs
rules_of_rules (entry.stream t vs e ∷ rs) = rules_of_rules rs
rules_of_rules (entry.rule g es ∷ rs) = ap (λ l. record { guard = g; arguments = es } ∷ l) (rules_of_rules rs)

equations_by : (ss : List Stream) → equations (map stream_entry ss) ≡ map equation_by ss
equations_by [] = refl
equations_by (s ∷ ss) = ap (λ l. equation_by s ∷ l) (equations_by ss)

rules_by : (us : List Rule) → rules (map rule_entry us) ≡ map rule_by us
rules_by [] = refl
rules_by (u ∷ us) = ap (λ l. rule_by u ∷ l) (rules_by us)

-- the limits of records are those of their rules
small_rules : (rs : List Entry) → AllByRecursion Small rs → AllByRecursion (λ r. Small (rule_record r)) (rules rs)
small_rules [] all = tt
small_rules (entry.channel t ∷ rs) all = small_rules rs all.1
small_rules (entry.stream t vs e ∷ rs) all = small_rules rs all.1
small_rules (entry.rule g es ∷ rs) all = (all.0, small_rules rs all.1)

-- an expression within its limits is no deeper than they say
shallow : (d : ℕ) (e : Exp) → Bounded d e → levels e ≤ d
shallow zero e b = absurd b
shallow (suc d) (tree.constant at v) b = omega arith
shallow (suc d) (tree.channel at i) b = omega arith
shallow (suc d) (tree.stream at i x) b = omega arith
shallow (suc d) (tree.unary at o e) b = omega (arith, shallow d e b)
shallow (suc d) (tree.cast at t e) b = omega (arith, shallow d e b)
shallow (suc d) (tree.binary at o l r) b = omega (arith, shallow d l b.0, shallow d r b.1)
shallow (suc d) (tree.choose at c l r) b = omega (arith, shallow d c b.0, shallow d l b.1, shallow d r b.2)

-- a ring lies within the slots, which are few
pub record Lies (t : Table) (r : Ring) : Type 0 where
  pub some : 0 < r.length
  pub within : r.base + r.length ≤ (plan_of t).counts.slots
  pub small : (plan_of t).counts.slots ≤ 2048

-- ---- by what is known of a table
module _ (t : Table) (a : IsAccepted t) where
  pub well_planned : WellPlanned (records_of t) (plan_of t)
  well_planned = record { order = a.in_order; types = well_typed t a; planned = a.planned }

  pub most : (s : ℕ) → s < count kind.Stream (records_of t) → lead_in (plan_of t) s ≤ greatest_lead_in (streams_of t)
  most s l =
      let h : s < length (streams_of t) = omega (arith, l, stream_count t a) in
      let x = first (streams_of t) s h in
      omega (arith, most_at (streams_of t) 0 s x h, ap (λ (r : Ring). r.lead) (ring_of_stream t a s x h))

  pub fits : Fitting (rings_of t) (items (plan_of t).order) (place (items (plan_of t).order)) (greatest_lead_in (streams_of t))
  fits = fitting (records_of t) (plan_of t) well_planned (greatest_lead_in (streams_of t)) most

  lies : (id : Id) → HasRing (records_of t) id → Lies t (ring_of (plan_of t) id)
  lies id h = record { some = fits.some id h; within = fits.within id h; small = a.small }

  own_by : (lead opening rank : ℕ) (e : Exp) → Bounded 12 e → AllFit (rings_of t) (place (items (plan_of t).order)) lead opening rank e → IsOwn t e
  own_by lead opening rank e b fit = record {
    shallow = shallow 12 e b;
    names = All-weaker _ _ (λ u. known u.name) (uses e) fit;
  }
    where
      known : (n : Name) → Reads (records_of t) (lead_in (plan_of t)) (place (items (plan_of t).order)) lead opening rank n × Keeps (rings_of t) lead opening n → Has t n
      known (name.Channel c) r = omega (arith, r.0.known, channel_count t a)
      known (name.Stream q d) r = omega (arith, r.0.known, stream_count t a)

  pub rules_are : map rule_by (rules_of t) ≡ rules (records_of t)
  rules_are = sym (rules_by (rules_of t)) ∙ ap rules a.sorts.kinds.rules_are ∙ rules_of_rules (records_of t)

  -- a stream's equation, and what it gives, as the code has it
  module _ (s : ℕ) (x : Stream) (l : s < length (streams_of t)) (e : x ≡ get_or (streams_of t) s x) where
    is_equation : equation_by x ≡ equation_of (records_of t) s
    is_equation =
        ap equation_by e ∙ sym (get_or-map equation_by (streams_of t) s x no_equation l) ∙
        ap (λ es. get_or es s no_equation) (sym (equations_by (streams_of t)) ∙ ap equations a.sorts.kinds.streams_are ∙ equations_of_streams (records_of t))

    inside : s < count kind.Stream (records_of t)
    inside = omega (arith, l, stream_count t a)

    is_ring : x.ring ≡ ring_of (plan_of t) (stream s)
    is_ring = ap (λ (y : Stream). y.ring) e ∙ ring_of_stream t a s x l

    own_body : IsOwn t (exp x.body)
    own_body = subst (λ (q : Equation). IsOwn t q.body) (sym is_equation)
        (own_by (lead_in (plan_of t) s) (opening_of (records_of t) s) (place (items (plan_of t).order) s) (equation_of (records_of t) s).body
        (of_stream Small (records_of t) a.in_order.small s inside).2 (fits.reads s inside))

    values_same : (mem : List ℕ) (i : ℕ) → wrap x.ty (pos (get_or mem (x.ring.base + i % x.ring.length) 0)) ≡ values_in (rings_of t) mem s i
    values_same mem i =
        ap (λ (q : Equation). wrap q.ty (pos (get_or mem (x.ring.base + i % x.ring.length) 0))) is_equation ∙
        ap (λ (r : Ring). wrap (equation_of (records_of t) s).ty (pos (get_or mem (r.base + i % r.length) 0))) is_ring

  -- and a channel's type and ring
  module _ (c : ℕ) (x : Channel) (l : c < length (channels_of t)) (e : x ≡ get_or (channels_of t) c x) where
    is_channel_ring : x.ring ≡ ring_of (plan_of t) (channel c)
    is_channel_ring = ap (λ (y : Channel). y.ring) e ∙ ring_of_channel t a c x l

    is_type : x.ty ≡ channel_type (records_of t) c
    is_type =
        ap (λ (y : Channel). y.ty) e ∙ sym (get_or-map (λ (y : Channel). y.ty) (channels_of t) c x type.Bool l) ∙
        ap (λ (ts : List Ty). get_or ts c type.Bool) (channel_types_are t a)

    samples_same : (mem : List ℕ) (n : ℕ) → wrap x.ty (pos (get_or mem (x.ring.base + n % x.ring.length) 0)) ≡ samples_in (rings_of t) mem n c
    samples_same mem n = ap₂ (λ (y : Ty) (r : Ring). wrap y (pos (get_or mem (r.base + n % r.length) 0))) is_type is_channel_ring

  -- the k-th rule
  module _ (k : ℕ) (x : Rule) (l : k < length (rules_of t)) (e : x ≡ get_or (rules_of t) k x) where
    is_rule : rule_by x ≡ rule_of (records_of t) k
    is_rule = ap rule_by e ∙ sym (get_or-map rule_by (rules_of t) k x no_rule l) ∙ ap (λ rs. get_or rs k no_rule) rules_are

    inside_rules : k < length (rules (records_of t))
    inside_rules = omega (arith, l, length-map (rules_of t) rule_by, ap length rules_are)

    small_rule : Small (rule_record (rule_of (records_of t) k))
    small_rule = All-get_or (λ (r : alarm.Rule). Small (rule_record r)) (rules (records_of t)) k no_rule inside_rules (small_rules (records_of t) a.in_order.small)

    fits_rule : RuleFits (rings_of t) (place (items (plan_of t).order)) (rule_of (records_of t) k)
    fits_rule = All-get_or (RuleFits (rings_of t) (place (items (plan_of t).order))) (rules (records_of t)) k no_rule inside_rules fits.rules

    own_guard : IsOwn t (exp x.guard)
    own_guard = subst (λ (r : alarm.Rule). IsOwn t r.guard) (sym is_rule)
        (own_by 0 0 (count kind.Stream (records_of t)) (rule_of (records_of t) k).guard small_rule.1 fits_rule.guard)

    own_arguments : AllByRecursion (IsOwn t) (map exp (vec_items x.arguments))
    own_arguments = subst (λ (r : alarm.Rule). AllByRecursion (IsOwn t) r.arguments) (sym is_rule)
        (all_own (rule_of (records_of t) k).arguments small_rule.2 fits_rule.arguments)
      where
        all_own : (es : List Exp) → AllByRecursion (Bounded 12) es → AllByRecursion (AllFit (rings_of t) (place (items (plan_of t).order)) 0 0 (count kind.Stream (records_of t))) es → AllByRecursion (IsOwn t) es
        all_own [] b fit = tt
        all_own (y ∷ es) b fit = (own_by 0 0 (count kind.Stream (records_of t)) y b.0 fit.0, all_own es b.1 fit.1)

    few_arguments : length (vec_items x.arguments) ≤ 4
    few_arguments = omega (arith, length-map (vec_items x.arguments) exp, ap (λ (r : alarm.Rule). length r.arguments) is_rule, small_rule.0)

-- ---- of any table
-- what a slice that is the list has at a place
pub found : {X : Type 0} (xs ys : List X) (n i : ℕ) (x : X) → ys ≡ xs → i ≡ n → true ≡ ltb i (length ys) → x ≡ get_or ys i x → (n < length xs) × (x ≡ get_or xs n x)
found xs ys n i x e f h k = (
  omega (arith, ltb-true i (length ys) (sym h), ap length e, f),
  k ∙ ap₂ (λ zs k. get_or zs k x) e f,
)

pub indexed : {X : Type 0} (xs ys : List X) (n : ℕ) (x : X) → ys ≡ xs → x ≡ get_or ys n x → x ≡ get_or xs n x
indexed xs ys n x e f = f ∙ ap (λ zs. get_or zs n x) e

pub read_there : {X : Type 0} (xs ys : List X) (n : ℕ) (d : X) → ys ≡ xs → n < length xs → get_or ys n d ≡ get_or xs n (get_or ys n d)
read_there xs ys n d e l = ap (λ zs. get_or zs n d) e ∙ get_or_default xs n d (get_or ys n d) l

lies_prop : (t : Table) (r : Ring) → IsProp (Lies t r)
lies_prop t r = hlevel props

module _ (t : Table) where
  module _ (s : ℕ) (x : Stream) (l : s < length (streams_of t)) (e : x ≡ get_or (streams_of t) s x) where
    pub stream_lies : Lies t x.ring
    stream_lies = ∥∥₁_elim t.accepted (lies_prop t x.ring) (λ a. subst (Lies t) (sym (is_ring t a s x l e)) (lies t a (stream s) (stream_ring (records_of t) s (inside t a s x l e))))

    pub body_own : IsOwn t (exp x.body)
    body_own = ∥∥₁_elim t.accepted (own_prop t (exp x.body)) (λ a. own_body t a s x l e)

    pub stream_read : (mem : List ℕ) (i : ℕ) → wrap x.ty (pos (get_or mem (x.ring.base + i % x.ring.length) 0)) ≡ values_in (rings_of t) mem s i
    stream_read mem i = ∥∥₁_elim t.accepted (value_set _ _) (λ a. values_same t a s x l e mem i)

    pub lead_is : x.ring.lead ≡ lead_of t s
    lead_is = ∥∥₁_elim t.accepted (ℕ_set _ _) (λ a. ap (λ (r : Ring). r.lead) (is_ring t a s x l e))

    pub stream_slot : (i : ℕ) → x.ring.base + i % x.ring.length ≡ slot (rings_of t) (stream s) i
    stream_slot i = ∥∥₁_elim t.accepted (ℕ_set _ _) (λ a. ap (λ (r : Ring). r.base + i % r.length) (is_ring t a s x l e))

    module _ (y : Samples) (v : Values) (i : ℕ) where
      abbrev by : Equation → Value
      by q = cond (ltb i (length q.opening)) (get_or q.opening i (Bool false)) (meaning y v (i - length q.opening) q.body)

      is_by : by (equation_by x) ≡ by_equation (records_of t) y v s i
      is_by = ∥∥₁_elim t.accepted (value_set _ _) (λ a. ap by (is_equation t a s x l e))

      pub opens_with : i < length (vec_items x.opening) → get_or (vec_items x.opening) i (Bool false) ≡ by_equation (records_of t) y v s i
      opens_with h = sym (cond-true _ _ _ (lt-ltb i (length (vec_items x.opening)) h)) ∙ is_by

      pub goes_on_with : length (vec_items x.opening) ≤ i → meaning y v (i - length (vec_items x.opening)) (exp x.body) ≡ by_equation (records_of t) y v s i
      goes_on_with h = sym (cond-false _ _ _ (le-ltb i (length (vec_items x.opening)) h)) ∙ is_by

  module _ (c : ℕ) (x : Channel) (l : c < length (channels_of t)) (e : x ≡ get_or (channels_of t) c x) where
    pub channel_lies : Lies t x.ring
    channel_lies = ∥∥₁_elim t.accepted (lies_prop t x.ring)
        (λ a. subst (Lies t) (sym (is_channel_ring t a c x l e)) (lies t a (channel c) (channel_ring (records_of t) c (omega (arith, l, channel_count t a)))))

    pub channel_read : (mem : List ℕ) (n : ℕ) → wrap x.ty (pos (get_or mem (x.ring.base + n % x.ring.length) 0)) ≡ samples_in (rings_of t) mem n c
    channel_read mem n = ∥∥₁_elim t.accepted (value_set _ _) (λ a. samples_same t a c x l e mem n)

    pub channel_slot : (i : ℕ) → x.ring.base + i % x.ring.length ≡ slot (rings_of t) (channel c) i
    channel_slot i = ∥∥₁_elim t.accepted (ℕ_set _ _) (λ a. ap (λ (r : Ring). r.base + i % r.length) (is_channel_ring t a c x l e))

  module _ (k : ℕ) (x : Rule) (l : k < length (rules_of t)) (e : x ≡ get_or (rules_of t) k x) where
    pub guard_own : IsOwn t (exp x.guard)
    guard_own = ∥∥₁_elim t.accepted (own_prop t (exp x.guard)) (λ a. own_guard t a k x l e)

    pub argument_own : (n : ℕ) (y : Expr) → n < length (vec_items x.arguments) → y ≡ get_or (vec_items x.arguments) n y → IsOwn t (exp y)
    argument_own n y inside f = ∥∥₁_elim t.accepted (own_prop t (exp y)) (λ a.
        subst (IsOwn t) (get_or-map exp (vec_items x.arguments) n y no_rule.guard inside ∙ ap exp (sym f))
        (All-get_or (IsOwn t) (map exp (vec_items x.arguments)) n no_rule.guard (omega (arith, inside, length-map (vec_items x.arguments) exp)) (own_arguments t a k x l e)))

    pub four_arguments : length (vec_items x.arguments) ≤ 4
    four_arguments = ∥∥₁_elim t.accepted le_prop (λ a. few_arguments t a k x l e)

    pub its_arguments : (read : Exp → Value) → map read (map exp (vec_items x.arguments)) ≡ map read (rule_of (records_of t) k).arguments
    its_arguments read = ∥∥₁_elim t.accepted (values_set _ _) (λ a. ap (λ (r : alarm.Rule). map read r.arguments) (is_rule t a k x l e))

  -- ---- the order of evaluation, and the calls
  pub order_long : length (items (plan_of t).order) ≡ count kind.Stream (records_of t)
  order_long = ∥∥₁_elim t.accepted (ℕ_set _ _) (λ a. a.planned.order.each.long)

  pub order_within : (k : ℕ) → k < length (items (plan_of t).order) → get_or (items (plan_of t).order) k 0 < length (streams_of t)
  order_within k l = ∥∥₁_elim t.accepted le_prop (λ a. omega (arith, a.planned.order.each.within k (omega (arith, l, a.planned.order.each.long)), stream_count t a))

  pub few_channels : length (channels_of t) ≤ 16
  few_channels = ∥∥₁_elim t.accepted le_prop (λ a. omega (arith, channel_count t a, a.in_order.few kind.Channel))

  pub few_rules : length (rules_of t) ≤ 16
  few_rules = ∥∥₁_elim t.accepted le_prop (λ a. omega (arith, rule_count t a, a.in_order.few kind.Rule))

  pub streams_counted : length (streams_of t) ≡ count kind.Stream (records_of t)
  streams_counted = ∥∥₁_elim t.accepted (ℕ_set _ _) (λ a. stream_count t a)

  pub rules_counted : length (rules_of t) ≡ length (rules (records_of t))
  rules_counted = ∥∥₁_elim t.accepted (ℕ_set _ _) (λ a. sym (length-map (rules_of t) rule_by) ∙ ap length (rules_are t a))

  module _ (mem : List ℕ) (room : HasRoom t mem) where
    pub sampled : (n : ℕ) (row : ℕ → Value) (new : List ℕ) → new ≡ stored_samples (rings_of t) n row mem (length (channels_of t)) → StoresSamples (rings_of t) n row mem new
    sampled n row new e = ∥∥₁_elim t.accepted (stores_prop (rings_of t) n row mem new) (λ a.
        subst (StoresSamples (rings_of t) n row mem) (sym (e ∙ ap (stored_samples (rings_of t) n row mem) (channel_count t a)))
        (samples_stored (rings_of t) (items (plan_of t).order) (place (items (plan_of t).order)) (greatest_lead_in (streams_of t)) (fits t a) n row mem room))

    pub judged : (n top : ℕ) (new : List ℕ) → top ≡ greatest_lead_in (streams_of t) →
        new ≡ worked_first (rings_of t) (items (plan_of t).order) top (n + top) mem (count kind.Stream (records_of t)) → Judges (rings_of t) n mem new
    judged n top new is e = ∥∥₁_elim t.accepted (judges_prop (rings_of t) n mem new) (λ a.
        subst (Judges (rings_of t) n mem) (sym (e ∙ ap (λ (k : ℕ). worked_first (rings_of t) (items (plan_of t).order) k (n + k) mem (count kind.Stream (records_of t))) is))
        (worked_judges (rings_of t) (items (plan_of t).order) (place (items (plan_of t).order)) (greatest_lead_in (streams_of t)) (fits t a) n mem room))

    pub opens : (top : ℕ) (new : List ℕ) → top ≡ greatest_lead_in (streams_of t) → new ≡ opened (rings_of t) (items (plan_of t).order) top mem → OpensRings (rings_of t) mem new
    opens top new is e = ∥∥₁_elim t.accepted (opens_prop (rings_of t) mem new) (λ a.
        subst (OpensRings (rings_of t) mem) (sym (e ∙ ap (λ (k : ℕ). opened (rings_of t) (items (plan_of t).order) k mem) is))
        (opened_opens (rings_of t) (items (plan_of t).order) (place (items (plan_of t).order)) (greatest_lead_in (streams_of t)) (fits t a) mem room))

  -- ---- one step more
  module _ (top u : ℕ) (mem : List ℕ) where
    abbrev after : ℕ → List ℕ
    after k = worked_first (rings_of t) (items (plan_of t).order) top u mem k

    module _ (k s lead : ℕ) (old new : List ℕ) (turn : s ≡ get_or (items (plan_of t).order) k 0) (is : lead ≡ lead_of t s) (so_far : old ≡ after k) where
      one_more : worked (rings_of t) top u (after k) s ≡ after (k + 1)
      one_more = let e : suc k ≡ k + 1 = omega arith in ap (worked (rings_of t) top u (after k)) turn ∙ ap after e

      pub stores_on : top ≤ u + lead → new ≡ stored_value (rings_of t) old s (u + lead - top) → new ≡ after (k + 1)
      stores_on h e =
          e ∙ ap₂ (λ (m : List ℕ) (d : ℕ). stored_value (rings_of t) m s (u + d - top)) so_far is ∙
          sym (cond-true _ _ _ (le-leb top (u + lead_of t s) (omega (arith, h, is)))) ∙ one_more

      pub skips_on : u + lead < top → new ≡ old → new ≡ after (k + 1)
      skips_on h e = e ∙ so_far ∙ sym (cond-false _ _ _ (lt-leb top (u + lead_of t s) (omega (arith, h, is)))) ∙ one_more
