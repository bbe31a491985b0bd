-- One more record among records by kind, and all of them. Assumes nothing.
use Rattle.std.proofs.Common.{◌≡◌, ℕ, ◌+◌, ◌<◌, max, cond, Bool, true, false, Some, None, Option, List, [], ◌∷◌, ◌++◌, length, map, take, drop, get_or, fold, refl, sym, ap, ◌∙◌, subst, arith, ◌==◌}
use Rattle.std.specs.declared.alloc.Global.{Global}
use Rattle.std.specs.declared.vec.IntoIter.{IntoIter}
use Rattle.std.specs.Iterator.{Yields}
use Rattle.std.specs.Vec.Iter.{into_iter_items, into_iter_len, into_iter_steps}
use Rattle.std.proofs.iter.Next.{Yields-more}
use Rattle.std.proofs.lemmas.Iterator.Adapters.{YieldsList-from_vec}
use Rattle.std.proofs.lemmas.Iterator.Consumers.{YieldsList-so_far, YieldsList-end}
use Rattle.std.proofs.lemmas.List.{map-id, map-append, append-nil, length-map, length-append, length-drop, take_more, take_all, take-append-drop, get_or-drop}
use Rattle.std.proofs.lemmas.List.Elements.{filter-append}
use Rattle.std.proofs.lemmas.List.Sums.{fold-append}
use Rattle.values.specs.declared.types.«Type».{«Type» as Ty}
use Rattle.syntax.specs.declared.record.Kind.{Kind}
use Rattle.syntax.specs.declared.record.Kind.TheVariants as kind
use Rattle.syntax.specs.declared.record.Record.{Record}
use Rattle.syntax.specs.declared.record.Record.TheVariants as owned
use Rattle.syntax.specs.declared.record.Stream.{Stream as Body}
use Rattle.syntax.specs.declared.record.Rule.{Rule}
use Rattle.syntax.specs.Entries.{Entry, entry_of, kind_of, kind_code, count}
use Rattle.lists.specs.Lists.{items}
use Rattle.schedule.specs.declared.plan.Plan.{Plan}
use Rattle.schedule.specs.declared.plan.Ring.{Ring}
use Rattle.schedule.specs.Plans.{Planned, no_ring}
use Rattle.tables.specs.declared.content.Channel.{Channel}
use Rattle.tables.specs.declared.content.Stream.{Stream}
use Rattle.tables.specs.Contents.{ByKind, of_kind, channel_entry, stream_entry, rule_entry, channel_rings, stream_rings, greatest_lead_in}

-- ---- the records of a kind
one_more : (b : Bool) (r : Entry) (xs : List Entry) → length (cond b (r ∷ xs) xs) ≡ cond b 1 0 + length xs
one_more true r xs = omega arith
one_more false r xs = omega arith

pub length_of_kind : (k : Kind) (rs : List Entry) → length (of_kind k rs) ≡ count k rs
length_of_kind k [] = refl
length_of_kind k (r ∷ rs) = one_more (kind_code (kind_of r) == kind_code k) r (of_kind k rs) ∙ ap (λ n. cond (kind_code (kind_of r) == kind_code k) 1 0 + n) (length_of_kind k rs)

of_kind_append : (k : Kind) (rs ts : List Entry) → of_kind k (rs ++ ts) ≡ of_kind k rs ++ of_kind k ts
of_kind_append k rs ts = filter-append (λ r. kind_code (kind_of r) == kind_code k) rs ts

pushed : {X Y : Type 0} (f : X → Y) (xs xs' : List X) (x : X) (ys : List Y) → xs' ≡ xs ++ x ∷ [] → map f xs ≡ ys → map f xs' ≡ ys ++ f x ∷ []
pushed f xs xs' x ys e is = ap (map f) e ∙ map-append f xs (x ∷ []) ∙ ap (λ l. l ++ f x ∷ []) is

-- what has the first rings, one more
next_ring : {X : Type 0} (f : X → Ring) (rings : List Ring) (xs xs' : List X) (x : X) → map f xs ≡ take (length xs) rings → xs' ≡ xs ++ x ∷ [] → f x ≡ get_or rings (length xs) no_ring → length xs < length rings → map f xs' ≡ take (length xs') rings
next_ring f rings xs xs' x lie e read inside =
    let n : length xs + 1 ≡ length xs' = omega (arith, ap length e, length-append xs (x ∷ [])) in
    pushed f xs xs' x (take (length xs) rings) e lie ∙ ap (λ g. take (length xs) rings ++ g ∷ []) read ∙ sym (take_more rings (length xs) no_ring inside) ∙ ap (λ i. take i rings) n

-- ---- records as they are taken one by one
pub taken : (all : List Record) (s t u : IntoIter Record Global) (xs : List Record) (o : Option Record) (r : Record) → into_iter_items s ≡ all → into_iter_len s ≡ length all → Yields into_iter_steps s xs t → o ≡ Some r → into_iter_steps t o u →
    xs ++ r ∷ [] ≡ take (length (xs ++ r ∷ [])) all
taken all s t u xs o r items long before is step =
    let road = YieldsList-from_vec {s = s} all items long in
    let now : into_iter_steps t (Some r) u = subst (λ (x : Option Record). into_iter_steps t x u) is step in
    sym (map-id (xs ++ r ∷ [])) ∙ YieldsList-so_far road (xs ++ r ∷ []) u (Yields-more into_iter_steps s xs t r u before now)

pub taken_all : (all : List Record) (s t u : IntoIter Record Global) (xs : List Record) (o : Option Record) → into_iter_items s ≡ all → into_iter_len s ≡ length all → Yields into_iter_steps s xs t → o ≡ None → into_iter_steps t o u → xs ≡ all
taken_all all s t u xs o items long before is step =
    sym (map-id xs) ∙ (YieldsList-end (YieldsList-from_vec {s = s} all items long) xs t before o u is step).0

-- ---- records by kind so far, with their rings: the first of all for channels, those after the first m for streams
pub record Sorted (rs : List Entry) (rings : List Ring) (m : ℕ) (cs : List Channel) (ss : List Stream) (us : List Rule) (top : ℕ) : Type 0 where
  pub kinds : ByKind rs cs ss us
  pub channels_lie : channel_rings cs ≡ take (length cs) rings
  pub streams_lie : stream_rings ss ≡ take (length ss) (drop m rings)
  pub greatest : top ≡ greatest_lead_in ss

module _ (xs : List Record) (r : Record) where
  abbrev more : List Entry
  more = map entry_of (xs ++ r ∷ [])

  of_more : (k : Kind) → of_kind k more ≡ of_kind k (map entry_of xs) ++ of_kind k (entry_of r ∷ [])
  of_more k = ap (of_kind k) (map-append entry_of xs (r ∷ [])) ∙ of_kind_append k (map entry_of xs) (entry_of r ∷ [])

  -- where one more of a kind comes, not all of the kind have come yet
  room : (k : Kind) (all : List Record) → xs ++ r ∷ [] ≡ take (length (xs ++ r ∷ [])) all → of_kind k (entry_of r ∷ []) ≡ entry_of r ∷ [] → length (of_kind k (map entry_of xs)) < count k (map entry_of all)
  room k all front one =
      let n = length (xs ++ r ∷ []) in
      let rest : List Entry = map entry_of (drop n all) in
      let whole : map entry_of all ≡ more ++ rest =
      ap (map entry_of) (sym (take-append-drop n all) ∙ ap (λ l. l ++ drop n all) (sym front)) ∙ map-append entry_of (xs ++ r ∷ []) (drop n all) in
      let e : length (of_kind k (map entry_of all)) ≡ length (of_kind k more ++ of_kind k rest) = ap length (ap (of_kind k) whole ∙ of_kind_append k more rest) in
      let f : length (of_kind k more) ≡ length (of_kind k (map entry_of xs) ++ entry_of r ∷ []) = ap length (of_more k ∙ ap (λ l. of_kind k (map entry_of xs) ++ l) one) in
      omega (arith, e, f, length_of_kind k (map entry_of all), length-append (of_kind k more) (of_kind k rest), length-append (of_kind k (map entry_of xs)) (entry_of r ∷ []))

  module _ (rings : List Ring) (m : ℕ) (cs : List Channel) (ss : List Stream) (us : List Rule) (top : ℕ) (s : Sorted (map entry_of xs) rings m cs ss us top) where
    module _ (all : List Record) (front : xs ++ r ∷ [] ≡ take (length (xs ++ r ∷ [])) all) (p : Plan) (k : Planned (map entry_of all) p) where
      pub channel_room : (t : Ty) → r ≡ owned.Channel t → items p.rings ≡ rings → length cs < length rings
      channel_room t is same =
          let less = room kind.Channel all front (ap (λ x. of_kind kind.Channel (entry_of x ∷ [])) is ∙ sym (ap (λ x. entry_of x ∷ []) is)) in
          omega (arith, less, ap length same, k.rings, ap length s.kinds.channels_are, length-map cs channel_entry)

      pub stream_room : (x : Body) → r ≡ owned.Stream x → items p.rings ≡ rings → p.counts.records.channels ≡ m → m + length ss < length rings
      stream_room x is same first =
          let less = room kind.Stream all front (ap (λ y. of_kind kind.Stream (entry_of y ∷ [])) is ∙ sym (ap (λ y. entry_of y ∷ []) is)) in
          omega (arith, less, ap length same, k.rings, ap (λ c. c.records.channels) k.counts, ap length s.kinds.streams_are, length-map ss stream_entry)

    -- a list that goes on by the record's entry, and one that does not
    goes_on : (k : Kind) (x : Entry) → entry_of r ≡ x → of_kind k (x ∷ []) ≡ x ∷ [] → of_kind k (map entry_of xs) ++ x ∷ [] ≡ of_kind k more
    goes_on k x is one = sym (of_more k ∙ ap (λ y. of_kind k (map entry_of xs) ++ of_kind k (y ∷ [])) is ∙ ap (λ l. of_kind k (map entry_of xs) ++ l) one)

    stays : (k : Kind) (x : Entry) → entry_of r ≡ x → of_kind k (x ∷ []) ≡ [] → of_kind k (map entry_of xs) ≡ of_kind k more
    stays k x is none = sym (of_more k ∙ ap (λ y. of_kind k (map entry_of xs) ++ of_kind k (y ∷ [])) is ∙ ap (λ l. of_kind k (map entry_of xs) ++ l) none ∙ append-nil (of_kind k (map entry_of xs)))

    pub more_channel : (c : Channel) (cs' : List Channel) → cs' ≡ cs ++ c ∷ [] → r ≡ owned.Channel c.ty → c.ring ≡ get_or rings (length cs) no_ring → length cs < length rings → Sorted more rings m cs' ss us top
    more_channel c cs' e is lies inside = record {
      kinds = record {
        channels_are = pushed channel_entry cs cs' c (of_kind kind.Channel (map entry_of xs)) e s.kinds.channels_are ∙ goes_on kind.Channel (channel_entry c) (ap entry_of is) refl;
        streams_are = s.kinds.streams_are ∙ stays kind.Stream (channel_entry c) (ap entry_of is) refl;
        rules_are = s.kinds.rules_are ∙ stays kind.Rule (channel_entry c) (ap entry_of is) refl;
      };
      channels_lie = next_ring (λ x. x.ring) rings cs cs' c s.channels_lie e lies inside;
      streams_lie = s.streams_lie;
      greatest = s.greatest;
    }

    pub more_stream : (x : Stream) (ss' : List Stream) (top' : ℕ) → ss' ≡ ss ++ x ∷ [] → entry_of r ≡ stream_entry x → x.ring ≡ get_or rings (m + length ss) no_ring → m + length ss < length rings → top' ≡ max top x.ring.lead → Sorted more rings m cs ss' us top'
    more_stream x ss' top' e is lies inside new = record {
      kinds = record {
        channels_are = s.kinds.channels_are ∙ stays kind.Channel (stream_entry x) is refl;
        streams_are = pushed stream_entry ss ss' x (of_kind kind.Stream (map entry_of xs)) e s.kinds.streams_are ∙ goes_on kind.Stream (stream_entry x) is refl;
        rules_are = s.kinds.rules_are ∙ stays kind.Rule (stream_entry x) is refl;
      };
      channels_lie = s.channels_lie;
      streams_lie = next_ring (λ y. y.ring) (drop m rings) ss ss' x s.streams_lie e (lies ∙ sym (get_or-drop m rings (length ss) no_ring)) (omega (arith, length-drop m rings));
      greatest = new ∙ ap (λ n. max n x.ring.lead) s.greatest ∙ sym (ap greatest_lead_in e ∙ ap (fold max 0) (map-append (λ y. y.ring.lead) ss (x ∷ [])) ∙ fold-append max 0 (map (λ y. y.ring.lead) ss) (x.ring.lead ∷ []));
    }

-- ---- and of all records: the rings are all the plan's
module _ (rs : List Entry) (p : Plan) (k : Planned rs p) (cs : List Channel) (ss : List Stream) (us : List Rule) (top : ℕ) (s : Sorted rs (items p.rings) p.counts.records.channels cs ss us top) where
  channels_long : length cs ≡ p.counts.records.channels
  channels_long =
      let e = ap length s.kinds.channels_are in
      let f = ap (λ c. c.records.channels) k.counts in
      omega (arith, e, f, length-map cs channel_entry, length_of_kind kind.Channel rs)

  streams_long : length ss ≡ count kind.Stream rs
  streams_long =
      let e = ap length s.kinds.streams_are in
      omega (arith, e, length-map ss stream_entry, length_of_kind kind.Stream rs)

  pub rings_are : channel_rings cs ++ stream_rings ss ≡ items p.rings
  rings_are =
      let m = p.counts.records.channels in
      let f = ap (λ c. c.records.channels) k.counts in
      let all : take (length ss) (drop m (items p.rings)) ≡ drop m (items p.rings) = take_all (length ss) (drop m (items p.rings)) (omega (arith, f, streams_long, k.rings, length-drop m (items p.rings))) in
      ap (λ l. l ++ stream_rings ss) s.channels_lie ∙ ap (λ l. take (length cs) (items p.rings) ++ l) (s.streams_lie ∙ all) ∙ ap (λ n. take n (items p.rings) ++ drop m (items p.rings)) channels_long ∙ take-append-drop m (items p.rings)
