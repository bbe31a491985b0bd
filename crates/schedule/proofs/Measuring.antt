-- Leads and ring lengths of nodes are those of records. Assumes nothing.
use Rattle.std.proofs.Common.{◌≡◌, ℕ, ◌+◌, ◌<◌, List, [], ◌∷◌, get_or, ℤ, pos, ◌+ℤ◌, ◌-ℤ◌, sym, ap, ◌∙◌, subst, inl, inr, arith}
use Rattle.std.proofs.lemmas.Int.{ints}
use Rattle.syntax.specs.declared.record.Kind.{Kind}
use Rattle.syntax.specs.declared.record.Kind.TheVariants.{Channel, Stream, Rule}
use Rattle.syntax.specs.Entries.{Entry, count}
use Rattle.references.specs.declared.reference.Id.{Id}
use Rattle.references.specs.declared.reference.Reference.{Reference}
use Rattle.references.specs.References.{references}
use Rattle.walks.specs.declared.edge.Edge.{Edge}
use Rattle.walks.specs.Walks.{In, Walk, weigh, Settled, Lead, reach, Ring}
use Rattle.walks.specs.Edges as plain
use Rattle.walks.proofs.Cut.{Last, last}
use Rattle.walks.proofs.Through.{fit_in}
use Rattle.schedule.specs.Graphs.{stream, graph}
use Rattle.schedule.specs.Edges.{Valid, Orderly, node_by, node, edge, edges}
use Rattle.schedule.specs.Plans.{lead_of_kind, lead_by, Measured}
use Rattle.schedule.proofs.Placing.{node_one, node_low, all_fit}
use Rattle.schedule.proofs.Carrying.{in_map, from_map, stands, lead_down}

module _ (rs : List Entry) (o : Orderly rs) (leads : List ℕ)
    (leading : (s : ℕ) → s < 64 → Lead (plain.graph (edges rs)) s (pos (get_or leads s 0)))
    (settled : Settled (plain.graph (edges rs)) (plain.Channel (count Channel rs)))
    (lead : ℕ → ℕ) (leads_so : (s : ℕ) → s < count Stream rs → lead s ≡ get_or leads (count Channel rs + s) 0) where
  -- no walk to a channel weighs more than the empty one
  channel_lead : (n : ℕ) → n < count Channel rs → get_or leads n 0 ≡ 0
  channel_lead n l =
      let k = leading n (omega (arith, o.few Channel)) in
      let (a, w, p, q) = k.reached in
      omega (arith, ints, settled a n w l p)

  -- nothing reads a rule
  rule_lead : (n : ℕ) → n < count Rule rs → get_or leads (count Channel rs + count Stream rs + n) 0 ≡ 0
  rule_lead n l =
      let k = leading (count Channel rs + count Stream rs + n) (omega (arith, o.few Channel, o.few Stream, o.few Rule)) in
      let (a, w, p, q) = k.reached in
      go a w p q
    where
      go : (a : ℕ) (w : List Edge) → Walk (plain.graph (edges rs)) a w (count Channel rs + count Stream rs + n) →
          weigh (plain.graph (edges rs)) w ≡ pos (get_or leads (count Channel rs + count Stream rs + n) 0) → get_or leads (count Channel rs + count Stream rs + n) 0 ≡ 0
      go a [] p q = omega (arith, ints)
      go a (e ∷ w) p q =
          let t : Last (plain.graph (edges rs)) a (e ∷ w) (count Channel rs + count Stream rs + n) = last (plain.graph (edges rs)) a e w (count Channel rs + count Stream rs + n) p in
          absurd (omega (arith, t.ends, (fit_in (count Channel rs) (count Stream rs) (edges rs) (all_fit rs o) t.ref t.listed).read))

  pub lead_same : (id : Id) → Valid rs id → lead_by lead id ≡ pos (get_or leads (node rs id) 0)
  unfolding node
  lead_same id valid = go id.kind id.number valid
    where
      go : (k : Kind) (n : ℕ) → n < count k rs → lead_of_kind lead k n ≡ pos (get_or leads (node_by (count Channel rs) (count Stream rs) k n) 0)
      go Channel n l = ap pos (sym (channel_lead n l))
      go Stream n l = ap pos (leads_so n l)
      go Rule n l = ap pos (sym (rule_lead n l))

  reach_same : (r : Reference) → In r (references [] rs) → reach (graph rs) (lead_by lead) r ≡ reach (plain.graph (edges rs)) (λ s. pos (get_or leads s 0)) (edge rs r)
  reach_same r m = ap (λ (z : ℤ). z +ℤ (graph rs).weight r) (lead_same r.reader (stands rs o r m).reader)

  ring_down : (id : Id) (size : ℕ) → Valid rs id → Ring (plain.graph (edges rs)) (λ s. pos (get_or leads s 0)) (node rs id) size → Ring (graph rs) (lead_by lead) id size
  ring_down id size valid k = record {
    least = k.least;
    own = omega (arith, ints, k.own, lead_same id valid);
    all = λ r m e. omega (arith, ints, k.all (edge rs r) (in_map (edge rs) r (references [] rs) m) (ap (node rs) e), reach_same r m);
    met = elim k.met [
      | inl e ↦ inl (e ∙ sym (lead_same id valid))
      | inr (e, m, reads, is) ↦
          let (r, i, same) = from_map (edge rs) e (references [] rs) m in
          inr (
            r,
            i,
            node_one rs r.read id (stands rs o r i).read valid (ap (λ (x : Edge). x.read) same ∙ reads),
            is ∙ ap (reach (plain.graph (edges rs)) (λ s. pos (get_or leads s 0))) (sym same) ∙ sym (reach_same r i),
          )
    ];
    is = k.is ∙ ap (λ (z : ℤ). (z -ℤ k.least) +ℤ pos 1) (sym (lead_same id valid));
  }

  leads_down : (s : ℕ) → s < count Stream rs → Lead (graph rs) (stream s) (pos (lead s))
  unfolding node
  leads_down s l = lead_down rs o (stream s) (pos (lead s)) l
      (subst (λ (n : ℕ). Lead (plain.graph (edges rs)) (count Channel rs + s) (pos n)) (sym (leads_so s l)) (leading (count Channel rs + s) (omega (arith, o.few Channel, o.few Stream))))

  pub measured : (lengths : List ℕ) → ((q : ℕ) → q < 64 → Ring (plain.graph (edges rs)) (λ s. pos (get_or leads s 0)) q (get_or lengths q 0)) → Measured rs lead (λ id. get_or lengths (node rs id) 0)
  measured lengths rings = record {
    leads = leads_down;
    lengths = λ id h. ring_down id (get_or lengths (node rs id) 0) h.valid (rings (node rs id) (node_low rs o id h.valid));
  }
