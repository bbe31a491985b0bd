-- Bounds on the walks of a graph, from a number at each record that every reference keeps. Assumes nothing.
use Rattle.std.proofs.Common.{◌≡◌, ℕ, suc, List, [], ◌∷◌, length, ℤ, pos, ◌+ℤ◌, ◌≤ℤ◌, sym, subst, arith}
use Rattle.std.specs.List.{AllByRecursion}
use Rattle.std.proofs.lemmas.Int.{ints}
use Rattle.syntax.specs.declared.record.Kind.{Kind}
use Rattle.syntax.specs.declared.record.Kind.TheVariants.{Channel, Stream, Rule}
use Rattle.syntax.specs.Entries.{Entry}
use Rattle.references.specs.declared.reference.Id.{Id}
use Rattle.references.specs.declared.reference.Reference.{Reference}
use Rattle.references.specs.References.{references}
use Rattle.schedule.specs.Graphs.{graph, IsChannel}
use Rattle.schedule.specs.Plans.{lead_of_kind, lead_by}
use Rattle.walks.specs.Walks.{Graph, In, Walk, weigh, reach, Falling, Settled}
use Rattle.walks.proofs.Cut.{all_in}

module _ {R N : Type 0} (G : Graph R N) where
  -- what is true of the empty walk to b, and of each longer one where it is true of the rest, is true of every walk to b
  pub along : (b : N) (P : N → ℤ → ℕ → Type 0) → P b (pos 0) 0 →
      ((r : R) → In r G.references → (z : ℤ) (n : ℕ) → P (G.read r) z n → P (G.reader r) (G.weight r +ℤ z) (suc n)) →
      (a : N) (w : List R) → Walk G a w b → P a (weigh G w) (length w)
  along b P none more a [] p = subst (λ (x : N). P x (pos 0) 0) (sym p) none
  along b P none more a (r ∷ w) p =
      subst (λ (x : N). P x (weigh G (r ∷ w)) (suc (length w))) (sym p.0)
      (more r p.1 (weigh G w) (length w) (along b P none more (G.read r) w p.2))

  module _ (h : N → ℤ) where
    -- where no reference reaches further than what it reads stands, no walk does
    pub bounded : AllByRecursion (λ r. reach G h r ≤ℤ h (G.read r)) G.references → (a b : N) (w : List R) → Walk G a w b → (h a +ℤ weigh G w) ≤ℤ h b
    bounded up a b w p = along b (λ x z n. (h x +ℤ z) ≤ℤ h b) (omega (arith, ints))
        (λ r m z n q. omega (arith, ints, all_in (λ s. reach G h s ≤ℤ h (G.read s)) G.references r up m))
        a w p

    -- and where each falls short of it, every closed walk weighs less than 0
    pub falls : AllByRecursion (λ r. (reach G h r +ℤ pos 1) ≤ℤ h (G.read r)) G.references → Falling G
    falls up a w r =
        let short : ((h a +ℤ weigh G w) +ℤ pos (length w)) ≤ℤ h a =
        along a (λ x z n. ((h x +ℤ z) +ℤ pos n) ≤ℤ h a) (omega (arith, ints))
        (λ s m z n q. omega (arith, ints, all_in (λ t. (reach G h t +ℤ pos 1) ≤ℤ h (G.read t)) G.references s up m))
        a w r.walk in
        omega (arith, ints, r.some, r.heavy)

    -- each reference to q reaches at least so far
    pub reaching : (q : N) (least : ℤ) → AllByRecursion (λ r. G.read r ≡ q → least ≤ℤ reach G h r) G.references →
        (r : R) → In r G.references → G.read r ≡ q → least ≤ℤ reach G h r
    reaching q least all r m = all_in (λ s. G.read s ≡ q → least ≤ℤ reach G h s) G.references r all m

-- leads that no reference passes
module _ (rs : List Entry) (lead : ℕ → ℕ) (up : AllByRecursion (λ r. reach (graph rs) (lead_by lead) r ≤ℤ lead_by lead r.read) (references [] rs)) where
  above : (k : Kind) (n : ℕ) → pos 0 ≤ℤ lead_of_kind lead k n
  above Channel n = omega (arith, ints)
  above Stream n = omega (arith, ints)
  above Rule n = omega (arith, ints)

  pub most : (a b : Id) (w : List Reference) → Walk (graph rs) a w b → weigh (graph rs) w ≤ℤ lead_by lead b
  most a b w p = omega (arith, ints, bounded (graph rs) (lead_by lead) up a b w p, above a.kind a.number)

  pub settled : Settled (graph rs) IsChannel
  settled a b w c p = subst (λ (k : Kind). weigh (graph rs) w ≤ℤ lead_of_kind lead k b.number) c (most a b w p)
