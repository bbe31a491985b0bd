-- Heights at rest, the leads and lengths made from them, and streams in order of rank are a layout. Assumes nothing.
use Rattle.std.proofs.Common.{◌≡◌, ℕ, List, get_or, sym, ap, subst, arith}
use native.Mathlib.Decide.{dec_lt}
use Rattle.lists.specs.declared.list.List.{List as Listed}
use Rattle.lists.specs.Lists.{items}
use Rattle.walks.specs.declared.edge.Edge.{Edge}
use Rattle.walks.specs.Edges.{Fits}
use Rattle.walks.proofs.Through.{all_bounded}
use Rattle.layout.specs.Layouts.{Ordered, Laid}
use Rattle.layout.specs.Climbs.{Resting}
use Rattle.layout.specs.Sizes.{leads_of, sizes}
use Rattle.layout.specs.Orders.{rank, Ranked}
use Rattle.layout.proofs.Resting.{resting_falls, leads_are, ranks_before}
use Rattle.layout.proofs.Sizes.{rings_are}

module _ (channels streams : ℕ) (es : List Edge) (fits : Fits channels streams es) (h : List ℕ) (rest : Resting es h) (order : Listed ℕ 32) (ranked : Ranked (items order) (rank h channels) streams) where
  ordered : Ordered channels streams es (leads_of h) (items order)
  ordered = record {
    each = ranked.each;
    before = λ e m newest i j li lj ei ej. elim (dec_lt i j) [
      | yes less ↦ less
      | no more ↦ absurd (omega (
        arith,
        ranks_before channels streams es fits h rest e m newest,
        ranked.sinks j i (omega arith) li,
        ap (λ (x : ℕ). get_or h x 0) ei,
        ap (λ (x : ℕ). get_or h x 0) ej,
      ))
    ];
  }

  pub laid : (leads lengths : List ℕ) → leads ≡ leads_of h → lengths ≡ sizes es leads → Laid channels streams es (record { leads = leads; lengths = lengths; order = order })
  laid leads lengths are long =
      subst (λ (x : List ℕ). Laid channels streams es (record { leads = leads; lengths = x; order = order })) (sym long)
      (subst (λ (x : List ℕ). Laid channels streams es (record { leads = x; lengths = sizes es x; order = order })) (sym are) (record {
        falls = resting_falls channels streams es fits h rest;
        leads = leads_are channels streams es fits h rest;
        rings = rings_are es (all_bounded channels streams es fits) (leads_of h) (leads_are channels streams es fits h rest);
        order = ordered;
      }))
