use Rattle.std.proofs.Common.{rules, arith, ◌≡◌, ◌∷◌, ◌+◌, map, drop, sym, subst}
use Rattle.std.proofs.lemmas.Grind.{common_steps}
use Rattle.syntax.specs.Trees.{exp}
use Rattle.names.specs.Uses.{uses, gathered}
use Rattle.names.proofs.uses.visit_record.Goals as goal

pub loop-e-preserved : goal.loop-e-preserved
loop-e-preserved g c =
    let es = c.deref-e-items.result.now in
    let next : drop c.loop-e.e-index es ≡ c.e-item.result ∷ drop (c.loop-e.e-index + 1) es = grind (arith, common_steps) in
    λ r t h. c.loop-e.invariant r t
    (subst (λ rest. g.V.Visitor.visits c.loop-e.visitor (gathered uses (map exp rest)) r t) (sym next)
    (g.met.V.Visitor.more _ _ _ _ _ _ (search rules) h))
