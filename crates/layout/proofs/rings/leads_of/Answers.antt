-- The leads, place by place.
use Rattle.std.proofs.Common.{◌≡◌, ℕ, get_or, sym, ◌∙◌, arith, rules}
use Rattle.std.proofs.lemmas.List.{ext_get_or, get_or-map, length-map}
use Rattle.layout.specs.Sizes.{lead_of_height, leads_of}
use Rattle.layout.proofs.Making.{made_each}
use Rattle.layout.proofs.rings.leads_of.Goals as goal

pub returns : goal.returns
returns c =
    let h = c.args.heights.now in
    let long = c.from_fn.ensures.items.long in
    ext_get_or 0 c.from_fn.result (leads_of h) (long ∙ sym (length-map h lead_of_height ∙ c.told-heights)) (λ s l.
    let at : get_or c.from_fn.result s 0 ≡ lead_of_height (get_or h s 0) =
    made_each _ _ _ (λ (m y : ℕ). y ≡ lead_of_height (get_or h m 0)) (λ i y q k. (search rules, search rules)) 64 c.from_fn.ensures.items s 0 (omega (arith, long)) in
    at ∙ sym (get_or-map lead_of_height h s 0 0 (omega (arith, long))))
