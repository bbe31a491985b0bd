use Rattle.std.proofs.Common.{◌≡◌, ◌<◌, List, map, length, unwrap_or, Some, None, sym, ap, ◌∙◌, arith}
use Rattle.std.proofs.lemmas.List.{length-map}
use Rattle.syntax.specs.declared.record.Record.{Record}
use Rattle.syntax.specs.Entries.{entry_of}
use Rattle.references.specs.References.{position}
use Rattle.schedule.specs.Graphs.{opening_count, record_at, openings, number_of}
use Rattle.schedule.proofs.Describing.{openings_few, openings_found, few_records}
use Rattle.schedule.proofs.nodes.describe.Goals as goal

pub overflow_cast-result : goal.overflow_cast-result
overflow_cast-result c = omega (arith, few_records (map entry_of c.args.ordered.now.records.now) c.args.ordered.now.orderly, c.in-Some.ensures.law.inside)

pub overflow_cast-result-in-Some : goal.overflow_cast-result-in-Some
overflow_cast-result-in-Some c =
    let xs : List Record = c.args.ordered.now.records.now in
    let id = c.args.id in
    let here : c.in-Some.number < length xs = omega (arith, c.in-Some.ensures.law.inside, length-map xs entry_of) in
    let is = openings_found xs id c.in-Some.number c.index-ordered-number.result c.in-Some.ensures.value here c.index-ordered-number.is in
    omega (arith, c.openings_of.ensures, ap (λ (r : Record). opening_count (Some (entry_of r))) (sym c.index-ordered-number.is), is, openings_few (map entry_of xs) id c.args.ordered.now.orderly.opens)

pub returns-in-Some : goal.returns-in-Some
unfolding number_of
returns-in-Some c =
    let xs : List Record = c.args.ordered.now.records.now in
    let id = c.args.id in
    let found : Some c.in-Some.number ≡ position id.kind id.number (map entry_of xs) = c.in-Some.ensures.value in
    let here : c.in-Some.number < length xs = omega (arith, c.in-Some.ensures.law.inside, length-map xs entry_of) in
    let n = ap (λ o. unwrap_or o 0) found in
    let o = c.openings_of.ensures ∙ ap (λ (r : Record). opening_count (Some (entry_of r))) (sym c.index-ordered-number.is) ∙ openings_found xs id c.in-Some.number c.index-ordered-number.result found here c.index-ordered-number.is in
    λ i. record { number = n i; opening = o i }

pub returns-in-None : goal.returns-in-None
unfolding number_of openings
returns-in-None c =
    let xs : List Record = c.args.ordered.now.records.now in
    let id = c.args.id in
    let found : None ≡ position id.kind id.number (map entry_of xs) = c.in-None.ensures.value in
    let n = ap (λ o. unwrap_or o 0) found in
    let o = ap (λ o. opening_count (record_at (map entry_of xs) o)) found in
    λ i. record { number = (c.default.ensures.0 ∙ n) i; opening = (c.default.ensures.1 ∙ o) i }
