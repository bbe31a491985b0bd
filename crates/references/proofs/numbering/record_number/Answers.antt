use Rattle.std.proofs.Common.{◌≡◌, map, ap, ◌∙◌, arith, rules}
use Rattle.std.specs.Option.{option_map}
use Rattle.std.proofs.lemmas.Iterator.{YieldsList-from_slice}
use Rattle.std.proofs.lemmas.Iterator.Consumers.{YieldsList-from_enumerate, YieldsList-from_filter, nth_from_yields_List}
use borrow.Author.Tests.{tests}
use Rattle.syntax.specs.Entries.{entry_of}
use Rattle.references.specs.References.{position}
use Rattle.references.proofs.Places.{of_kind, numbered, told}
use Rattle.references.proofs.numbering.record_number.Goals as goal

pub returns : goal.returns
returns c =
    let k = c.args.id.kind in
    let nth = nth_from_yields_List c.nth.result c.nth.new.self _ c.nth.ensures.ran
    (YieldsList-from_filter _ (λ r. of_kind k r.1) (YieldsList-from_enumerate (YieldsList-from_slice c.args.records.now cc) cc) c.filter.ensures.closure (λ x b q d. search (rules, tests))) in
    let first : c.map.result ≡ option_map (λ r. r.0) c.nth.result = search rules in
    let e : c.map.result ≡ position k c.args.id.number (map entry_of c.args.records.now) =
    first ∙ numbered (λ r. r.now) k _ c.args.records.now c.nth.result nth ∙ ap (λ n. position k n (map entry_of c.args.records.now)) (omega arith) in
    record { value = e; law = told _ c.args.id _ e }
