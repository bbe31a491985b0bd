use Rattle.std.proofs.Common.{◌≡◌, ◌<◌, [], ◌∷◌, ◌++◌, length, map, take, vec_items, ap, ◌∙◌, arith}
use Rattle.std.proofs.lemmas.List.{length-map, length-take-le, take_all}
use Rattle.values.specs.declared.value.Value.{Value}
use Rattle.syntax.specs.declared.tree.Expr.{Expr}
use Rattle.syntax.specs.Trees.{Exp, exp}
use Rattle.alarms.specs.Arguments.{arguments}
use Rattle.tables.specs.Tables.{rules_of}
use Rattle.engine.specs.Rings.{read_at}
use Rattle.engine.proofs.Known.{found, indexed, argument_own, four_arguments, its_arguments}
use Rattle.engine.proofs.Calling.{pushed, read_on, of_trees}
use Rattle.engine.proofs.Histories.{finds_arguments}
use Rattle.engine.proofs.rules.arguments.Goals as goal

pub read-requires-clause-own : goal.read-requires-clause-own
read-requires-clause-own c =
    let t = c.args.table.now in
    let (l, e) = found (rules_of t) c.rules.result.now c.args.rule c.from.result c.in-Some.rule.now c.rules.ensures c.from.ensures c.in-Some.ensures.lookup.0 c.in-Some.ensures.lookup.1 in
    let x = c.in-Some.rule.now in
    let n = c.loop-argument.argument-index in
    let y = c.argument-item.result in
    let inside : n < length c.deref-argument-items.result.now = c.loop-argument-test.true in
    argument_own t c.args.rule x l e n y (omega (arith, inside, ap length c.deref-argument-items.ensures.value)) (indexed (vec_items x.arguments) c.deref-argument-items.result.now n y c.deref-argument-items.ensures.value c.argument-item.is)

pub loop-argument-preserved : goal.loop-argument-preserved
loop-argument-preserved c =
    let t = c.args.table.now in
    let (l, e) = found (rules_of t) c.rules.result.now c.args.rule c.from.result c.in-Some.rule.now c.rules.ensures c.from.ensures c.in-Some.ensures.lookup.0 c.in-Some.ensures.lookup.1 in
    let x = c.in-Some.rule.now in
    let n = c.loop-argument.argument-index in
    let y = c.argument-item.result in
    let inside : n < length c.deref-argument-items.result.now = c.loop-argument-test.true in
    let items = c.deref-argument-items.result.now in
    let read : Expr → Value = λ z. read_at t c.args.rings.now c.args.tick (exp z) in
    let old = c.loop-argument.arguments in
    let new = c.push-room.new.self in
    let few : length (arguments old) < 4 =
    omega (arith, ap length c.loop-argument.invariant, length-map (take n items) read, length-take-le n items (omega (arith, inside)), inside, ap length c.deref-argument-items.ensures.value, four_arguments t c.args.rule x l e) in
    read_on read items n y inside c.argument-item.is (arguments old) (arguments new) c.loop-argument.invariant
    (pushed c.read.result old new c.push-room.result c.push-room.ensures few ∙ ap (λ (v : Value). arguments old ++ (v ∷ [])) c.read.ensures)

pub returns-clause-read : goal.returns-clause-read
returns-clause-read c known =
    let t = c.args.table.now in
    let (l, e) = found (rules_of t) c.rules.result.now c.args.rule c.from.result c.in-Some.rule.now c.rules.ensures c.from.ensures c.in-Some.ensures.lookup.0 c.in-Some.ensures.lookup.1 in
    let x = c.in-Some.rule.now in
    let n = c.loop-argument.argument-index in
    let read : Exp → Value = read_at t c.args.rings.now c.args.tick in
    let whole : take n c.deref-argument-items.result.now ≡ vec_items x.arguments =
    take_all n c.deref-argument-items.result.now c.loop-argument-test.false ∙ c.deref-argument-items.ensures.value in
    c.loop-argument.invariant ∙ ap (map (λ (z : Expr). read (exp z))) whole ∙ of_trees read (vec_items x.arguments) ∙ its_arguments t c.args.rule x l e read

pub returns-clause-called : goal.returns-clause-called
returns-clause-called c known =
    finds_arguments c.args.table.now c.args.tick c.args.rings.now c.args.rule (arguments c.loop-argument.arguments) known (returns-clause-read c known)
