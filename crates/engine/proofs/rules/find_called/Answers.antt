use Rattle.std.proofs.Common.{◌≡◌, ℕ, ◌<◌, Bool, cond, [], ◌∷◌, ◌++◌, length, sym, ap, ◌∙◌, subst, arith}
use Rattle.std.specs.List.{AllByRecursion}
use Rattle.std.proofs.ByRecursion.{All-get_or}
use Rattle.std.proofs.lemmas.List.{append-nil}
use Rattle.arrayvec.specs.ArrayVec.{ArrayVec}
use Rattle.operators.specs.Operators.{truth}
use Rattle.tables.specs.Tables.{rules_of}
use Rattle.engine.proofs.Known.{indexed, guard_own, few_rules}
use Rattle.engine.proofs.Calling.{one_more, few_true, all_true, all_known}
use Rattle.engine.proofs.Histories.{finds_called}
use Rattle.engine.proofs.rules.find_called.Goals as goal
use Rattle.engine.proofs.rules.find_called.Goals.{then-is_true, else-is_true}

pub read-requires-clause-own : goal.read-requires-clause-own
read-requires-clause-own c =
    let t = c.args.table.now in
    let n = c.loop-number.number in
    let x = c.rule-item.result in
    let l : n < length (rules_of t) = omega (arith, c.loop-number-test.true, ap length c.rules-rule-items.ensures) in
    let e = indexed (rules_of t) c.rules-rule-items.result.now n x c.rules-rule-items.ensures c.rule-item.is in
    guard_own t n x l e

pub overflow_cast-number : goal.overflow_cast-number
overflow_cast-number c =
    let t = c.args.table.now in
    let n = c.loop-number.number in
    let x = c.rule-item.result in
    let l : n < length (rules_of t) = omega (arith, c.loop-number-test.true, ap length c.rules-rule-items.ensures) in
    record { fits = omega (arith, l, few_rules t) }

pub push-requires : goal.push-requires
push-requires c =
    let t = c.args.table.now in
    let n = c.loop-number.number in
    let x = c.rule-item.result in
    let l : n < length (rules_of t) = omega (arith, c.loop-number-test.true, ap length c.rules-rule-items.ensures) in
    let few = few_true t c.args.rings.now c.args.tick n (omega (arith, l)) in
    let room : length c.loop-number.called.items < 16 = omega (arith, few, ap length c.loop-number.invariant, l, few_rules t) in
    (omega arith, room)

pub loop-number-preserved : goal.loop-number-preserved
loop-number-preserved c =
    let t = c.args.table.now in
    let n = c.loop-number.number in
    let x = c.rule-item.result in
    let l : n < length (rules_of t) = omega (arith, c.loop-number-test.true, ap length c.rules-rule-items.ensures) in
    let e = indexed (rules_of t) c.rules-rule-items.result.now n x c.rules-rule-items.ensures c.rule-item.is in
    let old = c.loop-number.called.items in
    let truths = c.is_true.ensures ∙ ap truth c.read.ensures in
    let on = one_more t c.args.rings.now c.args.tick n x l e old c.if-is_true.called.items c.loop-number.invariant in
    elim c.if-is_true.branch [
      | then-is_true w ↦ on (ap (λ (z : ArrayVec ℕ). z.items) w.called-is ∙ w.push.ensures.items ∙ ap (λ (b : Bool). old ++ cond b (n ∷ []) []) (sym w.if-is_true.true ∙ truths))
      | else-is_true w ↦ on (ap (λ (z : ArrayVec ℕ). z.items) w.called-is ∙ sym (append-nil old) ∙ ap (λ (b : Bool). old ++ cond b (n ∷ []) []) (sym w.if-is_true.false ∙ truths))
    ]

pub returns-clause-rules : goal.returns-clause-rules
returns-clause-rules c =
    let t = c.args.table.now in
    let end : c.loop-number.number ≡ length (rules_of t) = omega (arith, c.loop-number-test.false, ap length c.rules-rule-items.ensures, c.loop-number.auto) in
    c.loop-number.invariant ∙ all_true t c.args.rings.now c.args.tick c.loop-number.number end

pub returns-clause-few : goal.returns-clause-few
returns-clause-few c =
    let t = c.args.table.now in
    let end : c.loop-number.number ≡ length (rules_of t) = omega (arith, c.loop-number-test.false, ap length c.rules-rule-items.ensures, c.loop-number.auto) in
    omega (arith, few_true t c.args.rings.now c.args.tick c.loop-number.number (omega (arith, end)), ap length c.loop-number.invariant, few_rules t, end)

pub returns-clause-known : goal.returns-clause-known
returns-clause-known c k d h =
    let t = c.args.table.now in
    let end : c.loop-number.number ≡ length (rules_of t) = omega (arith, c.loop-number-test.false, ap length c.rules-rule-items.ensures, c.loop-number.auto) in
    All-get_or (λ (j : ℕ). j < length (rules_of t)) c.loop-number.called.items k d h
    (subst (AllByRecursion (λ j. j < length (rules_of t))) (sym c.loop-number.invariant) (all_known t c.args.rings.now c.args.tick c.loop-number.number end))

pub returns-clause-called : goal.returns-clause-called
returns-clause-called c = finds_called c.args.table.now c.args.tick c.args.rings.now c.loop-number.called.items (returns-clause-rules c)
