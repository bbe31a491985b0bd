use Rattle.std.proofs.Common.{map, vec_items, sym, ap, ◌∙◌, rules}
use Rattle.std.proofs.lemmas.Result.{err_from_is_err_and}
use Rattle.faults.specs.Causes.{by_number}
use Rattle.syntax.specs.Passing.{every}
use Rattle.syntax.specs.Entries.{entry_of}
use Rattle.syntax.proofs.Each.{every_from_try_for_each}
use Rattle.typing.specs.Judging.{entry_judged, Typed}
use Rattle.typing.proofs.WellTyped.{all_typed, all_divide}
use Rattle.typing.proofs.typed.check_types.Goals as goal

pub returns-in_err-scope : goal.returns-in_err-scope
returns-in_err-scope c =
    let rs = map entry_of c.args.records.now in
    record { answer = search rules; typed = all_typed rs; divisors = all_divide rs }

pub returns-in_err-try_for_each : goal.returns-in_err-try_for_each
returns-in_err-try_for_each c =
    let scope = c.in_ok-scope.scope in
    let s = c.in_ok-scope.ensures in
    let rs = map entry_of c.args.records.now in
    let each = every_from_try_for_each (entry_judged (vec_items scope.channels) (vec_items scope.streams)) entry_of c.args.records.now _ c.try_for_each.ensures.ran (search rules) (λ x p d k. search rules) in
    let p = err_from_is_err_and c.from_residual-in_err-try_for_each.result c.from_residual-in_err-try_for_each.ensures.1 in
    let answer : Typed c.from_residual-in_err-try_for_each.result rs = rw (p.1, p.2) (sym (each ∙ (λ i. every (entry_judged (s.0 i) (s.1 i)) rs)) ∙ ap by_number c.in_err-try_for_each.was) in
    record { answer = answer; typed = all_typed rs; divisors = all_divide rs }

pub returns : goal.returns
returns c =
    let scope = c.in_ok-scope.scope in
    let each = every_from_try_for_each (entry_judged (vec_items scope.channels) (vec_items scope.streams)) entry_of c.args.records.now _ c.try_for_each.ensures.ran (search rules) (λ x p d k. search rules) in
    let rs = map entry_of c.args.records.now in
    record { answer = search rules; typed = all_typed rs; divisors = all_divide rs }
