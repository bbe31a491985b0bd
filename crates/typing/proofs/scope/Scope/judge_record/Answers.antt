use Rattle.std.proofs.Common.{None, vec_items, rules}
use Rattle.syntax.specs.Trees.{exp}
use Rattle.syntax.proofs.Each.{every_from_try_for_each}
use Rattle.typing.specs.Judging.{judged}
use Rattle.typing.proofs.scope.Scope.judge_record.Goals as goal

pub returns-in_ok-judge-in-Rule : goal.returns-in_ok-judge-in-Rule
returns-in_ok-judge-in-Rule c =
    let scope = c.args.self.now in
    let each = every_from_try_for_each (judged (vec_items scope.channels) (vec_items scope.streams) None) exp c.deref.result.now _ c.try_for_each.ensures.ran (search rules) (λ x p d k. search rules) in
    search rules
