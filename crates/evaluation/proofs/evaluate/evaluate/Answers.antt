use Rattle.std.proofs.Common.{◌∙◌, arith}
use Rattle.std.proofs.lemmas.Grind.{common_steps}
use Rattle.evaluation.proofs.Agreeing.{depends_on_names}
use Rattle.evaluation.proofs.Kept.{has_meaning}
use Rattle.evaluation.proofs.Levels.{whole}
use Rattle.evaluation.proofs.evaluate.evaluate.Goals as goal

pub returns-clause-whole : goal.returns-clause-whole
returns-clause-whole g c l = c.eval.ensures ∙ whole _ _ _ 12 _ l

pub returns-clause-typed : goal.returns-clause-typed
returns-clause-typed g c = has_meaning _ _ _ _ _ c.eval.ensures (grind (arith, common_steps))

pub returns-clause-names : goal.returns-clause-names
returns-clause-names g c = search depends_on_names
