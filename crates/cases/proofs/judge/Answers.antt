use Rattle.std.proofs.Common.{arith}
use Rattle.std.proofs.lemmas.Result.{IfOk-weaker}
use Rattle.cases.proofs.judge.Goals as goal

pub returns : goal.returns
returns c =
    let asked = c.in_ok-ask.ensures in
    IfOk-weaker c.verdict.result _ _ (λ v e. record {
      before = asked.before;
      after = asked.after;
      sheet = asked.sheet;
      sheet_after = _;
      answer = _;
      space = omega (arith, asked.space);
      answers = asked.answers;
      is = e;
    }) c.verdict.ensures
