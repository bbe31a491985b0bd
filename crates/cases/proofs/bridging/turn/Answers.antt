use Rattle.std.proofs.Common.{◌&&◌, true, Option, None, cond, unwrap_or, is_ok, sym, ap, ◌∙◌, arith}
use Rattle.std.specs.Result.{result_ok}
use Rattle.sampling.specs.Holds.{after, record_at}
use Rattle.sampling.specs.Rows.{Readings, nothing}
use Rattle.sampling.proofs.Answering.{ok_of}
use Rattle.cases.proofs.bridging.turn.Goals as goal

pub returns : goal.returns
returns c =
    let m = c.latch-latched.ensures.moved (ap is_ok c.latch-latched.ensures.answer) in
    let reads = sym (ap (λ (o : Option Readings). unwrap_or o nothing 0) m.row) ∙ c.set.ensures.next in
    let kept = m.channels 0 (omega arith) ∙ (λ i. after (c.set.ensures.bridges i) (record_at (c.set.ensures.channels i) 0) (reads i)) in (
      c.ok.ensures.value ∙ ap result_ok c.read.ensures ∙ ok_of _ _ ∙ (λ i. cond (m.latched i && true) (kept i).last None),
      kept,
      m.bridges ∙ c.set.ensures.bridges,
    )
