use Rattle.std.proofs.Common.{ℕ, List, subst}
use Rattle.faults.specs.declared.cause.Cause.TheVariants.{ClosedWalk, ChannelWalk}
use Rattle.cases.specs.Cases.{two_streams, three_streams, one_stream, Verdict}
use Rattle.cases.proofs.Judging.{slots_are, cause_is}
use Rattle.cases.proofs.One.{one_ahead, none_ahead}
use Rattle.cases.proofs.Two.{both_streams}
use Rattle.cases.proofs.Three.{three_ahead, four_ahead}
use Rattle.cases.proofs.work_out.Goals as goal

pub returns : goal.returns
returns c = record {
  two = slots_are two_streams c.in_ok-two.two c.in_ok-two.ensures 4 both_streams.1;
  three = slots_are (three_streams 3) c.in_ok-three.three (subst (λ (l : List ℕ). Verdict l c.in_ok-three.three) c.three_streams.ensures c.in_ok-three.ensures) 4 three_ahead;
  four = cause_is (three_streams 4) c.in_ok-four.four (subst (λ (l : List ℕ). Verdict l c.in_ok-four.four) c.three_streams-2.ensures c.in_ok-four.ensures) (ChannelWalk 3) four_ahead;
  one = cause_is (one_stream 1) c.in_ok-one.one (subst (λ (l : List ℕ). Verdict l c.in_ok-one.one) c.one_stream.ensures c.in_ok-one.ensures) (ClosedWalk 1) one_ahead;
  none = slots_are (one_stream 0) c.in_ok-none.none (subst (λ (l : List ℕ). Verdict l c.in_ok-none.none) c.one_stream-2.ensures c.in_ok-none.ensures) 2 none_ahead;
  repeating = c.in_ok-show_two.ensures;
  ahead = c.in_ok-show_three.ensures;
  bridged = c.bridge_five.ensures;
  sum = c.edge_cases.ensures.sum;
  fraction = c.edge_cases.ensures.fraction;
  rest = c.edge_cases.ensures.rest;
  int8 = c.edge_cases.ensures.int8;
  int16 = c.edge_cases.ensures.int16;
  int32 = c.edge_cases.ensures.int32;
  int64 = c.edge_cases.ensures.int64;
}
