use Rattle.std.specs.Io.Iter.{lines_known_bytes}
use Rattle.programs.specs.Telling.{Answers}
use Rattle.programs.proofs.Lines.{Told}
use Rattle.programs.proofs.vectors.tell_lines.Given as goal

abbrev pub invariant-loop-line : goal.invariant-loop-line
invariant-loop-line g l =
    Told (Answers g.F.Fn l.fn.tell l.fn.alloc) (g.R.Read.remaining l.fn.input)
    (lines_known_bytes g.R.Read.remaining l.line-iterator)
    (g.W.Write.contents l.fn.output) (g.W.Write.contents l.output)
