use Rattle.std.proofs.Common.{◌+◌, ◌<◌, map, take, Ok, Err, sym, refl, ap, ◌∙◌, subst, arith}
use Rattle.std.proofs.lemmas.Bool.Decides.{nat_tests}
use Rattle.std.proofs.lemmas.List.{length-take-le}
use Rattle.syntax.specs.Entries.{entry_of, count, limit}
use Rattle.syntax.specs.Parts.{result_to}
use Rattle.syntax.specs.Readers.{Stopped}
use Rattle.syntax.specs.Reading.{filled}
use Rattle.syntax.proofs.Turns.{entry_step, entry_err, entry_filled}
use Rattle.syntax.proofs.reader.Reader.read_record.Goals as goal

pub returns-in_err-kind-clause-value : goal.returns-in_err-kind-clause-value
returns-in_err-kind-clause-value c = rw (entry_err (map entry_of c.args.before.now) c.args.self.now.bytes.now c.args.self.now.at _ c.in_err-kind.ensures.value) (grind (arith, nat_tests))

pub returns-then-count-limit-clause-value : goal.returns-then-count-limit-clause-value
returns-then-count-limit-clause-value c =
    rw (entry_step (map entry_of c.args.before.now) c.args.self.now.bytes.now c.args.self.now.at _ _ c.in_ok-kind.ensures.value) (grind (arith, nat_tests))

pub returns-in-Err-Refused-clause-value : goal.returns-in-Err-Refused-clause-value
returns-in-Err-Refused-clause-value c =
    let bs = c.args.self.now.bytes.now in
    let end = c.in_ok-kind.end in
    let stop = c.in-Err-Refused in
    let room : count c.in_ok-kind.kind (map entry_of c.args.before.now) < limit c.in_ok-kind.kind = omega arith in
    let found = subst (λ s. Stopped s (filled c.in_ok-kind.kind (take end bs) (c.args.self.now.at + 3))) stop.field-0-is stop.ensures.value.1 in
    (refl, entry_filled (map entry_of c.args.before.now) bs c.args.self.now.at _ _ c.in_ok-kind.ensures.value room ∙ ap (result_to bs end) found ∙ ap Err (sym c.lower_first.ensures))

pub returns-clause-value : goal.returns-clause-value
returns-clause-value c =
    let bs = c.args.self.now.bytes.now in
    let end = c.in_ok-kind.end in
    let room : count c.in_ok-kind.kind (map entry_of c.args.before.now) < limit c.in_ok-kind.kind = omega arith in (
      refl,
      entry_filled (map entry_of c.args.before.now) bs c.args.self.now.at _ _ c.in_ok-kind.ensures.value room ∙ ap (result_to bs end) c.in-Ok.ensures.value.1
          ∙ ap (λ n. Ok (entry_of c.in-Ok.record, n)) (c.in-Ok.ensures.end ∙ length-take-le end bs c.in_ok-kind.ensures.inside.1),
    )
