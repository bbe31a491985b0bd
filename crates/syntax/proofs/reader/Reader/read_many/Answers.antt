use Rattle.std.proofs.Common.{◌+◌, ◌-◌, [], ◌∷◌, map, refl, sym, ap, ◌∙◌, subst}
use Rattle.std.proofs.lemmas.List.{map-append}
use Rattle.std.proofs.lemmas.Result.{err_from_is_err_and}
use Rattle.syntax.specs.Readers.{Stopped}
use Rattle.syntax.specs.Reading.{many}
use Rattle.syntax.proofs.Many.{onto, many_more, many_end, many_stopped}
use Rattle.syntax.proofs.reader.Reader.read_many.Goals as goal

pub returns-in_err-read : goal.returns-in_err-read
returns-in_err-read g c =
    let one = g.P.Part.found c.args.known c.args.self.now.bytes.now in
    let p = err_from_is_err_and c.from_residual.result c.from_residual.ensures.1 in
    let e = subst (λ bs. Stopped c.in_err-read.field-0.0 (g.P.Part.found c.args.known bs c.loop.ahead.at)) c.loop.invariant.0 c.in_err-read.ensures.1 in
    rw (p.1, p.2) (refl, many_stopped one _ c.in_err-read.field-0.0 _ c.args.count c.loop.counter _ c.loop-test.true e c.loop.invariant.1)

pub loop-preserved : goal.loop-preserved
loop-preserved g c =
    let one = g.P.Part.found c.args.known c.args.self.now.bytes.now in
    let same = c.loop.invariant.0 in
    let found = ap (λ bs. g.P.Part.found c.args.known bs c.loop.ahead.at) (sym same) ∙ c.in_ok-read.ensures.1 in
    let m = ap (map g.P.Part.see) c.in_ok-push.ensures.items ∙ map-append g.P.Part.see c.loop.parts.items (c.in_ok-read.field-0 ∷ []) in (
      c.in_ok-read.ensures.0 ∙ same,
      many_more one _ _ c.args.count c.loop.counter _ _ _ c.loop-test.true found c.loop.invariant.1
          ∙ ap (λ l. onto l (many one (c.args.count - (c.loop.counter + 1)) c.read.new.reader.at)) (sym m),
    )

pub returns : goal.returns
returns g c =
    (refl, many_end (g.P.Part.found c.args.known c.args.self.now.bytes.now) _ _ c.args.count c.loop.counter _ c.loop-test.false c.loop.invariant.1)
