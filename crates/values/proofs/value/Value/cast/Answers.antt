use Rattle.std.proofs.Common.{◌≡◌, pos, ap, ◌∙◌, subst, rules}
use Rattle.values.specs.Values.{type_of, num, wrap, Proper}
use Rattle.values.proofs.Wrapping.{wrap_word, wraps, cast_keeps}
use Rattle.values.proofs.value.Value.cast.Goals as goal

pub returns : goal.returns
returns c =
    let v = c.args.self in
    let is : c.from_word.result ≡ wrap c.args.to (num v) = search (rules, wrap_word) in
    let proper : Proper v = subst Proper c.word.ensures.back (wraps (type_of v) (pos c.word.result)).proper in
    record { value = is; kept = λ e. ap num is ∙ cast_keeps (type_of v) c.args.to (num v) proper e; wraps = wraps }
