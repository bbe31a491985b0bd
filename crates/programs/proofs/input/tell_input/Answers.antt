use Rattle.std.proofs.Common.{◌≡◌, [], ◌∷◌, ◌++◌, sym, subst, string_bytes, rules}
use Rattle.std.proofs.lemmas.List.{append-nil}
use Rattle.std.specs.Io.KnownBytes.{Appends}
use Rattle.programs.specs.Telling.{Answers}
use Rattle.programs.proofs.input.tell_input.Goals as goal

pub returns : goal.returns
returns g c =
    let old = g.W.Write.contents c.args.output.now in
    let new = g.W.Write.contents c.write_line.new.output in
    let answers : Answers g.F.Fn c.args.tell c.args.alloc c.in_ok-bytes.bytes.items c.in_ok-tell.field-0
    = (c.deref.result, c.deref.ensures.value, record { met = c.in_ok-tell.ensures }) in
    let is : c.deref-2.result.now ≡ string_bytes c.in_ok-tell.field-0 = search rules in
    let appends = subst (λ l. Appends old new (l ++ (10 ∷ []))) is c.in_ok-write_line.ensures in
    (c.in_ok-bytes.bytes.items, c.in_ok-tell.field-0, c.in_ok-bytes.ensures.size, c.in_ok-bytes.ensures.front, answers, subst (Appends old new) (sym (append-nil _)) appends)
