use Rattle.std.proofs.Common.{◌≡◌, [], ◌∷◌, ◌++◌, refl, sym, ap, subst, ◌∙◌, IfOk, string_bytes, rules}
use Rattle.std.specs.Io.Iter.{lines_known_bytes}
use Rattle.std.specs.Io.KnownBytes.{Appends}
use Rattle.std.specs.Option.{option_map}
use Rattle.programs.specs.Telling.{Answers, text_of}
use Rattle.programs.proofs.Lines.{Told, Takes, told_none, told_same, told_more, told_all}
use Rattle.programs.proofs.vectors.tell_lines.Goals as goal

pub loop-line-init : goal.loop-line-init
loop-line-init g c =
    let known = ap (lines_known_bytes g.R.Read.remaining) c.into_iter-line-iterator.ensures.into_iter_gives ∙ c.lines-line-items.ensures in
    let at = g.W.Write.contents c.args.output.now in
    let R = Answers g.F.Fn c.args.tell c.args.alloc in
    subst (λ left. Told R (g.R.Read.remaining c.args.input) left at at) (sym known) (told_none R (g.R.Read.remaining c.args.input) at)

pub loop-line-preserved-in_default : goal.loop-line-preserved-in_default
loop-line-preserved-in_default g c =
    let line = string_bytes c.in_ok-line.line in
    let left = lines_known_bytes g.R.Read.remaining c.loop-line.line-iterator in
    let left' = lines_known_bytes g.R.Read.remaining c.next.new.self in
    let takes : Takes left line left' = subst (λ r. IfOk r (λ x. Takes left (string_bytes x) left')) c.in_ok-line.was c.in-Some.ensures.steps.1 in
    told_same (Answers g.F.Fn c.args.tell c.args.alloc) (g.R.Read.remaining c.args.input) left left'
    (g.W.Write.contents c.args.output.now) (g.W.Write.contents c.loop-line.output) line c.loop-line.invariant takes
    (ap text_of (sym c.deref.ensures) ∙ sym c.line_text.ensures ∙ ap (option_map (λ s. s.now)) c.in_default.is)

pub loop-line-preserved : goal.loop-line-preserved
loop-line-preserved g c =
    let line = string_bytes c.in_ok-line.line in
    let left = lines_known_bytes g.R.Read.remaining c.loop-line.line-iterator in
    let left' = lines_known_bytes g.R.Read.remaining c.next.new.self in
    let takes : Takes left line left' = subst (λ r. IfOk r (λ x. Takes left (string_bytes x) left')) c.in_ok-line.was c.in-Some.ensures.steps.1 in
    let mid = g.W.Write.contents c.loop-line.output in
    let new = g.W.Write.contents c.write_line.new.output in
    let is : c.deref-in-loop-line.result.now ≡ string_bytes c.in_ok-tell.field-0 = search rules in
    told_more (Answers g.F.Fn c.args.tell c.args.alloc) (g.R.Read.remaining c.args.input) left left'
    (g.W.Write.contents c.args.output.now) mid new line c.in-Some-line_text.text.now c.in_ok-tell.field-0 c.loop-line.invariant takes
    (ap text_of (sym c.deref.ensures) ∙ sym c.line_text.ensures ∙ ap (option_map (λ s. s.now)) c.in-Some-line_text.is)
    (c.in-Some-line_text.text, refl, record { met = c.in_ok-tell.ensures })
    (subst (λ l. Appends mid new (l ++ (10 ∷ []))) is c.in_ok-write_line.ensures)

pub returns : goal.returns
returns g c =
    told_all (Answers g.F.Fn c.args.tell c.args.alloc) (g.R.Read.remaining c.args.input)
    (lines_known_bytes g.R.Read.remaining c.loop-line.line-iterator)
    (g.W.Write.contents c.args.output.now) (g.W.Write.contents c.loop-line.output)
    c.loop-line.invariant c.in-None.ensures.steps.1
