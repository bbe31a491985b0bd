use Rattle.std.proofs.Common.{sym, subst, string_bytes}
use Rattle.std.proofs.lemmas.Result.{IfOk-weaker}
use Rattle.tables.specs.Lines.{TellsLine, TellsWalk}
use Rattle.check_table.specs.Telling.{Reports}
use Rattle.check_table.proofs.check_input.Goals as goal

pub returns-in-Line : goal.returns-in-Line
returns-in-Line g c =
    IfOk-weaker c.tell_input.result _ _
    (λ _ h.
    let tells = subst (λ bytes. TellsLine bytes (string_bytes h.1)) h.4.1 h.4.2.met.1 in
    (h.0, h.1, h.2, h.3, subst (λ r. Reports r h.0 (string_bytes h.1)) (sym c.in-Line.is) tells, h.5))
    c.tell_input.ensures

pub returns-in-Walk : goal.returns-in-Walk
returns-in-Walk g c =
    IfOk-weaker c.tell_input-in-Walk.result _ _
    (λ _ h.
    let tells = subst (λ bytes. TellsWalk bytes (string_bytes h.1)) h.4.1 h.4.2.met.1 in
    (h.0, h.1, h.2, h.3, subst (λ r. Reports r h.0 (string_bytes h.1)) (sym c.in-Walk.is) tells, h.5))
    c.tell_input-in-Walk.ensures
