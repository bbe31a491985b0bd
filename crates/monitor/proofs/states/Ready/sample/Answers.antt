use Rattle.std.proofs.Common.{ap, ◌∙◌, sym, subst}
use Rattle.values.specs.Values.{word}
use Rattle.sampling.specs.Meanings.{row_after}
use Rattle.monitor.specs.States.{State}
use Rattle.monitor.specs.Standing.{StandsAfter}
use Rattle.monitor.proofs.Standing.{pends}
use Rattle.monitor.proofs.states.Ready.sample.Goals as goal

pub returns-in-Ok-clause-day : goal.returns-in-Ok-clause-day
returns-in-Ok-clause-day g c h s =
    let t = c.args.table.now in
    let read = c.in-Ok.ensures in
    let stores = c.store_samples.ensures.made in
    let row = row_after (g.S.Sampler.meaning c.args.sampler.now) in (
      row,
      read.next,
      pends t h _ row c.args.rings.now c.store_samples.new.rings (subst (λ (m : State). StandsAfter t h m c.args.rings.now) (sym c.self.view_is) s) c.self.invariant read.typed
          (record { stored = λ k inside. stores.stored k inside ∙ ap word (read.row k inside); others = stores.others; long = stores.long }),
    )
