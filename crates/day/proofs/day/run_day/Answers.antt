use Rattle.std.proofs.Common.{sym}
use Rattle.day.proofs.Ending.{whole_day, room_opened}
use Rattle.day.proofs.day.run_day.Goals as goal

pub returns : goal.returns
returns g c =
    let e = c.in_ok-ready.ensures in (
      sym e.refusal,
      whole_day g.S.Sampler g.K.Sink g.H.Host c.args.table.now c.args.most c.args.rings.now _ c.args.sampler.now c.args.sink.now c.args.host.now
          _ _ _ _ _ _ e.state e.rings e.day (room_opened c.args.table.now _ _ (sym e.refusal) e.rings) c.make_calls.ensures,
    )
