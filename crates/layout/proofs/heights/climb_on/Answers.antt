-- A reader more: its row raises, or it is left out.
use Rattle.std.proofs.Common.{◌+◌, sym, subst}
use Rattle.layout.proofs.Slopes.{Climbing, climbing_raised, climbing_left}
use Rattle.layout.proofs.heights.climb_on.Goals.{then-from-reader, else-from-reader}
use Rattle.layout.proofs.heights.climb_on.Goals as goal

pub loop-reader-preserved : goal.loop-reader-preserved
loop-reader-preserved c =
    let l = c.loop-reader in
    elim c.if-from-reader.branch [
      | then-from-reader w ↦ subst (Climbing c.args.rows.now c.args.before.now c.args.from.now (l.reader + 1)) (sym w.to-is) (climbing_raised c.args.rows.now c.args.before.now c.args.from.now l.reader l.to w.raise_all.new.to w.raise_all.array_long w.raise_all.ensures l.invariant)
      | else-from-reader w ↦ subst (Climbing c.args.rows.now c.args.before.now c.args.from.now (l.reader + 1)) (sym w.to-is) (climbing_left c.args.rows.now c.args.before.now c.args.from.now l.reader l.to w.if-from-reader.false l.invariant)
    ]
