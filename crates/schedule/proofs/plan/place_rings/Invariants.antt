use Rattle.std.proofs.Common.{◌≡◌, ◌*◌, ◌≤◌, get_or, length}
use Rattle.lists.specs.Lists.{items}
use Rattle.schedule.specs.Placements.{rings_of}
use Rattle.schedule.specs.Plans.{slots_before}
use Rattle.schedule.proofs.plan.place_rings.Given as goal

abbrev pub invariant-loop-length : goal.invariant-loop-length
invariant-loop-length l = record {
  placed : items l.rings ≡ rings_of l.layout.leads l.layout.lengths (length l.yielded);
  slots : l.slots ≡ slots_before (λ j. get_or l.layout.lengths j 0) (length l.yielded);
  bound : l.slots ≤ 4294967295 * length l.yielded;
}
