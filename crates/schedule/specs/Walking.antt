-- What is answered of the walks over edges. Assumes nothing.
use Rattle.std.specs.Prelude.{◌≡◌, ℕ, ◌⊎◌, List, Ok, Err, Result}
use Rattle.faults.specs.declared.cause.Cause.{Cause}
use Rattle.faults.specs.declared.cause.Cause.TheVariants.{ClosedWalk, ChannelWalk}
use Rattle.walks.specs.declared.edge.Edge.{Edge}
use Rattle.walks.specs.declared.edge.SheetEntry.{SheetEntry}
use Rattle.walks.specs.Walks.{Graph, Falling, Settled, TellsClosed, TellsAhead}
use Rattle.walks.specs.Edges.{graph, told, Channel}
use Rattle.layout.specs.declared.layout.Layout.{Layout}
use Rattle.layout.specs.Layouts.{Laid}

-- the cause tells of a closed walk that weighs 0 or more; or, where there is none, of a walk to a channel that weighs more than 0
abbrev pub BlamesWalk : {R N : Type 0} → Graph R N → (N → Type 0) → (R → SheetEntry) → List SheetEntry → List SheetEntry → Cause → Type 0
BlamesWalk G C shown old new c =
    ((k : ℕ) × (c ≡ ClosedWalk k) × TellsClosed G shown old new k) ⊎ ((k : ℕ) × (c ≡ ChannelWalk k) × Falling G × TellsAhead G C shown old new k)

-- a layout, where no closed walk weighs 0 or more and no walk to a channel more than 0; or the walk against it
abbrev pub Weighed : ℕ → ℕ → List Edge → List SheetEntry → List SheetEntry → Result Layout Cause → Type 0
Weighed channels streams es old new (Ok l) = (new ≡ old) × Laid channels streams es l × Settled (graph es) (Channel channels)
Weighed channels streams es old new (Err c) = BlamesWalk (graph es) (Channel channels) told old new c
