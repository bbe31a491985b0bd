-- That exactly one set of values meets the equations of a table that the check accepts. Assumes nothing.
use Rattle.std.specs.Prelude.{◌≡◌, ℕ, List, Ok}
use Rattle.syntax.specs.Entries.{Entry}
use Rattle.typing.specs.Judging.{types_in}
use Rattle.schedule.specs.declared.plan.Plan.{Plan}
use Rattle.schedule.specs.Edges.{InOrder}
use Rattle.schedule.specs.Plans.{Planned}
use Rattle.evaluation.specs.Meaning.{Samples, Values}
use Rattle.equations.specs.Equations.{Leads, TypedSamples, SameSamples, Meets, SameValues, OneSet}
use Rattle.equations.specs.Alarms.{called}

-- what the check shows of a table that it accepts: limits, names and types are in order, and its values are planned
pub record WellPlanned (rs : List Entry) (p : Plan) : Type 0 where
  pub order : InOrder rs
  pub types : types_in rs ≡ Ok tt
  pub planned : Planned rs p

-- exactly one set meets the equations, whatever the samples and however many ticks
abbrev pub ExactlyOne : Type 0
ExactlyOne = (rs : List Entry) (p : Plan) → WellPlanned rs p → (x : Samples) (n : ℕ) → TypedSamples rs x n → OneSet rs x n

-- no two sets that meet them differ, of whatever types the samples are
abbrev pub AtMostOne : Type 0
AtMostOne =
    (rs : List Entry) (p : Plan) → WellPlanned rs p → (lead : ℕ → ℕ) → Leads rs lead → (x : Samples) (n : ℕ) (v w : Values) →
    Meets rs lead x n v → Meets rs lead x n w → SameValues rs lead n v w

-- values up to the newest, and the alarms called so far, rest on the samples of the judged ticks alone
pub record RestsOnThePast (rs : List Entry) : Type 0 where
  pub values : (lead : ℕ → ℕ) → Leads rs lead → (x y : Samples) (n : ℕ) → SameSamples rs n x y → (v : Values) → Meets rs lead x n v → Meets rs lead y n v
  pub alarms : (lead : ℕ → ℕ) → Leads rs lead → (x y : Samples) (n : ℕ) → SameSamples rs n x y → (v w : Values) →
      Meets rs lead x n v → Meets rs lead y n w → called rs x v n ≡ called rs y w n

abbrev pub OnThePast : Type 0
OnThePast = (rs : List Entry) (p : Plan) → WellPlanned rs p → RestsOnThePast rs
