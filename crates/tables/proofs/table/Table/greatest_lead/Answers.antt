use Rattle.std.proofs.Math.Logic.{∥∥₁_elim}
use Rattle.std.proofs.Math.Nat.{ℕ_set}
use Rattle.tables.proofs.table.Table.greatest_lead.Goals as goal

pub returns : goal.returns
returns c = ∥∥₁_elim c.args.self.now.accepted (ℕ_set _ _) (λ a. a.sorts.greatest)
