-- A hold over a hold, and the laws of holds. Assumes nothing.
use Rattle.std.proofs.Common.{◌≡◌, ℕ, ◌+◌, All, sym, ap, ◌∙◌, arith}
use Rattle.std.proofs.lemmas.List.Elements.{All-weaker, All-map}
use Rattle.std.proofs.lemmas.Simd.{map-map}
use Rattle.sampling.specs.declared.hold.Hold.{Hold}
use Rattle.sampling.specs.declared.sampler.Sampler.{Ghosts as Sampler}
use Rattle.sampling.specs.Holds.{hold_row}
use Rattle.sampling.specs.Moves.{over}
use Rattle.sampling.specs.Watching.{Series, part, shown_for, Carries, Latch, lower, rows_below, rows_shown, GoesThrough, PilesBridge, HoldLaws}
use Rattle.sampling.proofs.Running.{bridges, refusals_keep}

-- one latch, as one of the lower hold
lower_latch : {S : Type 0} → Latch (Hold S) → Latch S
lower_latch l = record { old = l.old.below; new = l.new.below }

pub piles : {S : Type 0} (s : Sampler S) → PilesBridge s
unfolding lower_latch
piles {S} s h ls run left =
    let moved : All (GoesThrough s) (lower ls) =
    All-map (GoesThrough s) lower_latch ls (All-weaker (GoesThrough (over s)) (λ l. GoesThrough s (lower_latch l)) (λ l m. m.below) ls run.1) in
    let upper = bridges (over s) h ls run in
    let under = bridges s h.below (lower ls) (left, moved) in
    let reads : (k : ℕ) → rows_shown (lower ls) k ≡ rows_below (over s) ls k =
    λ k. map-map (λ (l : Latch S). hold_row l.new.latched l.new.channels k) lower_latch ls in
    let adds : (b : ℕ) (below : Series) → Carries b below (rows_shown (lower ls)) → Carries (h.bridges + b) below (rows_shown ls) =
    λ b below c k j m n v inside e.
    let z : h.bridges + (b + n) ≡ h.bridges + b + n = omega arith in
    upper.carries k j m (b + n) v inside (ap (part j m) (sym (reads k)) ∙ c k j m n v inside e) ∙ ap (λ t. shown_for t v m) z in
    record {
      runs = (left, moved);
      reads = reads;
      carries = adds h.below.bridges (rows_below s (lower ls)) under.carries;
      adds = adds;
    }

pub laws : {S : Type 0} (s : Sampler S) → HoldLaws s
laws s = record { bridge = bridges s; piles = piles s; refusals = refusals_keep s }
