-- Ring lengths by the leads. Assumes nothing.
use Rattle.std.proofs.Common.{◌≡◌, ℕ, zero, suc, ◌<◌, ◌≤◌, ◌⊎◌, List, get_or, replicate, pos, ◌+ℤ◌, ◌-ℤ◌, ◌≤ℤ◌, refl, ap, inl, inr, arith}
use Rattle.std.specs.List.{AllByRecursion}
use Rattle.std.proofs.ByRecursion.{All-weaker}
use Rattle.std.proofs.lemmas.List.{get_or-replicate}
use Rattle.std.proofs.lemmas.Int.{ints}
use Rattle.walks.specs.declared.edge.Edge.{Edge}
use Rattle.walks.specs.Walks.{In, Lead, reach, Ring}
use Rattle.walks.specs.Edges.{graph, Bounded}
use Rattle.walks.proofs.Cut.{all_in, lead_up}
use Rattle.layout.specs.Layouts.{lead_at}
use Rattle.layout.specs.Sizes.{span, sizes}
use Rattle.layout.proofs.Tops.{folded_each, folded_up, folded_met}

ones_at : (n b : ℕ) → get_or (replicate n 1) b 0 ≤ 1
ones_at zero b = omega arith
ones_at (suc n) zero = omega arith
ones_at (suc n) (suc b) = ones_at n b

module _ (es : List Edge) (bounded : AllByRecursion Bounded es) (leads : List ℕ) (are : (s : ℕ) → s < 64 → Lead (graph es) s (lead_at leads s)) where
  below : (e : Edge) → In e es → reach (graph es) (lead_at leads) e ≤ℤ lead_at leads e.read
  below e m =
      let b : Bounded e = all_in Bounded es e bounded m in
      lead_up (graph es) e (lead_at leads e.reader) (lead_at leads e.read) m (are e.reader b.reader) (are e.read b.read)

  -- a length is 1, or what some edge wants
  Comes : ℕ → ℕ → Type 0
  Comes q x = (x ≤ 1) ⊎ ((e : Edge) × In e es × (e.read ≡ q) × (x ≡ span leads e))

  pub rings_are : (q : ℕ) → q < 64 → Ring (graph es) (lead_at leads) q (get_or (sizes es leads) q 0)
  unfolding sizes Comes
  rings_are q l =
      let some : 1 ≤ get_or (sizes es leads) q 0 = omega (arith, folded_up (span leads) es (replicate 64 1) q, get_or-replicate {A = ℕ} 64 q 1 0 l) in
      record {
        least = (pos (get_or leads q 0) +ℤ pos 1) -ℤ pos (get_or (sizes es leads) q 0);
        own = omega (arith, ints);
        all = λ e m is. omega (
          arith,
          ints,
          folded_met (span leads) es (replicate 64 1) e (All-weaker Bounded (λ e. e.read < 64) (λ e b. b.read) es bounded) m,
          ap (λ (x : ℕ). get_or leads x 0) is,
          ap (λ (x : ℕ). get_or (sizes es leads) x 0) is,
          below e m,
        );
        met = elim (folded_each (span leads) Comes es (replicate 64 1) (λ e m x less _. inr (e, m, refl, refl)) (λ b. inl (ones_at 64 b)) q) [
          | inl one ↦ inl (omega (arith, ints))
          | inr (e, m, is, long) ↦ inr (e, m, is, omega (arith, ints, long, ap (λ (x : ℕ). get_or leads x 0) is, below e m))
        ];
        is = omega (arith, ints);
      }
