use Rattle.std.proofs.Common.{ℕ, IsSome, Some, None, MatchOption, Option, pos, refl, ap, arith, rules}
use Rattle.std.proofs.lemmas.Int.{ints}
use Rattle.schedule.proofs.walking.weigh_walks.Goals as goal

some_of : (o : Option ℕ) (P : Type 0) (Q : ℕ → Type 0) → MatchOption o P Q → ¬ P → IsSome o
some_of None P Q m never = absurd (never m)
some_of (Some k) P Q m never = refl

pub unwrap-references-requires-then-channel_leads : goal.unwrap-references-requires-then-channel_leads
unwrap-references-requires-then-channel_leads c =
    let (b, l, leads) = c.if-channel_leads.ensures in
    let (a, w, p, q) = (c.in-Some.ensures.leads b (omega (arith, c.args.graph.now.fits.few_channels))).reached in
    some_of c.find_channel_walk.result _ _ c.find_channel_walk.ensures.found (λ held. omega (arith, ints, q, held.0 a b w l p))

pub returns-clause-weighed : goal.returns-clause-weighed
returns-clause-weighed c = (
  search rules,
  c.in-Some.ensures,
  λ a b w l p. omega (arith, ints, (c.in-Some.ensures.leads b (omega (arith, c.args.graph.now.fits.few_channels, l))).most a w p, ap pos (c.if-channel_leads.ensures b l)),
)
