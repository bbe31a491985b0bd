-- A walk that comes twice to one node holds a closed walk; without it, it is shorter. Assumes nothing.
use Rattle.std.proofs.Common.{◌≡◌, ℕ, zero, suc, ◌+◌, ◌-◌, ◌<◌, ◌≤◌, List, [], ◌∷◌, ◌++◌, length, pos, ◌+ℤ◌, ◌≤ℤ◌, sym, ap, ◌∙◌, subst, inl, inr, arith, length-append}
use Rattle.std.proofs.lemmas.Int.{ints, by_lt_z}
use Rattle.walks.specs.Walks.{Graph, In, Walk, weigh, at, Apart, Rising, Falling}
use Rattle.walks.proofs.Count.{apart?, apart_short}
use Rattle.walks.proofs.Cut.{walk_append, weigh_append, Cut, cut, Last, last}

module _ {R : Type 0} (G : Graph R ℕ) where
  -- a closed walk taken out of a walk
  pub record Loop (a : ℕ) (w : List R) (b i j : ℕ) : Type 0 where
    pub rest : List R
    pub base : ℕ
    pub ring : List R
    pub rest_walk : Walk G a rest b
    pub ring_walk : Walk G base ring base
    pub ring_long : length ring + i ≡ j
    pub long : length rest + length ring ≡ length w
    pub heavy : weigh G w ≡ weigh G rest +ℤ weigh G ring

  pub loop : (a : ℕ) (w : List R) (b i j : ℕ) → Walk G a w b → i < j → j ≤ length w → at G a w i ≡ at G a w j → Loop a w b i j
  loop a w b i j p l h e =
      let c : Cut G a w b i = cut G a w b i (omega arith) p in
      let lw : length w ≡ length c.front + length c.back = ap length c.whole ∙ length-append c.front c.back in
      let d : Cut G (at G a w i) c.back b (j - i) = cut G (at G a w i) c.back b (j - i) (omega (arith, c.long)) c.then in
      let lb : length c.back ≡ length d.front + length d.back = ap length d.whole ∙ length-append d.front d.back in
      let same : at G (at G a w i) c.back (j - i) ≡ at G a w i = c.later (j - i) ∙ ap (at G a w) (omega arith) ∙ sym e in
      let ww : weigh G w ≡ weigh G c.front +ℤ weigh G c.back = ap (weigh G) c.whole ∙ weigh_append G c.front c.back in
      let wb : weigh G c.back ≡ weigh G d.front +ℤ weigh G d.back = ap (weigh G) d.whole ∙ weigh_append G d.front d.back in
      record {
        rest = c.front ++ d.back;
        base = at G a w i;
        ring = d.front;
        rest_walk = walk_append G a (at G a w i) b c.front d.back c.first (subst (λ (x : ℕ). Walk G x d.back b) same d.then);
        ring_walk = subst (λ (x : ℕ). Walk G (at G a w i) d.front x) same d.first;
        ring_long = omega (arith, d.long);
        long = omega (arith, length-append c.front d.back, c.long, d.long);
        heavy = omega (arith, ints, weigh_append G c.front d.back);
      }

  -- a node that is read and reads too lies from lo on below lo + n
  abbrev pub Through : ℕ → ℕ → Type 0
  Through lo n = (r s : R) → In r G.references → In s G.references → G.read r ≡ G.reader s → (lo ≤ G.read r) × (G.read r < lo + n)

  module _ (lo n : ℕ) (through : Through lo n) where
    -- what a walk comes to between its ends
    inner : (a b : ℕ) (u : List R) → Walk G a u b → (i : ℕ) → suc i < length u → (lo ≤ at G a u (suc i)) × (at G a u (suc i) < lo + n)
    inner a b [] p i h = absurd (omega arith)
    inner a b (r ∷ []) p i h = absurd (omega arith)
    inner a b (r ∷ s ∷ u) p zero h = through r s p.1 p.2.1 p.2.0
    inner a b (r ∷ s ∷ u) p (suc i) h = inner (G.read r) b (s ∷ u) p.2 i (omega arith)

    -- what a closed walk comes to
    pub on_ring : (a : ℕ) (u : List R) → Walk G a u a → (i : ℕ) → i < length u → (lo ≤ at G a u i) × (at G a u i < lo + n)
    on_ring a [] p i h = absurd (omega arith)
    on_ring a (r ∷ u) p zero h =
        let l : Last G a (r ∷ u) a = last G a r u a p in
        subst (λ (x : ℕ). (lo ≤ x) × (x < lo + n)) l.ends (through l.ref r l.listed p.1 (l.ends ∙ p.0))
    on_ring a (r ∷ u) p (suc i) h = inner a a (r ∷ u) p i h

    ring_within : (k : ℕ) (a : ℕ) (w : List R) → length w ≤ k → Rising G a w →
        (b : ℕ) × (u : List R) × Rising G b u × Apart (at G b u) (length u) × (length u ≤ n)
    ring_within zero a w h r = absurd (omega (arith, r.some))
    ring_within (suc k) a w h r = elim (apart? (at G a w) (length w)) [
      | inr apart ↦ (a, w, r, apart, apart_short (at G a w) lo n (length w) (on_ring a w r.walk) apart)
      | inl (i, j, l, m, e) ↦
          let o : Loop a w a i j = loop a w a i j r.walk l (omega arith) e in
          by_lt_z (weigh G o.ring) (pos 0)
          (λ light. ring_within k a o.rest (omega (arith, o.long, o.ring_long)) (record {
            walk = o.rest_walk;
            some = omega (arith, o.long, o.ring_long);
            heavy = omega (arith, ints, r.heavy, o.heavy);
          }))
          (λ heavy. ring_within k o.base o.ring (omega (arith, o.ring_long)) (record {
            walk = o.ring_walk;
            some = omega (arith, o.ring_long);
            heavy = heavy;
          }))
    ]

    -- no lighter, no node twice
    abbrev pub Better : ℕ → ℕ → List R → Type 0
    Better a b w = (u : List R) × Walk G a u b × (weigh G w ≤ℤ weigh G u) × Apart (at G a u) (suc (length u)) × (length u ≤ suc n)

    walk_within : Falling G → (k : ℕ) (a b : ℕ) (w : List R) → length w < k → Walk G a w b → Better a b w
    walk_within falls zero a b w h p = absurd (omega arith)
    walk_within falls (suc k) a b w h p = elim (apart? (at G a w) (suc (length w))) [
      | inr apart ↦ (
        w,
        p,
        omega (arith, ints),
        apart,
        (let m : length w - 1 ≤ n = apart_short (λ i. at G a w (suc i)) lo n (length w - 1) (λ i h. inner a b w p i (omega arith))
            (λ i j l h e. apart (suc i) (suc j) (omega arith) (omega arith) e) in
            omega arith),
      )
      | inl (i, j, ij, m, e) ↦
          let o : Loop a w b i j = loop a w b i j p ij (omega arith) e in
          by_lt_z (weigh G o.ring) (pos 0)
          (λ light.
          let r : Better a b o.rest = walk_within falls k a b o.rest (omega (arith, o.long, o.ring_long)) o.rest_walk in
          (r.0, r.1, omega (arith, ints, r.2, o.heavy), r.3, r.4))
          (λ heavy. absurd (falls o.base o.ring (record { walk = o.ring_walk; some = omega (arith, o.ring_long); heavy = heavy })))
    ]

    -- where every closed walk falls, a walk that comes nowhere twice weighs no less
    pub simple_walk : Falling G → (a b : ℕ) (w : List R) → Walk G a w b → Better a b w
    simple_walk falls a b w p = walk_within falls (suc (length w)) a b w (omega arith) p

    pub simple_ring : (a : ℕ) (w : List R) → Rising G a w → (b : ℕ) × (u : List R) × Rising G b u × Apart (at G b u) (length u) × (length u ≤ n)
    simple_ring a w r = ring_within (length w) a w (omega arith) r

  -- of the fewest references, a closed walk comes to no node twice
  pub fewest_apart : (a : ℕ) (w : List R) → Rising G a w → ((b : ℕ) (u : List R) → Rising G b u → length w ≤ length u) → Apart (at G a w) (length w)
  fewest_apart a w r few i j l h e =
      let o : Loop a w a i j = loop a w a i j r.walk l (omega arith) e in
      by_lt_z (weigh G o.ring) (pos 0)
      (λ light. omega (
        arith,
        o.long,
        o.ring_long,
        few a o.rest (record {
          walk = o.rest_walk;
          some = omega (arith, o.long, o.ring_long);
          heavy = omega (arith, ints, r.heavy, o.heavy);
        }),
      ))
      (λ heavy. omega (arith, o.ring_long, few o.base o.ring (record { walk = o.ring_walk; some = omega (arith, o.ring_long); heavy = heavy })))
