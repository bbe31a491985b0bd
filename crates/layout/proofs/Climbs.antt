-- The heights after a number of climbs, and the walks that they weigh. Assumes nothing.
use Rattle.std.proofs.Common.{◌≡◌, ℕ, zero, suc, ◌+◌, ◌*◌, ◌<◌, ◌≤◌, List, [], ◌∷◌, ◌++◌, length, get_or, replicate, pos, ◌+ℤ◌, ◌≤ℤ◌, fold, sym, refl, ap, ◌∙◌, arith}
use Rattle.std.specs.List.{AllByRecursion}
use Rattle.std.proofs.ByRecursion.{All-weaker}
use Rattle.std.proofs.lemmas.List.{ext_get_or}
use Rattle.std.proofs.lemmas.Int.{ints}
use Rattle.walks.specs.declared.edge.Edge.{Edge}
use Rattle.walks.specs.Walks.{In, Walk, weigh, Falling}
use Rattle.walks.specs.Edges.{graph, Fits, Bounded}
use Rattle.walks.proofs.Cut.{all_in, walk_append, weigh_append, Last, last}
use Rattle.walks.proofs.Rings.{simple_walk}
use Rattle.walks.proofs.Through.{all_bounded}
use Rattle.layout.specs.Climbs.{steep, steep_graph, Low, height_over, topped, climbed, heights}
use Rattle.layout.proofs.Tops.{folded_length, folded_each, folded_up, folded_met}
use Rattle.layout.proofs.Steep.{steep_through, steep_falls}

pub zeros_at : (n b : ℕ) → ◌≡◌ {A = ℕ} (get_or (replicate n 0) b 0) 0
zeros_at zero b = refl
zeros_at (suc n) zero = refl
zeros_at (suc n) (suc b) = zeros_at n b

-- one climb goes at most 4033 up, which is the greatest steep weight
pub folded_low : (es : List Edge) → AllByRecursion Bounded es → (b : ℕ) (from : List ℕ) → Low b from → Low (b + 4033) (fold (topped (height_over from)) from es)
folded_low es bounded b from low s =
    folded_each (height_over from) (λ c x. x ≤ b + 4033) es from (λ e i x l h. omega (arith, (all_in Bounded es e bounded i).drop, low e.reader)) (λ c. omega (arith, low c)) s

pub zeros_low : Low 900000 (replicate 64 0)
zeros_low s = omega (arith, zeros_at 64 s)

pub heights_more : (es : List Edge) (k : ℕ) → heights es (k + 1) ≡ climbed es (heights es k)
unfolding heights
heights_more es k = let more : k + 1 ≡ suc k = omega arith in ap (heights es) more

module _ (es : List Edge) (bounded : AllByRecursion Bounded es) where
  pub heights_length : (m : ℕ) → length (heights es m) ≡ 64
  unfolding heights climbed
  heights_length zero = refl
  heights_length (suc m) = folded_length (height_over (heights es m)) es (heights es m) ∙ heights_length m

  heights_under : (m : ℕ) → Low (4033 * m) (heights es m)
  unfolding heights climbed
  heights_under zero s = omega (arith, zeros_at 64 s)
  heights_under (suc m) s = omega (arith, folded_low es bounded (4033 * m) (heights es m) (heights_under m) s)

  pub heights_low : (m : ℕ) → m ≤ 34 → Low 900000 (heights es m)
  heights_low m h s = omega (arith, heights_under m s)

  -- some walk that ends in s has the steep weight z
  abbrev Ends : ℕ → ℕ → Type 0
  Ends s z = (a : ℕ) × (w : List Edge) × Walk (steep_graph es) a w s × (weigh (steep_graph es) w ≡ pos z)

  -- each height is the steep weight of some walk
  pub sound : (m s : ℕ) → Ends s (get_or (heights es m) s 0)
  unfolding heights climbed
  sound zero s = (s, [], refl, ap pos (sym (zeros_at 64 s)))
  sound (suc m) s = folded_each (height_over (heights es m)) Ends es (heights es m) (λ e i x l _. longer e i x l (sound m e.reader)) (sound m) s
    where
      longer : (e : Edge) → In e es → (x : ℕ) → x < height_over (heights es m) e → Ends e.reader (get_or (heights es m) e.reader 0) → Ends e.read (height_over (heights es m) e)
      longer e i x l p = (
        p.0,
        p.1 ++ (e ∷ []),
        walk_append (steep_graph es) p.0 e.reader e.read p.1 (e ∷ []) p.2 (refl, i, refl),
        omega (arith, ints, weigh_append (steep_graph es) p.1 (e ∷ []), p.3),
      )

  -- a climb lifts what an edge reads by the edge's steep weight
  pub climbed_over : (h : List ℕ) → length h ≡ 64 → (e : Edge) → In e es → (pos (get_or h e.reader 0) +ℤ steep e) ≤ℤ pos (get_or (climbed es h) e.read 0)
  unfolding climbed
  climbed_over h long e i = omega (
    arith,
    ints,
    folded_met (height_over h) es h e (All-weaker Bounded (λ e. e.read < length h) (λ e b. omega (arith, b.read)) es bounded) i,
  )

  -- after m climbs no walk of up to m edges weighs more
  pub covers : (m a s : ℕ) (w : List Edge) → Walk (steep_graph es) a w s → length w ≤ m → weigh (steep_graph es) w ≤ℤ pos (get_or (heights es m) s 0)
  unfolding heights
  covers m a s [] p h = omega (arith, ints)
  covers zero a s (e ∷ w) p h = absurd (omega arith)
  covers (suc m) a s (e ∷ w) p h =
      let l : Last (steep_graph es) a (e ∷ w) s = last (steep_graph es) a e w s p in
      omega (
        arith,
        ints,
        l.heavy,
        covers m a l.ref.reader l.before l.walk (omega (arith, l.long)),
        climbed_over (heights es m) (heights_length m) l.ref l.listed,
        ap (λ (x : ℕ). get_or (climbed es (heights es m)) x 0) l.ends,
      )

-- where every closed walk falls, 33 climbs take all walks up, and the next changes nothing
pub at_rest : (channels streams : ℕ) (es : List Edge) → Fits channels streams es → Falling (graph es) → climbed es (heights es 33) ≡ heights es 33
unfolding heights climbed
at_rest channels streams es fits falls = ext_get_or 0 (heights es 34) (heights es 33) (heights_length es bounded 34 ∙ sym (heights_length es bounded 33)) (λ s _.
    let (a, w, p, q) = sound es bounded 34 s in
    let (u, t, more, _, short) = simple_walk (steep_graph es) channels streams (steep_through channels streams es fits) (steep_falls channels streams es fits falls) a s w p in
    omega (
      arith,
      ints,
      fits.few_streams,
      covers es bounded 33 a s u t (omega (arith, fits.few_streams)),
      folded_up (height_over (heights es 33)) es (heights es 33) s,
    ))
  where
    bounded : AllByRecursion Bounded es
    bounded = all_bounded channels streams es fits
