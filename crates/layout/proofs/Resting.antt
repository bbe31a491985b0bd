-- What heights at rest say of walks: leads, and which streams rank before which. Assumes nothing.
use Rattle.std.proofs.Common.{◌≡◌, ℕ, zero, suc, ◌+◌, ◌*◌, ◌/◌, ◌%◌, ◌<◌, List, [], ◌∷◌, length, get_or, pos, ◌+ℤ◌, ◌≤ℤ◌, refl, ap, ◌∙◌, mod-lt, arith}
use native.Mathlib.Nat.{div-add-mod}
use Rattle.std.proofs.lemmas.Int.{ints}
use Rattle.walks.specs.declared.edge.Edge.{Edge}
use Rattle.walks.specs.Walks.{In, Walk, weigh, Falling, Lead, Newest}
use Rattle.walks.specs.Edges.{graph, Fits}
use Rattle.walks.proofs.Rings.{simple_walk}
use Rattle.walks.proofs.Through.{all_bounded}
use Rattle.layout.specs.Layouts.{lead_at}
use Rattle.layout.specs.Climbs.{steep, steep_graph, Low, Resting}
use Rattle.layout.specs.Sizes.{leads_of}
use Rattle.layout.proofs.Steep.{weigh_steep, to_steep, from_steep, steep_through, steep_falls}
use Rattle.layout.proofs.Climbs.{heights_length, heights_low, sound, climbed_over}

pub lead_is : (h : List ℕ) (s : ℕ) → get_or (leads_of h) s 0 ≡ get_or h s 0 / 64
lead_is [] s = refl
lead_is (x ∷ h) zero = refl
lead_is (x ∷ h) (suc s) = lead_is h s

-- a height is 64 leads and a rest below 64
pub record Split (h : List ℕ) (s : ℕ) : Type 0 where
  pub whole : get_or h s 0 ≡ 64 * get_or (leads_of h) s 0 + get_or h s 0 % 64
  pub small : get_or h s 0 % 64 < 64

pub split : (h : List ℕ) (s : ℕ) → Split h s
split h s = record { whole = omega (arith, div-add-mod (get_or h s 0) 64, lead_is h s); small = mod-lt (get_or h s 0) (omega arith) }

module _ (channels streams : ℕ) (es : List Edge) (fits : Fits channels streams es) (h : List ℕ) (rest : Resting es h) where
  long : length h ≡ 64
  long = ap length rest.made ∙ heights_length es (all_bounded channels streams es fits) rest.climbs

  over : (e : Edge) → In e es → (pos (get_or h e.reader 0) +ℤ steep e) ≤ℤ pos (get_or h e.read 0)
  over e i = omega (
    arith,
    ints,
    climbed_over es (all_bounded channels streams es fits) h long e i,
    ap (λ (x : List ℕ). get_or x e.read 0) rest.still,
  )

  -- along a walk the heights rise by no less than its steep weight
  along : (a b : ℕ) (w : List Edge) → Walk (steep_graph es) a w b → (pos (get_or h a 0) +ℤ weigh (steep_graph es) w) ≤ℤ pos (get_or h b 0)
  along a b [] p = omega (arith, ints, ap (λ (x : ℕ). get_or h x 0) p)
  along a b (e ∷ w) p = omega (arith, ints, ap (λ (x : ℕ). get_or h x 0) p.0, over e p.1, along e.read b w p.2)

  pub resting_falls : Falling (graph es)
  resting_falls a w r = omega (arith, ints, r.some, r.heavy, weigh_steep es w, along a a w (to_steep es a a w r.walk))

  pub leads_low : Low 1000000 (leads_of h)
  leads_low s = omega (
    arith,
    (split h s).whole,
    ap (λ (x : List ℕ). get_or x s 0) rest.made,
    heights_low es (all_bounded channels streams es fits) rest.climbs (omega (arith, rest.few)) s,
  )

  pub leads_are : (s : ℕ) → s < 64 → Lead (graph es) s (lead_at (leads_of h) s)
  leads_are s _ =
      let (a, w, p, q) = sound es (all_bounded channels streams es fits) rest.climbs s in
      let (u, t, more, _, short) = simple_walk (steep_graph es) channels streams (steep_through channels streams es fits) (steep_falls channels streams es fits resting_falls) a s w p in
      record {
        reached = (
          a,
          u,
          from_steep es a s u t,
          omega (
            arith,
            ints,
            fits.few_streams,
            (split h s).whole,
            (split h s).small,
            ap (λ (x : List ℕ). get_or x s 0) rest.made,
            weigh_steep es u,
            along a s u t,
          ),
        );
        most = λ b v z. omega (arith, ints, (split h s).whole, (split h s).small, weigh_steep es v, along b s v (to_steep es b s v z));
      }

  -- what is read at its newest index has the greater rest
  pub ranks_before : (e : Edge) → In e es → Newest (graph es) (lead_at (leads_of h)) e → get_or h e.reader 0 % 64 < get_or h e.read 0 % 64
  ranks_before e i newest = omega (arith, ints, newest, over e i, (split h e.reader).whole, (split h e.read).whole)
