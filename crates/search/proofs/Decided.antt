-- What the searches find is such a walk as is looked for, and where they find none there is none. Assumes nothing.
use Rattle.std.proofs.Common.{◌≡◌, ℕ, zero, suc, ◌+◌, ◌-◌, ◌*◌, ◌<◌, ◌≤◌, min, true, List, [], ◌∷◌, length, get_or, pos, ◌≤ℤ◌, Some, None, Option, sym, ◌∙◌, subst, arith}
use native.Mathlib.Decide.{dec_lt}
use Rattle.std.proofs.lemmas.List.{get_or-set_same, get_or-replicate}
use Rattle.std.proofs.lemmas.Int.{ints, by_lt_z}
use Rattle.walks.specs.declared.edge.Edge.{Edge}
use Rattle.walks.specs.declared.edge.SheetEntry.{SheetEntry}
use Rattle.walks.specs.Walks.{Walk, weigh, Rising, Falling, Settled, TellsClosed, TellsAhead}
use Rattle.walks.specs.Edges.{graph, told, Fits, Channel}
use Rattle.walks.proofs.Rings.{Loop, loop, on_ring, simple_walk, simple_ring, fewest_apart}
use Rattle.walks.proofs.Through.{fit_in, through, all_bounded}
use Rattle.search.specs.declared.row.Arrival.{Arrival}
use Rattle.search.specs.Rows.{nothing, alone, everywhere, layer}
use Rattle.search.specs.Arrivals.{outside, arrives, Missed, First, Open, Unclosed, Fewest}
use Rattle.search.specs.Listings.{Listed}
use Rattle.search.proofs.Rows.{clash, reaches_out}
use Rattle.search.proofs.Layers.{alone_begins, shows}
use Rattle.walks.proofs.Lowest.{lowest}

-- what arrives by the rows is as heavy as it is told
heavy_listed : (es : List Edge) (s : List (Option ℕ)) (f : Arrival) (over : ℕ) (old new : List SheetEntry) → arrives es s over f.node f.length ≡ true →
    (l : Listed es s f old new) → pos over ≤ℤ weigh (graph es) l.walk
heavy_listed es s f over old new e l =
    let (z, here, up) = reaches_out (get_or (layer es s f.length) f.node None) (64 * f.length + over) e in
    let shown : Some z ≡ Some l.whole = sym here ∙ l.shown in
    let same : z ≡ l.whole = cc in
    omega (arith, ints, l.heavy)

module _ (channels streams : ℕ) (es : List Edge) (fits : Fits channels streams es) where
  -- ---- closed walks
  starts : (a : ℕ) (w : List Edge) → Rising (graph es) a w → (channels ≤ a) × (a < channels + streams)
  starts a w r = on_ring (graph es) channels streams (through channels streams es fits) a w r.walk 0 r.some

  -- a closed walk that weighs 0 or more shows in the rows from its start
  caught : {P : Type 0} (a limit : ℕ) (w : List Edge) → Rising (graph es) a w → length w ≤ limit → Open es limit a → P
  caught a limit w r h none =
      clash (arrives es (alone a) 0 a (length w))
      (shows es (all_bounded channels streams es fits) (alone a) a a 0 w (get_or-set_same nothing a (Some 0) None (omega (arith, starts a w r, fits.few_channels, fits.few_streams))) r.walk r.heavy)
      (none (length w) r.some h a (omega arith) (omega arith))

  -- one of the fewest edges shows from the first of its streams
  unclosed : (limit : ℕ) → Unclosed es channels streams limit → (k : ℕ) → k ≤ limit → (a : ℕ) (w : List Edge) → Rising (graph es) a w → ¬ (length w ≤ k)
  unclosed limit none zero h a w r l = omega (arith, r.some)
  unclosed limit none (suc k) h a w r l =
      let fewer : (b : ℕ) (u : List Edge) → Rising (graph es) b u → length w ≤ length u = λ b u q.
      elim (dec_lt k (length u)) [ yes more ↦ omega arith | no less ↦ absurd (unclosed limit none k (omega arith) b u q (omega arith)) ] in
      let (m, v, q, long, short) = lowest (graph es) channels streams (through channels streams es fits) a w r (fewest_apart (graph es) a w r fewer) in
      let (from, below) = starts m v q in
      caught m (min limit (channels + streams - m)) v q (omega arith) (none m from below)

  pub none_falls : Unclosed es channels streams streams → Falling (graph es)
  none_falls none a w r =
      let (b, u, q, _, short) = simple_ring (graph es) channels streams (through channels streams es fits) a w r in
      unclosed streams none streams (omega arith) b u q short

  pub fewest_told : (f : Arrival) (old new : List SheetEntry) → Fewest es channels streams f → Listed es (alone f.node) f old new →
      TellsClosed (graph es) told old new f.length
  fewest_told f old new few l =
      let same : f.node ≡ l.start = alone_begins f.node l.start 0 l.begins in
      let r : Rising (graph es) f.node l.walk = record {
        walk = subst (λ (x : ℕ). Walk (graph es) x l.walk f.node) (sym same) l.goes;
        some = omega (arith, l.long, few.first.some);
        heavy = heavy_listed es (alone f.node) f 0 old new few.first.at.here l;
      } in
      let least : (b : ℕ) (u : List Edge) → Rising (graph es) b u → length l.walk ≤ length u = λ b u q.
      elim (dec_lt (length u) f.length) [
        | yes less ↦ absurd (unclosed (f.length - 1) few.before (f.length - 1) (omega arith) b u q (omega arith))
        | no more ↦ omega (arith, l.long)
      ] in
      record {
        start = f.node;
        walk = l.walk;
        rising = r;
        apart = fewest_apart (graph es) f.node l.walk r least;
        long = l.long;
        listed = l.listed;
      }

  -- ---- walks to channels
  -- a walk to a channel that weighs more than 0 shows in the rows from everywhere
  passed : {P : Type 0} (a b limit : ℕ) (w : List Edge) → b < channels → Walk (graph es) a w b → pos 1 ≤ℤ weigh (graph es) w → length w ≤ limit →
      Missed es everywhere (outside channels) limit → P
  passed a b limit [] c p heavy h none = absurd (omega (arith, ints))
  passed a b limit (r ∷ w) c p heavy h none =
      clash (arrives es everywhere 1 b (length (r ∷ w)))
      (shows es (all_bounded channels streams es fits) everywhere a b 1 (r ∷ w)
      (get_or-replicate 64 a (Some 0) None (omega (arith, p.0, (fit_in channels streams es fits r p.1).reader))) p heavy)
      (none (length (r ∷ w)) (omega arith) h b (omega arith) c)

  module _ (falls : Falling (graph es)) where
    pub missed_settled : Missed es everywhere (outside channels) (streams + 1) → Settled (graph es) (Channel channels)
    missed_settled none a b w c p = by_lt_z (pos 0) (weigh (graph es) w)
        (λ heavy.
        let (u, q, more, _, short) = simple_walk (graph es) channels streams (through channels streams es fits) falls a b w p in
        passed a b (streams + 1) u c q (omega (arith, ints)) (omega arith) none)
        (λ light. light)

    pub first_told : (f : Arrival) (limit : ℕ) (old new : List SheetEntry) → First es everywhere (outside channels) limit f → Listed es everywhere f old new →
        TellsAhead (graph es) (Channel channels) told old new f.length
    first_told f limit old new first l =
        let heavy : pos 1 ≤ℤ weigh (graph es) l.walk = heavy_listed es everywhere f 1 old new first.at.here l in
        record {
          start = l.start;
          end = f.node;
          walk = l.walk;
          goes = l.goes;
          channel = first.at.below;
          heavy = heavy;
          apart = λ i j less within e.
              let o : Loop (graph es) l.start l.walk f.node i j = loop (graph es) l.start l.walk f.node i j l.goes less (omega arith) e in
              by_lt_z (weigh (graph es) o.ring) (pos 0)
              (λ light. passed l.start f.node (f.length - 1) o.rest first.at.below o.rest_walk (omega (arith, ints, o.heavy))
              (omega (arith, o.long, o.ring_long, l.long)) first.before)
              (λ up. falls o.base o.ring (record { walk = o.ring_walk; some = omega (arith, o.ring_long); heavy = up }));
          long = l.long;
          listed = l.listed;
        }
