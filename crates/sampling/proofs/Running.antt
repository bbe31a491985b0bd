-- Latches of a hold, one after another. Assumes nothing.
use Rattle.std.proofs.Common.{arith, length, ◌≡◌, ℕ, zero, suc, ◌+◌, ◌<◌, ◌&&◌, cond, List, [], ◌∷◌, ◌++◌, All, take, drop, None, Option, sym, refl, ap, ◌∙◌, subst}
use Rattle.std.proofs.lemmas.Bool.{lt-ltb}
use Rattle.std.proofs.lemmas.List.{length-append}
use Rattle.std.proofs.lemmas.List.Elements.{All-nil, All-cons, All-head, All-tail}
use Rattle.values.specs.declared.value.Value.{Value}
use Rattle.sampling.specs.declared.channel.ChannelRecord.{ChannelRecord}
use Rattle.sampling.specs.declared.hold.Hold.{Hold}
use Rattle.sampling.specs.declared.sampler.Sampler.{Ghosts as Sampler}
use Rattle.sampling.specs.declared.watch.Sighting.{Sighting}
use Rattle.sampling.specs.Holds.{after, record_at}
use Rattle.sampling.specs.Moves.{Moved, with_below}
use Rattle.sampling.specs.Watching.{Series, part, shown_for, Carries, Bridging, Latch, LeftAlone, rows_shown, rows_below, GoesThrough, Run, HoldsBridge, RefusalsKeep, seen_below, seen_shown, BridgedBy, Latched, Watched}
use Rattle.sampling.proofs.Bridging.{shows, over_run, plain}

-- a part of a run is a run from some record on
later : (b : ℕ) (i : ℕ) (r : ChannelRecord) (os : List (Option Value)) → (s : ChannelRecord) × (drop i (shows b r os) ≡ shows b s (drop i os))
later b zero r os = (r, refl)
later b (suc i) r [] = (r, refl)
later b (suc i) r (o ∷ os) = later b i (after b r o) os

front : (b : ℕ) (n : ℕ) (r : ChannelRecord) (os : List (Option Value)) → take n (shows b r os) ≡ shows b r (take n os)
front b zero r os = refl
front b (suc n) r [] = refl
front b (suc n) r (o ∷ os) = ap (λ t. (after b r o).last ∷ t) (front b n (after b r o) os)

-- what bridges any part bridges a value and what is dark after it
bridging : (b : ℕ) (below shown : Series) → Carries b below shown → Bridging b below shown
bridging b below shown c =
    let z : b + 0 ≡ b = omega arith in
    record {
      dark = λ k i m v inside e. c k i m 0 v inside (e ∙ plain v m) ∙ ap (λ n. shown_for n v m) z;
      carries = c;
    }

module _ {S : Type 0} (s : Sampler S) where
  module _ (k : ℕ) (inside : k < 16) where
    -- what a latch makes of the channel's record
    taken : (h : Hold S) (i j : Hold S) → i ≡ with_below h i.below → Moved s i j
        → record_at j.channels k ≡ after h.bridges (record_at h.channels k) ((s.meaning j.below).present k)
    taken h i j own m = m.channels k inside ∙ (λ x. after (own x).bridges (record_at (own x).channels k) ((s.meaning j.below).present k))

    pub seen : (h : Hold S) (ls : List (Latch S)) → LeftAlone h ls → All (GoesThrough s) ls
        → rows_shown ls k ≡ shows h.bridges (record_at h.channels k) (rows_below s ls k)
    seen h [] left all = refl
    seen h (l ∷ ls) left all =
        let m : Moved s l.old l.new = All-head (GoesThrough s) l ls all in
        let own = left.0 in
        let t = taken h l.old l.new own m in
        let rest = seen l.new ls left.1 (All-tail (GoesThrough s) l ls all) in
        (λ x. cond (m.latched x && lt-ltb k 16 inside x) (t x).last None ∷ (rest ∙ (λ y. shows ((m.bridges ∙ ap (λ (j : Hold S). j.bridges) own) y) (t y) (rows_below s ls k))) x)

  pub bridges : HoldsBridge s
  bridges h ls run = bridging h.bridges (rows_below s ls) (rows_shown ls) carries where
    carries : Carries h.bridges (rows_below s ls) (rows_shown ls)
    carries k n m q v inside e =
        let b = h.bridges in
        let r = record_at h.channels k in
        let xs = rows_below s ls k in
        let t = later b n r xs in
        ap (part n m) (seen k inside h ls run.0 run.1) ∙ ap (take (m + 1)) t.1 ∙ front b (m + 1) t.0 (drop n xs) ∙ ap (shows b t.0) e ∙ over_run b v t.0 q m

  pub refusals_keep : RefusalsKeep s
  refusals_keep same h i rested = rested.own ∙ ap (with_below h) (same h.below i.below rested.below)

  -- ---- what is seen of a run
  -- a run of which this was seen
  pub record SeenOf (h : Hold S) (ws : List Sighting) : Type 0 where
    pub latches : List (Latch S)
    pub runs : Run s h latches
    pub below : (k : ℕ) → rows_below s latches k ≡ seen_below ws k
    pub shown : (k : ℕ) → rows_shown latches k ≡ seen_shown ws k

  run_of : (h i : Hold S) (ws : List Sighting) → Watched s h ws i → SeenOf h ws
  run_of h i [] e = record { latches = []; runs = (tt, All-nil (GoesThrough s)); below = λ k. refl; shown = λ k. refl }
  run_of h i (w ∷ ws) p =
      let j = p.0 in
      let l = p.1 in
      let rest = run_of j i ws p.2 in
      let first : Latch S = record { old = h; new = j } in
      record {
        latches = first ∷ rest.latches;
        runs = ((refl, rest.runs.0), All-cons (GoesThrough s) first rest.latches l.moved rest.runs.1);
        below = λ k x. sym (l.below k) x ∷ rest.below k x;
        shown = λ k x. sym (l.shown k) x ∷ rest.shown k x;
      }

  pub bridged : (h i : Hold S) (ws : List Sighting) → Watched s h ws i → BridgedBy h ws
  bridged h i ws p =
      let r = run_of h i ws p in
      let b = bridges h r.latches r.runs in
      subst (λ (shown : Series). Bridging h.bridges (seen_below ws) shown) (λ x k. r.shown k x)
      (subst (λ (below : Series). Bridging h.bridges below (rows_shown r.latches)) (λ x k. r.below k x) b)

  watched_more : (h i j : Hold S) (ws : List Sighting) (w : Sighting) → Watched s h ws i → Latched s i w j → Watched s h (ws ++ (w ∷ [])) j
  watched_more h i j [] w e l = (j, subst (λ (x : Hold S). Latched s x w j) e l, refl)
  watched_more h i j (x ∷ ws) w p l = (p.0, p.1, watched_more p.0 i j ws w p.2 l)

  -- the same, and their count, of a list that is one longer
  pub watched_push : (h i j : Hold S) (ws vs : List Sighting) (w : Sighting) (n : ℕ) → vs ≡ ws ++ (w ∷ []) → Watched s h ws i × (length ws ≡ n) → Latched s i w j → Watched s h vs j × (length vs ≡ n + 1)
  watched_push h i j ws vs w n e p l =
      (subst (λ xs. Watched s h xs j) (sym e) (watched_more h i j ws w p.0 l), ap length e ∙ omega (arith, length-append ws (w ∷ []), p.1))
