-- The search for an arrival of the fewest edges, one length or one start at a time. Assumes nothing.
use Rattle.std.proofs.Common.{◌≡◌, ℕ, ◌+◌, ◌-◌, ◌*◌, ◌<◌, ◌≤◌, min, true, false, List, length, get_or, Some, None, Option, sym, refl, ◌∙◌, subst, arith, MatchOption}
use native.Mathlib.Decide.{dec_lt}
use Rattle.std.specs.List.{range_with_len, AllWithin, HoldsAt}
use Rattle.std.proofs.lemmas.List.FromFn.{get_or-range_with_len, length-range_with_len}
use Rattle.walks.specs.declared.edge.Edge.{Edge}
use Rattle.search.specs.declared.row.Arrival.{Arrival}
use Rattle.search.specs.Rows.{layer, alone, reaches}
use Rattle.search.specs.Arrivals.{Aim, ring, Unreached, Reached, Missed, First, Open, Unclosed, Fewest}

-- ---- nodes
-- the first number of a range that comes up to z, as a search over the range finds it
pub found_between : (row : List (Option ℕ)) (lo hi z : ℕ) (r : Option ℕ) →
    (let all = range_with_len lo (hi - lo) in
    MatchOption r (AllWithin (λ b. reaches (get_or row b None) z ≡ false) all 0 (length all))
    (λ b. (reaches (get_or row b None) z ≡ true) × (i : ℕ) × (i < length all) × HoldsAt (λ y. y ≡ b) all i × AllWithin (λ b. reaches (get_or row b None) z ≡ false) all 0 i)) →
    MatchOption r (Unreached row lo hi z) (Reached row lo hi z)
found_between row lo hi z None none = λ b l h.
    let at : get_or (range_with_len lo (hi - lo)) (b - lo) 0 ≡ b = get_or-range_with_len lo (hi - lo) (b - lo) 0 (omega arith) ∙ omega arith in
    subst (λ x. reaches (get_or row x None) z ≡ false) at (none (b - lo) 0 (omega arith) (omega (arith, length-range_with_len lo (hi - lo))))
found_between row lo hi z (Some b) (here, i, l, is, before) =
    let e : lo + i ≡ b = sym (get_or-range_with_len lo (hi - lo) i 0 (omega (arith, length-range_with_len lo (hi - lo)))) ∙ is 0 in
    record { from = omega arith; below = omega (arith, length-range_with_len lo (hi - lo)); here = here }

-- ---- lengths
module _ (es : List Edge) (s : List (Option ℕ)) (t : Aim) where
  pub missed_less : (k m : ℕ) → m ≤ k → Missed es s t k → Missed es s t m
  missed_less k m h none j l i = none j l (omega arith)

  module _ (k : ℕ) (some : 0 < k) (none : Missed es s t (k - 1)) (row : List (Option ℕ)) (is : row ≡ layer es s k) where
    pub missed_more : Unreached row t.first t.end (64 * k + t.over) → Missed es s t k
    missed_more here j l h = elim (dec_lt j k) [
      | yes less ↦ none j l (omega arith)
      | no more ↦
          let e : k ≡ j = omega arith in
          subst (λ (x : ℕ). Unreached (layer es s x) t.first t.end (64 * x + t.over)) e
          (subst (λ (x : List (Option ℕ)). Unreached x t.first t.end (64 * k + t.over)) is here)
    ]

    pub first_at : (limit b : ℕ) (within : b < 64) (short : k ≤ 33) → k ≤ limit → Reached row t.first t.end (64 * k + t.over) b →
        First es s t limit (record { node = b; length = k; within = within; short = short })
    first_at limit b within short h here = record {
      some = some;
      within = h;
      at = subst (λ (x : List (Option ℕ)). Reached x t.first t.end (64 * k + t.over) b) is here;
      before = none;
    }

-- ---- starts
-- what holds at the row, the target and the limit of a start
pub at_start : (P : List (Option ℕ) → Aim → ℕ → Type 0) (s begins : List (Option ℕ)) (t comes : Aim) (m k : ℕ) → s ≡ begins → t ≡ comes → m ≡ k → P s t m →
    P begins comes k
at_start P s begins t comes m k p q r h = subst (P begins comes) r (subst (λ (x : Aim). P begins x m) q (subst (λ (x : List (Option ℕ)). P x t m) p h))

module _ (es : List Edge) (lo n : ℕ) where
  -- no closed walk of 1 to limit edges was met from the starts below a
  abbrev Tried : ℕ → ℕ → Type 0
  Tried a limit = (b : ℕ) → lo ≤ b → b < a → Open es (min limit (lo + n - b)) b

  -- so far, the arrival of the fewest edges from the starts below a, and one less than those
  pub record Kept (a : ℕ) (best : Option Arrival) (limit : ℕ) : Type 0 where
    pub found : MatchOption best (limit ≡ n) (λ f. (lo ≤ f.node) × (f.node < lo + n) × (limit ≡ f.length - 1) × First es (alone f.node) (ring f.node) n f)
    pub within : limit ≤ n
    pub before : Tried a limit

  pub kept_same : (a : ℕ) (best best' : Option Arrival) (limit limit' : ℕ) → best' ≡ best → limit' ≡ limit → Kept a best limit → Kept a best' limit'
  kept_same a best best' limit limit' p q k = subst (λ (x : Option Arrival). Kept a x limit') (sym p) (subst (Kept a best) (sym q) k)

  tried_more : (a limit : ℕ) → Tried a limit → Open es (min limit (lo + n - a)) a → Tried (a + 1) limit
  tried_more a limit all here b l h = elim (dec_lt b a) [
    | yes less ↦ all b l less
    | no more ↦ let e : a ≡ b = omega arith in subst (λ (x : ℕ). Open es (min limit (lo + n - x)) x) e here
  ]

  pub kept_open : (a : ℕ) (best : Option Arrival) (limit : ℕ) → Kept a best limit → Open es (min limit (lo + n - a)) a → Kept (a + 1) best limit
  kept_open a best limit k none = record { found = k.found; within = k.within; before = tried_more a limit k.before none }

  pub kept_first : (a : ℕ) (best : Option Arrival) (limit : ℕ) (f : Arrival) → lo ≤ a → a < lo + n → Kept a best limit → First es (alone a) (ring a) (min limit (lo + n - a)) f →
      Kept (a + 1) (Some f) (f.length - 1)
  kept_first a best limit f l h k first =
      let e : a ≡ f.node = omega (arith, first.at.from, first.at.below) in
      let wider : First es (alone a) (ring a) n f = record { some = first.some; within = omega (arith, first.within, k.within); at = first.at; before = first.before } in
      record {
        found = (omega arith, omega arith, refl, subst (λ (x : ℕ). First es (alone x) (ring x) n f) e wider);
        within = omega (arith, first.within, k.within);
        before = tried_more a (f.length - 1)
            (λ b m o. missed_less es (alone b) (ring b) (min limit (lo + n - b)) (min (f.length - 1) (lo + n - b)) (omega (arith, first.within)) (k.before b m o))
            (missed_less es (alone a) (ring a) (f.length - 1) (min (f.length - 1) (lo + n - a)) (omega arith) first.before);
      }

  pub kept_all : (a : ℕ) (best : Option Arrival) (limit : ℕ) → lo + n ≤ a → Kept a best limit →
      MatchOption best (Unclosed es lo n n) (Fewest es lo n)
  kept_all a None limit h k = λ b l m. subst (λ (x : ℕ). Open es (min x (lo + n - b)) b) k.found (k.before b l (omega arith))
  kept_all a (Some f) limit h k =
      let (from, below, is, first) = k.found in
      record { from = from; below = below; first = first; before = λ b l m. subst (λ (x : ℕ). Open es (min x (lo + n - b)) b) is (k.before b l (omega arith)) }
