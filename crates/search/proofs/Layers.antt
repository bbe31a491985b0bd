-- What the rows of walks of k edges say of walks. Assumes nothing.
use Rattle.std.proofs.Common.{◌≡◌, ℕ, zero, suc, ◌+◌, ◌-◌, ◌*◌, ◌<◌, ◌≤◌, true, List, [], ◌∷◌, ◌++◌, length, get_or, set, pos, ◌+ℤ◌, ◌≤ℤ◌, Some, None, Option, sym, refl, ap, ◌∙◌, subst, inl, inr, arith}
use native.Mathlib.Decide.{ℕ_discrete}
use Rattle.std.specs.List.{AllByRecursion}
use Rattle.std.proofs.ByRecursion.{All-set, All-weaker}
use Rattle.std.proofs.lemmas.List.{get_or-set_same, get_or-set_other, get_or_append_left}
use Rattle.std.proofs.lemmas.Int.{ints}
use Rattle.walks.specs.declared.edge.Edge.{Edge}
use Rattle.walks.specs.Walks.{Walk, weigh}
use Rattle.walks.specs.Edges.{graph, Bounded}
use Rattle.walks.proofs.Cut.{all_in, Last, last}
use Rattle.search.specs.Rows.{lift, Low, reaches, nothing, alone, stepped, layer}
use Rattle.search.specs.Arrivals.{arrives}
use Rattle.search.specs.Listings.{Layers}
use Rattle.search.proofs.Rows.{none_some, set_some, reaches_less}
use Rattle.search.proofs.Steps.{none_in, low_nothing, stepped_serves, stepped_low}

-- ---- the rows with no edge
pub low_alone : (a : ℕ) → AllByRecursion (Low 0) (alone a)
low_alone a = All-set (Low 0) nothing a (Some 0) (omega arith) (low_nothing 64 0)

pub alone_begins : (a b y : ℕ) → get_or (alone a) b None ≡ Some y → a ≡ b
alone_begins a b y e = elim (set_some nothing a b y (Some 0) e) [
  | inl k ↦ none_some (get_or nothing b None) y (none_in 64 b) k
  | inr (s, k) ↦ s
]

pub layer_more : (es : List Edge) (s : List (Option ℕ)) (k : ℕ) → layer es s (k + 1) ≡ stepped es (layer es s k)
unfolding layer
layer_more es s k = ap (layer es s) (let e : k + 1 ≡ suc k = omega arith in e)

-- a row that the last one is stepped to
pub row_more : (es : List Edge) (s : List (Option ℕ)) (k : ℕ) (row next : List (Option ℕ)) → row ≡ layer es s k → next ≡ stepped es row → next ≡ layer es s (k + 1)
row_more es s k row next e n = n ∙ ap (stepped es) e ∙ sym (layer_more es s k)

pub row_next : (es : List Edge) (s : List (Option ℕ)) (k : ℕ) (row next : List (Option ℕ)) → 0 < k → row ≡ layer es s (k - 1) → next ≡ stepped es row → next ≡ layer es s k
row_next es s k row next some e n = row_more es s (k - 1) row next e n ∙ ap (layer es s) (omega arith)

module _ (es : List Edge) (small : AllByRecursion Bounded es) (s : List (Option ℕ)) where
  layer_low_by : AllByRecursion (Low 0) s → (k : ℕ) → AllByRecursion (Low (127 * k)) (layer es s k)
  unfolding layer
  layer_low_by low zero = low
  layer_low_by low (suc k) =
      let e : 127 * k + 127 ≡ 127 * suc k = omega arith in
      subst (λ (b : ℕ). AllByRecursion (Low b) (stepped es (layer es s k))) e (stepped_low es (layer es s k) small (127 * k) (layer_low_by low k))

  pub layer_low : AllByRecursion (Low 0) s → (k : ℕ) → k ≤ 33 → AllByRecursion (Low 8192) (layer es s k)
  layer_low low k h = All-weaker (Low (127 * k)) (Low 8192) wider (layer es s k) (layer_low_by low k)
    where
      wider : (o : Option ℕ) → Low (127 * k) o → Low 8192 o
      wider None p = tt
      wider (Some x) p = omega arith

  -- a walk of k edges shows in the row
  complete : (a : ℕ) → get_or s a None ≡ Some 0 → (k b : ℕ) (w : List Edge) → length w ≡ k → Walk (graph es) a w b →
      (z : ℕ) × (pos z ≡ weigh (graph es) w +ℤ pos (64 * k)) × (reaches (get_or (layer es s k) b None) z ≡ true)
  unfolding layer
  complete a e zero b [] l p =
      (0, omega (arith, ints), ap (λ (x : ℕ). reaches (get_or s x None) 0) (sym p) ∙ ap (λ (o : Option ℕ). reaches o 0) e)
  complete a e zero b (r ∷ w) l p = absurd (omega arith)
  complete a e (suc k) b [] l p = absurd (omega arith)
  complete a e (suc k) b (r ∷ w) l p =
      let t : Last (graph es) a (r ∷ w) b = last (graph es) a r w b p in
      let (z, is, shows) = complete a e k t.ref.reader t.before (omega (arith, t.long)) t.walk in
      let f : Bounded t.ref = all_in Bounded es t.ref small t.listed in (
        z + lift t.ref,
        omega (arith, ints, t.heavy, f.opening),
        ap (λ (x : ℕ). reaches (get_or (stepped es (layer es s k)) x None) (z + lift t.ref)) (sym t.ends) ∙
            stepped_serves es (layer es s k) small t.ref z t.listed shows,
      )

  -- a walk that weighs `over` or more arrives by the rows
  pub shows : (a b over : ℕ) (w : List Edge) → get_or s a None ≡ Some 0 → Walk (graph es) a w b → pos over ≤ℤ weigh (graph es) w →
      arrives es s over b (length w) ≡ true
  shows a b over w e p heavy =
      let (z, is, shown) = complete a e (length w) b w refl p in
      reaches_less (get_or (layer es s (length w)) b None) (64 * length w + over) z (omega (arith, ints)) shown

-- ---- the rows of all lengths
-- the row s, then those of 1 to count edges, and whatever is left
pub layers_all : (es : List Edge) (s : List (Option ℕ)) (count : ℕ) (rows rest : List (List (Option ℕ))) → count ≤ length rows →
    ((k : ℕ) → k < count → get_or rows k [] ≡ layer es s (k + 1)) → Layers es s count (s ∷ (rows ++ rest))
unfolding layer
layers_all es s count rows rest long are zero h = refl
layers_all es s count rows rest long are (suc k) h =
    get_or_append_left rows rest [] k (omega arith) ∙ are k (omega arith) ∙ layer_more es s k

-- one more
pub layers_more : (es : List Edge) (s : List (Option ℕ)) (k : ℕ) (rows : List (List (Option ℕ))) (next : List (Option ℕ)) → k < length rows →
    ((j : ℕ) → j < k → get_or rows j [] ≡ layer es s (j + 1)) → next ≡ layer es s (k + 1) → (j : ℕ) → j < k + 1 → get_or (set rows k next) j [] ≡ layer es s (j + 1)
layers_more es s k rows next l are is j h = elim (ℕ_discrete k j) [
  | yes same ↦ subst (λ (x : ℕ). get_or (set rows k next) x [] ≡ layer es s (x + 1)) same (get_or-set_same rows k next [] l ∙ is)
  | no other ↦ get_or-set_other rows k j next [] (λ q. other (sym q)) ∙ are j (omega arith)
]
