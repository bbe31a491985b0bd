-- What a step makes of a row. Assumes nothing.
use Rattle.std.proofs.Common.{◌≡◌, ℕ, zero, suc, ◌+◌, true, ◌⊎◌, List, [], ◌∷◌, length, get_or, replicate, Some, None, fold, Option, sym, refl, ◌∙◌, subst, inl, inr, arith}
use native.Mathlib.Decide.{dec_lt}
use Rattle.std.specs.List.{AllByRecursion}
use Rattle.std.proofs.lemmas.List.{get_or_past}
use Rattle.std.proofs.ByRecursion.{All-get_or}
use Rattle.walks.specs.declared.edge.Edge.{Edge}
use Rattle.walks.specs.Walks.{In}
use Rattle.walks.specs.Edges.{Bounded}
use Rattle.search.specs.Rows.{lift, Low, reaches, extended, nothing, stepped}
use Rattle.search.proofs.Rows.{none_some, carried_length, carried_some, carried_low, carried_keeps, carried_serves}

low_getD : (row : List (Option ℕ)) (i b : ℕ) → AllByRecursion (Low b) row → Low b (get_or row i None)
low_getD row i b all = elim (dec_lt i (length row)) [
  | yes l ↦ All-get_or (Low b) row i None l all
  | no l ↦ subst (Low b) (sym (get_or_past row i None (omega arith))) tt
]

pub none_in : (n b : ℕ) → get_or (replicate {A = Option ℕ} n None) b None ≡ None
none_in zero b = refl
none_in (suc n) zero = refl
none_in (suc n) (suc b) = none_in n b

pub low_nothing : (n b : ℕ) → AllByRecursion (Low b) (replicate n None)
low_nothing zero b = tt
low_nothing (suc n) b = (tt, low_nothing n b)

-- what stands at b comes by an edge from what stood at its reader
abbrev pub Comes : List (Option ℕ) → List Edge → ℕ → ℕ → Type 0
Comes from es b z = (e : Edge) × In e es × (e.read ≡ b) × (y : ℕ) × (get_or from e.reader None ≡ Some y) × (z ≡ y + lift e)

module _ (from : List (Option ℕ)) where
  folded_some : (es : List Edge) (to : List (Option ℕ)) (b z : ℕ) → get_or (fold (extended from) to es) b None ≡ Some z →
      (get_or to b None ≡ Some z) ⊎ Comes from es b z
  folded_some [] to b z p = inl p
  folded_some (e ∷ es) to b z p = elim (folded_some es (extended from to e) b z p) [
    | inr (f, m, same, y, q, is) ↦ inr (f, inr m, same, y, q, is)
    | inl k ↦ elim (carried_some e to (get_or from e.reader None) b z k) [
      | inl k' ↦ inl k'
      | inr (same, y, q, is) ↦ inr (e, inl refl, same, y, q, is)
    ]
  ]

  folded_low : (b : ℕ) (es : List Edge) (to : List (Option ℕ)) → AllByRecursion Bounded es → AllByRecursion (Low b) from → AllByRecursion (Low (b + 127)) to →
      AllByRecursion (Low (b + 127)) (fold (extended from) to es)
  folded_low b [] to small low all = all
  folded_low b (e ∷ es) to small low all = folded_low b es (extended from to e) small.1 low
      (carried_low e to (get_or from e.reader None) b small.0 (low_getD from e.reader b low) all)

  folded_keeps : (es : List Edge) (to : List (Option ℕ)) (b z : ℕ) → AllByRecursion Bounded es → length to ≡ 64 →
      reaches (get_or to b None) z ≡ true → reaches (get_or (fold (extended from) to es) b None) z ≡ true
  folded_keeps [] to b z small long p = p
  folded_keeps (e ∷ es) to b z small long p = folded_keeps es (extended from to e) b z small.1
      (carried_length e to (get_or from e.reader None) ∙ long)
      (carried_keeps e to (omega (arith, small.0.read)) (get_or from e.reader None) b z p)

  folded_serves : (es : List Edge) (to : List (Option ℕ)) (e : Edge) (z : ℕ) → AllByRecursion Bounded es → length to ≡ 64 → In e es →
      reaches (get_or from e.reader None) z ≡ true → reaches (get_or (fold (extended from) to es) e.read None) (z + lift e) ≡ true
  folded_serves [] to e z small long m p = absurd m
  folded_serves (f ∷ es) to e z small long (inr m) p =
      folded_serves es (extended from to f) e z small.1 (carried_length f to (get_or from f.reader None) ∙ long) m p
  folded_serves (f ∷ es) to e z small long (inl same) p =
      subst (λ (x : Edge). reaches (get_or (fold (extended from) (extended from to f) es) x.read None) (z + lift x) ≡ true) same
      (folded_keeps es (extended from to f) f.read (z + lift f) small.1
      (carried_length f to (get_or from f.reader None) ∙ long)
      (carried_serves f to (omega (arith, small.0.read)) (get_or from f.reader None) z
      (subst (λ (x : Edge). reaches (get_or from x.reader None) z ≡ true) (sym same) p)))

module _ (es : List Edge) (from : List (Option ℕ)) where
  pub stepped_some : (b z : ℕ) → get_or (stepped es from) b None ≡ Some z → Comes from es b z
  unfolding stepped
  stepped_some b z p = elim (folded_some from es nothing b z p) [
    | inl k ↦ none_some (get_or nothing b None) z (none_in 64 b) k
    | inr k ↦ k
  ]

  module _ (small : AllByRecursion Bounded es) where
    pub stepped_serves : (e : Edge) (z : ℕ) → In e es → reaches (get_or from e.reader None) z ≡ true →
        reaches (get_or (stepped es from) e.read None) (z + lift e) ≡ true
    unfolding stepped
    stepped_serves e z m p = folded_serves from es nothing e z small refl m p

    pub stepped_low : (b : ℕ) → AllByRecursion (Low b) from → AllByRecursion (Low (b + 127)) (stepped es from)
    unfolding stepped
    stepped_low b low = folded_low from b es nothing small low (low_nothing 64 (b + 127))
