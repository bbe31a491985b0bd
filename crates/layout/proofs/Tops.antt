-- Rows that take at each node the greater of what stands there and what an edge brings. Assumes nothing.
use Rattle.std.proofs.Common.{◌≡◌, ℕ, ◌<◌, ◌≤◌, max, List, [], ◌∷◌, length, get_or, fold, sym, refl, ◌∙◌, subst, inl, inr, arith}
use native.Mathlib.Decide.{ℕ_discrete, dec_lt}
use Rattle.std.specs.List.{AllByRecursion}
use Rattle.std.proofs.lemmas.List.{get_or-set_same, get_or-set_other, length-set, set_past}
use Rattle.std.proofs.ByRecursion.{All-weaker}
use Rattle.walks.specs.declared.edge.Edge.{Edge}
use Rattle.walks.specs.Walks.{In}
use Rattle.layout.specs.Climbs.{topped}

-- v is what an edge brings
module _ (v : Edge → ℕ) where
  pub folded_length : (es : List Edge) (to : List ℕ) → length (fold (topped v) to es) ≡ length to
  folded_length [] to = refl
  folded_length (e ∷ es) to = folded_length es (topped v to e) ∙ length-set to e.read (max (get_or to e.read 0) (v e))

  -- what holds of every number in a row, by its place
  abbrev pub Each : (ℕ → ℕ → Type 0) → List ℕ → Type 0
  Each P to = (b : ℕ) → P b (get_or to b 0)

  -- what an edge brings has P wherever it is taken
  abbrev pub Brings : (ℕ → ℕ → Type 0) → Edge → Type 0
  Brings P e = (x : ℕ) → x < v e → P e.read x → P e.read (v e)

  pub topped_each : (P : ℕ → ℕ → Type 0) (e : Edge) (to : List ℕ) → Brings P e → Each P to → Each P (topped v to e)
  topped_each P e to brings each b = elim (ℕ_discrete e.read b) [
    | yes same ↦ elim (dec_lt e.read (length to)) [
      | yes l ↦
          subst (λ (x : ℕ). P x (get_or (topped v to e) x 0)) same
          (subst (P e.read) (sym (get_or-set_same to e.read (max (get_or to e.read 0) (v e)) 0 l)) (greater (dec_lt (get_or to e.read 0) (v e))))
      | no l ↦ subst (λ (x : List ℕ). P b (get_or x b 0)) (sym (set_past to e.read (max (get_or to e.read 0) (v e)) (omega arith))) (each b)
    ]
    | no other ↦ subst (P b) (sym (get_or-set_other to e.read b (max (get_or to e.read 0) (v e)) 0 (λ q. other (sym q)))) (each b)
  ]
    where
      greater : Dec (get_or to e.read 0 < v e) → P e.read (max (get_or to e.read 0) (v e))
      greater (yes l) = let q : v e ≡ max (get_or to e.read 0) (v e) = omega arith in subst (P e.read) q (brings (get_or to e.read 0) l (each e.read))
      greater (no l) = let q : get_or to e.read 0 ≡ max (get_or to e.read 0) (v e) = omega arith in subst (P e.read) q (each e.read)

  pub folded_each : (P : ℕ → ℕ → Type 0) (es : List Edge) (to : List ℕ) → ((e : Edge) → In e es → Brings P e) → Each P to → Each P (fold (topped v) to es)
  folded_each P [] to brings each = each
  folded_each P (e ∷ es) to brings each = folded_each P es (topped v to e) (λ s m. brings s (inr m)) (topped_each P e to (brings e (inl refl)) each)

  pub folded_up : (es : List Edge) (to : List ℕ) (b : ℕ) → get_or to b 0 ≤ get_or (fold (topped v) to es) b 0
  folded_up es to b = folded_each (λ c x. get_or to c 0 ≤ x) es to (λ e m x l h. omega arith) (λ c. omega arith) b

  -- what an edge brings to a node of the row is met
  pub folded_met : (es : List Edge) (to : List ℕ) (e : Edge) → AllByRecursion (λ e. e.read < length to) es → In e es → v e ≤ get_or (fold (topped v) to es) e.read 0
  folded_met [] to e all m = absurd m
  folded_met (x ∷ es) to e all (inr m) = folded_met es (topped v to x) e
      (All-weaker (λ e. e.read < length to) (λ e. e.read < length (topped v to x)) (λ e h. rw length-set h) es all.1) m
  folded_met (x ∷ es) to e all (inl q) =
      subst (λ (y : Edge). v y ≤ get_or (fold (topped v) (topped v to x) es) y.read 0) q
      (omega (arith, folded_up es (topped v to x) x.read, get_or-set_same to x.read (max (get_or to x.read 0) (v x)) 0 all.0))
