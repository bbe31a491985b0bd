-- What stands in a row, and what one edge makes of it. Assumes nothing.
use Rattle.std.proofs.Common.{◌≡◌, ℕ, ◌+◌, ◌<◌, ◌≤◌, Bool, true, false, cond, leb, ◌⊎◌, List, length, get_or, set, Some, None, Option, sym, refl, ap, ◌∙◌, subst, inl, inr, arith}
use native.Mathlib.Decide.{ℕ_discrete, dec_lt}
use Rattle.std.specs.List.{AllByRecursion}
use Rattle.std.proofs.lemmas.List.{get_or-set_same, get_or-set_other, length-set, get_or_past, set_past}
use Rattle.std.proofs.ByRecursion.{All-get_or, All-set}
use Rattle.std.proofs.lemmas.Bool.Decides.{nat_tests}
use Rattle.walks.specs.declared.edge.Edge.{Edge}
use Rattle.walks.specs.Edges.{Bounded}
use Rattle.search.specs.Rows.{lift, Low, reaches, carried}

-- one test has one answer
pub clash : {P : Type 0} (t : Bool) → t ≡ true → t ≡ false → P
clash t p q = absurd (let e : ◌≡◌ {A = ℕ} 0 1 = cc in omega arith)

-- ---- what stands at a node
pub none_some : {P : Type 0} (o : Option ℕ) (z : ℕ) → o ≡ None → o ≡ Some z → P
none_some o z p q = absurd (let e : ◌≡◌ {A = ℕ} 0 1 = cc in omega arith)

pub reaches_less : (o : Option ℕ) (y z : ℕ) → y ≤ z → reaches o z ≡ true → reaches o y ≡ true
reaches_less None y z l p = p
reaches_less (Some x) y z l p = grind (arith, nat_tests)

pub reaches_out : (o : Option ℕ) (y : ℕ) → reaches o y ≡ true → (z : ℕ) × (o ≡ Some z) × (y ≤ z)
reaches_out None y e = clash false e refl
reaches_out (Some x) y e = (x, refl, grind (arith, nat_tests))

reaches_beyond : (o : Option ℕ) (y z : ℕ) → reaches o y ≡ false → reaches o z ≡ true → leb z y ≡ true
reaches_beyond None y z p q = clash false q refl
reaches_beyond (Some x) y z p q = grind (arith, nat_tests)

pub low_at : (row : List (Option ℕ)) (i x b : ℕ) → AllByRecursion (Low b) row → get_or row i None ≡ Some x → x ≤ b
low_at row i x b low e = elim (dec_lt i (length row)) [
  | yes l ↦ subst (Low b) e (All-get_or (Low b) row i None l low)
  | no l ↦ none_some (get_or row i None) x (get_or_past row i None (omega arith)) e
]

-- ---- a write
pub set_some : (row : List (Option ℕ)) (i b z : ℕ) (o : Option ℕ) → get_or (set row i o) b None ≡ Some z → (get_or row b None ≡ Some z) ⊎ ((i ≡ b) × (o ≡ Some z))
set_some row i b z o e = elim (ℕ_discrete i b) [
  | yes same ↦ elim (dec_lt i (length row)) [
    | yes l ↦ inr (same, sym (get_or-set_same row i o None l) ∙ ap (λ (x : ℕ). get_or (set row i o) x None) same ∙ e)
    | no l ↦ inl (ap (λ (x : List (Option ℕ)). get_or x b None) (sym (set_past row i o (omega arith))) ∙ e)
  ]
  | no other ↦ inl (sym (get_or-set_other row i b o None (λ q. other (sym q))) ∙ e)
]

set_keeps : (row : List (Option ℕ)) (i y b z : ℕ) → i < length row → reaches (get_or row i None) y ≡ false →
    reaches (get_or row b None) z ≡ true → reaches (get_or (set row i (Some y)) b None) z ≡ true
set_keeps row i y b z l low p = elim (ℕ_discrete i b) [
  | yes same ↦
      ap (λ (x : ℕ). reaches (get_or (set row i (Some y)) x None) z) (sym same) ∙
      ap (λ (o : Option ℕ). reaches o z) (get_or-set_same row i (Some y) None l) ∙
      reaches_beyond (get_or row i None) y z low (ap (λ (x : ℕ). reaches (get_or row x None) z) same ∙ p)
  | no other ↦ ap (λ (o : Option ℕ). reaches o z) (get_or-set_other row i b (Some y) None (λ q. other (sym q))) ∙ p
]

-- ---- one edge
-- what an edge adds at what it reads
abbrev Adds : Option ℕ → Edge → ℕ → ℕ → Type 0
Adds o e b z = (e.read ≡ b) × (x : ℕ) × (o ≡ Some x) × (z ≡ x + lift e)

module _ (e : Edge) (to : List (Option ℕ)) where
  pub carried_length : (o : Option ℕ) → length (carried o to e) ≡ length to
  carried_length None = refl
  carried_length (Some x) = go (reaches (get_or to e.read None) (x + lift e))
    where
      go : (t : Bool) → length (cond t to (set to e.read (Some (x + lift e)))) ≡ length to
      go true = refl
      go false = length-set to e.read (Some (x + lift e))

  pub carried_some : (o : Option ℕ) (b z : ℕ) → get_or (carried o to e) b None ≡ Some z → (get_or to b None ≡ Some z) ⊎ Adds o e b z
  carried_some None b z p = inl p
  carried_some (Some x) b z p = go (reaches (get_or to e.read None) (x + lift e)) p
    where
      go : (t : Bool) → get_or (cond t to (set to e.read (Some (x + lift e)))) b None ≡ Some z → (get_or to b None ≡ Some z) ⊎ Adds (Some x) e b z
      go true q = inl q
      go false q = elim (set_some to e.read b z (Some (x + lift e)) q) [ inl k ↦ inl k | inr (same, k) ↦ inr (same, x, refl, (cc)) ]

  pub carried_low : (o : Option ℕ) (b : ℕ) → Bounded e → Low b o → AllByRecursion (Low (b + 127)) to → AllByRecursion (Low (b + 127)) (carried o to e)
  carried_low None b small low all = all
  carried_low (Some x) b small low all = go (reaches (get_or to e.read None) (x + lift e))
    where
      go : (t : Bool) → AllByRecursion (Low (b + 127)) (cond t to (set to e.read (Some (x + lift e))))
      go true = all
      go false = All-set (Low (b + 127)) to e.read (Some (x + lift e)) (omega (arith, small.drop)) all

  module _ (l : e.read < length to) where
    pub carried_keeps : (o : Option ℕ) (b z : ℕ) → reaches (get_or to b None) z ≡ true → reaches (get_or (carried o to e) b None) z ≡ true
    carried_keeps None b z p = p
    carried_keeps (Some x) b z p = go (reaches (get_or to e.read None) (x + lift e)) refl
      where
        go : (t : Bool) → reaches (get_or to e.read None) (x + lift e) ≡ t →
            reaches (get_or (cond t to (set to e.read (Some (x + lift e)))) b None) z ≡ true
        go true q = p
        go false q = set_keeps to e.read (x + lift e) b z l q p

    pub carried_serves : (o : Option ℕ) (z : ℕ) → reaches o z ≡ true → reaches (get_or (carried o to e) e.read None) (z + lift e) ≡ true
    carried_serves None z p = clash false p refl
    carried_serves (Some x) z p = go (reaches (get_or to e.read None) (x + lift e)) refl
      where
        more : z + lift e ≤ x + lift e
        more = let (y, q, m) = reaches_out (Some x) z p in let s : x ≡ y = cc in omega arith

        go : (t : Bool) → reaches (get_or to e.read None) (x + lift e) ≡ t →
            reaches (get_or (cond t to (set to e.read (Some (x + lift e)))) e.read None) (z + lift e) ≡ true
        go true q = reaches_less (get_or to e.read None) (z + lift e) (x + lift e) more q
        go false q =
            ap (λ (o : Option ℕ). reaches o (z + lift e)) (get_or-set_same to e.read (Some (x + lift e)) None l) ∙
            reaches_less (Some (x + lift e)) (z + lift e) (x + lift e) more (grind (arith, nat_tests))
