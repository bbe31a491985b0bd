-- One ring: what one more value makes of it, and what is read off it. Assumes nothing.
use Rattle.std.proofs.Common.{◌≡◌, ℕ, suc, ◌+◌, ◌-◌, ◌*◌, ◌/◌, ◌%◌, ◌<◌, ◌≤◌, List, get_or, pos, sym, ap, ◌∙◌, subst, inl, inr, arith, mod-lt, mod-eq_of_lt, mul-le-mul_left, div-add-mod'}
use Rattle.std.proofs.lemmas.Bool.{cases_lt, cases_eq}
use Rattle.std.proofs.lemmas.Nat.{mod-mul-add}
use Rattle.values.specs.declared.types.«Type».{«Type» as Ty}
use Rattle.values.specs.declared.value.Value.{Value}
use Rattle.values.specs.Values.{num, wrap, word, HasType}
use Rattle.values.proofs.Wrapping.{wrap_word, kept}
use Rattle.references.specs.declared.reference.Id.{Id}
use Rattle.rings.specs.Systems.{System, slot}
use Rattle.rings.specs.Memory.{RingHolds}

-- two indexes less than a ring's length apart lie in two slots
pub slots_apart : (m i j : ℕ) → i ≤ j → j < i + m → i % m ≡ j % m → i ≡ j
slots_apart m i j l h e = elim (cases_lt (i / m) (j / m)) [
  | inl k ↦ absurd (omega (arith, mul-le-mul_left m k))
  | inr k ↦ omega (arith, mul-le-mul_left m k)
]

-- of the indexes below n, at least one of the newest m lies in each slot below n
slot_index : (n m j : ℕ) → j < m → j < n → (i : ℕ) × (i < n) × (n ≤ i + m) × (i % m ≡ j)
slot_index n m j lm ln =
    let d : ℕ = n - 1 - j in
    let whole = div-add-mod' d m in
    let rest : d % m < m = mod-lt d (let some : 0 < m = omega (arith, lm) in some) in
    (d / m * m + j, omega (arith, whole, rest, ln), omega (arith, whole, rest, ln), mod-mul-add (d / m) m j lm)

-- the low bits of a value's word are the value
pub back : (t : Ty) (v : Value) → HasType t v → wrap t (pos (word v)) ≡ v
back t v h = wrap_word t (num v) ∙ ap (λ u. wrap u (num v)) (sym h.0) ∙ kept v h.1

module _ (S : System) (id : Id) (words : ℕ → ℕ) where
  pub recounted : (n m : ℕ) (mem : List ℕ) → n ≡ m → RingHolds S id words n mem → RingHolds S id words m mem
  recounted n m mem e = subst (λ (k : ℕ). RingHolds S id words k mem) e

  -- a ring whose slots stay holds what it held
  pub unchanged : (n : ℕ) (old new : List ℕ) → 0 < S.size id → RingHolds S id words n old →
      ((j : ℕ) → j < S.size id → get_or new (S.base id + j) 0 ≡ get_or old (S.base id + j) 0) → RingHolds S id words n new
  unchanged n old new some h same = record {
    newest = λ i l k. same (i % S.size id) (mod-lt i some) ∙ h.newest i l k;
    blank = λ j l k. same j l ∙ h.blank j l k;
  }

  -- one more word in its slot, and the others as they were
  pub grown : (n : ℕ) (old new : List ℕ) → 0 < S.size id → RingHolds S id words n old → get_or new (slot S id n) 0 ≡ words n →
      ((j : ℕ) → j < S.size id → ¬ (j ≡ n % S.size id) → get_or new (S.base id + j) 0 ≡ get_or old (S.base id + j) 0) → RingHolds S id words (suc n) new
  grown n old new some h is same = record {
    newest = λ i l k. elim (cases_eq i n) [
      | inl e ↦ ap (λ (y : ℕ). get_or new (slot S id y) 0) e ∙ is ∙ ap words (sym e)
      | inr ne ↦
          same (i % S.size id) (mod-lt i some) (λ e. ne (slots_apart (S.size id) i n (omega (arith, l)) (omega (arith, k)) e)) ∙
          h.newest i (omega (arith, l, ne)) (omega (arith, k))
    ];
    blank = λ j l k.
        let small : n % S.size id ≡ n = mod-eq_of_lt (let s : n < S.size id = omega (arith, l, k) in s) in
        same j l (λ e. omega (arith, e, small, k)) ∙ h.blank j l (omega (arith, k));
  }

  -- a word that is still there, by the low bits of a type
  pub read_back : (n : ℕ) (mem : List ℕ) (t : Ty) (v : Value) (i : ℕ) → RingHolds S id words n mem → words i ≡ word v → HasType t v → i < n → n ≤ i + S.size id →
      wrap t (pos (get_or mem (slot S id i) 0)) ≡ v
  read_back n mem t v i h is typed l k = ap (λ (w : ℕ). wrap t (pos w)) (h.newest i l k ∙ is) ∙ back t v typed

  -- what a ring holds is in each of its slots
  pub one_ring : (n : ℕ) (a b : List ℕ) → RingHolds S id words n a → RingHolds S id words n b → (j : ℕ) → j < S.size id → get_or a (S.base id + j) 0 ≡ get_or b (S.base id + j) 0
  one_ring n a b ha hb j l = elim (cases_lt j n) [
    | inl there ↦
        let (i, below, near, is) = slot_index n (S.size id) j l there in
        let same : slot S id i ≡ S.base id + j = omega (arith, is) in
        ap (λ (k : ℕ). get_or a k 0) (sym same) ∙ ha.newest i below near ∙ sym (hb.newest i below near) ∙ ap (λ (k : ℕ). get_or b k 0) same
    | inr past ↦ ha.blank j l past ∙ sym (hb.blank j l past)
  ]
