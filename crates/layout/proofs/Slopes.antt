-- Climbs by rows: for each two nodes how high the edges of the first to the second reach from the base. Assumes nothing.
use Rattle.std.proofs.Common.{◌≡◌, ℕ, zero, suc, ◌+◌, ◌-◌, ◌*◌, ◌<◌, ◌≤◌, ◌⊎◌, List, [], ◌∷◌, length, get_or, replicate, fold, max, sym, refl, ap, ◌∙◌, subst, inl, inr, arith}
use native.Mathlib.Decide.{ℕ_discrete, dec_lt}
use Rattle.std.specs.List.{AllByRecursion}
use Rattle.std.proofs.ByRecursion.{All-weaker}
use Rattle.std.proofs.lemmas.List.{ext_get_or, get_or-set_same, get_or-set_other, length-set, set_past, get_or-replicate}
use Rattle.walks.specs.declared.edge.Edge.{Edge}
use Rattle.walks.specs.Walks.{In}
use Rattle.walks.specs.Edges.{Bounded}
use Rattle.walks.proofs.Cut.{all_in}
use Rattle.layout.specs.Climbs.{Low, height_over, topped, climbed, steeper, slopes, Raised}
use Rattle.layout.proofs.Tops.{topped_each, folded_length, folded_each, folded_up, folded_met}
use Rattle.layout.proofs.Climbs.{zeros_at}

-- how high an edge reaches from the base
abbrev reach : Edge → ℕ
reach = height_over (replicate 64 900000)

pub base_at_most : (n s : ℕ) → get_or (replicate n 900000) s 0 ≤ 900000
base_at_most zero s = omega arith
base_at_most (suc n) zero = omega arith
base_at_most (suc n) (suc s) = base_at_most n s

abbrev cell : List (List ℕ) → ℕ → ℕ → ℕ
cell rows r b = get_or (get_or rows r []) b 0

none_yet : (n r b : ℕ) → ◌≡◌ {A = ℕ} (cell (replicate n (replicate 64 0)) r b) 0
none_yet zero r b = refl
none_yet (suc n) zero b = zeros_at 64 b
none_yet (suc n) (suc r) b = none_yet n r b

-- what holds of every number in the rows, by its reader and what is read
abbrev Cells : (ℕ → ℕ → ℕ → Type 0) → List (List ℕ) → Type 0
Cells P rows = (r b : ℕ) → P r b (cell rows r b)

-- what an edge brings has P wherever it is taken
abbrev Brings : (ℕ → ℕ → ℕ → Type 0) → Edge → Type 0
Brings P e = (x : ℕ) → x < reach e → P e.reader e.read x → P e.reader e.read (reach e)

abbrev at_reader : List (List ℕ) → Edge → List ℕ
at_reader rows e = topped reach (get_or rows e.reader []) e

steeper_cells : (P : ℕ → ℕ → ℕ → Type 0) (e : Edge) (rows : List (List ℕ)) → Brings P e → Cells P rows → Cells P (steeper rows e)
steeper_cells P e rows brings cells r b = elim (ℕ_discrete e.reader r) [
  | yes same ↦ elim (dec_lt e.reader (length rows)) [
    | yes l ↦
        subst (λ (x : ℕ). P x b (cell (steeper rows e) x b)) same
        (subst (λ (x : List ℕ). P e.reader b (get_or x b 0)) (sym (get_or-set_same rows e.reader (at_reader rows e) [] l)) (topped_each reach (P e.reader) e (get_or rows e.reader []) brings (cells e.reader) b))
    | no l ↦ subst (λ (x : List (List ℕ)). P r b (cell x r b)) (sym (set_past rows e.reader (at_reader rows e) (omega arith))) (cells r b)
  ]
  | no other ↦ subst (λ (x : List ℕ). P r b (get_or x b 0)) (sym (get_or-set_other rows e.reader r (at_reader rows e) [] (λ q. other (sym q)))) (cells r b)
]

folded_cells : (P : ℕ → ℕ → ℕ → Type 0) (es : List Edge) (rows : List (List ℕ)) → ((e : Edge) → In e es → Brings P e) → Cells P rows → Cells P (fold steeper rows es)
folded_cells P [] rows brings cells = cells
folded_cells P (e ∷ es) rows brings cells = folded_cells P es (steeper rows e) (λ s m. brings s (inr m)) (steeper_cells P e rows (brings e (inl refl)) cells)

-- 64 rows of 64 numbers
Square : List (List ℕ) → Type 0
Square rows = (length rows ≡ 64) × ((r : ℕ) → r < 64 → length (get_or rows r []) ≡ 64)

square_more : (e : Edge) (rows : List (List ℕ)) → Square rows → Square (steeper rows e)
unfolding Square
square_more e rows (long, wide) = (
  length-set rows e.reader (at_reader rows e) ∙ long,
  λ r l. elim (ℕ_discrete e.reader r) [
    | yes same ↦ omega (
      arith,
      ap (λ (x : ℕ). length (get_or (steeper rows e) x [])) same,
      ap (λ (x : List ℕ). length x) (get_or-set_same rows e.reader (at_reader rows e) [] (omega (arith, same, long, l))),
      length-set (get_or rows e.reader []) e.read (max (cell rows e.reader e.read) (reach e)),
      wide e.reader (omega (arith, same, l)),
    )
    | no other ↦ ap (λ (x : List ℕ). length x) (get_or-set_other rows e.reader r (at_reader rows e) [] (λ q. other (sym q))) ∙ wide r l
  ],
)

-- what an edge reaches is met
cells_met : (es : List Edge) (rows : List (List ℕ)) (e : Edge) → Square rows → AllByRecursion Bounded es → In e es → reach e ≤ cell (fold steeper rows es) e.reader e.read
unfolding Square
cells_met [] rows e square all m = absurd m
cells_met (x ∷ es) rows e square all (inr m) = cells_met es (steeper rows x) e (square_more x rows square) all.1 m
cells_met (x ∷ es) rows e square all (inl q) =
    subst (λ (y : Edge). reach y ≤ cell (fold steeper (steeper rows x) es) y.reader y.read) q
    (omega (
      arith,
      folded_cells (λ r b z. cell (steeper rows x) r b ≤ z) es (steeper rows x) (λ e m z l h. omega arith) (λ r b. omega arith) x.reader x.read,
      ap (λ (y : List ℕ). get_or y x.read 0) (get_or-set_same rows x.reader (at_reader rows x) [] (omega (arith, all.0.reader, square.0))),
      get_or-set_same (get_or rows x.reader []) x.read (max (cell rows x.reader x.read) (reach x)) 0 (omega (arith, all.0.read, square.1 x.reader all.0.reader)),
    ))

square_yet : (n r : ℕ) → r < n → length {A = ℕ} (get_or (replicate n (replicate 64 0)) r []) ≡ 64
square_yet zero r l = absurd (omega arith)
square_yet (suc n) zero l = refl
square_yet (suc n) (suc r) l = square_yet n r (omega arith)

-- what an edge reaches from the base is its steep weight more
reach_is : (e : Edge) → Bounded e → reach e ≡ 900000 + (64 * e.entry.drop + 1) - 64 * e.opening
reach_is e b = omega (arith, get_or-replicate {A = ℕ} 64 e.reader 900000 0 b.reader)

module _ (es : List Edge) (bounded : AllByRecursion Bounded es) where
  pub rows_low : (rows : List (List ℕ)) → rows ≡ fold steeper (replicate 64 (replicate 64 0)) es → (r : ℕ) → Low 1000000 (get_or rows r [])
  rows_low rows is r s = omega (
    arith,
    ap (λ (x : List (List ℕ)). cell x r s) is,
    folded_cells (λ r b x. x ≤ 904033) es (replicate 64 (replicate 64 0)) (λ e m x l h. omega (arith, (all_in Bounded es e bounded m).drop, base_at_most 64 e.reader)) (λ r b. omega (arith, none_yet 64 r b)) r s,
  )

  pub slopes_low : (rows : List (List ℕ)) → rows ≡ slopes es → (r : ℕ) → Low 1000000 (get_or rows r [])
  unfolding slopes
  slopes_low rows is = rows_low rows is

  -- no number in the rows, or what some edge reaches
  Comes : ℕ → ℕ → ℕ → Type 0
  Comes r b x = (x ≡ 0) ⊎ ((e : Edge) × In e es × (e.reader ≡ r) × (e.read ≡ b) × (x ≡ reach e))

  comes : (r b : ℕ) → Comes r b (cell (slopes es) r b)
  unfolding Comes slopes
  comes r b = folded_cells Comes es (replicate 64 (replicate 64 0)) (λ e m x l h. inr (e, m, refl, refl, refl)) (λ r b. inl (none_yet 64 r b)) r b

  met : (e : Edge) → In e es → reach e ≤ cell (slopes es) e.reader e.read
  unfolding Square slopes
  met e m = cells_met es (replicate 64 (replicate 64 0)) e (refl, square_yet 64) bounded m

-- a climb by rows from the heights `from` has come to a reader, past the rows of those that the climb before left as they were
pub record Climbing (rows : List (List ℕ)) (before from : List ℕ) (reader : ℕ) (to : List ℕ) : Type 0 where
  pub long : length to ≡ 64
  pub up : (b : ℕ) → get_or from b 0 ≤ get_or to b 0
  pub met : (r : ℕ) → r < reader → (get_or from r 0 ≡ get_or before r 0 → ⊥) → (b : ℕ) → get_or from r 0 + cell rows r b - 900000 ≤ get_or to b 0
  pub comes : (b : ℕ) → (get_or to b 0 ≡ get_or from b 0) ⊎ ((r : ℕ) × (get_or to b 0 ≡ get_or from r 0 + cell rows r b - 900000))

module _ (rows : List (List ℕ)) (before from : List ℕ) where
  pub climbing_left : (reader : ℕ) (to : List ℕ) → get_or from reader 0 ≡ get_or before reader 0 → Climbing rows before from reader to → Climbing rows before from (reader + 1) to
  climbing_left reader to same climbing = record {
    long = climbing.long;
    up = climbing.up;
    met = λ r l other. elim (ℕ_discrete r reader) [
      | yes is ↦ absurd (other (ap (λ (x : ℕ). get_or from x 0) is ∙ same ∙ sym (ap (λ (x : ℕ). get_or before x 0) is)))
      | no not ↦ climbing.met r (omega (arith, not)) other
    ];
    comes = climbing.comes;
  }

  pub climbing_raised : (reader : ℕ) (to new : List ℕ) → length new ≡ 64 → Raised (get_or from reader 0) (get_or rows reader []) to new → Climbing rows before from reader to → Climbing rows before from (reader + 1) new
  climbing_raised reader to new long raised climbing = record {
    long = long;
    up = λ b. omega (arith, climbing.up b, raised b);
    met = λ r l other b. elim (ℕ_discrete r reader) [
      | yes is ↦ omega (arith, ap (λ (x : ℕ). get_or from x 0) is, ap (λ (x : ℕ). cell rows x b) is, raised b)
      | no not ↦ omega (arith, climbing.met r (omega (arith, not)) other b, raised b)
    ];
    comes = λ b. elim (dec_lt (get_or to b 0) (get_or from reader 0 + cell rows reader b - 900000)) [
      | yes more ↦ inr (reader, omega (arith, raised b, more))
      | no less ↦ subst (λ (x : ℕ). (x ≡ get_or from b 0) ⊎ ((r : ℕ) × (x ≡ get_or from r 0 + cell rows r b - 900000))) (omega (arith, raised b, less)) (climbing.comes b)
    ];
  }

-- an edge raises nothing where the climb before left its reader as it was, so such a climb is a climb along every edge
pub climbing_all : (es : List Edge) → AllByRecursion Bounded es → (before from to : List ℕ) → length from ≡ 64 → Low 900000 from → from ≡ climbed es before → Climbing (slopes es) before from 64 to → to ≡ climbed es from
unfolding climbed Comes
climbing_all es bounded before from to long low is climbing =
    ext_get_or 0 to (climbed es from) (climbing.long ∙ sym (folded_length (height_over from) es from ∙ long)) (λ b _. let u = under b in let o = over b in omega (arith, u, o))
  where
    in_row : (row : List ℕ) → length row ≡ 64 → AllByRecursion (λ e. e.read < length row) es
    in_row row l = All-weaker Bounded (λ e. e.read < length row) (λ e b. omega (arith, b.read, l)) es bounded

    brings : (e : Edge) → In e es → height_over from e ≤ get_or to e.read 0
    brings e m = elim (ℕ_discrete (get_or from e.reader 0) (get_or before e.reader 0)) [
      | yes same ↦ omega (
        arith,
        same,
        folded_met (height_over before) es before e (in_row before (sym (folded_length (height_over before) es before) ∙ sym (ap length is) ∙ long)) m,
        ap (λ (x : List ℕ). get_or x e.read 0) is,
        climbing.up e.read,
      )
      | no other ↦
          let b : Bounded e = all_in Bounded es e bounded m in
          omega (arith, climbing.met e.reader b.reader other e.read, met es bounded e m, reach_is e b, b.opening)
    ]

    over : (b : ℕ) → get_or (climbed es from) b 0 ≤ get_or to b 0
    over b = folded_each (height_over from) (λ b x. x ≤ get_or to b 0) es from (λ e m x l h. brings e m) climbing.up b

    under : (b : ℕ) → get_or to b 0 ≤ get_or (climbed es from) b 0
    under b = elim (climbing.comes b) [
      | inl same ↦ omega (arith, same, folded_up (height_over from) es from b)
      | inr (r, same) ↦ elim (comes es bounded r b) [
        | inl none ↦ omega (arith, same, none, low r)
        | inr (e, m, reads, read, high) ↦ omega (
          arith,
          same,
          high,
          reach_is e (all_in Bounded es e bounded m),
          (all_in Bounded es e bounded m).opening,
          ap (λ (x : ℕ). get_or from x 0) reads,
          ap (λ (x : ℕ). get_or (climbed es from) x 0) read,
          folded_met (height_over from) es from e (in_row from long) m,
        )
      ]
    ]
