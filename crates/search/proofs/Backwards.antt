-- A walk read off the rows from its end, one edge at a time. Assumes nothing.
use Rattle.std.proofs.Common.{◌≡◌, ℕ, ◌+◌, ◌-◌, ◌*◌, ◌<◌, ◌≤◌, Bool, true, false, cond, ◌&&◌, eqb, List, [], ◌∷◌, ◌++◌, map, length, get_or, take, drop, set, pos, ◌+ℤ◌, Some, None, Option, sym, refl, ap, ◌∙◌, subst, inl, inr, arith}
use Rattle.std.specs.List.{AllByRecursion, find}
use Rattle.std.proofs.lemmas.List.{take_more, append_assoc, set_at, length-take-le}
use Rattle.std.proofs.lemmas.Int.{ints}
use Rattle.std.proofs.lemmas.Bool.Decides.{nat_tests}
use Rattle.walks.specs.declared.edge.Edge.{Edge}
use Rattle.walks.specs.declared.edge.SheetEntry.{SheetEntry}
use Rattle.walks.specs.Walks.{In, Walk, weigh}
use Rattle.walks.specs.Edges.{graph, told, Bounded}
use Rattle.walks.proofs.Cut.{all_in}
use Rattle.search.specs.Rows.{lift, Low, stepped, layer, meets, into}
use Rattle.search.specs.Listings.{Layers, Listed}
use Rattle.search.proofs.Rows.{clash, low_at}
use Rattle.search.proofs.Steps.{Comes, stepped_some}
use Rattle.search.proofs.Layers.{layer_more}

meets_out : (o : Option ℕ) (n z : ℕ) → meets o n z ≡ true → (y : ℕ) × (o ≡ Some y) × (z ≡ y + n)
meets_out None n z e = clash false e refl
meets_out (Some y) n z e = (y, refl, grind (arith, nat_tests))

and_out : (x y : Bool) → (x && y) ≡ true → (x ≡ true) × (y ≡ true)
and_out true y e = (refl, e)
and_out false y e = clash false e refl

into_out : (from : List (Option ℕ)) (b z : ℕ) (e : Edge) → into from b z e ≡ true → (e.read ≡ b) × (y : ℕ) × (get_or from e.reader None ≡ Some y) × (z ≡ y + lift e)
into_out from b z e p =
    let (q, r) = and_out (eqb e.read b) (meets (get_or from e.reader None) (lift e) z) p in
    let (y, here, is) = meets_out (get_or from e.reader None) (lift e) z r in
    (grind (arith, nat_tests), y, here, is)

into_from : (from : List (Option ℕ)) (b z : ℕ) (e : Edge) (y : ℕ) → e.read ≡ b → get_or from e.reader None ≡ Some y → z ≡ y + lift e → into from b z e ≡ true
into_from from b z e y same here is = ap (λ (o : Option ℕ). eqb e.read b && meets o (lift e) z) here ∙ grind (arith, nat_tests)

-- where an edge passes the test, some edge is the first that does
find_in : (p : Edge → Bool) (es : List Edge) (e : Edge) → In e es → p e ≡ true → (r : Edge) × (find p es ≡ Some r)
find_in p [] e m t = absurd m
find_in p (x ∷ es) e m t = go (λ n. find_in p es e n t) (p x) refl
  where
    go : (In e es → (r : Edge) × (find p es ≡ Some r)) → (v : Bool) → p x ≡ v → (r : Edge) × (cond v (Some x) (find p es) ≡ Some r)
    go later true q = (x, refl)
    go later false q = elim m [ inl same ↦ clash (p x) (ap p same ∙ t) q | inr n ↦ later n ]

-- and the first passes it
find_out : (p : Edge → Bool) (es : List Edge) (r : Edge) → find p es ≡ Some r → In r es × (p r ≡ true)
find_out p [] r e = absurd (let z : ◌≡◌ {A = ℕ} 0 1 = cc in omega arith)
find_out p (x ∷ es) r e = go (find_out p es r) (p x) refl e
  where
    go : (find p es ≡ Some r → In r es × (p r ≡ true)) → (v : Bool) → p x ≡ v → cond v (Some x) (find p es) ≡ Some r → In r (x ∷ es) × (p r ≡ true)
    go later true q e = let same : x ≡ r = cc in (inl same, ap p (sym same) ∙ q)
    go later false q e = let (m, t) = later e in (inr m, t)

-- the last edges of a walk of count edges to end are told, from the place k on; a walk of k edges to b is left
pub record Going (es : List Edge) (rows : List (List (Option ℕ))) (count end whole : ℕ) (old new : List SheetEntry) (k b left : ℕ) : Type 0 where
  pub tail : List Edge
  pub goes : Walk (graph es) b tail end
  pub long : length tail + k ≡ count
  pub here : get_or (get_or rows k []) b None ≡ Some left
  pub heavy : pos whole ≡ pos left +ℤ weigh (graph es) tail +ℤ pos (64 * length tail)
  pub listed : new ≡ take k old ++ (map told tail ++ drop count old)

module _ {es : List Edge} {rows : List (List (Option ℕ))} {count end whole : ℕ} {old new : List SheetEntry} {k b left : ℕ}
    (o : Going es rows count end whole old new k b left) (s : List (Option ℕ)) (layers : Layers es s count rows) where
  module _ (some : 0 < k) where
    -- some edge leads to what stands there
    pub going_edge : (r : Edge) × (find (into (get_or rows (k - 1) []) b left) es ≡ Some r)
    going_edge =
        let e : k ≡ k - 1 + 1 = omega arith in
        let more : get_or rows k [] ≡ stepped es (layer es s (k - 1)) = layers k (omega (arith, o.long)) ∙ ap (layer es s) e ∙ layer_more es s (k - 1) in
        let (r, m, same, y, here, is) = subst (λ (x : List (Option ℕ)). Comes x es b left) (sym (layers (k - 1) (omega (arith, o.long))))
        (stepped_some es (layer es s (k - 1)) b left (ap (λ (x : List (Option ℕ)). get_or x b None) (sym more) ∙ o.here)) in
        find_in (into (get_or rows (k - 1) []) b left) es r m (into_from (get_or rows (k - 1) []) b left r y same here is)

    module _ (small : AllByRecursion Bounded es) (r : Edge) (found : find (into (get_or rows (k - 1) []) b left) es ≡ Some r) where
      at_edge : In r es × (into (get_or rows (k - 1) []) b left r ≡ true)
      at_edge = find_out (into (get_or rows (k - 1) []) b left) es r found

      pub going_bounded : Bounded r
      going_bounded = all_in Bounded es r small at_edge.0

      pub going_less : lift r ≤ left
      going_less = let (_, y, _, e) = into_out (get_or rows (k - 1) []) b left r at_edge.1 in omega arith

      pub going_more : count ≤ length old → (by : ℕ) → by ≡ lift r → Going es rows count end whole old (set new (k - 1) r.entry) (k - 1) r.reader (left - by)
      going_more fits by lifts =
          let (e, y, here, sum) = into_out (get_or rows (k - 1) []) b left r at_edge.1 in
          let left_is : left - by ≡ y = omega arith in
          let d : SheetEntry = r.entry in
          let rest : List SheetEntry = map told o.tail ++ drop count old in
          let k_is : k ≡ k - 1 + 1 = omega arith in
          record {
            tail = r ∷ o.tail;
            goes = (refl, at_edge.0, subst (λ (x : ℕ). Walk (graph es) x o.tail end) (sym e) o.goes);
            long = omega (arith, o.long);
            here = here ∙ ap (λ (x : ℕ). Some x) (sym left_is);
            heavy = omega (arith, ints, o.heavy, going_bounded.opening);
            listed =
                ap (λ (x : List SheetEntry). set x (k - 1) d) (o.listed ∙ ap (λ (x : ℕ). take x old ++ rest) k_is ∙
                ap (λ (x : List SheetEntry). x ++ rest) (take_more old (k - 1) d (omega (arith, o.long))) ∙ append_assoc (take (k - 1) old) (get_or old (k - 1) d ∷ []) rest) ∙
                set_at (take (k - 1) old) (get_or old (k - 1) d) rest d (k - 1) (length-take-le (k - 1) old (omega (arith, o.long)));
          }

  pub going_all : (within : end < 64) (short : count ≤ 33) → AllByRecursion (Low 0) s → get_or (get_or rows count []) end None ≡ Some whole → k ≡ 0 →
      Listed es s (record { node = end; length = count; within = within; short = short }) old new
  unfolding layer
  going_all within short low shown e =
      let p : Going es rows count end whole old new 0 b left = subst (λ (x : ℕ). Going es rows count end whole old new x b left) e o in
      let here : get_or s b None ≡ Some left = ap (λ (x : List (Option ℕ)). get_or x b None) (sym (layers 0 (omega arith))) ∙ p.here in
      let none : left ≡ 0 = omega (arith, low_at s b left 0 low here) in
      record {
        start = b;
        walk = p.tail;
        goes = p.goes;
        begins = here ∙ ap (λ (x : ℕ). Some x) none;
        long = omega (arith, p.long);
        whole = whole;
        shown = ap (λ (x : List (Option ℕ)). get_or x end None) (sym (layers count (omega arith))) ∙ shown;
        heavy = omega (arith, ints, p.heavy, p.long);
        listed = p.listed;
      }
