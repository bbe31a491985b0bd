-- Walks over a table's edges are walks over its references, and the other way round. Assumes nothing.
use Rattle.std.proofs.Common.{◌≡◌, ℕ, zero, suc, ◌<◌, List, [], ◌∷◌, ◌++◌, map, length, drop, ℤ, ◌+ℤ◌, sym, refl, ap, ◌∙◌, subst, inl, inr, arith}
use Rattle.std.proofs.lemmas.List.{length-map}
use Rattle.std.proofs.lemmas.Int.{ints}
use Rattle.syntax.specs.declared.record.Kind.{Kind}
use Rattle.syntax.specs.declared.record.Kind.TheVariants.{Channel, Stream}
use Rattle.syntax.specs.Entries.{Entry, count}
use Rattle.references.specs.declared.reference.Id.{Id}
use Rattle.references.specs.declared.reference.Reference.{Reference}
use Rattle.references.specs.References.{references}
use Rattle.walks.specs.declared.edge.Edge.{Edge}
use Rattle.walks.specs.declared.edge.SheetEntry.{SheetEntry}
use Rattle.walks.specs.Walks.{In, Walk, weigh, at, Apart, Rising, Falling, Settled, Lead, TellsClosed, TellsAhead}
use Rattle.walks.specs.Edges as plain
use Rattle.walks.proofs.Cut.{all_in, Last, last}
use Rattle.schedule.specs.Graphs.{channel, graph, told, IsChannel}
use Rattle.schedule.specs.Edges.{Valid, Stands, Orderly, node_by, node, edge, edges}
use Rattle.schedule.proofs.Placing.{node_one}

pub in_map : {X Y : Type 0} (f : X → Y) (x : X) (xs : List X) → In x xs → In (f x) (map f xs)
in_map f x [] m = absurd m
in_map f x (y ∷ ys) (inl e) = inl (ap f e)
in_map f x (y ∷ ys) (inr m) = inr (in_map f x ys m)

pub from_map : {X Y : Type 0} (f : X → Y) (y : Y) (xs : List X) → In y (map f xs) → (x : X) × In x xs × (f x ≡ y)
from_map f y [] m = absurd m
from_map f y (x ∷ xs) (inl e) = (x, inl refl, e)
from_map f y (x ∷ xs) (inr m) = let (z, i, e) = from_map f y xs m in (z, inr i, e)

module _ (rs : List Entry) (o : Orderly rs) where
  pub stands : (r : Reference) → In r (references [] rs) → Stands rs r
  stands r m = all_in (Stands rs) (references [] rs) r o.stand m

  -- ---- from references to edges
  pub up : (a b : Id) (v : List Reference) → Walk (graph rs) a v b → Walk (plain.graph (edges rs)) (node rs a) (map (edge rs) v) (node rs b)
  up a b [] p = ap (node rs) p
  up a b (r ∷ v) p = (ap (node rs) p.0, in_map (edge rs) r (references [] rs) p.1, up r.read b v p.2)

  pub weighs : (v : List Reference) → weigh (plain.graph (edges rs)) (map (edge rs) v) ≡ weigh (graph rs) v
  weighs [] = refl
  weighs (r ∷ v) = ap (λ (z : ℤ). (graph rs).weight r +ℤ z) (weighs v)

  stands_at : (a : Id) (v : List Reference) (i : ℕ) → at (plain.graph (edges rs)) (node rs a) (map (edge rs) v) i ≡ node rs (at (graph rs) a v i)
  stands_at a v zero = refl
  stands_at a [] (suc i) = refl
  stands_at a (r ∷ v) (suc i) = stands_at r.read v i

  pub falls_down : Falling (plain.graph (edges rs)) → Falling (graph rs)
  falls_down falls a v r = falls (node rs a) (map (edge rs) v) (record {
    walk = up a a v r.walk;
    some = omega (arith, r.some, length-map v (edge rs));
    heavy = omega (arith, ints, r.heavy, weighs v);
  })

  channel_node : (id : Id) → IsChannel id → Valid rs id → node rs id < count Channel rs
  unfolding node
  channel_node id c valid =
      subst (λ (k : Kind). id.number < count k rs → node_by (count Channel rs) (count Stream rs) k id.number < count Channel rs) (sym c) (λ h. h) valid

  pub settled_down : Settled (plain.graph (edges rs)) (plain.Channel (count Channel rs)) → Settled (graph rs) IsChannel
  settled_down settled a b [] c p = omega (arith, ints)
  settled_down settled a b (r ∷ v) c p =
      let l : Last (graph rs) a (r ∷ v) b = last (graph rs) a r v b p in
      let valid : Valid rs b = subst (Valid rs) l.ends (stands l.ref l.listed).read in
      omega (arith, ints, weighs (r ∷ v), settled (node rs a) (node rs b) (map (edge rs) (r ∷ v)) (channel_node b c valid) (up a b (r ∷ v) p))

  -- ---- from edges to references
  pub record Below (a : ℕ) (w : List Edge) (b : Id) : Type 0 where
    pub start : Id
    pub walk : List Reference
    pub goes : Walk (graph rs) start walk b
    pub same : map (edge rs) walk ≡ w
    pub valid : Valid rs start
    pub here : node rs start ≡ a

  pub down : (a : ℕ) (w : List Edge) (b : Id) → Valid rs b → Walk (plain.graph (edges rs)) a w (node rs b) → Below a w b
  down a [] b valid p = record { start = b; walk = []; goes = refl; same = refl; valid = valid; here = sym p }
  down a (e ∷ w) b valid p =
      let (r, m, is) = from_map (edge rs) e (references [] rs) p.1 in
      let d : Below e.read w b = down e.read w b valid p.2 in
      let s : Stands rs r = stands r m in
      let next : r.read ≡ d.start = node_one rs r.read d.start s.read d.valid (ap (λ (x : Edge). x.read) is ∙ sym d.here) in
      record {
        start = r.reader;
        walk = r ∷ d.walk;
        goes = (refl, m, subst (λ (x : Id). Walk (graph rs) x d.walk b) (sym next) d.goes);
        same = λ i. is i ∷ d.same i;
        valid = s.reader;
        here = ap (λ (x : Edge). x.reader) is ∙ sym p.0;
      }

  -- what comes to no node twice comes to no record twice
  apart_down : (a : ℕ) (w : List Edge) (b : Id) (d : Below a w b) (m : ℕ) → Apart (at (plain.graph (edges rs)) a w) m → Apart (at (graph rs) d.start d.walk) m
  apart_down a w b d m apart i j l h e = apart i j l h (sym (same i) ∙ ap (node rs) e ∙ same j)
    where
      same : (i : ℕ) → node rs (at (graph rs) d.start d.walk i) ≡ at (plain.graph (edges rs)) a w i
      same i = sym (stands_at d.start d.walk i) ∙ (λ x. at (plain.graph (edges rs)) (d.here x) (d.same x) i)

  pub lead_down : (s : Id) (z : ℤ) → Valid rs s → Lead (plain.graph (edges rs)) (node rs s) z → Lead (graph rs) s z
  lead_down s z valid l =
      let (a, w, p, q) = l.reached in
      let d : Below a w s = down a w s valid p in
      record {
        reached = (d.start, d.walk, d.goes, sym (weighs d.walk) ∙ ap (weigh (plain.graph (edges rs))) d.same ∙ q);
        most = λ b v h. omega (arith, ints, weighs v, l.most (node rs b) (map (edge rs) v) (up b s v h));
      }

  -- what is listed of edges is told of references
  listed_down : (w : List Edge) (v : List Reference) → map (edge rs) v ≡ w → map plain.told w ≡ map (told rs) v
  listed_down w v e = ap (map plain.told) (sym e) ∙ go v
    where
      go : (v : List Reference) → map plain.told (map (edge rs) v) ≡ map (told rs) v
      go [] = refl
      go (r ∷ v) = ap (λ (l : List SheetEntry). told rs r ∷ l) (go v)

  heavy_down : (w : List Edge) (v : List Reference) → map (edge rs) v ≡ w → weigh (graph rs) v ≡ weigh (plain.graph (edges rs)) w
  heavy_down w v e = sym (weighs v) ∙ ap (weigh (plain.graph (edges rs))) e

  pub closed_down : (old new : List SheetEntry) (k : ℕ) → TellsClosed (plain.graph (edges rs)) plain.told old new k → TellsClosed (graph rs) (told rs) old new k
  closed_down old new k t = go t.start t.walk t.rising t.apart t.long t.listed
    where
      go : (a : ℕ) (w : List Edge) → Rising (plain.graph (edges rs)) a w → Apart (at (plain.graph (edges rs)) a w) (length w) → length w ≡ k → new ≡ map plain.told w ++ drop k old →
          TellsClosed (graph rs) (told rs) old new k
      go a [] r apart long listed = absurd (omega (arith, r.some))
      go a (e ∷ w) r apart long listed =
          let (x, m, is) = from_map (edge rs) e (references [] rs) r.walk.1 in
          let valid : Valid rs x.reader = (stands x m).reader in
          let begins : a ≡ node rs x.reader = r.walk.0 ∙ sym (ap (λ (y : Edge). y.reader) is) in
          let p : Walk (plain.graph (edges rs)) a (e ∷ w) (node rs x.reader) = subst (λ (b : ℕ). Walk (plain.graph (edges rs)) a (e ∷ w) b) begins r.walk in
          let d : Below a (e ∷ w) x.reader = down a (e ∷ w) x.reader valid p in
          let ends : x.reader ≡ d.start = node_one rs x.reader d.start valid d.valid (sym begins ∙ sym d.here) in
          let size : length d.walk ≡ length (e ∷ w) = sym (length-map d.walk (edge rs)) ∙ ap length d.same in
          record {
            start = d.start;
            walk = d.walk;
            rising = record {
              walk = subst (λ (b : Id). Walk (graph rs) d.start d.walk b) ends d.goes;
              some = omega (arith, r.some);
              heavy = omega (arith, ints, r.heavy, heavy_down (e ∷ w) d.walk d.same);
            };
            apart = subst (λ (m : ℕ). Apart (at (graph rs) d.start d.walk) m) (sym size) (apart_down a (e ∷ w) x.reader d (length (e ∷ w)) apart);
            long = size ∙ long;
            listed = listed ∙ ap (λ (l : List SheetEntry). l ++ drop k old) (listed_down (e ∷ w) d.walk d.same);
          }

  pub ahead_down : (old new : List SheetEntry) (k : ℕ) → TellsAhead (plain.graph (edges rs)) (plain.Channel (count Channel rs)) plain.told old new k → TellsAhead (graph rs) IsChannel (told rs) old new k
  unfolding node
  ahead_down old new k t =
      let d : Below t.start t.walk (channel t.end) = down t.start t.walk (channel t.end) t.channel t.goes in
      let size : length d.walk ≡ length t.walk = sym (length-map d.walk (edge rs)) ∙ ap length d.same in
      record {
        start = d.start;
        end = channel t.end;
        walk = d.walk;
        goes = d.goes;
        channel = refl;
        heavy = omega (arith, ints, t.heavy, heavy_down t.walk d.walk d.same);
        apart = subst (λ (m : ℕ). Apart (at (graph rs) d.start d.walk) (suc m)) (sym size) (apart_down t.start t.walk (channel t.end) d (suc (length t.walk)) t.apart);
        long = size ∙ t.long;
        listed = t.listed ∙ ap (λ (l : List SheetEntry). l ++ drop k old) (listed_down t.walk d.walk d.same);
      }
