-- Alarms offered one after another, and what a quota makes of them. Assumes nothing.
use Rattle.std.proofs.Common.{◌≡◌, ℕ, ◌+◌, ◌<◌, ◌≤◌, false, inl, inr, ⊎_elim, List, [], ◌∷◌, ◌++◌, length, take, Some, Option, sym, refl, ap, ◌∙◌, subst, arith}
use Rattle.std.proofs.lemmas.Bool.{cases_lt}
use Rattle.std.proofs.lemmas.List.{length-append, length-take-le}
use Rattle.std.proofs.lemmas.Option.{slice_get_within}
use Rattle.alarms.specs.declared.alarm.Alarm.{Alarm}
use Rattle.alarms.specs.declared.quota.Quota.{Quota}
use Rattle.alarms.specs.declared.sink.Sink.{Ghosts as Sink}
use Rattle.alarms.specs.Offers.{Ran, Takes, QuotasTake}
use Rattle.alarms.specs.Quotas.{limited, quota_over}
use Rattle.alarms.specs.Sinks.{View, has_place, Taken, TookAll, holding_after, latest_after}

module _ {S : Type 0} (sink : Sink S) where
  pub ran_more : (s t u : S) (xs : List Alarm) (x : Alarm) → Ran sink s xs t → sink.moves x t u → Ran sink s (xs ++ (x ∷ [])) u
  ran_more s t u [] x e m = (u, subst (λ y. sink.moves x y u) e m, refl)
  ran_more s t u (y ∷ ys) x p m = (p.0, p.1, ran_more p.0 t u ys x p.2 m)

  pub takes_all : (s t : S) (xs : List Alarm) (n : ℕ) → length xs ≤ n → n ≤ length xs → Ran sink s (take n xs) t → TookAll sink.adds (take n xs) (sink.view s) (sink.view t) → Takes sink s xs (length xs) t
  takes_all s t xs n all few ran took =
      let e : n ≡ length xs = omega (arith, all, few) in
      record {
        few = omega arith;
        ran = subst (λ k. Ran sink s (take k xs) t) e ran;
        took = subst (λ k. TookAll sink.adds (take k xs) (sink.view s) (sink.view t)) e took;
        ends = λ a next. absurd (omega (arith, slice_get_within xs (length xs) a next));
      }

latest_more : (l : Option Alarm) (xs : List Alarm) (x : Alarm) → latest_after l (xs ++ (x ∷ [])) ≡ Some x
latest_more l [] x = refl
latest_more l (y ∷ ys) x = latest_more (Some y) ys x

module _ {H : Type 0} (adds : H → Alarm → H) where
  holding_more : (h : H) (xs : List Alarm) (x : Alarm) → holding_after adds h (xs ++ (x ∷ [])) ≡ adds (holding_after adds h xs) x
  holding_more h [] x = refl
  holding_more h (y ∷ ys) x = holding_more (adds h y) ys x

  pub took_none : (v : View H) → TookAll adds [] v v
  took_none v = record { holding = refl; number = omega arith; latest = refl; fewer = omega arith; at_most = omega arith }

  -- one more behind those that were taken
  pub took_more : (u v w : View H) (xs : List Alarm) (x : Alarm) → TookAll adds xs u v → Taken adds x v w → TookAll adds (xs ++ (x ∷ [])) u w
  took_more u v w xs x p t =
      let l = length-append xs (x ∷ []) in
      record {
        holding = t.holding ∙ ap (λ h. adds h x) p.holding ∙ sym (holding_more u.holding xs x);
        number = omega (arith, l, p.number, t.number);
        latest = t.latest ∙ sym (latest_more u.latest xs x);
        fewer = omega (arith, p.fewer, t.fewer);
        at_most = omega (arith, l, p.at_most, t.by_one);
      }

  -- one more before those that were taken
  took_before : (u v w : View H) (x : Alarm) (xs : List Alarm) → Taken adds x u v → TookAll adds xs v w → TookAll adds (x ∷ xs) u w
  took_before u v w x xs t p =
      record {
        holding = p.holding ∙ ap (λ h. holding_after adds h xs) t.holding;
        number = omega (arith, p.number, t.number);
        latest = p.latest ∙ ap (λ l. latest_after l xs) t.latest;
        fewer = omega (arith, p.fewer, t.fewer);
        at_most = omega (arith, p.at_most, t.by_one);
      }

-- what passed a quota: each took one of its own, and the sink below took it
module _ {K : Type 0} (sink : Sink K) where
  passed : (q r : Quota K) (xs : List Alarm) → Ran (quota_over sink) q xs r → (q.left ≡ r.left + length xs) × Ran sink q.below xs r.below × TookAll sink.adds xs (sink.view q.below) (sink.view r.below)
  passed q r [] e =
      (let z = ap (λ (s : Quota K). s.left) e in omega (arith, z), ap (λ (s : Quota K). s.below) e, subst (λ (s : Quota K). TookAll sink.adds [] (sink.view q.below) (sink.view s.below)) (sym e) (took_none sink.adds (sink.view q.below)))
  passed q r (x ∷ xs) p =
      let m = p.0 in
      let t = p.1 in
      let rest = passed m r xs p.2 in (
        (let z = rest.0 in omega (arith, z, t.left)),
        (m.below, t.below, rest.1),
        took_before sink.adds (sink.view q.below) (sink.view m.below) (sink.view r.below) x xs t.taken rest.2,
      )

  -- a quota that has one left has a place where the sink below has one
  no_place : (left : ℕ) (v : View sink.Holding) (a : Alarm) → 0 < left → has_place (limited left v) a ≡ false → has_place v a ≡ false
  no_place left v a some none = grind (arith, some, none)

  pub quotas : QuotasTake sink
  quotas q r xs n t =
      let few = t.few in
      let long : length (take n xs) ≡ n = length-take-le n xs few in
      let p = passed q r (take n xs) t.ran in
      let count = p.0 in
      let less : 0 < r.left → Takes sink q.below xs n r.below =
      λ some. record { few = few; ran = p.1; took = p.2; ends = λ a next. no_place r.left (sink.view r.below) a some (t.ends a next) } in (
        omega (arith, count, long),
        omega (arith, count, long),
        p.1,
        ⊎_elim (λ some. inr (less some)) (λ none. inl (omega (arith, count, long, none))) (cases_lt 0 r.left),
      )
