-- What a read answers, and what it reads. Assumes nothing.
use Rattle.std.proofs.Common.{◌≡◌, Some, None, Ok, Err, Option, Result, ok_or, refl, ap}
use Rattle.std.specs.Result.{result_ok}

-- the same answer with the fault as another layer sees it
pub ok_or_err : {A E F : Type 0} (f : E → F) (o : Option A) (e x : E) (r : Result A E) → r ≡ ok_or o e → r ≡ Err x → Err (f x) ≡ ok_or o (f e)
ok_or_err f None e x r h k = let z : x ≡ e = cc in ap (λ y. Err (f y)) z
ok_or_err f (Some v) e x r h k = absurd (cc)

pub ok_or_ok : {A E F : Type 0} (o : Option A) (e : E) (d : F) (v : A) (r : Result A E) → r ≡ ok_or o e → r ≡ Ok v → Ok v ≡ ok_or o d
ok_or_ok None e d v r h k = absurd (cc)
ok_or_ok (Some w) e d v r h k = let z : v ≡ w = cc in ap Ok z

pub ok_of : {A E : Type 0} (o : Option A) (e : E) → result_ok (ok_or o e) ≡ o
ok_of None e = refl
ok_of (Some v) e = refl
