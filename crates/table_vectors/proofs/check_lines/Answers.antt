use Rattle.std.proofs.Common.{List, [], ◌∷◌, subst, string_bytes}
use Rattle.std.proofs.lemmas.Result.{IfOk-weaker}
use Rattle.std.specs.List.{AllZip, filter_map}
use Rattle.programs.specs.Telling.{table_of, text_of}
use Rattle.table_vectors.specs.Telling.{Told}
use Rattle.table_vectors.proofs.check_lines.Goals as goal

zip_weaker : {A B : Type 0} (P Q : A → B → Type 0) → ((x : A) (y : B) → P x y → Q x y) → (xs : List A) (ys : List B) → AllZip P xs ys → AllZip Q xs ys
zip_weaker P Q f [] [] h = tt
zip_weaker P Q f [] (y ∷ ys) h = absurd h
zip_weaker P Q f (x ∷ xs) [] h = absurd h
zip_weaker P Q f (x ∷ xs) (y ∷ ys) h = (f x y h.0, zip_weaker P Q f xs ys h.1)

pub returns : goal.returns
returns g c =
    IfOk-weaker c.tell_lines.result _ _
    (λ _ h. (h.0, h.1, h.2, zip_weaker _ _ (λ text t a. subst (λ l. Told (table_of l) (string_bytes t)) a.1 a.2.met.1) (filter_map text_of h.0) h.1 h.3, h.4))
    c.tell_lines.ensures
