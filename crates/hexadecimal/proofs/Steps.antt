-- The bytes of a text, a pair of digits at a time: a loop's steps. Assumes nothing.
use Rattle.std.proofs.Common.{◌≡◌, ℕ, zero, suc, ◌+◌, ◌*◌, ◌/◌, ◌%◌, ◌<◌, ◌≤◌, List, [], ◌∷◌, ◌++◌, length, get_or, drop, Some, None, Option, Result, Ok, Err, inl, inr, sym, refl, ap, subst, ◌∙◌, arith}
use Rattle.std.proofs.lemmas.Bool.{cases_lt}
use Rattle.std.proofs.lemmas.Bool.Decides.{nat_tests}
use Rattle.std.proofs.lemmas.List.{append-nil, append_assoc, drop_more, at_drop_all}
use Rattle.std.specs.Option.{option_map}
use Rattle.std.specs.Prelude.{IsSome}
use Rattle.std.specs.Result.{result_ok}
use Rattle.std.specs.Simd.{first_chunks}
use Rattle.hex.specs.Hex.{decode_sized, decode_pairs, digit_or_error, hex_digit_value, ◌>>=◌}
use Rattle.hex.specs.declared.error.FromHexError.{FromHexError}
use Rattle.hexadecimal.specs.Hexadecimal.{then, digit_of, byte_of, bytes_of}

digit_same : (c : ℕ) → hex_digit_value c ≡ digit_of c
digit_same c = grind (arith, nat_tests)

-- a pair of digits, by what each of them is
pair_same : (x y : ℕ) (a b : Option ℕ)
    → result_ok ((digit_or_error x 0 a >>= λ h. digit_or_error y 1 b >>= λ l. Ok (h * 16 + l)) >>= λ v. Ok (v ∷ []))
    ≡ option_map (λ v. v ∷ []) (then a (λ h. then b (λ l. Some (16 * h + l))))
pair_same x y None b = refl
pair_same x y (Some h) None = refl
pair_same x y (Some h) (Some l) = ap (λ v. Some (v ∷ [])) (omega arith)

one_pair : (x y : ℕ) → result_ok (decode_sized (x ∷ (y ∷ [])) 1) ≡ option_map (λ v. v ∷ []) (byte_of x y)
unfolding decode_pairs
one_pair x y = rw (← digit_same x, ← digit_same y) (pair_same x y (hex_digit_value x) (hex_digit_value y))

some_head : (o : Option ℕ) (bs : List ℕ) → Some bs ≡ option_map (λ v. v ∷ []) o → Some (get_or bs 0 0) ≡ o
some_head None bs h = cc h
some_head (Some v) bs h = ap (option_map (λ l. get_or l 0 0)) h

none_head : (o : Option ℕ) → None ≡ option_map (λ v. v ∷ []) o → None ≡ o
none_head None h = refl
none_head (Some v) h = cc h

-- a pair among the first pairs of a text
pair_at : (k : ℕ) (xs : List ℕ) (i : ℕ) (d : List ℕ) → i < k → 2 * k ≤ length xs → get_or (first_chunks 2 k xs) i d ≡ get_or xs (2 * i) 0 ∷ (get_or xs (2 * i + 1) 0 ∷ [])
pair_at zero xs i d lt h = absurd (omega arith)
pair_at (suc k) [] i d lt h = absurd (omega arith)
pair_at (suc k) (x ∷ []) i d lt h = absurd (omega arith)
pair_at (suc k) (x ∷ (y ∷ xs)) zero d lt h = refl
pair_at (suc k) (x ∷ (y ∷ xs)) (suc i) d lt h =
    let first : 2 * suc i ≡ suc (suc (2 * i)) = omega arith in
    let second : 2 * suc i + 1 ≡ suc (suc (2 * i + 1)) = omega arith in
    rw (second, first) (pair_at k xs i d (omega arith) (omega arith))

-- a pair of a text that is cut into pairs
pub pair_of : (text : List ℕ) (pairs : List (List ℕ)) (i : ℕ) → pairs ≡ first_chunks 2 (length text / 2) text → 2 * i + 1 < length text → get_or pairs i [] ≡ get_or text (2 * i) 0 ∷ (get_or text (2 * i + 1) 0 ∷ [])
pair_of text pairs i cut inside = ap (λ l. get_or l i []) cut ∙ pair_at (length text / 2) text i [] (omega arith) (omega arith)

then_none : {X Y : Type 0} (o : Option X) → then {X = X} {Y = Y} o (λ _. None) ≡ None
then_none None = refl
then_none (Some x) = refl

-- an odd count of digits writes nothing
pub odd_none : (xs : List ℕ) → length xs % 2 ≡ 1 → bytes_of xs ≡ None
unfolding bytes_of
odd_none [] h = absurd (omega arith)
odd_none (x ∷ []) h = refl
odd_none (x ∷ (y ∷ xs)) h =
    ap (λ o. then (byte_of x y) (λ b. option_map (λ bs. b ∷ bs) o)) (odd_none xs (omega arith)) ∙ then_none (byte_of x y)

-- bytes that were read before go in front
abbrev pub onto : List ℕ → Option (List ℕ) → Option (List ℕ)
onto xs o = option_map (λ bs. xs ++ bs) o

onto_nil : (o : Option (List ℕ)) → onto [] o ≡ o
onto_nil None = refl
onto_nil (Some bs) = refl

onto_one : (xs : List ℕ) (b : ℕ) (o : Option (List ℕ)) → onto xs (option_map (λ bs. b ∷ bs) o) ≡ onto (xs ++ (b ∷ [])) o
onto_one xs b None = refl
onto_one xs b (Some bs) = ap (λ l. Some l) (sym (append_assoc xs (b ∷ []) bs))

-- what was read of a text before its pair i
pub record Read (text items : List ℕ) (i : ℕ) : Type 0 where
  pub rest : bytes_of text ≡ onto items (bytes_of (drop (2 * i) text))
  pub first : 0 < i → IsSome (byte_of (get_or text 0 0) (get_or text 1 0))

-- nothing, at first
pub read_none : (text : List ℕ) → Read text [] 0
read_none text = record { rest = sym (onto_nil (bytes_of text)); first = λ h. absurd (omega (arith, h)) }

-- nothing is left
pub read_all : (text items : List ℕ) (i : ℕ) → Read text items i → length text ≤ 2 * i → Some items ≡ bytes_of text
unfolding bytes_of
read_all text items i r h =
    sym (r.rest ∙ at_drop_all (λ l. onto items (bytes_of l)) text (2 * i) h ∙ ap (λ l. Some l) (append-nil items))

module _ (text items : List ℕ) (i : ℕ) (r : Read text items i) (inside : 2 * i + 1 < length text) where
  abbrev pub pair : List ℕ
  pair = get_or text (2 * i) 0 ∷ (get_or text (2 * i + 1) 0 ∷ [])

  abbrev next : Option ℕ → Option (List ℕ)
  next o = onto items (then o (λ b. option_map (λ bs. b ∷ bs) (bytes_of (drop (2 * (i + 1)) text))))

  abbrev byte : Option ℕ
  byte = byte_of (get_or text (2 * i) 0) (get_or text (2 * i + 1) 0)

  step : bytes_of text ≡ next byte
  unfolding bytes_of
  step =
      let e : 2 * i + 1 + 1 ≡ 2 * (i + 1) = omega arith in
      let two = drop_more text (2 * i) 0 (omega arith) ∙ ap (λ l. get_or text (2 * i) 0 ∷ l) (drop_more text (2 * i + 1) 0 inside) in
      r.rest ∙ ap (λ l. onto items (bytes_of l)) (two ∙ ap (λ n. get_or text (2 * i) 0 ∷ (get_or text (2 * i + 1) 0 ∷ drop n text)) e)

  decoded : (d : Result (List ℕ) FromHexError) → decode_sized pair 1 ≡ d → result_ok d ≡ option_map (λ v. v ∷ []) byte
  decoded d h = sym (ap result_ok h) ∙ one_pair (get_or text (2 * i) 0) (get_or text (2 * i + 1) 0)

  -- one more byte
  pub read_more : (bs : List ℕ) → decode_sized pair 1 ≡ Ok bs → Read text (items ++ (get_or bs 0 0 ∷ [])) (i + 1)
  read_more bs h =
      let e = some_head byte bs (decoded (Ok bs) h) in record {
        rest = step ∙ ap next (sym e) ∙ onto_one items (get_or bs 0 0) _;
        first = λ _. elim (cases_lt 0 i) [
          | inl later ↦ r.first later
          | inr now ↦
              let z : i ≡ 0 = omega arith in
              subst (λ n. IsSome (byte_of (get_or text (2 * n) 0) (get_or text (2 * n + 1) 0))) z (subst IsSome e refl)
        ];
      }

  -- a pair that is no byte ends it
  pub read_stop : (e : FromHexError) → decode_sized pair 1 ≡ Err e → None ≡ bytes_of text
  read_stop e h = sym (step ∙ ap next (sym (none_head byte (decoded (Err e) h))))
