use Rattle.std.proofs.Common.{◌≡◌, ℕ, ◌^◌, ◌<◌, length, pos, Some, sym, ap, ◌∙◌, inl, inr, arith}
use denote.Enum.Bare.{same_false}
use Rattle.values.specs.contracts.types.«Type».{the_type}
use Rattle.values.specs.declared.types.«Type».TheVariants.{Bool}
use Rattle.values.specs.Types.{size, width}
use Rattle.values.specs.Values.{wrap}
use Rattle.values.proofs.Decoding.{two, fitting, decoded_some, digits}
use Rattle.values.proofs.Encoding.{decodes}
use Rattle.std.proofs.ByRecursion.{All-from_get_or}
use Rattle.std.specs.Int.Digits.{number_from_digits}
use Rattle.byteorder.specs.Numbers.{big_from-lt}
use Rattle.values.specs.Bytes.{decoded}
use Rattle.values.proofs.types.Type.decode.Goals as goal

pub returns : goal.returns
returns c =
    let t = c.args.self in
    let ws = c.args.bytes.now in
    let fits = λ (k : ℕ). (c.type_inv.bytes k).fits in
    let e : c.read_uint-word.result ≡ number_from_digits 256 ws = c.read_uint-word.ensures ∙ digits ws in
    let l : length ws ≡ size t = omega arith in
    let b : number_from_digits 256 ws < 256 ^ length ws = rw (← digits ws) (big_from-lt 0 (length ws) ws fits) in
    let small : number_from_digits 256 ws < 2 ^ width t = elim c.else-eq.either [ inl p ↦ omega (arith, e, two t) | inr q ↦ fitting t _ _ (same_false the_type t Bool (sym c.eq.ensures ∙ q)) l b ] in
    let is : Some c.from_word.result ≡ decoded t ws = ap Some (c.from_word.ensures ∙ ap (λ x. wrap t (pos x)) e) ∙ sym (decoded_some t ws l small) in
    record { value = is; law = rw is (decodes t ws (All-from_get_or (λ b. b < 256) ws 0 (λ i _. fits i))) }
