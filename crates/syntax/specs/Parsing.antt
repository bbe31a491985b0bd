-- What stands in bytes as an expression, or why nothing does. Assumes nothing.
use Rattle.std.specs.Prelude.{ℕ, zero, suc, List, Ok}
use Rattle.syntax.specs.declared.tree.Node.{Node}
use Rattle.syntax.specs.declared.tree.Node.TheVariants.{Constant, Channel, Stream, Unary, Cast, Binary, Choose}
use Rattle.syntax.specs.Answers.{Found, then}
use Rattle.syntax.specs.Heads.{head}
use Rattle.syntax.specs.Trees.{Exp, constant, channel, stream, unary, cast, binary, choose}

-- the expression of a head, where `sub` reads an operand
abbrev pub grown : (ℕ → Found Exp) → ℕ → Node → ℕ → Found Exp
grown sub at (Constant v) n = Ok (constant at v, n)
grown sub at (Channel i) n = Ok (channel at i, n)
grown sub at (Stream i d) n = Ok (stream at i d, n)
grown sub at (Unary o) n = then (sub n) (λ e m. Ok (unary at o e, m))
grown sub at (Cast t) n = then (sub n) (λ e m. Ok (cast at t e, m))
grown sub at (Binary o) n = then (sub n) (λ a m. then (sub m) (λ b k. Ok (binary at o a b, k)))
grown sub at Choose n = then (sub n) (λ a l. then (sub l) (λ b m. then (sub m) (λ c k. Ok (choose at a b c, k))))

-- an expression at most `depth` deep; with no level left no head is found, so that nothing is grown
unfoldable pub parse : ℕ → List ℕ → ℕ → Found Exp
parse zero bs at = then (head zero bs at) (grown (λ n. Ok (channel 0 0, n)) at)
parse (suc d) bs at = then (head (suc d) bs at) (grown (parse d bs) at)
