-- What is told of a line, and of all lines of an input. Assumes nothing.
use Rattle.std.specs.Prelude.{◌≡◌, ◌≢◌, ℕ, ◌==◌, cond, ◌||◌, List, [], ◌∷◌, ◌++◌, length, slice_index, Some, None, Ok, codes, Option, Result, String, string_bytes}
use Rattle.std.specs.Fn.{Shared, FnReturns, FnReturnsAt}
use Rattle.std.specs.Io.BufRead.{first_line, drop_through}
use Rattle.std.specs.List.{flat_map}
use Rattle.std.specs.Str.{bytes_eq, trim}
use Rattle.std.specs.declared.alloc.AllocError.{AllocError}
use Rattle.std.specs.declared.alloc.Global.{Global}
use denote.Ref.{Bor}
use Rattle.hexadecimal.specs.Hexadecimal.{bytes_of}

-- the bytes of a table that a line writes: - for none, else hexadecimal
abbrev pub table_of : List ℕ → Option (List ℕ)
table_of text = cond (bytes_eq text (codes "-")) (Some []) (bytes_of text)

-- what is told of a line's bytes is what a call of `judge` at them answers; without bytes it is that the line is not hexadecimal
abbrev pub TellsBy : {F : Type 0} → Shared F (Bor (List ℕ) × Unit {0}) (Result (String Global) AllocError) → F → Option (List ℕ) → String Global → Type 0
TellsBy g judge (Some bytes) told = FnReturnsAt g judge bytes (Ok told)
TellsBy g judge None told = string_bytes told ≡ codes "not hexadecimal"

-- the lines of an input, without their line breaks
abbrev pub Split : List ℕ → List (List ℕ) → Type 0
Split input [] = input ≡ []
Split input (line ∷ lines) = (input ≢ []) × (line ≡ first_line input) × Split (drop_through 10 input) lines

-- the line's text without white space around it, if it counts: a blank one does not, nor one that begins with #
abbrev pub text_of : List ℕ → Option (List ℕ)
text_of line = cond (length (trim line) == 0 || slice_index (trim line) 0 == 35) None (Some (trim line))

-- a call of `tell` at this text answered `told`
abbrev pub Answers : {F : Type 0} → Shared F (Global × (Bor (List ℕ) × Unit {0})) (Result (String Global) AllocError) → F → Global → List ℕ → String Global → Type 0
Answers g tell alloc text told = (shown : Bor (List ℕ)) × (shown.now ≡ text) × FnReturns g tell (alloc, (shown, tt)) (Ok told)

-- all that was told, with a line break after each
abbrev pub written : List (String Global) → List ℕ
written told = flat_map (λ t. string_bytes t ++ (10 ∷ [])) told
