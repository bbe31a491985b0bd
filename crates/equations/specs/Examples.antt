-- Three small tables, and what their equations and rules give. Assumes nothing.
use Rattle.std.specs.Prelude.{◌≡◌, List, [], ◌∷◌, true, ◌==◌}
use Rattle.values.specs.declared.types.«Type».TheVariants as type
use Rattle.values.specs.declared.value.Value.TheVariants.{Bool, Word8, Word64}
use Rattle.operators.specs.declared.operator.Unary.TheVariants.{Not}
use Rattle.operators.specs.declared.operator.Binary.TheVariants.{Add}
use Rattle.syntax.specs.Trees as tree
use Rattle.syntax.specs.Entries.{Entry}
use Rattle.syntax.specs.Entries as entry
use Rattle.evaluation.specs.Meaning.{Samples, Values}
use Rattle.equations.specs.Equations.{OneSet}
use Rattle.equations.specs.Alarms.{called}

-- stream 0 is m3 = [0, 1, 2] ++ m2, and stream 1 is m2 = drop 1 m3, in Word8, each node with its place in the bytes
abbrev pub m3_and_m2 : List Entry
m3_and_m2 =
    entry.stream type.Word8 (Word8 0 ∷ Word8 1 ∷ Word8 2 ∷ []) (tree.stream 9 1 0)
    ∷ entry.stream type.Word8 [] (tree.stream 17 0 1)
    ∷ []

-- m2 is 1, 2, 1, 2 after four ticks
abbrev pub M2Repeats : Type 0
M2Repeats =
    (x : Samples) (set : OneSet m3_and_m2 x 4) →
    (set.values 1 0 ≡ Word8 1) × (set.values 1 1 ≡ Word8 2) × (set.values 1 2 ≡ Word8 1) × (set.values 1 3 ≡ Word8 2)

-- m0 = [0, 1, 2] ++ (channel 0 + 3), m1 = m0 + m0 and m2 = drop 2 m1, in Word64
abbrev pub m0_to_m2 : List Entry
m0_to_m2 =
    entry.channel type.Word64
    ∷ entry.stream type.Word64 (Word64 0 ∷ Word64 1 ∷ Word64 2 ∷ []) (tree.binary 34 Add (tree.channel 35 0) (tree.constant 37 (Word64 3)))
    ∷ entry.stream type.Word64 [] (tree.binary 52 Add (tree.stream 53 0 0) (tree.stream 56 0 0))
    ∷ entry.stream type.Word64 [] (tree.stream 64 1 2)
    ∷ []

-- m2 is 4 at index 0, and 26 at index 1 where the sample of tick 0 is 10
abbrev pub M2LooksAhead : Type 0
M2LooksAhead =
    (x : Samples) → x 0 0 ≡ Word64 10 → (set : OneSet m0_to_m2 x 2) → (set.values 2 0 ≡ Word64 4) × (set.values 2 1 ≡ Word64 26)

-- one rule whose guard is the channel, with the channel as its argument, and one whose guard is its opposite, with none
abbrev pub two_rules : List Entry
two_rules =
    entry.channel type.Bool
    ∷ entry.rule (tree.channel 0 0) (tree.channel 0 0 ∷ [])
    ∷ entry.rule (tree.unary 0 Not (tree.channel 0 0)) []
    ∷ []

-- where the channel is true at tick 0 alone, the one calls at tick 0 and the other at ticks 1 and 2
abbrev pub CallsInTurn : Type 0
CallsInTurn =
    (v : Values) →
    called two_rules (λ t c. Bool (t == 0)) v 3 ≡
    record { tick = 0; rule = 0; arguments = Bool true ∷ [] } ∷ record { tick = 1; rule = 1; arguments = [] } ∷ record { tick = 2; rule = 1; arguments = [] } ∷ []
