-- What an alarm's arguments are, and what adding one does. Assumes nothing.
use Rattle.std.specs.Prelude.{◌≡◌, ◌<◌, List, [], ◌∷◌, ◌++◌, length, Ok, Err, Result}
use Rattle.values.specs.declared.value.Value.{Value}
use Rattle.alarms.specs.declared.alarm.Arguments.{Arguments}
use Rattle.alarms.specs.declared.alarm.Arguments.TheVariants as args

-- their values, in order
abbrev pub arguments : Arguments → List Value
arguments args.None = []
arguments (args.One a) = a ∷ []
arguments (args.Two a b) = a ∷ b ∷ []
arguments (args.Three a b c) = a ∷ b ∷ c ∷ []
arguments (args.Four a b c d) = a ∷ b ∷ c ∷ d ∷ []

-- a value is added behind fewer than four others; behind four it is given back, and nothing changes
abbrev pub Pushes : Value → Arguments → Arguments → Result (Unit {0}) Value → Type 0
Pushes v old new (Ok _) = (length (arguments old) < 4) × (arguments new ≡ arguments old ++ (v ∷ []))
Pushes v old new (Err w) = (length (arguments old) ≡ 4) × (w ≡ v) × (new ≡ old)

-- arguments of the same values are the same
abbrev pub IsDetermined : Arguments → Type 0
IsDetermined a = (other : Arguments) → arguments other ≡ arguments a → other ≡ a
