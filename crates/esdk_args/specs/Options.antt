-- The options, by what stands behind them: a name, a number, or nothing.
use Rattle.std.specs.Prelude.{ℕ, List, ◌++◌, codes}
use Rattle.esdk_args.specs.declared.options.FlagOption.{FlagOption}
use Rattle.esdk_args.specs.declared.options.FlagOption.TheVariants.{AllowUncommitted, Armour}
use Rattle.esdk_args.specs.declared.options.NameOption.TheVariants.{Keyring, Jobs, From, ToKeyring}
use Rattle.esdk_args.specs.declared.options.OptionName.{OptionName}
use Rattle.esdk_args.specs.declared.options.OptionName.TheVariants.{Frame, MaxKeys, MaxUnit}
use Rattle.esdk_args.specs.declared.options.OptionName.TheVariants.{Retire, Seed, Size, At, Count}
use Rattle.esdk_args.specs.declared.options.ValueOption.{ValueOption}
use Rattle.esdk_args.specs.declared.options.ValueOption.TheVariants.{Name, Number}

-- ---- an option with a number

-- its name, which stands behind two dashes
abbrev pub option_name : OptionName → List ℕ
option_name Frame = codes "frame"
option_name MaxKeys = codes "max-keys"
option_name MaxUnit = codes "max-unit"
option_name Retire = codes "retire"
option_name Seed = codes "seed"
option_name Size = codes "size"
option_name At = codes "at"
option_name Count = codes "count"

-- the least number that it takes
abbrev pub least : OptionName → ℕ
least Seed = 0
least Size = 0
least At = 0
least Count = 0
least name = 1

-- the greatest
abbrev pub greatest : OptionName → ℕ
greatest Frame = 4294967295
greatest MaxKeys = 65535
greatest MaxUnit = 68719476704
greatest Retire = 1048576
greatest Seed = 18446744073709551615
greatest Size = 67108864
greatest At = 4611686018427387904
greatest Count = 4611686018427387904

-- ---- the others

-- the name of an option with a value
abbrev pub value_name : ValueOption → List ℕ
value_name (Name Keyring) = codes "keyring"
value_name (Name Jobs) = codes "jobs"
value_name (Name From) = codes "from"
value_name (Name ToKeyring) = codes "to-keyring"
value_name (Number option) = option_name option

-- the name of a flag
abbrev pub flag_name : FlagOption → List ℕ
flag_name AllowUncommitted = codes "allow-uncommitted"
flag_name Armour = codes "armour"

-- ---- as they are written

-- a name behind two dashes
abbrev pub dashed : List ℕ → List ℕ
dashed name = codes "--" ++ name

-- the option with a number as it is written
abbrev pub option_text : OptionName → List ℕ
option_text option = dashed (option_name option)
