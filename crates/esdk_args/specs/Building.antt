-- The request of each command, of what its words give.
use Rattle.std.specs.Prelude.{unwrap_or}
use Rattle.esdk_args.specs.declared.commands.CommandName.{CommandName}
use Rattle.esdk_args.specs.declared.commands.CommandName.TheVariants as commands
use Rattle.esdk_args.specs.declared.options.FlagOption.TheVariants.{AllowUncommitted, Armour}
use Rattle.esdk_args.specs.declared.options.NameOption.TheVariants.{Keyring, Jobs, From, ToKeyring}
use Rattle.esdk_args.specs.declared.options.OptionName.TheVariants.{Frame, MaxKeys, MaxUnit}
use Rattle.esdk_args.specs.declared.options.OptionName.TheVariants.{Retire, Seed, Size, At, Count}
use Rattle.esdk_args.specs.declared.request.Request.{Request}
use Rattle.esdk_args.specs.declared.request.Request.TheVariants as requests
use Rattle.esdk_args.specs.Values.{Given, required_name, required_number}

-- the request of a command
abbrev pub request_from : CommandName → Given → Request
request_from commands.List given = requests.List (record {
  uncommitted = given.flags AllowUncommitted;
  armour = given.flags Armour;
})
request_from commands.Encrypt given = requests.Encrypt (record {
  keyring = required_name given Keyring;
  frame = unwrap_or (given.numbers Frame) 4096;
  max_keys = given.numbers MaxKeys;
  armour = given.flags Armour;
  pairs = given.pairs;
})
request_from commands.Decrypt given = requests.Decrypt (record {
  keyring = required_name given Keyring;
  max_keys = given.numbers MaxKeys;
  max_unit = given.numbers MaxUnit;
  uncommitted = given.flags AllowUncommitted;
  armour = given.flags Armour;
  pairs = given.pairs;
})
request_from commands.Batch given = requests.Batch (required_name given Jobs)
request_from commands.Gen given =
    requests.Gen (required_number given Seed) (required_number given Size)
request_from commands.Extract given = requests.Extract (record {
  keyring = required_name given Keyring;
  from = required_name given From;
  at = required_number given At;
  count = required_number given Count;
  pairs = given.pairs;
})
request_from commands.Audit given = requests.Audit (required_name given Jobs)
request_from commands.Migrate given = requests.Migrate (record {
  keyring = required_name given Keyring;
  retire = given.numbers Retire;
})
request_from commands.Reseal given = requests.Reseal (record {
  keyring = required_name given Keyring;
  to_keyring = required_name given ToKeyring;
  frame = unwrap_or (given.numbers Frame) 4096;
  max_unit = given.numbers MaxUnit;
  uncommitted = given.flags AllowUncommitted;
  pairs = given.pairs;
})
