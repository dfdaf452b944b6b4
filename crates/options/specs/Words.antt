-- The words of the commands and of the options.
-- Assumes nothing.
use Rattle.std.specs.Prelude.{ℕ, ◌≡◌, List, codes, Option, Some, IfSome}
use Rattle.options.specs.declared.command.Command.{Command}
use Rattle.options.specs.declared.command.Command.TheVariants.{Cut, Show, Store, Fetch, Join, Compare, MoveCut, MoveWeigh, MoveCheck}
use Rattle.options.specs.declared.option.Opt.{Opt}
use Rattle.options.specs.declared.option.Opt.TheVariants.{Order, Key, Stamp, Keeper, Length, Replace, From, Keepers, Help, Names}

abbrev pub command_word : Command → List ℕ
command_word Cut = codes "cut"
command_word Show = codes "show"
command_word Store = codes "store"
command_word Fetch = codes "fetch"
command_word Join = codes "join"
command_word Compare = codes "compare"
command_word MoveCut = codes "move-cut"
command_word MoveWeigh = codes "move-weigh"
command_word MoveCheck = codes "move-check"

-- the command that has a word, and none where no command has it
pub record CommandOf (word : List ℕ) (answer : Option Command) : Type 0 where
  pub has : IfSome answer (λ command. command_word command ≡ word)
  pub each : (command : Command) → command_word command ≡ word → answer ≡ Some command

abbrev pub option_word : Opt → List ℕ
option_word Order = codes "--order"
option_word Key = codes "--key"
option_word Stamp = codes "--stamp"
option_word Keeper = codes "--keeper"
option_word Length = codes "--length"
option_word Replace = codes "--replace"
option_word From = codes "--from"
option_word Keepers = codes "--keepers"
option_word Help = codes "--help"
option_word Names = codes "--"

-- the option that has a word, and none where no option has it
pub record OptionOf (word : List ℕ) (answer : Option Opt) : Type 0 where
  pub has : IfSome answer (λ option. option_word option ≡ word)
  pub each : (option : Opt) → option_word option ≡ word → answer ≡ Some option
