-- What a word is found to be has the word, and each command and each option is found by its own.
-- Assumes nothing.
use Rattle.std.proofs.Common.{ℕ, ◌≡◌, refl, sym, ◌∙◌, Bool, true, false, cond, List, [], ◌∷◌, Option, None, Some, IfSome}
use Rattle.std.specs.Option.{option_map}
use Rattle.std.specs.List.{find}
use Rattle.std.specs.Str.{bytes_eq}
use Rattle.std.proofs.lemmas.Slice.Eq.{bytes_eq-Decides}
use Rattle.options.specs.Words.{command_word, option_word, CommandOf, OptionOf}
use Rattle.options.specs.declared.command.Command.{Command}
use Rattle.options.specs.declared.command.Command.TheVariants.{Cut, Show, Store, Fetch, Join, Compare, MoveCut, MoveWeigh, MoveCheck}
use Rattle.options.specs.declared.command.TheConstants.{ALL as commands}
use Rattle.options.specs.declared.option.Opt.{Opt}
use Rattle.options.specs.declared.option.Opt.TheVariants.{Order, Key, Stamp, Keeper, Length, Replace, From, Keepers, Help, Names}
use Rattle.options.specs.declared.option.TheConstants.{ALL as options}

found : {X : Type 0} (P : X → Type 0) (test : X → Bool) → ((x : X) → test x ≡ true → P x) → (xs : List X) → IfSome (find test xs) P
found P test passes [] = tt
found P test passes (x ∷ xs) = picked (test x) refl (found P test passes xs)
  where
    picked : (b : Bool) → test x ≡ b → IfSome (find test xs) P → IfSome (cond b (Some x) (find test xs)) P
    picked true e rest = passes x e
    picked false e rest = rest

same : {X : Type 0} (answer : Option X) → option_map (λ x. x) answer ≡ answer
same None = refl
same (Some x) = refl

own_command : (command : Command) → find (λ other. bytes_eq (command_word other) (command_word command)) commands ≡ Some command
own_command Cut = refl
own_command Show = refl
own_command Store = refl
own_command Fetch = refl
own_command Join = refl
own_command Compare = refl
own_command MoveCut = refl
own_command MoveWeigh = refl
own_command MoveCheck = refl

own_option : (option : Opt) → find (λ other. bytes_eq (option_word other) (option_word option)) options ≡ Some option
own_option Order = refl
own_option Key = refl
own_option Stamp = refl
own_option Keeper = refl
own_option Length = refl
own_option Replace = refl
own_option From = refl
own_option Keepers = refl
own_option Help = refl
own_option Names = refl

command_is : (word : List ℕ) → CommandOf word (find (λ command. bytes_eq (command_word command) word) commands)
command_is word =
    record {
      has = found (λ command. command_word command ≡ word) _ (λ command. (bytes_eq-Decides (command_word command) word).0) commands;
      each = λ command e. rw (← e) (own_command command);
    }

pub command_found : (word : List ℕ) (answer : Option Command) → option_map (λ x. x) answer ≡ find (λ command. bytes_eq (command_word command) word) commands → CommandOf word answer
command_found word answer e = rw (sym (same answer) ∙ e) (command_is word)

option_is : (word : List ℕ) → OptionOf word (find (λ option. bytes_eq (option_word option) word) options)
option_is word =
    record {
      has = found (λ option. option_word option ≡ word) _ (λ option. (bytes_eq-Decides (option_word option) word).0) options;
      each = λ option e. rw (← e) (own_option option);
    }

pub option_found : (word : List ℕ) (answer : Option Opt) → option_map (λ x. x) answer ≡ find (λ option. bytes_eq (option_word option) word) options → OptionOf word answer
option_found word answer e = rw (sym (same answer) ∙ e) (option_is word)
