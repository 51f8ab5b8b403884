-- The command line as `clap` builds it, and what it finds by the names of its arguments.
use Rattle.std.proofs.Common.{◌≡◌, ℕ, true, false, not, ◌||◌, List, [], ◌∷◌, ◌++◌, Some, None, refl, bytes_eq, codes}
use Rattle.std.specs.List.{list_all}
use Rattle.clap.specs.Lexer.{long_of}
use Rattle.clap.specs.Walk.{Row, Rule, arg_by_id, arg_by_long}
use Rattle.clap.specs.Simple.{App, Shape, built, help_rule, is_simple, new_shape}
use Rattle.clap.specs.Takes.{default_passes, is_given}
use Rattle.clap.specs.declared.builder.value_parser.ValueParser.TheVariants as parsers
use Rattle.clap.proofs.OnLiterals.{clap_on_literals}
use Rattle.command_words.specs.Private.Program.{flag_rule, number_rule, program}

-- an argument that takes no text, as it is built
abbrev pub flag : List ℕ → Rule
flag name = record (flag_rule name) {
  parser = Some parsers.Bool;
  range = Some (record { start_inclusive = 0; end_inclusive = 0 });
  defaults = codes "false" ∷ [];
  missing = codes "true" ∷ [];
}

-- an argument that takes a text
abbrev pub number : List ℕ → Rule
number name = record (number_rule name) { parser = Some parsers.String; range = Some (record { start_inclusive = 1; end_inclusive = 1 }) }

-- the request for help, which the words of the grammar never are
abbrev pub help : Rule
help = record help_rule { parser = Some parsers.String; range = Some (record { start_inclusive = 0; end_inclusive = 0 }) }

-- the arguments in their order
unfoldable pub rules : List Rule
rules =
    flag (codes "open") ∷ number (codes "new") ∷ number (codes "soak") ∷ number (codes "limit") ∷ number (codes "seed") ∷ number (codes "workers") ∷ help ∷ []

-- the command line
abbrev pub shape : Shape
shape = record (new_shape (codes "gdoi_console")) { rules = rules; no_binary_name = true; disable_help_subcommand = true; is_built = true }

abbrev pub whole : App
whole = record { top = shape; subs = [] }

pub built_is : built program ≡ whole
unfolding program rules
built_is = refl

pub simple_is : is_simple program ≡ true
unfolding program
simple_is = refl

pub defaults_pass : list_all default_passes rules ≡ true
unfolding rules clap_on_literals
defaults_pass = refl

pub rules_are_free : list_all (λ a. a.is_free) rules ≡ true
unfolding rules
rules_are_free = refl

pub none_is_required : (rows : List Row) → list_all (λ a. not a.required || is_given a.id rows) rules ≡ true
unfolding rules
none_is_required rows = refl

pub open_is : arg_by_long rules (codes "open") ≡ Some (flag (codes "open"))
unfolding rules
open_is = refl

-- an argument of this name takes a text
pub record IsNumber (name : List ℕ) : Type 0 where
  pub long : arg_by_long rules name ≡ Some (number name)
  pub by_id : arg_by_id rules name ≡ Some (number name)
  -- its name alone, and with a text after an equals sign
  pub alone : long_of (45 ∷ 45 ∷ name) ≡ Some (name, None)
  pub joined : (text : List ℕ) → long_of (45 ∷ 45 ∷ (name ++ 61 ∷ text)) ≡ Some (name, Some text)
  pub alone_goes_on : bytes_eq (45 ∷ 45 ∷ name) (45 ∷ 45 ∷ []) ≡ false
  pub joined_goes_on : (text : List ℕ) → bytes_eq (45 ∷ 45 ∷ (name ++ 61 ∷ text)) (45 ∷ 45 ∷ []) ≡ false
  pub same : bytes_eq name name ≡ true

pub new_is : IsNumber (codes "new")
unfolding rules
new_is = record { long = refl; by_id = refl; alone = refl; joined = λ text. refl; alone_goes_on = refl; joined_goes_on = λ text. refl; same = refl }

pub soak_is : IsNumber (codes "soak")
unfolding rules
soak_is = record { long = refl; by_id = refl; alone = refl; joined = λ text. refl; alone_goes_on = refl; joined_goes_on = λ text. refl; same = refl }

pub limit_is : IsNumber (codes "limit")
unfolding rules
limit_is = record { long = refl; by_id = refl; alone = refl; joined = λ text. refl; alone_goes_on = refl; joined_goes_on = λ text. refl; same = refl }

pub seed_is : IsNumber (codes "seed")
unfolding rules
seed_is = record { long = refl; by_id = refl; alone = refl; joined = λ text. refl; alone_goes_on = refl; joined_goes_on = λ text. refl; same = refl }

pub workers_is : IsNumber (codes "workers")
unfolding rules
workers_is = record { long = refl; by_id = refl; alone = refl; joined = λ text. refl; alone_goes_on = refl; joined_goes_on = λ text. refl; same = refl }
