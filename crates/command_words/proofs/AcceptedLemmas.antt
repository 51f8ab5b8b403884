-- Words that ask for a command: `clap` takes them, and what it finds says that command.
use Rattle.std.proofs.Common.{◌≡◌, ◌∙◌, Bool, true, false, cond, ◌&&◌, List, [], ◌∷◌, ◌++◌, Option, Some, None, find, fold, option_and_then, slice_get, is_some, refl, sym, ap, inl, inr, bytes_eq, codes}
use Rattle.std.specs.List.{list_all}
use Rattle.std.proofs.lemmas.Bool.{and_from, cases_Bool, cond-false, true≢false}
use Rattle.std.proofs.lemmas.Option.{none-some}
use Rattle.clap.specs.Walk.{Row, Rule, Text, Walk, default_rows, finished, first_of, has_row, more_values, nothing_held, reading_by, rows_after, rows_of, walk_from, with_default, with_values}
use Rattle.clap.specs.Matches.{first_value, found_of}
use Rattle.clap.specs.declared.parser.matches.ArgMatches.{ArgMatches}
use Rattle.clap.specs.declared.parser.matches.Found.{Found}
use Rattle.clap.proofs.WalkLemmas.{first_value-rows}
use Rattle.clap.specs.Simple.{App, HasMatchesOf, entered, is_simple, matches_of, names_of}
use Rattle.clap.specs.Takes.{built_takes, default_passes, entered_passes, is_valid, settle_passes, takes, walk_passes}
use Rattle.clap.specs.declared.builder.value_parser.Reading.TheVariants as readings
use Rattle.clap.specs.declared.parser.matches.ValueSource.TheVariants.{DefaultValue}
use Rattle.command_words.specs.declared.arguments.Argument.{Argument}
use Rattle.command_words.specs.declared.commands.Command.{Command}
use Rattle.command_words.specs.Arguments.{arguments_of}
use Rattle.command_words.specs.Commands.{command_from, command_of}
use Rattle.command_words.specs.Private.Program.{command_given, program}
use Rattle.command_words.proofs.ProgramFacts.{built_is, defaults_pass, flag, help, none_is_required, number, rules, rules_are_free, shape, simple_is, whole}
use Rattle.command_words.proofs.RowLemmas.{at_row-missing, rows_say}
use Rattle.command_words.proofs.StepLemmas.{held}
use Rattle.command_words.proofs.WordLemmas.{words_are}

-- ---- defaults

same_either : (b : Bool) (rows others : List Row) → others ≡ rows → cond b rows others ≡ rows
same_either true rows others h = refl
same_either false rows others h = h

-- an argument without a default adds nothing
no_default : (rows : List Row) (rule : Rule) → rule.defaults ≡ [] → with_default rows rule ≡ rows
no_default rows rule none =
    same_either (has_row rule.id rows) rows (default_rows rule.id (reading_by rule) rule.defaults rows)
    (ap (λ defaults. default_rows rule.id (reading_by rule) defaults rows) none)

defaults_added : (rows : List Row) → fold with_default rows rules ≡ with_default rows (flag (codes "open"))
unfolding rules
defaults_added rows =
    let after_open = with_default rows (flag (codes "open")) in
    let after_new = with_default after_open (number (codes "new")) in
    let after_soak = with_default after_new (number (codes "soak")) in
    let after_limit = with_default after_soak (number (codes "limit")) in
    let after_seed = with_default after_limit (number (codes "seed")) in
    let after_workers = with_default after_seed (number (codes "workers")) in
    no_default after_workers help refl ∙ no_default after_seed (number (codes "workers")) refl ∙ no_default after_limit (number (codes "seed")) refl
    ∙ no_default after_soak (number (codes "limit")) refl ∙ no_default after_new (number (codes "soak")) refl ∙ no_default after_open (number (codes "new")) refl

find_end : (p : Row → Bool) (rows : List Row) (row : Row) → p row ≡ false → find p (rows ++ row ∷ []) ≡ find p rows
find_end p [] row miss = rw miss refl
find_end p (first ∷ rows) row miss = ap (cond (p first) (Some first)) (find_end p rows row miss)

abbrev default_row : Row
default_row = record { id = codes "open"; values = codes "false" ∷ []; count = None; source = Some DefaultValue; reading = readings.AsWritten }

-- the default of `--open` leaves the texts of others
open_default : (name : Text) (rows : List Row) → bytes_eq (codes "open") name ≡ false
    → first_of name (with_default rows (flag (codes "open"))) ≡ first_of name rows
open_default name rows miss = elim (cases_Bool (has_row (codes "open") rows)) [
  | inl there ↦ rw there refl
  | inr none ↦
      let last : with_default rows (flag (codes "open")) ≡ rows ++ default_row ∷ [] =
      cond-false (has_row (codes "open") rows) rows (with_values (codes "open") readings.AsWritten DefaultValue (codes "false" ∷ []) rows) none
      ∙ at_row-missing (codes "open") (more_values DefaultValue (codes "false" ∷ [])) (default_row ∷ []) rows none in
      ap (first_of name) last
      ∙ ap (option_and_then (λ (row : Row). slice_get row.values 0)) (find_end (λ (row : Row). bytes_eq row.id name) rows default_row miss)
]

-- ---- the whole command line

same_texts : (f g : Text → Option Text) → f (codes "new") ≡ g (codes "new") → f (codes "soak") ≡ g (codes "soak") → f (codes "limit") ≡ g (codes "limit")
    → f (codes "seed") ≡ g (codes "seed") → f (codes "workers") ≡ g (codes "workers") → command_given f ≡ command_given g
same_texts f g new soak limit seed workers = rw (new, soak, limit, seed, workers) refl

four : (a b c d : Bool) → a ≡ true → b ≡ true → c ≡ true → d ≡ true → (a && (b && (c && d))) ≡ true
four a b c d first second third fourth = and_from a _ first (and_from b _ second (and_from c d third fourth))

valid : (rows : List Row) → is_valid shape rows false ≡ true
valid rows = and_from _ _ rules_are_free (none_is_required rows)

-- what is asked after this walk over the words
abbrev level_passes_at : List Text → Walk → Bool
level_passes_at words walk =
    entered_passes whole walk.stopped
    && (walk_passes shape [] (walk_from nothing_held) words
    && (settle_passes rules false walk.held
    && (list_all default_passes rules && is_valid shape (finished rules walk.held) (is_some (entered whole walk.stopped)))))

pub record IsAccepted (words : List Text) (command : Command) : Type 0 where
  pub taken : takes program words ≡ true
  pub says : command_given (λ name. first_of name (matches_of program words)) ≡ Some command

accepted_as : (words : List Text) (arguments : List Argument) (command : Command) → arguments_of words ≡ Some arguments
    → command_from arguments ≡ Some command → IsAccepted words command
unfolding program
accepted_as words arguments command is h =
    let all = words_are words arguments is in
    let say = rows_say all.rows arguments command all.are h in
    let ends = all.goes [] [] None refl refl say.fits in
    let found : matches_of program words ≡ with_default all.rows (flag (codes "open")) =
    ap (λ (app : App). rows_after app.top.rules (names_of app) words) built_is ∙ ap (λ (walk : Walk). finished rules walk.held) ends.walks
    ∙ ap (λ rows. fold with_default rows rules) ends.settled ∙ defaults_added all.rows in
    let level : built_takes whole nothing_held words ≡ true =
    ap (level_passes_at words) ends.walks
    ∙ four _ _ _ _ ends.passes ends.settles defaults_pass (valid (finished rules (held ends.last ends.left))) in
    record {
      taken = and_from _ _ simple_is (ap (λ (app : App). built_takes app nothing_held words) built_is ∙ level);
      says = ap (λ rows. command_given (λ name. first_of name rows)) found
          ∙ same_texts (λ name. first_of name (with_default all.rows (flag (codes "open")))) (λ name. first_of name all.rows)
          (open_default (codes "new") all.rows refl) (open_default (codes "soak") all.rows refl) (open_default (codes "limit") all.rows refl)
          (open_default (codes "seed") all.rows refl) (open_default (codes "workers") all.rows refl)
          ∙ say.says;
    }

pub accepted : (words : List Text) (command : Command) → command_of words ≡ Some command → IsAccepted words command
unfolding command_of
accepted words command h = by_arguments (arguments_of words) refl h
  where
    by_arguments : (arguments : Option (List Argument)) → arguments_of words ≡ arguments → option_and_then command_from arguments ≡ Some command
        → IsAccepted words command
    by_arguments None is h = absurd (none-some command h)
    by_arguments (Some arguments) is h = accepted_as words arguments command is h

-- the texts of what was found say the command
pub says_so : (words : List Text) (command : Command) (found : Found) → command_of words ≡ Some command → rows_of found ≡ matches_of program words
    → command_given (λ name. first_value found name) ≡ Some command
says_so words command found asked rows =
    same_texts (λ name. first_value found name) (λ name. first_of name (matches_of program words))
    (first_value-rows found (codes "new") ∙ ap (first_of (codes "new")) rows) (first_value-rows found (codes "soak") ∙ ap (first_of (codes "soak")) rows)
    (first_value-rows found (codes "limit") ∙ ap (first_of (codes "limit")) rows) (first_value-rows found (codes "seed") ∙ ap (first_of (codes "seed")) rows)
    (first_value-rows found (codes "workers") ∙ ap (first_of (codes "workers")) rows)
    ∙ (accepted words command asked).says

-- what `clap` finds by the command line as it was made
pub found_as : (app : App) (words : List Text) (matches : ArgMatches) → app ≡ program → HasMatchesOf app words matches
    → rows_of (found_of matches) ≡ matches_of program words
found_as app words matches is h = (h (ap is_simple is ∙ simple_is)).0 ∙ ap (λ (app : App). matches_of app words) is

pub some_command : (command : Option Command) → is_some command ≡ true → (value : Command) × (command ≡ Some value)
some_command None h = absurd (true≢false (sym h))
some_command (Some value) h = (value, refl)
