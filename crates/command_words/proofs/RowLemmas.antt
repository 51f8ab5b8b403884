-- What `clap` found, as rows, each for one argument of the words.
use Rattle.std.proofs.Common.{◌≡◌, ◌∙◌, ◌⊎◌, ℕ, suc, ◌≤◌, ◌-◌, ◌^◌, true, false, cond, List, [], ◌∷◌, ◌++◌, length, Option, Some, None, option_map, filter_map, refl, sym, ap, ap₂, subst, inl, inr, arith, bytes_eq, codes, append_assoc}
use Rattle.std.specs.List.{AllZip, cons_option}
use Rattle.std.specs.Option.{is_some}
use Rattle.std.proofs.lemmas.Bool.{cases_Bool, or_from, or_parts, true≢false}
use Rattle.std.proofs.lemmas.List.{nil_from_length}
use Rattle.std.proofs.lemmas.Option.{none-some, same_Some}
use Rattle.clap.specs.Walk.{Row, at_row, first_of, has_row}
use Rattle.clap.specs.declared.builder.value_parser.Reading.TheVariants as readings
use Rattle.clap.specs.declared.parser.matches.ValueSource.TheVariants.{CommandLine}
use Rattle.command_words.specs.declared.arguments.Argument.{Argument}
use Rattle.command_words.specs.declared.arguments.Argument.TheVariants.{Opens, Limit, Seed, Workers}
use Rattle.command_words.specs.declared.commands.Command.{Command}
use Rattle.command_words.specs.declared.commands.Opening.{Opening}
use Rattle.command_words.specs.declared.commands.Opening.TheVariants.{New, Open, Soak}
use Rattle.command_words.specs.Arguments.{number_between}
use Rattle.command_words.specs.Commands.{command_from, limit_in, opening_in, seed_in, workers_in}
use Rattle.command_words.specs.Options.{one, one_or}
use Rattle.command_words.specs.Private.Program.{command_given, command_of_parts, number_given, opening_given}

-- the row of an argument that was used once, with this text
abbrev pub row_for : List ℕ → List ℕ → Row
row_for name text = record { id = name; values = text ∷ []; count = None; source = Some CommandLine; reading = readings.AsWritten }

-- the row of an argument whose text says this number
pub record HasNumber (name : List ℕ) (least greatest number : ℕ) (row : Row) : Type 0 where
  pub text : List ℕ
  pub is : row ≡ row_for name text
  pub reads : number_between least greatest text ≡ Some number

-- the row of an argument
abbrev pub IsRowOf : Row → Argument → Type 0
IsRowOf row (Opens (New depth)) = HasNumber (codes "new") 1 9 depth row
IsRowOf row (Opens Open) = row ≡ row_for (codes "open") (codes "true")
IsRowOf row (Opens (Soak number)) = HasNumber (codes "soak") 0 (2 ^ 64 - 1) number row
IsRowOf row (Limit limit) = HasNumber (codes "limit") 1 (2 ^ 32 - 1) limit row
IsRowOf row (Seed seed) = HasNumber (codes "seed") 0 (2 ^ 64 - 1) seed row
IsRowOf row (Workers workers) = HasNumber (codes "workers") 1 16 workers row

abbrev pub AreRowsOf : List Row → List Argument → Type 0
AreRowsOf = AllZip IsRowOf

-- the name of an argument
abbrev pub name_of : Argument → List ℕ
name_of (Opens (New depth)) = codes "new"
name_of (Opens Open) = codes "open"
name_of (Opens (Soak number)) = codes "soak"
name_of (Limit limit) = codes "limit"
name_of (Seed seed) = codes "seed"
name_of (Workers workers) = codes "workers"

row_id : (row : Row) (argument : Argument) → IsRowOf row argument → row.id ≡ name_of argument
row_id row (Opens (New depth)) h = ap (λ (row : Row). row.id) h.is
row_id row (Opens Open) h = ap (λ (row : Row). row.id) h
row_id row (Opens (Soak number)) h = ap (λ (row : Row). row.id) h.is
row_id row (Limit limit) h = ap (λ (row : Row). row.id) h.is
row_id row (Seed seed) h = ap (λ (row : Row). row.id) h.is
row_id row (Workers workers) h = ap (λ (row : Row). row.id) h.is

-- ---- rows by their names

-- where no row has the name, what is missing comes last
pub at_row-missing : (id : List ℕ) (change : Row → List Row) (missing rows : List Row) → has_row id rows ≡ false
    → at_row id change missing rows ≡ rows ++ missing
at_row-missing id change missing [] none = refl
at_row-missing id change missing (row ∷ rows) none =
    let parts = or_parts (bytes_eq row.id id) (has_row id rows) none in
    rw parts.0 (ap (λ rest. row ∷ rest) (at_row-missing id change missing rows parts.1))

-- how many rows have the name
abbrev pub rows_named : List ℕ → List Row → ℕ
rows_named name [] = 0
rows_named name (row ∷ rows) = cond (bytes_eq row.id name) (suc (rows_named name rows)) (rows_named name rows)

named_within : (name : List ℕ) (before : List Row) (row : Row) (after : List Row) → bytes_eq row.id name ≡ true → 1 ≤ rows_named name (before ++ row ∷ after)
named_within name [] row after same = rw same (omega arith)
named_within name (first ∷ before) row after same = elim (cases_Bool (bytes_eq first.id name)) [
  | inl hit ↦ rw hit (omega arith)
  | inr miss ↦ rw miss (named_within name before row after same)
]

-- a row whose name comes once at most is new after those before it
fresh : (name : List ℕ) (before : List Row) (row : Row) (after : List Row) → bytes_eq row.id name ≡ true → rows_named name (before ++ row ∷ after) ≤ 1
    → has_row name before ≡ false
fresh name [] row after same few = refl
fresh name (first ∷ before) row after same few = elim (cases_Bool (bytes_eq first.id name)) [
  | inl hit ↦ let two : suc (rows_named name (before ++ row ∷ after)) ≤ 1 = rw hit at few in absurd (omega (arith, named_within name before row after same))
  | inr miss ↦ or_from _ _ miss (fresh name before row after same (rw miss at few))
]

-- ---- each argument comes once at most

-- each of the rows is new after all before it
abbrev pub FitsAfter : List Row → List Row → Type 0
FitsAfter before [] = Unit {0}
FitsAfter before (row ∷ rows) = (has_row row.id before ≡ false) × FitsAfter (before ++ row ∷ []) rows

record IsOnce (rows : List Row) : Type 0 where
  new : rows_named (codes "new") rows ≤ 1
  open_group : rows_named (codes "open") rows ≤ 1
  soak : rows_named (codes "soak") rows ≤ 1
  limit : rows_named (codes "limit") rows ≤ 1
  seed : rows_named (codes "seed") rows ≤ 1
  workers : rows_named (codes "workers") rows ≤ 1

once_of : (rows : List Row) (argument : Argument) → IsOnce rows → rows_named (name_of argument) rows ≤ 1
once_of rows (Opens (New depth)) once = once.new
once_of rows (Opens Open) once = once.open_group
once_of rows (Opens (Soak number)) once = once.soak
once_of rows (Limit limit) once = once.limit
once_of rows (Seed seed) once = once.seed
once_of rows (Workers workers) once = once.workers

same_name : (argument : Argument) → bytes_eq (name_of argument) (name_of argument) ≡ true
same_name (Opens (New depth)) = refl
same_name (Opens Open) = refl
same_name (Opens (Soak number)) = refl
same_name (Limit limit) = refl
same_name (Seed seed) = refl
same_name (Workers workers) = refl

fits : (before rows : List Row) (arguments : List Argument) → AreRowsOf rows arguments → IsOnce (before ++ rows) → FitsAfter before rows
fits before [] arguments are once = tt
fits before (row ∷ rows) [] are once = absurd are
fits before (row ∷ rows) (argument ∷ arguments) are once =
    let name = name_of argument in
    let id = row_id row argument are.0 in
    let same : bytes_eq row.id name ≡ true = subst (λ id. bytes_eq id name ≡ true) (sym id) (same_name argument) in (
      subst (λ id. has_row id before ≡ false) (sym id) (fresh name before row rows same (once_of (before ++ row ∷ rows) argument once)),
      fits (before ++ row ∷ []) rows arguments are.1 (subst IsOnce (sym (append_assoc before (row ∷ []) rows)) once),
    )

-- ---- counts of arguments

module _ {X : Type 0} where
  le_cons : (item : Option X) (items : List X) → length items ≤ length (cons_option item items)
  le_cons None items = omega arith
  le_cons (Some item) items = omega arith

  suc-le_cons : (item : Option X) (items : List X) (n : ℕ) → is_some item ≡ true → n ≤ length items → suc n ≤ length (cons_option item items)
  suc-le_cons None items n some h = absurd (true≢false (sym some))
  suc-le_cons (Some item) items n some h = omega (arith, h)

  one_at_most : (items : List X) (item : X) → one items ≡ Some item → length items ≤ 1
  one_at_most [] item h = omega arith
  one_at_most (first ∷ []) item h = omega arith
  one_at_most (first ∷ second ∷ items) item h = absurd (none-some item h)

  one_or_at_most : (absent : X) (items : List X) (item : X) → one_or absent items ≡ Some item → length items ≤ 1
  one_or_at_most absent [] item h = omega arith
  one_or_at_most absent (first ∷ items) item h = one_at_most (first ∷ items) item h

  one_alone : (first : X) (items : List X) (item : X) → one (first ∷ items) ≡ Some item → (items ≡ []) × (first ≡ item)
  one_alone first [] item h = (refl, same_Some first item h)
  one_alone first (second ∷ items) item h = absurd (none-some item h)

  -- an argument of this name is of this kind
  abbrev HasKind : List ℕ → (Argument → Option X) → Type 0
  HasKind name kind = (row : Row) (argument : Argument) → IsRowOf row argument → bytes_eq (name_of argument) name ≡ true → is_some (kind argument) ≡ true

  -- rows of a name are no more than the arguments of their kind
  named_at_most : (name : List ℕ) (kind : Argument → Option X) → HasKind name kind
      → (rows : List Row) (arguments : List Argument) → AreRowsOf rows arguments → rows_named name rows ≤ length (filter_map kind arguments)
  named_at_most name kind links [] arguments are = omega arith
  named_at_most name kind links (row ∷ rows) [] are = absurd are
  named_at_most name kind links (row ∷ rows) (argument ∷ arguments) are =
      let rest = named_at_most name kind links rows arguments are.1 in
      let id = row_id row argument are.0 in
      elim (cases_Bool (bytes_eq row.id name)) [
        | inl hit ↦ rw hit (suc-le_cons (kind argument) (filter_map kind arguments) (rows_named name rows)
            (links row argument are.0 (subst (λ id. bytes_eq id name ≡ true) id hit)) rest)
        | inr miss ↦ rw miss (omega (arith, rest, le_cons (kind argument) (filter_map kind arguments)))
      ]

new_opens : HasKind (codes "new") opening_in
new_opens row (Opens opening) is h = refl
new_opens row (Limit limit) is h = h
new_opens row (Seed seed) is h = h
new_opens row (Workers workers) is h = h

open_opens : HasKind (codes "open") opening_in
open_opens row (Opens opening) is h = refl
open_opens row (Limit limit) is h = h
open_opens row (Seed seed) is h = h
open_opens row (Workers workers) is h = h

soak_opens : HasKind (codes "soak") opening_in
soak_opens row (Opens opening) is h = refl
soak_opens row (Limit limit) is h = h
soak_opens row (Seed seed) is h = h
soak_opens row (Workers workers) is h = h

-- ---- texts by their names

skipped : (name : List ℕ) (row : Row) (rows : List Row) → bytes_eq row.id name ≡ false → first_of name (row ∷ rows) ≡ first_of name rows
skipped name row rows miss = rw miss refl

taken : (name text : List ℕ) (rows : List Row) → bytes_eq name name ≡ true → first_of name (row_for name text ∷ rows) ≡ Some text
taken name text rows same = rw same refl

-- an argument of the kind has the name and a number, and any other has another name
abbrev Splits : List ℕ → ℕ → ℕ → (Argument → Option ℕ) → Type 0
Splits name least greatest kind = (row : Row) (argument : Argument) → IsRowOf row argument
    → ((number : ℕ) × (kind argument ≡ Some number) × HasNumber name least greatest number row)
    ⊎ ((kind argument ≡ None) × (bytes_eq (name_of argument) name ≡ false))

kind_by_name : (name : List ℕ) (least greatest : ℕ) (kind : Argument → Option ℕ) → Splits name least greatest kind → HasKind name kind
kind_by_name name least greatest kind splits row argument is same = elim (splits row argument is) [
  | inl has ↦ ap is_some has.1
  | inr other ↦ absurd (true≢false (sym same ∙ other.1))
]

-- the number of an argument that takes one
module _ (name : List ℕ) (least greatest : ℕ) (kind : Argument → Option ℕ) (same : bytes_eq name name ≡ true) (splits : Splits name least greatest kind)
  where
    number_found : (rows : List Row) (arguments : List Argument) → AreRowsOf rows arguments → (absent number : ℕ)
        → one_or absent (filter_map kind arguments) ≡ Some number → number_given least greatest absent (first_of name rows) ≡ Some number
    number_found [] [] are absent number h = h
    number_found [] (argument ∷ arguments) are absent number h = absurd are
    number_found (row ∷ rows) [] are absent number h = absurd are
    number_found (row ∷ rows) (argument ∷ arguments) are absent number h = elim (splits row argument are.0) [
      | inl has ↦
          let only : one (has.0 ∷ filter_map kind arguments) ≡ Some number =
          subst (λ item. one_or absent (cons_option item (filter_map kind arguments)) ≡ Some number) has.1 h in
          ap (λ row. number_given least greatest absent (first_of name (row ∷ rows))) has.2.is
          ∙ ap (number_given least greatest absent) (taken name has.2.text rows same) ∙ has.2.reads
          ∙ ap Some (one_alone has.0 (filter_map kind arguments) number only).1
      | inr other ↦
          let rest : one_or absent (filter_map kind arguments) ≡ Some number =
          subst (λ item. one_or absent (cons_option item (filter_map kind arguments)) ≡ Some number) other.0 h in
          let miss : bytes_eq row.id name ≡ false = subst (λ id. bytes_eq id name ≡ false) (sym (row_id row argument are.0)) other.1 in
          ap (number_given least greatest absent) (skipped name row rows miss) ∙ number_found rows arguments are.1 absent number rest
    ]

limit_splits : Splits (codes "limit") 1 (2 ^ 32 - 1) limit_in
limit_splits row (Opens (New depth)) h = inr (refl, refl)
limit_splits row (Opens Open) h = inr (refl, refl)
limit_splits row (Opens (Soak number)) h = inr (refl, refl)
limit_splits row (Limit limit) h = inl (limit, refl, h)
limit_splits row (Seed seed) h = inr (refl, refl)
limit_splits row (Workers workers) h = inr (refl, refl)

seed_splits : Splits (codes "seed") 0 (2 ^ 64 - 1) seed_in
seed_splits row (Opens (New depth)) h = inr (refl, refl)
seed_splits row (Opens Open) h = inr (refl, refl)
seed_splits row (Opens (Soak number)) h = inr (refl, refl)
seed_splits row (Limit limit) h = inr (refl, refl)
seed_splits row (Seed seed) h = inl (seed, refl, h)
seed_splits row (Workers workers) h = inr (refl, refl)

workers_splits : Splits (codes "workers") 1 16 workers_in
workers_splits row (Opens (New depth)) h = inr (refl, refl)
workers_splits row (Opens Open) h = inr (refl, refl)
workers_splits row (Opens (Soak number)) h = inr (refl, refl)
workers_splits row (Limit limit) h = inr (refl, refl)
workers_splits row (Seed seed) h = inr (refl, refl)
workers_splits row (Workers workers) h = inl (workers, refl, h)

-- ---- the opening

-- where no argument opens a group, no row has a name of one that does
nothing_named : (name : List ℕ) → HasKind name opening_in → (rows : List Row) (arguments : List Argument) → AreRowsOf rows arguments
    → filter_map opening_in arguments ≡ [] → first_of name rows ≡ None
nothing_named name links [] arguments are none = refl
nothing_named name links (row ∷ rows) [] are none = absurd are
nothing_named name links (row ∷ rows) (argument ∷ arguments) are none =
    let others = filter_map opening_in arguments in
    let empty : length (cons_option (opening_in argument) others) ≡ 0 = ap length none in
    elim (cases_Bool (bytes_eq row.id name)) [
      | inl hit ↦
          let opens = links row argument are.0 (subst (λ id. bytes_eq id name ≡ true) (row_id row argument are.0) hit) in
          absurd (omega (arith, empty, suc-le_cons (opening_in argument) others 0 opens (omega arith)))
      | inr miss ↦
          let rest : others ≡ [] = nil_from_length others (omega (arith, empty, le_cons (opening_in argument) others)) in
          skipped name row rows miss ∙ nothing_named name links rows arguments are.1 rest
    ]

-- the opening that the texts of rows ask for
abbrev opening_by : List Row → Option Opening
opening_by rows = opening_given (first_of (codes "new") rows) (first_of (codes "soak") rows)

opening_found : (rows : List Row) (arguments : List Argument) → AreRowsOf rows arguments → (opening : Opening)
    → one (filter_map opening_in arguments) ≡ Some opening → opening_by rows ≡ Some opening
opening_found [] [] are opening h = absurd (none-some opening h)
opening_found [] (argument ∷ arguments) are opening h = absurd are
opening_found (row ∷ rows) [] are opening h = absurd are
opening_found (row ∷ rows) (Opens (New depth) ∷ arguments) are opening h =
    ap (λ row. opening_by (row ∷ rows)) are.0.is ∙ ap (option_map (λ depth. New depth)) are.0.reads
    ∙ ap Some (one_alone (New depth) (filter_map opening_in arguments) opening h).1
opening_found (row ∷ rows) (Opens Open ∷ arguments) are opening h =
    let alone = one_alone Open (filter_map opening_in arguments) opening h in
    ap (λ row. opening_by (row ∷ rows)) are.0
    ∙ ap₂ opening_given (nothing_named (codes "new") new_opens rows arguments are.1 alone.0) (nothing_named (codes "soak") soak_opens rows arguments are.1 alone.0)
    ∙ ap Some alone.1
opening_found (row ∷ rows) (Opens (Soak number) ∷ arguments) are opening h =
    let alone = one_alone (Soak number) (filter_map opening_in arguments) opening h in
    ap (λ row. opening_by (row ∷ rows)) are.0.is
    ∙ ap (λ new. opening_given new (Some are.0.text)) (nothing_named (codes "new") new_opens rows arguments are.1 alone.0)
    ∙ ap (option_map (λ number. Soak number)) are.0.reads ∙ ap Some alone.1
opening_found (row ∷ rows) (Limit limit ∷ arguments) are opening h =
    ap (λ row. opening_by (row ∷ rows)) are.0.is ∙ opening_found rows arguments are.1 opening h
opening_found (row ∷ rows) (Seed seed ∷ arguments) are opening h =
    ap (λ row. opening_by (row ∷ rows)) are.0.is ∙ opening_found rows arguments are.1 opening h
opening_found (row ∷ rows) (Workers workers ∷ arguments) are opening h =
    ap (λ row. opening_by (row ∷ rows)) are.0.is ∙ opening_found rows arguments are.1 opening h

-- ---- all of it

-- the parts of a command
record Parts (opening : Option Opening) (limit seed workers : Option ℕ) (command : Command) : Type 0 where
  first : Opening
  second : ℕ
  third : ℕ
  fourth : ℕ
  opens : opening ≡ Some first
  limits : limit ≡ Some second
  seeds : seed ≡ Some third
  works : workers ≡ Some fourth
  is : record { opening = first; limit = second; seed = third; workers = fourth } ≡ command

parts_of : (opening : Option Opening) (limit seed workers : Option ℕ) (command : Command) → command_of_parts opening limit seed workers ≡ Some command
    → Parts opening limit seed workers command
parts_of None limit seed workers command h = absurd (none-some command h)
parts_of (Some opening) None seed workers command h = absurd (none-some command h)
parts_of (Some opening) (Some limit) None workers command h = absurd (none-some command h)
parts_of (Some opening) (Some limit) (Some seed) None command h = absurd (none-some command h)
parts_of (Some opening) (Some limit) (Some seed) (Some workers) command h = record {
  first = opening;
  second = limit;
  third = seed;
  fourth = workers;
  opens = refl;
  limits = refl;
  seeds = refl;
  works = refl;
  is = same_Some (record { opening = opening; limit = limit; seed = seed; workers = workers }) command h;
}

pub record AreRead (rows : List Row) (command : Command) : Type 0 where
  pub fits : FitsAfter [] rows
  pub says : command_given (λ name. first_of name rows) ≡ Some command

-- the rows of arguments that make a command say that command
pub rows_say : (rows : List Row) (arguments : List Argument) (command : Command) → AreRowsOf rows arguments → command_from arguments ≡ Some command
    → AreRead rows command
rows_say rows arguments command are h =
    let openings = filter_map opening_in arguments in
    let limits = filter_map limit_in arguments in
    let seeds = filter_map seed_in arguments in
    let workers = filter_map workers_in arguments in
    let parts = parts_of (one openings) (one_or (2 ^ 32 - 1) limits) (one_or 0 seeds) (one_or 1 workers) command h in
    let few = one_at_most openings parts.first parts.opens in
    let news = named_at_most (codes "new") opening_in new_opens rows arguments are in
    let opens = named_at_most (codes "open") opening_in open_opens rows arguments are in
    let soaks = named_at_most (codes "soak") opening_in soak_opens rows arguments are in
    let limits_few = named_at_most (codes "limit") limit_in (kind_by_name (codes "limit") 1 (2 ^ 32 - 1) limit_in limit_splits) rows arguments are in
    let seeds_few = named_at_most (codes "seed") seed_in (kind_by_name (codes "seed") 0 (2 ^ 64 - 1) seed_in seed_splits) rows arguments are in
    let workers_few = named_at_most (codes "workers") workers_in (kind_by_name (codes "workers") 1 16 workers_in workers_splits) rows arguments are in
    record {
      fits = fits [] rows arguments are (record {
        new = omega (arith, few, news);
        open_group = omega (arith, few, opens);
        soak = omega (arith, few, soaks);
        limit = omega (arith, one_or_at_most (2 ^ 32 - 1) limits parts.second parts.limits, limits_few);
        seed = omega (arith, one_or_at_most 0 seeds parts.third parts.seeds, seeds_few);
        workers = omega (arith, one_or_at_most 1 workers parts.fourth parts.works, workers_few);
      });
      says = rw (
        opening_found rows arguments are parts.first parts.opens,
        number_found (codes "limit") 1 (2 ^ 32 - 1) limit_in refl limit_splits rows arguments are (2 ^ 32 - 1) parts.second parts.limits,
        number_found (codes "seed") 0 (2 ^ 64 - 1) seed_in refl seed_splits rows arguments are 0 parts.third parts.seeds,
        number_found (codes "workers") 1 16 workers_in refl workers_splits rows arguments are 1 parts.fourth parts.works,
      ) (ap Some parts.is);
    }
