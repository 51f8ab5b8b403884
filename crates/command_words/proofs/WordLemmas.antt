-- Words of the grammar, as `clap` reads them.
use Rattle.std.proofs.Common.{◌≡◌, ◌∙◌, ℕ, ◌+◌, true, false, ◌==◌, ◌&&◌, List, [], ◌∷◌, ◌++◌, take, drop, Option, Some, None, position, option_map, refl, sym, ap, ap₂, subst, inl, inr, arith, bytes_eq, codes, length, leb-true, ne_eqb, eqb-true, take-append-drop, drop-cons, add-one}
use Rattle.std.specs.Prelude.{nat_le}
use Rattle.std.specs.List.{list_all}
use Rattle.std.specs.Option.{is_some, option_map_or}
use Rattle.std.proofs.lemmas.Bool.{and_parts, cases_Bool}
use Rattle.std.proofs.lemmas.List.Quantifiers.{position-Some}
use Rattle.std.proofs.lemmas.Option.{cond_some, none-some, same_Some}
use Rattle.std.proofs.lemmas.Slice.Eq.{bytes_eq-Decides}
use Rattle.clap.specs.Walk.{Row, Text}
use Rattle.script_text.specs.Numbers.{is_digit, is_number}
use Rattle.command_words.specs.declared.arguments.Argument.{Argument}
use Rattle.command_words.specs.declared.arguments.Argument.TheVariants.{Opens, Limit, Seed, Workers}
use Rattle.command_words.specs.declared.commands.Opening.TheVariants.{New, Open, Soak}
use Rattle.command_words.specs.Arguments.{argument_in, argument_with, arguments_of, followed_by, is_equals_sign, lone_argument, number_between}
use Rattle.command_words.proofs.ProgramFacts.{IsNumber, limit_is, new_is, seed_is, soak_is, workers_is}
use Rattle.command_words.proofs.RowLemmas.{AreRowsOf, IsRowOf, row_for}
use Rattle.command_words.proofs.StepLemmas.{Goes, apart_goes, flag_goes, goes_on, joined_goes, nothing_goes}

-- ---- numbers

-- a text that does not begin with a hyphen
record IsPlain (text : Text) : Type 0 where
  first : ℕ
  rest : Text
  parts : text ≡ first ∷ rest
  plain : (first == 45) ≡ false

number_is_plain : (least greatest number : ℕ) (text : Text) → number_between least greatest text ≡ Some number → IsPlain text
number_is_plain least greatest number [] h = absurd (none-some number h)
number_is_plain least greatest number (first ∷ rest) h = elim (cases_Bool (is_number 20 (first ∷ rest))) [
  | inl good ↦
      let sized = and_parts (nat_le 1 (length (first ∷ rest))) (nat_le (length (first ∷ rest)) 20 && list_all is_digit (first ∷ rest)) good in
      let digits = and_parts (nat_le (length (first ∷ rest)) 20) (list_all is_digit (first ∷ rest)) sized.1 in
      let digit = and_parts (is_digit first) (list_all is_digit rest) digits.1 in
      let from = leb-true 48 first (and_parts (nat_le 48 first) (nat_le first 57) digit.0).0 in
      record { first = first; rest = rest; parts = refl; plain = ne_eqb first 45 (λ same. omega (arith, from, same)) }
  | inr bad ↦ absurd (none-some number (rw bad at h))
]

-- a name of an argument and a text for it
record IsNamed (word text : Text) (argument : Argument) : Type 0 where
  name : Text
  number : IsNumber name
  named : word ≡ 45 ∷ 45 ∷ name
  row : IsRowOf (row_for name text) argument
  plain : IsPlain text

mapped : (make : ℕ → Argument) (number : Option ℕ) (argument : Argument) → option_map make number ≡ Some argument
    → (value : ℕ) × (number ≡ Some value) × (make value ≡ argument)
mapped make None argument h = absurd (none-some argument h)
mapped make (Some value) argument h = (value, refl, same_Some (make value) argument h)

named_by : (name word text : Text) (argument : Argument) (least greatest : ℕ) (make : ℕ → Argument) → IsNumber name → bytes_eq word (45 ∷ 45 ∷ name) ≡ true
    → ((value : ℕ) → number_between least greatest text ≡ Some value → IsRowOf (row_for name text) (make value))
    → option_map make (number_between least greatest text) ≡ Some argument → IsNamed word text argument
named_by name word text argument least greatest make is hit rows h =
    let got = mapped make (number_between least greatest text) argument h in
    record {
      name = name;
      number = is;
      named = (bytes_eq-Decides word (45 ∷ 45 ∷ name)).0 hit;
      row = subst (IsRowOf (row_for name text)) got.2 (rows got.0 got.1);
      plain = number_is_plain least greatest got.0 text got.1;
    }

argument_is_named : (word text : Text) (argument : Argument) → argument_with word text ≡ Some argument → IsNamed word text argument
argument_is_named word text argument h = elim (cases_Bool (bytes_eq word (codes "--new"))) [
  | inl hit ↦ named_by (codes "new") word text argument 1 9 (λ depth. Opens (New depth)) new_is hit
      (λ depth reads. record { text = text; is = refl; reads = reads }) (rw hit at h)
  | inr no_new ↦ elim (cases_Bool (bytes_eq word (codes "--soak"))) [
    | inl hit ↦ named_by (codes "soak") word text argument 0 18446744073709551615 (λ number. Opens (Soak number)) soak_is hit
        (λ number reads. record { text = text; is = refl; reads = reads }) (rw (no_new, hit) at h)
    | inr no_soak ↦ elim (cases_Bool (bytes_eq word (codes "--limit"))) [
      | inl hit ↦ named_by (codes "limit") word text argument 1 4294967295 Limit limit_is hit
          (λ limit reads. record { text = text; is = refl; reads = reads }) (rw (no_new, no_soak, hit) at h)
      | inr no_limit ↦ elim (cases_Bool (bytes_eq word (codes "--seed"))) [
        | inl hit ↦ named_by (codes "seed") word text argument 0 18446744073709551615 Seed seed_is hit
            (λ seed reads. record { text = text; is = refl; reads = reads }) (rw (no_new, no_soak, no_limit, hit) at h)
        | inr no_seed ↦ elim (cases_Bool (bytes_eq word (codes "--workers"))) [
          | inl hit ↦ named_by (codes "workers") word text argument 1 16 Workers workers_is hit
              (λ workers reads. record { text = text; is = refl; reads = reads }) (rw (no_new, no_soak, no_limit, no_seed, hit) at h)
          | inr none ↦ absurd (none-some argument (rw (no_new, no_soak, no_limit, no_seed, none) at h))
        ]
      ]
    ]
  ]
]

-- ---- words

-- these words are an argument
record AreOne (words : List Text) (argument : Argument) : Type 0 where
  row : Row
  is_row : IsRowOf row argument
  goes : Goes words (row ∷ [])

lone_word : (word : Text) (argument : Argument) → lone_argument word ≡ Some argument → AreOne (word ∷ []) argument
lone_word word argument h =
    let parts = cond_some (bytes_eq word (codes "--open")) (Opens Open) argument h in
    record {
      row = row_for (codes "open") (codes "true");
      is_row = subst (IsRowOf (row_for (codes "open") (codes "true"))) parts.1 refl;
      goes = subst (λ word. Goes (word ∷ []) (row_for (codes "open") (codes "true") ∷ [])) (sym ((bytes_eq-Decides word (codes "--open")).0 parts.0)) flag_goes;
    }

one_word : (word : Text) (argument : Argument) → argument_in word ≡ Some argument → AreOne (word ∷ []) argument
one_word word argument h = by_place (position is_equals_sign word) refl h
  where
    by_place : (place : Option ℕ) → position is_equals_sign word ≡ place
        → option_map_or (λ at. argument_with (take at word) (drop (at + 1) word)) place (lone_argument word) ≡ Some argument → AreOne (word ∷ []) argument
    by_place None is h = lone_word word argument h
    by_place (Some place) is h =
        let name = take place word in
        let text = drop (place + 1) word in
        let named = argument_is_named name text argument h in
        let sign = position-Some is_equals_sign word place 0 is in
        let rest : drop place word ≡ 61 ∷ text =
        drop-cons word place 0 sign.0 ∙ ap₂ (λ c n. c ∷ drop n word) (eqb-true _ _ sign.1) (sym (add-one place)) in
        let whole : word ≡ 45 ∷ 45 ∷ (named.name ++ 61 ∷ text) =
        sym (take-append-drop place word) ∙ ap (λ rest. name ++ rest) rest ∙ ap (λ name. name ++ 61 ∷ text) named.named in
        record {
          row = row_for named.name text;
          is_row = named.row;
          goes = subst (λ word. Goes (word ∷ []) (row_for named.name text ∷ [])) (sym whole) (joined_goes named.name text named.number);
        }

two_words : (word text : Text) (argument : Argument) → argument_with word text ≡ Some argument → AreOne (word ∷ text ∷ []) argument
two_words word text argument h =
    let named = argument_is_named word text argument h in
    let plain = named.plain in
    record {
      row = row_for named.name text;
      is_row = named.row;
      goes = subst (λ word. Goes (word ∷ text ∷ []) (row_for named.name text ∷ [])) (sym named.named)
          (subst (λ text. Goes ((45 ∷ 45 ∷ named.name) ∷ text ∷ []) (row_for named.name text ∷ [])) (sym plain.parts)
          (apart_goes named.name plain.first plain.rest named.number plain.plain));
    }

followed : (first : Option Argument) (others : Option (List Argument)) (all : List Argument) → followed_by first others ≡ Some all
    → (argument : Argument) × (arguments : List Argument) × (first ≡ Some argument) × (others ≡ Some arguments) × (argument ∷ arguments ≡ all)
followed None others all h = absurd (none-some all h)
followed (Some argument) None all h = absurd (none-some all h)
followed (Some argument) (Some arguments) all h = (argument, arguments, refl, refl, same_Some (argument ∷ arguments) all h)

-- words that are arguments
pub record AreWords (words : List Text) (arguments : List Argument) : Type 0 where
  pub rows : List Row
  pub are : AreRowsOf rows arguments
  pub goes : Goes words rows

then_others : (first words : List Text) (argument : Argument) (arguments all : List Argument) → AreOne first argument → AreWords words arguments
    → argument ∷ arguments ≡ all → AreWords (first ++ words) all
then_others first words argument arguments all f g is =
    subst (AreWords (first ++ words)) is
    (record { rows = f.row ∷ g.rows; are = (f.is_row, g.are); goes = goes_on first words f.row g.rows f.goes g.goes })

no_words : (all : List Argument) → [] ≡ all → AreWords [] all
no_words all is = subst (AreWords []) is (record { rows = []; are = tt; goes = nothing_goes })

pub words_are : (words : List Text) (arguments : List Argument) → arguments_of words ≡ Some arguments → AreWords words arguments
words_are [] arguments h = no_words arguments (same_Some [] arguments h)
words_are (word ∷ []) arguments h =
    let both = followed (argument_in word) (Some []) arguments h in
    then_others (word ∷ []) [] both.0 both.1 arguments (one_word word both.0 both.2) (no_words both.1 (same_Some [] both.1 both.3)) both.4
words_are (word ∷ next ∷ words) arguments h = elim (cases_Bool (is_some (argument_in word))) [
  | inl alone ↦
      let both = followed (argument_in word) (arguments_of (next ∷ words)) arguments (rw alone at h) in
      then_others (word ∷ []) (next ∷ words) both.0 both.1 arguments (one_word word both.0 both.2) (words_are (next ∷ words) both.1 both.3) both.4
  | inr pair ↦
      let both = followed (argument_with word next) (arguments_of words) arguments (rw pair at h) in
      then_others (word ∷ next ∷ []) words both.0 both.1 arguments (two_words word next both.0 both.2) (words_are words both.1 both.3) both.4
]
