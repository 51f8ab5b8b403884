-- How `clap` goes over the words, one argument after another.
use Rattle.std.proofs.Common.{◌≡◌, ◌∙◌, ℕ, true, false, ◌==◌, List, [], ◌∷◌, ◌++◌, Option, Some, None, fold, refl, sym, ap, subst, bytes_eq, codes, append_assoc, append-nil}
use Rattle.std.proofs.lemmas.Bool.{and_from, and_parts}
use Rattle.std.proofs.lemmas.List.Sums.{fold-append}
use Rattle.clap.specs.Lexer.{long_of, short_of}
use Rattle.clap.specs.Walk.{Held, Row, Text, Waiting, Walk, has_row, idle, more_values, option, settled_rows, used, used_by_id, walked, with_values, without}
use Rattle.clap.specs.Takes.{settle_passes, turn_passes, walk_passes}
use Rattle.clap.specs.declared.builder.value_parser.Reading.TheVariants as readings
use Rattle.clap.specs.declared.parser.matches.ValueSource.TheVariants.{CommandLine}
use Rattle.command_words.proofs.ProgramFacts.{IsNumber, flag, number, open_is, rules, shape}
use Rattle.command_words.proofs.RowLemmas.{FitsAfter, at_row-missing, row_for}

-- an argument whose texts are being read, with the texts so far
abbrev pub Pending : Type 0
Pending = Option (Text × List Text)

abbrev pub held : List Row → Pending → Held
held rows pending = record { rows = rows; pending = pending; skip = 0 }

-- a walk between two words
abbrev pub between : List Row → Pending → Waiting → Walk
between rows pending waiting = record { held = held rows pending; waiting = waiting; position = 1; is_trailing = false; stopped = None }

-- ---- rows

-- an argument that is new has one more row
added : (name text : Text) (rows : List Row) → has_row name rows ≡ false
    → with_values name readings.AsWritten CommandLine (text ∷ []) (without name rows) ≡ rows ++ row_for name text ∷ []
added name text rows fresh =
    ap (with_values name readings.AsWritten CommandLine (text ∷ [])) (at_row-missing name (λ _. []) [] rows fresh ∙ append-nil rows)
    ∙ at_row-missing name (more_values CommandLine (text ∷ [])) (row_for name text ∷ []) rows fresh

-- ---- one argument in one word

flag_steps : (rows : List Row) (pending : Pending)
    → walked rules [] (between rows pending idle) (codes "--open") ≡ between (used (flag (codes "open")) [] (settled_rows rules pending rows)) None idle
unfolding walked
flag_steps rows pending = rw open_is refl

flag_passes : (rows : List Row) (pending : Pending) → settle_passes rules false (held rows pending) ≡ true
    → has_row (codes "open") (settled_rows rules pending rows) ≡ false → turn_passes shape [] (between rows pending idle) (codes "--open") ≡ true
flag_passes rows pending settles fresh = rw (open_is, settles, fresh) refl

joined_steps : (name text : Text) (rows : List Row) (pending : Pending) → IsNumber name
    → walked rules [] (between rows pending idle) (45 ∷ 45 ∷ (name ++ 61 ∷ text))
    ≡ between (used (number name) (text ∷ []) (settled_rows rules pending rows)) None idle
unfolding walked
joined_steps name text rows pending n = rw (n.joined_goes_on text, n.joined text, n.long) refl

joined_passes : (name text : Text) (rows : List Row) (pending : Pending) → IsNumber name → settle_passes rules false (held rows pending) ≡ true
    → has_row name (settled_rows rules pending rows) ≡ false → turn_passes shape [] (between rows pending idle) (45 ∷ 45 ∷ (name ++ 61 ∷ text)) ≡ true
joined_passes name text rows pending n settles fresh = rw (n.joined_goes_on text, n.joined text, n.long, settles, fresh) refl

-- ---- one in two words

name_steps : (name : Text) (rows : List Row) (pending : Pending) → IsNumber name
    → walked rules [] (between rows pending idle) (45 ∷ 45 ∷ name) ≡ between (settled_rows rules pending rows) (Some (name, [])) (option name)
unfolding walked
name_steps name rows pending n = rw (n.alone_goes_on, n.alone, n.long) refl

name_passes : (name : Text) (rows : List Row) (pending : Pending) → IsNumber name → settle_passes rules false (held rows pending) ≡ true
    → turn_passes shape [] (between rows pending idle) (45 ∷ 45 ∷ name) ≡ true
name_passes name rows pending n settles = rw (n.alone_goes_on, n.alone, n.long, settles) refl

-- the text of a number does not begin with a hyphen
goes_on_plain : (first : ℕ) (rest : Text) → (first == 45) ≡ false → bytes_eq (first ∷ rest) (45 ∷ 45 ∷ []) ≡ false
goes_on_plain first rest plain = rw plain refl

not_long : (first : ℕ) (rest : Text) → (first == 45) ≡ false → long_of (first ∷ rest) ≡ None
not_long first rest plain = rw plain refl

not_short : (first : ℕ) (rest : Text) → (first == 45) ≡ false → short_of (first ∷ rest) ≡ None
not_short first rest plain = rw plain refl

text_steps : (name : Text) (first : ℕ) (rest : Text) (rows : List Row) → IsNumber name → (first == 45) ≡ false
    → walked rules [] (between rows (Some (name, [])) (option name)) (first ∷ rest) ≡ between rows (Some (name, (first ∷ rest) ∷ [])) idle
unfolding walked
text_steps name first rest rows n plain = rw (goes_on_plain first rest plain, not_long first rest plain, not_short first rest plain, n.by_id, n.same) refl

text_passes : (name : Text) (first : ℕ) (rest : Text) (rows : List Row) → (first == 45) ≡ false
    → turn_passes shape [] (between rows (Some (name, [])) (option name)) (first ∷ rest) ≡ true
text_passes name first rest rows plain = rw (goes_on_plain first rest plain, not_long first rest plain, not_short first rest plain) refl

-- ---- words after words

-- where a walk is after these words, with these rows more than before
pub record Ends (before rows : List Row) (pending : Pending) (words : List Text) (more : List Row) : Type 0 where
  pub last : List Row
  pub left : Pending
  pub walks : fold (walked rules []) (between rows pending idle) words ≡ between last left idle
  pub passes : walk_passes shape [] (between rows pending idle) words ≡ true
  pub settled : settled_rows rules left last ≡ before ++ more
  pub settles : settle_passes rules false (held last left) ≡ true

-- after any walk these words add these rows, where they fit
abbrev pub Goes : List Text → List Row → Type 0
Goes words more =
    (before rows : List Row) (pending : Pending) → settled_rows rules pending rows ≡ before → settle_passes rules false (held rows pending) ≡ true
    → FitsAfter before more → Ends before rows pending words more

pub nothing_goes : Goes [] []
unfolding walk_passes
nothing_goes before rows pending is settles fits =
    record { last = rows; left = pending; walks = refl; passes = refl; settled = is ∙ sym (append-nil before); settles = settles }

pub flag_goes : Goes (codes "--open" ∷ []) (row_for (codes "open") (codes "true") ∷ [])
unfolding walk_passes
flag_goes before rows pending is settles fits =
    let fresh : has_row (codes "open") (settled_rows rules pending rows) ≡ false = subst (λ rows. has_row (codes "open") rows ≡ false) (sym is) fits.0 in
    record {
      last = used (flag (codes "open")) [] (settled_rows rules pending rows);
      left = None;
      walks = flag_steps rows pending;
      passes = and_from _ _ (flag_passes rows pending settles fresh) refl;
      settled = added (codes "open") (codes "true") (settled_rows rules pending rows) fresh
          ∙ ap (λ rows. rows ++ row_for (codes "open") (codes "true") ∷ []) is;
      settles = refl;
    }

pub joined_goes : (name text : Text) → IsNumber name → Goes ((45 ∷ 45 ∷ (name ++ 61 ∷ text)) ∷ []) (row_for name text ∷ [])
unfolding walk_passes
joined_goes name text n before rows pending is settles fits =
    let fresh : has_row name (settled_rows rules pending rows) ≡ false = subst (λ rows. has_row name rows ≡ false) (sym is) fits.0 in
    record {
      last = used (number name) (text ∷ []) (settled_rows rules pending rows);
      left = None;
      walks = joined_steps name text rows pending n;
      passes = and_from _ _ (joined_passes name text rows pending n settles fresh) refl;
      settled = added name text (settled_rows rules pending rows) fresh ∙ ap (λ rows. rows ++ row_for name text ∷ []) is;
      settles = refl;
    }

pub apart_goes : (name : Text) (first : ℕ) (rest : Text) → IsNumber name → (first == 45) ≡ false
    → Goes ((45 ∷ 45 ∷ name) ∷ (first ∷ rest) ∷ []) (row_for name (first ∷ rest) ∷ [])
unfolding walk_passes
apart_goes name first rest n plain before rows pending is settles fits =
    let now = settled_rows rules pending rows in
    let text = first ∷ rest in
    let fresh : has_row name now ≡ false = subst (λ rows. has_row name rows ≡ false) (sym is) fits.0 in
    let named = name_steps name rows pending n in
    record {
      last = now;
      left = Some (name, text ∷ []);
      walks = ap (λ walk. walked rules [] walk text) named ∙ text_steps name first rest now n plain;
      passes = and_from _ _ (name_passes name rows pending n settles)
          (and_from _ _ (subst (λ walk. turn_passes shape [] walk text ≡ true) (sym named) (text_passes name first rest now plain)) refl);
      settled = ap (λ found. used_by_id found (text ∷ []) now) n.by_id ∙ added name text now fresh ∙ ap (λ rows. rows ++ row_for name text ∷ []) is;
      settles = rw (n.by_id, fresh) refl;
    }

passes_on : (first words : List Text) (walk : Walk) → walk_passes shape [] walk first ≡ true
    → walk_passes shape [] (fold (walked rules []) walk first) words ≡ true → walk_passes shape [] walk (first ++ words) ≡ true
unfolding walk_passes
passes_on [] words walk h k = k
passes_on (word ∷ first) words walk h k =
    let parts = and_parts (turn_passes shape [] walk word) (walk_passes shape [] (walked rules [] walk word) first) h in
    and_from _ _ parts.0 (passes_on first words (walked rules [] walk word) parts.1 k)

-- words that add one row, and then others
pub goes_on : (first words : List Text) (row : Row) (more : List Row) → Goes first (row ∷ []) → Goes words more → Goes (first ++ words) (row ∷ more)
goes_on first words row more f g before rows pending is settles fits =
    let a = f before rows pending is settles (fits.0, tt) in
    let b = g (before ++ row ∷ []) a.last a.left a.settled a.settles fits.1 in
    record {
      last = b.last;
      left = b.left;
      walks = fold-append (walked rules []) (between rows pending idle) first words ∙ ap (λ walk. fold (walked rules []) walk words) a.walks ∙ b.walks;
      passes = passes_on first words (between rows pending idle) a.passes
          (subst (λ walk. walk_passes shape [] walk words ≡ true) (sym a.walks) b.passes);
      settled = b.settled ∙ append_assoc before (row ∷ []) more;
      settles = b.settles;
    }
