-- What lines give, one after the other, and where they stand.
use Rattle.std.proofs.Common.{◌≡◌, ◌∙◌, ℕ, ◌<◌, true, false, cond, List, [], ◌∷◌, ◌++◌, Option, None, Some, length, sym, refl, ap, subst, arith}
use Rattle.std.specs.Prelude.{option_and_then}
use Rattle.std.proofs.lemmas.List.{append-nil, length-append}
use Rattle.std.proofs.lemmas.Option.{none-some, same_Some}
use Rattle.group_model.specs.declared.entries.Entry.{Entry}
use Rattle.group_model.specs.declared.entries.Asked.{Asked}
use Rattle.group_steps.specs.Runs.{Run}
use Rattle.group_steps.specs.Devices.{Devices, Keying}
use Rattle.register_workers.specs.declared.lines.BlockAsk.{BlockAsk}
use Rattle.script_text.specs.declared.lines.Line.{Line}
use Rattle.script_text.specs.declared.lines.Line.TheVariants.{Nothing, Together, End}
use Rattle.console_run.specs.Blocks.{BlockSoFar, after_in_block, after_line, after_outside, after_text, after_texts, ask_in_block, fits_block, inside_block}
use Rattle.console_run.specs.Blocks.{with_ask}
use Rattle.console_run.specs.Lines.{Gives, GivesAt, IsRunOf, LinesGive, TextGives}

-- ---- states

after_step : (o : Option BlockSoFar) (texts rest : List (List ℕ)) (mid : BlockSoFar)
    → ((next : BlockSoFar) → after_texts next texts ≡ Some mid → after_texts next (texts ++ rest) ≡ after_texts mid rest)
    → option_and_then (λ (next : BlockSoFar). after_texts next texts) o ≡ Some mid
    → option_and_then (λ (next : BlockSoFar). after_texts next (texts ++ rest)) o ≡ after_texts mid rest
after_step None texts rest mid each is = absurd (none-some mid is)
after_step (Some next) texts rest mid each is = each next is

-- texts, and others after them
pub texts_after : (texts rest : List (List ℕ)) (block mid : BlockSoFar) → after_texts block texts ≡ Some mid
    → after_texts block (texts ++ rest) ≡ after_texts mid rest
texts_after [] rest block mid is = ap (λ block. after_texts block rest) (same_Some block mid is)
texts_after (text ∷ texts) rest block mid is =
    after_step (after_text block text) texts rest mid (λ next. texts_after texts rest next mid) is

inside_step : (o : Option BlockSoFar) (texts : List (List ℕ)) (asks : List BlockAsk)
    → ((next : List BlockAsk) → inside_block next texts ≡ Some asks → after_texts (Some next) texts ≡ Some (Some asks))
    → option_and_then (option_and_then (λ (next : List BlockAsk). inside_block next texts)) o ≡ Some asks
    → option_and_then (λ (next : BlockSoFar). after_texts next texts) o ≡ Some (Some asks)
inside_step None texts asks each is = absurd (none-some asks is)
inside_step (Some None) texts asks each is = absurd (none-some asks is)
inside_step (Some (Some next)) texts asks each is = each next is

-- texts that stay inside a block leave it open
pub inside_leaves : (texts : List (List ℕ)) (so_far asks : List BlockAsk) → inside_block so_far texts ≡ Some asks
    → after_texts (Some so_far) texts ≡ Some (Some asks)
inside_leaves [] so_far asks is = ap Some is
inside_leaves (text ∷ texts) so_far asks is =
    inside_step (after_text (Some so_far) text) texts asks (λ next. inside_leaves texts next asks) is

inside_then : (o : Option BlockSoFar) (texts : List (List ℕ)) (text : List ℕ) (asks more : List BlockAsk)
    → ((next : List BlockAsk) → inside_block next texts ≡ Some asks → inside_block next (texts ++ text ∷ []) ≡ Some more)
    → option_and_then (option_and_then (λ (next : List BlockAsk). inside_block next texts)) o ≡ Some asks
    → option_and_then (option_and_then (λ (next : List BlockAsk). inside_block next (texts ++ text ∷ []))) o ≡ Some more
inside_then None texts text asks more each is = absurd (none-some asks is)
inside_then (Some None) texts text asks more each is = absurd (none-some asks is)
inside_then (Some (Some next)) texts text asks more each is = each next is

-- one text more
pub inside_more : (texts : List (List ℕ)) (text : List ℕ) (so_far asks more : List BlockAsk) → inside_block so_far texts ≡ Some asks
    → after_text (Some asks) text ≡ Some (Some more) → inside_block so_far (texts ++ text ∷ []) ≡ Some more
inside_more [] text so_far asks more is next =
    ap (option_and_then (option_and_then (λ (next : List BlockAsk). inside_block next [])))
    (ap (λ (asks : List BlockAsk). after_text (Some asks) text) (same_Some so_far asks is) ∙ next)
inside_more (first ∷ texts) text so_far asks more is next =
    inside_then (after_text (Some so_far) first) texts text asks more (λ so_far is. inside_more texts text so_far asks more is next) is

-- a line that begins a block
pub begins_block : (line : Line) (asks : List BlockAsk) → after_outside line ≡ Some (Some asks) → (line ≡ Together) × (asks ≡ [])
begins_block Together asks is = (refl, sym (same_Some [] asks (same_Some (Some []) (Some asks) is)))
begins_block End asks is = absurd (none-some (Some asks) is)
begins_block line asks is = absurd (none-some asks (same_Some None (Some asks) is))

-- one that begins and ends none
pub leaves_outside : (line : Line) → (line ≡ Together → ⊥) → (line ≡ End → ⊥) → after_outside line ≡ Some None
leaves_outside Together begins ends = absurd (begins refl)
leaves_outside End begins ends = absurd (ends refl)
leaves_outside line begins ends = refl

-- one that stands in a block is by what it asks
asks_inside : (so_far : List BlockAsk) (line : Line) → (line ≡ Nothing → ⊥) → (line ≡ End → ⊥)
    → after_in_block so_far line ≡ option_and_then (with_ask so_far) (ask_in_block line)
asks_inside so_far Nothing some inside = absurd (some refl)
asks_inside so_far End some inside = absurd (inside refl)
asks_inside so_far line some inside = refl

pub stands_inside : (so_far more : List BlockAsk) (line : Line) (ask : BlockAsk) → (line ≡ Nothing → ⊥) → (line ≡ End → ⊥)
    → ask_in_block line ≡ Some ask → fits_block so_far ask ≡ true → more ≡ so_far ++ ask ∷ [] → after_in_block so_far line ≡ Some (Some more)
stands_inside so_far more line ask some inside is fits now =
    asks_inside so_far line some inside ∙ ap (option_and_then (with_ask so_far)) is ∙ ap (λ b. cond b (Some (Some (so_far ++ ask ∷ []))) None) fits
    ∙ ap (λ (asks : List BlockAsk). Some (Some asks)) (sym now)

pub none_inside : (so_far : List BlockAsk) (line : Line) → (line ≡ Nothing → ⊥) → (line ≡ End → ⊥) → ((ask : BlockAsk) → ask_in_block line ≡ Some ask → ⊥)
    → after_in_block so_far line ≡ None
none_inside so_far line some inside asks = asks_inside so_far line some inside ∙ ap (option_and_then (with_ask so_far)) (is_none (ask_in_block line) asks)
  where
    is_none : (asked : Option BlockAsk) → ((ask : BlockAsk) → asked ≡ Some ask → ⊥) → asked ≡ None
    is_none None asks = refl
    is_none (Some ask) asks = absurd (asks ask refl)

pub no_room_inside : (so_far : List BlockAsk) (line : Line) (ask : BlockAsk) → (line ≡ Nothing → ⊥) → (line ≡ End → ⊥) → ask_in_block line ≡ Some ask
    → fits_block so_far ask ≡ false → after_in_block so_far line ≡ None
no_room_inside so_far line ask some inside is fits =
    asks_inside so_far line some inside ∙ ap (option_and_then (with_ask so_far)) is ∙ ap (λ b. cond b (Some (Some (so_far ++ ask ∷ []))) None) fits

-- a block that has lines ends
pub ends_some : (asks : List BlockAsk) → (asks ≡ [] → ⊥) → after_in_block asks End ≡ Some None
ends_some [] some = absurd (some refl)
ends_some (ask ∷ asks) some = refl

module _ {D G V : Type 0} (on : Devices D G V) (by : Keying G) where
  -- a line that does not end a block gives nothing in it
  pub gives_none : (workers : ℕ) (asks : List BlockAsk) (line : Line) (before : List Entry) (run : Run D) → (line ≡ End → ⊥)
      → GivesAt on by workers (Some asks) line before run [] run
  gives_none workers asks End before run inside = absurd (inside refl)
  gives_none workers asks line before run inside = (refl, refl)

  -- the line that begins a block gives nothing
  pub begins_none : (before : List Entry) (run : Run D) (more : List Entry) (after : Run D) → Gives on by Together before run more after
      → (more ≡ []) × (after ≡ run)
  begins_none before run [] after h = (refl, h.begins)
  begins_none before run (entry ∷ more) after h = absurd (none-some (entry.asked, h.begins.0) (sym h.begins.1.2))

  module _ (workers : ℕ) where
    -- nor does one that stays inside
    ends_none : (asks next : List BlockAsk) → after_in_block asks End ≡ Some (Some next) → ⊥
    ends_none [] next is = none-some (Some next) is
    ends_none (ask ∷ asks) next is = none-some next (same_Some None (Some next) is)

    pub inside_none : (asks next : List BlockAsk) (line : Line) (before : List Entry) (run : Run D) (more : List Entry) (after : Run D)
        → after_in_block asks line ≡ Some (Some next) → GivesAt on by workers (Some asks) line before run more after → (more ≡ []) × (after ≡ run)
    inside_none asks next End before run more after is h = absurd (ends_none asks next is)
    inside_none asks next line before run more after is h = h

    -- a text that gives something may stand there
    pub text_leads : (block next : BlockSoFar) (text : List ℕ) (before : List Entry) (run : Run D) (more : List Entry) (after : Run D)
        → TextGives on by workers block text next before run more after → after_text block text ≡ Some next
    text_leads block next text before run more after h = ap (option_and_then (after_line block)) h.is ∙ h.stands

    lines_lead : (block last : BlockSoFar) (before : List Entry) (run : Run D) (lines : List (List ℕ)) (entries : List Entry) (after : Run D)
        → LinesGive on by workers block before run lines last entries after → after_texts block lines ≡ Some last
    lines_lead block last before run [] entries after same = ap Some (sym same.0)
    lines_lead block last before run (line ∷ lines) entries after h =
        ap (option_and_then (λ (next : BlockSoFar). after_texts next lines)) (text_leads block h.0 line before run h.1 h.2 h.3)
        ∙ lines_lead h.0 last (before ++ h.1) h.2 lines entries after h.4

    pub run_leads : (request : Asked) (start : Run D) (lines : List (List ℕ)) (block : BlockSoFar) (entries : List Entry) (after : Run D)
        → IsRunOf on by workers request start lines block entries after → after_texts None lines ≡ Some block
    run_leads request start lines block entries after h = lines_lead None block h.opening h.opened lines entries after h.gives

    -- ---- lines, and one more line

    LinesGive-more : (block mid next : BlockSoFar) (before : List Entry) (run : Run D) (lines : List (List ℕ)) (line : List ℕ) (entries : List Entry) (now : Run D)
        (more : List Entry) (after : Run D) → LinesGive on by workers block before run lines mid entries now
        → TextGives on by workers mid line next entries now more after
        → LinesGive on by workers block before run (lines ++ line ∷ []) next (entries ++ more) after
    LinesGive-more block mid next before run [] line entries now more after same h =
        subst (λ block. LinesGive on by workers block before run (line ∷ []) next (entries ++ more) after) same.0
        (subst (λ all. LinesGive on by workers mid all run (line ∷ []) next (entries ++ more) after) same.1
        (subst (λ run. LinesGive on by workers mid entries run (line ∷ []) next (entries ++ more) after) same.2 (next, more, after, h, (refl, refl, refl))))
    LinesGive-more block mid next before run (first ∷ lines) line entries now more after h k =
        (h.0, h.1, h.2, h.3, LinesGive-more h.0 mid next (before ++ h.1) h.2 lines line entries now more after h.4 k)

    pub IsRunOf-more : (request : Asked) (start : Run D) (lines : List (List ℕ)) (line : List ℕ) (block next : BlockSoFar) (entries : List Entry) (now : Run D)
        (more : List Entry) (after : Run D) → IsRunOf on by workers request start lines block entries now → length lines < 16384
        → TextGives on by workers block line next entries now more after
        → IsRunOf on by workers request start (lines ++ line ∷ []) next (entries ++ more) after
    IsRunOf-more request start lines line block next entries now more after h few gives = record {
      opening = h.opening;
      opened = h.opened;
      opens = h.opens;
      few = omega (arith, few, length-append lines (line ∷ []));
      gives = LinesGive-more None block next h.opening h.opened lines line entries now more after h.gives gives;
    }

    -- where it gave nothing
    pub IsRunOf-still : (request : Asked) (start : Run D) (lines : List (List ℕ)) (block : BlockSoFar) (entries : List Entry) (now : Run D)
        (more : List Entry) (after : Run D) → (more ≡ []) × (after ≡ now) → IsRunOf on by workers request start lines block entries now
        → IsRunOf on by workers request start lines block (entries ++ more) after
    IsRunOf-still request start lines block entries now more after none h =
        subst (λ more. IsRunOf on by workers request start lines block (entries ++ more) after) (sym none.0)
        (subst (IsRunOf on by workers request start lines block (entries ++ [])) (sym none.1)
        (subst (λ entries. IsRunOf on by workers request start lines block entries now) (sym (append-nil entries)) h))
