-- A script whose lines may all stand where they stand has no faulty line.
use Rattle.std.proofs.Common.{◌≡◌, ℕ, Bool, ◌+◌, ◌<◌, ◌≤◌, true, false, cond, List, [], ◌∷◌, ◌++◌, Option, length, sym, refl, ap, ◌∙◌, arith, inl, inr}
use Rattle.std.specs.Prelude.{◌⊎◌, option_and_then, Some, None}
use Rattle.std.specs.List.{fold, list_any}
use Rattle.std.proofs.lemmas.Bool.{cases_Bool, lt-ltb, ne_eqb, or_parts}
use Rattle.std.proofs.lemmas.List.{append_assoc, append-nil, length-append}
use Rattle.std.proofs.lemmas.Option.{none-some, same_Some}
use Rattle.std.proofs.lemmas.List.Sums.{fold-append}
use Rattle.group_model.specs.declared.entries.Entry.{Entry}
use Rattle.group_model.specs.declared.entries.Asked.{Asked}
use Rattle.group_steps.specs.Runs.{Run}
use Rattle.script_text.specs.Lines.{line_of, line_of_words}
use Rattle.script_text.specs.Words.{words_of}
use Rattle.group_steps.specs.Devices.{Devices, Keying}
use Rattle.console_run.specs.Blocks.{AreLines, BlockSoFar, after_line, after_text, after_texts}
use Rattle.console_run.specs.Scripts.{ends_line, EndsLine, unfinished, script_lines}
use Rattle.console_run.specs.Causes.{CameFrom, EndsAtFaultyLine, EndsAtLine, EndsInBlock, Given, IsOver}
use Rattle.console_run.specs.Promises.{ShowsScript}
use Rattle.console_run.specs.Private.Cuts.{Cut, cut_more, cut_of}
use Rattle.console_run.proofs.CutLemmas.{cut_of-more, lines_cut, unfinished-some}
use Rattle.console_run.proofs.LineLemmas.{inside_leaves, run_leads, texts_after}

-- the lines of a cut, and what has come of the next
abbrev lines_at : Cut → List (List ℕ)
lines_at cut = cut.lines ++ unfinished cut.rest

-- octets add lines to the lines so far
more_lines : (lines : List (List ℕ)) (rest octets : List ℕ)
    → (more : List (List ℕ)) × ((fold cut_more (record { lines = lines; rest = rest }) octets).lines ≡ lines ++ more)
more_lines lines rest [] = ([], sym (append-nil lines))
more_lines lines rest (octet ∷ octets) =
    let ended : Cut = record { lines = lines ++ rest ∷ []; rest = [] } in
    let kept : Cut = record { lines = lines; rest = rest ++ octet ∷ [] } in
    elim (cases_Bool (ends_line octet)) [
      | inl ends ↦ (
          let others = more_lines (lines ++ rest ∷ []) [] octets in
          (rest ∷ others.0, ap (λ b. (fold cut_more (cond b ended kept) octets).lines) ends ∙ others.1 ∙ append_assoc lines (rest ∷ []) others.0)
          )
      | inr goes ↦ (
          let others = more_lines lines (rest ++ octet ∷ []) octets in
          (others.0, ap (λ b. (fold cut_more (cond b ended kept) octets).lines) goes ∙ others.1)
          )
    ]

-- a line that ends here is among them
ended_line : (lines : List (List ℕ)) (rest octets : List ℕ)
    → (more : List (List ℕ)) × (lines_at (fold cut_more (record { lines = lines; rest = rest }) (10 ∷ octets)) ≡ lines ++ rest ∷ more)
ended_line lines rest octets =
    let cut = fold cut_more (record { lines = lines ++ rest ∷ []; rest = [] }) octets in
    let others = more_lines (lines ++ rest ∷ []) [] octets in (
      others.0 ++ unfinished cut.rest,
      ap (λ ls. ls ++ unfinished cut.rest) (others.1 ∙ append_assoc lines (rest ∷ []) others.0)
          ∙ append_assoc lines (rest ∷ others.0) (unfinished cut.rest),
    )

-- and so is one with octets, however it goes on
begun_line : (lines : List (List ℕ)) (rest octets : List ℕ) → 0 < length rest
    → (others : List ℕ) × (more : List (List ℕ)) × (lines_at (fold cut_more (record { lines = lines; rest = rest }) octets) ≡ lines ++ (rest ++ others) ∷ more)
begun_line lines rest [] some = ([], [], ap (λ last. lines ++ last) (unfinished-some rest some ∙ ap (λ line. line ∷ []) (sym (append-nil rest))))
begun_line lines rest (octet ∷ octets) some =
    let ended : Cut = record { lines = lines ++ rest ∷ []; rest = [] } in
    let kept : Cut = record { lines = lines; rest = rest ++ octet ∷ [] } in
    elim (cases_Bool (ends_line octet)) [
      | inl ends ↦ (
          let others = ended_line lines rest octets in (
            [],
            others.0,
            ap (λ b. lines_at (fold cut_more (cond b ended kept) octets)) ends ∙ others.1
                ∙ ap (λ line. lines ++ line ∷ others.0) (sym (append-nil rest)),
          )
          )
      | inr goes ↦ (
          let others = begun_line lines (rest ++ octet ∷ []) octets (omega (arith, length-append rest (octet ∷ []))) in (
            octet ∷ others.0,
            others.1,
            ap (λ b. lines_at (fold cut_more (cond b ended kept) octets)) goes ∙ others.2
                ∙ ap (λ line. lines ++ line ∷ others.1) (append_assoc rest (octet ∷ []) others.0),
          )
          )
    ]

-- with octets there is a line more
one_more_line : (lines : List (List ℕ)) (rest octets : List ℕ) → 0 < length octets
    → length lines + 1 ≤ length (lines_at (fold cut_more (record { lines = lines; rest = rest }) octets))
one_more_line lines rest [] some = absurd (omega (arith, some))
one_more_line lines rest (octet ∷ octets) some =
    let ended : Cut = record { lines = lines ++ rest ∷ []; rest = [] } in
    let kept : Cut = record { lines = lines; rest = rest ++ octet ∷ [] } in
    elim (cases_Bool (ends_line octet)) [
      | inl ends ↦ (
          let others = ended_line lines rest octets in
          let whole = ap (λ b. length (lines_at (fold cut_more (cond b ended kept) octets))) ends ∙ ap length others.1 in
          omega (arith, whole, length-append lines (rest ∷ others.0))
          )
      | inr goes ↦ (
          let others = begun_line lines (rest ++ octet ∷ []) octets (omega (arith, length-append rest (octet ∷ []))) in
          let whole = ap (λ b. length (lines_at (fold cut_more (cond b ended kept) octets))) goes ∙ ap length others.2 in
          omega (arith, whole, length-append lines (((rest ++ octet ∷ []) ++ others.0) ∷ others.1))
          )
    ]

-- octets that end no line are kept
kept_octets : (lines : List (List ℕ)) (rest text : List ℕ) → list_any ends_line text ≡ false
    → fold cut_more (record { lines = lines; rest = rest }) text ≡ record { lines = lines; rest = rest ++ text }
kept_octets lines rest [] h = ap (λ rest. record { lines = lines; rest = rest }) (sym (append-nil rest))
kept_octets lines rest (octet ∷ text) h =
    let ended : Cut = record { lines = lines ++ rest ∷ []; rest = [] } in
    let kept : Cut = record { lines = lines; rest = rest ++ octet ∷ [] } in
    let parts = or_parts (ends_line octet) (list_any ends_line text) h in
    ap (λ b. fold cut_more (cond b ended kept) text) parts.0 ∙ kept_octets lines (rest ++ octet ∷ []) text parts.1
    ∙ ap (λ rest. record { lines = lines; rest = rest }) (append_assoc rest (octet ∷ []) text)

some_or_none : (octets : List ℕ) → (octets ≡ []) ⊎ (0 < length octets)
some_or_none [] = inl refl
some_or_none (octet ∷ octets) = inr (omega arith)

nothing_left : (before : List ℕ) → EndsLine before → (cut_of before).rest ≡ []
nothing_left before h = elim h [
  | inl none ↦ ap (λ octets. (cut_of octets).rest) none
  | inr front ↦ ap (λ octets. (cut_of octets).rest) front.1 ∙ ap (λ (cut : Cut). cut.rest) (cut_of-more front.0 10)
]

-- the lines of a script that has come to some text
lines_from : (before text others : List ℕ) → EndsLine before → list_any ends_line text ≡ false
    → script_lines (before ++ (text ++ others)) ≡ lines_at (fold cut_more (record { lines = script_lines before; rest = text }) others)
lines_from before text others ends one_line =
    let none = nothing_left before ends in
    let lines : script_lines before ≡ (cut_of before).lines =
    lines_cut before ∙ ap (λ rest. (cut_of before).lines ++ unfinished rest) none ∙ append-nil (cut_of before).lines in
    let cut : cut_of before ≡ record { lines = script_lines before; rest = [] } =
    ap (λ rest. record { lines = (cut_of before).lines; rest = rest }) none ∙ ap (λ lines. record { lines = lines; rest = [] }) (sym lines) in
    lines_cut (before ++ (text ++ others))
    ∙ ap lines_at (fold-append cut_more (record { lines = []; rest = [] }) before (text ++ others)
    ∙ fold-append cut_more (cut_of before) text others
    ∙ ap (λ cut. fold cut_more (fold cut_more cut text) others) cut
    ∙ ap (λ cut. fold cut_more cut others) (kept_octets (script_lines before) [] text one_line))

-- a line of the grammar has at most 200 octets
long_line : (block : BlockSoFar) (text : List ℕ) → 200 < length text → after_text block text ≡ None
unfolding line_of
long_line block text long = ap (λ b. option_and_then (after_line block) (cond b None (line_of_words (words_of text)))) (lt-ltb 200 (length text) long)

empty_line : (block next : BlockSoFar) → next ≡ block → after_text block [] ≡ None → ⊥
unfolding line_of words_of
empty_line None next same is = none-some None (sym is)
empty_line (Some asks) next same is = none-some (Some asks) (sym is)

-- a text that may not stand where it stands
bad_text : (block : BlockSoFar) (text : List ℕ) (more : List (List ℕ)) → after_text block text ≡ None → after_texts block (text ∷ more) ≡ Some None → ⊥
bad_text block text more bad is =
    none-some None (sym (ap (option_and_then (λ (next : BlockSoFar). after_texts next more)) bad) ∙ is)

module _ (octets before text after : List ℕ) (block : BlockSoFar) (ended : Bool) (ends : EndsLine before) (one_line : list_any ends_line text ≡ false)
    (good : AreLines (script_lines octets)) (leads : after_texts None (script_lines before) ≡ Some block) where
  -- a line after those before it may stand there
  not_bad : (more : List (List ℕ)) (line : List ℕ) → script_lines octets ≡ script_lines before ++ line ∷ more → after_text block line ≡ None → ⊥
  not_bad more line same bad =
      bad_text block line more bad
      (sym (texts_after (script_lines before) (line ∷ more) None block leads) ∙ ap (after_texts None) (sym same) ∙ good.stand)

  -- the text may stand there, where it was over
  no_bad_line : IsOver ended after → (ended ≡ true → octets ≡ before ++ (text ++ after)) → (others : List ℕ) → octets ≡ before ++ (text ++ (after ++ others))
      → after_text block text ≡ None → ⊥
  no_bad_line over taken others whole bad = elim over [
    | inl here ↦ (
        let from = lines_from before text (after ++ others) ends one_line
        ∙ ap (λ octets. lines_at (fold cut_more (record { lines = script_lines before; rest = text }) (octets ++ others))) here.1 in
        let more = ended_line (script_lines before) text (here.0 ++ others) in
        not_bad more.0 text (ap script_lines whole ∙ from ∙ more.1) bad
        )
    | inr end ↦ elim (some_or_none text) [
      | inl none ↦ empty_line block block refl (ap (after_text block) (sym none) ∙ bad)
      | inr some ↦ (
          let all : octets ≡ before ++ (text ++ []) = taken end.1 ∙ ap (λ after. before ++ (text ++ after)) end.0 in
          not_bad [] text (ap script_lines all ∙ lines_from before text [] ends one_line ∙ ap (λ last. script_lines before ++ last) (unfinished-some text some))
          bad
          )
    ]
  ]

  -- the text is no line that goes on after 200 octets
  no_long_line : length text ≡ 200 → (octet : ℕ) (later : List ℕ) → (octet ≡ 10 → ⊥) → octets ≡ before ++ (text ++ (octet ∷ later)) → ⊥
  no_long_line long octet later other whole =
      let lines = script_lines before in
      let ended : Cut = record { lines = lines ++ text ∷ []; rest = [] } in
      let kept : Cut = record { lines = lines; rest = text ++ octet ∷ [] } in
      let more = begun_line lines (text ++ octet ∷ []) later (omega (arith, length-append text (octet ∷ []))) in
      let from = lines_from before text (octet ∷ later) ends one_line ∙ ap (λ b. lines_at (fold cut_more (cond b ended kept) later)) (ne_eqb octet 10 other) in
      let line = (text ++ octet ∷ []) ++ more.0 in
      not_bad more.1 line (ap script_lines whole ∙ from ∙ more.2)
      (long_line block line (omega (arith, long, length-append text (octet ∷ []), length-append (text ++ octet ∷ []) more.0)))

  -- there are no more lines than there may be
  no_late_line : (others : List ℕ) → 0 < length others → octets ≡ before ++ (text ++ others) → length (script_lines before) < 16384
  no_late_line others some whole =
      let lines = script_lines before in
      let more = one_more_line lines text others some in
      let same = ap (λ octets. length (script_lines octets)) whole ∙ ap length (lines_from before text others ends one_line) in
      omega (arith, more, same, good.few)

-- no line of such a script is faulty, and it ends in no block
module _ {D G V : Type 0} (on : Devices D G V) (by : Keying G) (workers : ℕ) (given : Given) (request : Asked) (start : Run D) (number : ℕ)
    (entries : List Entry) (after : Run D) where
  not_inside : (octets : List ℕ) → AreLines (script_lines octets) → octets ≡ given.taken → EndsInBlock on by workers given request start number entries after → ⊥
  not_inside octets good all h =
      let before = run_leads on by workers request start h.front None entries after h.run in
      let begun : after_text None h.first ≡ Some (Some []) = ap (option_and_then (after_line None)) h.begins in
      let inside : after_texts None (h.first ∷ h.inner) ≡ Some (Some h.asks) =
      ap (option_and_then (λ (next : BlockSoFar). after_texts next h.inner)) begun ∙ inside_leaves h.inner [] h.asks h.inside in
      let left : after_texts None (script_lines octets) ≡ Some (Some h.asks) =
      ap (λ octets. after_texts None (script_lines octets)) all ∙ ap (after_texts None) h.lines
      ∙ texts_after h.front (h.first ∷ h.inner) None None before ∙ inside in
      none-some h.asks (same_Some None (Some h.asks) (sym good.stand ∙ left))

  no_faulty : (octets others : List ℕ) → AreLines (script_lines octets) → CameFrom (Some octets) (Some others) given
      → EndsAtFaultyLine on by workers given request start number entries after → ⊥
  no_faulty octets others good came h =
      let taken : octets ≡ (h.before ++ (h.text ++ h.rest)) ++ others = came.consumed ∙ ap (λ taken. taken ++ others) h.cut.parts in
      let whole : octets ≡ h.before ++ (h.text ++ (h.rest ++ others)) =
      taken ∙ append_assoc h.before (h.text ++ h.rest) others ∙ ap (λ octets. h.before ++ octets) (append_assoc h.text h.rest others) in
      let leads = run_leads on by workers request start (script_lines h.before) h.block entries after h.run in
      elim h.faulty [
        | inl late ↦ omega (
          arith,
          late.0,
          h.counted,
          no_late_line octets h.before h.text h.rest h.block given.ended h.cut.whole_lines h.cut.one_line good leads (h.rest ++ others)
              (omega (arith, late.1, length-append h.rest others)) whole,
        )
        | inr (inl long) ↦ (
            let next = long.1 in
            no_long_line octets h.before h.text h.rest h.block given.ended h.cut.whole_lines h.cut.one_line good leads long.0 next.0 (next.1 ++ others) next.3
            (whole ∙ ap (λ rest. h.before ++ (h.text ++ (rest ++ others))) next.2)
            )
        | inr (inr bad) ↦ no_bad_line octets h.before h.text h.rest h.block given.ended h.cut.whole_lines h.cut.one_line good leads bad.1
            (λ all. came.whole all ∙ h.cut.parts) others whole bad.0
      ]

  pub no_faulty_line : (had left : Option (List ℕ)) → ShowsScript had → CameFrom had left given
      → EndsAtLine on by workers given request start number entries after → ⊥
  no_faulty_line None left good came h = good
  no_faulty_line (Some octets) None good came h = came.consumed
  no_faulty_line (Some octets) (Some others) good came (inl h) = no_faulty octets others good came h
  no_faulty_line (Some octets) (Some others) good came (inr h) = not_inside octets good (came.whole h.ended) h
