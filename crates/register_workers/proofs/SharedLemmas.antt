-- The turns of a worker, line by line.
use Rattle.std.proofs.Common.{◌≡◌, ◌≢◌, ◌∙◌, ℕ, zero, suc, ◌+◌, ◌%◌, ◌==◌, Bool, true, false, MatchBool, List, [], ◌∷◌, ◌++◌, length, drop, slice_get, slice_index_or, None, Some, if◌then◌else◌, arith, refl, sym, ap, subst}
use Rattle.std.specs.List.{AllByRecursion}
use Rattle.std.proofs.lemmas.List.{append-nil, map-append}
use Rattle.std.proofs.lemmas.List.Elements.{filter-append}
use Rattle.std.proofs.lemmas.Option.{none-some, same_Some}
use Rattle.desk.specs.declared.calls.Call.{Call}
use Rattle.epoch_board.specs.Pairs.{last_pair}
use Rattle.epoch_board.specs.declared.pairs.Seen.{Seen}
use Rattle.group_terms.specs.Names.{Name, same_name}
use Rattle.group_model.specs.declared.entries.Entry.{Entry}
use Rattle.work_shares.specs.Shares.{share_from}
use Rattle.register_workers.specs.Lines.{Becomes}
use Rattle.register_workers.specs.Own.{AreApart, IsSender, names_in, own_turns, serves}
use Rattle.register_workers.specs.Workers.{RanAll, RanBy, turns_in}
use Rattle.register_workers.specs.declared.lines.BlockAsk.{BlockAsk}
use Rattle.register_workers.specs.declared.lines.BlockAsk.TheVariants.{Join, Again, Leave, Batch, Now}
use Rattle.register_workers.specs.declared.lines.BlockLine.{BlockLine}
use Rattle.register_workers.proofs.OwnLemmas.{IsTurnOf, at_name, first_apart, has, is_served, later_apart, no_look, not_served, rest_apart, sender_named}
use Rattle.register_workers.proofs.PassingLemmas.{all_append, all_map, filter_all, filter_none}

module _ (short : Bool) where
  -- what a line became by its turns
  abbrev pub RanTo : BlockAsk → BlockLine → List Entry → BlockLine → Type 0
  RanTo Now line turns new = (turns ≡ []) × ((pair : Seen) × (new ≡ record line { seen = Some pair }))
  RanTo asked line turns new = Becomes short line.asked (record line { seen = None }) turns new

  -- its turns ask what it asks
  ran_turns : (asked : BlockAsk) (line : BlockLine) (turns : List Entry) (new : BlockLine) → line.asked ≡ asked → RanTo asked line turns new
      → AllByRecursion (IsTurnOf line.asked) turns
  ran_turns Now line turns new asks ran = subst (AllByRecursion (IsTurnOf line.asked)) (sym ran.0) tt
  ran_turns asked line turns new asks ran = (has short line.asked (record line { seen = None }) turns new ran).turns_are

  -- where it is no look
  pub ran_becomes : (asked : BlockAsk) (line : BlockLine) (turns : List Entry) (new : BlockLine) → asked ≢ Now → RanTo asked line turns new
      → Becomes short line.asked (record line { seen = None }) turns new
  ran_becomes Now line turns new other ran = absurd (other refl)
  ran_becomes asked line turns new other ran = ran

  -- ---- a worker

  module _ (n w : ℕ) where
    -- The turns of a worker, of lines from a place on: those of the lines at its places, one after the other.
    abbrev pub Shared : ℕ → List BlockLine → List BlockLine → List Entry → Type 0
    Shared at [] news turns = turns ≡ []
    Shared at (line ∷ lines) [] turns = ⊥
    Shared at (line ∷ lines) (new ∷ news) turns =
        (own : List Entry) × (rest : List Entry) × (turns ≡ own ++ rest) × MatchBool (at % n == w) (RanTo line.asked line own new) (own ≡ [])
        × Shared (at + 1) lines news rest

    module _ (begun : ℕ) (history : List Entry) (shown : List Seen) where
      ran_to : (asked : BlockAsk) (line : BlockLine) (known : List Seen) (calls : List (Call Entry)) (new : BlockLine) (later : List Seen)
          → RanBy begun history shown short asked line known calls new later → RanTo asked line (turns_in calls) new
      ran_to Now line known calls new later ran = (ap turns_in ran.no_turn, (last_pair later, ran.now))
      ran_to (Join m) line known calls new later ran = ran.becomes
      ran_to (Again m) line known calls new later ran = ran.becomes
      ran_to (Leave m) line known calls new later ran = ran.becomes
      ran_to Batch line known calls new later ran = ran.becomes

      shared_if : (b : Bool) (at : ℕ) (line new : BlockLine) (lines news : List BlockLine) (mine made : List BlockLine) (known : List Seen)
          (calls : List (Call Entry)) (later : List Seen)
          → RanAll begun history shown short (if b then line ∷ mine else mine) known calls (if b then new ∷ made else made) later
          → ((known : List Seen) (calls : List (Call Entry)) → RanAll begun history shown short mine known calls made later
          → Shared at lines news (turns_in calls))
          → (own : List Entry) × (rest : List Entry) × (turns_in calls ≡ own ++ rest) × MatchBool b (RanTo line.asked line own new) (own ≡ [])
          × Shared at lines news rest
      shared_if true at line new lines news mine made known calls later (own, rest, one, others, next, are, is, ran, more) go = (
        turns_in own,
        turns_in rest,
        ap turns_in are ∙ map-append (λ (call : Call Entry). call.entry) own rest,
        subst (λ new. RanTo line.asked line (turns_in own) new) (sym (ap (λ list. slice_index_or list 0 new) is))
            (ran_to line.asked line known own one next ran),
        go next rest (subst (λ made. RanAll begun history shown short mine next rest made later) (sym (ap (drop 1) is)) more),
      )
      shared_if false at line new lines news mine made known calls later ran go = ([], turns_in calls, refl, refl, go known calls ran)

      pub shared : (lines news : List BlockLine) (at : ℕ) (known : List Seen) (calls : List (Call Entry)) (later : List Seen) → length news ≡ length lines
          → RanAll begun history shown short (share_from n w at lines) known calls (share_from n w at news) later → Shared at lines news (turns_in calls)
      shared [] news at known calls later many ran = ap turns_in ran.0
      shared (line ∷ lines) [] at known calls later many ran = absurd (omega (arith, many))
      shared (line ∷ lines) (new ∷ news) at known calls later many ran =
          shared_if (at % n == w) (at + 1) line new lines news (share_from n w (at + 1) lines) (share_from n w (at + 1) news) known calls later ran
          (λ known calls ran. shared lines news (at + 1) known calls later (omega (arith, many)) ran)

    -- what holds of each turn of a line holds of each turn of the worker
    own_all : (P : Entry → Type 0) (b : Bool) (line new : BlockLine) (own : List Entry) → MatchBool b (RanTo line.asked line own new) (own ≡ [])
        → ((turn : Entry) → IsTurnOf line.asked turn → P turn) → AllByRecursion P own
    own_all P true line new own ran each = all_map (IsTurnOf line.asked) P each own (ran_turns line.asked line own new refl ran)
    own_all P false line new own none each = subst (AllByRecursion P) (sym none) tt

    pub all_turns : (P : Entry → Type 0) (lines news : List BlockLine) (at : ℕ) (turns : List Entry) → Shared at lines news turns
        → ((i : ℕ) (line : BlockLine) → slice_get lines i ≡ Some line → (turn : Entry) → IsTurnOf line.asked turn → P turn) → AllByRecursion P turns
    all_turns P [] news at turns none each = subst (AllByRecursion P) (sym none) tt
    all_turns P (line ∷ lines) [] at turns none each = absurd none
    all_turns P (line ∷ lines) (new ∷ news) at turns (own, rest, are, ran, more) each =
        subst (AllByRecursion P) (sym are) (all_append P own rest (own_all P (at % n == w) line new own ran (each 0 line refl))
        (all_turns P lines news (at + 1) rest more (λ i. each (suc i))))

    -- the line at a place of the worker
    pub line_at : (lines news : List BlockLine) (at : ℕ) (turns : List Entry) → Shared at lines news turns → (i : ℕ) (line new : BlockLine)
        → slice_get lines i ≡ Some line → slice_get news i ≡ Some new → (place : ℕ) → place ≡ at + i → (place % n == w) ≡ true
        → (own : List Entry) × RanTo line.asked line own new
    line_at [] news at turns shared i line new there is place same here = absurd (none-some line there)
    line_at (first ∷ lines) [] at turns shared i line new there is place same here = absurd shared
    line_at (first ∷ lines) (one ∷ news) at turns (own, rest, are, ran, more) zero line new there is place same here =
        let mine : at % n == w ≡ true = ap (λ place. place % n == w) (let e : at ≡ place = omega (arith, same) in e) ∙ here in (
          own,
          subst (λ (line : BlockLine). RanTo line.asked line own new) (same_Some first line there)
              (subst (λ new. RanTo first.asked first own new) (same_Some one new is)
              (subst (λ b. MatchBool b (RanTo first.asked first own one) (own ≡ [])) mine ran)),
        )
    line_at (first ∷ lines) (one ∷ news) at turns (own, rest, are, ran, more) (suc i) line new there is place same here =
        line_at lines news (at + 1) rest more i line new there is place (omega (arith, same)) here

    -- ---- the turns of one member

    module _ (m : Name) where
      -- they are all turns of its line, if that is the worker's; else there are none
      abbrev pub OwnIf : Bool → BlockLine → List Entry → BlockLine → Type 0
      OwnIf b line turns new = MatchBool b (Becomes short line.asked (record line { seen = None }) turns new) (turns ≡ [])

      own_if : (b : Bool) (line new : BlockLine) (own : List Entry) → IsSender line.asked m → MatchBool b (RanTo line.asked line own new) (own ≡ [])
          → OwnIf b line (own_turns m own) new
      own_if true line new own sends ran =
          let all = all_map (IsTurnOf line.asked) (λ turn. serves m turn ≡ true) (is_served m line.asked sends) own
          (ran_turns line.asked line own new refl ran) in
          subst (λ turns. Becomes short line.asked (record line { seen = None }) turns new) (sym (filter_all (serves m) own all))
          (ran_becomes line.asked line own new (no_look m line.asked sends) ran)
      own_if false line new own sends none = ap (own_turns m) none

      pub own_at : (lines news : List BlockLine) (at : ℕ) (turns : List Entry) → Shared at lines news turns → AreApart lines → (i : ℕ)
          (line new : BlockLine) → slice_get lines i ≡ Some line → slice_get news i ≡ Some new → IsSender line.asked m → (place : ℕ) → place ≡ at + i
          → OwnIf (place % n == w) line (own_turns m turns) new
      own_at [] news at turns shared apart i line new there is sends place same = absurd (none-some line there)
      own_at (first ∷ lines) [] at turns shared apart i line new there is sends place same = absurd shared
      own_at (first ∷ lines) (one ∷ news) at turns (own, rest, are, ran, more) apart zero line new there is sends place same =
          let same_line = same_Some first line there in
          let sends_first : IsSender first.asked m = subst (λ (line : BlockLine). IsSender line.asked m) (sym same_line) sends in
          let others = later_apart m first.asked (names_in lines) sends_first apart in
          let none : own_turns m rest ≡ [] = filter_none (serves m) rest (all_turns (λ turn. serves m turn ≡ false) lines news (at + 1) rest more
          (λ j other there. not_served m other.asked (λ name sends. at_name (λ name. same_name m name ≡ false) name (names_in lines)
          (sender_named name lines j other there sends) others))) in
          let all : own_turns m own ≡ own_turns m turns =
          sym (ap (own_turns m) are ∙ filter-append (serves m) own rest ∙ ap (λ list. own_turns m own ++ list) none ∙ append-nil (own_turns m own)) in
          subst (λ place. OwnIf (place % n == w) line (own_turns m turns) new) (let e : at ≡ place = omega (arith, same) in e)
          (subst (λ (line : BlockLine). OwnIf (at % n == w) line (own_turns m turns) new) same_line
          (subst (λ new. OwnIf (at % n == w) first (own_turns m turns) new) (same_Some one new is)
          (subst (λ list. OwnIf (at % n == w) first list one) all (own_if (at % n == w) first one own sends_first ran))))
      own_at (first ∷ lines) (one ∷ news) at turns (own, rest, are, ran, more) apart (suc i) line new there is sends place same =
          let named = sender_named m lines i line there sends in
          let none : own_turns m own ≡ [] = filter_none (serves m) own (own_all (λ turn. serves m turn ≡ false) (at % n == w) first one own ran
          (not_served m first.asked (first_apart m first.asked (names_in lines) named apart))) in
          let all : own_turns m rest ≡ own_turns m turns =
          sym (ap (own_turns m) are ∙ filter-append (serves m) own rest ∙ ap (λ list. list ++ own_turns m rest) none) in
          subst (λ list. OwnIf (place % n == w) line list new) all
          (own_at lines news (at + 1) rest more (rest_apart first.asked (names_in lines) apart) i line new there is sends place (omega (arith, same)))
