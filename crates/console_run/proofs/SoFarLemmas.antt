-- A run so far, and the octets that come next.
-- One octet, a piece and the whole script are each `GoesOn octets old new`, so `GoesOn-then` and `append_assoc` put them together.
use Rattle.std.proofs.Common.{◌≡◌, ℕ, ◌+◌, ◌<◌, ◌≤◌, true, cond, List, [], ◌∷◌, ◌++◌, length, sym, refl, ap, ◌∙◌, subst, arith, append_assoc, inl, inr, Option, None, Some}
use Rattle.std.specs.Prelude.{nat_lt}
use Rattle.std.proofs.lemmas.Bool.{or_from, ne_eqb, lt-ltb, and_from}
use Rattle.std.proofs.lemmas.List.{append-nil, length-append}
use Rattle.std.proofs.lemmas.List.Folds.{list_any-append, list_all-append}
use Rattle.gd_edges.specs.Shown.{Shown}
use Rattle.gd_edges.specs.declared.draws.Draws.{Ghosts as DrawGhosts}
use Rattle.group_run.specs.Views.{View}
use Rattle.script_text.specs.Report.{entries_text}
use Rattle.group_steps.specs.Devices.{Devices}
use Rattle.console_run.specs.Scripts.{are_octets, ends_line, unfinished, script_lines}
use Rattle.console_run.specs.Lines.{IsRunOf}
use Rattle.console_run.specs.Causes.{IsCut}
use Rattle.run_report.specs.Reports.{Puts}
use Rattle.console_run.specs.Private.Cuts.{Cut, cut_of}
use Rattle.console_run.specs.Private.Follows.{moment, IsOpened}
use Rattle.console_run.specs.Private.Runs.{Drawing, HasBegunIf, IsPlaced, RunsThere, by_text, Start, Moment, IsSoFar, GoesOn, open_of}
use Rattle.console_run.specs.declared.open_blocks.OpenBlock.{OpenBlock}
use Rattle.console_run.specs.Lines.{GivesAt, TextGives}
use Rattle.group_model.specs.declared.entries.Entry.{Entry}
use Rattle.group_steps.specs.Runs.{Run}
use Rattle.script_text.specs.declared.lines.Line.{Line}
use Rattle.run_report.proofs.KnownLemmas.{Puts-entries}
use Rattle.console_run.proofs.CutLemmas.{cut_of-more, lines_cut, unfinished-some}
use Rattle.console_run.proofs.LineLemmas.{IsRunOf-more, IsRunOf-still, begins_block, begins_none, inside_more, inside_none, text_leads}

small_more : (before : List ℕ) (octet : ℕ) → are_octets before ≡ true → octet < 256 → are_octets (before ++ octet ∷ []) ≡ true
small_more before octet h low = list_all-append (λ octet. nat_lt octet 256) before (octet ∷ []) ∙ and_from _ _ h (and_from _ _ (lt-ltb octet 256 low) refl)

module _ {D G V R : Type 0} (on : Devices D G V) (draws : DrawGhosts R) (workers : ℕ) where
  -- one line more, and where a block was begun then
  begun_more : (start : Start D G) (lines : List (List ℕ)) (line : List ℕ) (count : ℕ) (old new : Option OpenBlock) (entries : List Entry) (now : Run D)
      (more : List Entry) (after : Run D) → length lines ≡ count → IsPlaced count old new
      → IsRunOf on start.by workers start.request start.run lines (open_of old) entries now
      → HasBegunIf on draws workers start lines entries now old → TextGives on start.by workers (open_of old) line (open_of new) entries now more after
      → HasBegunIf on draws workers start (lines ++ line ∷ []) (entries ++ more) after new
  begun_more start lines line count old None entries now more after counted placed run begun gave = tt
  begun_more start lines line count None (Some new) entries now more after counted placed run begun gave =
      let is = begins_block gave.line new.asks gave.stands in
      let none = begins_none on start.by entries now more after
      (subst (λ (line : Line). GivesAt on start.by workers None line entries now more after) is.0 gave.gives) in
      record {
        front = lines;
        first = line;
        inner = [];
        parts = refl;
        run = IsRunOf-still on start.by workers start.request start.run lines None entries now more after none run;
        begins = gave.is ∙ ap Some is.0;
        inside = ap Some (sym is.1);
        counted = counted ∙ sym placed;
      }
  begun_more start lines line count (Some old) (Some new) entries now more after counted placed run begun gave =
      let none = inside_none on start.by workers old.asks new.asks gave.line entries now more after gave.stands gave.gives in
      record {
        front = begun.front;
        first = begun.first;
        inner = begun.inner ++ line ∷ [];
        parts = ap (λ lines. lines ++ line ∷ []) begun.parts ∙ append_assoc begun.front (begun.first ∷ begun.inner) (line ∷ []);
        run = IsRunOf-still on start.by workers start.request start.run begun.front None entries now more after none begun.run;
        begins = begun.begins;
        inside = inside_more begun.inner line [] old.asks new.asks begun.inside
            (text_leads on start.by workers (Some old.asks) (Some new.asks) line entries now more after gave);
        counted = begun.counted ∙ sym placed;
      }

  pub GoesOn-none : (now : Moment D G R) → GoesOn on draws workers [] now now
  GoesOn-none now start before h = subst (λ octets. IsSoFar on draws workers start octets now) (sym (append-nil before)) h

  pub GoesOn-then : (a b : List ℕ) (first second third : Moment D G R) → GoesOn on draws workers a first second → GoesOn on draws workers b second third
      → GoesOn on draws workers (a ++ b) first third
  GoesOn-then a b first second third h k start before so =
      subst (λ octets. IsSoFar on draws workers start octets third) (append_assoc before a b) (k start (before ++ a) (h start before so))

  module _ (held : View D G R) (block : Option OpenBlock) (line : List ℕ) (count : ℕ) (out : Shown) (peers : Drawing) where
    -- an octet that ends no line is kept
    pub GoesOn-octet : (octet : ℕ) → octet < 256 → (octet ≡ 10 → ⊥)
        → GoesOn on draws workers (octet ∷ []) (moment held block line count out peers) (moment held block (line ++ octet ∷ []) count out peers)
    GoesOn-octet octet low other start before h =
        let so_far = cut_of before in
        let ended : Cut = record { lines = so_far.lines ++ so_far.rest ∷ []; rest = [] } in
        let kept : Cut = record { lines = so_far.lines; rest = so_far.rest ++ octet ∷ [] } in
        let cut : cut_of (before ++ octet ∷ []) ≡ kept = cut_of-more before octet ∙ ap (λ ends. cond ends ended kept) (ne_eqb octet 10 other) in
        record {
          small = small_more before octet h.small low;
          rest = ap (λ (c : Cut). c.rest) cut ∙ ap (λ rest. rest ++ octet ∷ []) h.rest;
          counted = ap (λ (c : Cut). length c.lines) cut ∙ h.counted;
          now = h.now;
          run = subst (λ (c : Cut). IsRunOf on start.by workers start.request start.run c.lines (open_of block) held.entries h.now) (sym cut) h.run;
          begun = subst (λ (c : Cut). HasBegunIf on draws workers start c.lines held.entries h.now block) (sym cut) h.begun;
          stands = h.stands;
          puts = h.puts;
          front = h.front;
          parts = ap (λ octets. octets ++ octet ∷ []) h.parts ∙ append_assoc h.front line (octet ∷ []);
          ended = h.ended;
          cut = h.cut ∙ ap (λ (c : Cut). record { lines = c.lines; rest = [] }) (sym cut);
          one_line = list_any-append ends_line line (octet ∷ []) ∙ or_from _ _ h.one_line (or_from _ _ (ne_eqb octet 10 other) refl);
        }

    -- octet 10 ends the line, which is run
    pub GoesOn-line : (new : View D G R) (after : Option OpenBlock) (now : Shown) (peers_now : Drawing) → ((k : ℕ) → peers_now.block k ≡ peers.block k)
        → count < 16384 → IsPlaced count block after
        → RunsThere on.disks draws peers (by_text on workers (open_of block) line (open_of after)) held new out now
        → GoesOn on draws workers (10 ∷ []) (moment held block line count out peers) (moment new after [] (count + 1) now peers_now)
    GoesOn-line new after now peers_now blocks room placed run start before h =
        let lines = (cut_of before).lines in
        let next = run.each start.by h.now h.stands in
        let cut : cut_of (before ++ 10 ∷ []) ≡ record { lines = lines ++ line ∷ []; rest = [] } =
        cut_of-more before 10 ∙ ap (λ rest. record { lines = lines ++ rest ∷ []; rest = [] }) h.rest in
        record {
          small = small_more before 10 h.small (omega arith);
          rest = ap (λ (c : Cut). c.rest) cut;
          counted = ap (λ (c : Cut). length c.lines) cut ∙ length-append lines (line ∷ []) ∙ ap (λ n. n + 1) h.counted;
          now = next.after;
          run = subst (λ (c : Cut). IsRunOf on start.by workers start.request start.run c.lines (open_of after) new.entries next.after) (sym cut)
              (subst (λ entries. IsRunOf on start.by workers start.request start.run (lines ++ line ∷ []) (open_of after) entries next.after) (sym next.grown)
              (IsRunOf-more on start.by workers start.request start.run lines line (open_of block) (open_of after) held.entries h.now run.more next.after h.run
              (omega (arith, room, h.counted)) next.given));
          begun = subst (λ (c : Cut). HasBegunIf on draws workers start c.lines new.entries next.after after) (sym cut)
              (subst (λ entries. HasBegunIf on draws workers start (lines ++ line ∷ []) entries next.after after) (sym next.grown)
              (begun_more start lines line count block after held.entries h.now run.more next.after h.counted placed h.run h.begun next.given));
          stands = record {
            reflects = next.stands.reflects;
            signer = next.stands.signer;
            blocks = next.stands.blocks;
            members_blocks = λ k. blocks k ∙ next.stands.members_blocks k;
            group = next.stands.group;
          };
          puts = subst (λ entries. Puts start.was now (entries_text entries)) (sym next.grown)
              (Puts-entries start.was out now held.entries run.more h.puts run.puts);
          front = before ++ 10 ∷ [];
          parts = sym (append-nil (before ++ 10 ∷ []));
          ended = inr (before, refl);
          cut = cut ∙ ap (λ (c : Cut). record { lines = c.lines; rest = [] }) (sym cut);
          one_line = refl;
        }

  -- the same, as the code has it
  pub GoesOn-ended : (held new : View D G R) (block after : Option OpenBlock) (line next : List ℕ) (count octet : ℕ) (out now : Shown) (peers peers_now : Drawing)
      → ((k : ℕ) → peers_now.block k ≡ peers.block k) → octet ≡ 10 → next ≡ [] → count < 16384 → IsPlaced count block after
      → RunsThere on.disks draws peers (by_text on workers (open_of block) line (open_of after)) held new out now
      → GoesOn on draws workers (octet ∷ []) (moment held block line count out peers) (moment new after next (count + 1) now peers_now)
  GoesOn-ended held new block after line next count octet out now peers peers_now blocks ends cleared room placed run =
      subst (λ o. GoesOn on draws workers (o ∷ []) (moment held block line count out peers) (moment new after next (count + 1) now peers_now)) (sym ends)
      (subst (λ rest. GoesOn on draws workers (10 ∷ []) (moment held block line count out peers) (moment new after rest (count + 1) now peers_now)) (sym cleared)
      (GoesOn-line held block line count out peers new after now peers_now blocks room placed run))

  pub GoesOn-kept : (held : View D G R) (block : Option OpenBlock) (line next : List ℕ) (count octet : ℕ) (out : Shown) (peers : Drawing) → octet < 256 → (octet ≡ 10 → ⊥)
      → next ≡ line ++ octet ∷ [] → GoesOn on draws workers (octet ∷ []) (moment held block line count out peers) (moment held block next count out peers)
  GoesOn-kept held block line next count octet out peers low other kept =
      subst (λ rest. GoesOn on draws workers (octet ∷ []) (moment held block line count out peers) (moment held block rest count out peers)) (sym kept)
      (GoesOn-octet held block line count out peers octet low other)

  -- a group that was just opened has run no line
  pub first_so_far : (start : Start D G) (held : View D G R) (out : Shown) (peers : Drawing) → IsOpened on draws peers start held
      → Puts start.was out (entries_text held.entries) → IsSoFar on draws workers start [] (moment held None [] 0 out peers)
  first_so_far start held out peers opened puts = record {
    small = refl;
    rest = refl;
    counted = refl;
    now = opened.opened;
    run = record { opening = held.entries; opened = opened.opened; opens = opened.opens; few = omega arith; gives = (refl, refl, refl) };
    begun = tt;
    stands = opened.stands;
    puts = puts;
    front = [];
    parts = refl;
    ended = inl refl;
    cut = refl;
    one_line = refl;
  }

  -- where a run is in the octets that were taken
  module _ (start : Start D G) (before : List ℕ) (now : Moment D G R) (so : IsSoFar on draws workers start before now) where
    lines_before : script_lines so.front ≡ (cut_of before).lines
    lines_before = lines_cut so.front ∙ ap (λ (c : Cut). c.lines ++ unfinished c.rest) so.cut ∙ append-nil (cut_of before).lines

    pub count_before : length (script_lines so.front) ≡ now.count
    count_before = ap length lines_before ∙ so.counted

    -- the lines that ended were run
    pub run_before : IsRunOf on start.by workers start.request start.run (script_lines so.front) (open_of now.block) now.held.entries so.now
    run_before =
        subst (λ lines. IsRunOf on start.by workers start.request start.run lines (open_of now.block) now.held.entries so.now) (sym lines_before) so.run

    pub IsCut-from : (after : List ℕ) → length now.line ≤ 200 → length after ≤ 4096 → (0 < length now.line → now.count < 16384)
        → IsCut (before ++ after) so.front now.line after
    IsCut-from after short near within = record {
      parts = ap (λ octets. octets ++ after) so.parts ∙ append_assoc so.front now.line after;
      whole_lines = so.ended;
      one_line = so.one_line;
      short = short;
      near = near;
      within = λ some. omega (arith, within some, count_before);
    }

    -- a script that ends with its last line
    pub whole_lines : now.line ≡ [] → script_lines before ≡ (cut_of before).lines
    whole_lines none = lines_cut before ∙ ap (λ rest. (cut_of before).lines ++ unfinished rest) (so.rest ∙ none) ∙ append-nil (cut_of before).lines

    -- and one that ends in the middle of a line, which was run
    pub lines_with_last : 0 < length now.line → script_lines before ≡ (cut_of before).lines ++ now.line ∷ []
    lines_with_last some =
        let lines = (cut_of before).lines in
        lines_cut before ∙ ap (λ rest. lines ++ unfinished rest) so.rest ∙ ap (λ last. lines ++ last) (unfinished-some now.line some)

    module _ (new : View D G R) (after : Option OpenBlock) (out : Shown) (room : now.count < 16384) (placed : IsPlaced now.count now.block after)
        (run : RunsThere on.disks draws now.peers (by_text on workers (open_of now.block) now.line (open_of after)) now.held new now.out out) where
      abbrev pub last_line : Run D
      last_line = (run.each start.by so.now so.stands).after

      pub run_with_last : IsRunOf on start.by workers start.request start.run ((cut_of before).lines ++ now.line ∷ []) (open_of after) new.entries last_line
      run_with_last =
          let lines = (cut_of before).lines in
          let next = run.each start.by so.now so.stands in
          subst (λ entries. IsRunOf on start.by workers start.request start.run (lines ++ now.line ∷ []) (open_of after) entries next.after) (sym next.grown)
          (IsRunOf-more on start.by workers start.request start.run lines now.line (open_of now.block) (open_of after) now.held.entries so.now run.more next.after
          so.run (omega (arith, room, so.counted)) next.given)

      pub begun_with_last : HasBegunIf on draws workers start ((cut_of before).lines ++ now.line ∷ []) new.entries last_line after
      begun_with_last =
          let lines = (cut_of before).lines in
          let next = run.each start.by so.now so.stands in
          subst (λ entries. HasBegunIf on draws workers start (lines ++ now.line ∷ []) entries next.after after) (sym next.grown)
          (begun_more start lines now.line now.count now.block after now.held.entries so.now run.more next.after so.counted placed so.run so.begun next.given)
