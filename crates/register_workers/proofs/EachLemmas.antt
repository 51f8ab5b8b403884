-- Each line of a block, by its own turns.
use Rattle.std.proofs.Common.{◌≡◌, ◌≢◌, ◌∙◌, ℕ, ◌<◌, ◌≤◌, ◌%◌, ◌==◌, Bool, List, [], ◌++◌, length, slice_get, slice_index_or, None, Some, IsSome, Option, arith, inl, inr, refl, sym, ap, subst, mod-lt, ne_eqb}
use Rattle.std.proofs.lemmas.Bool.Decides.{Decides-eqb}
use Rattle.desk.specs.Calls.{AreCallsOf}
use Rattle.desk.specs.declared.calls.Call.{Call}
use Rattle.epoch_board.specs.declared.pairs.Seen.{Seen}
use Rattle.group_terms.specs.Names.{Name}
use Rattle.group_model.specs.declared.entries.Entry.{Entry}
use Rattle.group_steps.specs.Shows.{pairs_shown}
use Rattle.register_workers.specs.Blocks.{Worked}
use Rattle.register_workers.specs.Lines.{Becomes}
use Rattle.register_workers.specs.Own.{AreApart, BecomesBy, HaveOwnTurns, IsOfLines, LinesHaveOwnTurns, IsSender, own_turns, serves}
use Rattle.register_workers.specs.Workers.{turns_in}
use Rattle.register_workers.specs.declared.lines.BlockAsk.{BlockAsk}
use Rattle.register_workers.specs.declared.lines.BlockAsk.TheVariants.{Join, Again, Leave, Batch, Now}
use Rattle.register_workers.specs.declared.lines.BlockLine.{BlockLine}
use Rattle.register_workers.proofs.OwnLemmas.{Stays, has, is_request}
use Rattle.register_workers.proofs.PassingLemmas.{all_entries, by_one}
use Rattle.register_workers.proofs.SharedLemmas.{OwnIf, RanTo, Shared, all_turns, line_at, own_at, ran_becomes, shared}

-- only the pair that it shows changed
only_seen : (line new : BlockLine) (pair : Option Seen) → new ≡ record line { seen = pair } → new ≡ record line { seen = new.seen }
only_seen line new pair now =
    now ∙ ap (λ (pair : Option Seen). record line { seen = pair }) (sym (ap (λ (line : BlockLine). line.seen) now))

module _ (short : Bool) (workers : ℕ) (before turns : List Entry) (lines news : List BlockLine) (calls : List (List (Call Entry))) (some : 1 ≤ workers)
    (apart : AreApart lines) (many : length news ≡ length lines) (each : length calls ≡ workers) (are : AreCallsOf turns calls)
    (worked : (w : ℕ) → w < workers → Worked short before (before ++ turns) workers w lines news calls) where
  -- the turns of a worker
  abbrev made_by : ℕ → List Entry
  made_by w = turns_in (slice_index_or calls w [])

  shared_by : (w : ℕ) → w < workers → Shared short workers w 0 lines news (made_by w)
  shared_by w less =
      let made = worked w less in
      shared short workers w (length before) (before ++ turns) (pairs_shown (before ++ turns)) lines news 0 (pairs_shown before) (slice_index_or calls w [])
      made.known many made.ran

  within : (i : ℕ) → i % workers < workers
  within i = mod-lt i (omega (arith, some))

  module _ (i : ℕ) (line new : BlockLine) (there : slice_get lines i ≡ Some line) (is : slice_get news i ≡ Some new) where
    ran : (own : List Entry) × RanTo short line.asked line own new
    ran = line_at short workers (i % workers) lines news 0 (made_by (i % workers)) (shared_by (i % workers) (within i)) i line new there is i (omega arith)
        ((Decides-eqb (i % workers) (i % workers)).1 refl)

    module _ (m : Name) (sends : IsSender line.asked m) where
      own_by : (w : ℕ) → w < workers → OwnIf short workers w m (i % workers == w) line (own_turns m (made_by w)) new
      own_by w less = own_at short workers w m lines news 0 (made_by w) (shared_by w less) apart i line new there is sends i (omega arith)

      others : (k : ℕ) → k < length calls → k ≢ i % workers → own_turns m (made_by k) ≡ []
      others k less other = subst (λ b. OwnIf short workers k m b line (own_turns m (made_by k)) new) (ne_eqb (i % workers) k (λ same. other (sym same)))
          (own_by k (subst (λ n. k < n) each less))

      own_of : Becomes short line.asked (record line { seen = None }) (own_turns m turns) new
      own_of =
          let w = i % workers in
          subst (λ list. Becomes short line.asked (record line { seen = None }) list new)
          (sym (by_one turns calls are (serves m) w (subst (λ n. w < n) (sym each) (within i)) others))
          (subst (λ b. OwnIf short workers w m b line (own_turns m (made_by w)) new) ((Decides-eqb w w).1 refl) (own_by w (within i)))

    becomes : line.asked ≢ Now → Becomes short line.asked (record line { seen = None }) ran.0 new
    becomes other = ran_becomes short line.asked line ran.0 new other ran.1

    stays : line.asked ≢ Now → Stays line.asked (record line { seen = None }) new
    stays other = (has short line.asked (record line { seen = None }) ran.0 new (becomes other)).stays

    looked : line.asked ≡ Now → (pair : Seen) × (new ≡ record line { seen = Some pair })
    looked now = (subst (λ asked. RanTo short asked line ran.0 new) now ran.1).1

    by_own : (asked : BlockAsk) → line.asked ≡ asked → BecomesBy short asked line turns new
    by_own (Join m) asks = own_of m (inl asks)
    by_own (Again m) asks = own_of m (inr asks)
    by_own (Leave m) asks =
        only_seen line new None (subst (λ asked. Stays asked (record line { seen = None }) new) asks (stays (λ now. absurd (cc (asks, now)))))
    by_own Batch asks =
        only_seen line new None (subst (λ asked. Stays asked (record line { seen = None }) new) asks (stays (λ now. absurd (cc (asks, now)))))
    by_own Now asks = let look = looked asks in only_seen line new (Some look.0) look.1

  each_own : HaveOwnTurns short lines news turns
  each_own = record {
    own = λ i line new there is. by_own i line new there is line.asked refl;
    of_lines = all_entries turns calls are (IsOfLines lines) (λ k less. all_turns short workers k (IsOfLines lines) lines news 0 (made_by k)
        (shared_by k (subst (λ n. k < n) each less)) (λ i line there turn is. is_request lines i line there line.asked refl turn is));
    shown = λ i line new there is now. subst (λ (new : BlockLine). IsSome new.seen) (sym (looked i line new there is now).1) refl;
    unseen = λ i line new there is other.
        (has short line.asked (record line { seen = None }) (ran i line new there is).0 new (becomes i line new there is other)).seen;
  }

pub have_own : LinesHaveOwnTurns
have_own short workers before turns lines news calls some apart many each are worked =
    each_own short workers before turns lines news calls some apart many each are worked
