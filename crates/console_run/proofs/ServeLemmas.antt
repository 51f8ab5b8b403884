-- At each moment of the console's history, and along each stretch of it: what follows by the laws on histories.
use Rattle.std.proofs.Common.{◌≡◌, ◌∙◌, ℕ, ◌+◌, ◌≤◌, true, Bool, List, [], ◌∷◌, ◌++◌, length, sym, refl, ap, subst, inl, inr}
use Rattle.std.proofs.lemmas.List.{length-append, map-append}
use Rattle.group_terms.specs.Names.{Name}
use Rattle.group_terms.specs.declared.changes.Change.{Change}
use Rattle.group_terms.specs.declared.keys.Wrap.{Wrap}
use Rattle.group_values.specs.Values.{Made, batches_made}
use Rattle.group_model.specs.Growth.{Leaves}
use Rattle.group_model.specs.Places.{IsValid}
use Rattle.group_model.specs.Servers.{coming_batch, coming_values}
use Rattle.rekey_plan.specs.WrapCounts.{WrapsAreFew, most_wraps}
use Rattle.group_model.specs.Wraps.{wraps_at}
use Rattle.group_model.specs.declared.entries.Answer.{Answer}
use Rattle.group_model.specs.declared.entries.Answer.TheVariants.{Batched, Derived}
use Rattle.group_model.specs.declared.entries.Asked.TheVariants.{Batch}
use Rattle.group_model.specs.declared.entries.Entry.{Entry}
use Rattle.group_model.specs.declared.entries.Output.{Output}
use Rattle.group_model.specs.declared.entries.Outside.{Outside}
use Rattle.server_steps.specs.Batches.{IsBatching}
use Rattle.group_steps.specs.ChainLaws.{along_on}
use Rattle.group_steps.specs.Questions.{IsQuestion}
use Rattle.group_steps.specs.Laws.{IsSure, LeavesValidList}
use Rattle.group_steps.specs.Moments.{IsMoment, IsStretch, IsTrueMoment, MomentsEndHistories}
use Rattle.group_steps.specs.Runs.{Outset, Run, no_run, with_members}
use Rattle.group_steps.specs.TrueSteps.{AreTrueSteps, SureStepsAreTrue, TrueStepsGrow, batches_in}
use Rattle.sym_closure.specs.Serving.{EarlierRunsServeNobodyElse, HistoriesServeMembers, SaysWhoDerives, ServesMembers}
use Rattle.group_steps.specs.Devices.{Devices, Keying}
use Rattle.group_steps.specs.Steps.{IsHistory, IsRunStep}
use Rattle.console_run.specs.Serving.{ServesAlong}

-- what is answered to a question
abbrev derived : Answer → Bool
derived (Derived said) = said
derived answer = true

-- a question of which the answer is due to what was given and sent, in a history that serves its members
says_who : {D : Type 0} (depth : ℕ) (batches : List (List Change)) (before : List Entry) (epoch : ℕ) (names : List Name) (run : Run D) (answer : Answer)
    (outside : Outside) (next : Run D) → ServesMembers depth batches before → IsQuestion before epoch names run answer outside next
    → SaysWhoDerives depth batches before epoch names answer
says_who depth batches before epoch names run answer outside next serves asked = record {
  only = λ said. serves.only epoch names (asked.decides.0 (ap derived (sym asked.answers ∙ said)));
  own = λ reply has ours begun within stayed.
      asked.answers ∙ ap Derived (asked.decides.1 (serves.by_sent reply epoch has begun within stayed names ours));
}

-- what a batch puts out
abbrev put_out : Answer → Output → Output
put_out (Batched output) other = output
put_out answer other = other

module _ {D G V : Type 0} (on : Devices D G V) (by : Keying G)
    (ends : MomentsEndHistories on by)
    (lists : LeavesValidList on by)
    (outset : Outset D) (entries : List Entry) (after : Run D)
    (history : IsHistory on by (no_run outset) entries after) where
  abbrev Moment : List Entry → Run D → Type 0
  Moment front mid = IsMoment on by (no_run outset) entries after front mid

  abbrev Stretch : List Entry → Entry → Run D → List Entry → Run D → Type 0
  Stretch before opening next later mid = IsStretch on by (no_run outset) entries after before opening next later mid

  -- ---- moments

  pub history_at : (front : List Entry) (mid : Run D) → Moment front mid → IsHistory on by (no_run outset) front mid
  history_at front mid moment = ends (no_run outset) entries after front mid history moment

  pub valid_at : (front : List Entry) (mid : Run D) → Moment front mid → IsValid mid.host.server.depth (batches_in mid)
  valid_at front mid moment = lists outset front mid (history_at front mid moment)

  pub true_at : SureStepsAreTrue on by → (front : List Entry) (mid : Run D) → Moment front mid
      → IsSure on.disks outset.disk front → IsTrueMoment on by (no_run outset) entries after front mid
  true_at sure front mid moment is =
      record { moment = moment; reads = sure [] (no_run outset) front mid moment.so_far is }

  few_stored : WrapsAreFew → (front : List Entry) (mid : Run D) (answer : Answer) (output : Output) (outside : Outside) (next : Run D) → Moment front mid
      → answer ≡ Batched output → IsBatching on.disks on.signers by.signer by.block mid.host answer outside next.host
      → length output.wraps ≤ most_wraps mid.host.server.depth (length mid.host.server.queue)
  few_stored few front mid answer output outside next moment says (inl stored) =
      let batches = batches_in mid in
      let made = coming_batch mid.host.server (coming_values mid.host.server by.block) in
      let same : stored.output ≡ output = ap (λ (answer : Answer). put_out answer output) (sym stored.answers ∙ says) in
      let more : batches_made (mid.host.server.list ++ made ∷ []) ≡ batches ++ mid.host.server.queue ∷ [] =
      map-append (λ (made : Made). made.changes) mid.host.server.list (made ∷ []) in
      let wraps : output.wraps ≡ wraps_at mid.host.server.depth (batches ++ mid.host.server.queue ∷ []) (length batches + 1) =
      sym (ap (λ (output : Output). output.wraps) same) ∙ stored.puts_out.says.wraps
      ∙ ap (λ (list : List (List Change)). wraps_at mid.host.server.depth list (length list)) more
      ∙ ap (λ (n : ℕ). wraps_at mid.host.server.depth (batches ++ mid.host.server.queue ∷ []) n) (length-append batches (mid.host.server.queue ∷ [])) in
      subst (λ (wraps : List Wrap). length wraps ≤ most_wraps mid.host.server.depth (length mid.host.server.queue)) (sym wraps)
      (few mid.host.server.depth batches mid.host.server.queue (valid_at front mid moment))
  few_stored few front mid answer output outside next moment says (inr (inl doubt)) = absurd (cc (doubt.answers, says))
  few_stored few front mid answer output outside next moment says (inr (inr (inl refused))) = absurd (cc (refused.says.answers, says))
  few_stored few front mid answer output outside next moment says (inr (inr (inr memory))) = absurd (cc (memory.answers, says))

  pub few_at : WrapsAreFew → (front : List Entry) (mid : Run D) (output : Output) (outside : Outside) (next : Run D) → Moment front mid
      → IsRunStep on by front mid (record { asked = Batch; outside = outside; answer = Batched output }) next
      → length output.wraps ≤ most_wraps mid.host.server.depth (length mid.host.server.queue)
  few_at few front mid output outside next moment step = few_stored few front mid (Batched output) output outside next moment refl step.answered.answered.served

  -- ---- stretches

  pub stretch_moment : (before : List Entry) (opening : Entry) (next : Run D) (later : List Entry) (mid : Run D) → Stretch before opening next later mid
      → Moment (before ++ opening ∷ later) mid
  stretch_moment before opening next later mid stretch = record {
    later = stretch.rest;
    is = stretch.parts;
    so_far = along_on (IsRunStep on by) [] before (opening ∷ later) (no_run outset) stretch.run mid stretch.so_far
        (next, stretch.step, stretch.goes_on);
    goes_on = stretch.ends;
  }

  module _ (grow : TrueStepsGrow on by) (serve : HistoriesServeMembers) where
    leaves : (before : List Entry) (opening : Entry) (next : Run D) (later : List Entry) (mid : Run D) → Stretch before opening next later mid
        → AreTrueSteps on by (before ++ opening ∷ []) next later mid → Leaves mid.host.server.depth (opening ∷ later) (batches_in mid)
    leaves before opening next later mid stretch reads = grow outset opening later mid (record {
      before = before;
      begins = (history_at (before ++ opening ∷ later) mid (stretch_moment before opening next later mid stretch)).begins;
      run = stretch.run;
      so_far = stretch.so_far;
      next = next;
      step = stretch.step;
      granted = stretch.granted;
      goes_on = reads;
    })

    serves_in : (before : List Entry) (opening : Entry) (next : Run D) (later : List Entry) (mid : Run D) → Stretch before opening next later mid
        → AreTrueSteps on by (before ++ opening ∷ []) next later mid → ServesMembers mid.host.server.depth (batches_in mid) (opening ∷ later)
    serves_in before opening next later mid stretch reads =
        serve mid.host.server.depth (batches_in mid) (opening ∷ later)
        (valid_at (before ++ opening ∷ later) mid (stretch_moment before opening next later mid stretch)) (leaves before opening next later mid stretch reads)

    pub serves_along : SureStepsAreTrue on by → EarlierRunsServeNobodyElse
        → ServesAlong on by (no_run outset) entries after
    serves_along sure earlier = record {
      sure = λ before opening next later mid stretch is. sure (before ++ opening ∷ []) next later mid stretch.goes_on is;
      serves = serves_in;
      earlier = λ before opening next later mid stretch reads.
          earlier mid.host.server.depth (batches_in mid) (opening ∷ later) (serves_in before opening next later mid stretch reads).world;
      asked = λ opening next later mid stretch reads epoch names answer outside last step.
          says_who mid.host.server.depth (batches_in mid) (opening ∷ later) epoch names (with_members mid step.acted) answer outside last
          (serves_in [] opening next later mid stretch reads) step.answered.answered;
    }
