-- What a worker made of a line, and of one more line.
use Rattle.std.proofs.Common.{◌≡◌, ◌≢◌, ℕ, Bool, true, false, List, [], ◌∷◌, ◌++◌, Some, None, arith, inl, inr, refl, sym, ap, subst}
use Rattle.std.specs.Prelude.{◌||◌}
use Rattle.std.proofs.lemmas.List.{append-nil}
use Rattle.desk.specs.Views.{Holder}
use Rattle.desk.specs.declared.calls.Call.{Call}
use Rattle.epoch_board.specs.Pairs.{StartsWith, last_pair}
use Rattle.epoch_board.specs.Passes.{PassState}
use Rattle.epoch_board.specs.declared.pairs.Seen.{Seen}
use Rattle.group_model.specs.declared.entries.Asked.{Asked}
use Rattle.group_model.specs.declared.entries.Entry.{Entry}
use Rattle.register_workers.specs.Lines.{AsksOnce, Becomes}
use Rattle.register_workers.specs.Private.Running.{MovesBy, RunsLine, UnlessShort}
use Rattle.register_workers.specs.Workers.{RanAll, RanBy, TakesTurns, turns_in}
use Rattle.register_workers.specs.declared.desk_books.OnBoard.{OnBoard}
use Rattle.register_workers.specs.declared.lines.BlockAsk.{BlockAsk}
use Rattle.register_workers.specs.declared.lines.BlockAsk.TheVariants.{Join, Again, Leave, Batch, Now}
use Rattle.register_workers.specs.declared.lines.BlockLine.{BlockLine}
use Rattle.register_workers.proofs.RunLemmas.{all_later, all_then, becomes_first, becomes_last, ran_later, starts_itself}
use Rattle.register_workers.proofs.TurnLemmas.{at_most_two, by_other}

once_short : (short : Bool) (whole other : Type 0) (turns : List Entry) → UnlessShort short whole ⊥ turns → UnlessShort short whole other turns
once_short false whole other turns is = is
once_short true whole other turns (inl is) = inl is
once_short true whole other turns (inr none) = absurd none

module _ (begun : ℕ) (old now : Holder Entry OnBoard) (was shows : PassState) (line : BlockLine) where
  -- ---- turns

  turns_by : (short : Bool) (new : BlockLine) (asked : BlockAsk) (calls : List (Call Entry)) → asked ≢ Now
      → TakesTurns begun now.seen shows.seen short line was.seen calls new shows.seen
      → RanBy begun now.seen shows.seen short asked line was.seen calls new shows.seen
  turns_by short new (Join m) calls some takes = takes
  turns_by short new (Again m) calls some takes = takes
  turns_by short new (Leave m) calls some takes = takes
  turns_by short new Batch calls some takes = takes
  turns_by short new Now calls some takes = absurd (some refl)

  pub line_ran : (short : Bool) (new : BlockLine) (asked : BlockAsk) → asked ≢ Now → line.asked ≡ asked
      → MovesBy begun 2 (λ turns. Becomes short asked (record line { seen = None }) turns new) old now was shows
      → RunsLine begun short line new old now was shows
  line_ran short new asked some is moves = record {
    calls = moves.calls;
    few = moves.few;
    own = moves.moves.own;
    mine = moves.moves.mine;
    seen = moves.moves.seen;
    board = moves.moves.board;
    later = moves.moves.later;
    ran = subst (λ asked. RanBy begun now.seen shows.seen short asked line was.seen moves.calls new shows.seen) (sym is)
        (turns_by short new asked moves.calls some (record {
          becomes = subst (λ asked. Becomes short asked (record line { seen = None }) (turns_in moves.calls) new) (sym is) moves.are;
          learns = moves.moves.learns;
        }));
  }

  -- of a line that has just one
  pub line_asked : (short : Bool) (request : Asked) (asked : BlockAsk) (other : List Entry → Type 0) → asked ≢ Now → line.asked ≡ asked
      → ((turns : List Entry) → UnlessShort short (AsksOnce request (record line { seen = None }) turns (record line { seen = None })) (other turns) turns
      → Becomes short asked (record line { seen = None }) turns (record line { seen = None }))
      → MovesBy begun 1 (λ turns. UnlessShort short (AsksOnce request (record line { seen = None }) turns (record line { seen = None })) ⊥ turns)
      old now was shows
      → RunsLine begun short line (record line { seen = None }) old now was shows
  line_asked short request asked other some is say moves =
      let new : BlockLine = record line { seen = None } in
      line_ran short new asked some is
      (at_most_two begun (λ turns. Becomes short asked new turns new) old now was shows
      (by_other begun 1 (λ turns. UnlessShort short (AsksOnce request new turns new) ⊥ turns) (λ turns. Becomes short asked new turns new) old now was shows
      (λ turns once. say turns (once_short short (AsksOnce request new turns new) (other turns) turns once)) moves))

-- ---- a look

pub line_looked : (begun : ℕ) (pass : Holder Entry OnBoard) (was shows : PassState) (line : BlockLine) (pair : Seen) → line.asked ≡ Now
    → shows.board ≡ was.board → StartsWith shows.seen was.seen → pair ≡ last_pair shows.seen
    → RunsLine begun false line (record line { seen = Some pair }) pass pass was shows
line_looked begun pass was shows line pair is board later shown = record {
  calls = [];
  few = omega arith;
  own = refl;
  mine = sym (append-nil pass.mine);
  seen = starts_itself pass.seen;
  board = board;
  later = later;
  ran = subst (λ asked. RanBy begun pass.seen shows.seen false asked line was.seen [] (record line { seen = Some pair }) shows.seen) (sym is) (record {
    no_turn = refl;
    knew = later;
    within = starts_itself shows.seen;
    now = ap (λ (pair : Seen). record line { seen = Some pair }) shown;
  });
}

-- ---- one line more

module _ (begun : ℕ) (memory short : Bool) (line new : BlockLine) (old now : Holder Entry OnBoard) (was shows : PassState) where
  pub one_more : (lines : List BlockLine) (known : List Seen) (news after : List BlockLine)
      → RanAll begun old.seen was.seen memory lines known old.mine news was.seen → RunsLine begun short line new old now was shows
      → after ≡ news ++ new ∷ [] → RanAll begun now.seen shows.seen (memory || short) (lines ++ line ∷ []) known now.mine after shows.seen
  one_more lines known news after all runs is =
      let own = runs.calls in
      let before = all_later begun old.seen now.seen was.seen shows.seen memory (memory || short) runs.seen runs.later (becomes_first memory short)
      lines known old.mine news was.seen all in
      let ran = ran_later begun now.seen now.seen shows.seen shows.seen short (memory || short) (starts_itself now.seen) (starts_itself shows.seen)
      (becomes_last memory short) line was.seen own new shows.seen runs.ran in
      subst (λ calls. RanAll begun now.seen shows.seen (memory || short) (lines ++ line ∷ []) known calls after shows.seen) (sym runs.mine)
      (subst (λ news. RanAll begun now.seen shows.seen (memory || short) (lines ++ line ∷ []) known (old.mine ++ own) news shows.seen) (sym is)
      (all_then begun now.seen shows.seen (memory || short) line own new shows.seen lines known old.mine news was.seen before ran))
