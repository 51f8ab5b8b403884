-- Lines that a worker ran, one after the other.
use Rattle.std.proofs.Common.{◌∙◌, ℕ, Bool, true, false, List, [], ◌∷◌, ◌++◌, append_assoc, inl, refl, sym, ap, subst}
use Rattle.std.specs.Prelude.{◌||◌}
use Rattle.std.proofs.lemmas.List.{append-nil}
use Rattle.desk.specs.declared.calls.Call.{Call}
use Rattle.epoch_board.specs.Pairs.{StartsWith}
use Rattle.epoch_board.specs.declared.pairs.Seen.{Seen}
use Rattle.group_model.specs.declared.entries.Entry.{Entry}
use Rattle.register_workers.specs.Lines.{Becomes}
use Rattle.register_workers.specs.Workers.{LearnsBy, Looks, Ran, RanAll, RanBy, TakesTurns}
use Rattle.register_workers.specs.declared.lines.BlockAsk.{BlockAsk}
use Rattle.register_workers.specs.declared.lines.BlockAsk.TheVariants.{Join, Again, Leave, Batch, Now}
use Rattle.register_workers.specs.declared.lines.BlockLine.{BlockLine}

-- ---- first parts

pub starts_itself : {X : Type 0} (list : List X) → StartsWith list list
starts_itself list = ([], sym (append-nil list))

pub starts_twice : {X : Type 0} (list mid first : List X) → StartsWith list mid → StartsWith mid first → StartsWith list first
starts_twice list mid first later more = (more.0 ++ later.0, later.1 ∙ ap (λ l. l ++ later.0) more.1 ∙ append_assoc first more.0 later.0)

-- ---- what is said of a history holds of one that goes on

module _ (begun : ℕ) (history longer : List Entry) (goes_on : StartsWith longer history) where
  pub learns_later : (known : List Seen) (calls : List (Call Entry)) (later : List Seen) → LearnsBy begun history known calls later
      → LearnsBy begun longer known calls later
  learns_later known [] later same = same
  learns_later known (call ∷ calls) later learns = (
    learns.0,
    record {
      upto = learns.1.upto;
      within = starts_twice longer history learns.1.upto goes_on learns.1.within;
      place = learns.1.place;
      is = learns.1.is;
      knew = learns.1.knew;
    },
    learns_later learns.0 calls later learns.2,
  )

-- once want of memory ended a line, or another one
pub becomes_first : (memory short : Bool) (asked : BlockAsk) (line : BlockLine) (turns : List Entry) (new : BlockLine) → Becomes memory asked line turns new
    → Becomes (memory || short) asked line turns new
becomes_first true short asked line turns new becomes = becomes
becomes_first false true asked line turns new becomes = inl becomes.0
becomes_first false false asked line turns new becomes = becomes

pub becomes_last : (memory short : Bool) (asked : BlockAsk) (line : BlockLine) (turns : List Entry) (new : BlockLine) → Becomes short asked line turns new
    → Becomes (memory || short) asked line turns new
becomes_last true true asked line turns new becomes = becomes
becomes_last true false asked line turns new becomes = inl becomes.0
becomes_last false short asked line turns new becomes = becomes

module _ (begun : ℕ) (history longer : List Entry) (shown shows : List Seen) (was memory : Bool) (goes_on : StartsWith longer history)
    (shows_on : StartsWith shows shown)
    (keeps : (asked : BlockAsk) (line : BlockLine) (turns : List Entry) (new : BlockLine) → Becomes was asked line turns new
    → Becomes memory asked line turns new) where
  looks_later : (line : BlockLine) (known : List Seen) (calls : List (Call Entry)) (new : BlockLine) (later : List Seen)
      → Looks begun history shown was line known calls new later → Looks begun longer shows memory line known calls new later
  looks_later line known calls new later looks = record {
    no_turn = looks.no_turn;
    knew = looks.knew;
    within = starts_twice shows shown later shows_on looks.within;
    now = looks.now;
  }

  turns_later : (line : BlockLine) (known : List Seen) (calls : List (Call Entry)) (new : BlockLine) (later : List Seen)
      → TakesTurns begun history shown was line known calls new later → TakesTurns begun longer shows memory line known calls new later
  turns_later line known calls new later takes = record {
    becomes = keeps _ _ _ _ takes.becomes;
    learns = learns_later begun history longer goes_on known calls later takes.learns;
  }

  ran_by_later : (asked : BlockAsk) (line : BlockLine) (known : List Seen) (calls : List (Call Entry)) (new : BlockLine) (later : List Seen)
      → RanBy begun history shown was asked line known calls new later → RanBy begun longer shows memory asked line known calls new later
  ran_by_later Now line known calls new later ran = looks_later line known calls new later ran
  ran_by_later (Join m) line known calls new later ran = turns_later line known calls new later ran
  ran_by_later (Again m) line known calls new later ran = turns_later line known calls new later ran
  ran_by_later (Leave m) line known calls new later ran = turns_later line known calls new later ran
  ran_by_later Batch line known calls new later ran = turns_later line known calls new later ran

  pub ran_later : (line : BlockLine) (known : List Seen) (calls : List (Call Entry)) (new : BlockLine) (later : List Seen)
      → Ran begun history shown was line known calls new later → Ran begun longer shows memory line known calls new later
  ran_later line known calls new later ran = ran_by_later line.asked line known calls new later ran

  pub all_later : (lines : List BlockLine) (known : List Seen) (calls : List (Call Entry)) (news : List BlockLine) (later : List Seen)
      → RanAll begun history shown was lines known calls news later → RanAll begun longer shows memory lines known calls news later
  all_later [] known calls news later ran = ran
  all_later (line ∷ lines) known calls news later (own, rest, new, others, next, are, is, ran, more) =
      (own, rest, new, others, next, are, is, ran_later line known own new next ran, all_later lines next rest others later more)

-- ---- one line more

module _ (begun : ℕ) (history : List Entry) (shown : List Seen) (memory : Bool) (line : BlockLine) (own : List (Call Entry)) (new : BlockLine)
    (next : List Seen) where
  pub all_then : (lines : List BlockLine) (known : List Seen) (calls : List (Call Entry)) (news : List BlockLine) (later : List Seen)
      → RanAll begun history shown memory lines known calls news later → Ran begun history shown memory line later own new next
      → RanAll begun history shown memory (lines ++ line ∷ []) known (calls ++ own) (news ++ new ∷ []) next
  all_then [] known calls news later (no_calls, no_news, same) ran = (
    own,
    [],
    new,
    [],
    next,
    ap (λ list. list ++ own) no_calls ∙ sym (append-nil own),
    ap (λ list. list ++ new ∷ []) no_news,
    subst (λ known. Ran begun history shown memory line known own new next) same ran,
    (refl, refl, refl),
  )
  all_then (first ∷ lines) known calls news later (mine, rest, first_new, others, then, are, is, first_ran, more) ran = (
    mine,
    rest ++ own,
    first_new,
    others ++ new ∷ [],
    then,
    ap (λ list. list ++ own) are ∙ append_assoc mine rest own,
    ap (λ list. list ++ new ∷ []) is,
    first_ran,
    all_then lines then rest others later more ran,
  )
