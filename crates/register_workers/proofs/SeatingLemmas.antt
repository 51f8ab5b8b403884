-- Workers that sit down at a desk, and what they leave.
use Rattle.std.proofs.Common.{◌≡◌, ◌∙◌, ℕ, suc, ◌+◌, ◌-◌, ◌*◌, ◌<◌, ◌≤◌, ◌%◌, Bool, true, false, List, [], ◌∷◌, ◌++◌, length, map, reverse, slice_index_or, All, append_assoc, arith, inl, refl, sym, ap, subst}
use Rattle.std.proofs.lemmas.Bool.{false≢true}
use Rattle.std.proofs.lemmas.List.{get_or-map, get_or-reverse, length-map, length-reverse, map_push, reverse-append, reverse-reverse}
use Rattle.std.proofs.lemmas.List.Elements.{All-cons, All-head, All-same, All-tail}
use Rattle.std.proofs.lemmas.List.Folds.{list_any_at}
use Rattle.std.specs.List.{list_any}
use Rattle.std.specs.Prelude.{◌==◌, if◌then◌else◌}
use Rattle.desk.specs.Calls.{AreCallsOf}
use Rattle.desk.specs.Turned.{IsWhole}
use Rattle.desk.specs.Views.{Holder, Told as DeskTold}
use Rattle.desk.specs.declared.calls.Call.{Call}
use Rattle.epoch_board.specs.Pairs.{StartsWith}
use Rattle.epoch_board.specs.Passes.{PassState}
use Rattle.epoch_board.specs.declared.pairs.Seen.{Seen}
use Rattle.group_model.specs.declared.entries.Entry.{Entry}
use Rattle.work_shares.specs.Shares.{AreShares, rounds, share, share_from}
use Rattle.register_workers.specs.Blocks.{Worked}
use Rattle.register_workers.specs.Lines.{Becomes, IsReady}
use Rattle.register_workers.specs.Private.Running.{HasRun, Worker}
use Rattle.register_workers.specs.Private.Seating.{HasWork, HaveRun, IsEnded}
use Rattle.group_steps.specs.Shows.{pairs_shown}
use Rattle.register_workers.specs.Workers.{RanAll}
use Rattle.register_workers.specs.declared.desk_books.OnBoard.{OnBoard}
use Rattle.register_workers.specs.declared.lines.BlockAsk.{BlockAsk}
use Rattle.register_workers.specs.declared.lines.BlockLine.{BlockLine}
use Rattle.register_workers.proofs.RunLemmas.{all_later}

-- ---- lists

-- what holds of each item of a list holds of each of the list in reverse
pub all_reversed : {X : Type 0} (P : X → Type 0) (xs : List X) → All P xs → All P (reverse xs)
all_reversed P xs all k d less =
    let below : k < length xs = omega (arith, less, length-reverse xs) in
    subst P (sym (get_or-reverse xs k d below)) (all (length xs - 1 - k) d (omega (arith, below)))

-- and of what is made of each of them
pub all_made : {X Y : Type 0} (P : Y → Type 0) (f : X → Y) (xs : List X) (ys : List Y) → ys ≡ map f xs → All P ys → (w : ℕ) (d : X) → w < length xs
    → P (f (slice_index_or xs w d))
all_made P f xs ys is all w d less =
    subst P (get_or-map f xs w d (f d) less) (All-same P (map f xs) ys (sym is) all w (f d) (omega (arith, less, length-map xs f)))

kept_if : {X : Type 0} (P : X → Type 0) (here : Bool) (x : X) (rest : List X) → P x → All P rest → All P (if here then x ∷ rest else rest)
kept_if P true x rest is all = All-cons P x rest is all
kept_if P false x rest is all = all

-- and of each in a share
share_kept : {X : Type 0} (P : X → Type 0) (n w at : ℕ) (xs : List X) → All P xs → All P (share_from n w at xs)
share_kept P n w at [] all = all
share_kept P n w at (x ∷ xs) all =
    kept_if P (at % n == w) x (share_from n w (at + 1) xs) (All-head P x xs all) (share_kept P n w (at + 1) xs (All-tail P x xs all))

-- The last of two lists that are taken from the back: what was made of it comes before what was made of those after it.
pub one_back : {X Y Z : Type 0} (f : X → Z) (g : Y → Z) (all : List Z) (front : List X) (x : X) (taken : List Y) (y : Y)
    → all ≡ map f (front ++ x ∷ []) ++ map g (reverse taken) → g y ≡ f x → all ≡ map f front ++ map g (reverse (taken ++ y ∷ []))
one_back f g all front x taken y is same =
    is ∙ ap (λ list. list ++ map g (reverse taken)) (map_push f front x) ∙ append_assoc (map f front) (f x ∷ []) (map g (reverse taken))
    ∙ ap (λ z. map f front ++ (z ∷ map g (reverse taken))) (sym same)
    ∙ ap (λ list. map f front ++ map g list) (sym (reverse-append taken (y ∷ [])))

-- The first of a list in reverse is put behind those that were put before.
pub one_forth : {X Z : Type 0} (f : X → Z) (all : List Z) (front : List X) (x : X) (put more : List Z)
    → all ≡ put ++ map f (reverse (front ++ x ∷ [])) → more ≡ put ++ f x ∷ [] → all ≡ more ++ map f (reverse front)
one_forth f all front x put more is same =
    is ∙ ap (λ list. put ++ map f list) (reverse-append front (x ∷ [])) ∙ sym (append_assoc put (f x ∷ []) (map f (reverse front)))
    ∙ ap (λ list. list ++ map f (reverse front)) (sym same)

-- ---- how workers begin

-- two turns for each of so many lines
two_each : (rounds lines turns : ℕ) → lines ≤ rounds → turns ≡ 2 * rounds → lines + lines ≤ turns
two_each rounds lines turns few two = omega (arith, few, two)

-- which are no more than twice the room for lines
pub turns_fit : (rounds room turns : ℕ) → rounds ≤ room → turns ≡ 2 * rounds → turns ≤ room + room
turns_fit rounds room turns roomy two = omega (arith, roomy, two)

-- the lines of a share, the last one first
pub has_work : (n w turns : ℕ) (lines hand : List BlockLine) → hand ≡ reverse (share n w lines) → length (share n w lines) ≤ rounds n (length lines)
    → turns ≡ 2 * rounds n (length lines) → All IsReady lines → HasWork turns hand
has_work n w turns lines hand is few two ready = record {
  few = two_each (rounds n (length lines)) (length hand) turns
      (subst (λ long. long ≤ rounds n (length lines)) (sym (ap length is ∙ length-reverse (share n w lines))) few) two;
  ready = All-same IsReady hand (reverse (share n w lines)) is (all_reversed IsReady (share n w lines) (share_kept IsReady n w 0 lines ready));
}

module _ (desk : DeskTold Entry OnBoard) (lines : List BlockLine) (old new : List Worker) where
  -- workers that had their shares to run, and ran them
  pub have_run : length new ≡ length old
      → ((at : ℕ) (other : Worker) → at < length old → HasRun desk (slice_index_or old at other) (slice_index_or new at other))
      → All (λ (worker : Worker). worker.reader.seen ≡ pairs_shown desk.terms.start) old
      → ((w : ℕ) → w < length old → slice_index_or (map (λ (worker : Worker). worker.due) old) w [] ≡ reverse (share (length old) w lines))
      → HaveRun lines desk new
  have_run many did knew dealt = record {
    own = λ k d less. (did k d (omega (arith, many, less))).own;
    reads = λ k d less. (did k d (omega (arith, many, less))).reads;
    ran = λ w other less.
        let below : w < length old = omega (arith, many, less) in
        let run = did w other below in
        let was = slice_index_or old w other in
        let worker = slice_index_or new w other in
        let due : reverse was.due ≡ share (length old) w lines
        = ap reverse (sym (get_or-map (λ (worker : Worker). worker.due) old w other [] below) ∙ dealt w below) ∙ reverse-reverse (share (length old) w lines) in
        let ranAll : List BlockLine → List Seen → Type 0
        = λ these known. RanAll (length desk.terms.start) worker.pass.seen worker.reader.seen worker.memory these known worker.pass.mine worker.done
        worker.reader.seen in
        subst (λ n. ranAll (share n w lines) (pairs_shown desk.terms.start)) (sym many)
        (subst (λ (x : List BlockLine × List Seen). ranAll x.0 x.1) (λ i. (due i, knew w other below i)) run.ran);
  }

-- ---- what they leave

-- once want of memory ended a line
becomes_kept : (was memory : Bool) → (was ≡ true → memory ≡ true) → (asked : BlockAsk) (line : BlockLine) (turns : List Entry) (new : BlockLine)
    → Becomes was asked line turns new → Becomes memory asked line turns new
becomes_kept true true keeps asked line turns new becomes = becomes
becomes_kept true false keeps asked line turns new becomes = absurd (false≢true (keeps refl))
becomes_kept false true keeps asked line turns new becomes = inl becomes.0
becomes_kept false false keeps asked line turns new becomes = becomes

module _ (begun : ℕ) (history : List Entry) (shown : List Seen) (memory : Bool) where
  ran_as_many : (lines : List BlockLine) (known : List Seen) (calls : List (Call Entry)) (news : List BlockLine) (later : List Seen)
      → RanAll begun history shown memory lines known calls news later → length news ≡ length lines
  ran_as_many [] known calls news later (no_calls, no_news, same) = ap length no_news
  ran_as_many (line ∷ lines) known calls news later (own, rest, new, others, next, are, is, ran, more) =
      ap length is ∙ ap suc (ran_as_many lines next rest others later more)

abbrev pass_of : Worker → Holder Entry OnBoard
pass_of worker = worker.pass

abbrev reader_of : Worker → PassState
reader_of worker = worker.reader

abbrev done_of : Worker → List BlockLine
done_of worker = worker.done

abbrev mine_of : Holder Entry OnBoard → List (Call Entry)
mine_of pass = pass.mine

module _ (desk : DeskTold Entry OnBoard) (lines : List BlockLine) (seated : List Worker) (run : HaveRun lines desk seated) where
  -- any worker
  blank : Worker
  blank = record {
    pass = record { desk = desk.id; number = 0; seen = []; mine = [] };
    reader = record { board = desk.terms.tag.board; seen = []; moments = [] };
    due = [];
    done = [];
    memory = false;
  }

  -- each has as many lines as its share
  pub are_shares : (ran : List (List BlockLine)) (count : ℕ) → ran ≡ map (λ (worker : Worker). worker.done) seated → length lines ≡ count → AreShares ran count
  are_shares ran count is counted = record {
    list = lines;
    counted = counted;
    each = λ w less.
        let many : length ran ≡ length seated = ap length is ∙ length-map seated done_of in
        let below : w < length seated = omega (arith, less, many) in
        let worker = slice_index_or seated w blank in
        ap (λ list. length (slice_index_or list w [])) is ∙ ap length (get_or-map done_of seated w blank [] below)
        ∙ ran_as_many (length desk.terms.start) worker.pass.seen worker.reader.seen worker.memory (share (length seated) w lines)
        (pairs_shown desk.terms.start) worker.pass.mine worker.done worker.reader.seen (run.ran w blank below)
        ∙ ap (λ n. length (share n w lines)) (sym many);
  }

  module _ (history : List Entry) (passes : List (Holder Entry OnBoard)) (readers : List PassState) (ran : List (List BlockLine)) (memory : Bool)
      (news : List BlockLine) (calls : List (List (Call Entry))) (passes_are : passes ≡ map (λ (worker : Worker). worker.pass) seated)
      (readers_are : readers ≡ map (λ (worker : Worker). worker.reader) seated) (ran_are : ran ≡ map (λ (worker : Worker). worker.done) seated)
      (memory_is : memory ≡ list_any (λ (worker : Worker). worker.memory) seated) (whole : IsWhole desk.terms passes history)
      (calls_are : calls ≡ map (λ (pass : Holder Entry OnBoard). pass.mine) passes)
      (shown : All (λ (reader : PassState). StartsWith (pairs_shown history) reader.seen) readers)
      (shares : (w : ℕ) → w < length ran → share (length ran) w news ≡ slice_index_or ran w []) where
    worked : (w : ℕ) → w < length seated → Worked memory desk.terms.start history (length seated) w lines news calls
    worked w less =
        let worker = slice_index_or seated w blank in
        let many : length ran ≡ length seated = ap length ran_are ∙ length-map seated done_of in
        let mine : slice_index_or calls w [] ≡ worker.pass.mine
        = ap (λ list. slice_index_or list w []) (calls_are ∙ ap (map mine_of) passes_are)
        ∙ get_or-map mine_of (map pass_of seated) w (pass_of blank) [] (omega (arith, less, length-map seated pass_of))
        ∙ ap mine_of (get_or-map pass_of seated w blank (pass_of blank) less) in
        let done : share (length seated) w news ≡ worker.done
        = ap (λ n. share n w news) (sym many) ∙ shares w (omega (arith, less, many)) ∙ ap (λ list. slice_index_or list w []) ran_are
        ∙ get_or-map done_of seated w blank [] less in
        record {
          known = worker.reader.seen;
          ran = subst (λ (x : List (Call Entry) × List BlockLine). RanAll (length desk.terms.start) history (pairs_shown history) memory
              (share (length seated) w lines) (pairs_shown desk.terms.start) x.0 x.1 worker.reader.seen) (λ i. (sym mine i, sym done i))
              (all_later (length desk.terms.start) worker.pass.seen history worker.reader.seen (pairs_shown history) worker.memory memory
              (all_made (λ (pass : Holder Entry OnBoard). StartsWith history pass.seen) pass_of seated passes passes_are whole.seen w blank less)
              (all_made (λ (reader : PassState). StartsWith (pairs_shown history) reader.seen) reader_of seated readers readers_are shown w blank less)
              (becomes_kept worker.memory memory
              (λ short. memory_is ∙ list_any_at (λ (worker : Worker). worker.memory) seated w blank less short))
              (share (length seated) w lines) (pairs_shown desk.terms.start) worker.pass.mine worker.done worker.reader.seen (run.ran w blank less));
        }

    pub ended : length news ≡ length lines → IsEnded memory (length seated) lines news desk.terms.start history calls
    ended many = record {
      added = whole.news;
      history = whole.history_is;
      whole = subst (AreCallsOf whole.news) (sym calls_are) whole.calls;
      a_list_each = ap length calls_are ∙ length-map passes mine_of ∙ ap length passes_are ∙ length-map seated pass_of;
      as_many = many;
      worked = worked;
    }
