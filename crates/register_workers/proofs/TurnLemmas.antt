-- Turns of a worker, and what becomes of a line by them.
use Rattle.std.proofs.Common.{◌≡◌, ◌∙◌, ◌⊎◌, ℕ, ◌+◌, Bool, true, false, MatchBool, List, [], ◌∷◌, ◌++◌, length, Option, Some, append_assoc, arith, inl, inr, refl, sym, ap, subst}
use Rattle.std.proofs.lemmas.Bool.{false≢true}
use Rattle.std.proofs.lemmas.List.{append-nil, length-append, map-append}
use Rattle.std.proofs.lemmas.List.Elements.{All-cons, All-nil}
use Rattle.desk.specs.Views.{Holder}
use Rattle.desk.specs.declared.calls.Call.{Call}
use Rattle.epoch_board.specs.Pairs.{StartsWith}
use Rattle.epoch_board.specs.Passes.{PassState}
use Rattle.epoch_board.specs.declared.pairs.Seen.{Seen}
use Rattle.group_terms.specs.Names.{Name}
use Rattle.group_model.specs.Answers.{ran_out}
use Rattle.group_model.specs.declared.entries.Answer.{Answer}
use Rattle.group_model.specs.declared.entries.Answer.TheVariants as answers
use Rattle.group_model.specs.declared.entries.Asked.{Asked}
use Rattle.group_model.specs.declared.entries.Asked.TheVariants.{Serve}
use Rattle.group_model.specs.declared.entries.Entry.{Entry}
use Rattle.group_model.specs.declared.entries.SymReply.{SymReply}
use Rattle.register_workers.specs.Lines.{Agrees, Comes, Ends, GoesOn, HadMemory, PassesOver, Sends, SendsThird}
use Rattle.register_workers.specs.Private.Requests.{Tells, is_datagram, is_short}
use Rattle.register_workers.specs.Private.Running.{ComesShort, IsOneTurn, IsTold, Moves, MovesBy, StopsInPull, UnlessShort}
use Rattle.group_steps.specs.Shows.{pairs_shown}
use Rattle.register_workers.specs.Workers.{LearnsBy, turns_in}
use Rattle.register_workers.specs.declared.desk_books.OnBoard.{OnBoard}
use Rattle.register_workers.specs.declared.lines.BlockLine.{BlockLine}
use Rattle.register_workers.specs.declared.turns.Told.{Told}
use Rattle.register_workers.specs.declared.turns.Told.TheVariants as told
use Rattle.register_workers.proofs.RunLemmas.{learns_later, starts_itself, starts_twice}

-- ---- moves

module _ (begun : ℕ) where
  -- a turn at the desk, in which the pass of the board was shown what was published
  pub one_turn : (request : Asked) (t : Told) (old new : Holder Entry OnBoard) (was now : PassState) (before : List Entry) (call : Call Entry)
      → new.desk ≡ old.desk → StartsWith before old.seen → new.seen ≡ before ++ call.entry ∷ [] → new.mine ≡ old.mine ++ call ∷ []
      → length before ≡ begun + call.place → call.entry.asked ≡ request → Tells call.entry.answer t → now.board ≡ was.board
      → now.seen ≡ pairs_shown (before ++ call.entry ∷ []) → StartsWith now.seen was.seen → MovesBy begun 1 (IsTold request t) old new was now
  one_turn request t old new was now before call own goes_on seen mine place asked tells board shown later = record {
    calls = call ∷ [];
    moves = record {
      own = own;
      mine = mine;
      seen = (
        goes_on.0 ++ call.entry ∷ [],
        seen ∙ ap (λ l. l ++ call.entry ∷ []) goes_on.1 ∙ append_assoc old.seen goes_on.0 (call.entry ∷ []),
      );
      board = board;
      learns = (
        now.seen,
        record {
          upto = new.seen;
          within = starts_itself new.seen;
          place = omega (arith, ap length seen, length-append before (call.entry ∷ []), place);
          is = shown ∙ ap pairs_shown (sym seen);
          knew = later;
        },
        refl,
      );
      later = later;
    };
    few = omega arith;
    are = (call.entry, refl, asked, tells);
  }

  -- none
  pub no_move : (old : Holder Entry OnBoard) (was : PassState) → Moves begun [] old old was was
  no_move old was = record {
    own = refl;
    mine = sym (append-nil old.mine);
    seen = starts_itself old.seen;
    board = refl;
    learns = refl;
    later = starts_itself was.seen;
  }

  learns_on : (history : List Entry) (known : List Seen) (calls more : List (Call Entry)) (next later : List Seen) → LearnsBy begun history known calls next
      → LearnsBy begun history next more later → LearnsBy begun history known (calls ++ more) later
  learns_on history known [] more next later same learns = subst (λ known. LearnsBy begun history known more later) same learns
  learns_on history known (call ∷ calls) more next later first learns =
      (first.0, first.1, learns_on history first.0 calls more next later first.2 learns)

  -- some, and then more
  pub moves_on : (calls more : List (Call Entry)) (old mid new : Holder Entry OnBoard) (was then now : PassState) → Moves begun calls old mid was then
      → Moves begun more mid new then now → Moves begun (calls ++ more) old new was now
  moves_on calls more old mid new was then now first second = record {
    own = second.own ∙ first.own;
    mine = second.mine ∙ ap (λ l. l ++ more) first.mine ∙ append_assoc old.mine calls more;
    seen = starts_twice new.seen mid.seen old.seen second.seen first.seen;
    board = second.board ∙ first.board;
    learns = learns_on new.seen was.seen calls more then.seen now.seen
        (learns_later begun mid.seen new.seen second.seen was.seen calls then.seen first.learns) second.learns;
    later = starts_twice now.seen then.seen was.seen second.later first.later;
  }

  -- where no turn was made
  pub stays : (most : ℕ) (P : List Entry → Type 0) (old : Holder Entry OnBoard) (was : PassState) → P [] → MovesBy begun most P old old was was
  stays most P old was none = record { calls = []; moves = no_move old was; few = omega arith; are = none }

  -- what the turns are said to be may be said otherwise
  pub by_other : (most : ℕ) (P Q : List Entry → Type 0) (old new : Holder Entry OnBoard) (was now : PassState) → ((turns : List Entry) → P turns → Q turns)
      → MovesBy begun most P old new was now → MovesBy begun most Q old new was now
  by_other most P Q old new was now say moves =
      record { calls = moves.calls; moves = moves.moves; few = moves.few; are = say (turns_in moves.calls) moves.are }

  -- and how many they may be
  pub at_most_two : (P : List Entry → Type 0) (old new : Holder Entry OnBoard) (was now : PassState) → MovesBy begun 1 P old new was now
      → MovesBy begun 2 P old new was now
  at_most_two P old new was now moves =
      let few = moves.few in record { calls = moves.calls; moves = moves.moves; few = omega arith; are = moves.are }

-- ---- answers

one_had_memory : (turn : Entry) (turns : List Entry) → turns ≡ turn ∷ [] → ran_out turn.answer ≡ false → HadMemory turns
one_had_memory turn turns are had = subst (λ turns. HadMemory turns) (sym are)
    (All-cons (λ (turn : Entry). ran_out turn.answer ≡ false) turn [] had (All-nil (λ (turn : Entry). ran_out turn.answer ≡ false)))

unless_short : (request : Asked) (t : Told) (whole cut : Type 0) (turns : List Entry) → (IsOneTurn request turns → whole) → IsTold request t turns
    → UnlessShort (is_short t) whole cut turns
unless_short request (told.Datagram octets) whole cut turns say is = (say (is.0, is.1, is.2), one_had_memory is.0 turns is.1 (ap ran_out is.3.1))
unless_short request told.Nothing whole cut turns say is = (say (is.0, is.1, is.2), one_had_memory is.0 turns is.1 is.3.1)
unless_short request told.NoMemory whole cut turns say is = inl (say (is.0, is.1, is.2))

-- the one turn that was to be made, by what was told of its answer
pub by_told : (begun : ℕ) (request : Asked) (t : Told) (short : Bool) (whole cut : List Entry → Type 0) (old new : Holder Entry OnBoard)
    (was now : PassState) → short ≡ is_short t → ((turns : List Entry) → IsOneTurn request turns → whole turns)
    → MovesBy begun 1 (IsTold request t) old new was now
    → MovesBy begun 1 (λ turns. UnlessShort short (whole turns) (cut turns) turns) old new was now
by_told begun request t short whole cut old new was now is_told say moves =
    subst (λ short. MovesBy begun 1 (λ turns. UnlessShort short (whole turns) (cut turns) turns) old new was now) (sym is_told)
    (by_other begun 1 (IsTold request t) (λ turns. UnlessShort (is_short t) (whole turns) (cut turns) turns) old new was now
    (λ turns is. unless_short request t (whole turns) (cut turns) turns (say turns) is) moves)

-- a line ends where no datagram was sent
pub ends_without : (m : Name) (answer : Answer) (line : BlockLine) (turns : List Entry) (new : BlockLine) → is_datagram answer ≡ false
    → Ends line turns new → GoesOn m answer line turns new
ends_without m answers.Done line turns new none ends = ends
ends_without m (answers.RuleNumber number) line turns new none ends = ends
ends_without m (answers.Datagram octets names) line turns new none ends = absurd (false≢true (sym none))
ends_without m answers.Queued line turns new none ends = ends
ends_without m (answers.Batched output) line turns new none ends = ends
ends_without m (answers.Opened group resent) line turns new none ends = ends
ends_without m (answers.Shown group) line turns new none ends = ends
ends_without m (answers.Kept epoch) line turns new none ends = ends
ends_without m answers.Lost line turns new none ends = ends
ends_without m (answers.Pair epoch sequence) line turns new none ends = ends
ends_without m (answers.Older last got) line turns new none ends = ends
ends_without m (answers.TookRoot epoch) line turns new none ends = ends
ends_without m (answers.TookTraffic epoch) line turns new none ends = ends
ends_without m (answers.PushRefused why) line turns new none ends = ends
ends_without m (answers.KeyIs epoch sequence print) line turns new none ends = ends
ends_without m answers.Nothing line turns new none ends = ends
ends_without m (answers.Derived yes_or_no) line turns new none ends = ends
ends_without m (answers.Refused why) line turns new none ends = ends

-- ---- a datagram comes

module _ (m : Name) (datagram : List ℕ) (line : BlockLine) where
  -- and goes missing
  pub comes_lost : line.lose ≡ true → UnlessShort false (Comes m datagram line [] (record line { lose = false }))
      (ComesShort datagram line [] (record line { lose = false })) []
  comes_lost lost = (rw lost (record { last = refl; now = refl }), All-nil (λ (turn : Entry). ran_out turn.answer ≡ false))

  kept : (new : BlockLine) (turns : List Entry) → line.lose ≡ false
      → (PassesOver line datagram × Ends line turns new) ⊎ SendsThird m datagram line turns new → Comes m datagram line turns new
  kept new turns keeps is = subst (λ lose. MatchBool lose (Ends (record line { lose = false }) turns new)
      ((PassesOver line datagram × Ends line turns new) ⊎ SendsThird m datagram line turns new)) (sym keeps) is

  -- and is not taken
  pub comes_over : (new : BlockLine) → line.lose ≡ false → PassesOver line datagram → new ≡ line
      → UnlessShort false (Comes m datagram line [] new) (ComesShort datagram line [] new) []
  comes_over new keeps over same =
      (kept new [] keeps (inl (over, record { last = refl; now = same })), All-nil (λ (turn : Entry). ran_out turn.answer ≡ false))

  -- and is taken
  third_comes : (third : List ℕ) (new : BlockLine) (turns : List Entry) → line.lose ≡ false → Agrees line datagram third new
      → (sent : List ℕ) × (new.sent ≡ Some sent) × IsOneTurn (Serve m sent) turns → Comes m datagram line turns new
  third_comes third new turns keeps agrees (sent, has, (turn, are, asked)) =
      let says : new.sent ≡ Some third = ap (λ (l : BlockLine). l.sent) agrees.now in let same : sent ≡ third = cc (has, says) in
      kept new turns keeps (inr (record { third = third; agrees = agrees; turn = turn; is_turn = are; asked = asked ∙ ap (Serve m) same }))

  pub comes_taken : (short : Bool) (third : List ℕ) (new : BlockLine) (turns : List Entry) → line.lose ≡ false → Agrees line datagram third new
      → UnlessShort short ((sent : List ℕ) × (new.sent ≡ Some sent) × IsOneTurn (Serve m sent) turns) (turns ≡ []) turns
      → UnlessShort short (Comes m datagram line turns new) (ComesShort datagram line turns new) turns
  comes_taken false third new turns keeps agrees sent = (third_comes third new turns keeps agrees sent.0, sent.1)
  comes_taken true third new turns keeps agrees (inl sent) = inl (third_comes third new turns keeps agrees sent)
  comes_taken true third new turns keeps agrees (inr none) = inr (none, inr (third, agrees))

-- ---- a line whose member sends

module _ (m : Name) (line new : BlockLine) (datagram : List ℕ) (has : line.sent ≡ Some datagram) (first : Entry) (asked : first.asked ≡ Serve m datagram) where
  -- a datagram came, and so on
  pub sends_on : (short : Bool) (octets : List ℕ) (names : Option SymReply) (later : List Entry) → first.answer ≡ answers.Datagram octets names
      → UnlessShort short (Comes m octets line later new) (ComesShort octets line later new) later
      → UnlessShort short (Sends m line (first ∷ later) new) (StopsInPull m line (first ∷ later) new) (first ∷ later)
  sends_on false octets names later is (comes, had) = (
    record {
      datagram = datagram;
      has = has;
      asks = record {
        turn = first;
        later = later;
        are = refl;
        asked = asked;
        goes_on = subst (λ answer. GoesOn m answer line later new) (sym is) comes;
      };
    },
    All-cons (λ (turn : Entry). ran_out turn.answer ≡ false) first later (ap ran_out is) had,
  )
  sends_on true octets names later is (inl comes) = inl (record {
    datagram = datagram;
    has = has;
    asks = record {
      turn = first;
      later = later;
      are = refl;
      asked = asked;
      goes_on = subst (λ answer. GoesOn m answer line later new) (sym is) comes;
    };
  })
  sends_on true octets names later is (inr short) = inr (inr (record {
    datagram = datagram;
    has = has;
    turn = first;
    is_turn = ap (λ l. first ∷ l) short.0;
    asked = asked;
    now = elim short.1 [
      | inl same ↦ inl same
      | inr agrees ↦ inr (octets, agrees.0, agrees.1)
    ];
  }))

module _ (m : Name) (line : BlockLine) (datagram : List ℕ) (has : line.sent ≡ Some datagram) (request : Asked) (serves : request ≡ Serve m datagram)
    (begun : ℕ) (old mid : Holder Entry OnBoard) (was then : PassState) where
  -- a datagram was sent, and came
  pub sends_then : (new : BlockLine) (short : Bool) (octets : List ℕ) (last : Holder Entry OnBoard) (now : PassState)
      → MovesBy begun 1 (IsTold request (told.Datagram octets)) old mid was then
      → MovesBy begun 1 (λ turns. UnlessShort short (Comes m octets line turns new) (ComesShort octets line turns new) turns) mid last then now
      → MovesBy begun 2 (λ turns. UnlessShort short (Sends m line turns new) (StopsInPull m line turns new) turns) old last was now
  sends_then new short octets last now first second =
      let few = first.few in let few_then = second.few in let is = first.are in record {
        calls = first.calls ++ second.calls;
        moves = moves_on begun first.calls second.calls old mid last was then now first.moves second.moves;
        few = omega (arith, length-append first.calls second.calls);
        are = subst (λ turns. UnlessShort short (Sends m line turns new) (StopsInPull m line turns new) turns)
            (sym (map-append (λ (call : Call Entry). call.entry) first.calls second.calls ∙ ap (λ turns. turns ++ turns_in second.calls) is.1))
            (sends_on m line new datagram has is.0 (is.2 ∙ serves) short octets is.3.0 (turns_in second.calls) is.3.1 second.are);
      }

  -- no datagram was sent
  pub sends_alone : MovesBy begun 1 (IsTold request told.Nothing) old mid was then
      → MovesBy begun 2 (λ turns. UnlessShort false (Sends m line turns line) (StopsInPull m line turns line) turns) old mid was then
  sends_alone moves = at_most_two begun (λ turns. UnlessShort false (Sends m line turns line) (StopsInPull m line turns line) turns) old mid was then
      (by_other begun 1 (IsTold request told.Nothing) (λ turns. UnlessShort false (Sends m line turns line) (StopsInPull m line turns line) turns)
      old mid was then (λ turns is. (
        record {
          datagram = datagram;
          has = has;
          asks = record {
            turn = is.0;
            later = [];
            are = is.1;
            asked = is.2 ∙ serves;
            goes_on = ends_without m is.0.answer line [] line is.3.0 (record { last = refl; now = refl });
          };
        },
        one_had_memory is.0 turns is.1 is.3.1,
      )) moves)

  -- memory ran out
  pub sends_short : MovesBy begun 1 (IsTold request told.NoMemory) old mid was then
      → MovesBy begun 2 (λ turns. UnlessShort true (Sends m line turns line) (StopsInPull m line turns line) turns) old mid was then
  sends_short moves = at_most_two begun (λ turns. UnlessShort true (Sends m line turns line) (StopsInPull m line turns line) turns) old mid was then
      (by_other begun 1 (IsTold request told.NoMemory) (λ turns. UnlessShort true (Sends m line turns line) (StopsInPull m line turns line) turns)
      old mid was then (λ turns is. inr (inr (record {
        datagram = datagram;
        has = has;
        turn = is.0;
        is_turn = is.1;
        asked = is.2 ∙ serves;
        now = inl refl;
      }))) moves)
