-- How many turns a block has.
use Rattle.std.proofs.Common.{◌≡◌, ◌⊎◌, ℕ, zero, suc, ◌+◌, ◌*◌, ◌<◌, ◌≤◌, ◌==◌, Bool, true, false, cond, MatchBool, List, [], ◌∷◌, ◌++◌, length, slice_index_or, None, sum_by, arith, inl, inr, refl, ap, subst}
use Rattle.std.proofs.lemmas.Bool.Decides.{Decides-eqb}
use Rattle.std.proofs.lemmas.List.{get_or_default, length-append, length-map}
use Rattle.std.proofs.lemmas.List.Sums.{sum_by-cons, sum_by-le}
use Rattle.desk.specs.Calls.{AreCallsOf, times}
use Rattle.desk.specs.declared.calls.Call.{Call}
use Rattle.epoch_board.specs.declared.pairs.Seen.{Seen}
use Rattle.group_terms.specs.Names.{Name}
use Rattle.group_model.specs.declared.entries.Answer.{Answer}
use Rattle.group_model.specs.declared.entries.Answer.TheVariants.{Datagram}
use Rattle.group_model.specs.declared.entries.Entry.{Entry}
use Rattle.group_steps.specs.Shows.{pairs_shown}
use Rattle.work_shares.specs.Shares.{rounds, share}
use Rattle.register_workers.specs.Blocks.{Worked}
use Rattle.register_workers.specs.FewTurns.{BlocksHaveFewTurns}
use Rattle.register_workers.specs.Lines.{Becomes, Comes, Ends, GoesOn, PassesOver, Sends, SendsThird, StopsShort, Turns}
use Rattle.register_workers.specs.Workers.{RanAll, RanBy, turns_in}
use Rattle.register_workers.specs.declared.lines.BlockAsk.{BlockAsk}
use Rattle.register_workers.specs.declared.lines.BlockAsk.TheVariants.{Join, Again, Leave, Batch, Now}
use Rattle.register_workers.specs.declared.lines.BlockLine.{BlockLine}

-- ---- the turns of a line

few_ends : (line : BlockLine) (turns : List Entry) (new : BlockLine) → Ends line turns new → length turns ≤ 0
few_ends line turns new ends = omega (arith, ap length ends.last)

few_kept : (m : Name) (second : List ℕ) (line : BlockLine) (turns : List Entry) (new : BlockLine)
    → (PassesOver line second × Ends line turns new) ⊎ SendsThird m second line turns new → length turns ≤ 1
few_kept m second line turns new (inl over) = omega (arith, few_ends line turns new over.1)
few_kept m second line turns new (inr sends) = omega (arith, ap length sends.is_turn)

few_comes : (m : Name) (second : List ℕ) (line : BlockLine) (turns : List Entry) (new : BlockLine) → Comes m second line turns new → length turns ≤ 1
few_comes m second line turns new comes = by line.lose comes
  where
    by : (lose : Bool) → MatchBool lose (Ends (record line { lose = false }) turns new)
        ((PassesOver line second × Ends line turns new) ⊎ SendsThird m second line turns new) → length turns ≤ 1
    by true ends = omega (arith, few_ends (record line { lose = false }) turns new ends)
    by false kept = few_kept m second line turns new kept

few_on : (m : Name) (answer : Answer) (line : BlockLine) (turns : List Entry) (new : BlockLine) → GoesOn m answer line turns new → length turns ≤ 1
few_on m (Datagram octets names) line turns new comes = few_comes m octets line turns new comes
few_on m answer line turns new ends = omega (arith, few_ends line turns new ends)

few_sends : (m : Name) (line : BlockLine) (turns : List Entry) (new : BlockLine) → Sends m line turns new → length turns ≤ 2
few_sends m line turns new sends =
    omega (arith, ap length sends.asks.are, few_on m sends.asks.turn.answer line sends.asks.later new sends.asks.goes_on)

few_turns : (asked : BlockAsk) (line : BlockLine) (turns : List Entry) (new : BlockLine) → Turns asked line turns new → length turns ≤ 2
few_turns (Join m) line turns new sends = few_sends m line turns new sends
few_turns (Again m) line turns new sends = few_sends m line turns new sends
few_turns (Leave m) line turns new asks = omega (arith, ap length asks.are, ap length asks.goes_on.last)
few_turns Batch line turns new asks = omega (arith, ap length asks.are, ap length asks.goes_on.last)
few_turns Now line turns new ends = omega (arith, few_ends line turns new ends)

few_short : (asked : BlockAsk) (line : BlockLine) (turns : List Entry) (new : BlockLine) → StopsShort asked line turns new → length turns ≤ 2
few_short asked line turns new (inl are) = few_turns asked line turns new are
few_short asked line turns new (inr (inl ends)) = omega (arith, few_ends line turns new ends)
few_short (Join m) line turns new (inr (inr stops)) = omega (arith, ap length stops.is_turn)
few_short (Again m) line turns new (inr (inr stops)) = omega (arith, ap length stops.is_turn)
few_short asked line turns new (inr (inr none)) = absurd none

few_become : (short : Bool) (asked : BlockAsk) (line : BlockLine) (turns : List Entry) (new : BlockLine) → Becomes short asked line turns new
    → length turns ≤ 2
few_become true asked line turns new stops = few_short asked line turns new stops
few_become false asked line turns new becomes = few_turns asked line turns new becomes.0

-- ---- the calls of a worker

few_calls : (short : Bool) (asked : BlockAsk) (line : BlockLine) (calls : List (Call Entry)) (new : BlockLine)
    → Becomes short asked line (turns_in calls) new → length calls ≤ 2
few_calls short asked line calls new becomes =
    omega (arith, few_become short asked line (turns_in calls) new becomes, length-map calls (λ (call : Call Entry). call.entry))

module _ (begun : ℕ) (history : List Entry) (shown : List Seen) (short : Bool) where
  few_ran : (asked : BlockAsk) (line : BlockLine) (known : List Seen) (calls : List (Call Entry)) (new : BlockLine) (later : List Seen)
      → RanBy begun history shown short asked line known calls new later → length calls ≤ 2
  few_ran Now line known calls new later looks = omega (arith, ap length looks.no_turn)
  few_ran asked line known calls new later takes = few_calls short line.asked (record line { seen = None }) calls new takes.becomes

  -- at most two for each line
  few_ran_all : (lines : List BlockLine) (known : List Seen) (calls : List (Call Entry)) (news : List BlockLine) (later : List Seen)
      → RanAll begun history shown short lines known calls news later → length calls ≤ length lines + length lines
  few_ran_all [] known calls news later ran = omega (arith, ap length ran.0)
  few_ran_all (line ∷ lines) known calls news later (own, rest, new, others, next, are, is, ran, more) =
      omega (
        arith,
        ap length are,
        length-append own rest,
        few_ran line.asked line known own new next ran,
        few_ran_all lines next rest others later more,
      )

-- ---- sums over places

-- of all numbers below one
abbrev total : (ℕ → ℕ) → ℕ → ℕ
total f zero = 0
total f (suc n) = total f n + f n

total-none : (f : ℕ → ℕ) → ((p : ℕ) → f p ≡ 0) → (n : ℕ) → total f n ≡ 0
total-none f none zero = refl
total-none f none (suc n) = omega (arith, total-none f none n, none n)

total-one : (f : ℕ → ℕ) (n : ℕ) → ((p : ℕ) → p < n → f p ≡ 1) → total f n ≡ n
total-one f zero one = refl
total-one f (suc n) one = omega (arith, total-one f n (λ p less. one p (omega (arith, less))), one n (omega arith))

total-add : (f g h : ℕ → ℕ) → ((p : ℕ) → h p ≡ f p + g p) → (n : ℕ) → total h n ≡ total f n + total g n
total-add f g h add zero = omega arith
total-add f g h add (suc n) = omega (arith, total-add f g h add n, add n)

module _ {E : Type 0} where
  -- whether this is the place of a call, as a number
  abbrev is_at : Call E → ℕ → ℕ
  is_at call place = cond (call.place == place) 1 0

  -- a call has one place
  total-call : (call : Call E) (n : ℕ) → (n ≤ call.place → total (is_at call) n ≡ 0) × (total (is_at call) n ≤ 1)
  total-call call zero = (λ below. refl, omega arith)
  total-call call (suc n) = by (call.place == n) refl (total-call call n)
    where
      by : (b : Bool) → (call.place == n) ≡ b → (n ≤ call.place → total (is_at call) n ≡ 0) × (total (is_at call) n ≤ 1)
          → (suc n ≤ call.place → total (is_at call) (suc n) ≡ 0) × (total (is_at call) (suc n) ≤ 1)
      by true here before =
          let same : call.place ≡ n = (Decides-eqb call.place n).0 here in
          let one : is_at call n ≡ 1 = ap (λ b. cond {A = ℕ} b 1 0) here in
          let none = before.0 (omega (arith, same)) in
          (λ below. absurd (omega (arith, same, below)), omega (arith, none, one))
      by false other before =
          let no : is_at call n ≡ 0 = ap (λ b. cond {A = ℕ} b 1 0) other in
          (λ below. let none = before.0 (omega (arith, below)) in omega (arith, none, no), let few = before.1 in omega (arith, few, no))

  -- calls have at most as many places as there are calls
  total-times : (calls : List (Call E)) (n : ℕ) → total (λ place. times place calls) n ≤ length calls
  total-times [] n = omega (arith, total-none (λ place. times {E = E} place []) (λ place. refl) n)
  total-times (call ∷ calls) n =
      let few = (total-call call n).1 in
      omega (
        arith,
        total-add (is_at call) (λ place. times place calls) (λ place. times place (call ∷ calls))
            (λ place. sum_by-cons (λ (call : Call E). is_at call place) call calls) n,
        few,
        total-times calls n,
      )

  -- so have those of all workers
  total-calls : (calls : List (List (Call E))) (n : ℕ) → total (λ place. sum_by (times place) calls) n ≤ sum_by length calls
  total-calls [] n = omega (arith, total-none (λ place. sum_by (times {E = E} place) []) (λ place. refl) n)
  total-calls (mine ∷ calls) n =
      omega (
        arith,
        total-add (λ place. times place mine) (λ place. sum_by (times place) calls) (λ place. sum_by (times place) (mine ∷ calls))
            (λ place. sum_by-cons (times place) mine calls) n,
        total-times mine n,
        total-calls calls n,
        sum_by-cons (length {A = Call E}) mine calls,
      )

  -- there are at most as many turns as calls
  few_entries : (turns : List E) (calls : List (List (Call E))) → AreCallsOf turns calls → length turns ≤ sum_by length calls
  few_entries turns calls are =
      omega (arith, total-one (λ place. sum_by (times place) calls) (length turns) are.once, total-calls calls (length turns))

-- ---- a block

-- no share has more lines than there are rounds
abbrev pub SharesAreFew : Type 0
SharesAreFew = (lines : List BlockLine) (n w : ℕ) → w < n → length (share n w lines) ≤ rounds n (length lines)

module _ (shares : SharesAreFew) (short : Bool) (workers : ℕ) (before after : List Entry) (lines news : List BlockLine) (calls : List (List (Call Entry))) where
  -- the calls of a worker
  few_worked : (w : ℕ) → w < workers → Worked short before after workers w lines news calls
      → length (slice_index_or calls w []) ≤ rounds workers (length lines) + rounds workers (length lines)
  few_worked w less made =
      omega (
        arith,
        few_ran_all (length before) after (pairs_shown after) short (share workers w lines) (pairs_shown before) (slice_index_or calls w [])
            (share workers w news) made.known made.ran,
        shares lines workers w less,
      )

pub few_in_block : SharesAreFew → BlocksHaveFewTurns
few_in_block shares short workers before turns lines news calls some each are worked =
    let most = rounds workers (length lines) in
    let of_one : (w : ℕ) → w < workers → length (slice_index_or calls w []) ≤ most + most
    = λ w less. few_worked shares short workers before (before ++ turns) lines news calls w less (worked w less) in
    let all = sum_by-le length (most + most) calls
    (λ w d less. omega (arith, of_one w (subst (λ n. w < n) each less), ap length (get_or_default calls w d [] less))) in
    omega (arith, few_entries turns calls are, all, ap (λ n. n * (most + most)) each)
