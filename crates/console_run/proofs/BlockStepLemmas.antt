-- What a block gives: each entry is a step, memory runs out at the end alone, and at last the members are those of the run.
use Rattle.std.proofs.Common.{◌≡◌, ◌∙◌, ◌⊎◌, ℕ, zero, suc, ◌<◌, Bool, true, false, cond, List, [], ◌∷◌, ◌++◌, Option, None, Some, length, sym, refl, ap, subst, inl, inr, ⊎_elim}
use Rattle.std.specs.Prelude.{MatchBool, drop, option_and_then, slice_index_or}
use Rattle.std.specs.List.{AllByRecursion}
use Rattle.std.proofs.Common.{append_assoc}
use Rattle.std.proofs.lemmas.Bool.{false≢true, or_from}
use Rattle.std.proofs.lemmas.List.{append-nil, map-append}
use Rattle.std.proofs.lemmas.List.Elements.{recursion_from_All}
use Rattle.std.proofs.lemmas.List.Folds.{list_any-append}
use Rattle.std.proofs.lemmas.Option.{none-some, same_Some}
use Rattle.desk.specs.declared.calls.Call.{Call}
use Rattle.epoch_board.specs.declared.pairs.Seen.{Seen}
use Rattle.gd_disk.specs.Moments.{Keeps}
use Rattle.server_steps.specs.Disks.{Counts}
use Rattle.group_steps.specs.Shows.{pairs_shown}
use Rattle.work_shares.specs.Shares.{share}
use Rattle.register_workers.proofs.OwnLemmas.{IsTurnOf, has}
use Rattle.register_workers.proofs.PassingLemmas.{all_append, all_entries, all_map}
use Rattle.group_terms.specs.Names.{Name}
use Rattle.group_model.specs.Answers.{any_ran_out, ran_out}
use Rattle.group_model.specs.declared.entries.Answer.{Answer}
use Rattle.group_model.specs.declared.entries.Asked.{Asked}
use Rattle.group_model.specs.declared.entries.Asked.TheVariants as requests
use Rattle.group_model.specs.declared.entries.Entry.{Entry}
use Rattle.group_model.specs.declared.entries.Outside.{Outside}
use Rattle.group_peers.specs.Peers.{is_named, is_peer, peer_of, phase_of, put, sent_by, was_introduced, with_loss}
use Rattle.group_peers.specs.declared.members.Peer.{Peer}
use Rattle.group_run.specs.Blocks.{Adds, Finishes, HasBegun, HasRun, IsBlock, IsTurn, Introduces, Joins, LooksAll, Point, Prepares, PreparesAll, PullsIf, Reads, ReadsOne}
use Rattle.group_run.specs.Blocks.{SendsAgain, StopsAfter, StopsInNext, StopsInOne, StopsIntroducing, StopsShort, TakesTurns, at_present, marked, marked_first, marks_of, seen_in}
use Rattle.group_steps.specs.ChainLaws.{along_on}
use Rattle.group_steps.specs.Chains.{Along}
use Rattle.group_steps.specs.Devices.{Devices, Keying}
use Rattle.group_steps.specs.Questions.{IsLook, IsMark}
use Rattle.group_steps.specs.Runs.{Run, run_of, with_members}
use Rattle.group_steps.specs.Steps.{AreRunSteps, IsActing, IsAnswered, IsAnsweredAfter, IsRunStep, IsServing}
use Rattle.member_steps.specs.Acts.{Acts, Agrees, IsFirstUse, IsIgnoring, Ignores, IsReady}
use Rattle.member_steps.specs.Members.{Mail, Members, with_all}
use Rattle.member_steps.specs.Steps.{HasSentNothing, IsKeeping}
use Rattle.member_steps.proofs.PeerLemmas.{peer_put}
use Rattle.register_workers.specs.Lines.{Becomes}
use Rattle.register_workers.specs.Workers.{RanAll, RanBy, turns_in}
use Rattle.register_workers.specs.declared.lines.BlockAsk.{BlockAsk}
use Rattle.register_workers.specs.declared.lines.BlockAsk.TheVariants.{Again, Batch, Join, Leave, Now}
use Rattle.register_workers.specs.declared.lines.BlockLine.{BlockLine}
use Rattle.console_run.specs.Breaks.{AreOfBlock}
use Rattle.console_run.specs.Memory.{EndsWithoutMemory, in_block_after, is_turn}
use Rattle.console_run.proofs.ActLemmas.{acts_then, ignores_then, one_act, phase_named}
use Rattle.console_run.proofs.BlockMemoryLemmas.{ends_enough, ends_then, in_block-append, in_block-one, in_block_all, turns_end}

-- ---- entries of a block

of_block_more : (entries more : List Entry) → AreOfBlock entries → AreOfBlock (entries ++ more)
of_block_more entries more h = record {
  first = h.first;
  others = h.others ++ more;
  parts = ap (λ entries. entries ++ more) h.parts;
  lines = h.lines;
  asked = h.asked;
}

any_none : (first second : List Entry) → any_ran_out first ≡ false → any_ran_out second ≡ false → any_ran_out (first ++ second) ≡ false
any_none first second h k = list_any-append (λ (entry : Entry). ran_out entry.answer) first second ∙ or_from _ _ h k

one_none : (entry : Entry) → ran_out entry.answer ≡ false → any_ran_out (entry ∷ []) ≡ false
one_none entry h = or_from _ _ h refl

module _ {D G V : Type 0} (on : Devices D G V) (by : Keying G) where
  acts_on : (a b c : Members) → Acts by.members_block by.group a b → Acts by.members_block by.group b c → Acts by.members_block by.group a c
  acts_on a b c first second = acts_then by.members_block by.group first.0 a b c first.1 second

  -- ---- one entry

  -- one entry was added, which is a step
  record IsOne (out : Bool) (request : Asked) (old new : Point D) : Type 0 where
    entry : Entry
    added : new.entries ≡ old.entries ++ entry ∷ []
    asked : entry.asked ≡ request
    acted : Members
    acts : Acts by.members_block by.group old.present acted
    ready : IsReady request acted
    answered : IsAnsweredAfter on by acted old.entries old.run entry new.run
    present : new.present ≡ new.run.members
    memory : ran_out entry.answer ≡ out

  one_of : (out : Bool) (step : Run D → Answer → Outside → Run D → Type 0) (acted : Members) (request : Asked) (old new : Point D)
      → ((run : Run D) (answer : Answer) (outside : Outside) (next : Run D) → step run answer outside next
      → IsAnswered on by old.entries request run answer outside next)
      → Acts by.members_block by.group old.present acted → IsReady request acted → Adds on.disks out step acted request old new → IsOne out request old new
  one_of out step acted request old new answers acts ready adds = record {
    entry = adds.entry;
    added = adds.added;
    asked = adds.asked;
    acted = acted;
    acts = acts;
    ready = ready;
    answered = record {
      answered = subst
          (λ asked. IsAnswered on by old.entries asked (with_members old.run acted) adds.entry.answer adds.entry.outside new.run)
          (sym adds.asked) (answers (with_members old.run acted) adds.entry.answer adds.entry.outside new.run adds.stepped.answered);
      keeps = adds.stepped.keeps;
      counts = adds.stepped.counts;
    };
    present = adds.present;
    memory = adds.memory;
  }

  -- ---- places after a block's mark

  -- Entries were added, from the mark on, each of them a step; memory ran out in none; and whether the block is open.
  pub record Came (in_block : Bool) (old new : Point D) : Type 0 where
    pub more : List Entry
    pub grown : new.entries ≡ old.entries ++ more
    pub steps : AreRunSteps on by old.entries old.run more new.run
    pub acts : Acts by.members_block by.group new.run.members new.present
    pub enough : any_ran_out more ≡ false
    pub state : (b : Bool) → in_block_all b more ≡ in_block
    pub marked : AreOfBlock more

  -- Entries were added, each a step, up to this run; memory ran out at the end alone.
  pub record Gave (old new : Point D) : Type 0 where
    pub more : List Entry
    pub grown : new.entries ≡ old.entries ++ more
    pub last : Run D
    pub steps : AreRunSteps on by old.entries old.run more last
    pub host : new.run.host ≡ last.host
    pub memory : (b : Bool) → EndsWithoutMemory b more
    pub marked : (more ≡ []) ⊎ AreOfBlock more

  came_begins : (n : ℕ) (old new : Point D) → Acts by.members_block by.group old.run.members old.present → IsOne false (requests.Together n) old new
      → Came true old new
  came_begins n old new acts one = record {
    more = one.entry ∷ [];
    grown = one.added;
    steps = (
      new.run,
      record {
        acted = one.acted;
        acts = acts_on old.run.members old.present one.acted acts one.acts;
        ready = subst (λ asked. IsReady asked one.acted) (sym one.asked) one.ready;
        answered = one.answered;
      },
      refl,
    );
    acts = (zero, one.present);
    enough = one_none one.entry one.memory;
    state = λ b. in_block-one b one.entry ∙ ap (in_block_after b) one.asked;
    marked = record { first = one.entry; others = []; parts = refl; lines = n; asked = one.asked };
  }

  module _ (first : Point D) where
    came_acts : (b : Bool) (old new : Point D) (acted : Members) → Acts by.members_block by.group old.present acted → new ≡ at_present old acted
        → Came b first old → Came b first new
    came_acts b old new acted acts now h = subst (Came b first) (sym now) (record {
      more = h.more;
      grown = h.grown;
      steps = h.steps;
      acts = acts_on old.run.members old.present acted h.acts acts;
      enough = h.enough;
      state = h.state;
      marked = h.marked;
    })

    one_step : (b out : Bool) (request : Asked) (old new : Point D) (h : Came b first old) (one : IsOne out request old new)
        → AreRunSteps on by first.entries first.run (h.more ++ one.entry ∷ []) new.run
    one_step b out request old new h one =
        along_on (IsRunStep on by) first.entries h.more (one.entry ∷ []) first.run old.run new.run h.steps (
          new.run,
          record {
            acted = one.acted;
            acts = acts_on old.run.members old.present one.acted h.acts one.acts;
            ready = subst (λ asked. IsReady asked one.acted) (sym one.asked) one.ready;
            answered = subst (λ before. IsAnsweredAfter on by one.acted before old.run one.entry new.run) h.grown one.answered;
          },
          refl,
        )

    one_grown : (b out : Bool) (request : Asked) (old new : Point D) (h : Came b first old) (one : IsOne out request old new)
        → new.entries ≡ first.entries ++ (h.more ++ one.entry ∷ [])
    one_grown b out request old new h one =
        one.added ∙ ap (λ entries. entries ++ one.entry ∷ []) h.grown ∙ append_assoc first.entries h.more (one.entry ∷ [])

    came_one : (b next : Bool) (request : Asked) (old new : Point D) → in_block_after b request ≡ next → IsOne false request old new → Came b first old
        → Came next first new
    came_one b next request old new keeps one h = record {
      more = h.more ++ one.entry ∷ [];
      grown = one_grown b false request old new h one;
      steps = one_step b false request old new h one;
      acts = (zero, one.present);
      enough = any_none h.more (one.entry ∷ []) h.enough (one_none one.entry one.memory);
      state = λ c. in_block-append c h.more (one.entry ∷ []) ∙ in_block-one (in_block_all c h.more) one.entry
          ∙ ap (λ c. in_block_after c one.entry.asked) (h.state c) ∙ ap (in_block_after b) one.asked ∙ keeps;
      marked = of_block_more h.more (one.entry ∷ []) h.marked;
    }

    gave : (b : Bool) (old new : Point D) → new ≡ old → Came b first old → Gave first new
    gave b old new same h = subst (Gave first) (sym same) (record {
      more = h.more;
      grown = h.grown;
      last = old.run;
      steps = h.steps;
      host = refl;
      memory = λ c. ends_enough c h.more h.enough;
      marked = inr h.marked;
    })

    gave_one : (b out : Bool) (request : Asked) (old new : Point D) → IsOne out request old new → Came b first old → Gave first new
    gave_one b out request old new one h = record {
      more = h.more ++ one.entry ∷ [];
      grown = one_grown b out request old new h one;
      last = new.run;
      steps = one_step b out request old new h one;
      host = refl;
      memory = λ c. ends_then c h.more (one.entry ∷ []) h.enough (inl refl, tt);
      marked = inr (of_block_more h.more (one.entry ∷ []) h.marked);
    }

    -- ---- before the turns

    use_acts : (m : Name) (members used : Members) (b : Bool) → MatchBool b (used ≡ members) (IsFirstUse by.members_block m members used)
        → Acts by.members_block by.group members used
    use_acts m members used true same = (zero, same)
    use_acts m members used false drawn = one_act by.members_block by.group members used (inr (inr (inl (m, drawn))))

    introduced : (out : Bool) (m : Name) (old new : Point D) (h : Introduces on.disks on.signers by out m old new)
        → IsOne out (requests.Introduce h.phase) old new
    introduced out m old new h =
        one_of out (IsServing on.disks on.signers by.signer by.block (requests.Introduce h.phase)) h.used (requests.Introduce h.phase) old new
        (λ run answer outside next served. served) (use_acts m old.present h.used (is_peer old.present.all m) h.uses)
        (subst (λ m. phase_of h.used.all m ≡ Some h.phase) (phase_named h.used.all m h.phase h.is) h.is) h.serves

    pulls_if : (b : Bool) (m : Name) (old new : Point D) (handed : Bool) → PullsIf on.disks on.signers by b m old new handed → Came true first old
        → Came true first new
    pulls_if true m old new handed h came =
        came_acts true old new h.0.acted (one_act by.members_block by.group old.present h.0.acted (inr (inr (inr (inl (m, h.0.begins)))))) h.0.now came
    pulls_if false m old new handed h came = subst (Came true first) (sym h.0) came

    joins : (b : Bool) (m : Name) (old new : Point D) (handed : Bool) → Joins on.disks on.signers by b m old new handed → Came true first old
        → Came true first new
    joins true m old new handed h came = pulls_if true m old new handed h came
    joins false m old new handed h came =
        pulls_if (was_introduced h.0.present.all m) m h.0 new handed h.2
        (came_one true true (requests.Introduce h.1.phase) old h.0 refl (introduced false m old h.0 h.1) came)

    sends_again : (sent : Option (List ℕ)) (m : Name) (old new : Point D) (handed : Bool) → SendsAgain on.disks on.signers by sent m old new handed
        → Came true first old → Came true first new
    sends_again None m old new handed h came =
        came_one true true (requests.Again m) old new refl (one_of false (IsActing (HasSentNothing m)) old.present (requests.Again m) old new
        (λ run answer outside next acted. acted) (zero, refl) tt h.0) came
    sends_again (Some datagram) m old new handed h came = subst (Came true first) (sym h.0) came

    prepares : (ask : BlockAsk) (old new : Point D) (handed : Bool) → Prepares on.disks on.signers by ask old new handed → Came true first old
        → Came true first new
    prepares (Join m) old new handed h came = joins (was_introduced old.present.all m) m old new handed h came
    prepares (Again m) old new handed h came = sends_again (sent_by old.present.all m) m old new handed h came
    prepares ask old new handed h came = subst (Came true first) (sym h.0) came

    prepares_all : (asks handed : List BlockAsk) (old new : Point D) → PreparesAll on.disks on.signers by asks handed old new → Came true first old
        → Came true first new
    prepares_all [] handed old new h came = subst (Came true first) (sym h.1) came
    prepares_all (ask ∷ asks) handed old new h came = prepares_all asks h.2 h.0 new h.5 (prepares ask old h.0 h.1 h.3 came)

    -- ---- after the turns

    as_first : (marks : List Bool) (mails : List Mail) (members : Members) → Acts by.members_block by.group members (marked_first marks mails members)
    as_first [] mails members = (zero, refl)
    as_first (false ∷ marks) mails members = (zero, refl)
    as_first (true ∷ marks) [] members = (zero, refl)
    as_first (true ∷ marks) (mail ∷ later) members =
        one_act by.members_block by.group members (with_all members (with_loss members.all mail.0 true))
        (inr (inr (inr (inr (inr (record { m = mail.0; loses = true; now = refl }))))))

    -- the third message is what the member sent last
    agrees_sent : (m : Name) (third : List ℕ) (read acted : Members) → Agrees m third read acted → sent_by acted.all m ≡ Some third
    agrees_sent m third read acted agrees =
        let now : acted.all ≡ put read.all agrees.after = ap (λ (members : Members). members.all) agrees.now in
        let phase : agrees.after.phase ≡ agrees.peer.phase = ap (λ (peer : Peer). peer.phase) agrees.agrees.now in
        let found : peer_of acted.all m ≡ Some agrees.after =
        ap (λ all. peer_of all m) now ∙ peer_put read.all m agrees.after agrees.peer agrees.gets.is_there phase in
        ap (option_and_then (λ (peer : Peer). peer.sent)) found ∙ ap (λ (peer : Peer). peer.sent) agrees.agrees.now

    serves_third : (out : Bool) (m : Name) (third : List ℕ) (members acted : Members) (old new : Point D)
        → Acts by.members_block by.group old.present members → Agrees m third members acted
        → Adds on.disks out (IsServing on.disks on.signers by.signer by.block (requests.Serve m third)) acted (requests.Serve m third) old new
        → IsOne out (requests.Serve m third) old new
    serves_third out m third members acted old new acts agrees adds =
        one_of out (IsServing on.disks on.signers by.signer by.block (requests.Serve m third)) acted (requests.Serve m third) old new
        (λ run answer outside next served. served)
        (acts_on old.present members acted acts (one_act by.members_block by.group members acted (inr (inl (m, third, agrees)))))
        (agrees_sent m third members acted agrees) adds

    keeps : (out : Bool) (m : Name) (members : Members) (old new : Point D) → Acts by.members_block by.group old.present members
        → Adds on.disks out (IsActing (IsKeeping m)) members (requests.Keep m) old new → IsOne out (requests.Keep m) old new
    keeps out m members old new acts adds =
        one_of out (IsActing (IsKeeping m)) members (requests.Keep m) old new (λ run answer outside next acted. acted) acts tt adds

    reads_one : (members : Members) (old new : Point D) → Acts by.members_block by.group old.present members
        → ReadsOne on.disks on.signers by false members old new → Came false first old → Came false first new
    reads_one members old new acts (inl ignores) came =
        came_acts false old new ignores.0
        (acts_on old.present members ignores.0 acts (one_act by.members_block by.group members ignores.0 (inl ignores.1))) ignores.2 came
    reads_one members old new acts (inr (inl serves)) came =
        came_one false false (requests.Serve serves.0 serves.1) old new refl
        (serves_third false serves.0 serves.1 members serves.2 old new acts serves.3 serves.4) came
    reads_one members old new acts (inr (inr kept)) came =
        came_one false false (requests.Keep kept.0) old new refl (keeps false kept.0 members old new acts kept.1) came

    reads : (n : ℕ) (marks : List Bool) (old new : Point D) → Reads on.disks on.signers by n marks old new → Came false first old → Came false first new
    reads zero marks old new same came = subst (Came false first) (sym same) came
    reads (suc n) marks old new h came =
        reads n (drop 1 marks) h.0 new h.2
        (reads_one (marked marks old.present) old h.0 (as_first marks old.present.mail old.present) h.1 came)

    reads_last : (members : Members) (old new : Point D) → Acts by.members_block by.group old.present members
        → ReadsOne on.disks on.signers by true members old new → Came false first old → Gave first new
    reads_last members old new acts (inl ignores) came =
        gave false new new refl (came_acts false old new ignores.0
        (acts_on old.present members ignores.0 acts (one_act by.members_block by.group members ignores.0 (inl ignores.1))) ignores.2 came)
    reads_last members old new acts (inr (inl serves)) came =
        gave_one false true (requests.Serve serves.0 serves.1) old new
        (serves_third true serves.0 serves.1 members serves.2 old new acts serves.3 serves.4) came
    reads_last members old new acts (inr (inr kept)) came =
        gave_one false true (requests.Keep kept.0) old new (keeps true kept.0 members old new acts kept.1) came

    looks : (pairs : List Seen) (old new : Point D) → LooksAll on.disks pairs old new → Came false first old → Came false first new
    looks [] old new same came = subst (Came false first) (sym same) came
    looks (seen ∷ pairs) old new h came =
        looks pairs h.0 new h.2 (came_one false false requests.Now old h.0 refl
        (one_of false (IsLook old.entries) old.present requests.Now old h.0 (λ run answer outside next look. look) (zero, refl) tt h.1.adds) came)

    -- ---- the turns

    -- Turns after entries that ran out of memory in none, up to a run on whose host the place is; its members have acted since.
    record Ran (new : Point D) : Type 0 where
      front : List Entry
      turns : List Entry
      grown : new.entries ≡ first.entries ++ (front ++ turns)
      last : Run D
      steps : AreRunSteps on by first.entries first.run (front ++ turns) last
      host : new.run.host ≡ last.host
      acts : Acts by.members_block by.group last.members new.present
      enough : any_ran_out front ≡ false
      state : (b : Bool) → in_block_all b front ≡ true
      marked : AreOfBlock front
      are_turns : AllByRecursion (λ (turn : Entry). is_turn turn.asked ≡ true) turns

    -- the mark after them
    mark_step : (old new : Point D) (h : Ran old) (one : IsOne false requests.Together2 old new)
        → AreRunSteps on by first.entries first.run ((h.front ++ h.turns) ++ one.entry ∷ []) new.run
    mark_step old new h one =
        let here : with_members old.run one.acted ≡ with_members h.last one.acted = ap (λ host. run_of host one.acted) h.host in
        along_on (IsRunStep on by) first.entries (h.front ++ h.turns) (one.entry ∷ []) first.run h.last new.run h.steps (
          new.run,
          record {
            acted = one.acted;
            acts = acts_on h.last.members old.present one.acted h.acts one.acts;
            ready = subst (λ asked. IsReady asked one.acted) (sym one.asked) one.ready;
            answered = subst (λ before. IsAnsweredAfter on by one.acted before h.last one.entry new.run) h.grown (record {
              answered = subst (λ run. IsAnswered on by old.entries one.entry.asked run one.entry.answer one.entry.outside new.run) here one.answered.answered;
              keeps = subst (λ host. Keeps on.disks host.disk new.run.host.disk) h.host one.answered.keeps;
              counts = subst (λ host. Counts on.disks one.entry.outside.disk_failed host.disk new.run.host.disk) h.host one.answered.counts;
            });
          },
          refl,
        )

    mark_grown : (old new : Point D) (h : Ran old) (one : IsOne false requests.Together2 old new)
        → new.entries ≡ first.entries ++ ((h.front ++ h.turns) ++ one.entry ∷ [])
    mark_grown old new h one =
        one.added ∙ ap (λ entries. entries ++ one.entry ∷ []) h.grown ∙ append_assoc first.entries (h.front ++ h.turns) (one.entry ∷ [])

    -- ended, where memory ran out in none
    came_ends : (old new : Point D) (h : Ran old) → any_ran_out h.turns ≡ false → IsOne false requests.Together2 old new → Came false first new
    came_ends old new h enough one = record {
      more = (h.front ++ h.turns) ++ one.entry ∷ [];
      grown = mark_grown old new h one;
      steps = mark_step old new h one;
      acts = (zero, one.present);
      enough = any_none (h.front ++ h.turns) (one.entry ∷ []) (any_none h.front h.turns h.enough enough) (one_none one.entry one.memory);
      state = λ c. in_block-append c (h.front ++ h.turns) (one.entry ∷ []) ∙ in_block-one (in_block_all c (h.front ++ h.turns)) one.entry
          ∙ ap (in_block_after (in_block_all c (h.front ++ h.turns))) one.asked;
      marked = of_block_more (h.front ++ h.turns) (one.entry ∷ []) (of_block_more h.front h.turns h.marked);
    }

    -- the turns are all, or their mark comes
    gave_turns : (old new : Point D) → Ran old → new ≡ old → Gave first new
    gave_turns old new h same = subst (Gave first) (sym same) (record {
      more = h.front ++ h.turns;
      grown = h.grown;
      last = h.last;
      steps = h.steps;
      host = h.host;
      memory = λ c. ends_then c h.front h.turns h.enough (subst (λ b. EndsWithoutMemory b h.turns) (sym (h.state c))
          (subst (EndsWithoutMemory true) (append-nil h.turns) (turns_end h.turns [] h.are_turns tt tt)));
      marked = inr (of_block_more h.front h.turns h.marked);
    })

    gave_mark : (old new : Point D) → Ran old → IsOne false requests.Together2 old new → Gave first new
    gave_mark old new h one = record {
      more = (h.front ++ h.turns) ++ one.entry ∷ [];
      grown = mark_grown old new h one;
      last = new.run;
      steps = mark_step old new h one;
      host = refl;
      memory = λ c. subst (EndsWithoutMemory c) (sym (append_assoc h.front h.turns (one.entry ∷ [])))
          (ends_then c h.front (h.turns ++ one.entry ∷ []) h.enough (subst (λ b. EndsWithoutMemory b (h.turns ++ one.entry ∷ [])) (sym (h.state c))
          (turns_end h.turns (one.entry ∷ []) h.are_turns (inl (one.asked, refl)) (inl refl, tt))));
      marked = inr (of_block_more (h.front ++ h.turns) (one.entry ∷ []) (of_block_more h.front h.turns h.marked));
    }

  -- ---- turns are steps

  served_answers : (before : List Entry) (asked : Asked) (run : Run D) (answer : Answer) (outside : Outside) (next : Run D)
      → IsServing on.disks on.signers by.signer by.block asked run answer outside next → IsAnswered on by before asked run answer outside next
  served_answers before (requests.Create depth) run answer outside next h = absurd h.served
  served_answers before requests.Begin run answer outside next h = absurd h.served
  served_answers before (requests.Lose m) run answer outside next h = absurd h.served
  served_answers before (requests.Again m) run answer outside next h = absurd h.served
  served_answers before (requests.Keep m) run answer outside next h = absurd h.served
  served_answers before (requests.Deliver m number) run answer outside next h = absurd h.served
  served_answers before (requests.Key m) run answer outside next h = absurd h.served
  served_answers before (requests.Derive epoch members) run answer outside next h = absurd h.served
  served_answers before requests.Now run answer outside next h = absurd h.served
  served_answers before (requests.Together lines) run answer outside next h = absurd h.served
  served_answers before requests.Together2 run answer outside next h = absurd h.served
  served_answers before asked run answer outside next h = h

  -- the run after turns, whose members may have acted since
  record AreTaken (before : List Entry) (run : Run D) (turns : List Entry) (after : Run D) : Type 0 where
    last : Run D
    steps : AreRunSteps on by before run turns last
    host : after.host ≡ last.host
    acts : Acts by.members_block by.group last.members after.members

  are_taken : (turns before : List Entry) (run : Run D) (present : Members) (after : Run D) → Acts by.members_block by.group run.members present
      → Along (IsTurn on.disks on.signers by) before (with_members run present) turns after → AreTaken before run turns after
  are_taken [] before run present after acts same = record {
    last = run;
    steps = refl;
    host = ap (λ (run : Run D). run.host) same;
    acts = subst (Acts by.members_block by.group run.members) (sym (ap (λ (run : Run D). run.members) same)) acts;
  }
  are_taken (turn ∷ turns) before run present after acts h =
      let step = h.1 in
      let later = are_taken turns (before ++ turn ∷ []) h.0 h.0.members after (zero, refl) h.2 in
      record {
        last = later.last;
        steps = (
          h.0,
          record {
            acted = step.acted;
            acts = acts_on run.members present step.acted acts step.acts;
            ready = step.ready;
            answered = record {
              answered = served_answers before turn.asked (with_members run step.acted) turn.answer turn.outside h.0 step.served.answered;
              keeps = step.served.keeps;
              counts = step.served.counts;
            };
          },
          later.steps,
        );
        host = later.host;
        acts = later.acts;
      }

  -- ---- what turns ask

  -- it is a turn of a line, and memory ran out in it only where that is told
  abbrev IsFineTurn : Bool → Entry → Type 0
  IsFineTurn short turn = (is_turn turn.asked ≡ true) × (short ≡ false → ran_out turn.answer ≡ false)

  turn_is : (asked : BlockAsk) (turn : Entry) → IsTurnOf asked turn → is_turn turn.asked ≡ true
  turn_is (Join m) turn h = ap is_turn h.1
  turn_is (Again m) turn h = ap is_turn h.1
  turn_is (Leave m) turn h = ap is_turn h
  turn_is Batch turn h = ap is_turn h
  turn_is Now turn h = absurd h

  both_fine : (asked : BlockAsk) (turns : List Entry) → AllByRecursion (IsTurnOf asked) turns
      → AllByRecursion (λ (turn : Entry). ran_out turn.answer ≡ false) turns → AllByRecursion (IsFineTurn false) turns
  both_fine asked [] all had = tt
  both_fine asked (turn ∷ turns) all had = ((turn_is asked turn all.0, λ same. had.0), both_fine asked turns all.1 had.1)

  own_fine : (short : Bool) (asked : BlockAsk) (line : BlockLine) (turns : List Entry) (new : BlockLine) → Becomes short asked line turns new
      → AllByRecursion (IsFineTurn short) turns
  own_fine true asked line turns new becomes =
      all_map (IsTurnOf asked) (IsFineTurn true) (λ turn h. (turn_is asked turn h, λ never. absurd (false≢true (sym never)))) turns
      (has true asked line turns new becomes).turns_are
  own_fine false asked line turns new becomes =
      both_fine asked turns (has false asked line turns new becomes).turns_are
      (recursion_from_All (λ (turn : Entry). ran_out turn.answer ≡ false) turns becomes.1)

  module _ (short : Bool) (begun : ℕ) (history : List Entry) (shown : List Seen) where
    ran_fine : (asked : BlockAsk) (line : BlockLine) (known : List Seen) (calls : List (Call Entry)) (new : BlockLine) (later : List Seen)
        → RanBy begun history shown short asked line known calls new later → AllByRecursion (IsFineTurn short) (turns_in calls)
    ran_fine Now line known calls new later ran = subst (λ calls. AllByRecursion (IsFineTurn short) (turns_in calls)) (sym ran.no_turn) tt
    ran_fine (Join m) line known calls new later ran = own_fine short line.asked (record line { seen = None }) (turns_in calls) new ran.becomes
    ran_fine (Again m) line known calls new later ran = own_fine short line.asked (record line { seen = None }) (turns_in calls) new ran.becomes
    ran_fine (Leave m) line known calls new later ran = own_fine short line.asked (record line { seen = None }) (turns_in calls) new ran.becomes
    ran_fine Batch line known calls new later ran = own_fine short line.asked (record line { seen = None }) (turns_in calls) new ran.becomes

    all_fine : (lines : List BlockLine) (known : List Seen) (calls : List (Call Entry)) (news : List BlockLine) (later : List Seen)
        → RanAll begun history shown short lines known calls news later → AllByRecursion (IsFineTurn short) (turns_in calls)
    all_fine [] known calls news later ran = subst (λ calls. AllByRecursion (IsFineTurn short) (turns_in calls)) (sym ran.0) tt
    all_fine (line ∷ lines) known calls news later (own, rest, new, others, next, are, is, ran, more) =
        subst (AllByRecursion (IsFineTurn short)) (sym (ap turns_in are ∙ map-append (λ (call : Call Entry). call.entry) own rest))
        (all_append (IsFineTurn short) (turns_in own) (turns_in rest) (ran_fine line.asked line known own new next ran)
        (all_fine lines next rest others later more))

  turns_fine : (workers : ℕ) (asks : List BlockAsk) (short : Bool) (turns : List Entry) (news : List BlockLine) (old new : Point D)
      → TakesTurns on.disks on.signers by workers asks short turns news old new → AllByRecursion (IsFineTurn short) turns
  turns_fine workers asks short turns news old new takes =
      recursion_from_All (IsFineTurn short) turns (all_entries turns takes.calls takes.are_calls (IsFineTurn short) (λ k less.
      let made = takes.worked k (subst (λ n. k < n) takes.a_list_each less) in
      all_fine short (length old.entries) (old.entries ++ turns) (pairs_shown (old.entries ++ turns)) (share workers k takes.lines)
      (pairs_shown old.entries) (slice_index_or takes.calls k []) (share workers k news) made.known made.ran))

  are_turns : (short : Bool) (turns : List Entry) → AllByRecursion (IsFineTurn short) turns → AllByRecursion (λ (turn : Entry). is_turn turn.asked ≡ true) turns
  are_turns short turns all = all_map (IsFineTurn short) (λ (turn : Entry). is_turn turn.asked ≡ true) (λ turn h. h.0) turns all

  none_ran_out : (turns : List Entry) → AllByRecursion (IsFineTurn false) turns → any_ran_out turns ≡ false
  none_ran_out [] all = refl
  none_ran_out (turn ∷ turns) all = or_from _ _ (all.0.1 refl) (none_ran_out turns all.1)

  abbrev ran : (first : Point D) (workers : ℕ) (asks : List BlockAsk) (short : Bool) (turns : List Entry) (news : List BlockLine) (old new : Point D)
      → TakesTurns on.disks on.signers by workers asks short turns news old new → Came true first old → Ran first new
  ran first workers asks short turns news old new takes h =
      let taken = are_taken turns old.entries old.run old.present new.run h.acts takes.steps in
      record {
        front = h.more;
        turns = turns;
        grown = takes.entries ∙ ap (λ entries. entries ++ turns) h.grown ∙ append_assoc first.entries h.more turns;
        last = taken.last;
        steps = along_on (IsRunStep on by) first.entries h.more turns first.run old.run taken.last h.steps
            (subst (λ before. AreRunSteps on by before old.run turns taken.last) h.grown taken.steps);
        host = taken.host;
        acts = acts_on taken.last.members new.run.members new.present taken.acts takes.acts;
        enough = h.enough;
        state = h.state;
        marked = h.marked;
        are_turns = are_turns short turns (turns_fine workers asks short turns news old new takes);
      }

  -- ---- a whole block

  marks : (request : Asked) (old new : Point D) → ((before : List Entry) (run : Run D) (answer : Answer) (outside : Outside) (next : Run D)
      → IsMark run answer outside next → IsAnswered on by before request run answer outside next)
      → ((members : Members) → IsReady request members) → Adds on.disks false IsMark old.present request old new → IsOne false request old new
  marks request old new answers ready adds =
      one_of false IsMark old.present request old new (answers old.entries) (zero, refl) (ready old.present) adds

  module _ (workers : ℕ) (asks : List BlockAsk) (old : Point D) (acts : Acts by.members_block by.group old.run.members old.present) where
    begins : (begun : Point D) → Adds on.disks false IsMark old.present (requests.Together (length asks)) old begun → Came true old begun
    begins begun mark =
        came_begins (length asks) old begun acts
        (marks (requests.Together (length asks)) old begun (λ before run answer outside next h. h) (λ members. tt) mark)

    has_begun : (handed : List BlockAsk) (ready : Point D) → HasBegun on.disks on.signers by workers asks handed old ready → Came true old ready
    has_begun handed ready h = prepares_all old asks handed h.begun ready h.prepares (begins h.begun h.begins)

    ends : (before after : Point D) → Adds on.disks false IsMark before.present requests.Together2 before after → IsOne false requests.Together2 before after
    ends before after mark = marks requests.Together2 before after (λ before run answer outside next h. h) (λ members. tt) mark

    -- lines were prepared, and some are handed on
    module _ (handed : List BlockAsk) (ready : Point D) (came : Came true old ready) where
      has_run : (turns : List Entry) (news : List BlockLine) (ended : Point D) → HasRun on.disks on.signers by workers asks handed turns news ready ended
          → Came false old ended
      has_run turns news ended h =
          came_ends old h.ran ended (ran old workers handed false turns news ready h.ran h.takes came)
          (none_ran_out turns (turns_fine workers handed false turns news ready h.ran h.takes)) (ends h.ran ended h.ends)

      finishes : (new : Point D) → Finishes on.disks on.signers by workers asks handed ready new → Came false old new
      finishes new h =
          looks old (seen_in h.news) h.rest new h.looks
          (reads old h.count (marks_of ready.present h.turns) h.ended h.rest h.reads (has_run h.turns h.news h.ended h.has_run))

      stops_after : (new : Point D) → StopsAfter on.disks on.signers by workers asks handed ready new → Gave old new
      stops_after new (inl h) =
          let there = ran old workers handed h.short h.turns h.news ready h.ran h.takes came in
          ⊎_elim (λ (same : new ≡ h.ran). gave_turns old h.ran new there same)
          (λ (mark : Adds on.disks false IsMark h.ran.present requests.Together2 h.ran new). gave_mark old h.ran new there (ends h.ran new mark)) h.last
      stops_after new (inr (inl h)) =
          let read = reads old h.count (marks_of ready.present h.turns) h.ended h.mid h.reads (has_run h.turns h.news h.ended h.has_run) in
          ⊎_elim (λ (same : new ≡ h.mid). gave old false h.mid new same read)
          (λ (one : ReadsOne on.disks on.signers by true (marked (drop h.count (marks_of ready.present h.turns)) h.mid.present) h.mid new).
          reads_last old (marked (drop h.count (marks_of ready.present h.turns)) h.mid.present) h.mid new
          (as_first old (drop h.count (marks_of ready.present h.turns)) h.mid.present.mail h.mid.present) one read) h.last
      stops_after new (inr (inr h)) =
          gave old false new new refl (looks old h.front h.rest new h.looks
          (reads old h.count (marks_of ready.present h.turns) h.ended h.rest h.reads (has_run h.turns h.news h.ended h.has_run)))

    pub block_came : (new : Point D) → IsBlock on.disks on.signers by workers asks old new → Came false old new
    block_came new h = finishes h.handed h.ready (has_begun h.handed h.ready h.begun) new h.finishes

    pub block_gave : (new : Point D) → IsBlock on.disks on.signers by workers asks old new → Gave old new
    block_gave new h = gave old false new new refl (block_came new h)

    stops_introducing : (m : Name) (ready new : Point D) → StopsIntroducing on.disks on.signers by m ready new → Came true old ready → Gave old new
    stops_introducing m ready new (inl same) came = gave old true ready new same came
    stops_introducing m ready new (inr stops) came =
        gave_one old true stops.0 (requests.Introduce stops.1.phase) ready new (introduced old stops.0 m ready new stops.1) came

    stops_one : (ask : BlockAsk) (ready new : Point D) → StopsInOne on.disks on.signers by ask ready new → Came true old ready → Gave old new
    stops_one (Join m) ready new (inl same) came = gave old true ready new same came
    stops_one (Join m) ready new (inr stops) came = stops_introducing m ready new stops.1 came
    stops_one ask ready new same came = gave old true ready new same came

    stops_next : (asks : List BlockAsk) (ready new : Point D) → StopsInNext on.disks on.signers by asks ready new → Came true old ready → Gave old new
    stops_next [] ready new same came = gave old true ready new same came
    stops_next (ask ∷ asks) ready new stops came = stops_one ask ready new stops came

    pub short_gave : (new : Point D) → StopsShort on.disks on.signers by workers asks old new → Gave old new
    short_gave new (inl same) = subst (Gave old) (sym same) (record {
      more = [];
      grown = sym (append-nil old.entries);
      last = old.run;
      steps = refl;
      host = refl;
      memory = λ c. tt;
      marked = inl refl;
    })
    short_gave new (inr (inl h)) =
        stops_next h.stops.later h.stops.ready new h.stops.last
        (prepares_all old h.stops.front h.stops.handed h.begun h.stops.ready h.stops.prepares (begins h.begun h.begins))
    short_gave new (inr (inr h)) = stops_after h.handed h.ready (has_begun h.handed h.ready h.begun) new h.stops

  -- ---- the members at the end

  -- those of the run, which ignored some of what was on its way
  abbrev Rests : Point D → Type 0
  Rests place = Ignores place.run.members place.present

  -- to whom the next datagram goes missing
  lost_if : (m : Name) (one : Peer) (peers : List Peer) (peer : Peer) → (peer_of (with_loss peers m true) m ≡ Some peer → peer.loses ≡ true)
      → (b : Bool) → is_named m one ≡ b
      → cond (is_named m (cond b (record one { loses = true }) one)) (Some (cond b (record one { loses = true }) one)) (peer_of (with_loss peers m true) m)
      ≡ Some peer → peer.loses ≡ true
  lost_if m one peers peer later true named is =
      ap (λ (peer : Peer). peer.loses) (sym (same_Some (record one { loses = true }) peer
      (sym (ap (λ b. cond b (Some (record one { loses = true })) (peer_of (with_loss peers m true) m)) named) ∙ is)))
  lost_if m one peers peer later false other is =
      later (sym (ap (λ b. cond b (Some one) (peer_of (with_loss peers m true) m)) other) ∙ is)

  lost : (m : Name) (peers : List Peer) (peer : Peer) → peer_of (with_loss peers m true) m ≡ Some peer → peer.loses ≡ true
  lost m [] peer is = absurd (none-some peer is)
  lost m (one ∷ peers) peer is = lost_if m one peers peer (lost m peers peer) (is_named m one) refl is

  unmarked : (marks : List Bool) (mails : List Mail) (present read : Members) → present.mail ≡ mails → IsIgnoring (marked_first marks mails present) read
      → IsIgnoring present read
  unmarked [] mails present read is h = h
  unmarked (false ∷ marks) mails present read is h = h
  unmarked (true ∷ marks) [] present read is h = h
  unmarked (true ∷ marks) (mail ∷ later) present read is h =
      let here : mail ∷ later ≡ (h.m, h.datagram) ∷ h.later = sym is ∙ h.gets.is_first in
      let same : mail.0 ≡ h.m = cc here in
      absurd (false≢true (sym h.gets.comes ∙ lost mail.0 present.all h.peer
      (subst (λ m. peer_of (with_loss present.all mail.0 true) m ≡ Some h.peer) (sym same) h.gets.is_there)))

  rests_one : (marks : List Bool) (old new : Point D) → ReadsOne on.disks on.signers by false (marked marks old.present) old new → Rests old → Rests new
  rests_one marks old new (inl ignores) rests = subst Rests (sym ignores.2)
      (ignores_then rests.0 old.run.members old.present ignores.0 rests.1
      (suc zero, (ignores.0, unmarked marks old.present.mail old.present ignores.0 refl ignores.1, refl)))
  rests_one marks old new (inr (inl serves)) rests = (zero, serves.4.present)
  rests_one marks old new (inr (inr kept)) rests = (zero, kept.1.present)

  rests_reads : (n : ℕ) (marks : List Bool) (old new : Point D) → Reads on.disks on.signers by n marks old new → Rests old → Rests new
  rests_reads zero marks old new same rests = subst Rests (sym same) rests
  rests_reads (suc n) marks old new h rests = rests_reads n (drop 1 marks) h.0 new h.2 (rests_one marks old h.0 h.1 rests)

  rests_looks : (pairs : List Seen) (old new : Point D) → LooksAll on.disks pairs old new → Rests old → Rests new
  rests_looks [] old new same rests = subst Rests (sym same) rests
  rests_looks (seen ∷ pairs) old new h rests = rests_looks pairs h.0 new h.2 (zero, h.1.adds.present)

  pub block_rests : (workers : ℕ) (asks : List BlockAsk) (old new : Point D) → IsBlock on.disks on.signers by workers asks old new
      → Ignores new.run.members new.present
  block_rests workers asks old new h =
      let last = h.finishes in
      rests_looks (seen_in last.news) last.rest new last.looks
      (rests_reads last.count (marks_of h.ready.present last.turns) last.ended last.rest last.reads (zero, last.has_run.ends.present))
