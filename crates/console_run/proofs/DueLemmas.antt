-- Pushes that are given to all, one after the other.
use Rattle.std.proofs.Common.{◌≡◌, ℕ, ◌+◌, ◌-◌, ◌*◌, ◌<◌, true, false, cond, List, [], ◌∷◌, ◌++◌, map, length, Option, None, Some, Result, Ok, Err}
use Rattle.std.proofs.Common.{sym, refl, ap, ◌∙◌, subst, inl, inr, arith}
use Rattle.std.specs.Prelude.{IfErr, IfSome, MatchBool, MatchResult, OnOk, slice_get}
use Rattle.std.specs.Option.{option_map}
use Rattle.std.proofs.lemmas.Option.{slice_get-map, slice_get_within}
use Rattle.gd_edges.specs.Shown.{Shown}
use Rattle.gd_edges.specs.declared.draws.Draws.{Ghosts as DrawGhosts}
use Rattle.gd_edges.specs.declared.verifiers.Verifier.{Ghosts as VerifierGhosts}
use Rattle.group_terms.specs.Names.{Name}
use Rattle.group_model.specs.Places.{Holders, holders_of}
use Rattle.group_model.specs.Servers.{members_now, present_batches}
use Rattle.group_model.specs.declared.entries.Answer.{Answer}
use Rattle.group_model.specs.declared.entries.Asked.{Asked}
use Rattle.group_model.specs.declared.entries.Asked.TheVariants as requests
use Rattle.group_model.specs.declared.entries.Entry.{Entry}
use Rattle.group_peers.specs.Peers.{is_named, store_of}
use Rattle.group_peers.specs.declared.members.Peer.{Peer}
use Rattle.group_run.specs.Deliveries.{ComesAfter, IsFirstDue, NoneIsDue}
use Rattle.group_run.specs.Reads.{Ask}
use Rattle.group_run.specs.Reflects.{Reflects}
use Rattle.group_run.specs.Stays.{MailStays, RulesStay}
use Rattle.group_run.specs.Views.{View}
use Rattle.group_run.specs.declared.deliveries.Delivery.{Delivery}
use Rattle.server_steps.specs.Hosts.{Host}
use Rattle.member_store.specs.Stores.{Store}
use Rattle.member_steps.specs.Members.{Members}
use Rattle.member_steps.specs.Steps.{Gives, IsDelivery}
use Rattle.group_steps.specs.Runs.{Run, with_members}
use Rattle.group_steps.specs.Steps.{push_sent}
use Rattle.script_text.specs.declared.lines.Line.TheVariants as lines
use Rattle.run_report.specs.declared.stops.Stop.{Stop}
use Rattle.run_report.specs.declared.stops.Stop.TheVariants.{Memory}
use Rattle.group_steps.specs.Devices.{Devices, Keying}
use Rattle.console_run.specs.Names.{console_name}
use Rattle.console_run.specs.Lines.{IsAnsweredHere, IsGivenAfter, Asks, AsksNext, GivesWhatIsDue, WasGivenLast}
use Rattle.console_run.specs.Private.Asks.{Answers, StopsIn}
use Rattle.console_run.specs.Private.Runs.{Drawing, drawing, Runs, Stands, by_line}
use Rattle.console_run.proofs.ActLemmas.{ignores_all, ignores_none}
use Rattle.console_run.proofs.AskLemmas.{Answers-by, Going, Going-more, Going-none, IsReported, IsStopped, MovesBy, Runs-all, Stops-more, Stops-unasked}
use Rattle.console_run.proofs.AskLemmas.{asks_later}

-- ---- how many deliveries there may be yet

-- the places of deliveries by members and numbers of 32 bits
abbrev pub left_after : ℕ → Option Delivery → ℕ
left_after peers None = (peers + 1) * 4294967296
left_after peers (Some last) = (peers + 1) * 4294967296 - (last.place * 4294967296 + last.number + 1)

-- the last number has 32 bits
abbrev pub IsSmall : Option Delivery → Type 0
IsSmall last = IfSome last (λ delivery. delivery.number < 4294967296)

nearer : (peers : ℕ) (last : Option Delivery) (delivery : Delivery) → IsSmall last → ComesAfter last delivery → delivery.place < peers
    → delivery.number < 4294967296 → left_after peers (Some delivery) < left_after peers last
nearer peers None delivery small after within number = omega arith
nearer peers (Some last) delivery small after within number = elim after [
  | inl place ↦ omega (arith, place, small)
  | inr same ↦ omega (arith, same.0, same.1, small)
]

pub fewer_due : (holders : Holders) (peers now : List Peer) (before : List Entry) (last : Option Delivery) (delivery : Delivery) → IsSmall last
    → IsFirstDue holders peers before last delivery → length now ≡ length peers → delivery.number < 4294967296
    → left_after (length now) (Some delivery) < left_after (length peers) last
fewer_due holders peers now before last delivery small first long number =
    subst (λ n. left_after n (Some delivery) < left_after (length peers) last) (sym long)
    (nearer (length peers) last delivery small first.after (slice_get_within peers delivery.place first.due.peer first.due.is_there) number)

-- nothing is asked
abbrev IsNone : Option Ask → Type 0
IsNone next = next ≡ None

-- ---- what a delivery leaves

-- each member has its place
abbrev KeepsPlaces : Members → Members → Type 0
KeepsPlaces members next =
    (place : ℕ) (peer : Peer) → slice_get members.all place ≡ Some peer
    → (now : Peer) × (slice_get next.all place ≡ Some now) × (now.phase.member ≡ peer.phase.member)

-- and nothing more is on its way
abbrev KeepsMail : Members → Members → Type 0
KeepsMail members next = KeepsPlaces members next × (next.mail ≡ members.mail)

module _ (members next : Members) where
  places_same : next ≡ members → KeepsMail members next
  places_same same = (
    subst (λ next. KeepsPlaces members next) (sym same) (λ place peer there. (peer, there, refl)),
    ap (λ (members : Members). members.mail) same,
  )

  places_changed : (change : Peer → Peer) → ((peer : Peer) → (change peer).phase.member ≡ peer.phase.member)
      → next ≡ record members { all = map change members.all } → KeepsMail members next
  places_changed change named same = (
    subst (λ next. KeepsPlaces members next) (sym same)
        (λ place peer there. (change peer, slice_get-map change members.all place ∙ ap (option_map change) there, named peer)),
    ap (λ (members : Members). members.mail) same,
  )

  module _ {V : Type 0} (v : VerifierGhosts V) (verifier : V) (m : Name) (answer : Answer) where
    given_one : (store : Option Store) (push : Option (List ℕ)) → Gives v verifier store push m members answer next → KeepsMail members next
    given_one None push gives = places_same gives.1
    given_one (Some store) None gives = places_same gives.1
    given_one (Some store) (Some datagram) gives =
        places_changed (λ (peer : Peer). cond (is_named m peer) (record peer { store = Some gives.now }) peer)
        (λ peer. elim (is_named m peer) as
        (λ b. (cond b (record peer { store = Some gives.now }) peer).phase.member ≡ peer.phase.member) [ true ↦ refl | false ↦ refl ])
        gives.after

    places_given : (push : Option (List ℕ)) → IsDelivery v verifier m push members answer next → KeepsMail members next
    places_given push gives = given_one (store_of members.all m) push gives

-- ---- the whole line

-- the line asks for no draws of members, so any are as good
abbrev pub no_draws : Drawing
no_draws = drawing 0 (λ k. [])

module _ {D G V R : Type 0} (on : Devices D G V) (draws : DrawGhosts R) (peers : Drawing) where
  -- nothing is on its way once something was given
  abbrev IsStill : Option Delivery → Run D → Type 0
  IsStill None run = Unit {0}
  IsStill (Some last) run = run.members.mail ≡ []

  -- the server does not have to be opened again, and this was given last
  abbrev pub goes_on : Option Delivery → List Entry → Run D → Type 0
  goes_on last more run = (run.host.server.needs_reopen ≡ false) × WasGivenLast run.members.all more last × IsStill last run

  -- pushes were given so far, and reported
  pub record IsGiving (last : Option Delivery) (old now : View D G R) (was seen : Shown) : Type 0 where
    pub more : List Entry
    pub going : Going on draws peers lines.DeliverAll (goes_on last) more old now was seen
    pub small : IsSmall last
    pub rest : now.members.mail ≡ []
    pub stays : RulesStay old now

  -- nothing was given yet
  pub giving_begins : (old : View D G R) (was : Shown) → old.members.mail ≡ [] → old.server.core.needs_reopen ≡ false → IsGiving None old old was was
  giving_begins old was rest needs_reopen = record {
    more = [];
    going = Going-none on draws peers lines.DeliverAll (goes_on None) old was
        (λ run reflects. (sym reflects.server.stands.needs_reopen ∙ needs_reopen, refl, tt));
    small = tt;
    rest = rest;
    stays = record { rules = refl; place = refl };
  }

  module _ (last : Option Delivery) (old middle new : View D G R) (was seen now : Shown) (giving : IsGiving last old middle was seen) where
    abbrev more : List Entry
    more = giving.more

    -- what the group has is what the run has
    of_run : (P : Holders → List Peer → List Entry → Type 0) (run : Run D) → Reflects on.disks draws middle run
        → P middle.server.core.tree.holders middle.members.all middle.entries → P (members_now run.host.server) middle.members.all (old.entries ++ more)
    of_run P run reflects h =
        let stands = reflects.server.stands in
        let holders : middle.server.core.tree.holders ≡ members_now run.host.server =
        stands.tree.holders ∙ ap (λ depth. holders_of depth (present_batches run.host.server)) stands.tree_depth in
        subst (λ holders. P holders middle.members.all (old.entries ++ more)) holders
        (subst (λ entries. P middle.server.core.tree.holders middle.members.all entries) giving.going.grown h)

    -- what is due to the members of the group, a line asks where the server goes on
    asks_due : (last : Option Delivery) (next : Option Ask) (run : Run D) → Reflects on.disks draws middle run → goes_on last more run
        → GivesWhatIsDue peers.block console_name run old.entries more middle.members next
        → AsksNext peers.block console_name run old.entries more lines.DeliverAll next
    asks_due None next run reflects kept due =
        subst (λ so_far. AsksNext peers.block console_name run old.entries so_far lines.DeliverAll next) (sym kept.1) (
          middle.members,
          (reflects.members, giving.rest),
          subst (λ needs_reopen. MatchBool needs_reopen (Asks requests.DeliverAll middle.members next)
              (GivesWhatIsDue peers.block console_name run old.entries [] middle.members next)) (sym kept.0)
              (subst (λ so_far. GivesWhatIsDue peers.block console_name run old.entries so_far middle.members next) kept.1 due),
        )
    asks_due (Some last) next run reflects kept due =
        let front = kept.1.0 in
        let entry = kept.1.1 in
        let is = kept.1.2 in
        let same : middle.members ≡ run.members = ignores_none reflects.members.0 run.members middle.members reflects.members.1 kept.2 in
        subst (λ so_far. AsksNext peers.block console_name run old.entries so_far lines.DeliverAll next) (sym is)
        (asks_later lines.DeliverAll peers.block console_name run old.entries front entry next
        (subst (λ needs_reopen. MatchBool needs_reopen (IsNone next)
        (GivesWhatIsDue peers.block console_name run old.entries (front ++ entry ∷ []) run.members next)) (sym kept.0)
        (subst (λ so_far. GivesWhatIsDue peers.block console_name run old.entries so_far run.members next) is
        (subst (λ members. GivesWhatIsDue peers.block console_name run old.entries more members next) same due))))

    -- this was given last, as the members of the group say
    was_given : (run : Run D) → Reflects on.disks draws middle run → goes_on last more run → WasGivenLast middle.members.all more last
    was_given run reflects kept =
        subst (λ all. WasGivenLast all more last) (sym (ignores_all reflects.members.0 run.members middle.members reflects.members.1)) kept.1

    pub ungiven : new ≡ middle → StopsIn on draws peers lines.DeliverAll Memory old new was seen
    ungiven same =
        Stops-unasked on draws peers lines.DeliverAll (goes_on last) more old middle was seen giving.going new
        (ap (λ (held : View D G R). held.server) same) (ap (λ (held : View D G R). held.entries) same)

    pub all_given : NoneIsDue middle.server.core.tree.holders middle.members.all middle.entries last
        → Runs on.disks draws peers (by_line on lines.DeliverAll) old middle was seen
    all_given all =
        Runs-all on draws peers lines.DeliverAll (goes_on last) more old middle was seen giving.going
        (λ run reflects kept. asks_due last None run reflects kept
        (last, was_given run reflects kept, inl (refl, of_run (λ holders peers before. NoneIsDue holders peers before last) run reflects all)))

    module _ (delivery : Delivery) (first : IsFirstDue middle.server.core.tree.holders middle.members.all middle.entries last delivery)
        (moves : MovesBy on draws peers middle new middle.members (requests.Deliver delivery.member delivery.number)) where
      abbrev request : Asked
      request = requests.Deliver delivery.member delivery.number

      answers : Answers on draws peers middle.members request middle new
      answers = Answers-by on draws peers middle new middle.members request moves

      asks : (run : Run D) → Reflects on.disks draws middle run → goes_on last more run
          → AsksNext peers.block console_name run old.entries more lines.DeliverAll (Some (request, middle.members))
      asks run reflects kept =
          asks_due last (Some (request, middle.members)) run reflects kept (
            last,
            was_given run reflects kept,
            inr (delivery, refl, of_run (λ holders peers before. IsFirstDue holders peers before last delivery) run reflects first),
          )

      given : (by : Keying G) (run next : Run D) → Stands on.disks draws peers by middle run → goes_on last more run
          → IsGivenAfter on by middle.members middle.entries run answers.entry next → goes_on (Some delivery) (more ++ answers.entry ∷ []) next
      given by run next stands kept step =
          let acts = subst
          (λ asked. IsAnsweredHere on by middle.entries asked (with_members run middle.members) answers.entry.answer answers.entry.outside next)
          answers.asked step.answered in
          let keeps = places_given middle.members next.members on.verifiers on.verifier delivery.member answers.entry.answer
          (push_sent middle.entries delivery.number) acts.acted in
          let due = first.due in
          let there = keeps.0 delivery.place due.peer due.is_there in (
            ap (λ (host : Host D). host.server.needs_reopen) acts.stays ∙ kept.0,
            (more, answers.entry, refl, answers.asked, there.0, there.1, due.named ∙ sym there.2),
            keeps.1 ∙ giving.rest,
          )

      pub given_next : delivery.number < 4294967296 → MailStays middle new → IsReported on draws peers middle new seen now
          → IsGiving (Some delivery) old new was now
      given_next number stays reported =
          let told = reported middle.entries answers.entry answers.added in
          record {
            more = more ++ answers.entry ∷ [];
            going = Going-more on draws peers lines.DeliverAll (goes_on last) more old middle was seen giving.going new middle.members request answers asks
                (goes_on (Some delivery)) now given told.0 told.1;
            small = number;
            rest = stays.mail ∙ giving.rest;
            stays = record { rules = stays.rules_stay.rules ∙ giving.stays.rules; place = stays.rules_stay.place ∙ giving.stays.place };
          }

      pub stopped_at_delivery : (stop : Stop) → IsStopped on draws peers middle new seen now stop → StopsIn on draws peers lines.DeliverAll stop old new was now
      stopped_at_delivery stop stopped =
          Stops-more on draws peers lines.DeliverAll (goes_on last) more old middle was seen giving.going new middle.members request answers asks now stop
          (stopped middle.entries answers.entry answers.added)

  -- the server has to be opened again
  module _ (old new : View D G R) (was now : Shown) (rest : old.members.mail ≡ []) (needs_reopen : old.server.core.needs_reopen ≡ true) where
    abbrev stopped : List Entry → Run D → Type 0
    stopped _ run = run.host.server.needs_reopen ≡ true

    none : Going on draws peers lines.DeliverAll stopped [] old old was was
    none = Going-none on draws peers lines.DeliverAll stopped old was (λ run reflects. sym reflects.server.stands.needs_reopen ∙ needs_reopen)

    asks_all : (run : Run D) → Reflects on.disks draws old run → run.host.server.needs_reopen ≡ true
        → AsksNext peers.block console_name run old.entries [] lines.DeliverAll (Some (requests.DeliverAll, old.members))
    asks_all run reflects needs_reopen = (
      old.members,
      (reflects.members, rest),
      subst (λ needs_reopen. MatchBool needs_reopen (Asks requests.DeliverAll old.members (Some (requests.DeliverAll, old.members)))
          (GivesWhatIsDue peers.block console_name run old.entries [] old.members (Some (requests.DeliverAll, old.members)))) (sym needs_reopen) refl,
    )

    module _ (moves : MovesBy on draws peers old new old.members requests.DeliverAll) where
      answers_all : Answers on draws peers old.members requests.DeliverAll old new
      answers_all = Answers-by on draws peers old new old.members requests.DeliverAll moves

      asks_no_more : (run : Run D) → run.host.server.needs_reopen ≡ true
          → AsksNext peers.block console_name run old.entries (answers_all.entry ∷ []) lines.DeliverAll None
      asks_no_more run needs_reopen =
          asks_later lines.DeliverAll peers.block console_name run old.entries [] answers_all.entry None
          (subst (λ needs_reopen. MatchBool needs_reopen (IsNone None)
          (GivesWhatIsDue peers.block console_name run old.entries (answers_all.entry ∷ []) run.members None)) (sym needs_reopen) refl)

      Runs-refused : IsReported on draws peers old new was now → Runs on.disks draws peers (by_line on lines.DeliverAll) old new was now
      Runs-refused reported =
          let told = reported old.entries answers_all.entry answers_all.added in
          Runs-all on draws peers lines.DeliverAll stopped (answers_all.entry ∷ []) old new was now
          (Going-more on draws peers lines.DeliverAll stopped [] old old was was none new old.members requests.DeliverAll answers_all asks_all stopped now
          (λ by run next stands kept step.
          let answered = subst
          (λ asked. IsAnsweredHere on by old.entries asked (with_members run old.members) answers_all.entry.answer answers_all.entry.outside next)
          answers_all.asked step.answered in
          ap (λ (host : Host D). host.server.needs_reopen) answered.served.says.stays ∙ kept)
          told.0 told.1)
          (λ run reflects kept. asks_no_more run kept)

      pub Ends-refused : (result : Result Unit Stop) → OnOk result (IsReported on draws peers old new was now)
          → IfErr result (IsStopped on draws peers old new was now)
          → MatchResult result (λ _. Runs on.disks draws peers (by_line on lines.DeliverAll) old new was now)
          (λ stop. StopsIn on draws peers lines.DeliverAll stop old new was now)
      Ends-refused (Ok u) reported h = Runs-refused reported
      Ends-refused (Err stop) reported h =
          Stops-more on draws peers lines.DeliverAll stopped [] old old was was none new old.members requests.DeliverAll answers_all asks_all now stop
          (h old.entries answers_all.entry answers_all.added)
