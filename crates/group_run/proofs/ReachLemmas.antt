-- Which places in a run a value reaches, where members read what turns left on its way, and where looks are noted.
use Rattle.std.proofs.Common.{◌≡◌, ◌∙◌, ⊎_elim, inl, inr, ℕ, Bool, true, false, MatchBool, List, [], ◌∷◌, ◌++◌, Option, None, Some, Result, Ok, Err, OnErr, OnOk, refl, sym, ap, subst, append_assoc}
use Rattle.std.proofs.lemmas.Option.{same_Some}
use Rattle.epoch_board.specs.declared.pairs.Seen.{Seen}
use Rattle.gd_disk.specs.declared.disks.Disk.{Ghosts as DiskGhosts}
use Rattle.gd_edges.specs.declared.draws.Draws.{Ghosts as DrawGhosts}
use Rattle.gd_edges.specs.declared.signers.Signer.{Ghosts as SignerGhosts}
use Rattle.group_terms.specs.Names.{Name}
use Rattle.group_terms.specs.declared.paths.Keyed.{Keyed}
use Rattle.group_model.specs.Answers.{ran_out}
use Rattle.group_model.specs.declared.entries.Answer.{Answer}
use Rattle.group_model.specs.declared.entries.Asked.TheVariants.{Keep, Now, Serve}
use Rattle.group_model.specs.declared.entries.Entry.{Entry}
use Rattle.group_peers.specs.Peers.{is_peer}
use Rattle.group_steps.specs.Devices.{keying}
use Rattle.group_steps.specs.Gets.{get, mail_to}
use Rattle.group_steps.specs.Questions.{IsLook, answer_pair}
use Rattle.group_steps.specs.Runs.{with_members}
use Rattle.group_steps.specs.Steps.{IsActing}
use Rattle.member_steps.specs.Acts.{Agrees, IsIgnoring}
use Rattle.member_steps.specs.Members.{Mail, Members}
use Rattle.member_steps.specs.Steps.{Gets, GoesMissing, IsKeeping, IsOld, TakesFourth, TakesReply}
use Rattle.member_steps.specs.Views.{View as MemberView, members_with}
use Rattle.member_store.specs.Stores.{Store, is_older}
use Rattle.server_steps.specs.Entries.{noted}
use Rattle.server_steps.specs.Reflects.{IsServerOf}
use Rattle.server_steps.specs.Serves.{GoesOn}
use Rattle.server_steps.specs.Views.{View as ServerView}
use Rattle.group_run.specs.Blocks.{Left, Looks, at_present, marked}
use Rattle.group_run.specs.Mails.{mail_since}
use Rattle.group_run.specs.Places.{Reaches, keys_of}
use Rattle.group_run.specs.Private.Afters.{AreTaking, HasReadLeft, HasStoppedLeft, ReadsMarked, StaysBeside}
use Rattle.register_workers.specs.LooksShown.{WasShown}
use Rattle.group_run.specs.Private.Kept.{IsWithin, members_at}
use Rattle.group_run.specs.Private.Lefts.{left_at}
use Rattle.group_run.specs.Private.Places.{ReachesFrom}
use Rattle.group_run.specs.Private.Sends.{IsSent}
use Rattle.group_run.specs.Views.{View}
use Rattle.group_run.specs.declared.lefts.LeftAt.{LeftAt}
use Rattle.group_run.specs.declared.reading.Read.{Read}
use Rattle.group_run.specs.declared.unread.Unread.{Unread}
use Rattle.group_run.proofs.AddLemmas.{IsAdded}
use Rattle.group_run.proofs.MailLemmas.{mail_after, mail_still}
use Rattle.group_run.proofs.MemberLemmas.{IsPlain, has_agreed, has_kept}
use Rattle.group_run.proofs.MoveLemmas.{added_sent, beside_plain, held_as, plain_step, rules_stay}

-- ---- memory

got_memory : (m : Name) (keyed : Keyed) (members : Members) (answer : Answer) (next : Members) → Gets m keyed members answer next → ran_out answer ≡ false
got_memory m keyed members answer next gets = ap ran_out gets.answers

-- no answer of a member who keeps says that memory ran out
pub kept_memory : {m : Name} {members : Members} {answer : Answer} {next : Members} → IsKeeping m members answer next → ran_out answer ≡ false
kept_memory {m} {members} {answer} {next} keeping =
    ⊎_elim
    (λ (missing : GoesMissing m members answer next). ap ran_out missing.answers)
    (λ (takes : TakesFourth m members answer next). by_store takes.peer.store takes.keyed _ takes.takes) keeping
  where
    by_store : (had : Option Store) (keyed : Keyed) (mid : Members) → TakesReply had m keyed mid answer next → ran_out answer ≡ false
    by_store None keyed mid gets = got_memory m keyed mid answer next gets
    by_store (Some store) keyed mid taken =
        elim (is_older store keyed) as (λ b. MatchBool b (IsOld store keyed mid answer next) (Gets m keyed mid answer next) → ran_out answer ≡ false) [
          | true ↦ λ old. ap ran_out old.answers
          | false ↦ λ gets. got_memory m keyed mid answer next gets
        ] taken

pub on_ok_then : {A E P Q : Type 0} (result : Result A E) → OnOk result P → (P → Q) → OnOk result Q
on_ok_then (Ok done) holds then = then holds
on_ok_then (Err why) holds then = tt

pub on_ok_both : {A E P Q S : Type 0} (result : Result A E) → OnOk result P → OnOk result Q → (P → Q → S) → OnOk result S
on_ok_both (Ok done) first second then = then first second
on_ok_both (Err why) first second then = tt

pub on_err_then : {A E P Q : Type 0} (result : Result A E) → OnErr result P → (P → Q) → OnErr result Q
on_err_then (Ok done) holds then = tt
on_err_then (Err why) holds then = then holds

module _ {D G R : Type 0} where
  -- what stays beside
  pub beside_as : {old new : ServerView D G R} {members now : Members} {entries more : List Entry} {held : View D G R} (view : held_as old members entries ≡ held)
      → new.rules ≡ held.server.rules → now.place ≡ members.place → ((name : Name) → is_peer now.all name ≡ is_peer members.all name)
      → (tail : List Entry) → more ≡ entries ++ tail → StaysBeside held (held_as new now more)
  beside_as {members = members} {now = now} {more = more} {held = held} view rules place peers tail grown = record {
    rules = rules_stay view rules place;
    peers = λ name. peers name ∙ ap (λ (held : View D G R). is_peer held.members.all name) view;
    more = tail;
    grown = grown ∙ ap (λ (held : View D G R). held.entries ++ tail) view;
  }

  -- the keys are the same
  pub same_keys : (draws : DrawGhosts R) (old new : View D G R) → GoesOn draws old.server new.server → (block : ℕ → List ℕ) (group : Name)
      → keys_of draws new block group ≡ keys_of draws old block group
  same_keys draws old new goes block group = λ i. keying (goes.signer i) (λ k. goes.blocks k i) block group

  pub goes_then : (draws : DrawGhosts R) {old mid new : ServerView D G R} → GoesOn draws old mid → GoesOn draws mid new → GoesOn draws old new
  goes_then draws first second = record { signer = second.signer ∙ first.signer; blocks = λ k. second.blocks k ∙ first.blocks k }

module _ {D G R : Type 0} (d : DiskGhosts D) (draws : DrawGhosts R) where
  -- ---- a look

  pub looked : (seen : Seen) {server : ServerView D G R} {members now : Members} {entries more : List Entry} {held : View D G R}
      → held_as server members entries ≡ held → IsAdded Now (answer_pair seen) (draws.place_of server.core.draws) entries more → now ≡ members
      → WasShown held.entries seen → Reaches d draws (Looks d seen) held (held_as server now more)
  looked seen {server} {members} {now} {entries} {more} view is_more same =
      let plain : IsPlain (answer_pair seen) = record { no_fault = refl; not_opened = refl; no_push = refl } in
      let entry = noted Now (answer_pair seen) (draws.place_of server.core.draws) in
      subst (λ (held : View D G R). WasShown held.entries seen → Reaches d draws (Looks d seen) held (held_as server now more)) view
      (λ shown point at.
      let run = with_members point.run point.present in (
        record { entries = more; run = run; present = point.present },
        record {
          adds = record {
            entry = entry;
            added = is_more.whole ∙ ap (λ (before : List Entry). before ++ entry ∷ []) at.served.entries;
            asked = refl;
            stepped = plain_step d draws (IsLook point.entries) Now server (answer_pair seen) run run refl plain (record {
              upto = shown.upto;
              later = shown.later;
              are = sym at.served.entries ∙ shown.are;
              answers = ap answer_pair shown.is;
              beside = beside_plain d draws server point.run.host (answer_pair seen) at.served.server plain;
              stays = refl;
            });
            present = refl;
            memory = refl;
          };
          pair = refl;
        },
        record { served = record { entries = refl; server = at.served.server }; present = at.present ∙ sym same },
      ))

module _ {D G R : Type 0} (d : DiskGhosts D) (g : SignerGhosts G) (draws : DrawGhosts R) where
  -- memory ran out, and nothing was read
  pub stops_still : {old new : ServerView D G R} {members now : Members} {entries more : List Entry} {held : View D G R} (place : LeftAt)
      → held_as old members entries ≡ held → new ≡ old → more ≡ entries → HasStoppedLeft d g draws place held (held_as new now more)
  stops_still {old} {new} {members} {now} {entries} {more} place view server same =
      subst (λ (held : View D G R). HasStoppedLeft d g draws place held (held_as new now more)) view (record {
        reads = λ left later block group there point at. (
          point,
          inl refl,
          record {
            entries = same ∙ at.served.entries;
            server = subst (λ (server : ServerView D G R). IsServerOf d draws server point.run.host) (sym server) at.served.server;
          },
        );
      })

  -- ---- the datagram at a place

  module _ (old : ServerView D G R) (was : MemberView) (unread : Unread) (entries : List Entry) (block : ℕ → List ℕ) (group : Name) (left : Left)
      (later : List Mail) where
    abbrev pub start : View D G R
    start = held_as old (members_at was entries unread) entries

    -- what is on its way once it was read
    abbrev pub rest : List Mail
    rest = later ++ mail_since entries unread.place unread.taken

    abbrev pub before : Members
    before = marked (left.own ∷ []) (members_with was (left.mail ∷ rest))

    abbrev pub ReadsTo : Bool → View D G R → Type 0
    ReadsTo out next = ReachesFrom d draws (left.mail ∷ later) later (ReadsMarked d g (keys_of draws start block group) out left.own) start next

    -- it is ignored
    pub reads_ignored : (now : MemberView) (more : List Entry) → more ≡ entries → IsIgnoring before (members_with now rest) → ReadsTo false (held_as old (members_at now more unread) more)
    reads_ignored now more same ignoring point at = (
      at_present point (members_with now rest),
      inl (
        members_with now rest,
        subst (λ (present : Members). IsIgnoring (marked (left.own ∷ []) present) (members_with now rest)) (sym at.present) ignoring,
        refl,
      ),
      record {
        served = record { entries = same ∙ at.served.entries; server = at.served.server };
        present = λ i. members_with now (later ++ mail_since (sym same i) unread.place unread.taken);
      },
    )

    -- the member answers it, and that is served
    pub reads_sent : IsWithin entries unread → (new : ServerView D G R) (now : MemberView) (more : List Entry) {m : Name} (out : Bool) (sent : IsSent d g draws now.all m old new entries more) → ran_out sent.answer ≡ out
        → (third : List ℕ) → Agrees m third before (members_with now rest) → ReadsTo out (held_as new (members_at now more unread) more)
    reads_sent within new now more {m} out sent memory third agrees point at =
        let made = sent.serves.each point.run.host at.served.server in
        let acted = members_with now rest in
        let entry = noted (Serve m sent.datagram) sent.answer (draws.place_of old.core.draws) in
        let members = get (Serve m sent.datagram) sent.answer acted in
        let same : sent.datagram ≡ third = same_Some sent.datagram third (sym sent.sent ∙ (has_agreed agrees).sent) in
        let mail : rest ++ mail_to m sent.answer ≡ later ++ mail_since more unread.place unread.taken =
        append_assoc later (mail_since entries unread.place unread.taken) (mail_to m sent.answer)
        ∙ ap (λ (mail : List Mail). later ++ mail) (sym (mail_after unread within (added_sent d g draws {held = start} refl sent))) in (
          record { entries = more; run = record { host = made.0; members = members }; present = members },
          inr (inl (
            m,
            sent.datagram,
            acted,
            subst (λ (third : List ℕ). Agrees m third (marked (left.own ∷ []) point.present) acted) (sym same)
                (subst (λ (present : Members). Agrees m third (marked (left.own ∷ []) present) acted) (sym at.present) agrees),
            record {
              entry = entry;
              added = sent.added ∙ ap (λ (before : List Entry). before ++ entry ∷ []) at.served.entries;
              asked = refl;
              stepped = record { answered = record { served = made.1.answered; gets = refl }; keeps = made.1.keeps; counts = made.1.counts };
              present = refl;
              memory = memory;
            },
          )),
          record { served = record { entries = refl; server = made.2 }; present = ap (members_with now) mail },
        )

    -- it went missing, or the member took its keys
    pub reads_kept : IsWithin entries unread → (now : MemberView) (more : List Entry) {m : Name} {answer : Answer} → IsAdded (Keep m) answer (draws.place_of old.core.draws) entries more
        → IsKeeping m before answer (members_with now rest) → ReadsTo false (held_as old (members_at now more unread) more)
    reads_kept within now more {m} {answer} is_more keeping point at =
        let acted = members_with now rest in
        let entry = noted (Keep m) answer (draws.place_of old.core.draws) in
        let plain = (has_kept keeping).plain in
        let is : IsKeeping m (marked (left.own ∷ []) point.present) answer acted =
        subst (λ (present : Members). IsKeeping m (marked (left.own ∷ []) present) answer acted) (sym at.present) keeping in (
          record { entries = more; run = record { host = point.run.host; members = acted }; present = acted },
          inr (inr (
            m,
            record {
              entry = entry;
              added = is_more.whole ∙ ap (λ (before : List Entry). before ++ entry ∷ []) at.served.entries;
              asked = refl;
              stepped = plain_step d draws (IsActing (IsKeeping m)) (Keep m) old answer (with_members point.run (marked (left.own ∷ []) point.present))
                  (record { host = point.run.host; members = acted }) refl plain (record {
                    acted = is;
                    beside = beside_plain d draws old point.run.host answer at.served.server plain;
                    stays = refl;
                  });
              present = refl;
              memory = kept_memory keeping;
            },
          )),
          record {
            served = record { entries = refl; server = at.served.server };
            present = ap (λ (mail : List Mail). members_with now (later ++ mail)) (sym (mail_still unread within is_more (record { none = refl })));
          },
        )

  -- ---- what became of it

  -- where it is known what was read, and of which entries
  pub takes_at : (was now : MemberView) {entries looked : List Entry} (place : LeftAt) {read : Read} (kind : Read) → looked ≡ entries → read ≡ kind
      → ((left : Left) (later : List Mail) → left_at looked place ≡ Some left
      → AreTaking read (marked (left.own ∷ []) (members_with was (left.mail ∷ later))) (members_with now later))
      → (left : Left) (later : List Mail) → left_at entries place ≡ Some left
      → AreTaking kind (marked (left.own ∷ []) (members_with was (left.mail ∷ later))) (members_with now later)
  takes_at was now place kind same is takes left later there =
      subst (λ read. AreTaking read (marked (left.own ∷ []) (members_with was (left.mail ∷ later))) (members_with now later)) is
      (takes left later (ap (λ entries. left_at entries place) same ∙ there))

  module _ (old : ServerView D G R) (was : MemberView) (unread : Unread) (entries : List Entry) {held next : View D G R} (place : LeftAt)
      (view : held_as old (members_at was entries unread) entries ≡ held) where
    pub has_read : StaysBeside held next
        → ((left : Left) (later : List Mail) (block : ℕ → List ℕ) (group : Name) → left_at entries place ≡ Some left
        → ReadsTo old was unread entries block group left later false next)
        → HasReadLeft d g draws place held next
    has_read beside reads = record {
      beside = beside;
      reads = subst (λ (held : View D G R). (left : Left) (later : List Mail) (block : ℕ → List ℕ) (group : Name) → left_at held.entries place ≡ Some left
          → ReachesFrom d draws (left.mail ∷ later) later (ReadsMarked d g (keys_of draws held block group) false left.own) held next) view reads;
    }

    pub has_stopped : ((left : Left) (later : List Mail) (block : ℕ → List ℕ) (group : Name) → left_at entries place ≡ Some left
        → ReadsTo old was unread entries block group left later true next)
        → HasStoppedLeft d g draws place held next
    has_stopped reads =
        subst (λ (held : View D G R). HasStoppedLeft d g draws place held next) view (record {
          reads = λ left later block group there point at.
              let made = reads left later block group there point at in
              (made.0, inr made.1, made.2.served);
        })
