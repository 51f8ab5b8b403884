-- What a request does to a group, from what it does to its server, or to its members.
-- One lemma serves all requests that the server serves (`serves`), one all that members do (`acts`), one questions (`asks`).
use Rattle.std.proofs.Common.{◌≡◌, ◌∙◌, ℕ, zero, Bool, List, Decides, None, Some, refl, sym, ap, subst, arith}
use Rattle.std.proofs.lemmas.Option.{same_Some}
use Rattle.gd_disk.specs.Moments.{Keeps}
use Rattle.gd_disk.specs.declared.disks.Disk.{Ghosts as DiskGhosts}
use Rattle.gd_edges.specs.declared.draws.Draws.{Ghosts as DrawGhosts}
use Rattle.gd_edges.specs.declared.signers.Signer.{Ghosts as SignerGhosts}
use Rattle.group_terms.specs.Names.{Name}
use Rattle.group_terms.specs.declared.keys.KeyName.TheVariants.{Traffic}
use Rattle.group_terms.specs.declared.patterns.Rule.{Rule}
use Rattle.group_terms.specs.declared.phases.Phase1.{Phase1}
use Rattle.group_model.specs.Derivations.{CanDerive, held_names, pairs_sent}
use Rattle.group_model.specs.declared.entries.Answer.{Answer}
use Rattle.group_model.specs.declared.entries.Answer.TheVariants.{Derived, Done}
use Rattle.group_model.specs.declared.entries.Asked.{Asked}
use Rattle.group_model.specs.declared.entries.Asked.TheVariants.{AddRule, Again, Derive, Introduce, Keep, Serve, Now}
use Rattle.group_model.specs.declared.entries.Entry.{Entry}
use Rattle.group_model.specs.declared.entries.Outside.{Outside}
use Rattle.server_steps.specs.Disks.{Counts}
use Rattle.server_steps.specs.Entries.{beside, noted}
use Rattle.server_steps.specs.Hosts.{Host}
use Rattle.server_steps.specs.Outsides.{quiet}
use Rattle.server_steps.specs.Reflects.{IsServerOf}
use Rattle.server_steps.specs.Serves.{Serves as ServerServes}
use Rattle.server_steps.specs.Views.{View as ServerView}
use Rattle.group_peers.specs.Peers.{sent_by}
use Rattle.group_peers.specs.declared.members.Peer.{Peer}
use Rattle.member_steps.specs.Acts.{Agrees, Ignores}
use Rattle.member_steps.specs.Members.{Members}
use Rattle.member_steps.specs.Steps.{HasSentNothing, IsKeeping}
use Rattle.member_steps.specs.Views.{View as MemberView, members_with}
use Rattle.group_steps.specs.Gets.{get}
use Rattle.group_steps.specs.Questions.{IsMark, IsQuestion, answer_pair}
use Rattle.group_steps.specs.Shows.{pairs_shown}
use Rattle.epoch_board.specs.Pairs.{last_pair}
use Rattle.epoch_board.specs.declared.pairs.Seen.{Seen}
use Rattle.group_run.specs.Looks.{ShowsLast}
use Rattle.group_steps.specs.Runs.{Run, with_members}
use Rattle.group_steps.specs.Steps.{IsActing, IsStepBy}
use Rattle.group_run.specs.Moves.{Acts, Moves, Serves}
use Rattle.group_run.specs.Pulls.{SendsAgain}
use Rattle.group_run.specs.Reads.{ReadsMail}
use Rattle.group_run.specs.Stays.{AddsRule, MailStays, RulesStay, TakesRule}
use Rattle.group_run.specs.Tells.{KeepsNext, SendsNext}
use Rattle.group_run.specs.Private.Kept.{IsWithin, members_at}
use Rattle.group_run.specs.Private.Sends.{IsSent}
use Rattle.group_run.specs.Views.{View}
use Rattle.group_run.specs.declared.unread.Unread.{Unread}
use Rattle.group_run.proofs.AddLemmas.{IsAdded}
use Rattle.group_run.proofs.MailLemmas.{mail_after}
use Rattle.group_run.proofs.MemberLemmas.{IsPlain, asks_keep, asks_third, has_agreed, has_kept}
use Rattle.group_run.proofs.ServedLemmas.{IsQuiet, introduced_rules, rule_taken, served_stays}

module _ {D G R : Type 0} where
  -- a group that is held so
  abbrev pub held_as : ServerView D G R → Members → List Entry → View D G R
  held_as server members entries = record { server = server; members = members; entries = entries }

module _ {D G R : Type 0} (d : DiskGhosts D) (g : SignerGhosts G) (draws : DrawGhosts R) {old new : ServerView D G R} {members now : Members}
    {entries more : List Entry} {held : View D G R} (request : Asked) (answer : Answer) (view : held_as old members entries ≡ held)
    (is_more : IsAdded request answer (draws.place_of old.core.draws) entries more) (done : ServerServes d g draws request answer old new) where
  -- it served the request of members who acted so, and they get what it sends
  pub serves_by : (acted : Members) → now ≡ get request answer acted → Serves d g draws acted request held (held_as new now more)
  serves_by acted is =
      subst (λ held. Serves d g draws acted request held (held_as new now more)) view (record {
        entry = noted request answer (draws.place_of old.core.draws);
        added = is_more.whole;
        asked = refl;
        goes_on = done.goes_on;
        each = λ run reflects.
            let made = done.each run.host reflects.server in (
              record { host = made.0; members = get request answer acted },
              record { answered = record { served = made.1.answered; gets = refl }; keeps = made.1.keeps; counts = made.1.counts },
              record { server = made.2; members = (zero, is) },
            );
      })

  -- members did nothing before
  pub serves : now ≡ get request answer members → Serves d g draws held.members request held (held_as new now more)
  serves is =
      serves_by held.members (is ∙ ap (λ (held : View D G R). get request answer held.members) view)

module _ {D G R : Type 0} (d : DiskGhosts D) (g : SignerGhosts G) (draws : DrawGhosts R) {old new : ServerView D G R} (answer : Answer) (host : Host D)
    (is_on : IsServerOf d draws old host) where
  -- the rules stay
  pub rules_quiet : (request : Asked) → IsQuiet request → ServerServes d g draws request answer old new → {members : Members} {entries : List Entry}
      {held : View D G R} → held_as old members entries ≡ held → new.rules ≡ held.server.rules
  rules_quiet request is_quiet done view =
      let made = done.each host is_on in
      sym made.2.rules
      ∙ (served_stays d g old.core.signer (draws.block_at old.core.draws) host answer (noted request answer (draws.place_of old.core.draws)).outside made.0 request
      is_quiet made.1.answered).rules
      ∙ is_on.rules ∙ ap (λ (held : View D G R). held.server.rules) view

  -- a rule is added, by this answer
  pub takes_rule : (rule : Rule) → ServerServes d g draws (AddRule rule) answer old new → TakesRule answer rule old.rules new.rules
  takes_rule rule done =
      let made = done.each host is_on in
      subst (λ rules. TakesRule answer rule rules new.rules) is_on.rules
      (subst (λ rules. TakesRule answer rule host.rules rules) made.2.rules
      (rule_taken d g old.core.signer (draws.block_at old.core.draws) host answer (noted (AddRule rule) answer (draws.place_of old.core.draws)).outside made.0 rule
      made.1.answered))

  -- an introduction leaves the rules
  pub rules_introduced : (phase : Phase1) → ServerServes d g draws (Introduce phase) answer old new → new.rules ≡ old.rules
  rules_introduced phase done =
      let made = done.each host is_on in
      sym made.2.rules
      ∙ introduced_rules d g old.core.signer (draws.block_at old.core.draws) host answer
      (noted (Introduce phase) answer (draws.place_of old.core.draws)).outside made.0 phase made.1.answered
      ∙ is_on.rules

pub rules_as : {D G R : Type 0} {old : ServerView D G R} {members : Members} {entries : List Entry} {held : View D G R} → held_as old members entries ≡ held
    → old.rules ≡ held.server.rules
rules_as {D} {G} {R} view = ap (λ (held : View D G R). held.server.rules) view

-- the entry of a rule says what became of it
pub adds_rule : {D G R : Type 0} {old new : ServerView D G R} {members now : Members} {entries more : List Entry} {held : View D G R} {answer : Answer}
    {place : ℕ} (rule : Rule) → held_as old members entries ≡ held → IsAdded (AddRule rule) answer place entries more
    → TakesRule answer rule old.rules new.rules → AddsRule rule held (held_as new now more)
adds_rule {D} {G} {R} {new = new} {now = now} {more = more} {answer = answer} {place = place} rule view is taken =
    subst (λ (held : View D G R). AddsRule rule held (held_as new now more)) view (record {
      entry = noted (AddRule rule) answer place;
      added = is.whole;
      takes = taken;
    })

-- and so do the place, and what is on its way
module _ {D G R : Type 0} {old new : ServerView D G R} {members now : Members} {entries more : List Entry} {held : View D G R}
    (view : held_as old members entries ≡ held) where
  pub rules_stay : new.rules ≡ held.server.rules → now.place ≡ members.place → RulesStay held (held_as new now more)
  rules_stay rules place = record { rules = rules; place = place ∙ ap (λ (held : View D G R). held.members.place) view }

  pub mail_stays : new.rules ≡ held.server.rules → now.place ≡ members.place → now.mail ≡ members.mail → MailStays held (held_as new now more)
  mail_stays rules place mail = record {
    rules_stay = rules_stay rules place;
    mail = mail ∙ ap (λ (held : View D G R). held.members.mail) view;
  }

-- ---- the host stays

module _ {D G R : Type 0} (d : DiskGhosts D) (draws : DrawGhosts R) where
  pub beside_plain : (server : ServerView D G R) (host : Host D) (answer : Answer) → IsServerOf d draws server host → IsPlain answer
      → beside answer (draws.place_of server.core.draws) ≡ quiet host
  beside_plain server host answer is plain i = record {
    disk_failed = plain.no_fault i;
    found = plain.not_opened i;
    place = is.stands.place i;
  }

  pub plain_step : (step : Run D → Answer → Outside → Run D → Type 0) (request : Asked) (server : ServerView D G R) (answer : Answer) (run next : Run D)
      → next.host ≡ run.host → IsPlain answer → step run answer (beside answer (draws.place_of server.core.draws)) next
      → IsStepBy d step run (noted request answer (draws.place_of server.core.draws)) next
  plain_step step request server answer run next same plain answered = record {
    answered = answered;
    keeps = subst (λ (host : Host D). Keeps d run.host.disk host.disk) (sym same)
        (record { honest = refl; exposed = (λ some. some, λ some. some); counted = omega arith });
    counts = subst (λ (at : Bool × Host D). Counts d at.0 run.host.disk at.1.disk) (λ i. (sym plain.no_fault i, sym same i)) refl;
  }

  -- members act, once they are these
  pub acts_by : (does : View D G R → Members → Answer → Members → Type 0) (request : Asked) (answer : Answer) {server : ServerView D G R} {members now : Members}
      {entries more : List Entry} {held : View D G R} (acted : Members) → held_as server members entries ≡ held
      → IsAdded request answer (draws.place_of server.core.draws) entries more → IsPlain answer
      → does (held_as server members entries) acted answer now → Acts d draws (does held) acted request held (held_as server now more)
  acts_by does request answer {server} {members} {now} {entries} {more} acted view is_more plain done =
      subst (λ held. Acts d draws (does held) acted request held (held_as server now more)) view (record {
        entry = noted request answer (draws.place_of server.core.draws);
        added = is_more.whole;
        asked = refl;
        goes_on = record { signer = refl; blocks = λ k. refl };
        each = λ run reflects. (
          record { host = run.host; members = now },
          plain_step (IsActing (does (held_as server members entries))) request server answer (with_members run acted)
              (record { host = run.host; members = now }) refl plain (record {
                acted = done;
                beside = beside_plain server run.host answer reflects.server plain;
                stays = refl;
              }),
          record { server = reflects.server; members = (zero, refl) },
        );
      })

  -- members did nothing before
  pub acts : (does : View D G R → Members → Answer → Members → Type 0) (request : Asked) (answer : Answer) {server : ServerView D G R} {members now : Members}
      {entries more : List Entry} {held : View D G R} → held_as server members entries ≡ held
      → IsAdded request answer (draws.place_of server.core.draws) entries more → IsPlain answer
      → does (held_as server members entries) members answer now → Acts d draws (does held) held.members request held (held_as server now more)
  acts does request answer {server} {members} {now} {entries} {more} view is_more plain done =
      subst (λ held. Acts d draws (does held) held.members request held (held_as server now more)) view
      (acts_by does request answer members refl is_more plain done)

  -- and the members after it are the same as these
  pub acts_then : (does : View D G R → Members → Answer → Members → Type 0) (request : Asked) (answer : Answer) {server : ServerView D G R}
      {members done now : Members} {entries more : List Entry} {held : View D G R} → held_as server members entries ≡ held
      → IsAdded request answer (draws.place_of server.core.draws) entries more → IsPlain answer → now ≡ done
      → does (held_as server members entries) members answer done → Acts d draws (does held) held.members request held (held_as server now more)
  acts_then does request answer {server} {members} {done} {now} {entries} {more} {held} view is_more plain same acted =
      acts does request answer view is_more plain (subst (does (held_as server members entries) members answer) (sym same) acted)

  -- a question is answered
  pub asks : (epoch : ℕ) (names : List Name) (derives : Bool) {server : ServerView D G R} {members now : Members} {entries more : List Entry} {held : View D G R}
      → held_as server members entries ≡ held → IsAdded (Derive epoch names) (Derived derives) (draws.place_of server.core.draws) entries more → now ≡ members
      → Decides derives (CanDerive (held_names entries names) (pairs_sent entries) (Traffic epoch))
      → Moves d draws (IsQuestion held.entries epoch names) held.members (Derive epoch names) held (held_as server now more)
  asks epoch names derives {server} {members} {now} {entries} {more} view is_more same holds =
      let plain : IsPlain (Derived derives) = record { no_fault = refl; not_opened = refl; no_push = refl } in
      subst (λ held. Moves d draws (IsQuestion held.entries epoch names) held.members (Derive epoch names) held (held_as server now more)) view (record {
        entry = noted (Derive epoch names) (Derived derives) (draws.place_of server.core.draws);
        added = is_more.whole;
        asked = refl;
        goes_on = record { signer = refl; blocks = λ k. refl };
        each = λ run reflects. (
          with_members run members,
          plain_step (IsQuestion entries epoch names) (Derive epoch names) server (Derived derives) (with_members run members) (with_members run members) refl
              plain (record {
                yes = derives;
                decides = holds;
                answers = refl;
                beside = beside_plain server run.host (Derived derives) reflects.server plain;
                stays = refl;
              }),
          record { server = reflects.server; members = (zero, same) },
        );
      })

  -- a look shows what these entries showed last
  pub looks : (seen : Seen) {server : ServerView D G R} {members now : Members} {entries more : List Entry} {held : View D G R}
      → held_as server members entries ≡ held → IsAdded Now (answer_pair seen) (draws.place_of server.core.draws) entries more → now ≡ members
      → seen ≡ last_pair (pairs_shown entries)
      → Moves d draws (ShowsLast held.entries) held.members Now held (held_as server now more)
  looks seen {server} {members} {now} {entries} {more} view is_more same is =
      let plain : IsPlain (answer_pair seen) = record { no_fault = refl; not_opened = refl; no_push = refl } in
      subst (λ held. Moves d draws (ShowsLast held.entries) held.members Now held (held_as server now more)) view (record {
        entry = noted Now (answer_pair seen) (draws.place_of server.core.draws);
        added = is_more.whole;
        asked = refl;
        goes_on = record { signer = refl; blocks = λ k. refl };
        each = λ run reflects. (
          with_members run members,
          plain_step (ShowsLast entries) Now server (answer_pair seen) (with_members run members) (with_members run members) refl
              plain (record {
                answers = ap answer_pair is;
                beside = beside_plain server run.host (answer_pair seen) reflects.server plain;
                stays = refl;
              }),
          record { server = reflects.server; members = (zero, same) },
        );
      })

  -- a mark is noted
  pub marks : (request : Asked) {server : ServerView D G R} {members now : Members} {entries more : List Entry} {held : View D G R}
      → held_as server members entries ≡ held → IsAdded request Done (draws.place_of server.core.draws) entries more → now ≡ members
      → Moves d draws IsMark held.members request held (held_as server now more)
  marks request {server} {members} {now} {entries} {more} view is_more same =
      let plain : IsPlain Done = record { no_fault = refl; not_opened = refl; no_push = refl } in
      subst (λ held. Moves d draws IsMark held.members request held (held_as server now more)) view (record {
        entry = noted request Done (draws.place_of server.core.draws);
        added = is_more.whole;
        asked = refl;
        goes_on = record { signer = refl; blocks = λ k. refl };
        each = λ run reflects. (
          with_members run members,
          plain_step IsMark request server Done (with_members run members) (with_members run members) refl
              plain (record {
                answers = refl;
                beside = beside_plain server run.host Done reflects.server plain;
                stays = refl;
              }),
          record { server = reflects.server; members = (zero, same) },
        );
      })

-- ---- a member's datagram is served

module _ {D G R : Type 0} (d : DiskGhosts D) (g : SignerGhosts G) (draws : DrawGhosts R) {old new : ServerView D G R} {members : Members}
    {entries more : List Entry} {held : View D G R} (view : held_as old members entries ≡ held) {peers : List Peer} {m : Name}
    (sent : IsSent d g draws peers m old new entries more) where
  pub added_sent : IsAdded (Serve m sent.datagram) sent.answer (draws.place_of old.core.draws) entries more
  added_sent = record { whole = sent.added }

  -- it was, of members who acted so
  pub serves_sent : (view_of : MemberView) (unread : Unread) → IsWithin entries unread
      → Serves d g draws (members_at view_of entries unread) (Serve m sent.datagram) held (held_as new (members_at view_of more unread) more)
  serves_sent view_of unread within =
      serves_by d g draws (Serve m sent.datagram) sent.answer view added_sent sent.serves (members_at view_of entries unread)
      (ap (members_with view_of) (mail_after unread within added_sent))

-- the entries were these
pub sent_from : {D G R : Type 0} {d : DiskGhosts D} {g : SignerGhosts G} {draws : DrawGhosts R} {peers : List Peer} {m : Name} {old new : ServerView D G R}
    {reserved before after : List Entry} → reserved ≡ before → IsSent d g draws peers m old new reserved after → IsSent d g draws peers m old new before after
sent_from {d = d} {g = g} {draws = draws} {peers = peers} {m = m} {old = old} {new = new} {after = after} same sent =
    subst (λ before. IsSent d g draws peers m old new before after) same sent

-- ---- what members read

module _ {D G R : Type 0} (d : DiskGhosts D) (g : SignerGhosts G) (draws : DrawGhosts R) {server : ServerView D G R} {members read now : Members}
    {entries more : List Entry} {held : View D G R} (view : held_as server members entries ≡ held) (m : Name) (answer : Answer) (ignores : Ignores members read)
    (keeping : IsKeeping m read answer now) (is_more : IsAdded (Keep m) answer (draws.place_of server.core.draws) entries more) where
  -- a datagram went missing, or was taken
  pub keeps_next : {after : Members} → after ≡ now → KeepsNext d g draws held (held_as server after more)
  keeps_next {after} same = record {
    m = m;
    acted = read;
    asks = subst (λ (held : View D G R). ReadsMail held.members (Some (Keep m, read))) view (read, ignores, asks_keep m read answer now keeping);
    acts = acts_by d draws (λ held. IsKeeping m) (Keep m) answer read view is_more (has_kept keeping).plain
        (subst (IsKeeping m read answer) (sym same) keeping);
  }

module _ {D G R : Type 0} (d : DiskGhosts D) (g : SignerGhosts G) (draws : DrawGhosts R) {old new : ServerView D G R} {members read now : Members}
    {entries more : List Entry} {held : View D G R} (view : held_as old members entries ≡ held) (m : Name) (third : List ℕ) (ignores : Ignores members read)
    (agrees : Agrees m third read now) where
  -- the third message was served
  pub sends_next : (sent : IsSent d g draws now.all m old new entries more) → {after : Members}
      → Serves d g draws now (Serve m sent.datagram) held (held_as new after more) → SendsNext d g draws held (held_as new after more)
  sends_next sent {after} serves =
      let same = same_Some sent.datagram third (sym sent.sent ∙ (has_agreed agrees).sent) in
      record {
        m = m;
        third = third;
        acted = now;
        asks = subst (λ (held : View D G R). ReadsMail held.members (Some (Serve m third, now))) view (read, ignores, asks_third m read third now agrees);
        serves = subst (λ datagram. Serves d g draws now (Serve m datagram) held (held_as new after more)) same serves;
      }

-- ---- what is sent again

module _ {D G R : Type 0} (d : DiskGhosts D) (g : SignerGhosts G) (draws : DrawGhosts R) {old : ServerView D G R} {members : Members} {entries : List Entry}
    {held new : View D G R} (view : held_as old members entries ≡ held) (m : Name) where
  pub sends_again : {peers : List Peer} {server : ServerView D G R} {more : List Entry} (sent : IsSent d g draws peers m old server entries more)
      → members.all ≡ peers → Serves d g draws members (Serve m sent.datagram) held new
      → SendsAgain d g draws (sent_by held.members.all m) m held new
  sends_again sent same serves =
      let is = ap (λ (held : View D G R). held.members) view in
      subst (λ last. SendsAgain d g draws last m held new)
      (sym (ap (λ (members : Members). sent_by members.all m) (sym is) ∙ ap (λ peers. sent_by peers m) same ∙ sent.sent))
      (subst (λ acted. Serves d g draws acted (Serve m sent.datagram) held new) is serves)

  pub sends_nothing : sent_by members.all m ≡ None → Acts d draws (HasSentNothing m) held.members (Again m) held new
      → SendsAgain d g draws (sent_by held.members.all m) m held new
  sends_nothing none acts =
      subst (λ last. SendsAgain d g draws last m held new)
      (sym (ap (λ (held : View D G R). sent_by held.members.all m) (sym view) ∙ none)) acts
