-- What is answered to datagrams are messages of the group.
use Rattle.std.proofs.Common.{◌≡◌, ◌∙◌, ◌≤◌, ◌<◌, ℕ, zero, suc, Bool, true, false, List, [], ◌∷◌, length, get_or, Option, None, Some, Result, Ok, Err}
use Rattle.std.proofs.Common.{refl, sym, ap, subst, inl, inr, arith}
use Rattle.std.specs.Prelude.{Contains, IfSome, MatchBool, if◌then◌else◌}
use Rattle.std.specs.Str.{bytes_eq}
use Rattle.std.proofs.Math.Seq.{take-length}
use Rattle.std.proofs.lemmas.Bool.{cases_Bool}
use Rattle.gd_edges.specs.declared.signers.Signer.{Ghosts as SignerGhosts}
use Rattle.group_terms.specs.Names.{Name}
use Rattle.group_terms.specs.declared.changes.Change.TheVariants.{In}
use Rattle.group_terms.specs.declared.phases.Phase1.{Phase1}
use Rattle.group_terms.specs.declared.signatures.SignKind.{SignKind}
use Rattle.group_values.specs.Values.{batches_made}
use Rattle.group_keys.specs.Replies.{IsKeyedOf}
use Rattle.group_model.specs.Derivations.{replies_in, reply_in}
use Rattle.group_model.specs.Growth.{IsReplyOf, RepliesGoToMembers}
use Rattle.group_model.specs.Laws.{Laws}
use Rattle.group_model.specs.Places.{is_member}
use Rattle.group_model.specs.Servers.{after_draws, members_now, present_batches, refusal_to_join, with_change}
use Rattle.group_model.specs.declared.entries.Answer.TheVariants.{Batched, Datagram, Queued, Refused}
use Rattle.group_model.specs.declared.entries.Asked.TheVariants.{Serve}
use Rattle.group_model.specs.declared.entries.Entry.{Entry}
use Rattle.group_model.specs.declared.entries.Output.{Output}
use Rattle.group_model.specs.declared.entries.Outside.{Outside}
use Rattle.group_model.specs.declared.entries.Refusal.{Refusal}
use Rattle.group_model.specs.declared.entries.Refusal.TheVariants.{NeedsReopen, NoMemory}
use Rattle.group_model.specs.declared.entries.SymReply.{SymReply}
use Rattle.group_policy.specs.Judgements.{judgement}
use Rattle.group_policy.specs.declared.verdicts.Verdict.{Verdict}
use Rattle.group_policy.specs.declared.verdicts.Verdict.TheVariants.{Allowed, Denied}
use Rattle.pull_msgs.specs.Pulls.{IsAnswer, first_awaited, third_awaited}
use Rattle.pull_msgs.specs.Sent.{IsSomeSecond}
use Rattle.pull_msgs.specs.Texts.{IsPullText, second_message}
use Rattle.pull_msgs.specs.declared.messages.First.{First}
use Rattle.pull_msgs.specs.declared.messages.Third.{Third}
use Rattle.pull_sessions.specs.Builds.{IsFirstFrom, IsThirdFrom, begun_session, session_after_third}
use Rattle.pull_sessions.specs.Looks.{IsAgainOf, IsLook}
use Rattle.pull_sessions.specs.Sessions.{AreApart, HasSession, has_cookies, is_of, is_queued, put_session, sa_of, session_of, with_session}
use Rattle.pull_sessions.specs.declared.answers.Kept.{Kept}
use Rattle.pull_sessions.specs.declared.answers.Kept.TheVariants as kept
use Rattle.pull_sessions.specs.declared.answers.Looked.{Looked}
use Rattle.pull_sessions.specs.declared.answers.LookedAt.{LookedAt}
use Rattle.pull_sessions.specs.declared.answers.LookedAt.TheVariants.{NewFirst, NextThird, Repeat}
use Rattle.pull_sessions.specs.declared.answers.Step.{Step}
use Rattle.pull_sessions.specs.declared.answers.Step.TheVariants as steps
use Rattle.pull_sessions.specs.declared.refusals.SessionRefusal.{SessionRefusal}
use Rattle.pull_sessions.specs.declared.sas.Sa.{Sa}
use Rattle.pull_sessions.specs.declared.sas.Session.{Session}
use Rattle.server_steps.specs.Hosts.{Host, with_server, with_sessions}
use Rattle.server_steps.specs.Messages.{AnswersPeer, IsAnswerNow, IsFourthTo, IsKeptTo, IsMessageNow, IsMessageOf, IsSecondTo, IsSound, KeepsMessage}
use Rattle.server_steps.specs.Messages.{KeepsSent, KeptAreMessages, SendsMessages}
use Rattle.server_steps.specs.Outsides.{Says}
use Rattle.server_steps.specs.Pulls.{AnswersFirst, AnswersFound, AnswersLook, AnswersThird, Begins, IsAnswering, Queues, Replies}
use Rattle.server_steps.specs.Pulls.{nonce_next, present_policy, reply_now}
use Rattle.server_steps.specs.Refusals.{refusal_of, refusal_to_first, refusal_to_third, unless_denied, why_pending}
use Rattle.server_steps.proofs.FitLemmas.{fits_joined}
use Rattle.server_steps.proofs.GoesLemmas.{Goes, IsGood, IsWritten, no_item, not_opened, quiet, refused, same_sound, still}
use Rattle.server_steps.proofs.GoesLemmas.{silent_queued, silent_refused}
use Rattle.server_steps.proofs.LookLemmas.{IsPeer, its_peer, took_last}
use Rattle.server_steps.proofs.SasLemmas.{IsOwn, each_own, found_has, put_keeps, put_phase, put_there, same_sa, same_session, still_apart}
use Rattle.server_steps.proofs.SentLemmas.{has_begun, member_now, reply_of}
use Rattle.server_steps.proofs.SessionLemmas.{session_is}
use Rattle.server_steps.proofs.WaitLemmas.{its_name, same_self}

-- the laws of lower crates that are needed
pub record Needs : Type 0 where
  pub laws : Laws
  pub to_members : RepliesGoToMembers
  pub first_sizes : (phase : Phase1) (datagram : List ℕ) (taken : First) → IsAnswer phase (first_awaited phase) datagram (Ok taken)
      → (length taken.message ≡ 4) × (length taken.next_iv ≡ 16)
  pub third_sizes : (phase : Phase1) (message iv ni nr datagram : List ℕ) (taken : Third)
      → IsAnswer phase (third_awaited message iv ni nr) datagram (Ok taken) → (length message ≡ 4) × (length taken.next_iv ≡ 16)
  pub first_found : (sas : List Sa) (m : Name) (datagram : List ℕ) (first : First) → AreApart sas
      → IsLook sas datagram (Ok (record { member = m; what = NewFirst first })) → IsFirstFrom sas m datagram first
  pub third_found : (sas : List Sa) (m : Name) (datagram : List ℕ) (third : Third) → AreApart sas
      → IsLook sas datagram (Ok (record { member = m; what = NextThird third })) → IsThirdFrom sas m datagram third
  pub again_found : (sas : List Sa) (m : Name) (datagram : List ℕ) (given : Kept) → AreApart sas
      → IsLook sas datagram (Ok (record { member = m; what = Repeat given })) → IsAgainOf sas m datagram given

-- ---- small facts

only_item : {X : Type 0} (y x : X) → Contains (y ∷ []) x → y ≡ x
only_item y x c = by c.0 c.1 c.2
  where
    by : (k : ℕ) → k < 1 → get_or (y ∷ []) k x ≡ x → y ≡ x
    by zero less is = is
    by (suc k) less is = absurd (omega (arith, less))

that_datagram : {a b : Name} {x y : List ℕ} → Serve a x ≡ Serve b y → x ≡ y
that_datagram e = cc

those_octets : {a b : List ℕ} {x y : Option SymReply} → Datagram a x ≡ Datagram b y → a ≡ b
those_octets e = cc

those_names : {a b : List ℕ} {x y : Option SymReply} → Datagram a x ≡ Datagram b y → x ≡ y
those_names e = cc

pub no_other : {octets : List ℕ} {names : Option SymReply} {output : Output} → Datagram octets names ≡ Batched output → ⊥
no_other e = cc

-- against who is allowed the later reason counts
allowed_later : (verdict : Verdict) (later : Option Refusal) → unless_denied verdict later ≡ None → later ≡ None
allowed_later (Allowed rule) later is = is
allowed_later (Denied rule) later is = absurd (cc)

-- a session that does not await a batch
pub not_queued : {step : Step} → is_queued step ≡ false → step ≡ steps.Queued → ⊥
not_queued off is = cc (sym off ∙ ap is_queued is)

-- of a message to a member, which answers a datagram
module _ {D : Type 0} (kind : SignKind) (next : Host D) (phase : Phase1) (datagram octets : List ℕ) (names : Option SymReply) where
  -- one of the present epoch answers what the session did not take last
  fresh_answer : (session : Option Session) → false ≡ took_last session datagram → IsMessageNow kind next phase octets names
      → IsAnswerNow kind next session phase datagram octets names
  fresh_answer None new is = is
  fresh_answer (Some session) new is =
      subst (λ b. MatchBool b (session.kept ≡ kept.Datagram octets names) (IsMessageNow kind next phase octets names)) new is

  -- what a session keeps answers what it took last
  kept_answer : (held : Option Session) (session : Session) → held ≡ Some session → datagram ≡ session.last → kept.Datagram octets names ≡ session.kept
      → IsAnswerNow kind next held phase datagram octets names
  kept_answer held session has last is =
      let same : bytes_eq datagram session.last ≡ true = ap (bytes_eq datagram) (sym last) ∙ same_self datagram in
      subst (λ held. IsAnswerNow kind next held phase datagram octets names) (sym has)
      (subst (λ b. MatchBool b (session.kept ≡ kept.Datagram octets names) (IsMessageNow kind next phase octets names)) (sym same) (sym is))

module _ {D G : Type 0} (needs : Needs) (g : SignerGhosts G) (signer : G) (block : ℕ → List ℕ) {first : ℕ} {host : Host D} (entry : Entry)
    (good : IsGood (g.kind_of signer) first host) where
  abbrev kind : SignKind
  kind = g.kind_of signer

  abbrev GoesTo : Host D → Type 0
  GoesTo = Goes (g.kind_of signer) first host entry

  abbrev sas : List Sa
  sas = host.sessions.sas

  abbrev Keeps : Sa → Type 0
  Keeps = KeepsMessage (g.kind_of signer) first host.server.depth host.head.spi host.server.list

  module _ (asker : Name) (datagram : List ℕ) (asked : entry.asked ≡ Serve asker datagram) where
    -- a message is the answer to the peer whose cookies the datagram has
    module _ (made : Host D) (octets : List ℕ) (names : Option SymReply) (same : entry.answer ≡ Datagram octets names) (looked : Looked)
        (peer : IsPeer sas datagram looked) (message : IsMessageOf kind first made peer.sa.phase octets names)
        (now : IsAnswerNow kind made peer.sa.session peer.sa.phase datagram octets names)
        (held : KeepsSent made.sessions.sas peer.sa.phase.member octets names) (last : held.session.last ≡ datagram) (deep : 1 ≤ made.server.depth) where
      one_answer : (m : Name) (given sent : List ℕ) (says : Option SymReply) → entry.asked ≡ Serve m given → entry.answer ≡ Datagram sent says
          → AnswersPeer kind first host entry made given sent says
      one_answer m given sent says asks is =
          let one : datagram ≡ given = that_datagram (sym asked ∙ asks) in
          let two : octets ≡ sent = those_octets (sym same ∙ is) in
          let three : names ≡ says = those_names (sym same ∙ is) in
          subst (λ (x : List ℕ × List ℕ × Option SymReply). AnswersPeer kind first host entry made x.0 x.1 x.2) (λ i. (one i, two i, three i))
          (record {
            head = peer.head;
            has_header = peer.has_header;
            sa = peer.sa;
            is_there = peer.there;
            message = message;
            now = now;
            keeps = held;
            last = last;
          })

      one_told : (says : Option SymReply) → IsMessageOf kind first made peer.sa.phase octets says → (reply : SymReply)
          → Contains (reply_in says) reply → IsReplyOf made.server.depth first (batches_made made.server.list) reply
      one_told None is reply c = absurd (no_item reply c)
      one_told (Some says) is reply c =
          subst (IsReplyOf made.server.depth first (batches_made made.server.list)) (only_item says reply c)
          (reply_of kind first made.server.depth made.head.spi made.server.list peer.sa.phase octets says deep is)

      sends_one : SendsMessages kind first host entry made
      sends_one = record {
        answers = one_answer;
        replies = λ output is. absurd (no_other (sym same ∙ is));
        tells = λ reply c. one_told names message reply (subst (λ told. Contains told reply) (ap replies_in same) c);
      }

      answered : (next : Host D) → next ≡ made → IsSound made → KeptAreMessages kind first made → GoesTo next
      answered next is sound keeps =
          subst GoesTo (sym is) (record {
            sound = sound;
            keeps = keeps;
            renewed = not_opened entry good (Datagram octets names) ((later : ℕ) → KeptAreMessages kind later made) same refl;
            sends = sends_one;
          })

    -- the peer is the SA of the member that was found
    peer_there : (looked : Looked) (peer : IsPeer sas datagram looked) → sa_of sas looked.member ≡ Some peer.sa
    peer_there looked peer =
        ap (sa_of sas) peer.own ∙ found_has (has_cookies peer.head.cookies) (IsOwn sas) sas peer.sa (each_own sas good.sound.apart.members) peer.there

    -- and has the session that it was given
    given_there : (looked : Looked) (peer : IsPeer sas datagram looked) (session : Session) (sa : Sa) → sa_of sas looked.member ≡ Some sa
        → session_of (with_session host.sessions looked.member session).sas peer.sa.phase.member ≡ Some session
    given_there looked peer session sa there =
        subst (λ m. session_of (with_session host.sessions looked.member session).sas m ≡ Some session) peer.own (put_there looked.member session sas sa there)

    -- ---- the answer is given again

    kept_by : (m : Name) (given : Kept) (from : IsAgainOf sas m datagram given)
        → IsKeptTo kind first host.server.depth host.head.spi host.server.list from.sa.phase from.session given
    kept_by m given from =
        let all : Keeps from.sa = found_has (is_of m) Keeps sas from.sa good.keeps from.has.is_there in
        subst (IsKeptTo kind first host.server.depth host.head.spi host.server.list from.sa.phase from.session) (sym from.answered)
        (subst (λ (session : Option Session). IfSome session (λ (one : Session).
        IsKeptTo kind first host.server.depth host.head.spi host.server.list from.sa.phase one one.kept)) from.has.has all)

    kept_message : (phase : Phase1) (session : Session) (octets : List ℕ) (names : Option SymReply)
        → IsKeptTo kind first host.server.depth host.head.spi host.server.list phase session (kept.Datagram octets names)
        → IsMessageOf kind first host phase octets names
    kept_message phase session octets None is = is.message
    kept_message phase session octets (Some says) is = is.message

    again : (next : Host D) (outside : Outside) (m : Name) (given : Kept) → IsLook sas datagram (Ok (record { member = m; what = Repeat given }))
        → AnswersFound g signer block host (Repeat given) m datagram entry.answer outside next → GoesTo next
    again next outside m (kept.Datagram octets names) look says =
        let looked : Looked = record { member = m; what = Repeat (kept.Datagram octets names) } in
        let peer = its_peer sas datagram looked look in
        let from = needs.again_found sas m datagram (kept.Datagram octets names) good.sound.apart look in
        let same : from.sa ≡ peer.sa = same_sa sas m from.has.is_there (peer_there looked peer) in
        answered host octets names says.answers looked peer
        (subst (λ (sa : Sa). IsMessageOf kind first host sa.phase octets names) same
        (kept_message from.sa.phase from.session octets names (kept_by m (kept.Datagram octets names) from)))
        (kept_answer kind host peer.sa.phase datagram octets names peer.sa.session from.session (ap (λ (sa : Sa). sa.session) (sym same) ∙ from.has.has)
        from.same from.answered)
        (record {
          session = from.session;
          is_there = subst (λ m. session_of sas m ≡ Some from.session) peer.own (session_is sas m from.sa from.session from.has);
          kept = sym from.answered;
        })
        (sym from.same) good.sound.deep next says.stays good.sound good.keeps
    again next outside m kept.Queued look says = still entry good next Queued says.stays says.answers silent_queued refl

    -- ---- first messages

    begins : (next : Host D) (outside : Outside) (m : Name) (said : First) → IsLook sas datagram (Ok (record { member = m; what = NewFirst said }))
        → Begins g signer block host m said datagram entry.answer outside next → GoesTo next
    begins next outside m said look step =
        let looked : Looked = record { member = m; what = NewFirst said } in
        let peer = its_peer sas datagram looked look in
        let from = needs.first_found sas m datagram said good.sound.apart look in
        let sizes = needs.first_sizes from.sa.phase datagram said from.read in
        let same : step.sa ≡ peer.sa = same_sa sas m step.is_there (peer_there looked peer) in
        let nr : List ℕ = nonce_next g signer block host in
        let begun : Session = begun_session said nr datagram (kept.Datagram step.second None) in
        let made : Host D = record host { server = after_draws host.server 1; sessions = with_session host.sessions m begun } in
        let text : IsSomeSecond step.sa.phase nr (present_policy host.head.spi kind host.server.list) step.second = record {
          message = said.message;
          iv = said.next_iv;
          ni = said.ni;
          message_size = sizes.0;
          iv_size = sizes.1;
          nr_fits = step.nonce_fits;
          policies_fit = step.policy_fits;
          is_text = step.is_text;
        } in
        let second : IsSecondTo kind first host.server.depth host.head.spi host.server.list step.sa.phase step.second = record {
          epoch = length host.server.list;
          within = omega arith;
          nr = nr;
          is_text = subst (λ front. IsSomeSecond step.sa.phase nr (present_policy host.head.spi kind front) step.second)
              (sym (take-length host.server.list)) text;
        } in
        answered made step.second None step.becomes.answers looked peer
        (subst (λ (sa : Sa). IsMessageOf kind first host sa.phase step.second None) same second)
        (fresh_answer kind made peer.sa.phase datagram step.second None peer.sa.session peer.repeats
        (subst (λ (sa : Sa). IsMessageNow kind host sa.phase step.second None) same (nr, text)))
        (record { session = begun; is_there = given_there looked peer begun step.sa step.is_there; kept = refl }) refl
        good.sound.deep next step.becomes.now
        (record {
          deep = good.sound.deep;
          valid = good.sound.valid;
          fits = good.sound.fits;
          apart = still_apart (put_session m (Some begun)) (put_phase m (Some begun)) sas good.sound.apart;
          written = put_keeps IsWritten sas m (Some begun) step.sa good.sound.apart step.is_there (λ is. absurd (not_queued refl is)) good.sound.written;
        })
        (put_keeps Keeps sas m (Some begun) step.sa good.sound.apart step.is_there
        (record {
          message = second;
          iv = said.next_iv;
          own = subst (λ front. IsPullText step.sa.phase said.next_iv (second_message said.message said.ni nr (present_policy host.head.spi kind front)) step.second)
              (sym (take-length host.server.list)) step.is_text;
          left = refl;
        }) good.keeps)

    taking_first : (next : Host D) (outside : Outside) (m : Name) (said : First) (reason : Option Refusal)
        → IsLook sas datagram (Ok (record { member = m; what = NewFirst said }))
        → AnswersFirst g signer block host reason m said datagram entry.answer outside next → GoesTo next
    taking_first next outside m said (Some why) look says = refused entry good next outside why says
    taking_first next outside m said None look (inl step) = begins next outside m said look step
    taking_first next outside m said None look (inr out) =
        quiet entry good next (with_server host (after_draws host.server out.n)) (Refused NoMemory) out.becomes.now out.becomes.answers
        (silent_refused NoMemory) refl (same_sound entry good (with_server host (after_draws host.server out.n)) refl refl refl refl) good.keeps

    -- ---- third messages

    module _ (m : Name) (third : Third) (look : IsLook sas datagram (Ok (record { member = m; what = NextThird third }))) where
      -- what is written after it has its sizes
      has_sizes : (sa : Sa) (session : Session) → HasSession sas m sa session → (length session.message ≡ 4) × (length third.next_iv ≡ 16)
      has_sizes sa session has =
          let from = needs.third_found sas m datagram third good.sound.apart look in
          let sizes = needs.third_sizes from.sa.phase from.session.message from.session.iv from.session.ni from.session.nr datagram third from.read in
          (ap (λ (one : Session). length one.message) (sym (same_session sas m from.has has)) ∙ sizes.0, sizes.1)

      replies : (next : Host D) (outside : Outside) → is_member (members_now host.server) m ≡ true
          → Replies g signer block host m third datagram entry.answer outside next → GoesTo next
      replies next outside member step =
          let looked : Looked = record { member = m; what = NextThird third } in
          let peer = its_peer sas datagram looked look in
          let same : step.sa ≡ peer.sa = same_sa sas m step.has.is_there (peer_there looked peer) in
          let sizes = has_sizes step.sa step.session step.has in
          let says : SymReply = reply_now host.server m in
          let session : Session = session_after_third step.session third datagram (kept.Datagram step.fourth (Some says)) in
          let made : Host D = with_sessions host (with_session host.sessions m session) in
          let fourth : IsFourthTo kind first host.server.depth host.head.spi host.server.list step.sa.phase step.fourth says = record {
            to = its_name sas m step.sa step.has.is_there;
            begun = has_begun host.server.depth host.server.list m member;
            late = good.early;
            within = omega arith;
            member = member_now host.server.depth host.server.list m member;
            names = refl;
            keyed = step.keyed;
            keys = subst (λ front. IsKeyedOf host.server.depth host.head.spi front m step.keyed) (sym (take-length host.server.list)) step.keys;
            message = step.session.message;
            iv = third.next_iv;
            ni = step.session.ni;
            nr = step.session.nr;
            message_size = sizes.0;
            iv_size = sizes.1;
            is_text = step.is_text;
          } in
          answered made step.fourth (Some says) step.becomes.answers looked peer
          (subst (λ (sa : Sa). IsMessageOf kind first host sa.phase step.fourth (Some says)) same fourth)
          (fresh_answer kind made peer.sa.phase datagram step.fourth (Some says) peer.sa.session peer.repeats refl)
          (record { session = session; is_there = given_there looked peer session step.sa step.has.is_there; kept = refl }) refl
          good.sound.deep next step.becomes.now
          (record {
            deep = good.sound.deep;
            valid = good.sound.valid;
            fits = good.sound.fits;
            apart = still_apart (put_session m (Some session)) (put_phase m (Some session)) sas good.sound.apart;
            written = put_keeps IsWritten sas m (Some session) step.sa good.sound.apart step.has.is_there (λ is. absurd (not_queued refl is))
                good.sound.written;
          })
          (put_keeps Keeps sas m (Some session) step.sa good.sound.apart step.has.is_there (record { message = fourth; own = step.is_text }) good.keeps)

      queues : (next : Host D) (outside : Outside) → is_member (members_now host.server) m ≡ false → refusal_to_third host.rules host.server m ≡ None
          → Queues g signer block host m third datagram entry.answer outside next → GoesTo next
      queues next outside stranger granted step =
          let sizes = has_sizes step.sa step.session step.has in
          let session : Session = session_after_third step.session third datagram kept.Queued in
          let made : Host D = record host { server = with_change host.server (In m); sessions = with_session host.sessions m session } in
          let free : refusal_to_join host.server m ≡ None =
          ap (λ b. if b then why_pending host.server m else refusal_to_join host.server m) (sym stranger)
          ∙ allowed_later (judgement host.rules m) (if is_member (members_now host.server) m then why_pending host.server m else refusal_to_join host.server m)
          granted in
          quiet entry good next made Queued step.becomes.now step.becomes.answers silent_queued refl
          (record {
            deep = good.sound.deep;
            valid = good.sound.valid;
            fits = fits_joined needs.laws host.server.needs_reopen host.server.depth (members_now host.server) host.server.queue good.sound.fits m
                (needs.laws.each_leaf host.server.depth (present_batches host.server)) stranger free;
            apart = still_apart (put_session m (Some session)) (put_phase m (Some session)) sas good.sound.apart;
            written = put_keeps IsWritten sas m (Some session) step.sa good.sound.apart step.has.is_there (λ is. sizes) good.sound.written;
          })
          (put_keeps Keeps sas m (Some session) step.sa good.sound.apart step.has.is_there tt good.keeps)

      taking_third : (next : Host D) (outside : Outside) (reason : Option Refusal) → refusal_to_third host.rules host.server m ≡ reason
          → AnswersThird g signer block host reason m third datagram entry.answer outside next → GoesTo next
      taking_third next outside (Some why) is says = refused entry good next outside why says
      taking_third next outside None is (inr says) = refused entry good next outside NoMemory says
      taking_third next outside None is (inl accepts) = elim (cases_Bool (is_member (members_now host.server) m)) [
        | inl member ↦
            replies next outside member
            (subst (λ b. MatchBool b (Replies g signer block host m third datagram entry.answer outside next)
            (Queues g signer block host m third datagram entry.answer outside next)) member accepts)
        | inr stranger ↦
            queues next outside stranger is
            (subst (λ b. MatchBool b (Replies g signer block host m third datagram entry.answer outside next)
            (Queues g signer block host m third datagram entry.answer outside next)) stranger accepts)
      ]

    -- ---- any datagram

    by_what : (next : Host D) (outside : Outside) (m : Name) (what : LookedAt) → IsLook sas datagram (Ok (record { member = m; what = what }))
        → AnswersFound g signer block host what m datagram entry.answer outside next → GoesTo next
    by_what next outside m (Repeat given) look answers = again next outside m given look answers
    by_what next outside m (NewFirst said) look answers =
        taking_first next outside m said (refusal_to_first host.head.name host.rules host.server m said) look answers
    by_what next outside m (NextThird third) look answers = taking_third m third look next outside (refusal_to_third host.rules host.server m) refl answers

    by_look : (next : Host D) (outside : Outside) (result : Result Looked SessionRefusal) → IsLook sas datagram result
        → AnswersLook g signer block host datagram result entry.answer outside next → GoesTo next
    by_look next outside (Err why) look says = refused entry good next outside (refusal_of why) says
    by_look next outside (Ok looked) look answers = by_what next outside looked.member looked.what look answers

    pub answering : (next : Host D) (outside : Outside) → IsAnswering g signer block host datagram entry.answer outside next → GoesTo next
    answering next outside step = by host.server.needs_reopen step
      where
        by : (needs_reopen : Bool) → MatchBool needs_reopen (Says (Refused NeedsReopen) host entry.answer outside next)
            ((looked : Result Looked SessionRefusal) × IsLook sas datagram looked × AnswersLook g signer block host datagram looked entry.answer outside next)
            → GoesTo next
        by true says = refused entry good next outside NeedsReopen says
        by false found = by_look next outside found.0 found.1 found.2
