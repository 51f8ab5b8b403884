-- The replies of a batch that is stored are messages of the group, and so is what sessions keep then.
use Rattle.std.proofs.Common.{◌≡◌, ◌∙◌, ◌≤◌, ℕ, true, List, [], ◌∷◌, ◌++◌, length, map, get_or, take, Option, None, Some, refl, sym, ap, subst, inl, inr}
use Rattle.std.specs.Prelude.{Contains, IfSome, option_and_then}
use Rattle.std.specs.List.{All}
use Rattle.std.specs.Option.{option_map}
use Rattle.std.proofs.Math.Seq.{take-length}
use Rattle.std.proofs.lemmas.Bool.{cases_Bool, cond-true, cond-false}
use Rattle.std.proofs.lemmas.List.Elements.{All-cons, All-head, All-map, All-nil, All-contains, All-contains_itself, All-tail}
use Rattle.gd_disk.specs.declared.disks.Disk.{Ghosts as DiskGhosts}
use Rattle.gd_edges.specs.declared.signers.Signer.{Ghosts as SignerGhosts}
use Rattle.group_terms.specs.Changes.{joiners}
use Rattle.group_terms.specs.Names.{Name, same_name}
use Rattle.group_terms.specs.declared.changes.Change.{Change}
use Rattle.group_terms.specs.declared.signatures.SignKind.{SignKind}
use Rattle.group_values.specs.Values.{Made, batches_made}
use Rattle.group_keys.specs.Replies.{IsKeyedOf}
use Rattle.group_model.specs.Derivations.{replies_in}
use Rattle.group_model.specs.Growth.{IsReplyOf}
use Rattle.group_model.proofs.QueueLemmas.{joiners_once}
use Rattle.group_model.specs.Places.{IsValid, holders_of, names_once, no_holders}
use Rattle.group_model.specs.Replies.{replies_to, reply_at, says_of}
use Rattle.group_model.specs.Servers.{present_batches, with_batch}
use Rattle.group_model.specs.declared.entries.Answer.TheVariants.{Batched}
use Rattle.group_model.specs.declared.entries.Entry.{Entry}
use Rattle.group_model.specs.declared.entries.Output.{Output}
use Rattle.group_model.specs.declared.entries.Outside.{Outside}
use Rattle.group_model.specs.declared.entries.SentReply.{SentReply}
use Rattle.group_model.specs.declared.entries.SymReply.{SymReply}
use Rattle.pull_sessions.specs.Builds.{IsFourthOf, settled_session}
use Rattle.pull_sessions.specs.Sessions.{is_of, is_queued, sa_of}
use Rattle.pull_sessions.specs.declared.answers.Kept.{Kept}
use Rattle.pull_sessions.specs.declared.answers.Kept.TheVariants as kept
use Rattle.pull_sessions.specs.declared.sas.Sa.{Sa}
use Rattle.pull_sessions.specs.declared.sas.Session.{Session}
use Rattle.server_steps.specs.Batches.{IsStored, drawn_next, list_next, made_next}
use Rattle.server_steps.specs.Fourths.{IsFourthReply, reply_to, settle, settled, settled_by, settled_in}
use Rattle.server_steps.specs.Hosts.{Host}
use Rattle.server_steps.specs.Messages.{HasSizes, IsFourthTo, IsKeptTo, IsOwnFourth, IsSound, KeepsMessage, KeepsSent, KeptAreMessages}
use Rattle.server_steps.specs.Messages.{RepliesToPeer, SendsMessages}
use Rattle.server_steps.proofs.DatagramLemmas.{Needs, no_other, not_queued}
use Rattle.server_steps.proofs.FitLemmas.{fit_more}
use Rattle.server_steps.proofs.GoesLemmas.{Goes, IsGood, IsWritten, not_opened}
use Rattle.server_steps.proofs.SasLemmas.{IsOwn, each_own, found_has, found_passes, only, still_apart}
use Rattle.server_steps.proofs.RepliedLemmas.{replied_joiners, replies_own}
use Rattle.server_steps.proofs.SentLemmas.{batches_more, kept_more, length_made}
use Rattle.server_steps.proofs.WaitLemmas.{is_same, its_name, of_changed}

that_output : {a b : Output} → Batched a ≡ Batched b → a ≡ b
that_output e = cc

-- what holds of all items that were made of others
unmapped : {X Y : Type 0} (P : Y → Type 0) (f : X → Y) (items : List X) → All P (map f items) → All (λ x. P (f x)) items
unmapped P f [] all = All-nil _
unmapped P f (item ∷ items) all =
    All-cons (λ x. P (f x)) item items (All-head P (f item) (map f items) all) (unmapped P f items (All-tail P (f item) (map f items) all))

module _ {D G : Type 0} (needs : Needs) (d : DiskGhosts D) (g : SignerGhosts G) (signer : G) (block : ℕ → List ℕ) {first : ℕ} {host : Host D} (entry : Entry)
    (good : IsGood (g.kind_of signer) first host) where
  abbrev kind : SignKind
  kind = g.kind_of signer

  abbrev GoesTo : Host D → Type 0
  GoesTo = Goes (g.kind_of signer) first host entry

  abbrev sas : List Sa
  sas = host.sessions.sas

  module _ (next : Host D) (outside : Outside) (stored : IsStored d g signer block host entry.answer outside next) where
    abbrev list_after : List Made
    list_after = list_next d g signer block host

    abbrev made_after : Made
    made_after = made_next d g signer block host

    abbrev batches_after : List (List Change)
    batches_after = batches_made (list_next d g signer block host)

    abbrev host_after : Host D
    host_after = record host {
      disk = next.disk;
      server = with_batch (drawn_next d g signer block host) (made_next d g signer block host);
      sessions = settled host.sessions stored.output.replies;
    }

    longer : batches_after ≡ present_batches host.server ++ host.server.queue ∷ []
    longer = batches_more host.server.list (made_after ∷ [])

    valid_after : IsValid host.server.depth batches_after
    valid_after =
        subst (IsValid host.server.depth) (sym longer)
        (fit_more (no_holders host.server.depth) (present_batches host.server) host.server.queue good.sound.valid good.sound.fits)

    -- what a reply says
    record IsSaid (says : SymReply) : Type 0 where
      tells : IsReplyOf host.server.depth first batches_after says
      names : says ≡ reply_at host.server.depth batches_after says.keyed_epoch says.member
      last : says.keyed_epoch ≡ length batches_after

    -- it is of the last epoch
    abbrev IsLast : SymReply → Type 0
    IsLast says = (says ≡ reply_at host.server.depth batches_after says.keyed_epoch says.member) × (says.keyed_epoch ≡ length batches_after)

    each_said : All IsSaid (replies_to host.server.depth batches_after host.server.queue)
    each_said k d less =
        let all : All IsLast (replies_to host.server.depth batches_after host.server.queue) =
        All-map IsLast (reply_at host.server.depth batches_after (length batches_after)) (joiners host.server.queue) (λ k d less. (refl, refl)) in
        let it : SymReply = get_or (replies_to host.server.depth batches_after host.server.queue) k d in
        let few : first ≤ length (present_batches host.server) = subst (λ n. first ≤ n) (sym (length_made host.server.list)) good.early in
        let there : Contains (replies_to host.server.depth batches_after host.server.queue) it =
        All-contains_itself (replies_to host.server.depth batches_after host.server.queue) k d less in
        let tells : IsReplyOf host.server.depth first (present_batches host.server ++ host.server.queue ∷ []) it =
        needs.to_members host.server.depth first (present_batches host.server) host.server.queue it good.sound.deep few
        (subst (IsValid host.server.depth) longer valid_after)
        (subst (λ batches. Contains (replies_to host.server.depth batches host.server.queue) it) longer there) in
        record {
          tells = subst (λ batches. IsReplyOf host.server.depth first batches it) (sym longer) tells;
          names = (all k d less).0;
          last = (all k d less).1;
        }

    replies_said : All IsSaid (says_of stored.output.replies)
    replies_said = subst (All IsSaid) (sym stored.puts_out.says.replies) each_said

    -- a reply is a fourth message to the member of an SA
    record IsToPeer (reply : SentReply) : Type 0 where
      sa : Sa
      there : sa_of sas reply.says.member ≡ Some sa
      message : IsFourthTo kind first host.server.depth host.head.spi list_after sa.phase reply.datagram reply.says
      now : reply.says.keyed_epoch ≡ length list_after
      session : Session
      has : sa.session ≡ Some session
      own : IsFourthOf sa.phase session session.iv message.keyed reply.datagram
      waits : is_queued session.step ≡ true

    to_peer : (reply : SentReply) → IsSaid reply.says → IsFourthReply host.server.depth host.head.spi list_after sas reply → IsToPeer reply
    to_peer reply said is =
        let all : IsWritten is.sa = found_has (is_of reply.says.member) IsWritten sas is.sa good.sound.written is.has.is_there in
        let sizes : (length is.session.message ≡ 4) × (length is.session.iv ≡ 16) =
        subst (λ (session : Option Session). IfSome session HasSizes) is.has.has all is.awaits in
        let epoch : reply.says.keyed_epoch ≡ length list_after = said.last ∙ length_made list_after in
        let whole : take reply.says.keyed_epoch list_after ≡ list_after = ap (λ n. take n list_after) epoch ∙ take-length list_after in
        record {
          sa = is.sa;
          there = is.has.is_there;
          message = record {
            to = its_name sas reply.says.member is.sa is.has.is_there;
            begun = said.tells.begun;
            late = said.tells.late;
            within = subst (λ n. reply.says.keyed_epoch ≤ n) (length_made list_after) said.tells.within;
            member = said.tells.member;
            names = said.names;
            keyed = is.keyed;
            keys = subst (λ front. IsKeyedOf host.server.depth host.head.spi front reply.says.member is.keyed) (sym whole) is.keys;
            message = is.session.message;
            iv = is.session.iv;
            ni = is.session.ni;
            nr = is.session.nr;
            message_size = sizes.0;
            iv_size = sizes.1;
            is_text = is.is_text;
          };
          now = epoch;
          session = is.session;
          has = is.has.has;
          own = is.is_text;
          waits = ap is_queued is.awaits;
        }

    all_to_peers : All IsToPeer stored.output.replies
    all_to_peers k d less =
        to_peer (get_or stored.output.replies k d) (unmapped IsSaid (λ (reply : SentReply). reply.says) stored.output.replies replies_said k d less)
        (stored.puts_out.replies k d less)

    -- ---- what sessions keep then

    -- what an SA keeps after the batch
    abbrev KeepsAfter : Sa → Type 0
    KeepsAfter = KeepsMessage kind first host.server.depth host.head.spi list_after

    module _ (sa : Sa) (own : IsOwn sas sa) where
      abbrev IsKeptAfter : Session → Type 0
      IsKeptAfter session = IsKeptTo kind first host.server.depth host.head.spi list_after sa.phase session session.kept

      -- what the session of a reply's SA keeps that is settled by it
      settled_keeps : (reply : SentReply) (peer : IsToPeer reply) (session : Session) → peer.sa.session ≡ Some session
          → IsOwnFourth kind first host.server.depth host.head.spi list_after peer.sa.phase
          (settled_session session (kept.Datagram reply.datagram (Some reply.says))) reply.datagram reply.says
      settled_keeps reply peer session has = record {
        message = peer.message;
        own = subst (λ (session : Session). IsFourthOf peer.sa.phase session session.iv peer.message.keyed reply.datagram) (only (sym peer.has ∙ has)) peer.own;
      }

      replied : (session : Session) (found : Option SentReply) → sa.session ≡ Some session → reply_to stored.output.replies sa.phase.member ≡ found
          → IsKeptAfter session → IsKeptAfter (settled_by session found)
      replied session None has is was = was
      replied session (Some reply) has is was =
          let peer = found_has (λ (reply : SentReply). same_name reply.says.member sa.phase.member) IsToPeer stored.output.replies reply all_to_peers is in
          let its : reply.says.member ≡ sa.phase.member =
          is_same reply.says.member sa.phase.member
          (found_passes (λ (reply : SentReply). same_name reply.says.member sa.phase.member) stored.output.replies reply is) in
          let same : peer.sa ≡ sa = only (sym peer.there ∙ ap (sa_of sas) its ∙ own) in
          subst (λ (one : Sa). IsOwnFourth kind first host.server.depth host.head.spi list_after one.phase
          (settled_session session (kept.Datagram reply.datagram (Some reply.says))) reply.datagram reply.says) same
          (settled_keeps reply peer session (ap (λ (sa : Sa). sa.session) same ∙ has))

      one_kept : (session : Session) → sa.session ≡ Some session → IsKeptAfter session
          → IsKeptAfter (settled_in stored.output.replies sa.phase.member session)
      one_kept session has was = elim (cases_Bool (is_queued session.step)) [
        | inl waits ↦
            subst IsKeptAfter
            (sym (cond-true (is_queued session.step) (settled_by session (reply_to stored.output.replies sa.phase.member)) session waits))
            (replied session (reply_to stored.output.replies sa.phase.member) has refl was)
        | inr rests ↦
            subst IsKeptAfter
            (sym (cond-false (is_queued session.step) (settled_by session (reply_to stored.output.replies sa.phase.member)) session rests)) was
      ]

      keeps_after : (session : Option Session) → sa.session ≡ session
          → IfSome session (λ (one : Session). IsKeptTo kind first host.server.depth host.head.spi host.server.list sa.phase one one.kept)
          → IfSome (option_map (settled_in stored.output.replies sa.phase.member) session) IsKeptAfter
      keeps_after None has was = tt
      keeps_after (Some session) has was =
          one_kept session has
          (kept_more needs.laws kind first host.server.depth host.head.spi host.server.list (made_after ∷ []) sa.phase session session.kept was)

    replied_sizes : (session : Session) (found : Option SentReply) → HasSizes session → HasSizes (settled_by session found)
    replied_sizes session None was = was
    replied_sizes session (Some reply) was = λ is. absurd (not_queued refl is)

    one_sized : (m : Name) (session : Session) → HasSizes session → HasSizes (settled_in stored.output.replies m session)
    one_sized m session was = elim (cases_Bool (is_queued session.step)) [
      | inl waits ↦
          subst HasSizes (sym (cond-true (is_queued session.step) (settled_by session (reply_to stored.output.replies m)) session waits))
          (replied_sizes session (reply_to stored.output.replies m) was)
      | inr rests ↦ subst HasSizes (sym (cond-false (is_queued session.step) (settled_by session (reply_to stored.output.replies m)) session rests)) was
    ]

    sizes_after : (m : Name) (session : Option Session) → IfSome session HasSizes → IfSome (option_map (settled_in stored.output.replies m) session) HasSizes
    sizes_after m None was = tt
    sizes_after m (Some session) was = one_sized m session was

    stored_kept : KeptAreMessages kind first host_after
    stored_kept =
        All-map KeepsAfter (settle stored.output.replies) sas
        (λ k d less. keeps_after (get_or sas k d) (each_own sas good.sound.apart.members k d less) (get_or sas k d).session refl (good.keeps k d less))

    stored_sound : IsSound host_after
    stored_sound = record {
      deep = good.sound.deep;
      valid = valid_after;
      fits = needs.laws.no_change_fits (holders_of host.server.depth batches_after);
      apart = still_apart (settle stored.output.replies) (λ sa. refl) sas good.sound.apart;
      written = All-map IsWritten (settle stored.output.replies) sas
          (λ k d less. sizes_after (get_or sas k d).phase.member (get_or sas k d).session (good.sound.written k d less));
    }

    -- ---- what is sent

    -- the session of a reply's member keeps the reply
    keeps_reply : (reply : SentReply) → IsToPeer reply → reply_to stored.output.replies reply.says.member ≡ Some reply
        → KeepsSent (map (settle stored.output.replies) sas) reply.says.member reply.datagram (Some reply.says)
    keeps_reply reply peer own =
        let m : Name = reply.says.member in
        let answer : Kept = kept.Datagram reply.datagram (Some reply.says) in
        let found : sa_of (map (settle stored.output.replies) sas) m ≡ Some (settle stored.output.replies peer.sa) =
        of_changed (settle stored.output.replies) (λ sa. refl) m sas ∙ ap (option_map (settle stored.output.replies)) peer.there in
        let its : settled_in stored.output.replies peer.sa.phase.member peer.session ≡ settled_session peer.session answer =
        ap (λ m. settled_in stored.output.replies m peer.session) (sym (its_name sas m peer.sa peer.there))
        ∙ cond-true (is_queued peer.session.step) (settled_by peer.session (reply_to stored.output.replies m)) peer.session peer.waits
        ∙ ap (settled_by peer.session) own in
        record {
          session = settled_session peer.session answer;
          is_there =
              ap (option_and_then (λ (sa : Sa). sa.session)) found ∙ ap (option_map (settled_in stored.output.replies peer.sa.phase.member)) peer.has
              ∙ ap Some its;
          kept = refl;
        }

    -- no two replies go to one member
    each_own_reply : All (λ (reply : SentReply). reply_to stored.output.replies reply.says.member ≡ Some reply) stored.output.replies
    each_own_reply =
        replies_own stored.output.replies
        (ap names_once (replied_joiners host.server.depth batches_after host.server.queue stored.output.replies stored.puts_out.says.replies)
        ∙ joiners_once host.server.queue good.sound.fits.once)

    stored_sends : SendsMessages kind first host entry host_after
    stored_sends = record {
      answers = λ m datagram octets names asks is. absurd (no_other (sym is ∙ stored.answers));
      replies = λ output is.
          subst (λ (given : Output). All (RepliesToPeer kind first host entry host_after) given.replies) (that_output (sym stored.answers ∙ is))
          (λ k d less.
          let peer = all_to_peers k d less in
          record {
            sa = peer.sa;
            is_there = peer.there;
            message = peer.message;
            now = peer.now;
            keeps = keeps_reply (get_or stored.output.replies k d) peer (each_own_reply k d less);
          });
      tells = λ reply c.
          (All-contains IsSaid (says_of stored.output.replies) reply replies_said (subst (λ told. Contains told reply) (ap replies_in stored.answers) c)).tells;
    }

    pub storing : GoesTo next
    storing =
        subst GoesTo (sym stored.now) (record {
          sound = stored_sound;
          keeps = stored_kept;
          renewed = not_opened entry good (Batched stored.output) ((later : ℕ) → KeptAreMessages kind later host_after) stored.answers refl;
          sends = stored_sends;
        })
