-- Turns of a block at a server: its SAs stay those of peers, what they send goes to peers, its rules stay, and the numbers of their pushes fit.
use Rattle.std.proofs.Common.{◌≡◌, ◌∙◌, ⊎_elim, ℕ, zero, suc, ◌+◌, ◌<◌, ◌^◌, Bool, true, false, length, IfSome, arith}
use Rattle.std.proofs.Common.{List, [], ◌∷◌, Option, None, Some, Result, Ok, Err, MatchBool, refl, sym, ap, subst}
use Rattle.std.specs.Prelude.{slice_get}
use Rattle.std.specs.List.{All, flat_map}
use Rattle.std.proofs.lemmas.List.{length-map}
use Rattle.std.proofs.lemmas.List.Elements.{All-append, All-cons, All-head, All-nil, All-tail}
use Rattle.std.proofs.lemmas.Option.{none-some}
use Rattle.gd_disk.specs.declared.disks.Disk.{Ghosts as DiskGhosts}
use Rattle.gd_edges.specs.declared.signers.Signer.{Ghosts as SignerGhosts}
use Rattle.group_terms.specs.Names.{Name}
use Rattle.group_values.specs.Values.{Made, batches_made}
use Rattle.group_model.specs.Answers.{unless_refused}
use Rattle.group_model.specs.Places.{is_member}
use Rattle.group_model.specs.Refusals.{why_no_leave}
use Rattle.group_model.specs.Servers.{members_now}
use Rattle.group_model.specs.Stayed.{sequence_at, stayed_at}
use Rattle.group_model.specs.declared.entries.Answer.{Answer}
use Rattle.group_model.specs.declared.entries.Answer.TheVariants.{Batched, Done, Opened, Refused}
use Rattle.group_model.specs.declared.entries.Asked.{Asked}
use Rattle.group_model.specs.declared.entries.Asked.TheVariants.{Batch, Leave, Serve}
use Rattle.group_model.specs.declared.entries.Entry.{Entry}
use Rattle.group_model.specs.declared.entries.Outside.{Outside}
use Rattle.group_model.specs.declared.entries.PushPair.{PushPair}
use Rattle.group_model.specs.declared.entries.Refusal.{Refusal}
use Rattle.group_model.specs.declared.entries.Refusal.TheVariants.{NeedsReopen, NoMemory}
use Rattle.group_peers.specs.Peers.{is_peer}
use Rattle.group_peers.specs.declared.members.Peer.{Peer}
use Rattle.group_pushes.specs.Pairs.{IsPairIfStayed, IsPairOf}
use Rattle.group_run.specs.Mails.{mail_in}
use Rattle.group_run.specs.Private.Kept.{GoesToPeer, IsOwn}
use Rattle.group_run.specs.Private.Ran.{IsOfPeer, IsSmall, small_by}
use Rattle.group_run.specs.Private.Turned.{PushesFit, IsNoOpening, opens}
use Rattle.group_run.proofs.ServedLemmas.{AsksBy, IsQuiet, own_after, served_stays, to_peers}
use Rattle.group_steps.specs.Kinds.{speaks}
use Rattle.pull_msgs.specs.declared.messages.First.{First}
use Rattle.pull_msgs.specs.declared.messages.Third.{Third}
use Rattle.pull_sessions.specs.Looks.{IsLook}
use Rattle.pull_sessions.specs.declared.answers.Looked.{Looked}
use Rattle.pull_sessions.specs.declared.answers.LookedAt.{LookedAt}
use Rattle.pull_sessions.specs.declared.answers.LookedAt.TheVariants.{NewFirst, NextThird, Repeat}
use Rattle.pull_sessions.specs.declared.refusals.SessionRefusal.{SessionRefusal}
use Rattle.pull_sessions.specs.declared.answers.Kept.{Kept}
use Rattle.pull_sessions.specs.declared.answers.Kept.TheVariants as kept
use Rattle.register_workers.specs.Own.{HasSender, IsOfLines, IsRequestOf}
use Rattle.register_workers.specs.declared.lines.BlockAsk.TheVariants.{Again, Join}
use Rattle.register_workers.specs.declared.lines.BlockLine.{BlockLine}
use Rattle.server_steps.specs.Batches.{IsBatching, IsInDoubt, IsRefusedBatch, IsStored, RunsOut, list_next}
use Rattle.server_steps.specs.Hosts.{Host}
use Rattle.server_steps.specs.Outsides.{Says}
use Rattle.server_steps.specs.Pulls.{AnswersFirst, AnswersFound, AnswersLook, AnswersThird, Begins, IsAnswering, Queues, Replies, RunsOutAtFirst, answer_kept}
use Rattle.server_steps.specs.Refusals.{refusal_to_first, refusal_to_third}
use Rattle.server_steps.specs.Sent.{pair_by}
use Rattle.server_steps.specs.Steps.{AreServed, IsServed}

-- ---- what sends no push

speaks_as : {answer due : Answer} → answer ≡ due → speaks due ≡ false → speaks answer ≡ false
speaks_as is quiet = ap speaks is ∙ quiet

kept_quiet : (answered : Kept) → speaks (answer_kept answered) ≡ false
kept_quiet (kept.Datagram octets names) = refl
kept_quiet kept.Queued = refl

module _ {D G : Type 0} (g : SignerGhosts G) (signer : G) (block : ℕ → List ℕ) (host : Host D) (datagram : List ℕ) (answer : Answer) (outside : Outside)
    (next : Host D) where
  first_quiet : (why : Option Refusal) (m : Name) (first : First) → AnswersFirst g signer block host why m first datagram answer outside next
      → speaks answer ≡ false
  first_quiet (Some why) m first says = speaks_as says.answers refl
  first_quiet None m first ends =
      ⊎_elim (λ (begins : Begins g signer block host m first datagram answer outside next). speaks_as begins.becomes.answers refl)
      (λ (out : RunsOutAtFirst g signer block host answer outside next). speaks_as out.becomes.answers refl) ends

  third_quiet : (why : Option Refusal) (m : Name) (third : Third) → AnswersThird g signer block host why m third datagram answer outside next
      → speaks answer ≡ false
  third_quiet (Some why) m third says = speaks_as says.answers refl
  third_quiet None m third ends =
      ⊎_elim
      (λ (accepts : MatchBool (is_member (members_now host.server) m) (Replies g signer block host m third datagram answer outside next)
      (Queues g signer block host m third datagram answer outside next)).
      elim (is_member (members_now host.server) m) as (λ b. MatchBool b (Replies g signer block host m third datagram answer outside next)
      (Queues g signer block host m third datagram answer outside next) → speaks answer ≡ false) [
        | true ↦ λ replies. speaks_as replies.becomes.answers refl
        | false ↦ λ queues. speaks_as queues.becomes.answers refl
      ] accepts)
      (λ (out : Says (Refused NoMemory) host answer outside next). speaks_as out.answers refl) ends

  found_quiet : (what : LookedAt) (m : Name) → AnswersFound g signer block host what m datagram answer outside next → speaks answer ≡ false
  found_quiet (Repeat kept) m says = speaks_as says.answers (kept_quiet kept)
  found_quiet (NewFirst first) m answers = first_quiet (refusal_to_first host.head.name host.rules host.server m first) m first answers
  found_quiet (NextThird third) m answers = third_quiet (refusal_to_third host.rules host.server m) m third answers

  look_quiet : (looked : Result Looked SessionRefusal) → AnswersLook g signer block host datagram looked answer outside next → speaks answer ≡ false
  look_quiet (Ok looked) answers = found_quiet looked.what looked.member answers
  look_quiet (Err why) says = speaks_as says.answers refl

  served_quiet : IsAnswering g signer block host datagram answer outside next → speaks answer ≡ false
  served_quiet answering =
      elim host.server.needs_reopen as (λ b. MatchBool b (Says (Refused NeedsReopen) host answer outside next)
      ((looked : Result Looked SessionRefusal) × IsLook host.sessions.sas datagram looked × AnswersLook g signer block host datagram looked answer outside next)
      → speaks answer ≡ false) [
        | true ↦ λ says. speaks_as says.answers refl
        | false ↦ λ found. look_quiet found.0 found.2
      ] answering

leave_quiet : (why : Option Refusal) → speaks (unless_refused why Done) ≡ false
leave_quiet None = refl
leave_quiet (Some why) = refl

-- ---- numbers of pushes

-- the pair that an answer sent, if it did, fits
abbrev FitsBy : Answer → Type 0
FitsBy answer = IfSome (pair_by answer) (λ (pair : PushPair). pair.first + 1 < 2 ^ 32)

quiet_opens : (answer : Answer) → speaks answer ≡ false → opens answer ≡ false
quiet_opens (Opened seen resent) quiet = absurd (cc quiet)
quiet_opens answer quiet = refl

quiet_fits : (answer : Answer) → speaks answer ≡ false → FitsBy answer
quiet_fits (Opened seen resent) quiet = absurd (cc quiet)
quiet_fits (Batched output) quiet = absurd (cc quiet)
quiet_fits answer quiet = tt

-- the number of the second push is that of the batch
pair_fits : {G : Type 0} (g : SignerGhosts G) (signer : G) (depth : ℕ) (spi : List ℕ) (list : List Made) (pair : Option PushPair) (sequence : ℕ)
    → sequence ≡ sequence_at depth (batches_made list) (length (batches_made list)) → sequence < 2 ^ 32 → IsPairIfStayed g signer depth spi list pair
    → IfSome pair (λ (pair : PushPair). pair.first + 1 < 2 ^ 32)
pair_fits g signer depth spi list pair sequence is small = by_stayed (stayed_at depth (batches_made list) (length list))
  where
    many : length (batches_made list) ≡ length list
    many = length-map list (λ (one : Made). one.changes)

    by_stayed : (b : Bool) → MatchBool b ((sent : PushPair) × (pair ≡ Some sent) × IsPairOf g signer depth spi list sent) (pair ≡ None)
        → IfSome pair (λ (pair : PushPair). pair.first + 1 < 2 ^ 32)
    by_stayed true made =
        let same = ap (sequence_at depth (batches_made list)) many in
        subst (λ one. IfSome one (λ (pair : PushPair). pair.first + 1 < 2 ^ 32)) (sym made.1) (omega (arith, made.2.first, is, same, small))
    by_stayed false none = subst (λ one. IfSome one (λ (pair : PushPair). pair.first + 1 < 2 ^ 32)) (sym none) tt

-- an answer opened nothing, and the pair that it sent fits
abbrev IsFit : Answer → Type 0
IsFit answer = (opens answer ≡ false) × FitsBy answer

fit_quiet : (answer : Answer) → speaks answer ≡ false → IsFit answer
fit_quiet answer quiet = (quiet_opens answer quiet, quiet_fits answer quiet)

fit_as : {answer due : Answer} → answer ≡ due → IsFit due → IsFit answer
fit_as is fit = subst IsFit (sym is) fit

module _ {D G : Type 0} (d : DiskGhosts D) (g : SignerGhosts G) (signer : G) (block : ℕ → List ℕ) where
  batch_fit : (host : Host D) (answer : Answer) (outside : Outside) (next : Host D) → small_by answer → IsBatching d g signer block host answer outside next
      → IsFit answer
  batch_fit host answer outside next small ends =
      ⊎_elim
      (λ (stored : IsStored d g signer block host answer outside next).
      let puts = stored.puts_out in
      let is_small : stored.output.sequence < 2 ^ 32 = subst small_by stored.answers small in
      fit_as stored.answers (
        refl,
        pair_fits g signer host.server.depth host.head.spi (list_next d g signer block host) stored.output.pushes
            stored.output.sequence puts.says.sequence is_small puts.pushes,
      ))
      (⊎_elim (λ (doubt : IsInDoubt d g signer block host answer outside next). fit_as doubt.answers (refl, tt))
      (⊎_elim (λ (refused : IsRefusedBatch d g signer block host answer outside next). fit_as refused.says.answers (refl, tt))
      (λ (out : RunsOut d g signer block host answer outside next). fit_as out.answers (refl, tt)))) ends

  -- ---- one turn

  module _ (peers : List Peer) (lines : List BlockLine) (of_peers : All (λ (line : BlockLine). IsOfPeer peers line.asked) lines) where
    at_place : (lines : List BlockLine) (i : ℕ) (line : BlockLine) → slice_get lines i ≡ Some line
        → All (λ (line : BlockLine). IsOfPeer peers line.asked) lines → IsOfPeer peers line.asked
    at_place [] i line is all = absurd (none-some line is)
    at_place (first ∷ lines) zero line is all =
        let same : first ≡ line = cc (is) in
        subst (λ (line : BlockLine). IsOfPeer peers line.asked) same (All-head (λ (line : BlockLine). IsOfPeer peers line.asked) first lines all)
    at_place (first ∷ lines) (suc i) line is all =
        at_place lines i line is (All-tail (λ (line : BlockLine). IsOfPeer peers line.asked) first lines all)

    sender_peer : (m : Name) → HasSender lines m → is_peer peers m ≡ true
    sender_peer m sender =
        let line = sender.1 in
        let is : IsOfPeer peers line.asked = at_place lines sender.0 line sender.2 of_peers in
        ⊎_elim (λ (joins : line.asked ≡ Join m). subst (IsOfPeer peers) joins is) (λ (again : line.asked ≡ Again m). subst (IsOfPeer peers) again is) sender.3

    pub record IsGoodTurn (asked : Asked) (answer : Answer) : Type 0 where
      pub by : AsksBy peers asked
      pub quiet : IsQuiet asked
      pub fit : IsFit answer

    good_turn : (asked : Asked) (host : Host D) (answer : Answer) (outside : Outside) (next : Host D) → IsRequestOf lines asked → small_by answer
        → IsServed d g signer block asked host answer outside next → IsGoodTurn asked answer
    good_turn Batch host answer outside next of small served =
        record { by = tt; quiet = tt; fit = batch_fit host answer outside next small served }
    good_turn (Leave m) host answer outside next of small served =
        let why = why_no_leave host.server.needs_reopen host.server.depth (members_now host.server) host.server.queue m in
        record { by = tt; quiet = tt; fit = fit_quiet answer (speaks_as served.answers (leave_quiet why)) }
    good_turn (Serve m datagram) host answer outside next of small served = record {
      by = sender_peer m of;
      quiet = tt;
      fit = fit_quiet answer (served_quiet g signer block host datagram answer outside next served);
    }
    good_turn asked host answer outside next of small served = absurd of

    -- ---- all of them

    -- the server after turns
    pub record AreGood (host after : Host D) (turns : List Entry) : Type 0 where
      pub own : All (IsOwn peers) after.sessions.sas
      pub to_peers : All (GoesToPeer peers) (flat_map mail_in turns)
      pub rules : after.rules ≡ host.rules
      pub no_opening : All IsNoOpening turns
      pub fits : All PushesFit turns

    pub good_turns : (turns : List Entry) (host after : Host D) → All (IsOfLines lines) turns → All IsSmall turns
        → AreServed d g signer block host turns after → All (IsOwn peers) host.sessions.sas → AreGood host after turns
    good_turns [] host after of small served own = record {
      own = subst (λ (host : Host D). All (IsOwn peers) host.sessions.sas) (sym served) own;
      to_peers = All-nil (GoesToPeer peers);
      rules = ap (λ (host : Host D). host.rules) served;
      no_opening = All-nil IsNoOpening;
      fits = All-nil PushesFit;
    }
    good_turns (turn ∷ turns) host after of small served own =
        let next = served.0 in
        let step = served.1.answered in
        let good = good_turn turn.asked host turn.answer turn.outside next (All-head (IsOfLines lines) turn turns of) (All-head IsSmall turn turns small) step in
        let rest = good_turns turns next after (All-tail (IsOfLines lines) turn turns of) (All-tail IsSmall turn turns small) served.2
        (own_after d g signer block host turn.answer turn.outside next peers turn.asked good.by step own) in
        record {
          own = rest.own;
          to_peers = All-append (GoesToPeer peers) (mail_in turn) (flat_map mail_in turns)
              (to_peers d g signer block host turn.answer turn.outside next peers turn.asked good.by step own) rest.to_peers;
          rules = rest.rules ∙ (served_stays d g signer block host turn.answer turn.outside next turn.asked good.quiet step).rules;
          no_opening = All-cons IsNoOpening turn turns good.fit.0 rest.no_opening;
          fits = All-cons PushesFit turn turns good.fit.1 rest.fits;
        }
