-- After each history a pull takes as the fourth message what was written with the keys of an epoch.
use Rattle.std.proofs.Common.{◌≡◌, ◌∙◌, ap, arith, refl, subst, sym, ℕ, zero, suc, ◌<◌, ◌≤◌, true, List, [], ◌∷◌, length, take, Option, None, Some}
use Rattle.std.specs.Prelude.{Ok, slice_get, slice_index_or}
use Rattle.std.specs.List.{Contains}
use Rattle.std.specs.Option.{option_map}
use Rattle.std.proofs.lemmas.List.Elements.{All-contains}
use Rattle.group_terms.specs.Names.{Name}
use Rattle.group_terms.specs.declared.paths.Keyed.{Keyed}
use Rattle.group_terms.specs.declared.paths.PathKey.{PathKey}
use Rattle.group_terms.specs.declared.phases.Phase1.{Phase1}
use Rattle.group_terms.specs.declared.signatures.SignKind.{SignKind}
use Rattle.group_values.specs.Values.{Made, batches_made}
use Rattle.group_keys.specs.Replies.{IsKeyedOf}
use Rattle.group_model.specs.Places.{holders_at, is_member}
use Rattle.group_model.specs.Stayed.{sequence_at}
use Rattle.group_model.specs.declared.entries.Answer.{Answer}
use Rattle.group_model.specs.declared.entries.Entry.{Entry}
use Rattle.group_model.specs.declared.entries.SymReply.{SymReply}
use Rattle.group_peers.specs.declared.members.Peer.{Peer}
use Rattle.kd_wire.specs.Texts.{KeyedFits}
use Rattle.pull_msgs.specs.Fits.{ReplyFits}
use Rattle.pull_msgs.specs.Readings.{epoch_of_key}
use Rattle.pull_msgs.specs.Sent.{IsSomeFourth, IsSomeSecond}
use Rattle.sa_wire.specs.declared.policies.SaPolicy.{SaPolicy}
use Rattle.member_pull.specs.Fits.{PullFits}
use Rattle.member_pull.specs.Pulls.{IsFourth}
use Rattle.member_pull.specs.Views.{Pull}
use Rattle.law_member_roots.specs.Groups.{IsKeyedGroup}
use Rattle.law_member_roots.specs.Roots.{HasKeysOf}
use Rattle.member_store.specs.Stores.{IsReply, no_key, store_of as store_made}
use Rattle.server_steps.specs.Pulls.{present_policy}
use Rattle.member_steps.specs.Acts.{Acts}
use Rattle.member_steps.specs.Members.{Mail, Members}
use Rattle.member_steps.specs.Steps.{TakesFourth}
use Rattle.group_steps.specs.Devices.{Devices, Keying}
use Rattle.group_steps.specs.Mails.{IsSentTo, MailIsOfTheGroup}
use Rattle.group_steps.specs.Runs.{Outset, Run, no_run}
use Rattle.group_steps.specs.Steps.{IsHistory}
use Rattle.law_store_steps.specs.Follow.{OpenedGroupsHaveKeys, holders_in}
use Rattle.law_store_steps.proofs.ActLemmas.{all_after, stay}
use Rattle.law_store_steps.proofs.OpenedLemmas.{keyed_told}
use Rattle.law_store_steps.proofs.PeerLemmas.{found_named, there}
use Rattle.law_store_steps.proofs.PullLemmas.{IsFit, PullsFit, fit_after, fit_kept, fit_pull}

-- the epoch of the last key of a path
epoch_at : (path : List PathKey) (i : ℕ) → (slice_index_or path i no_key).made ≡ epoch_of_key (slice_get path i)
epoch_at [] i = refl
epoch_at (key ∷ path) zero = refl
epoch_at (key ∷ path) (suc i) = epoch_at path i

-- what is known of what members are told, and of what pulls take
pub record TellsLaws : Type 0 where
  pub pulls : PullsFit
  pub as_written : (old new : Pull) (datagram : List ℕ) (keyed taken : Keyed) → PullFits old → IsSomeFourth old.phase keyed datagram
      → IsFourth old datagram (Ok taken) new → taken ≡ keyed
  pub no_second : (old new : Pull) (nr datagram : List ℕ) (policy : SaPolicy) (taken : Keyed) → PullFits old → IsSomeSecond old.phase nr policy datagram
      → IsFourth old datagram (Ok taken) new → ⊥
  pub reply : (depth epoch : ℕ) (spi : List ℕ) (list : List Made) (m : Name) (keyed : Keyed) → IsKeyedGroup depth spi list → epoch ≤ length list
      → is_member (holders_at depth (batches_made list) epoch) m ≡ true → IsKeyedOf depth spi (take epoch list) m keyed
      → IsReply keyed × HasKeysOf depth spi list epoch m (store_made keyed) × (keyed.sequence ≡ sequence_at depth (batches_made list) epoch)
  pub written : (depth epoch : ℕ) (spi : List ℕ) (list : List Made) (m : Name) (keyed : Keyed) → IsKeyedGroup depth spi list → epoch ≤ length list
      → is_member (holders_at depth (batches_made list) epoch) m ≡ true → IsKeyedOf depth spi (take epoch list) m keyed
      → KeyedFits keyed × (keyed.sequence < 4294967296)

-- what a message tells a member: its keys of an epoch
pub record Tells {D : Type 0} (kind : SignKind) (run : Run D) (m : Name) (octets : List ℕ) (keyed : Keyed) : Type 0 where
  pub says : SymReply
  pub number : says.sequence ≡ sequence_at run.host.server.depth (batches_made run.host.server.list) says.keyed_epoch
  pub sent : IsSentTo kind run.host run.members.all m octets (Some says)
  pub early : says.keyed_epoch ≤ length run.host.server.list
  pub member : is_member (holders_in run says.keyed_epoch) m ≡ true
  pub keys : IsKeyedOf run.host.server.depth run.host.head.spi (take says.keyed_epoch run.host.server.list) m keyed

module _ (laws : TellsLaws) where
  -- what a member is told can be written
  pub reply_fits : (depth epoch : ℕ) (spi : List ℕ) (list : List Made) (m : Name) (keyed : Keyed) → IsKeyedGroup depth spi list → epoch ≤ length list
      → is_member (holders_at depth (batches_made list) epoch) m ≡ true → IsKeyedOf depth spi (take epoch list) m keyed → ReplyFits keyed
  reply_fits depth epoch spi list m keyed group early member keys =
      let reply = (laws.reply depth epoch spi list m keyed group early member keys).0 in
      let written = laws.written depth epoch spi list m keyed group early member keys in
      record {
        fits = written.0;
        few = reply.path.most;
        epoch = reply.epoch ∙ epoch_at keyed.path _;
        sequence = written.1;
      }

  module _ {D : Type 0} (kind : SignKind) (run : Run D) (group : IsKeyedGroup run.host.server.depth run.host.head.spi run.host.server.list) (m : Name)
      (octets : List ℕ) (old ended : Pull) (taken : Keyed) (fits : PullFits old) (fourth : IsFourth old octets (Ok taken) ended) where
    abbrev depth : ℕ
    depth = run.host.server.depth

    abbrev spi : List ℕ
    spi = run.host.head.spi

    abbrev list : List Made
    list = run.host.server.list

    tells_as : (names : Option SymReply) (sent : IsSentTo kind run.host run.members.all m octets names) → old.phase ≡ sent.peer.phase
        → Tells kind run m octets taken
    tells_as None sent under =
        let policy = present_policy spi kind (take sent.message.epoch list) in
        absurd (laws.no_second old ended sent.message.nr octets policy taken fits
        (subst (λ phase. IsSomeSecond phase sent.message.nr policy octets) (sym under) sent.message.is_text) fourth)
    tells_as (Some says) sent under =
        let message = sent.message in
        let to : says.member ≡ m = message.to ∙ sym (found_named run.members.all m sent.peer sent.is_there) in
        let member : is_member (holders_in run says.keyed_epoch) m ≡ true =
        subst (λ m. is_member (holders_in run says.keyed_epoch) m ≡ true) to message.member in
        let keys = subst (λ m. IsKeyedOf depth spi (take says.keyed_epoch list) m message.keyed) to message.keys in
        let written : IsSomeFourth sent.peer.phase message.keyed octets = record {
          message = message.message;
          iv = message.iv;
          ni = message.ni;
          nr = message.nr;
          message_size = message.message_size;
          iv_size = message.iv_size;
          keys_fit = reply_fits depth says.keyed_epoch spi list m message.keyed group message.within member keys;
          is_text = message.is_text;
        } in
        let same : taken ≡ message.keyed =
        laws.as_written old ended octets message.keyed taken fits (subst (λ phase. IsSomeFourth phase message.keyed octets) (sym under) written) fourth in
        record {
          says = says;
          number = ap (λ (reply : SymReply). reply.sequence) message.names;
          sent = sent;
          early = message.within;
          member = member;
          keys = subst (λ keyed. IsKeyedOf depth spi (take says.keyed_epoch list) m keyed) (sym same) keys;
        }

  module _ {D G V : Type 0} (on : Devices D G V) (by : Keying G) (have : OpenedGroupsHaveKeys on by) (mail : MailIsOfTheGroup on by) where
    -- what a member takes as the fourth message after a history
    pub tells : (outset : Outset D) (before : List Entry) (run : Run D) (acted : Members) (m : Name) (answer : Answer) (next : Members)
        → IsHistory on by (no_run outset) before run → Acts by.members_block by.group run.members acted → (fourth : TakesFourth m acted answer next)
        → Contains run.members.mail (m, fourth.datagram) × Tells (on.signers.kind_of by.signer) run m fourth.datagram fourth.keyed
    tells outset before run acted m answer next history acts fourth =
        let kind = on.signers.kind_of by.signer in
        let stays = stay by.members_block by.group run.members acted acts in
        let IsOne : Mail → Type 0 = λ mail. (names : Option SymReply) × IsSentTo kind run.host run.members.all mail.0 mail.1 names in
        let here : Contains acted.mail (m, fourth.datagram) =
        subst (λ mail. Contains mail (m, fourth.datagram)) (sym fourth.gets.is_first) (0, omega arith, refl) in
        let was = stays.mail (m, fourth.datagram) here in
        let sent = All-contains IsOne run.members.mail (m, fourth.datagram) (mail outset before run history) was in
        let fit = there IsFit acted.all m fourth.peer
        (all_after IsFit (fit_kept laws.pulls) by.members_block by.group run.members acted (fit_after laws.pulls on by outset before run history) acts)
        fourth.gets.is_there in
        let pull = fit_pull fourth.peer fourth.told.pull fit fourth.told.has in
        let phase_in : Option Peer → Option Phase1 = λ found. option_map (λ (peer : Peer). peer.phase) found in
        let same : Some fourth.peer.phase ≡ Some sent.1.peer.phase =
        sym (ap phase_in fourth.gets.is_there) ∙ stays.phases m sent.1.peer.phase (ap phase_in sent.1.is_there) in
        let is : fourth.peer.phase ≡ sent.1.peer.phase = cc (same) in (
          was,
          tells_as kind run (keyed_told on by have outset before run history (m, fourth.datagram) was) m fourth.datagram fourth.told.pull fourth.told.ended
              fourth.keyed pull.fits fourth.told.takes sent.0 sent.1 (pull.under ∙ is),
        )
