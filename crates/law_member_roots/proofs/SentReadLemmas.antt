-- A push that a group sent is read again under the root's key under which it was sent, with its given keys.
-- What is read of a push that was sent, and what a store makes of it, meet in `GivesWraps` alone.
use Rattle.std.proofs.Common.{◌≡◌, ◌∙◌, ap, arith, subst, sym, ℕ, ◌++◌, ◌+◌, ◌-◌, ◌*◌, ◌≤◌, List, length, map, take, Some}
use Rattle.std.specs.Prelude.{codes}
use Rattle.std.proofs.lemmas.List.{length-take-le}
use Rattle.sha2.proofs.Facts256.{length-sha256}
use Rattle.gd_edges.specs.declared.signers.Signer.{Ghosts as SignerGhosts}
use Rattle.gd_edges.specs.declared.verifiers.Verifier.{Ghosts as VerifierGhosts}
use Rattle.group_terms.specs.Octets.{AreOctets}
use Rattle.group_terms.specs.declared.keys.Wrap.{Wrap}
use Rattle.group_terms.specs.declared.signatures.SignKind.{SignKind}
use Rattle.group_terms.specs.declared.values.NodeValue.{NodeValue}
use Rattle.group_terms.specs.declared.values.TrafficValue.{TrafficValue}
use Rattle.group_values.specs.Values.{Made, batches_made, node_value, traffic_value}
use Rattle.group_model.specs.Laws.{HoldersStay, LastChangesStay}
use Rattle.group_model.specs.Wraps.{node_wraps}
use Rattle.group_model.specs.declared.entries.PushPair.{PushPair}
use Rattle.group_pushes.specs.Pairs.{AreJobsOf}
use Rattle.kd_wire.specs.Spans.{span_arrays}
use Rattle.kd_wire.specs.Texts.{AreJobsOfOnePush, AreOfOnePush, AreSealedJobs, AreUpdateTexts, Sealed, TrafficFits, update_kd, updates_text}
use Rattle.kd_wire.specs.UpdateTexts.{AreUpdates, array_of}
use Rattle.kd_wire.specs.Widths.{update_octets}
use Rattle.kd_wire.specs.declared.sealing.WrapJob.{WrapJob}
use Rattle.kd_wire.specs.declared.spans.UpdateSpan.{UpdateSpan}
use Rattle.kd_wire.specs.declared.updates.UpdateArray.{UpdateArray}
use Rattle.push_msg.specs.Pushes.{Reads, digest_of}
use Rattle.push_msg.specs.Readings.{epoch_of}
use Rattle.push_msg.specs.Texts.{IsPushText, Push, membership_push, traffic_push}
use Rattle.push_msg.specs.Written.{HeadFits, IsReadAs, KekFits, KindFits}
use Rattle.push_msg.specs.declared.bodies.OpenBody.{OpenBody}
use Rattle.push_msg.specs.declared.bodies.OpenBody.TheVariants.{Membership, Traffic}
use Rattle.push_msg.specs.declared.writers.PushHead.{PushHead}
use Rattle.law_key_ways.specs.Laws.{Laws as WayLaws}
use Rattle.member_store.specs.Takings.{keys_given}
use Rattle.law_member_roots.specs.Groups.{Checks, IsKeyedGroup, IsPairAt}
use Rattle.law_member_roots.proofs.FitLemmas.{node_fits, pair_fits, traffic_fits}
use Rattle.law_member_roots.proofs.FrontLemmas.{front_jobs, front_key, front_traffic, front_wraps}
use Rattle.law_member_roots.proofs.JobLemmas.{few_jobs, of_one_push}
use Rattle.law_member_roots.proofs.OpenedLemmas.{OpensAgain, sealed_wraps}
use Rattle.law_member_roots.specs.Reads.{AreSealedWraps, GivesTraffic, GivesWraps, HasHeaderFor, IsReadAt}

-- the laws of the crates below: of lists of batches, of the ways up, of ciphers, and of texts that are written
pub record ReadLaws : Type 0 where
  pub holders_stay : HoldersStay
  pub changes_stay : LastChangesStay
  pub ways : WayLaws
  pub opens_again : OpensAgain
  pub are_octets : (jobs : List WrapJob) (text : List ℕ) → AreUpdateTexts jobs text → AreOctets text
  pub have_size : (jobs : List WrapJob) (text : List ℕ) → AreUpdateTexts jobs text → length text ≡ update_octets * length jobs
  pub are_sealed : (jobs : List WrapJob) (text : List ℕ) → AreJobsOfOnePush jobs → AreUpdateTexts jobs text
      → (updates : List Sealed) × AreSealedJobs jobs text updates
  pub are_updates : (updates : List Sealed) → AreOfOnePush updates → AreUpdates (map array_of updates) (updates_text updates)
  pub membership : (sign : List ℕ → List ℕ) (size : ℕ) (kind : SignKind) (head : PushHead) (kek : NodeValue) (given : List UpdateArray)
      (arrays datagram : List ℕ) → HeadFits head → KekFits kek → KindFits kind → AreOctets arrays → length arrays ≤ 64000 → AreUpdates given arrays
      → IsPushText sign size kek (membership_push head kind arrays) datagram
      → (span : UpdateSpan) × (span_arrays span (update_kd head.spi arrays) ≡ given)
      × IsReadAs sign kind kek (membership_push head kind arrays) (Membership (epoch_of given) span) datagram
  pub traffic : (sign : List ℕ → List ℕ) (size : ℕ) (kind : SignKind) (head : PushHead) (kek : NodeValue) (traffic : TrafficValue)
      (datagram : List ℕ) → HeadFits head → KekFits kek → TrafficFits traffic → IsPushText sign size kek (traffic_push head traffic) datagram
      → IsReadAs sign kind kek (traffic_push head traffic) (Traffic traffic) datagram

module _ (laws : ReadLaws) {G : Type 0} (g : SignerGhosts G) (signer : G) (depth : ℕ) (spi : List ℕ) (list : List Made) (pair : PushPair) where
  -- what was read for the signer's kind is read by the verifier, which accepts the signature
  abbrev read_at : {V : Type 0} (v : VerifierGhosts V) (verifier : V) (epoch : ℕ) (root : NodeValue) (push : Push) (body : OpenBody) (datagram : List ℕ) → Checks g signer v verifier
      → node_value list 1 epoch ≡ Some root → IsReadAs (g.signature signer) (g.kind_of signer) root push body datagram
      → IsReadAt v verifier push.spi list epoch push.number datagram
  read_at v verifier epoch root push body datagram checks is_root is = record {
    root = root;
    is_root = is_root;
    read = is.read;
    reads = subst (λ kind. Reads datagram push.spi root kind is.read) (sym checks.kind) is.reads;
    signed = ap (v.accepts verifier (digest_of datagram is.read)) is.signed
        ∙ checks.accepts (digest_of datagram is.read) (length-sha256 (codes "rekey" ++ (take 28 datagram ++ is.read.signed)));
    number_is = is.number;
  }

  -- the update arrays of a membership push, and what is read of it
  module _ (sent : ℕ) (group : IsKeyedGroup depth spi list) (at : IsPairAt g signer depth spi list (sent + 1) pair) where
    abbrev wraps : List Wrap
    wraps = node_wraps depth (batches_made list) (sent + 1)

    abbrev jobs : List WrapJob
    jobs = at.is_pair.are_arrays.0

    are_jobs : AreJobsOf list wraps jobs
    are_jobs =
        front_jobs (sent + 1) list wraps jobs
        (subst (λ wraps. AreJobsOf (take (sent + 1) list) wraps jobs) (front_wraps laws.holders_stay laws.changes_stay depth (sent + 1) list at.early)
        at.is_pair.are_arrays.1)

    sealed_jobs : (updates : List Sealed) × AreSealedJobs jobs at.is_pair.arrays updates
    sealed_jobs =
        laws.are_sealed jobs at.is_pair.arrays (of_one_push laws.ways depth sent spi list group at.early jobs are_jobs at.stayed) at.is_pair.are_arrays.2

    are_given : AreSealedWraps list wraps (keys_given (map array_of sealed_jobs.0))
    are_given =
        sealed_wraps laws.opens_again list group.fit wraps sealed_jobs.0
        (subst (λ jobs. AreJobsOf list wraps jobs) (sym sealed_jobs.1.are_jobs) are_jobs) sealed_jobs.1.are_sealed

    old_root : node_value list 1 sent ≡ Some at.is_pair.old_root
    old_root =
        let front = length-take-le (sent + 1) list at.early in
        let before : length (take (sent + 1) list) - 1 ≡ sent = omega (arith, front) in
        front_key (sent + 1) list (record { id = 1; made = sent; value = at.is_pair.old_root })
        (subst (λ epoch. node_value (take (sent + 1) list) 1 epoch ≡ Some at.is_pair.old_root) before at.is_pair.is_old_root)

    read_as : (span : UpdateSpan) × (span_arrays span (update_kd spi at.is_pair.arrays) ≡ map array_of sealed_jobs.0)
        × IsReadAs (g.signature signer) (g.kind_of signer) at.is_pair.old_root
        (membership_push (record { spi = spi; sequence = pair.first }) (g.kind_of signer) at.is_pair.arrays)
        (Membership (epoch_of (map array_of sealed_jobs.0)) span) pair.membership
    read_as =
        let fits = pair_fits laws.holders_stay g signer depth spi list (sent + 1) pair group at in
        let few = few_jobs laws.ways depth sent spi list group at.early jobs are_jobs in
        let size = laws.have_size jobs at.is_pair.arrays at.is_pair.are_arrays.2 in
        laws.membership (g.signature signer) (g.size_of signer) (g.kind_of signer) (record { spi = spi; sequence = pair.first }) at.is_pair.old_root
        (map array_of sealed_jobs.0) at.is_pair.arrays pair.membership
        (record { spi = group.spi_size; octets = group.spi_octets; sequence = omega (arith, fits) })
        (node_fits list 1 sent at.is_pair.old_root group.fit old_root) at.is_pair.kind
        (laws.are_octets jobs at.is_pair.arrays at.is_pair.are_arrays.2) (omega (arith, few, size))
        (subst (λ text. AreUpdates (map array_of sealed_jobs.0) text) (sym sealed_jobs.1.is_text) (laws.are_updates sealed_jobs.0 sealed_jobs.1.push))
        at.is_pair.membership

    gives_wraps : {V : Type 0} (v : VerifierGhosts V) (verifier : V) → Checks g signer v verifier → GivesWraps v verifier spi list sent pair.first wraps pair.membership
    gives_wraps v verifier checks = record {
      is_read =
          read_at v verifier sent at.is_pair.old_root (membership_push (record { spi = spi; sequence = pair.first }) (g.kind_of signer) at.is_pair.arrays)
          (Membership (epoch_of (map array_of sealed_jobs.0)) read_as.0) pair.membership checks old_root read_as.2;
      made = epoch_of (map array_of sealed_jobs.0);
      span = read_as.0;
      body = read_as.2.gives;
      given =
          subst (λ (arrays : List UpdateArray). AreSealedWraps list wraps (keys_given arrays)) (sym (ap (span_arrays read_as.0) read_as.2.keys ∙ read_as.1))
          are_given;
    }

  -- what is read of a traffic push
  module _ (epoch : ℕ) (group : IsKeyedGroup depth spi list) (at : IsPairAt g signer depth spi list epoch pair) where
    root : node_value list 1 epoch ≡ Some at.is_pair.root
    root =
        front_key epoch list (record { id = 1; made = epoch; value = at.is_pair.root })
        (subst (λ now. node_value (take epoch list) 1 now ≡ Some at.is_pair.root) (length-take-le epoch list at.early) at.is_pair.is_root)

    key : traffic_value list epoch ≡ Some at.is_pair.key
    key =
        front_traffic epoch list epoch at.is_pair.key
        (subst (λ now. traffic_value (take epoch list) now ≡ Some at.is_pair.key) (length-take-le epoch list at.early) at.is_pair.is_key)

    traffic_as : IsReadAs (g.signature signer) (g.kind_of signer) at.is_pair.root
        (traffic_push (record { spi = spi; sequence = pair.first + 1 }) at.is_pair.key) (Traffic at.is_pair.key) pair.traffic
    traffic_as =
        laws.traffic (g.signature signer) (g.size_of signer) (g.kind_of signer) (record { spi = spi; sequence = pair.first + 1 }) at.is_pair.root at.is_pair.key
        pair.traffic
        (record {
          spi = group.spi_size;
          octets = group.spi_octets;
          sequence = pair_fits laws.holders_stay g signer depth spi list epoch pair group at;
        })
        (node_fits list 1 epoch at.is_pair.root group.fit root) (traffic_fits list epoch at.is_pair.key group.fit key) at.is_pair.traffic

    gives_traffic : {V : Type 0} (v : VerifierGhosts V) (verifier : V) → Checks g signer v verifier → GivesTraffic v verifier spi list epoch (pair.first + 1) pair.traffic
    gives_traffic v verifier checks = record {
      is_read =
          read_at v verifier epoch at.is_pair.root (traffic_push (record { spi = spi; sequence = pair.first + 1 }) at.is_pair.key) (Traffic at.is_pair.key) pair.traffic
          checks root traffic_as;
      traffic = at.is_pair.key;
      is_traffic = key;
      body = traffic_as.gives;
    }

  -- ---- both

  -- Of the membership push of the epoch after one a push is read under the root's key of that one, and gives the keys of what that epoch encrypts.
  pub membership_is_read : {V : Type 0} (v : VerifierGhosts V) (verifier : V) (sent : ℕ) → IsKeyedGroup depth spi list → Checks g signer v verifier → IsPairAt g signer depth spi list (sent + 1) pair
      → GivesWraps v verifier spi list sent pair.first (node_wraps depth (batches_made list) (sent + 1)) pair.membership
  membership_is_read v verifier sent group checks at = gives_wraps sent group at v verifier checks

  -- Of the traffic push of an epoch a push is read under the root's key of that epoch, and gives its traffic key.
  pub traffic_is_read : {V : Type 0} (v : VerifierGhosts V) (verifier : V) (epoch : ℕ) → IsKeyedGroup depth spi list → Checks g signer v verifier → IsPairAt g signer depth spi list epoch pair
      → GivesTraffic v verifier spi list epoch (pair.first + 1) pair.traffic
  traffic_is_read v verifier epoch group checks at = gives_traffic epoch group at v verifier checks

  -- Each has the header of a push for the SPI of the group.
  own_header : (root : NodeValue) (push : Push) (body : OpenBody) (datagram : List ℕ)
      → IsReadAs (g.signature signer) (g.kind_of signer) root push body datagram → HasHeaderFor push.spi datagram
  own_header root push body datagram is = record { head = is.reads.head; is = is.reads.opens.has_header; for_spi = is.reads.opens.for_spi }

  pub membership_header : (sent : ℕ) → IsKeyedGroup depth spi list → IsPairAt g signer depth spi list (sent + 1) pair → HasHeaderFor spi pair.membership
  membership_header sent group at = own_header _ _ _ pair.membership (read_as sent group at).2

  pub traffic_header : (epoch : ℕ) → IsKeyedGroup depth spi list → IsPairAt g signer depth spi list epoch pair → HasHeaderFor spi pair.traffic
  traffic_header epoch group at = own_header _ _ _ pair.traffic (traffic_as epoch group at)
