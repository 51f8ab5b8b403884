-- The two pushes of a batch (RFC 6407 section 4), octet for octet: the membership push under the old root's key, and the traffic push under the new one's.
use Rattle.std.specs.Prelude.{◌≡◌, ℕ, ◌+◌, ◌-◌, List, [], ◌∷◌, length, Option, None, Some, ⊤, MatchBool}
use Rattle.gd_edges.specs.declared.signers.Signer.{Ghosts as SignerGhosts}
use Rattle.group_terms.specs.Octets.{iv_octets}
use Rattle.group_terms.specs.declared.keys.KeyName.TheVariants.{Node}
use Rattle.group_terms.specs.declared.keys.Wrap.{Wrap}
use Rattle.group_terms.specs.declared.values.NodeValue.{NodeValue}
use Rattle.group_terms.specs.declared.values.TrafficValue.{TrafficValue}
use Rattle.group_values.specs.Values.{HasValue, Made, batches_made, node_value, traffic_value}
use Rattle.group_model.specs.Stayed.{sequence_at, stayed_at}
use Rattle.group_model.specs.Wraps.{node_wraps, wraps_at}
use Rattle.group_model.specs.declared.entries.PushPair.{PushPair}
use Rattle.kd_wire.specs.Texts.{AreUpdateTexts}
use Rattle.kd_wire.specs.declared.sealing.WrapJob.{WrapJob}
use Rattle.push_msg.specs.Texts.{IsPushText, membership_push, traffic_push}
use Rattle.push_msg.specs.Written.{KindFits}

-- A job seals the key that a wrap gives under the one that it names, each with the value that its batch made. The key that seals has an IV of a whole
-- block.
pub record IsJobOf (list : List Made) (wrap : Wrap) (job : WrapJob) : Type 0 where
  pub by : wrap.by ≡ Node job.by.id job.by.made
  pub by_value : HasValue list job.by
  pub by_iv : length job.by.value.iv ≡ iv_octets
  pub gives : wrap.gives ≡ Node job.gives.id job.gives.made
  pub gives_value : HasValue list job.gives

-- there is one job for each wrap, in their order, and no other
abbrev pub AreJobsOf : List Made → List Wrap → List WrapJob → Type 0
AreJobsOf list [] [] = ⊤
AreJobsOf list [] (job ∷ jobs) = ⊥
AreJobsOf list (wrap ∷ wraps) [] = ⊥
AreJobsOf list (wrap ∷ wraps) (job ∷ jobs) = IsJobOf list wrap job × AreJobsOf list wraps jobs

-- the text of the update arrays of these wraps
abbrev pub AreArraysOf : List Made → List Wrap → List ℕ → Type 0
AreArraysOf list wraps arrays = (jobs : List WrapJob) × AreJobsOf list wraps jobs × AreUpdateTexts jobs arrays

-- The pair of the last of these batches, with this SPI: the two numbers after the last one before it, what it encrypts, and both datagrams. The root's
-- old key and its new one have IVs of a whole block, and the signer's signatures are of a kind that can be written.
pub record IsPairOf {G : Type 0} (g : SignerGhosts G) (signer : G) (depth : ℕ) (spi : List ℕ) (list : List Made) (pair : PushPair) : Type 0 where
  pub first : pair.first + 1 ≡ sequence_at depth (batches_made list) (length list)
  pub wraps : pair.wraps ≡ wraps_at depth (batches_made list) (length list)
  pub kind : KindFits (g.kind_of signer)
  pub arrays : List ℕ
  pub are_arrays : AreArraysOf list (node_wraps depth (batches_made list) (length list)) arrays
  pub old_root : NodeValue
  pub is_old_root : node_value list 1 (length list - 1) ≡ Some old_root
  pub old_iv : length old_root.iv ≡ iv_octets
  pub membership : IsPushText (g.signature signer) (g.size_of signer) old_root
      (membership_push (record { spi = spi; sequence = pair.first }) (g.kind_of signer) arrays) pair.membership
  pub root : NodeValue
  pub is_root : node_value list 1 (length list) ≡ Some root
  pub iv : length root.iv ≡ iv_octets
  pub key : TrafficValue
  pub is_key : traffic_value list (length list) ≡ Some key
  pub traffic : IsPushText (g.signature signer) (g.size_of signer) root
      (traffic_push (record { spi = spi; sequence = pair.first + 1 }) key) pair.traffic

-- there is a pair exactly where somebody stayed over the last batch; before the first one nobody was there to stay
abbrev pub IsPairIfStayed : {G : Type 0} → SignerGhosts G → G → ℕ → List ℕ → List Made → Option PushPair → Type 0
IsPairIfStayed g signer depth spi list pair =
    MatchBool (stayed_at depth (batches_made list) (length list))
    ((sent : PushPair) × (pair ≡ Some sent) × IsPairOf g signer depth spi list sent) (pair ≡ None)
