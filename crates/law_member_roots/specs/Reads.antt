-- What is read of a push that was sent, under the key of the root under which it was sent (RFC 6407 section 4).
use Rattle.std.specs.Prelude.{◌≡◌, ℕ, true, List, Ok, Some}
use Rattle.std.specs.List.{AllZip}
use Rattle.gd_edges.specs.declared.verifiers.Verifier.{Ghosts as VerifierGhosts}
use Rattle.gd_wire.specs.declared.headers.Header.{Header}
use Rattle.group_terms.specs.declared.keys.KeyName.TheVariants.{Node}
use Rattle.group_terms.specs.declared.keys.Wrap.{Wrap}
use Rattle.group_terms.specs.declared.paths.PathKey.{PathKey}
use Rattle.group_terms.specs.declared.values.NodeValue.{NodeValue}
use Rattle.group_terms.specs.declared.values.TrafficValue.{TrafficValue}
use Rattle.group_values.specs.Values.{HasValue, Made, node_value, traffic_value}
use Rattle.kd_wire.specs.Spans.{span_arrays}
use Rattle.kd_wire.specs.declared.spans.UpdateSpan.{UpdateSpan}
use Rattle.kd_wire.specs.declared.updates.SealedKey.{SealedKey}
use Rattle.push_msg.specs.declared.bodies.OpenBody.TheVariants.{Membership, Traffic}
use Rattle.push_msg.specs.Pushes.{Reads, digest_of, header_of}
use Rattle.push_msg.specs.Readings.{PushRead}
use Rattle.member_store.specs.Takings.{IsUnsealed, keys_given}

-- A given key is that of an encryption: it is called so, and under the value of the key that seals it it opens to its own value.
pub record IsSealedWrap (list : List Made) (wrap : Wrap) (given : SealedKey) : Type 0 where
  pub by : wrap.by ≡ Node given.by given.by_made
  pub gives : wrap.gives ≡ Node given.gives.id given.gives.made
  pub opens : (by key : PathKey) → by.id ≡ given.by → by.made ≡ given.by_made → HasValue list by → IsUnsealed by given key → HasValue list key

-- given keys are those of these encryptions, one each, in their order
abbrev pub AreSealedWraps : List Made → List Wrap → List SealedKey → Type 0
AreSealedWraps list wraps given = AllZip (IsSealedWrap list) wraps given

module _ {V : Type 0} (v : VerifierGhosts V) (verifier : V) (spi : List ℕ) (list : List Made) where
  -- under the root's key of an epoch a push with this number is read, whose signature is accepted
  pub record IsReadAt (epoch number : ℕ) (datagram : List ℕ) : Type 0 where
    pub root : NodeValue
    pub is_root : node_value list 1 epoch ≡ Some root
    pub read : PushRead
    pub reads : Reads datagram spi root (v.kind_of verifier) read
    pub signed : v.accepts verifier (digest_of datagram read) read.signature ≡ true
    pub number_is : read.number ≡ number

  -- it gives the keys of these encryptions
  pub record GivesWraps (epoch number : ℕ) (wraps : List Wrap) (datagram : List ℕ) : Type 0 where
    pub is_read : IsReadAt epoch number datagram
    pub made : ℕ
    pub span : UpdateSpan
    pub body : is_read.read.body ≡ Membership made span
    pub given : AreSealedWraps list wraps (keys_given (span_arrays span is_read.read.keys))

  -- it gives the traffic key of that epoch
  pub record GivesTraffic (epoch number : ℕ) (datagram : List ℕ) : Type 0 where
    pub is_read : IsReadAt epoch number datagram
    pub traffic : TrafficValue
    pub is_traffic : traffic_value list epoch ≡ Some traffic
    pub body : is_read.read.body ≡ Traffic traffic

-- a datagram has the header of a push, for this SPI
pub record HasHeaderFor (spi datagram : List ℕ) : Type 0 where
  pub head : Header
  pub is : header_of datagram ≡ Ok head
  pub for_spi : head.cookies ≡ spi
