-- The text of a push (RFC 6407 section 4): a header whose cookies are the SPI of the Rekey SA, and the payloads SEQ, SA, KD and SIG,
-- encrypted under the KEK, which has the IV too. By our choice a push either is about the keys of the tree, with the policy of the KEK and
-- update arrays, or gives the traffic key, with the policy of the TEK.
use Rattle.std.specs.Prelude.{◌≡◌, ℕ, ◌<◌, ◌≤◌, ◌+◌, List, [], ◌∷◌, ◌++◌, length, None, Some}
use Rattle.gd_cipher.specs.Chains.{IsSealed}
use Rattle.gd_wire.specs.Bodies.{sequence_text}
use Rattle.gd_wire.specs.Chains.{payload_text, padded}
use Rattle.gd_wire.specs.Headers.{header_text}
pub use Rattle.gd_wire.specs.Kinds.{sequence_kind, sa_kind, kd_kind, signature_kind, push_exchange}
use Rattle.gd_wire.specs.declared.headers.Header.{Header}
use Rattle.group_terms.specs.Octets.{AreOctets}
use Rattle.group_terms.specs.declared.signatures.SignKind.{SignKind}
use Rattle.group_terms.specs.declared.values.NodeValue.{NodeValue}
use Rattle.group_terms.specs.declared.values.TrafficValue.{TrafficValue}
use Rattle.kd_wire.specs.Texts.{update_kd, traffic_kd}
use Rattle.sa_wire.specs.Texts.{sa_text}
use Rattle.sa_wire.specs.declared.policies.SaPolicy.{SaPolicy}
use Rattle.push_msg.specs.declared.writers.PushHead.{PushHead}
use Rattle.push_msg.specs.Digests.{digest}

-- what a push says: the SPI of its Rekey SA, its number, a policy, and the body of its key download
pub record Push : Type 0 where
  pub spi : List ℕ
  pub number : ℕ
  pub policy : SaPolicy
  pub keys : List ℕ

-- the membership push: the policy of the KEK, with how pushes are signed, and update arrays, all with the SPI of the head
abbrev pub membership_push : PushHead → SignKind → List ℕ → Push
membership_push head sign arrays = record {
  spi = head.spi;
  number = head.sequence;
  policy = record { kek = Some (record { spi = head.spi; sign = sign }); tek = None };
  keys = update_kd head.spi arrays;
}

-- the traffic push: the policy of the TEK and its key, both with that key's SPI
abbrev pub traffic_push : PushHead → TrafficValue → Push
traffic_push head traffic = record {
  spi = head.spi;
  number = head.sequence;
  policy = record { kek = None; tek = Some (record { spi = traffic.spi }) };
  keys = traffic_kd traffic;
}

-- the payloads that are signed; the last of them names that of the signature
abbrev pub signed_text : Push → List ℕ
signed_text push =
    payload_text sa_kind (sequence_text push.number)
    ++ (payload_text kd_kind (sa_text push.policy) ++ payload_text signature_kind push.keys)

-- all payloads, filled up to whole blocks
abbrev pub plain_text : Push → List ℕ → List ℕ
plain_text push signature = padded (signed_text push ++ payload_text 0 signature)

-- the header of a datagram that has this number of octets after it
abbrev pub push_header : Push → ℕ → Header
push_header push size =
    record { cookies = push.spi; next = sequence_kind; exchange = push_exchange; message = 0 ∷ 0 ∷ 0 ∷ 0 ∷ []; length = 28 + size }

-- the octets of the header of a push with this signature; its length is that of the whole datagram
abbrev pub head_text : Push → List ℕ → List ℕ
head_text push signature = header_text (push_header push (length (plain_text push signature)))

-- The datagram of a push under a KEK, where digests are signed by signatures of one size, 1 to 512 octets. The header that is signed has
-- the length of the whole.
pub record IsPushText (sign : List ℕ → List ℕ) (size : ℕ) (kek : NodeValue) (push : Push) (datagram : List ℕ) : Type 0 where
  pub signature : List ℕ
  pub sealed : List ℕ
  pub some : 0 < size
  pub few : size ≤ 512
  pub has_size : length signature ≡ size
  pub octets : AreOctets signature
  pub signed : signature ≡ sign (digest (head_text push signature) (signed_text push))
  pub is_sealed : IsSealed kek.key kek.iv (plain_text push signature) sealed
  pub is_text : datagram ≡ head_text push signature ++ sealed
