-- The texts of a pull (RFC 6407 section 3): a header with the cookies of the phase 1 SA and the message id of the pull, and the payload of
-- the HASH and others after it, encrypted under the key of the phase 1 SA (RFC 2409 appendix B).
use Rattle.std.specs.Prelude.{◌≡◌, ℕ, ◌+◌, ◌-◌, List, [], ◌∷◌, ◌++◌, length, drop}
use Rattle.gd_cipher.specs.Chains.{IsSealed}
use Rattle.gd_cipher.specs.Macs.{phase2_iv}
use Rattle.gd_wire.specs.Bodies.{sequence_text, identification_text}
use Rattle.gd_wire.specs.Chains.{Payload, payloads_text, padded}
use Rattle.gd_wire.specs.Headers.{header_text}
pub use Rattle.gd_wire.specs.Kinds.{hash_kind, nonce_kind, identification_kind, sa_kind, gap_kind, sequence_kind, kd_kind, pull_exchange}
use Rattle.group_terms.specs.declared.paths.Keyed.{Keyed}
use Rattle.group_terms.specs.declared.phases.Phase1.{Phase1}
use Rattle.kd_wire.specs.Texts.{reply_kd}
use Rattle.sa_wire.specs.Texts.{sa_text}
use Rattle.sa_wire.specs.declared.policies.SaPolicy.{SaPolicy}
use Rattle.pull_msgs.specs.Hashes.{hash_of}

-- the type of an identification that is the octets of a key id (RFC 2407 section 4.6.2.1)
abbrev pub key_id_type : ℕ
key_id_type = 11

-- what a message says: the message id, the bodies of the nonces of earlier messages one after the other, and its own payloads after that of
-- the HASH
pub record Message : Type 0 where
  pub message : List ℕ
  pub nonces : List ℕ
  pub payloads : List Payload

-- a payload of this kind, with this body
abbrev pub payload_of : ℕ → List ℕ → Payload
payload_of kind body = record { kind = kind; body = body }

-- the member's first: its nonce, and the name of the group
abbrev pub first_message : List ℕ → List ℕ → List ℕ → Message
first_message message ni group = record {
  message = message;
  nonces = [];
  payloads = payload_of nonce_kind ni ∷ payload_of identification_kind (identification_text key_id_type group) ∷ [];
}

-- the server's answer: its nonce, and the policies of the group
abbrev pub second_message : List ℕ → List ℕ → List ℕ → SaPolicy → Message
second_message message ni nr policy = record {
  message = message;
  nonces = ni;
  payloads = payload_of nonce_kind nr ∷ payload_of sa_kind (sa_text policy) ∷ [];
}

-- the member's agreement
abbrev pub third_message : List ℕ → List ℕ → List ℕ → Message
third_message message ni nr = record { message = message; nonces = ni ++ nr; payloads = [] }

-- the server's keys, after the number of the last push
abbrev pub fourth_message : List ℕ → List ℕ → List ℕ → Keyed → Message
fourth_message message ni nr keyed = record {
  message = message;
  nonces = ni ++ nr;
  payloads = payload_of sequence_kind (sequence_text keyed.sequence) ∷ payload_of kd_kind (reply_kd keyed) ∷ [];
}

-- the HASH of a message, which covers its other payloads (RFC 6407 section 3.2)
abbrev pub message_hash : Phase1 → Message → List ℕ
message_hash phase said = hash_of phase said.message said.nonces (payloads_text said.payloads)

-- all payloads, filled up to whole blocks
abbrev pub plain_text : Phase1 → Message → List ℕ
plain_text phase said = padded (payloads_text (payload_of hash_kind (message_hash phase said) ∷ said.payloads))

-- the octets of the header of a message, which names the HASH as its first payload; its length is that of the whole datagram
abbrev pub head_text : Phase1 → Message → List ℕ
head_text phase said = header_text (record {
  cookies = phase.cookies;
  next = hash_kind;
  exchange = pull_exchange;
  message = said.message;
  length = 28 + length (plain_text phase said);
})

-- the datagram of a message under an IV
pub record IsPullText (phase : Phase1) (iv : List ℕ) (said : Message) (datagram : List ℕ) : Type 0 where
  pub sealed : List ℕ
  pub is_sealed : IsSealed phase.key iv (plain_text phase said) sealed
  pub is_text : datagram ≡ head_text phase said ++ sealed

-- the IV of the first message, made from the last cipher block of phase 1 and the message id (RFC 2409 appendix B)
abbrev pub first_iv : Phase1 → List ℕ → List ℕ
first_iv phase message = phase2_iv phase.last message

-- the IV of each later message: the last block of the datagram before it (RFC 2409 appendix B)
abbrev pub next_iv : List ℕ → List ℕ
next_iv datagram = drop (length datagram - 16) datagram
