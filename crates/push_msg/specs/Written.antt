-- What is known of a push that was written: what is read of it, and how many octets it has.
use Rattle.std.specs.Prelude.{◌≡◌, ◌<◌, ℕ, List, length}
use Rattle.gd_cipher.specs.Bytes.{AreBytes}
use Rattle.group_terms.specs.Octets.{AreOctets, rekey_spi_octets}
use Rattle.group_terms.specs.declared.signatures.SignKind.{SignKind}
use Rattle.group_terms.specs.declared.values.NodeValue.{NodeValue}
use Rattle.push_msg.specs.declared.bodies.OpenBody.{OpenBody}
use Rattle.push_msg.specs.declared.writers.PushHead.{PushHead}
use Rattle.push_msg.specs.Pushes.{Reads, digest_of}
use Rattle.push_msg.specs.Readings.{PushRead}
use Rattle.push_msg.specs.Texts.{Push}

-- a head that can be written: a SPI of 16 octets, and a sequence number of 32 bits
pub record HeadFits (head : PushHead) : Type 0 where
  pub spi : length head.spi ≡ rekey_spi_octets
  pub octets : AreOctets head.spi
  pub sequence : head.sequence < 4294967296

-- a KEK that can be written: its IV and its key have 16 octets each
pub record KekFits (kek : NodeValue) : Type 0 where
  pub iv : AreBytes 16 kek.iv
  pub key : AreBytes 16 kek.key

-- A kind of signatures can be written: its two numbers in the policy of the KEK have 16 bits each (RFC 6407 section 5.3).
pub record KindFits (kind : SignKind) : Type 0 where
  pub algorithm : kind.algorithm < 65536
  pub key_bits : kind.key_bits < 65536

-- Of a datagram a push is read under a KEK, for its SPI and where the verifier checks signatures of this kind: its number, what it gives,
-- the body of its key download, and a signature of what was sent.
pub record IsReadAs (sign : List ℕ → List ℕ) (kind : SignKind) (kek : NodeValue) (push : Push) (body : OpenBody) (datagram : List ℕ)
    : Type 0 where
  pub read : PushRead
  pub reads : Reads datagram push.spi kek kind read
  pub number : read.number ≡ push.number
  pub gives : read.body ≡ body
  pub keys : read.keys ≡ push.keys
  pub signed : read.signature ≡ sign (digest_of datagram read)
