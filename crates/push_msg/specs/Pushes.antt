-- What opening a push answers.
use Rattle.std.specs.Prelude.{◌≡◌, ◌<◌, ◌≤◌, ℕ, List, take, drop, Result, Ok, Err}
use Rattle.gd_cipher.specs.Chains.{IsOpened}
use Rattle.gd_wire.specs.Headers.{header}
use Rattle.gd_wire.specs.Readings.{from_start, value_of}
use Rattle.gd_wire.specs.declared.headers.Header.{Header}
use Rattle.group_terms.specs.declared.signatures.SignKind.{SignKind}
use Rattle.group_terms.specs.declared.values.NodeValue.{NodeValue}
use Rattle.group_terms.specs.declared.wires.WireFault.{WireFault}
use Rattle.push_msg.specs.declared.bodies.OpenPush.{OpenPush}
use Rattle.push_msg.specs.Digests.{digest}
use Rattle.push_msg.specs.Readings.{PushRead, push}
use Rattle.push_msg.specs.Texts.{push_exchange}

-- the header of a datagram, as that of a push
abbrev pub header_of : List ℕ → Result Header WireFault
header_of datagram = value_of (header push_exchange (from_start 0 datagram))

-- a datagram for this SPI, whose octets after the header are opened under this KEK as a text
pub record Opens (datagram spi : List ℕ) (kek : NodeValue) (head : Header) (text : List ℕ) : Type 0 where
  pub has_header : header_of datagram ≡ Ok head
  pub for_spi : head.cookies ≡ spi
  pub opened : IsOpened kek.key kek.iv (drop 28 datagram) text

-- what is read of the payloads in a text, whose first one the header names, where the verifier checks signatures of this kind
abbrev pub payloads_of : List ℕ → SignKind → ℕ → List ℕ → Result PushRead WireFault
payloads_of spi kind first text = value_of (push spi kind text first (from_start 28 text))

-- A datagram is opened under this KEK, for this SPI, and this push is read of its payloads, where the verifier checks signatures of this kind.
pub record Reads (datagram spi : List ℕ) (kek : NodeValue) (kind : SignKind) (read : PushRead) : Type 0 where
  pub head : Header
  pub text : List ℕ
  pub opens : Opens datagram spi kek head text
  pub is : payloads_of spi kind head.next text ≡ Ok read

-- A datagram is opened under this KEK, for this SPI, and its payloads have this first fault, where the verifier checks signatures of this kind.
pub record HasFault (datagram spi : List ℕ) (kek : NodeValue) (kind : SignKind) (fault : WireFault) : Type 0 where
  pub head : Header
  pub text : List ℕ
  pub opens : Opens datagram spi kek head text
  pub is : payloads_of spi kind head.next text ≡ Err fault

-- the digest that is signed
abbrev pub digest_of : List ℕ → PushRead → List ℕ
digest_of datagram read = digest (take 28 datagram) read.signed

-- what an opened push gives
abbrev pub given_by : PushRead → OpenPush
given_by read = record { sequence = read.number; body = read.body }
