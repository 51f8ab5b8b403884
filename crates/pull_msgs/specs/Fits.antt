-- What fits what is written of it: as many octets as are due, each less than 256.
use Rattle.std.specs.Prelude.{◌≡◌, ◌<◌, ◌≤◌, ℕ, List, length, true, IsSome}
use Rattle.byteorder.specs.Endian.{big_from}
use Rattle.gd_cipher.specs.Bytes.{AreBytes}
use Rattle.group_terms.specs.Octets.{AreOctets}
use Rattle.group_terms.specs.declared.paths.Keyed.{Keyed}
use Rattle.group_terms.specs.declared.phases.Phase1.{Phase1}
use Rattle.gd_wire.specs.Headers.{suits_exchange}
use Rattle.kd_wire.specs.Texts.{KeyedFits}
use Rattle.sa_wire.specs.Texts.{PolicyFits}
use Rattle.sa_wire.specs.declared.policies.SaPolicy.{SaPolicy}
use Rattle.pull_msgs.specs.Readings.{root_made}
use Rattle.pull_msgs.specs.Texts.{pull_exchange}

-- a phase 1 SA under which messages can be written: its two cookies have 16 octets together, and so has its key
pub record PhaseFits (phase : Phase1) : Type 0 where
  pub cookies : length phase.cookies ≡ 16
  pub cookie_octets : AreOctets phase.cookies
  pub key : AreBytes 16 phase.key

-- a message id of a pull, which is not that of phase 1 (RFC 2408 section 3.1)
pub record MessageFits (message : List ℕ) : Type 0 where
  pub size : length message ≡ 4
  pub octets : AreOctets message
  pub suits : suits_exchange pull_exchange (big_from 0 4 message) ≡ true

-- a nonce that can be written: 8 to 128 octets (RFC 6407 section 5.8)
pub record NonceFits (nonce : List ℕ) : Type 0 where
  pub least : 8 ≤ length nonce
  pub most : length nonce ≤ 128
  pub octets : AreOctets nonce

-- the keys of a path that leads up to the root, whose epoch is that in which the root's key was made
pub record ReplyFits (keyed : Keyed) : Type 0 where
  pub fits : KeyedFits keyed
  pub few : length keyed.path ≤ 16
  pub epoch : keyed.epoch ≡ root_made keyed.path
  pub sequence : keyed.sequence < 4294967296

-- both policies are there, and can be written
pub record PoliciesFit (policy : SaPolicy) : Type 0 where
  pub fits : PolicyFits policy
  pub kek : IsSome policy.kek
  pub tek : IsSome policy.tek
