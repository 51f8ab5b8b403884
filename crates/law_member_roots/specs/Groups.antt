-- A group as a server has it (RFC 2627 section 5.4), the pushes that it sends (RFC 6407 section 4), and what is assumed of ciphers, keys and signatures.
use Rattle.std.specs.Prelude.{◌≡◌, ◌≢◌, ⊤, ℕ, ◌+◌, ◌<◌, ◌≤◌, true, List, [], ◌∷◌, length, take, Some}
use Rattle.std.specs.List.{All, flat_map}
use Rattle.gd_edges.specs.declared.signers.Signer.{Ghosts as SignerGhosts}
use Rattle.gd_edges.specs.declared.verifiers.Verifier.{Ghosts as VerifierGhosts}
use Rattle.group_terms.specs.Names.{Name}
use Rattle.group_terms.specs.Octets.{AreOctets, rekey_spi_octets}
use Rattle.group_terms.specs.declared.signatures.SignKind.{SignKind}
use Rattle.group_terms.specs.declared.values.NodeValue.{NodeValue}
use Rattle.group_values.specs.Values.{Made, batches_made, node_value}
use Rattle.group_model.specs.declared.entries.PushPair.{PushPair}
use Rattle.group_model.specs.Places.{IsValid, holders_at, is_member}
use Rattle.group_model.specs.Stayed.{sequence_at, stayed_at}
use Rattle.group_pushes.specs.Fits.{MadeFits}
use Rattle.group_pushes.specs.Pairs.{IsPairOf}
use Rattle.push_msg.specs.Pushes.{Reads}
use Rattle.push_msg.specs.Readings.{PushRead}

-- ---- the group

-- A group as a server has it: the SPI of its pushes, and the batches that made its epochs, with values that fit. Epochs and numbers have 32 bits.
pub record IsKeyedGroup (depth : ℕ) (spi : List ℕ) (list : List Made) : Type 0 where
  pub some : 1 ≤ depth
  pub shallow : depth ≤ 9
  pub valid : IsValid depth (batches_made list)
  pub fit : All MadeFits list
  pub epochs : length list < 4294967296
  pub numbers : sequence_at depth (batches_made list) (length list) < 4294967296
  pub spi_size : length spi ≡ rekey_spi_octets
  pub spi_octets : AreOctets spi

-- ---- its pushes

-- the verifier checks signatures of the signer's kind, and accepts each that the signer gives a digest, which has 32 octets (FIPS 180-4)
pub record Checks {G V : Type 0} (g : SignerGhosts G) (signer : G) (v : VerifierGhosts V) (verifier : V) : Type 0 where
  pub kind : v.kind_of verifier ≡ g.kind_of signer
  pub accepts : (digest : List ℕ) → length digest ≡ 32 → v.accepts verifier digest (g.signature signer digest) ≡ true

-- the pair of an epoch of the group over which somebody stayed
pub record IsPairAt {G : Type 0} (g : SignerGhosts G) (signer : G) (depth : ℕ) (spi : List ℕ) (list : List Made) (epoch : ℕ) (pair : PushPair)
    : Type 0 where
  pub early : epoch ≤ length list
  pub stayed : stayed_at depth (batches_made list) epoch ≡ true
  pub is_pair : IsPairOf g signer depth spi (take epoch list) pair

-- pairs are those of the epochs after this one, one after the other
abbrev pub ArePairsAfter : {G : Type 0} → SignerGhosts G → G → ℕ → List ℕ → List Made → ℕ → List PushPair → Type 0
ArePairsAfter g signer depth spi list epoch [] = ⊤
ArePairsAfter g signer depth spi list epoch (pair ∷ pairs) =
    IsPairAt g signer depth spi list (epoch + 1) pair × ArePairsAfter g signer depth spi list (epoch + 1) pairs

-- the datagrams of pairs, in the order in which they are due
abbrev pub datagrams_of : List PushPair → List (List ℕ)
datagrams_of pairs = flat_map (λ (pair : PushPair). pair.membership ∷ pair.traffic ∷ []) pairs

-- m is a member at each epoch from one to another
abbrev pub IsMemberFrom : ℕ → List Made → ℕ → ℕ → Name → Type 0
IsMemberFrom depth list first last m =
    (epoch : ℕ) → first ≤ epoch → epoch ≤ last → is_member (holders_at depth (batches_made list) epoch) m ≡ true

-- ---- what is assumed of keys

-- Of a datagram that is sent under the root of one epoch no push is read under the root of another one. So it is supposed of the cipher, and of keys that are
-- drawn; no clause here proves it.
abbrev pub IsForOneRoot : List ℕ → SignKind → List Made → List ℕ → ℕ → Type 0
IsForOneRoot spi kind list datagram epoch =
    (other : ℕ) (root : NodeValue) (read : PushRead) → other ≢ epoch → node_value list 1 other ≡ Some root
    → Reads datagram spi root kind read → ⊥
