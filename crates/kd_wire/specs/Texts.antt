-- The text of a key download payload's body (RFC 6407 section 5.6). Both dates of a key are left open, which is 0.
use Rattle.std.specs.Prelude.{◌≡◌, ℕ, ◌+◌, ◌*◌, ◌/◌, ◌<◌, ◌≤◌, ◌==◌, true, List, [], ◌∷◌, ◌++◌, length, map, All}
use Rattle.std.specs.List.{flat_map, list_any}
use Rattle.byteorder.specs.Endian.{big_bytes}
use Rattle.gd_cipher.specs.Chains.{IsSealed}
use Rattle.gd_wire.specs.Attributes.{long_text}
use Rattle.group_terms.specs.Octets.{AreOctets, iv_octets, key_octets, data_octets, integrity_octets, rekey_spi_octets, traffic_spi_octets}
use Rattle.group_terms.specs.declared.paths.Keyed.{Keyed}
use Rattle.group_terms.specs.declared.values.NodeValue.{NodeValue}
use Rattle.group_terms.specs.declared.paths.PathKey.{PathKey}
use Rattle.group_terms.specs.declared.values.TrafficValue.{TrafficValue}
use Rattle.kd_wire.specs.declared.sealing.WrapJob.{WrapJob}
use Rattle.kd_wire.specs.declared.updates.UpdateKey.{UpdateKey}
use Rattle.kd_wire.specs.Widths.{update_octets}

-- what comes before the attributes of a packet, given how many octets these have: its header, and its SPI after the size of that
abbrev pub packet_head : ℕ → List ℕ → ℕ → List ℕ
packet_head kind spi size = kind ∷ 0 ∷ big_bytes 2 (5 + length spi + size) ++ length spi ∷ spi

-- a key packet (RFC 6407 section 5.6): what comes before its attributes, and these
abbrev pub packet_text : ℕ → List ℕ → List ℕ → List ℕ
packet_text kind spi attributes = packet_head kind spi (length attributes) ++ attributes

-- the number of packets, and these
abbrev pub body_text : ℕ → List ℕ → List ℕ
body_text count packets = big_bytes 2 count ++ big_bytes 2 0 ++ packets

-- what comes before the data of a key of LKH (section 5.6.3.1): its ID, its type, a reserved octet, both dates, and its handle
abbrev pub key_head : ℕ → ℕ → List ℕ
key_head id made = big_bytes 2 id ++ 3 ∷ 0 ∷ big_bytes 4 0 ++ big_bytes 4 0 ++ big_bytes 4 made

-- a key of LKH (section 5.6.3.1): what comes before its data, and the data, sealed or not
abbrev pub key_text : ℕ → ℕ → List ℕ → List ℕ
key_text id made octets = key_head id made ++ octets

-- the data of a key: its IV and the key itself
abbrev pub data_of : NodeValue → List ℕ
data_of value = value.iv ++ value.key

-- the packet of a traffic key (section 5.6.1)
abbrev pub traffic_text : TrafficValue → List ℕ
traffic_text traffic = packet_text 1 traffic.spi (long_text 1 traffic.cipher_key ++ long_text 2 traffic.integrity_key)

-- the keys of a path, one after the other, as a download array has them (section 5.6.3.1)
abbrev pub path_text : List PathKey → List ℕ
path_text path = flat_map (λ (key : PathKey). key_text key.id key.made (data_of key.value)) path

-- the attribute with the download array of a path (section 5.6.3.1): a version, the number of keys, a reserved octet, and the keys
abbrev pub download_text : List PathKey → List ℕ
download_text path = long_text 1 (1 ∷ big_bytes 2 (length path) ++ 0 ∷ path_text path)

-- An update array that gives one key (section 5.6.3.2): the key's data, sealed by cipher block chaining under the key that the array names,
-- which has the IV too.
abbrev pub update_text : WrapJob → List ℕ → List ℕ
update_text job sealed =
    long_text 2 (1 ∷ big_bytes 2 1 ++ 0 ∷ big_bytes 2 job.by.id ++ big_bytes 2 0 ++ big_bytes 4 job.by.made
    ++ key_text job.gives.id job.gives.made sealed)

-- This text is the update array of a job: it has the data of the key that the job gives, sealed under the other key of the job, with that one's IV.
pub record IsUpdate (job : WrapJob) (text : List ℕ) : Type 0 where
  pub sealed : List ℕ
  pub is_sealed : IsSealed job.by.value.key job.by.value.iv (data_of job.gives.value) sealed
  pub octets : length sealed ≡ data_octets
  pub small_octets : AreOctets sealed
  pub is_text : text ≡ update_text job sealed

-- The text of jobs: one update array after the other, each that of a job, in their order.
abbrev pub AreUpdateTexts : List WrapJob → List ℕ → Type 0
AreUpdateTexts [] text = text ≡ []
AreUpdateTexts (job ∷ jobs) text =
    (first : List ℕ) × (rest : List ℕ) × IsUpdate job first × AreUpdateTexts jobs rest × (text ≡ first ++ rest)

-- the body with a traffic key alone
abbrev pub traffic_kd : TrafficValue → List ℕ
traffic_kd traffic = body_text 1 (traffic_text traffic)

-- the body with update arrays alone, in one packet with this SPI
abbrev pub update_kd : List ℕ → List ℕ → List ℕ
update_kd spi arrays = body_text 1 (packet_text 3 spi arrays)

-- the body for a member that registers: a packet with the traffic key, and one with the download array of the member's path
abbrev pub reply_kd : Keyed → List ℕ
reply_kd keyed = body_text 2 (traffic_text keyed.traffic ++ packet_text 3 keyed.spi (download_text keyed.path))

-- A key that can be written: its position has a number of 2 octets, which is not 0, its epoch one of 4, and its IV and itself have as many octets as are due.
pub record PathKeyFits (key : PathKey) : Type 0 where
  pub some : 0 < key.id
  pub id : key.id < 65536
  pub made : key.made < 4294967296
  pub iv : length key.value.iv ≡ iv_octets
  pub octets : length key.value.key ≡ key_octets
  pub small_iv : AreOctets key.value.iv
  pub small_octets : AreOctets key.value.key

-- A traffic key that can be written: the key of the cipher, that of the integrity, and the SPI have as many octets as are due.
pub record TrafficFits (traffic : TrafficValue) : Type 0 where
  pub cipher_key : length traffic.cipher_key ≡ key_octets
  pub integrity_key : length traffic.integrity_key ≡ integrity_octets
  pub spi : length traffic.spi ≡ traffic_spi_octets
  pub small_cipher_key : AreOctets traffic.cipher_key
  pub small_integrity_key : AreOctets traffic.integrity_key
  pub small_spi : AreOctets traffic.spi

-- keys from any position up to the root
abbrev pub LeadsUp : List PathKey → Type 0
LeadsUp [] = ⊥
LeadsUp (key ∷ []) = key.id ≡ 1
LeadsUp (key ∷ above ∷ keys) = (above.id ≡ key.id / 2) × LeadsUp (above ∷ keys)

-- a path that a download array can have, of a leaf below the root and the positions above it (RFC 6407 section 5.6.3.1)
pub record IsPath (path : List PathKey) : Type 0 where
  pub up : LeadsUp path
  pub least : 2 ≤ length path
  pub most : length path ≤ 16

-- what a member learns when it registers, where it can be written: a path that leads to the root, its keys, the SPI, and the traffic key
pub record KeyedFits (keyed : Keyed) : Type 0 where
  pub path : IsPath keyed.path
  pub keys : All PathKeyFits keyed.path
  pub spi : length keyed.spi ≡ rekey_spi_octets
  pub small_spi : AreOctets keyed.spi
  pub traffic : TrafficFits keyed.traffic

-- a job that can be written, since its two keys can be
pub record JobFits (job : WrapJob) : Type 0 where
  pub by : PathKeyFits job.by
  pub gives : PathKeyFits job.gives

-- a job with the sealed data of its key
pub record Sealed : Type 0 where
  pub job : WrapJob
  pub octets : List ℕ

-- a job that can be written with its sealed data: its two keys can be, and the sealed data has as many octets as are due
pub record SealedFits (sealed : Sealed) : Type 0 where
  pub by : PathKeyFits sealed.job.by
  pub gives : PathKeyFits sealed.job.gives
  pub octets : length sealed.octets ≡ data_octets
  pub small_octets : AreOctets sealed.octets

-- the text of jobs whose data is sealed: their update arrays, one after the other, in their order
abbrev pub updates_text : List Sealed → List ℕ
updates_text updates = flat_map (λ (update : Sealed). update_text update.job update.octets) updates

-- Jobs of one push: the keys that they give are of one epoch, and one of them is the root's.
pub record AreOfOnePush (updates : List Sealed) : Type 0 where
  pub fit : All SealedFits updates
  pub few : update_octets * length updates ≤ 65000
  pub epoch : ℕ
  pub made : All (λ (update : Sealed). update.job.gives.made ≡ epoch) updates
  pub root : list_any (λ (update : Sealed). update.job.gives.id == 1) updates ≡ true

-- the same of jobs whose keys' data is not sealed yet
pub record AreJobsOfOnePush (jobs : List WrapJob) : Type 0 where
  pub fit : All JobFits jobs
  pub few : update_octets * length jobs ≤ 65000
  pub epoch : ℕ
  pub made : All (λ (job : WrapJob). job.gives.made ≡ epoch) jobs
  pub root : list_any (λ (job : WrapJob). job.gives.id == 1) jobs ≡ true

-- The sealed data of a job is that of the key that the job gives, sealed under the other key of the job, with that one's IV.
abbrev pub IsSealedJob : Sealed → Type 0
IsSealedJob update = IsSealed update.job.by.value.key update.job.by.value.iv (data_of update.job.gives.value) update.octets

-- These are the jobs, in their order, each with its sealed data; they are of one push, and the text is that of their update arrays.
pub record AreSealedJobs (jobs : List WrapJob) (text : List ℕ) (updates : List Sealed) : Type 0 where
  pub are_jobs : map (λ (update : Sealed). update.job) updates ≡ jobs
  pub are_sealed : All IsSealedJob updates
  pub push : AreOfOnePush updates
  pub is_text : text ≡ updates_text updates

-- the key that a job of a push gives
abbrev pub key_of : Sealed → UpdateKey
key_of update = record { id = update.job.gives.id; made = update.job.gives.made; sealed = update.octets }
