-- The numbers of the payloads of policies, of their attributes, and of what is taken as the values of these.
use Rattle.std.specs.Prelude.{ℕ, ◌*◌}
use Rattle.group_terms.specs.Octets.{key_octets}

-- the domain of interpretation of GDOI (RFC 6407 section 5.2)
abbrev pub gdoi : ℕ
gdoi = 2

-- what the last payload names as the next one, since none comes after it (RFC 2408 section 3.2)
abbrev pub no_payload : ℕ
no_payload = 0

-- the kind of the payload for the KEK, SAK (RFC 6407 section 5)
abbrev pub sak : ℕ
sak = 15

-- the kind of the payload for the TEK, SAT (RFC 6407 section 5)
abbrev pub sat : ℕ
sat = 16

-- the KEK's attribute for the algorithm that manages its keys (RFC 6407 section 5.3)
abbrev pub management_algorithm : ℕ
management_algorithm = 1

-- the KEK's attribute for its cipher (RFC 6407 section 5.3)
abbrev pub kek_algorithm : ℕ
kek_algorithm = 2

-- the KEK's attribute for the length of its key in bits (RFC 6407 section 5.3)
abbrev pub kek_key_length : ℕ
kek_key_length = 3

-- the KEK's attribute for its lifetime in seconds (RFC 6407 section 5.3)
abbrev pub kek_lifetime : ℕ
kek_lifetime = 4

-- the KEK's attribute for the hash that signatures of rekey datagrams use (RFC 6407 section 5.3)
abbrev pub signature_hash : ℕ
signature_hash = 5

-- the KEK's attribute for the algorithm of the signatures of rekey datagrams (RFC 6407 section 5.3)
abbrev pub signature_algorithm : ℕ
signature_algorithm = 6

-- the KEK's attribute for the length in bits of the key that signs rekey datagrams (RFC 6407 section 5.3)
abbrev pub signature_key_length : ℕ
signature_key_length = 7

-- LKH, as a value of the management algorithm (RFC 6407 section 5.3)
abbrev pub lkh : ℕ
lkh = 1

-- AES, as a value of the KEK's algorithm (RFC 6407 section 5.3)
abbrev pub aes : ℕ
aes = 3

-- SHA-256, as a value of the signature's hash (RFC 6407 section 5.3)
abbrev pub sha_256 : ℕ
sha_256 = 3

-- the TEK's attribute for the unit of its lifetime (RFC 6407 section 5.5, RFC 2407 section 4.5)
abbrev pub life_type : ℕ
life_type = 1

-- the TEK's attribute for how long it lives, in the unit of its life type (RFC 6407 section 5.5, RFC 2407 section 4.5)
abbrev pub life_duration : ℕ
life_duration = 2

-- the TEK's attribute for its encapsulation mode (RFC 6407 section 5.5, RFC 2407 section 4.5)
abbrev pub encapsulation_mode : ℕ
encapsulation_mode = 4

-- the TEK's attribute for the algorithm that authenticates the traffic (RFC 6407 section 5.5, RFC 2407 section 4.5)
abbrev pub authentication_algorithm : ℕ
authentication_algorithm = 5

-- the TEK's attribute for the length in bits of the cipher's key (RFC 6407 section 5.5, RFC 2407 section 4.5)
abbrev pub tek_key_length : ℕ
tek_key_length = 6

-- seconds, as a value of the life type (RFC 2407 section 4.5)
abbrev pub seconds : ℕ
seconds = 1

-- tunnel, as a value of the encapsulation mode (RFC 2407 section 4.5)
abbrev pub tunnel : ℕ
tunnel = 1

-- transport, as a value of the encapsulation mode (RFC 2407 section 4.5)
abbrev pub transport : ℕ
transport = 2

-- HMAC with SHA-256, as a value of the authentication algorithm (RFC 4868 section 3)
abbrev pub hmac_sha_256 : ℕ
hmac_sha_256 = 5

-- GDOI's number for the protocol ESP of a TEK (RFC 6407 section 5.5)
abbrev pub esp : ℕ
esp = 1

-- the number of AES as the transform of ESP (RFC 3602 section 5.2)
abbrev pub esp_aes : ℕ
esp_aes = 12

-- the bits of keys: of the KEK (RFC 6407 section 5.3) and of the TEK (RFC 3602 section 5.3) alike
abbrev pub key_bits : ℕ
key_bits = 8 * key_octets

-- UDP, the protocol of rekey datagrams and of the traffic (RFC 768)
abbrev pub udp : ℕ
udp = 17
