-- The kinds of payloads, and the exchanges.
use Rattle.std.specs.Prelude.{ℕ}

-- the kind of the SA payload, which has the policies (RFC 2408 section 3.1)
abbrev pub sa_kind : ℕ
sa_kind = 1

-- the kind of the payload of an identification (RFC 2408 section 3.1)
abbrev pub identification_kind : ℕ
identification_kind = 5

-- the kind of the payload of a HASH (RFC 2408 section 3.1)
abbrev pub hash_kind : ℕ
hash_kind = 8

-- the kind of the payload of a signature, SIG (RFC 2408 section 3.1)
abbrev pub signature_kind : ℕ
signature_kind = 9

-- the kind of the payload of a nonce (RFC 2408 section 3.1)
abbrev pub nonce_kind : ℕ
nonce_kind = 10

-- the kind of the key download payload, KD (RFC 6407 section 5)
abbrev pub kd_kind : ℕ
kd_kind = 17

-- the kind of the payload of a sequence number, SEQ (RFC 6407 section 5)
abbrev pub sequence_kind : ℕ
sequence_kind = 18

-- the kind of the payload of a group associated policy, GAP (RFC 6407 section 5)
abbrev pub gap_kind : ℕ
gap_kind = 22

-- the exchange GROUPKEY-PULL (RFC 6407 section 3)
abbrev pub pull_exchange : ℕ
pull_exchange = 32

-- the exchange GROUPKEY-PUSH (RFC 6407 section 4)
abbrev pub push_exchange : ℕ
push_exchange = 33
