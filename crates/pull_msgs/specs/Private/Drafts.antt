-- The datagram of a message while it is written.
use Rattle.std.specs.Prelude.{ℕ, ◌+◌, List, ◌++◌, length, replicate}
use Rattle.gd_wire.specs.Chains.{payload_text, payloads_text, first_kind, filled}
use Rattle.gd_wire.specs.Headers.{header_text}
use Rattle.group_terms.specs.declared.phases.Phase1.{Phase1}
use Rattle.pull_msgs.specs.Texts.{Message, hash_kind, pull_exchange}

-- The header, and zeros where the HASH will be. Payloads come next: the kind of the first one, and how many octets they have.
abbrev pub before_covered : Phase1 → List ℕ → ℕ → ℕ → List ℕ
before_covered phase message next size =
    header_text (record {
      cookies = phase.cookies;
      next = hash_kind;
      exchange = pull_exchange;
      message = message;
      length = 28 + filled (36 + size);
    }) ++ payload_text next (replicate 32 0)

-- and with these payloads
abbrev pub draft_text : Phase1 → Message → List ℕ
draft_text phase said =
    before_covered phase said.message (first_kind said.payloads) (length (payloads_text said.payloads)) ++ payloads_text said.payloads
