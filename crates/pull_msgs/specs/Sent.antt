-- What a server sends in pulls under one phase 1 SA (RFC 6407 section 3.2). Each message has a message id, nonces and an IV of its own pull; those of two
-- pulls may be the same.
use Rattle.std.specs.Prelude.{◌≡◌, ℕ, List, length}
use Rattle.group_terms.specs.declared.paths.Keyed.{Keyed}
use Rattle.group_terms.specs.declared.phases.Phase1.{Phase1}
use Rattle.pull_msgs.specs.Fits.{NonceFits, PoliciesFit, ReplyFits}
use Rattle.pull_msgs.specs.Texts.{IsPullText, fourth_message, second_message}
use Rattle.sa_wire.specs.declared.policies.SaPolicy.{SaPolicy}

-- the second message of some pull under this phase 1 SA, with this nonce of the server and these policies
pub record IsSomeSecond (phase : Phase1) (nr : List ℕ) (policy : SaPolicy) (datagram : List ℕ) : Type 0 where
  pub message : List ℕ
  pub iv : List ℕ
  pub ni : List ℕ
  pub message_size : length message ≡ 4
  pub iv_size : length iv ≡ 16
  pub nr_fits : NonceFits nr
  pub policies_fit : PoliciesFit policy
  pub is_text : IsPullText phase iv (second_message message ni nr policy) datagram

-- the fourth message of some pull under this phase 1 SA, with these keys
pub record IsSomeFourth (phase : Phase1) (keyed : Keyed) (datagram : List ℕ) : Type 0 where
  pub message : List ℕ
  pub iv : List ℕ
  pub ni : List ℕ
  pub nr : List ℕ
  pub message_size : length message ≡ 4
  pub iv_size : length iv ≡ 16
  pub keys_fit : ReplyFits keyed
  pub is_text : IsPullText phase iv (fourth_message message ni nr keyed) datagram
