-- What the values of SAs and of their sessions fit.
use Rattle.std.specs.Prelude.{◌≡◌, List, [], ◌∷◌, take, drop, Option, Some}
use Rattle.gd_cipher.specs.Bytes.{AreBytes}
use Rattle.pull_msgs.specs.Fits.{MessageFits, NonceFits, PhaseFits}
use Rattle.pull_sessions.specs.declared.sas.Sa.{Sa}
use Rattle.pull_sessions.specs.declared.sas.Session.{Session}

-- A session has a message id of a pull, nonces and an IV that can be written. The datagram that it took last has the message id in its header, after both
-- cookies and four octets more (RFC 2408 section 3.1).
pub record SessionFits (session : Session) : Type 0 where
  pub message : MessageFits session.message
  pub ni : NonceFits session.ni
  pub nr : NonceFits session.nr
  pub iv : AreBytes 16 session.iv
  pub last : take 4 (drop 20 session.last) ≡ session.message

-- so has a session, if there is one
abbrev pub IfSession : Option Session → Type 0
IfSession session = (one : Session) → session ≡ Some one → SessionFits one

-- an SA has cookies and a key that can be written; and so can its session, if it has one
pub record SaFits (sa : Sa) : Type 0 where
  pub phase : PhaseFits sa.phase
  pub session : IfSession sa.session

-- so have all SAs
abbrev pub AllFit : List Sa → Type 0
AllFit [] = Unit {0}
AllFit (sa ∷ sas) = SaFits sa × AllFit sas
