-- What members do with what is on its way to them.
use Rattle.std.specs.Prelude.{◌≡◌, ◌+◌, ◌*◌, ℕ, Bool, true, false, MatchBool, List, [], ◌∷◌, length, count_by, Option, None, Some}
use Rattle.group_terms.specs.Names.{Name}
use Rattle.group_model.specs.declared.entries.Answer.{Answer}
use Rattle.group_model.specs.declared.entries.Asked.{Asked}
use Rattle.group_model.specs.declared.entries.Asked.TheVariants.{Keep, Serve}
use Rattle.group_peers.specs.Peers.{peer_of}
use Rattle.group_peers.specs.declared.members.Peer.{Peer}
use Rattle.member_pull.specs.Views.{Pull}
use Rattle.member_pull.specs.declared.pulls.Step.{Step}
use Rattle.member_pull.specs.declared.pulls.Step.TheVariants as steps
use Rattle.member_steps.specs.Acts.{Agrees, Ignores}
use Rattle.member_steps.specs.Members.{Mail, Members}
use Rattle.member_steps.specs.Steps.{TakesFourth}

-- what is asked, and the members when it is
abbrev pub Ask : Type 0
Ask = Asked × Members

-- The first datagram on its way, to a member whose pull awaits this: a second message, which the member answers by the third; or a fourth one, whose keys it takes.
abbrev pub AsksAt : Step → Name → Members → Option Ask → Type 0
AsksAt (steps.Second iv) m members next = (third : List ℕ) × (acted : Members) × Agrees m third members acted × (next ≡ Some (Serve m third, acted))
AsksAt (steps.Fourth iv nr spi) m members next = (answer : Answer) × (after : Members) × TakesFourth m members answer after × (next ≡ Some (Keep m, members))
AsksAt steps.Ended m members next = ⊥

-- it comes to a member with this pull
abbrev pub AsksBy : Option Pull → Name → Members → Option Ask → Type 0
AsksBy None m members next = ⊥
AsksBy (Some pull) m members next = AsksAt pull.step m members next

-- it goes missing, or comes
pub record AsksFor (m : Name) (members : Members) (next : Option Ask) : Type 0 where
  pub peer : Peer
  pub is_there : peer_of members.all m ≡ Some peer
  pub is : MatchBool peer.loses (next ≡ Some (Keep m, members)) (AsksBy peer.pull m members next)

-- by what is on its way
abbrev pub AsksOf : List Mail → Members → Option Ask → Type 0
AsksOf [] members next = next ≡ None
AsksOf (mail ∷ later) members next = AsksFor mail.0 members next

-- Members ignore what is on its way up to the first datagram that they do not ignore, and that one is dealt with; nothing is asked where there is none.
abbrev pub ReadsMail : Members → Option Ask → Type 0
ReadsMail members next = (read : Members) × Ignores members read × AsksOf read.mail read next

-- they ignore all that is on its way
abbrev pub AreAtRest : Members → Members → Type 0
AreAtRest members rest = Ignores members rest × (rest.mail ≡ [])

-- ---- what may still be read

abbrev pub is_second : Step → Bool
is_second (steps.Second iv) = true
is_second step = false

abbrev pub awaits_second : Option Pull → Bool
awaits_second None = false
awaits_second (Some pull) = is_second pull.step

-- A second message is answered by a third one, which may bring a fourth, and nothing is sent for that.
abbrev pub left_to_read : Members → ℕ
left_to_read members = length members.mail + 2 * count_by (λ (peer : Peer). awaits_second peer.pull) members.all
