-- What members get where their server serves a request.
use Rattle.std.specs.Prelude.{List, [], ◌∷◌, map}
use Rattle.group_terms.specs.Names.{Name}
use Rattle.group_model.specs.declared.entries.Answer.{Answer}
use Rattle.group_model.specs.declared.entries.Answer.TheVariants.{Batched, Datagram, Done}
use Rattle.group_model.specs.declared.entries.Asked.{Asked}
use Rattle.group_model.specs.declared.entries.Asked.TheVariants.{Batch, Introduce, Reopen, Serve}
use Rattle.group_model.specs.declared.entries.SentReply.{SentReply}
use Rattle.group_peers.specs.Peers.{introduced}
use Rattle.member_steps.specs.Members.{Mail, Members, with_all, with_mail, with_mail_left}

-- whose SA is taken up was introduced
abbrev pub introduced_by : Answer → Name → Members → Members
introduced_by Done m members = with_all members (introduced members.all m)
introduced_by answer m members = members

-- a message of a pull is on its way to who asked
abbrev pub mail_to : Name → Answer → List Mail
mail_to m (Datagram octets names) = (m, octets) ∷ []
mail_to m answer = []

-- a reply as it is on its way (RFC 6407 section 3.2)
abbrev pub mail_of : SentReply → Mail
mail_of reply = (reply.says.member, reply.datagram)

-- the replies of a batch are, in their order
abbrev pub mail_by : Answer → List Mail
mail_by (Batched output) = map mail_of output.replies
mail_by answer = []

-- By what was asked, and the answer. What is on its way comes after what was before; a request to open the group again loses all of it, by our choice even
-- where it is refused.
abbrev pub get : Asked → Answer → Members → Members
get (Introduce phase) answer members = introduced_by answer phase.member members
get (Serve m datagram) answer members = with_mail members (mail_to m answer)
get Batch answer members = with_mail members (mail_by answer)
get Reopen answer members = with_mail_left members []
get asked answer members = members
