use Rattle.group_steps.specs.Devices.{devices}
use Rattle.group_steps.proofs.HistoryLemmas.{mail_of_group, members_answered, replies_messages, sessions_keep}
use Rattle.group_steps.proofs.laws.mail_is_of_the_group.Goals as goal

pub returns-clause-mail : goal.returns-clause-mail
returns-clause-mail g c verifier by =
    mail_of_group c.laws_hold.ensures c.messages_stay.ensures (devices g.D.Disk g.G.Signer g.V.Verifier verifier) by
    (c.messages_are_of_the_group.ensures by.signer by.block)

pub returns-clause-kept : goal.returns-clause-kept
returns-clause-kept g c verifier by =
    sessions_keep c.laws_hold.ensures c.messages_stay.ensures (devices g.D.Disk g.G.Signer g.V.Verifier verifier) by
    (c.messages_are_of_the_group.ensures by.signer by.block)

pub returns-clause-answers : goal.returns-clause-answers
returns-clause-answers g c verifier by =
    members_answered c.laws_hold.ensures c.messages_stay.ensures (devices g.D.Disk g.G.Signer g.V.Verifier verifier) by
    (c.messages_are_of_the_group.ensures by.signer by.block)

pub returns-clause-replies : goal.returns-clause-replies
returns-clause-replies g c verifier by =
    replies_messages c.laws_hold.ensures c.messages_stay.ensures (devices g.D.Disk g.G.Signer g.V.Verifier verifier) by
    (c.messages_are_of_the_group.ensures by.signer by.block)
