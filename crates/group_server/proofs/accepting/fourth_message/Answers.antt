use Rattle.group_server.proofs.accepting.fourth_message.Goals as goal

pub returns-clause-is : goal.returns-clause-is
returns-clause-is c = c.in_ok-sent.ensures
