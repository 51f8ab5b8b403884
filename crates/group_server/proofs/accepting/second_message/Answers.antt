use Rattle.group_server.proofs.accepting.second_message.Goals as goal

pub returns-clause-is : goal.returns-clause-is
returns-clause-is g c = record {
  nonce_fits = c.prove_nonce_fits.ensures;
  policy = c.policy_of-policy.result;
  policy_is = c.policy_of-policy.ensures.policy;
  policy_fits = c.prove_policies_fit.ensures;
  kek = c.policy_of-policy.ensures.kek;
  tek = c.policy_of-policy.ensures.tek;
  is_text = c.in_ok-sent.ensures;
}
