use Rattle.gd_cipher.proofs.chains.cbc_seal.Goals as goal

pub returns-clause-sealed : goal.returns-clause-sealed
returns-clause-sealed c = c.seal.ensures c.args.key.now c.words.ensures.words
