use Rattle.gd_cipher.proofs.chains.cbc_open.Goals as goal

pub returns-clause-opened : goal.returns-clause-opened
returns-clause-opened c = c.open.ensures c.args.key.now c.opening_words.ensures.words
