use Rattle.gd_cipher.proofs.keys.Key256.decrypt_block.Goals as goal

pub returns-clause-block : goal.returns-clause-block
returns-clause-block c = c.decrypt_block.ensures c.args.self.now c.opening_words.ensures.words
