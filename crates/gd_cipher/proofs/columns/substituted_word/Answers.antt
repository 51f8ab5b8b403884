use Rattle.gd_cipher.specs.Fields.{substitute}
use Rattle.gd_cipher.proofs.ColumnLemmas.{substituted_is}
use Rattle.gd_cipher.proofs.columns.substituted_word.Goals as goal

pub returns : goal.returns
returns c = substituted_is c.args.word c.column.result (c.column.ensures substitute 1 0 0 0 c.substituted.ensures)
