use Rattle.gd_cipher.specs.Fields.{undo_substitute}
use Rattle.gd_cipher.proofs.ColumnLemmas.{unmixed_is}
use Rattle.gd_cipher.proofs.columns.unmixed_column.Goals as goal

pub returns : goal.returns
returns c = unmixed_is c.args.word c.substituted_word-word.result c.column.result c.substituted_word-word.ensures
    (c.column.ensures undo_substitute 14 11 13 9 c.unmixed.ensures)
