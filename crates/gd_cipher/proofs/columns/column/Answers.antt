use Rattle.std.proofs.Common.{◌∙◌, arith}
use Rattle.gd_cipher.proofs.ColumnLemmas.{byte_taken, column_is}
use Rattle.gd_cipher.proofs.columns.column.Goals as goal

pub returns : goal.returns
returns c rule p q r s are = column_is rule p q r s c.args.tables.now are c.args.first c.args.second c.args.third c.args.fourth c.args.key
    c.from-2.result c.from-4.result c.from-3.result c.from.result (omega arith) (omega arith) (omega arith) (omega arith)
    (c.from-2.ensures ∙ byte_taken c.to_be_bytes.result c.args.first 0 c.to_be_bytes.ensures)
    (c.from-4.ensures ∙ byte_taken c.to_be_bytes-2.result c.args.second 1 c.to_be_bytes-2.ensures)
    (c.from-3.ensures ∙ byte_taken c.to_be_bytes-3.result c.args.third 2 c.to_be_bytes-3.ensures)
    (c.from.ensures ∙ byte_taken c.to_be_bytes-4.result c.args.fourth 3 c.to_be_bytes-4.ensures)
