use Rattle.std.proofs.Common.{◌∙◌, ◌++◌, ◌-◌, ◌%◌, replicate, ap, arith}
use Rattle.std.proofs.lemmas.List.{take-replicate}
use Rattle.gd_wire.proofs.chains.write_padding.Goals as goal

pub returns-clause-ok : goal.returns-clause-ok
returns-clause-ok c =
    c.in_ok-extend.ensures.ok
    ∙ ap (λ zeros. c.args.out.now ++ zeros) (take-replicate ((16 - (c.len.result - 28) % 16) % 16) 16 0 (omega arith))
    ∙ ap (λ many. c.args.out.now ++ replicate ((16 - (many - 28) % 16) % 16) 0) c.len.ensures
