use Rattle.std.proofs.Common.{◌∙◌, sym, arith}
use Rattle.gd_wire.proofs.SizeLemmas.{has_payloads}
use Rattle.gd_wire.proofs.headers.read_header.Goals as goal

pub returns-clause-sizes : goal.returns-clause-sizes
returns-clause-sizes c =
    has_payloads c.args.exchange c.args.datagram.now c.in_ok-header_of.field-0 (λ i within. omega (arith, c.type_inv.datagram i))
    (sym c.header_of.ensures ∙ c.in_ok-header_of.was)
