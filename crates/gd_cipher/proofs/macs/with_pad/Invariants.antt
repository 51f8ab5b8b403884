use Rattle.std.proofs.Common.{◌≡◌, bit_xor}
use Rattle.gd_cipher.proofs.MacLemmas.{changed_below}
use Rattle.gd_cipher.proofs.macs.with_pad.Given as goal

abbrev pub invariant-loop-byte : goal.invariant-loop-byte
invariant-loop-byte l = l.byte-items ≡ changed_below (λ x. bit_xor x l.pad) l.byte-index l.fn.block
