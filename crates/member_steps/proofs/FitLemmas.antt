-- A number whose highest bit is set can be a message id.
use Rattle.std.proofs.Common.{◌≡◌, ℕ, not, List, [], ◌∷◌, length, sym, ap, ◌∙◌, ne_eqb, arith}
use Rattle.std.proofs.lemmas.Nat.{le_or_r}
use Rattle.byteorder.specs.Endian.{big_from}
use Rattle.group_terms.specs.Octets.{AreOctets}
use Rattle.group_values.specs.Drawing.{with_high_bit}
use Rattle.pull_msgs.specs.Fits.{MessageFits}

not_zero : (list : List ℕ) → length (with_high_bit list) ≡ 4 → big_from 0 4 (with_high_bit list) ≡ 0 → ⊥
not_zero [] long zero = absurd (omega (arith, long))
not_zero (octet ∷ octets) long zero = omega (arith, le_or_r octet 128, zero)

pub message_fits : (message list : List ℕ) → message ≡ with_high_bit list → length message ≡ 4 → AreOctets message → MessageFits message
message_fits message list is long octets = record {
  size = long;
  octets = octets;
  suits = ap not (ne_eqb (big_from 0 4 message) 0 (λ zero. not_zero list (ap length (sym is) ∙ long) (ap (big_from 0 4) (sym is) ∙ zero)));
}
