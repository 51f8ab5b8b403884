-- That the values of a batch are keys (RFC 6407 section 5.6.3.1).
use Rattle.std.specs.List.{All}
use Rattle.group_terms.specs.declared.values.BatchValues.{BatchValues}
use Rattle.group_terms.specs.declared.values.Drawn.{Drawn}
use Rattle.group_values.specs.Values.{Made}
use Rattle.kd_wire.specs.Texts.{TrafficFits}
use Rattle.push_msg.specs.Written.{KekFits}

-- values fit: that of a position is an IV and a key of AES with 128 bits, and a traffic key has an SPI of 4 octets, a key of 16 and one of 32
pub record ValuesFit (values : BatchValues) : Type 0 where
  pub nodes : All (λ (drawn : Drawn). KekFits drawn.value) values.nodes
  pub traffic : TrafficFits values.traffic

-- those of a batch do
abbrev pub MadeFits : Made → Type 0
MadeFits made = ValuesFit made.values
