-- How contracts see what was read of the payloads of a push, in the text in which they are.
use Rattle.std.specs.Prelude.{ℕ, List, take}
use Rattle.gd_wire.specs.Chains.{body_of}
use Rattle.push_msg.specs.declared.reading.PushRead.{PushRead as Borrowed}
use Rattle.push_msg.specs.Readings.{PushRead}

abbrev pub seen : List ℕ → Borrowed → PushRead
seen text read = record {
  number = read.sequence;
  body = read.body;
  keys = body_of text read.keys;
  signed = take read.signed text;
  signature = read.signature.now;
}
