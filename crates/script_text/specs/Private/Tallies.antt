-- What a tally has counted.
use Rattle.script_text.specs.Summary.{Told}
use Rattle.script_text.specs.declared.tallies.Tally.{Tally}

abbrev pub tallied : Tally → Told
tallied tally = record {
  epoch = tally.epoch;
  sequence = tally.sequence;
  members = tally.members.keys;
  leaving = tally.leaving;
  keyed = tally.keyed.entries;
}
