-- How contracts see what was read of the payloads of a message.
use Rattle.pull_msgs.specs.declared.reading.FirstSaid.{FirstSaid as BorrowedFirst}
use Rattle.pull_msgs.specs.declared.reading.SecondSaid.{SecondSaid as BorrowedSecond}
use Rattle.pull_msgs.specs.declared.reading.FourthSaid.{FourthSaid as OwnedFourth}
use Rattle.pull_msgs.specs.declared.reading.PullRead.{PullRead as Borrowed}
use Rattle.pull_msgs.specs.Readings.{PullRead, FirstSaid, SecondSaid, FourthSaid}

abbrev pub seen_first : Borrowed BorrowedFirst → PullRead FirstSaid
seen_first read = record {
  hash = read.hash;
  covered = read.covered.now;
  said = record { ni = read.said.ni; id_type = read.said.id.id_type; id = read.said.id.octets.now };
}

abbrev pub seen_second : Borrowed BorrowedSecond → PullRead SecondSaid
seen_second read = record {
  hash = read.hash;
  covered = read.covered.now;
  said = record { nr = read.said.nr; policy = read.said.policy };
}

abbrev pub seen_third : Borrowed (Unit {0}) → PullRead (Unit {0})
seen_third read = record { hash = read.hash; covered = read.covered.now; said = tt }

abbrev pub seen_fourth : Borrowed OwnedFourth → PullRead FourthSaid
seen_fourth read = record {
  hash = read.hash;
  covered = read.covered.now;
  said = record { sequence = read.said.sequence; traffic = read.said.traffic; spi = read.said.spi; path = read.said.path };
}
