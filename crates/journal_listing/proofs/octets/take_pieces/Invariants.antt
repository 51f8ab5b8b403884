use Rattle.std.proofs.Common.{◌≡◌, ◌≤◌, ◌-◌, ◌^◌, length}
use Rattle.std.specs.Io.KnownBytes.{Consumes}
use Rattle.journal_listing.proofs.octets.take_pieces.Given as goal

-- what was taken so far is in the text
abbrev pub invariant-pieces : goal.invariant-pieces
invariant-pieces g l = record {
  no_fault : (g.S.Source.shows l.source).faults ≡ (g.S.Source.shows l.fn.source).faults;
  taken : Consumes (g.S.Source.shows l.fn.source).octets (g.S.Source.shows l.source).octets l.octets;
  near : length l.octets ≤ 2 ^ 62;
}

abbrev pub decreases-pieces : goal.decreases-pieces
decreases-pieces g l = 2 ^ 62 - length l.octets
