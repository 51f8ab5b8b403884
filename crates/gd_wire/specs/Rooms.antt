-- What room ends as, where a `&mut` to its octets is returned.
use Rattle.std.specs.Prelude.{ℕ, List}
use Rattle.std.specs.Borrow.{Lends, Fml, MutBor, Array, u8}
use Rattle.group_terms.specs.Lends.{overwritten}
use Rattle.gd_wire.specs.RoomViews.{Roomy}
use Rattle.gd_wire.specs.contracts.rooms.Room.{the_row}

-- once the borrow r ends, the room has the octets that it shows last
abbrev pub lends_octets : MutBor Roomy → MutBor (List ℕ) → Fml
lends_octets room r = Lends the_row (Array u8 0) room r (λ written. record
    { octets = overwritten room.now.octets written; room = room.now.room })
