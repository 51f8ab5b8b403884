-- What opening a push for a store answers, and leaves in the room.
use Rattle.std.specs.Prelude.{◌≡◌, ℕ, List, Result, Ok, Err}
use Rattle.gd_edges.specs.declared.verifiers.Verifier.{Ghosts as VerifierGhosts}
use Rattle.group_terms.specs.declared.pushes.PushRefusal.{PushRefusal}
use Rattle.push_msg.specs.declared.bodies.OpenPush.{OpenPush}
use Rattle.push_msg.specs.Pushes.{given_by}
use Rattle.push_msg.specs.Readings.{PushRead}
use Rattle.member_store.specs.Steps.{IsOpening, room_after}
use Rattle.member_store.specs.Stores.{Store}

-- what is known of an opened push
abbrev pub answer_of : Result PushRead PushRefusal → Result OpenPush PushRefusal
answer_of (Ok read) = Ok (given_by read)
answer_of (Err why) = Err why

pub record HasOpening {V : Type 0} (v : VerifierGhosts V) (verifier : V) (store : Store) (datagram : List ℕ)
    (result : Result OpenPush PushRefusal) (room : List ℕ) : Type 0 where
  pub opening : Result PushRead PushRefusal
  pub is_opening : IsOpening v verifier store datagram opening
  pub answers : result ≡ answer_of opening
  pub left : room ≡ room_after opening
