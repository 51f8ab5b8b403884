-- Places in a history of the datagrams that turns left on their way.
use Rattle.std.specs.Prelude.{◌≡◌, ℕ, ◌&&◌, Bool, List, ◌++◌, Option, Some, map, reverse, slice_get}
use Rattle.std.specs.List.{list_any}
use Rattle.std.specs.Option.{option_and_then, option_map}
use Rattle.group_terms.specs.Names.{Name, same_name}
use Rattle.group_model.specs.declared.entries.Entry.{Entry}
use Rattle.group_peers.specs.Peers.{loses}
use Rattle.group_peers.specs.declared.members.Peer.{Peer}
use Rattle.group_run.specs.Blocks.{Left, left_of}
use Rattle.group_run.specs.Mails.{mail_in}
use Rattle.group_run.specs.declared.lefts.LeftAt.{LeftAt}
use Rattle.member_steps.specs.Members.{Mail}
use Rattle.register_workers.specs.Own.{serves}

-- a datagram, with whether it answers one of its member; or, once marked, with whether it goes missing
abbrev pub left_with : Bool → Mail → Left
left_with own mail = record { mail = mail; own = own }

-- the datagram at a place: at which place of the history its entry is, and at which place among what that entry sent; with its mark
abbrev pub left_at : List Entry → LeftAt → Option Left
left_at entries left =
    option_and_then (λ (entry : Entry). option_map (left_with left.lost) (slice_get (mail_in entry) left.at)) (slice_get entries left.place)

-- the datagrams at these places, from the last place back
abbrev pub lefts_at : List Entry → List LeftAt → List (Option Left)
lefts_at entries lefts = map (left_at entries) (reverse lefts)

-- What a turn left, marked as going missing where it answers one of its member, and the next datagram to that member is to go missing.
abbrev pub marked_left : List Peer → Left → Left
marked_left peers left = left_with (left.own && loses peers left.mail.0) left.mail

-- all that the turns left, marked so
abbrev pub marked_lefts : List Peer → List Entry → List Left
marked_lefts peers turns = map (marked_left peers) (left_of turns)

-- these are the places of what the turns left on its way, from the last place back
abbrev pub AreLefts : List Peer → List Entry → List LeftAt → List Entry → Type 0
AreLefts peers entries lefts turns = lefts_at entries lefts ≡ map Some (marked_lefts peers turns)

-- the new places are those of all that an entry sent, and then the old ones
abbrev pub AreBefore : Bool → Entry → ℕ → List LeftAt → List LeftAt → Type 0
AreBefore lost entry place old new =
    (entries : List Entry) → slice_get entries place ≡ Some entry
    → lefts_at entries new ≡ map Some (map (left_with lost) (mail_in entry)) ++ lefts_at entries old

-- these are the names of the members that the turns serve
abbrev pub AreServed : List Name → List Entry → Type 0
AreServed names turns = (m : Name) → list_any (same_name m) names ≡ list_any (serves m) turns
