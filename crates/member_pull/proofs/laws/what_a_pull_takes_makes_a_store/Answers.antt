-- Both words for the epoch of a root's key give the same.
use Rattle.std.proofs.Common.{◌≡◌, ◌∙◌, ◌-◌, List, length, Option, Some, None, slice_get, refl, ap}
use Rattle.std.specs.Option.{unwrap_or}
use Rattle.std.proofs.lemmas.Option.{unwrap_or-slice_get}
use Rattle.group_terms.specs.declared.paths.PathKey.{PathKey}
use Rattle.pull_msgs.specs.Readings.{epoch_of_key, root_made}
use Rattle.member_pull.specs.Paths.{no_key, root_of}
use Rattle.member_pull.proofs.FourthLemmas.{reads_fourth}
use Rattle.member_pull.proofs.laws.what_a_pull_takes_makes_a_store.Goals as goal

made_or_none : (key : Option PathKey) → epoch_of_key key ≡ (unwrap_or key no_key).made
made_or_none (Some key) = refl
made_or_none None = refl

root_made_is : (path : List PathKey) → root_made path ≡ (root_of path).made
root_made_is path =
    made_or_none (slice_get path (length path - 1)) ∙ ap (λ (key : PathKey). key.made) (unwrap_or-slice_get path (length path - 1) no_key)

pub returns : goal.returns
returns c old new datagram keyed is =
    let read = reads_fourth old new datagram keyed is in
    let reply = c.a_taken_reply_is_a_path.ensures old.phase old.message read.iv old.ni read.nr read.spi datagram keyed read.answer in
    (reply.0, reply.1 ∙ root_made_is keyed.path)
