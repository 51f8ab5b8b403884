-- A book at a desk, one turn later.
use Rattle.std.proofs.Common.{◌≡◌, ◌∙◌, List, [], ◌∷◌, ◌++◌, Option, None, Some, sym, ap, subst}
use Rattle.gd_disk.specs.declared.disks.Disk.{Ghosts as DiskGhosts}
use Rattle.gd_edges.specs.declared.draws.Draws.{Ghosts as DrawGhosts}
use Rattle.gd_edges.specs.declared.signers.Signer.{Ghosts as SignerGhosts}
use Rattle.group_model.specs.declared.entries.Answer.{Answer}
use Rattle.group_model.specs.declared.entries.Asked.{Asked}
use Rattle.group_model.specs.declared.entries.Entry.{Entry}
use Rattle.server_steps.specs.Entries.{noted}
use Rattle.server_steps.specs.Laws.{GoesOnSince}
use Rattle.server_steps.specs.Serves.{IsSince, Serves, Start}
use Rattle.server_steps.specs.Views.{View as ServerView}
use Rattle.register_workers.specs.Private.Seats.{IsSinceIf}

module _ {D G R : Type 0} (d : DiskGhosts D) (g : SignerGhosts G) (draws : DrawGhosts R) where
  pub since_more : (start : Option (Start D G R)) (old new : ServerView D G R) (entries after : List Entry) (request : Asked) (answer : Answer)
      (entry : Entry) → GoesOnSince d g draws → IsSinceIf d g draws start old entries → Serves d g draws request answer old new
      → entry ≡ noted request answer (draws.place_of old.core.draws) → after ≡ entries ++ entry ∷ [] → IsSinceIf d g draws start new after
  since_more None old new entries after request answer entry goes_on since serves is more = tt
  since_more (Some start) old new entries after request answer entry goes_on since serves is more =
      subst (IsSince d g draws start new) (sym (more ∙ ap (λ last. entries ++ last ∷ []) is))
      (goes_on start old new entries request answer since serves)
