-- Entries that a key server served since a moment.
use Rattle.std.proofs.Common.{◌≡◌, ◌∙◌, ℕ, List, [], ◌∷◌, ◌++◌, Option, Result, refl, sym, ap, subst, append-nil, append_assoc}
use Rattle.gd_disk.specs.declared.disks.Disk.{Ghosts as DiskGhosts}
use Rattle.gd_edges.specs.declared.draws.Draws.{Ghosts as DrawGhosts}
use Rattle.gd_edges.specs.declared.signers.Signer.{Ghosts as SignerGhosts}
use Rattle.group_model.specs.Servers.{Server}
use Rattle.group_model.specs.declared.entries.Answer.{Answer}
use Rattle.group_model.specs.declared.entries.Asked.{Asked}
use Rattle.group_model.specs.declared.entries.Asked.TheVariants.{Reopen}
use Rattle.group_model.specs.declared.entries.Entry.{Entry}
use Rattle.group_model.specs.declared.entries.PushPair.{PushPair}
use Rattle.group_model.specs.declared.entries.Refusal.{Refusal}
use Rattle.gcks_core.specs.Stands.{Stands}
use Rattle.server_steps.specs.Entries.{noted}
use Rattle.server_steps.specs.Hosts.{Host}
use Rattle.server_steps.specs.Serves.{IsSince, Noted, Serves, ServesReopening, Start, answer_reopened}
use Rattle.server_steps.specs.Steps.{AreServed, IsServerStep}
use Rattle.server_steps.specs.Views.{View}

-- one step more
served_then : {D G : Type 0} (d : DiskGhosts D) (g : SignerGhosts G) (signer : G) (block : ℕ → List ℕ) (host : Host D) (news : List Entry) (mid : Host D)
    (entry : Entry) (next : Host D) → AreServed d g signer block host news mid → IsServerStep d g signer block mid entry next
    → AreServed d g signer block host (news ++ entry ∷ []) next
served_then d g signer block host [] mid entry next same step = (next, subst (λ host. IsServerStep d g signer block host entry next) same step, refl)
served_then d g signer block host (first ∷ news) mid entry next so_far step =
    (so_far.0, so_far.1, served_then d g signer block so_far.0 news mid entry next so_far.2 step)

module _ {D G R : Type 0} (d : DiskGhosts D) (g : SignerGhosts G) (draws : DrawGhosts R) where
  pub since_now : (view : View D G R) (entries : List Entry) → IsSince d g draws (record { server = view; before = entries }) view entries
  since_now view entries = record {
    news = [];
    history = sym (append-nil entries);
    goes_on = record { signer = refl; blocks = λ k. refl };
    each = λ host server. (host, refl, server);
  }

  pub since_more : (start : Start D G R) (old new : View D G R) (entries : List Entry) (request : Asked) (answer : Answer)
      → IsSince d g draws start old entries → Serves d g draws request answer old new
      → IsSince d g draws start new (entries ++ noted request answer (draws.place_of old.core.draws) ∷ [])
  since_more start old new entries request answer since serves = record {
    news = since.news ++ noted request answer (draws.place_of old.core.draws) ∷ [];
    history = ap (λ front. front ++ noted request answer (draws.place_of old.core.draws) ∷ []) since.history
        ∙ append_assoc start.before since.news (noted request answer (draws.place_of old.core.draws) ∷ []);
    goes_on = record { signer = serves.goes_on.signer ∙ since.goes_on.signer; blocks = λ k. serves.goes_on.blocks k ∙ since.goes_on.blocks k };
    each = λ host server.
        let mid = since.each host server in
        let next = serves.each mid.0 mid.2 in
        let entry : Entry = noted request answer (draws.place_of old.core.draws) in
        let block : draws.block_at old.core.draws ≡ draws.block_at start.server.core.draws = λ i k. since.goes_on.blocks k i in
        let step = subst (λ block. IsServerStep d g start.server.core.signer block mid.0 entry next.0) block
        (subst (λ signer. IsServerStep d g signer (draws.block_at old.core.draws) mid.0 entry next.0) since.goes_on.signer next.1) in
        (next.0, served_then d g start.server.core.signer (draws.block_at start.server.core.draws) host since.news mid.0 entry next.0 mid.1 step, next.2);
  }

  -- the answer of a call that opened the group again shows the group that is open then
  pub reopening_served : (result : Result (Option PushPair) Refusal) (answer : Answer) (old new : View D G R) → ServesReopening d g draws result old new
      → ((server : Server) → Stands draws new.core server → answer ≡ answer_reopened server result) → Serves d g draws Reopen answer old new
  reopening_served result answer old new serves shows = record {
    goes_on = serves.goes_on;
    each = λ host server.
        let done = serves.each host server in (
          done.0,
          subst (λ answer. Noted d g draws Reopen answer old host done.0) (sym (shows done.0.server done.2.stands)) done.1,
          done.2,
        );
  }
