-- A core whose journal is opened again.
use Rattle.std.proofs.Common.{◌≡◌, ◌∙◌, inl, ℕ, false, List, [], map, Option, None, refl, sym, ap, subst, arith}
use Rattle.std.specs.Prelude.{is_some}
use Rattle.std.proofs.lemmas.List.Sums.{count_by-le-length}
use Rattle.gd_disk.specs.Disks.{Knows}
use Rattle.gd_disk.specs.Moments.{shown}
use Rattle.gd_disk.specs.declared.disks.Disk.{Ghosts}
use Rattle.gd_edges.specs.declared.draws.Draws.{Ghosts as DrawGhosts}
use Rattle.gd_edges.specs.declared.signers.Signer.{Ghosts as SignerGhosts}
use Rattle.group_terms.specs.declared.changes.Change.{Change}
use Rattle.group_values.specs.Values.{Made}
use Rattle.group_model.specs.Places.{Fits, Holders}
use Rattle.key_tree.specs.Present.{Present}
use Rattle.group_model.specs.Servers.{MayHave, Server, opened_server, reopened}
use Rattle.group_model.specs.declared.entries.PushPair.{PushPair}
use Rattle.group_pushes.specs.Pairs.{IsPairIfStayed}
use Rattle.group_records.specs.declared.heads.Head.{Head}
use Rattle.tree_store.specs.Groups.{IsGroup}
use Rattle.gcks_core.specs.Private.Cores.{IsGroupOf}
use Rattle.gcks_core.specs.Stands.{Stands}
use Rattle.tree_store.specs.Groups.{made_of}
use Rattle.gcks_core.specs.Stored.{IsFileOf, IsOnDisk, stored_list}
use Rattle.gcks_core.specs.Views.{View}
use Rattle.gcks_core.proofs.ListLemmas.{unstored}
use Rattle.gcks_core.proofs.MakeLemmas.{stands_opened}
use Rattle.gcks_core.proofs.StoreLemmas.{OneGroup}
use Rattle.gcks_core.proofs.StandLemmas.{stands_as}

-- no change that waits fits always
pub nothing_waits : (holders : Holders) → Fits holders []
nothing_waits holders = record {
  from_members = refl;
  from_strangers = refl;
  once = refl;
  room = omega (arith, count_by-le-length is_some holders);
}

pub same_list : (depth other : ℕ) (list others : List Made) → stored_list depth list ≡ stored_list other others → list ≡ others
same_list depth other list others same = sym (unstored depth list) ∙ ap (map made_of) same ∙ unstored other others

-- a file has the batches of one group
pub one_list : OneGroup → (file : List ℕ) (head other : Head) (list others : List Made) → IsGroup file head (stored_list head.depth list)
    → IsGroup file other (stored_list other.depth others) → (head ≡ other) × (list ≡ others)
one_list one file head other list others is has =
    let same = one file head other (stored_list head.depth list) (stored_list other.depth others) is has in
    (same.0, same_list head.depth other.depth list others same.1)

module _ {D G R : Type 0} (draws : DrawGhosts R) (old : View D G R) (server : Server) (stands : Stands draws old server) where
  -- the journal was opened again, and had these
  pub stands_again : (new : View D G R) (found list : List Made) → IsGroupOf new.head new.tree found → new.head ≡ old.head → found ≡ list
      → new.needs_reopen ≡ false → new.queue ≡ [] → new.draws ≡ old.draws → Stands draws new (reopened server list)
  stands_again new found list group same_head same needs_reopen queue same_draws =
      subst (Stands draws new)
      (λ i. record {
        depth = (ap (λ (h : Head). h.depth) same_head ∙ stands.depth) i;
        limit = (ap (λ (h : Head). h.limit) same_head ∙ stands.limit) i;
        list = same i;
        doubt = None;
        needs_reopen = needs_reopen i;
        queue = queue i;
        place = (ap draws.place_of same_draws ∙ stands.place) i;
      })
      (stands_as draws new found group)

-- what is found when a journal is opened again
module _ {D G R : Type 0} (disk : Ghosts D) (signing : SignerGhosts G) (draws : DrawGhosts R) {inside old : View D G R} (same : inside ≡ old)
    (now : D) (shows : shown disk now ≡ shown disk inside.disk) (head : Head) (tree : Present) (queue : List Change) (none : queue ≡ [])
    (list : List Made) (group : IsGroupOf head tree list) (has : Knows (shown disk now) (λ file. IsGroup file head (stored_list head.depth list)))
    (resent : Option PushPair) (pair : IsPairIfStayed signing inside.signer head.depth head.spi list resent) where
  -- the core that is open then
  abbrev new : View D G R
  new = record { disk = now; signer = inside.signer; draws = inside.draws; head = head; tree = tree; queue = queue; needs_reopen = false }

  was_shown : shown disk now ≡ shown disk old.disk
  was_shown = shows ∙ ap (λ (core : View D G R). shown disk core.disk) same

  same_draws : inside.draws ≡ old.draws
  same_draws = ap (λ (core : View D G R). core.draws) same

  same_signer : inside.signer ≡ old.signer
  same_signer = ap (λ (core : View D G R). core.signer) same

  pub read_anew : (all : List Made) × Stands draws new (opened_server head.depth head.limit all (draws.place_of old.draws))
      × Knows (shown disk old.disk) (λ file. IsGroup file head (stored_list head.depth all))
      × IsPairIfStayed signing old.signer head.depth head.spi all resent
  read_anew = (
    list,
    stands_opened draws new list group refl none (draws.place_of old.draws) (ap draws.place_of same_draws),
    (λ file is. has file (was_shown ∙ is)),
    subst (λ (who : G). IsPairIfStayed signing who head.depth head.spi list resent) same_signer pair,
  )

  -- where the file was one that the server may find
  pub found_again : OneGroup → (server : Server) → Stands draws old server → Knows (shown disk old.disk) (λ file. IsFileOf old.head server file
      → (all : List Made) × (next : Server) × (MayHave server all × (next ≡ reopened server all)) × Stands draws new next × (head ≡ old.head)
      × IsOnDisk disk now head next × IsPairIfStayed signing old.signer server.depth old.head.spi all resent)
  found_again one server stands file is (all, may, there) =
      let was = one_list one file head old.head list all (has file (was_shown ∙ is)) there in
      let depth = ap (λ (h : Head). h.depth) was.0 ∙ stands.depth in
      let spi = ap (λ (h : Head). h.spi) was.0 in (
        all,
        reopened server all,
        (may, refl),
        stands_again draws old server stands new list all group was.0 was.1 refl none same_draws,
        was.0,
        (λ f shows_it. (all, inl refl, subst (λ l. IsGroup f head (stored_list head.depth l)) was.1 (has f shows_it))),
        subst (λ (x : G × ℕ × List ℕ × List Made). IsPairIfStayed signing x.0 x.1 x.2 x.3 resent)
            (λ i. (same_signer i, depth i, spi i, was.1 i)) pair,
      )
