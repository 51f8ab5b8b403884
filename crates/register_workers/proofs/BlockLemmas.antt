-- A block, from what was done at its desk.
use Rattle.std.proofs.Common.{◌≡◌, ◌∙◌, ℕ, Bool, List, ◌++◌, Option, None, Some, sym, ap, subst}
use Rattle.std.proofs.lemmas.List.{append_cancel_left}
use Rattle.desk.specs.Calls.{AreCallsOf}
use Rattle.desk.specs.declared.calls.Call.{Call}
use Rattle.gd_disk.specs.declared.disks.Disk.{Ghosts as DiskGhosts}
use Rattle.gd_edges.specs.declared.draws.Draws.{Ghosts as DrawGhosts}
use Rattle.gd_edges.specs.declared.signers.Signer.{Ghosts as SignerGhosts}
use Rattle.group_model.specs.declared.entries.Entry.{Entry}
use Rattle.server_steps.specs.Laws.{BeginsNow}
use Rattle.server_steps.specs.Serves.{IsSince, Start}
use Rattle.server_steps.specs.Views.{View as ServerView}
use Rattle.register_workers.specs.Blocks.{IsBlock, LeavesBlock, Worked, start_of}
use Rattle.register_workers.specs.Private.Seating.{IsEnded, LeavesDesk}
use Rattle.register_workers.specs.Private.Seats.{IsSinceIf}
use Rattle.group_steps.specs.Shows.{pairs_shown}
use Rattle.register_workers.specs.Views.{View}
use Rattle.register_workers.specs.declared.lines.BlockLine.{BlockLine}

module _ {D G R : Type 0} where
  -- the calls are told, of as many workers as there are passes
  pub told_at_desk : (calls : Option (List (List (Call Entry)))) (list : List (List (Call Entry))) (memory : Bool) (n workers : ℕ)
      (lines news : List BlockLine) (server : ServerView D G R) (start entries : List Entry) (new : View D G R) → calls ≡ Some list → n ≡ workers
      → start ≡ entries → IsEnded memory n lines news start new.entries list → LeavesDesk calls memory workers lines news server entries new
  told_at_desk calls list memory n workers lines news server start entries new told many began ended =
      subst (λ calls. LeavesDesk calls memory workers lines news server entries new) (sym told)
      (subst (λ n. IsEnded memory n lines news entries new.entries list) many
      (subst (λ start. IsEnded memory n lines news start new.entries list) began ended))

module _ {D G R : Type 0} (d : DiskGhosts D) (g : SignerGhosts G) (draws : DrawGhosts R) (start : Option (Start D G R)) (old : View D G R)
    (starts : start ≡ Some (start_of old)) where
  -- no entry was added since
  pub begins_now : BeginsNow d g draws → (now : View D G R) → now ≡ old → IsSinceIf d g draws start now.server now.entries
  begins_now begins now same =
      subst (λ start. IsSinceIf d g draws start now.server now.entries) (sym starts)
      (subst (λ (view : View D G R). IsSince d g draws (start_of old) view.server view.entries) (sym same) (begins old.server old.entries))

  module _ (memory : Bool) (workers : ℕ) (lines news : List BlockLine) (server : ServerView D G R) (entries : List Entry) (new : View D G R)
      (same_server : server ≡ old.server) (same_entries : entries ≡ old.entries) (since : IsSinceIf d g draws start new.server new.entries) where
    -- the calls of the workers are the entries since the start
    is_block : (calls : List (List (Call Entry))) → IsEnded memory workers lines news entries new.entries calls
        → IsBlock d g draws memory workers lines news old new calls
    is_block calls ended =
        let is_since : IsSince d g draws (start_of old) new.server new.entries
        = subst (λ start. IsSinceIf d g draws start new.server new.entries) starts since in
        let same : is_since.news ≡ ended.added
        = append_cancel_left old.entries is_since.news ended.added (sym is_since.history ∙ ended.history ∙ ap (λ list. list ++ ended.added) same_entries) in
        record {
          since = is_since;
          whole = subst (λ added. AreCallsOf added calls) (sym same) ended.whole;
          a_list_each = ended.a_list_each;
          as_many = ended.as_many;
          worked = λ w less. subst (λ before. Worked memory before new.entries workers w lines news calls) same_entries (ended.worked w less);
        }

    -- with the book, which published just the pairs of its history before and after
    pub leaves : (calls : Option (List (List (Call Entry)))) → new.board ≡ old.board → old.published ≡ pairs_shown old.entries
        → new.published ≡ pairs_shown new.entries → LeavesDesk calls memory workers lines news server entries new
        → LeavesBlock d g draws calls memory workers lines news old new
    leaves None one_board were are returned = record {
      short = returned.short;
      same_lines = returned.same_lines;
      same_book = λ i. record {
        server = (returned.same_server ∙ same_server) i;
        board = one_board i;
        published = (are ∙ ap pairs_shown (returned.same_entries ∙ same_entries) ∙ sym were) i;
        entries = (returned.same_entries ∙ same_entries) i;
      };
    }
    leaves (Some calls) one_board were are ended = is_block calls ended
