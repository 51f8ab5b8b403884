-- What comes of opening a group again.
use Rattle.std.proofs.Common.{◌≡◌, ◌∙◌, ◌⊎◌, inl, inr, ℕ, ◌≤◌, List, [], ◌∷◌, ◌++◌, map, Option, Some, Result, Ok, Err, refl, sym, ap, subst}
use Rattle.std.specs.Prelude.{IsErrAnd}
use Rattle.gd_disk.specs.Disks.{Knows}
use Rattle.gd_disk.specs.Moments.{Keeps, LeavesOnly, shown}
use Rattle.gd_disk.specs.declared.disks.Disk.{Ghosts as DiskGhosts}
use Rattle.gd_edges.specs.declared.draws.Draws.{Ghosts as DrawGhosts}
use Rattle.gd_edges.specs.declared.signers.Signer.{Ghosts as SignerGhosts}
use Rattle.group_terms.specs.Faults.{Rose}
use Rattle.group_terms.specs.declared.changes.Change.{Change}
use Rattle.group_terms.specs.declared.patterns.Rule.{Rule}
use Rattle.group_values.specs.Values.{Made}
use Rattle.group_model.specs.Servers.{MayHave, Server, halted}
use Rattle.group_model.specs.declared.entries.PushPair.{PushPair}
use Rattle.group_model.specs.declared.entries.Refusal.{Refusal}
use Rattle.group_model.specs.declared.entries.Refusal.TheVariants.{DiskFault, NotAJournal, NoMemory}
use Rattle.group_records.specs.declared.batches.Stored.{Stored}
use Rattle.group_records.specs.declared.heads.Head.{Head}
use Rattle.tree_store.specs.Groups.{IsGroup, IsNoGroup, made_of}
use Rattle.gcks_core.specs.Stands.{Stands}
use Rattle.gcks_core.specs.Stored.{IsFileOf, stored_from, stored_list}
use Rattle.gcks_core.specs.Views.{View}
use Rattle.pull_sessions.specs.Sessions.{Sessions, without_sessions}
use Rattle.server_steps.specs.Hosts.{Host, with_disk, with_server}
use Rattle.server_steps.specs.Openings.{IsSame}
use Rattle.server_steps.specs.Serves.{GoesOn, ServesReopening, sessions_reopened}
use Rattle.server_steps.specs.Views.{server_of}
use Rattle.server_steps.proofs.BesideLemmas.{beside_refused, counts_refused}
use Rattle.server_steps.proofs.JournalLemmas.{has_still, leaves_still}
use Rattle.server_steps.proofs.OpenLemmas.{IsOpened, finds, found_by, host_by}

-- a file has one group, as a law
abbrev pub OneGroup : Type 0
OneGroup =
    (file : List ℕ) (head other : Head) (list others : List Stored) → IsGroup file head list → IsGroup file other others
    → (head ≡ other) × (list ≡ others)

-- or none
abbrev pub NoGroup : Type 0
NoGroup = (file : List ℕ) (head : Head) (list : List Stored) (at : ℕ) → IsGroup file head list → IsNoGroup file at → ⊥

-- what was stored has the batches
unstored : (depth : ℕ) (before : List (List Change)) (list : List Made) → map made_of (stored_from depth before list) ≡ list
unstored depth before [] = refl
unstored depth before (made ∷ list) = λ i. made ∷ unstored depth (before ++ made.changes ∷ []) list i

same_list : (depth other : ℕ) (list others : List Made) → stored_list depth list ≡ stored_list other others → list ≡ others
same_list depth other list others same = sym (unstored depth [] list) ∙ ap (map made_of) same ∙ unstored other [] others

-- A core was refused to be opened again: why, and what became of its disk.
pub record IsRefusedAgain {D : Type 0} (d : DiskGhosts D) (why : Refusal) (disk left : D) : Type 0 where
  pub no_other : (why ≡ DiskFault) ⊎ ((why ≡ NoMemory) ⊎ ((at : ℕ) × (why ≡ NotAJournal at)))
  pub broken : Knows (shown d disk) (λ file. (at : ℕ) → why ≡ NotAJournal at → IsNoGroup file at)
  pub cause : why ≡ DiskFault → Rose (d.faults disk) (d.faults left)
  pub unfaulted : (why ≡ DiskFault → ⊥) → d.faults left ≡ d.faults disk
  pub moments : Knows (shown d disk) (λ _. LeavesOnly d disk left (d.may_leave disk))
  pub same_file : shown d left ≡ shown d disk
  pub keeps : Keeps d disk left

module _ {D G R : Type 0} (d : DiskGhosts D) (g : SignerGhosts G) (draws : DrawGhosts R) (old new : View D G R) (rules : List Rule)
    (sessions : Sessions) where
  -- signer and draws stay
  goes_on_again : (new.signer ≡ old.signer) × (new.draws ≡ old.draws) → (after : Sessions)
      → GoesOn draws (server_of old rules sessions) (server_of new rules after)
  goes_on_again same after = record { signer = same.0; blocks = λ k. ap (λ (at : R). draws.block_at at k) same.1 }

  -- it was opened again
  pub opens_again : OneGroup → (list : List Made) (resent : Option PushPair)
      → IsOpened d g draws old.signer (draws.place_of old.draws) old.disk new list resent
      → (new.signer ≡ old.signer) × (new.draws ≡ old.draws)
      → ServesReopening d g draws (Ok resent) (server_of old rules sessions) (server_of new rules (without_sessions sessions))
  opens_again one list resent opens same = record {
    goes_on = goes_on_again same (without_sessions sessions);
    each = λ host is.
        let place = draws.place_of old.draws in
        let opened = subst (λ (x : ℕ × D). IsOpened d g draws old.signer x.0 x.1 new list resent) (λ i. (is.stands.place i, sym is.disk i)) opens in
        let after = host_by d g draws old.signer host new list resent opened in
        let found = finds d g draws old.signer host new list resent opened place is.stands.place in (
          after,
          record {
            answered = record {
              ends = inl (record {
                found = found_by d g draws old.signer host new list resent opened;
                finds = found;
                same = λ file shows. it_is host opened.was_there file shows (is.journal.file file shows);
              });
              same_file = opened.same_file;
              moments = leaves_still d host new.disk opened.same_file is.journal opened.moments;
            };
            keeps = opened.keeps;
            counts = opened.unfaulted;
          },
          record {
            disk = refl;
            head = refl;
            stands = opened.stands;
            journal = found.journal;
            rules = is.rules;
            sessions = ap without_sessions is.sessions;
          },
        );
  }
    where
      it_is : (host : Host D) → Knows (shown d host.disk) (λ file. IsGroup file new.head (stored_list new.head.depth list)) → (file : List ℕ)
          → shown d host.disk ≡ Some file → IsFileOf host.head host.server file → IsSame host (record { head = new.head; list = list })
      it_is host there file shows (batches, may, has) =
          let same = one file new.head host.head (stored_list new.head.depth list) (stored_list host.head.depth batches) (there file shows) has in
          record {
            head = same.0;
            batches = subst (MayHave host.server) (sym (same_list new.head.depth host.head.depth list batches same.1)) may;
          }

  -- it was not
  pub opens_not_again : NoGroup → (why : Refusal) → IsRefusedAgain d why old.disk new.disk
      → ((t : ℕ) (c : List ℕ) → t ≤ d.moment new.disk → d.may_leave new.disk c → d.left_since new.disk t c)
      → ((server : Server) → Stands draws old server → Stands draws new (halted server)) → new.head ≡ old.head
      → (new.signer ≡ old.signer) × (new.draws ≡ old.draws)
      → ServesReopening d g draws (Err why) (server_of old rules sessions) (server_of new rules sessions)
  opens_not_again none why refuses counts_now stands same_head same = record {
    goes_on = goes_on_again same sessions;
    each = λ host is.
        let place = draws.place_of old.draws in
        let refused = subst (λ (disk : D). IsRefusedAgain d why disk new.disk) (sym is.disk) refuses in
        let after = with_disk (with_server host (halted host.server)) new.disk in
        let journal = has_still d host new.disk refused.same_file is.journal refused.moments counts_now in (
          after,
          record {
            answered = record {
              ends = inr (record {
                why = why;
                causes = causes host refused.broken is.journal.file refused.no_other;
                answers = refl;
                beside = beside_refused host why place is.stands.place;
                now = refl;
                journal = journal;
              });
              same_file = refused.same_file;
              moments = leaves_still d host new.disk refused.same_file is.journal refused.moments;
            };
            keeps = refused.keeps;
            counts = counts_refused d why host.disk new.disk refused.cause refused.unfaulted;
          },
          record {
            disk = refl;
            head = is.head ∙ sym same_head;
            stands = stands host.server is.stands;
            journal = journal;
            rules = is.rules;
            sessions = is.sessions;
          },
        );
  }
    where
      causes : (host : Host D) → Knows (shown d host.disk) (λ file. (at : ℕ) → why ≡ NotAJournal at → IsNoGroup file at)
          → Knows (shown d host.disk) (IsFileOf host.head host.server)
          → (why ≡ DiskFault) ⊎ ((why ≡ NoMemory) ⊎ ((at : ℕ) × (why ≡ NotAJournal at)))
          → (why ≡ DiskFault) ⊎ ((why ≡ NoMemory) ⊎ ((at : ℕ) × (why ≡ NotAJournal at) × Knows (shown d host.disk) (λ file. ⊥)))
      causes host broken has (inl fault) = inl fault
      causes host broken has (inr (inl memory)) = inr (inl memory)
      causes host broken has (inr (inr (at, said))) =
          inr (inr (
            at,
            said,
            (λ file shows.
                let there = has file shows in
                none file host.head (stored_list host.head.depth there.0) at there.2 (broken file shows at said)),
          ))

  -- the reason was handed on
  pub hands_on : (result : Result (Option PushPair) Refusal) (why : Refusal) → IsErrAnd result (λ reason. reason ≡ why)
      → ServesReopening d g draws (Err why) (server_of old rules sessions) (server_of new rules sessions)
      → ServesReopening d g draws result (server_of old rules sessions) (server_of new rules (sessions_reopened result sessions))
  hands_on (Ok resent) why is serves = absurd is
  hands_on (Err reason) why is serves =
      subst (λ reason. ServesReopening d g draws (Err reason) (server_of old rules sessions) (server_of new rules sessions)) (sym is) serves
