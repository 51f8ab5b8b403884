-- Requests that leave the disk as it is.
use Rattle.std.proofs.Common.{◌≡◌, ◌∙◌, Bool, false, List, None, refl, sym, subst, arith}
use Rattle.gd_disk.specs.Moments.{Keeps}
use Rattle.gd_disk.specs.declared.disks.Disk.{Ghosts as DiskGhosts}
use Rattle.gd_edges.specs.declared.draws.Draws.{Ghosts as DrawGhosts}
use Rattle.gd_edges.specs.declared.signers.Signer.{Ghosts as SignerGhosts}
use Rattle.group_terms.specs.declared.changes.Change.{Change}
use Rattle.group_terms.specs.declared.patterns.Rule.{Rule}
use Rattle.group_model.specs.Answers.{disk_failed_by, found_by}
use Rattle.group_model.specs.Servers.{Server}
use Rattle.group_model.specs.declared.entries.Answer.{Answer}
use Rattle.group_model.specs.declared.entries.Asked.{Asked}
use Rattle.gcks_core.specs.Stands.{Stands}
use Rattle.gcks_core.specs.Views.{View}
use Rattle.pull_sessions.specs.Sessions.{Sessions}
use Rattle.server_steps.specs.Disks.{Counts, HasJournal}
use Rattle.server_steps.specs.Entries.{beside, noted}
use Rattle.server_steps.specs.Hosts.{Host, with_server}
use Rattle.server_steps.specs.Outsides.{Says, quiet}
use Rattle.server_steps.specs.Reflects.{IsServerOf}
use Rattle.server_steps.specs.Serves.{ServesBeside}
use Rattle.server_steps.specs.Steps.{IsServed, IsServerStep}
use Rattle.server_steps.specs.Views.{server_of}

-- an answer beside which nothing is noted but the place of the draws
pub record IsPlain (answer : Answer) : Type 0 where
  pub no_fault : disk_failed_by answer ≡ false
  pub not_opened : found_by answer ≡ None

-- the disk is the same
pub keeps_still : {D : Type 0} (d : DiskGhosts D) (disk : D) → Keeps d disk disk
keeps_still d disk = record { honest = refl; exposed = (λ some. some, λ some. some); counted = omega arith }

-- It is the core of the server that a host has, whatever rules and sessions are beside it.
pub record IsCoreOf {D G R : Type 0} (d : DiskGhosts D) (draws : DrawGhosts R) (core : View D G R) (host : Host D) : Type 0 where
  pub disk : host.disk ≡ core.disk
  pub head : host.head ≡ core.head
  pub stands : Stands draws core host.server
  pub journal : HasJournal d host

module _ {D G R : Type 0} (d : DiskGhosts D) (draws : DrawGhosts R) where
  pub core_of : (core : View D G R) (rules : List Rule) (sessions : Sessions) (host : Host D) → IsServerOf d draws (server_of core rules sessions) host
      → IsCoreOf d draws core host
  core_of core rules sessions host is = record { disk = is.disk; head = is.head; stands = is.stands; journal = is.journal }

  pub plain_beside : (core : View D G R) (host : Host D) (answer : Answer) → IsCoreOf d draws core host → IsPlain answer
      → beside answer (draws.place_of core.draws) ≡ quiet host
  plain_beside core host answer server plain i = record {
    disk_failed = plain.no_fault i;
    found = plain.not_opened i;
    place = server.stands.place i;
  }

  -- a server with other changes that wait, or that has to be opened again
  pub server_still : (core new : View D G R) (rules : List Rule) (sessions : Sessions) (host : Host D) (queue : List Change) (needs_reopen : Bool)
      → IsServerOf d draws (server_of core rules sessions) host → new.disk ≡ core.disk → new.head ≡ core.head
      → Stands draws new (record host.server { queue = queue; needs_reopen = needs_reopen })
      → IsServerOf d draws (server_of new rules sessions) (with_server host (record host.server { queue = queue; needs_reopen = needs_reopen }))
  server_still core new rules sessions host queue needs_reopen was same_disk same_head stands = record {
    disk = was.disk ∙ sym same_disk;
    head = was.head ∙ sym same_head;
    stands = stands;
    journal = record { file = was.journal.file; crash = was.journal.crash };
    rules = was.rules;
    sessions = was.sessions;
  }

module _ {D G R : Type 0} (d : DiskGhosts D) (g : SignerGhosts G) (draws : DrawGhosts R) where
  -- a request is answered so, where draws are at the place of a core
  abbrev pub IsServedBy : View D G R → Asked → Answer → Host D → Host D → Type 0
  IsServedBy core request answer host next =
      IsServed d g core.signer (draws.block_at core.draws) request host answer (beside answer (draws.place_of core.draws)) next

  -- a step that leaves the disk
  pub plain_step : (request : Asked) (core : View D G R) (answer : Answer) (host : Host D) (server : Server) → IsPlain answer
      → IsServedBy core request answer host (with_server host server)
      → IsServerStep d g core.signer (draws.block_at core.draws) host (noted request answer (draws.place_of core.draws)) (with_server host server)
  plain_step request core answer host server plain answered = record {
    answered = answered;
    keeps = keeps_still d host.disk;
    counts = subst (λ failed. Counts d failed host.disk host.disk) (sym plain.no_fault) refl;
  }

  -- an answer is given, and nothing changes
  pub serves_still : (request : Asked) (core : View D G R) (answer : Answer)
      → ((host : Host D) → IsCoreOf d draws core host → IsPlain answer × IsServedBy core request answer host host)
      → ServesBeside d g draws request answer core core
  serves_still request core answer does rules sessions = record {
    goes_on = record { signer = refl; blocks = λ k. refl };
    each = λ host server.
        let done = does host (core_of d draws core rules sessions host server) in (
          host,
          plain_step request core answer host host.server done.0 done.1,
          server,
        );
  }

  -- the answer that is due
  pub says_due : (due : Host D → Answer) (core : View D G R) (answer : Answer) (host : Host D) → IsCoreOf d draws core host → IsPlain answer
      → answer ≡ due host → Says (due host) host answer (beside answer (draws.place_of core.draws)) host
  says_due due core answer host server plain is = record { answers = is; beside = plain_beside d draws core host answer server plain; stays = refl }
