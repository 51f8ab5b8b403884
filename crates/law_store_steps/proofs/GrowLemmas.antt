-- What a step leaves of its group, whatever kind it is of: the head of its journal, the depth of its tree, and the batches that it has.
use Rattle.std.proofs.Common.{◌≡◌, ◌∙◌, ℕ, true, List, [], ◌∷◌, ◌++◌, refl, sym, ap, subst, inl, inr}
use Rattle.std.specs.Cmp.Derive.{both_true}
use Rattle.std.proofs.lemmas.List.{append_assoc, append-nil}
use Rattle.group_values.specs.Values.{Made}
use Rattle.group_model.specs.Answers.{is_open}
use Rattle.group_model.specs.Servers.{MayHave, Server}
use Rattle.group_model.specs.declared.entries.Entry.{Entry}
use Rattle.group_records.specs.declared.heads.Head.{Head}
use Rattle.server_steps.specs.Batches.{made_next}
use Rattle.server_steps.specs.Hosts.{Host}
use Rattle.server_steps.specs.Openings.{IsSame}
use Rattle.group_steps.specs.Devices.{Devices, Keying}
use Rattle.group_steps.specs.Kinds.{IsOfAKind}
use Rattle.group_steps.specs.Laws.{is_opened_again}

-- batches that a journal may have begin with those of the server
list_begins : (server : Server) (list : List Made) → MayHave server list → (later : List Made) × (list ≡ server.list ++ later)
list_begins server list (inl same) = ([], same ∙ sym (append-nil server.list))
list_begins server list (inr more) = (more.0 ∷ [], more.2)

-- the tree of a server is as deep as the head of its journal says
abbrev pub IsAtHead : {D : Type 0} → Host D → Type 0
IsAtHead host = host.head.depth ≡ host.server.depth

-- it is the same group, with all of its batches, and maybe later ones
pub record Grows {D : Type 0} (host next : Host D) : Type 0 where
  pub head : next.head ≡ host.head
  pub depth : next.server.depth ≡ host.server.depth
  pub later : List Made
  pub list : next.server.list ≡ host.server.list ++ later

module _ {D : Type 0} where
  pub grows_none : (host : Host D) → Grows host host
  grows_none host = record { head = refl; depth = refl; later = []; list = sym (append-nil host.server.list) }

  pub grows_on : (host next after : Host D) → Grows host next → Grows next after → Grows host after
  grows_on host next after first then = record {
    head = then.head ∙ first.head;
    depth = then.depth ∙ first.depth;
    later = first.later ++ then.later;
    list = then.list ∙ ap (λ list. list ++ then.later) first.list ∙ append_assoc host.server.list first.later then.later;
  }

  pub head_still : (host next : Host D) → IsAtHead host → Grows host next → IsAtHead next
  head_still host next at grows = ap (λ (head : Head). head.depth) grows.head ∙ at ∙ sym grows.depth

  -- what holds of the group, with these batches, holds of the host to which it grew
  pub moved : (P : ℕ → List ℕ → List Made → Type 0) (host next : Host D) (grows : Grows host next)
      → P host.server.depth host.head.spi (host.server.list ++ grows.later) → P next.server.depth next.head.spi next.server.list
  moved P host next grows is =
      subst (λ depth. P depth next.head.spi next.server.list) (sym grows.depth)
      (subst (λ (head : Head). P host.server.depth head.spi next.server.list) (sym grows.head)
      (subst (P host.server.depth host.head.spi) (sym grows.list) is))

  -- a step that reads true, if it opens the group again
  pub grows_kind : {G V : Type 0} (on : Devices D G V) (by : Keying G) (host : Host D) (entry : Entry) (next : Host D) → IsAtHead host
      → IsOfAKind on by host entry next
      → (is_opened_again entry ≡ true → IsSame host (record { head = next.head; list = next.server.list })) → Grows host next
  grows_kind on by host entry next at (inl quiet) reads =
      record { head = quiet.head; depth = quiet.depth; later = []; list = quiet.list ∙ sym (append-nil host.server.list) }
  grows_kind on by host entry next at (inr (inl stored)) reads = record {
    head = ap (λ (given : Host D). given.head) stored.now;
    depth = ap (λ (given : Host D). given.server.depth) stored.now;
    later = made_next on.disks on.signers by.signer by.block host ∷ [];
    list = ap (λ (given : Host D). given.server.list) stored.now;
  }
  grows_kind on by host entry next at (inr (inr found)) reads =
      let same = reads (both_true found.1 (ap is_open found.2.answers)) in
      let begins = list_begins host.server next.server.list same.batches in
      record {
        head = same.head;
        depth = ap (λ (given : Host D). given.server.depth) found.2.now ∙ sym (ap (λ (given : Host D). given.head.depth) found.2.now)
            ∙ ap (λ (head : Head). head.depth) same.head ∙ at;
        later = begins.0;
        list = begins.1;
      }
