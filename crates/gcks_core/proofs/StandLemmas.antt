-- Which servers a core is.
-- A step of a core is a step of every server that it represents (`Stands`): `stands_as` gives a server for a list, `group_of` the list of a server.
use Rattle.std.proofs.Common.{◌≡◌, ◌∙◌, ◌+◌, ◌^◌, List, None, refl, sym, ap, subst}
use Rattle.gd_edges.specs.declared.draws.Draws.{Ghosts as DrawGhosts}
use Rattle.group_terms.specs.Names.{Name}
use Rattle.group_values.specs.Values.{Made, batches_made}
use Rattle.group_model.specs.Places.{holders_of}
use Rattle.group_model.specs.Refusals.{why_no_join, why_no_leave}
use Rattle.group_model.specs.Servers.{Server, members_now, refusal_to_join, refusal_to_leave}
use Rattle.gcks_core.specs.Private.Cores.{IsGroupOf}
use Rattle.gcks_core.specs.Stands.{Stands}
use Rattle.gcks_core.specs.Stored.{AreDue}
use Rattle.gcks_core.specs.Views.{View}

module _ {D G R : Type 0} (draws : DrawGhosts R) (core : View D G R) where
  -- the server that is sure of its batches
  abbrev pub sure_server : List Made → Server
  sure_server list = record {
    depth = core.head.depth;
    limit = core.head.limit;
    list = list;
    doubt = None;
    needs_reopen = core.needs_reopen;
    queue = core.queue;
    place = draws.place_of core.draws;
  }

  pub stands_as : (list : List Made) → IsGroupOf core.head core.tree list → Stands draws core (sure_server list)
  stands_as list group = record {
    depth = refl;
    limit = refl;
    tree_depth = group.depth;
    tree = group.tree;
    room = group.room ∙ ap (λ depth. 2 ^ (depth + 1)) group.depth;
    kept = group.keeps;
    due = group.due;
    fit = group.fit;
    queue = refl;
    needs_reopen = refl;
    sure = λ _. refl;
    place = refl;
  }

  pub some_server : (list : List Made) → IsGroupOf core.head core.tree list → (server : Server) × Stands draws core server
  some_server list group = (sure_server list, stands_as list group)

  module _ (server : Server) (stands : Stands draws core server) where
    pub group_of : IsGroupOf core.head core.tree server.list
    group_of = record {
      depth = stands.tree_depth ∙ sym stands.depth;
      tree = stands.tree;
      room = stands.room ∙ ap (λ depth. 2 ^ (depth + 1)) (sym stands.tree_depth);
      keeps = stands.kept;
      due = subst (λ depth. AreDue depth core.head.limit server.list) (sym stands.depth)
          (subst (λ limit. AreDue server.depth limit server.list) (sym stands.limit) stands.due);
      fit = stands.fit;
    }

    pub same_holders : core.tree.holders ≡ members_now server
    same_holders = stands.tree.holders ∙ ap (λ depth. holders_of depth (batches_made server.list)) stands.tree_depth

    pub same_no_join : (m : Name) → why_no_join core.needs_reopen core.tree.depth core.tree.holders core.queue m ≡ refusal_to_join server m
    same_no_join m i = why_no_join (stands.needs_reopen i) (stands.tree_depth i) (same_holders i) (stands.queue i) m

    pub same_no_leave : (m : Name) → why_no_leave core.needs_reopen core.tree.depth core.tree.holders core.queue m ≡ refusal_to_leave server m
    same_no_leave m i = why_no_leave (stands.needs_reopen i) (stands.tree_depth i) (same_holders i) (stands.queue i) m
