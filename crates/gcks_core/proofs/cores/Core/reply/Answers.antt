use Rattle.std.proofs.Common.{◌≡◌, ℕ, List, true, Option, ap, subst, sym}
use Rattle.std.specs.Prelude.{IfSome}
use Rattle.group_terms.specs.declared.paths.Keyed.{Keyed}
use Rattle.group_keys.specs.Replies.{IsKeyedOf}
use Rattle.group_model.specs.Places.{is_member}
use Rattle.gcks_core.specs.Views.{View}
use Rattle.gcks_core.proofs.CommitLemmas.{stands_there}
use Rattle.gcks_core.proofs.GroupLemmas.{drawn_there}
use Rattle.gcks_core.proofs.ReplyLemmas.{is_there}
use Rattle.gcks_core.proofs.StandLemmas.{group_of}
use Rattle.gcks_core.proofs.cores.Core.reply.Goals as goal

pub unwrap-requires : goal.unwrap-requires
unwrap-requires g c =
    let core = c.self.inside in
    let m = c.args.member.now in
    let P : View g.row.D.Denot g.row.G.Denot g.row.R.Denot → Type 0 = λ view. is_member view.tree.holders m ≡ true in
    let member = subst P (sym c.self.view_is) c.requires in
    let group = c.self.invariant.group in
    is_there core.tree.depth core.tree.holders m member c.keyed.result (c.keyed.ensures.none c.self.invariant.list group.tree group.keeps)

pub returns-clause-ok : goal.returns-clause-ok
returns-clause-ok g c server stands =
    let core = c.self.inside in
    let m = c.args.member.now in
    let was = stands_there c.self.view_is server stands in
    let group = group_of g.R.Draws _ server was in
    let given : IsKeyedOf core.tree.depth core.head.spi server.list m c.unwrap.result =
    subst (λ (found : Option Keyed). IfSome found (IsKeyedOf core.tree.depth core.head.spi server.list m)) c.unwrap.ensures
    (c.keyed.ensures.keyed server.list group.tree group.keeps (drawn_there core.head core.tree server.list group)) in
    let spi = ap (λ (view : View g.row.D.Denot g.row.G.Denot g.row.R.Denot). view.head.spi) c.self.view_is in
    subst (λ (depth : ℕ). IsKeyedOf depth c.args.self.now.head.spi server.list m c.unwrap.result) was.tree_depth
    (subst (λ (octets : List ℕ). IsKeyedOf core.tree.depth octets server.list m c.unwrap.result) spi given)
