-- Members by rising leaf.
use Rattle.std.proofs.Common.{◌≡◌, ◌∙◌, ℕ, zero, suc, true, false, ◌+◌, ◌^◌, List, [], ◌∷◌, ◌++◌, Option, None, Some, refl, sym, ap, arith, append-nil}
use Rattle.std.specs.Prelude.{◌==◌, if◌then◌else◌}
use Rattle.std.specs.List.{filter_map, range_with_len}
use Rattle.std.specs.Option.{option_map}
use Rattle.std.proofs.lemmas.Bool.Decides.{nat_tests}
use Rattle.std.proofs.lemmas.List.Elements.{filter_map-append}
use Rattle.gd_edges.specs.declared.draws.Draws.{Ghosts as DrawGhosts}
use Rattle.group_terms.specs.Names.{Name}
use Rattle.group_model.specs.Places.{Holders, member_at}
use Rattle.group_model.specs.Seen.{seen_group, standing_at, standings}
use Rattle.group_model.specs.Servers.{Server, members_now, present_batches}
use Rattle.group_model.specs.declared.entries.Answer.TheVariants.{Refused, Shown}
use Rattle.group_model.specs.declared.entries.GroupSeen.{GroupSeen}
use Rattle.group_model.specs.declared.entries.Refusal.TheVariants.{NeedsReopen}
use Rattle.group_model.specs.declared.entries.Standing.{Standing}
use Rattle.gcks_core.specs.Stands.{Stands}
use Rattle.gcks_core.specs.Views.{View}
use Rattle.server_steps.specs.Changes.{shown_group}
use Rattle.server_steps.specs.Private.Standings.{standings_among}
use Rattle.server_steps.proofs.ChangeLemmas.{same_holders}

-- ---- the members that have some leaves

module _ (depth : ℕ) (holders : Holders) where
  pub standings_none : [] ≡ standings_among depth holders []
  unfolding standings_among
  standings_none = refl

  -- nobody has a leaf
  pub standing_none : (leaf at : ℕ) (items : List Standing) → at ≡ leaf → None ≡ member_at depth holders at
      → items ≡ items ++ standings_among depth holders (leaf ∷ [])
  unfolding standings_among
  standing_none leaf at items same nobody =
      let has : None ≡ member_at depth holders leaf = nobody ∙ ap (member_at depth holders) same in
      sym (append-nil items) ∙ ap (λ holder. items ++ filter_map (λ (x : Option Standing). x) (option_map (standing_at leaf) holder ∷ [])) has

  -- somebody has it
  pub standing_some : (leaf at : ℕ) (m : Name) (items now : List Standing) → at ≡ leaf → Some m ≡ member_at depth holders at
      → now ≡ items ++ standing_at at m ∷ [] → now ≡ items ++ standings_among depth holders (leaf ∷ [])
  unfolding standings_among
  standing_some leaf at m items now same has is =
      let held : Some m ≡ member_at depth holders leaf = has ∙ ap (member_at depth holders) same in
      is ∙ ap (λ number. items ++ standing_at number m ∷ []) same
      ∙ ap (λ holder. items ++ filter_map (λ (x : Option Standing). x) (option_map (standing_at leaf) holder ∷ [])) held

-- which position a number is
pub position_is : (at number : ℕ) → Some at ≡ (if number == 0 then None else Some number) → at ≡ number
position_is at zero is = absurd (cc is)
position_is at (suc n) is = grind (arith, nat_tests)

range_more : (from n : ℕ) → range_with_len from (suc n) ≡ range_with_len from n ++ (from + n) ∷ []
range_more from zero =
    let same : from ≡ from + 0 = omega arith in
    ap (λ j. j ∷ []) same
range_more from (suc n) =
    let same : from + 1 + n ≡ from + suc n = omega arith in
    ap (λ rest. from ∷ rest) (range_more (from + 1) n ∙ ap (λ j. range_with_len (from + 1) n ++ j ∷ []) same)

-- one leaf more
pub standings_more : (depth : ℕ) (holders : Holders) (from n : ℕ)
    → standings_among depth holders (range_with_len from (n + 1))
    ≡ standings_among depth holders (range_with_len from n) ++ standings_among depth holders ((from + n) ∷ [])
unfolding standings_among
standings_more depth holders from n =
    let more : n + 1 ≡ suc n = omega arith in
    ap (λ count. filter_map (λ leaf. option_map (standing_at leaf) (member_at depth holders leaf)) (range_with_len from count)) more
    ∙ ap (filter_map (λ leaf. option_map (standing_at leaf) (member_at depth holders leaf))) (range_more from n)
    ∙ filter_map-append (λ leaf. option_map (standing_at leaf) (member_at depth holders leaf)) (range_with_len from n) ((from + n) ∷ [])

-- all leaves
pub standings_all : (depth : ℕ) (holders : Holders) → standings_among depth holders (range_with_len (2 ^ depth) (2 ^ depth)) ≡ standings depth holders
unfolding standings_among standings
standings_all depth holders = refl

-- as many leaves as there are
pub standings_there : (depth leaves count : ℕ) (holders : Holders) (items : List Standing) → leaves ≡ 2 ^ depth → count ≡ leaves
    → items ≡ standings_among depth holders (range_with_len leaves count) → items ≡ standings depth holders
standings_there depth leaves count holders items all each is =
    is ∙ ap (λ n. standings_among depth holders (range_with_len leaves n)) each
    ∙ ap (λ n. standings_among depth holders (range_with_len n n)) all
    ∙ standings_all depth holders

-- ---- the answer

pub shown_stopped : (server : Server) → server.needs_reopen ≡ true → Refused NeedsReopen ≡ shown_group server
shown_stopped server stops = rw stops refl

pub shown_open : (server : Server) (seen : GroupSeen) → server.needs_reopen ≡ false → seen ≡ seen_group server.depth (present_batches server)
    → Shown seen ≡ shown_group server
shown_open server seen goes is = rw goes (ap Shown is)

-- the members of the server that a core is
pub members_seen : {D G R : Type 0} (draws : DrawGhosts R) (core : View D G R) (server : Server) (leaves count : ℕ) (items : List Standing)
    → Stands draws core server → leaves ≡ 2 ^ core.head.depth → count ≡ leaves
    → items ≡ standings_among core.tree.depth core.tree.holders (range_with_len leaves count) → items ≡ standings server.depth (members_now server)
members_seen draws core server leaves count items stands all each is =
    standings_there core.tree.depth leaves count core.tree.holders items (all ∙ ap (λ depth. 2 ^ depth) (stands.depth ∙ sym stands.tree_depth)) each is
    ∙ ap (λ depth. standings depth core.tree.holders) stands.tree_depth
    ∙ ap (standings server.depth) (same_holders stands)
