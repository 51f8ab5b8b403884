-- To whom the replies of a batch go.
use Rattle.std.proofs.Common.{◌≡◌, ◌∙◌, ℕ, true, false, List, [], ◌∷◌, Some, get_or, map, sym, ap}
use Rattle.std.specs.Prelude.{not}
use Rattle.std.specs.List.{All, list_any}
use Rattle.std.proofs.lemmas.Bool.{and_parts, cond-true, cond-false, not-true, or_parts}
use Rattle.std.proofs.lemmas.List.{map-id}
use Rattle.std.proofs.lemmas.List.Elements.{All-cons, All-nil}
use Rattle.std.proofs.lemmas.Simd.{map-map}
use Rattle.group_terms.specs.Changes.{joiners}
use Rattle.group_terms.specs.Names.{Name, same_name}
use Rattle.group_terms.specs.declared.changes.Change.{Change}
use Rattle.group_model.specs.Places.{names_once}
use Rattle.group_model.specs.Replies.{replies_to, reply_at, says_of}
use Rattle.group_model.specs.declared.entries.SentReply.{SentReply}
use Rattle.group_model.specs.declared.entries.SymReply.{SymReply}
use Rattle.server_steps.specs.Fourths.{reply_to}
use Rattle.server_steps.proofs.WaitLemmas.{same_self}

-- those of a batch go to those whom it lets in, in their order
pub replied_joiners : (depth : ℕ) (batches : List (List Change)) (batch : List Change) (replies : List SentReply)
    → says_of replies ≡ replies_to depth batches batch → map (λ (reply : SentReply). reply.says.member) replies ≡ joiners batch
replied_joiners depth batches batch replies says =
    sym (map-map (λ (says : SymReply). says.member) (λ (reply : SentReply). reply.says) replies)
    ∙ ap (map (λ (says : SymReply). says.member)) says
    ∙ map-map (λ (says : SymReply). says.member) (reply_at depth batches _) (joiners batch)
    ∙ map-id (joiners batch)

-- none of these goes to this member
none_other : (m : Name) (replies : List SentReply) → list_any (same_name m) (map (λ (reply : SentReply). reply.says.member) replies) ≡ false
    → All (λ (reply : SentReply). same_name m reply.says.member ≡ false) replies
none_other m [] none = All-nil _
none_other m (first ∷ replies) none =
    let parts = or_parts (same_name m first.says.member) (list_any (same_name m) (map (λ (reply : SentReply). reply.says.member) replies)) none in
    All-cons (λ (reply : SentReply). same_name m reply.says.member ≡ false) first replies parts.0 (none_other m replies parts.1)

-- where no two go to one member, each is the one that its member gets
pub replies_own : (replies : List SentReply) → names_once (map (λ (reply : SentReply). reply.says.member) replies) ≡ true
    → All (λ (reply : SentReply). reply_to replies reply.says.member ≡ Some reply) replies
replies_own [] once = All-nil _
replies_own (first ∷ replies) once =
    let names : List Name = map (λ (reply : SentReply). reply.says.member) replies in
    let m : Name = first.says.member in
    let parts = and_parts (not (list_any (same_name m) names)) (names_once names) once in
    let others = none_other m replies (not-true (list_any (same_name m) names) parts.0) in
    let rest = replies_own replies parts.1 in
    All-cons (λ (reply : SentReply). reply_to (first ∷ replies) reply.says.member ≡ Some reply) first replies
    (cond-true (same_name m m) (Some first) (reply_to replies m) (same_self m))
    (λ k d less. cond-false (same_name m (get_or replies k d).says.member) (Some first) (reply_to replies (get_or replies k d).says.member) (others k d less)
    ∙ rest k d less)
