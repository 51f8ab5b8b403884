-- How the batches of a group grow in a history, and what is sent and told meanwhile, by key names: all of an answer that decides who derives which key.
use Rattle.std.specs.Prelude.{◌≡◌, ◌⊎◌, ℕ, ◌≤◌, true, List, [], ◌∷◌, ◌++◌, length, Contains}
use Rattle.std.specs.Option.{unwrap_or}
use Rattle.group_terms.specs.declared.changes.Change.{Change}
use Rattle.group_model.specs.declared.entries.Answer.{Answer}
use Rattle.group_model.specs.declared.entries.Entry.{Entry}
use Rattle.group_model.specs.declared.entries.SymReply.{SymReply}
use Rattle.group_model.specs.Answers.{found_by}
use Rattle.group_model.specs.Derivations.{replies_in, wraps_in}
use Rattle.group_model.specs.Places.{IsValid, holders_at, is_member}
use Rattle.group_model.specs.Replies.{reply_at, replies_to}
use Rattle.group_model.specs.Wraps.{wraps_at}

-- in a tree of this depth
module _ (depth : ℕ) where
  -- a reply tells a member of an epoch of the list, from the first epoch on, its keys of that epoch (RFC 6407 section 3.2)
  pub record IsReplyOf (first : ℕ) (list : List (List Change)) (reply : SymReply) : Type 0 where
    pub some : 1 ≤ depth
    pub begun : 1 ≤ reply.keyed_epoch
    pub late : first ≤ reply.keyed_epoch
    pub within : reply.keyed_epoch ≤ length list
    pub member : is_member (holders_at depth list reply.keyed_epoch) reply.member ≡ true
    pub names : reply.names ≡ (reply_at depth list reply.keyed_epoch reply.member).names

  -- an answer sends what the last batch of the list encrypts
  abbrev pub SendsLast : List (List Change) → Answer → Type 0
  SendsLast list answer = wraps_in answer ≡ wraps_at depth list (length list)

  -- the batches stay; nothing is sent, or once more what the last one encrypts
  abbrev pub Stays : List (List Change) → List (List Change) → Answer → Type 0
  Stays old new answer = (new ≡ old) × ((wraps_in answer ≡ []) ⊎ SendsLast new answer)

  -- there is one batch more, and what it encrypts is sent
  abbrev pub Makes : List (List Change) → List (List Change) → Answer → Type 0
  Makes old new answer = (batch : List Change) × (new ≡ old ++ batch ∷ []) × SendsLast new answer

  -- what an answer adds: one batch at the most, and each reply tells a member its keys
  pub record Adds (first : ℕ) (old new : List (List Change)) (answer : Answer) : Type 0 where
    pub grows : Stays old new answer ⊎ Makes old new answer
    pub tells : (reply : SymReply) → Contains (replies_in answer) reply → IsReplyOf first new reply

  -- what the answers of entries add, one after the other
  abbrev pub AddsAll : ℕ → List (List Change) → List Entry → List (List Change) → Type 0
  AddsAll first old [] new = new ≡ old
  AddsAll first old (entry ∷ entries) new = (next : List (List Change)) × Adds first old next entry.answer × AddsAll first next entries new

  -- the answer to an opening: it found these batches, sends what the last one encrypts, and tells nobody; or there is no batch, and nothing is sent
  pub record Begins (list : List (List Change)) (answer : Answer) : Type 0 where
    pub found : unwrap_or (found_by answer) 0 ≡ length list
    pub sends : SendsLast list answer ⊎ ((list ≡ []) × (wraps_in answer ≡ []))
    pub none_told : replies_in answer ≡ []

  -- entries, of which the first is an opening, leave these batches
  abbrev pub Leaves : List Entry → List (List Change) → Type 0
  Leaves [] list = list ≡ []
  Leaves (entry ∷ entries) list = (start : List (List Change)) × Begins start entry.answer × AddsAll (length start) start entries list

-- Who comes in with the last batch of a valid list is a member of its epoch, so each reply of that batch tells a member its keys.
abbrev pub RepliesGoToMembers : Type 0
RepliesGoToMembers =
    (depth first : ℕ) (batches : List (List Change)) (batch : List Change) (reply : SymReply) → 1 ≤ depth → first ≤ length batches
    → IsValid depth (batches ++ batch ∷ []) → Contains (replies_to depth (batches ++ batch ∷ []) batch) reply
    → IsReplyOf depth first (batches ++ batch ∷ []) reply
