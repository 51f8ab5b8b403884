-- What a history gave and sent, beside all that its batches could ever give and send, and who derives which traffic key from it.
use Rattle.std.specs.Prelude.{◌≡◌, ℕ, ◌≤◌, true, List, ◌++◌, length, take, Contains}
use Rattle.group_terms.specs.Names.{Name}
use Rattle.group_terms.specs.declared.changes.Change.{Change}
use Rattle.group_terms.specs.declared.keys.KeyName.TheVariants.{Traffic}
use Rattle.group_model.specs.Derivations.{CanDerive, held_names, pairs_in, pairs_sent, replies_sent}
use Rattle.group_model.specs.Growth.{Leaves}
use Rattle.group_model.specs.Places.{IsValid}
use Rattle.group_model.specs.Wraps.{wraps_at}
use Rattle.group_model.specs.declared.entries.Answer.{Answer}
use Rattle.group_model.specs.declared.entries.Answer.TheVariants.{Derived}
use Rattle.group_model.specs.declared.entries.Entry.{Entry}
use Rattle.group_model.specs.declared.entries.SymReply.{SymReply}
use Rattle.sym_closure.specs.Firsts.{AreAmong}
use Rattle.sym_closure.specs.Secrecy.{HasMember, IsMemberThrough, first_epoch}
use Rattle.sym_closure.specs.Worlds.{epochs_of, holdings, world, wraps_since}

-- Said of a tree of this depth, its batches, and the entries among which they came.
module _ (depth : ℕ) (batches : List (List Change)) (entries : List Entry) where
  -- Of each epoch from the first one on some entry sent all the encryptions.
  abbrev pub SendsItsWraps : Type 0
  SendsItsWraps =
      (epoch : ℕ) → Contains (epochs_of batches) epoch → first_epoch entries ≤ epoch
      → (entry : Entry) × Contains entries entry × AreAmong (wraps_at depth batches epoch) (pairs_in entry.answer)

  -- All that was sent is among what can ever be sent, and all that a coalition was given among what it can ever be given.
  pub record IsPartOfWorld : Type 0 where
    pub sent : AreAmong (pairs_sent entries) (world depth batches)
    pub held : (coalition : List Name) → AreAmong (held_names entries coalition) (holdings depth batches coalition)

  -- From all that they were given, and all that was sent, names derive the traffic key of an epoch only where one of them is a member of it.
  abbrev pub OnlyMembersDerive : Type 0
  OnlyMembersDerive =
      (epoch : ℕ) (names : List Name) → CanDerive (held_names entries names) (pairs_sent entries) (Traffic epoch) → HasMember depth batches names epoch

  -- Who was sent a reply derives from its keys, by the encryptions since, the traffic key of each epoch through which it stayed a member.
  abbrev pub RepliedMembersDerive : Type 0
  RepliedMembersDerive =
      (reply : SymReply) (epoch : ℕ) → Contains (replies_sent entries) reply → reply.keyed_epoch ≤ epoch → epoch ≤ length batches
      → IsMemberThrough depth batches reply.keyed_epoch epoch reply.member
      → CanDerive reply.names (wraps_since depth batches reply.keyed_epoch epoch) (Traffic epoch)

  -- So it does from all that it was given, with any others, and all that was sent.
  abbrev pub RepliedMembersDeriveBySent : Type 0
  RepliedMembersDeriveBySent =
      (reply : SymReply) (epoch : ℕ) → Contains (replies_sent entries) reply → reply.keyed_epoch ≤ epoch → epoch ≤ length batches
      → IsMemberThrough depth batches reply.keyed_epoch epoch reply.member
      → (names : List Name) → Contains names reply.member → CanDerive (held_names entries names) (pairs_sent entries) (Traffic epoch)

  -- The history serves its members, and nobody else.
  pub record ServesMembers : Type 0 where
    pub world : IsPartOfWorld
    pub wraps : SendsItsWraps
    pub only : OnlyMembersDerive
    pub members : RepliedMembersDerive
    pub by_sent : RepliedMembersDeriveBySent

-- A question whether names derive a traffic key is answered yes only for one who is a member, and always for one who was sent a reply and stayed since.
pub record SaysWhoDerives (depth : ℕ) (batches : List (List Change)) (before : List Entry) (epoch : ℕ) (names : List Name) (answer : Answer)
    : Type 0 where
  pub only : answer ≡ Derived true → HasMember depth batches names epoch
  pub own : (reply : SymReply) → Contains (replies_sent before) reply → Contains names reply.member → reply.keyed_epoch ≤ epoch
      → epoch ≤ length batches → IsMemberThrough depth batches reply.keyed_epoch epoch reply.member → answer ≡ Derived true

-- With what earlier runs gave and sent, while the journal had the first of these batches, it is still part of the same world, and serves nobody else.
abbrev pub ServesAfterEarlier : ℕ → List (List Change) → List Entry → Type 0
ServesAfterEarlier depth batches entries =
    (n : ℕ) (earlier : List Entry) → IsPartOfWorld depth (take n batches) earlier
    → IsPartOfWorld depth batches (earlier ++ entries) × OnlyMembersDerive depth batches (earlier ++ entries)

-- ---- the laws

-- Entries that leave a valid list serve its members, and nobody else.
abbrev pub HistoriesServeMembers : Type 0
HistoriesServeMembers =
    (depth : ℕ) (batches : List (List Change)) (entries : List Entry) → IsValid depth batches → Leaves depth entries batches
    → ServesMembers depth batches entries

-- What they gave and sent stays part of the world beside what earlier runs gave and sent.
abbrev pub EarlierRunsServeNobodyElse : Type 0
EarlierRunsServeNobodyElse =
    (depth : ℕ) (batches : List (List Change)) (entries : List Entry) → IsPartOfWorld depth batches entries → ServesAfterEarlier depth batches entries
