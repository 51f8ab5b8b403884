-- What members are told, by key names (RFC 6407 section 3.2).
use Rattle.std.specs.Prelude.{ℕ, List, [], ◌∷◌, ◌++◌, map, length}
use Rattle.group_terms.specs.Changes.{joiners}
use Rattle.group_terms.specs.Names.{Name}
use Rattle.group_terms.specs.declared.changes.Change.{Change}
use Rattle.group_terms.specs.declared.keys.KeyName.TheVariants.{Traffic}
use Rattle.group_model.specs.declared.entries.SentReply.{SentReply}
use Rattle.group_model.specs.declared.entries.SymReply.{SymReply}
use Rattle.group_model.specs.Fresh.{key_path}
use Rattle.group_model.specs.Stayed.{sequence_at}

-- to a member of an epoch: the number of the last push, its keys from its leaf up to the root, and the traffic key
abbrev pub reply_at : ℕ → List (List Change) → ℕ → Name → SymReply
reply_at depth batches epoch m = record {
  member = m;
  keyed_epoch = epoch;
  sequence = sequence_at depth batches epoch;
  names = key_path depth batches epoch m ++ Traffic epoch ∷ [];
}

-- those to all who come in with the last batch of a list, in their order
abbrev pub replies_to : ℕ → List (List Change) → List Change → List SymReply
replies_to depth batches batch = map (reply_at depth batches (length batches)) (joiners batch)

-- what replies say, whatever their datagrams are
abbrev pub says_of : List SentReply → List SymReply
says_of replies = map (λ (reply : SentReply). reply.says) replies
