-- Which keys follow from which, by their names alone (Wong, Gouda and Lam: who holds a key learns each that is encrypted under it).
use Rattle.std.specs.Prelude.{◌≡◌, ◌⊎◌, List, [], ◌∷◌, ◌++◌, map, Contains, Option, None, Some, if◌then◌else◌}
use Rattle.std.specs.List.{flat_map, list_any}
use Rattle.group_terms.specs.Names.{Name, same_name}
use Rattle.group_terms.specs.declared.keys.KeyName.{KeyName}
use Rattle.group_terms.specs.declared.keys.KeyName.TheVariants.{Phase}
use Rattle.group_terms.specs.declared.keys.Wrap.{Wrap}
use Rattle.group_model.specs.declared.entries.Entry.{Entry}
use Rattle.group_model.specs.declared.entries.SymReply.{SymReply}
use Rattle.group_model.specs.declared.entries.PushPair.{PushPair}
use Rattle.group_model.specs.Replies.{says_of}
use Rattle.group_model.specs.declared.entries.Answer.{Answer}
use Rattle.group_model.specs.declared.entries.Answer.TheVariants.{Batched, Datagram, Opened}

-- a key is at hand after those that came earlier: it is held, or a pair gives it under one of them
abbrev pub IsAtHand : List KeyName → List Wrap → List KeyName → KeyName → Type 0
IsAtHand have pairs earlier name = Contains have name ⊎ ((pair : Wrap) × Contains pairs pair × Contains earlier pair.by × (pair.gives ≡ name))

-- each key is at hand when it comes
abbrev pub AreAtHand : List KeyName → List Wrap → List KeyName → List KeyName → Type 0
AreAtHand have pairs earlier [] = Unit {0}
AreAtHand have pairs earlier (name ∷ names) = IsAtHand have pairs earlier name × AreAtHand have pairs (earlier ++ name ∷ []) names

-- keys in an order in which each follows from what is held and those before it
abbrev pub IsDerivation : List KeyName → List Wrap → List KeyName → Type 0
IsDerivation have pairs names = AreAtHand have pairs [] names

-- the goal can be derived: it stands in some derivation
abbrev pub CanDerive : List KeyName → List Wrap → KeyName → Type 0
CanDerive have pairs goal = (names : List KeyName) × IsDerivation have pairs names × Contains names goal

-- what a message of a pull says, in a list: none but the fourth message says keys
abbrev pub reply_in : Option SymReply → List SymReply
reply_in None = []
reply_in (Some reply) = reply ∷ []

-- what the replies that an answer sent say
abbrev pub replies_in : Answer → List SymReply
replies_in (Batched output) = says_of output.replies
replies_in (Datagram octets names) = reply_in names
replies_in answer = []

-- what the replies that a history sent say
abbrev pub replies_sent : List Entry → List SymReply
replies_sent entries = flat_map (λ (entry : Entry). replies_in entry.answer) entries

-- the keys of a reply, where it went to one of these members
abbrev pub names_to : List Name → SymReply → List KeyName
names_to members reply = if list_any (same_name reply.member) members then reply.names else []

-- what these members hold: their phase 1 keys, and the keys of each reply that was sent to one of them
abbrev pub held_names : List Entry → List Name → List KeyName
held_names entries members = map Phase members ++ flat_map (λ (entry : Entry). flat_map (names_to members) (replies_in entry.answer)) entries

-- keys that a member is told, each under its phase 1 key
abbrev pub told_pairs : Name → List KeyName → List Wrap
told_pairs m names = map (λ name. record { by = Phase m; gives = name }) names

-- what a reply encrypts
abbrev pub reply_pairs : SymReply → List Wrap
reply_pairs reply = told_pairs reply.member reply.names

-- what a pair of pushes that was sent again encrypts, where there is one
abbrev pub pairs_resent : Option PushPair → List Wrap
pairs_resent None = []
pairs_resent (Some pair) = pair.wraps

-- what an answer sent for all to see: the encryptions of a batch, or those of the last one again, with the pushes that an opening sent again
abbrev pub wraps_in : Answer → List Wrap
wraps_in (Batched output) = output.wraps
wraps_in (Opened seen resent) = pairs_resent resent
wraps_in answer = []

-- all that an answer sent: the wraps of a batch, and then what its replies encrypt; or the pushes that an opening sent again
abbrev pub pairs_in : Answer → List Wrap
pairs_in (Batched output) = output.wraps ++ flat_map reply_pairs (says_of output.replies)
pairs_in (Opened seen resent) = pairs_resent resent
pairs_in (Datagram octets names) = flat_map reply_pairs (reply_in names)
pairs_in answer = []

-- all that the answers of a history sent, one after the other
abbrev pub pairs_sent : List Entry → List Wrap
pairs_sent entries = flat_map (λ (entry : Entry). pairs_in entry.answer) entries
