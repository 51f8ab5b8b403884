-- The records of a group's journal, whose formats are our choice. A record begins with its kind and the version of the format of that kind.
use Rattle.std.specs.Prelude.{ℕ, List, ◌∷◌, ◌++◌, length}
use Rattle.std.specs.List.{flat_map}
use Rattle.byteorder.specs.Endian.{big_bytes}
use Rattle.group_terms.specs.declared.changes.Change.{Change}
use Rattle.group_terms.specs.declared.changes.Change.TheVariants.{Out, In}
use Rattle.group_terms.specs.declared.values.BatchValues.{BatchValues}
use Rattle.group_terms.specs.declared.values.Drawn.{Drawn}
use Rattle.group_terms.specs.declared.values.TrafficValue.{TrafficValue}
use Rattle.group_records.specs.declared.heads.Head.{Head}

-- the kind of the record of a head, and the version of its format
abbrev pub head_kind : ℕ
head_kind = 0

abbrev pub head_version : ℕ
head_version = 1

-- the kind of the record of a batch, and the version of its format
abbrev pub batch_kind : ℕ
batch_kind = 1

abbrev pub batch_version : ℕ
batch_version = 1

-- how many octets a name has, and these
abbrev pub named_text : List ℕ → List ℕ
named_text name = length name ∷ name

-- the head: the depth of the tree, the SPI of rekey datagrams, the limit of epochs and sequence numbers in 4 octets, and the group's name
abbrev pub head_text : Head → List ℕ
head_text head = head_kind ∷ head_version ∷ head.depth ∷ (head.spi ++ (big_bytes 4 head.limit ++ named_text head.name))

-- a change: 0 for who goes out and 1 for who comes in, and the name
abbrev pub change_text : Change → List ℕ
change_text (Out member) = 0 ∷ named_text member
change_text (In member) = 1 ∷ named_text member

-- the changes of a batch, one after the other
abbrev pub changes_text : List Change → List ℕ
changes_text batch = flat_map change_text batch

-- the value of a position: its number in 2 octets, the IV and the key
abbrev pub node_text : Drawn → List ℕ
node_text drawn = big_bytes 2 drawn.id ++ (drawn.value.iv ++ drawn.value.key)

-- the values of positions, one after the other
abbrev pub nodes_text : List Drawn → List ℕ
nodes_text nodes = flat_map node_text nodes

-- the value of a traffic key: the key of the cipher, that of the integrity, and the SPI
abbrev pub traffic_text : TrafficValue → List ℕ
traffic_text traffic = traffic.cipher_key ++ (traffic.integrity_key ++ traffic.spi)

-- a batch: its epoch and the number of the last push after it, in 4 octets each; how many changes it has, and these; in 2 octets how many
-- positions have new keys, and their values; and that of the traffic key
abbrev pub batch_text : List Change → ℕ → ℕ → BatchValues → List ℕ
batch_text batch epoch sequence values =
    batch_kind ∷ batch_version
    ∷ (big_bytes 4 epoch ++ (big_bytes 4 sequence ++ (length batch ∷ (changes_text batch
    ++ (big_bytes 2 (length values.nodes) ++ (nodes_text values.nodes ++ traffic_text values.traffic))))))
