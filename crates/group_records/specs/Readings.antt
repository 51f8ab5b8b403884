-- How a record of a group's journal is read.
use Rattle.std.specs.Prelude.{◌≡◌, ⊤, ℕ, zero, suc, ◌==◌, ◌&&◌, not, nat_le, List, [], ◌∷◌, Result, Ok, Err, if◌then◌else◌}
use Rattle.gd_wire.specs.Readings.{Cursor, Reading, ◌>>=◌, ◌>>◌, value_of, give, here, check, octets, octet, octet_at, number, long_number, due_octet, due_kind, end}
use Rattle.group_terms.specs.GroupNames.{is_group_name}
use Rattle.group_terms.specs.Names.{Name, is_name}
use Rattle.group_terms.specs.Octets.{iv_octets, key_octets, integrity_octets, rekey_spi_octets, traffic_spi_octets}
use Rattle.group_terms.specs.declared.changes.Change.{Change}
use Rattle.group_terms.specs.declared.changes.Change.TheVariants.{Out, In}
use Rattle.group_terms.specs.declared.values.Drawn.{Drawn}
use Rattle.group_terms.specs.declared.values.TrafficValue.{TrafficValue}
use Rattle.group_terms.specs.declared.wires.WireFault.{WireFault}
use Rattle.group_terms.specs.declared.wires.WireWhat.TheVariants.{Value, Version}
use Rattle.group_records.specs.declared.batches.Stored.{Stored}
use Rattle.group_records.specs.declared.faults.RecordFault.{RecordFault}
use Rattle.group_records.specs.declared.faults.RecordFault.TheVariants.{Malformed, NoMemory}
use Rattle.group_records.specs.declared.heads.Head.{Head}
use Rattle.group_records.specs.Texts.{head_kind, head_version, batch_kind, batch_version}

-- a number of readings, one after the other
abbrev pub many : {A : Type 0} → Reading A → ℕ → Reading (List A)
many reading zero = give []
many reading (suc more) = do
  first ← reading
  rest ← many reading more
  give (first ∷ rest)

-- how many octets a name has
unfoldable pub name_size : ℕ → Reading ℕ
name_size at = do
  size ← octet
  check (nat_le 1 size && nat_le size 32) Value at
  give size

-- the name of a member, which has 1 to 32 octets of its grammar
unfoldable pub member_name : Reading Name
member_name = do
  at ← here
  size ← name_size at
  text ← octets size
  check (is_name text) Value at
  give text

-- the name of a group, which has 1 to 32 octets of any kind
unfoldable pub group_name : Reading (List ℕ)
group_name = do
  at ← here
  size ← name_size at
  text ← octets size
  check (is_group_name text) Value at
  give text

-- the head: a tree of depth 1 to 9, and a limit that is not zero
unfoldable pub head_record : Reading Head
head_record = do
  due_octet head_kind Value
  due_octet head_version Version
  depth_at ← here
  depth ← octet
  check (nat_le 1 depth && nat_le depth 9) Value depth_at
  spi ← octets rekey_spi_octets
  limit_at ← here
  limit ← long_number
  check (not (limit == 0)) Value limit_at
  name ← group_name
  end
  give (record { depth = depth; name = name; spi = spi; limit = limit })

-- a change
unfoldable pub change : Reading Change
change = do
  kind ← due_kind (0 ∷ 1 ∷ [])
  name ← member_name
  give (if kind == 0 then Out name else In name)

-- the value of a position
unfoldable pub node : Reading Drawn
node = do
  at ← here
  id ← number
  check (not (id == 0)) Value at
  iv ← octets iv_octets
  key ← octets key_octets
  give (record { id = id; value = record { iv = iv; key = key } })

-- the value of a traffic key; the highest bit of its SPI is set, so that no SPI is reserved (RFC 4303 section 2.1)
unfoldable pub traffic : Reading TrafficValue
traffic = do
  cipher_key ← octets key_octets
  integrity_key ← octets integrity_octets
  at ← here
  spi ← octets traffic_spi_octets
  check (nat_le 128 (octet_at spi 0)) Value at
  give (record { cipher_key = cipher_key; integrity_key = integrity_key; spi = spi })

-- a batch, of at most 32 changes
unfoldable pub batch_record : Reading Stored
batch_record = do
  due_octet batch_kind Value
  due_octet batch_version Version
  epoch ← long_number
  sequence ← long_number
  at ← here
  count ← octet
  check (nat_le count 32) Value at
  batch ← many change count
  count ← number
  nodes ← many node count
  traffic ← traffic
  end
  give (record { batch = batch; epoch = epoch; sequence = sequence; values = record { nodes = nodes; traffic = traffic } })

-- what reading the values of positions answers: the values, and where reading goes on; or the first fault; or out of memory for it
abbrev pub NodesGive : Result (List Drawn) RecordFault → Cursor → Result (List Drawn × Cursor) WireFault → Type 0
NodesGive (Ok drawn) now reading = reading ≡ Ok (drawn, now)
NodesGive (Err (Malformed fault)) now reading = reading ≡ Err fault
NodesGive (Err NoMemory) now reading = ⊤

-- what reading a batch answers: the batch; or the first fault; or out of memory for it
abbrev pub BatchAnswers : Result Stored RecordFault → Result (Stored × Cursor) WireFault → Type 0
BatchAnswers (Ok stored) reading = value_of reading ≡ Ok stored
BatchAnswers (Err (Malformed fault)) reading = reading ≡ Err fault
BatchAnswers (Err NoMemory) reading = ⊤
