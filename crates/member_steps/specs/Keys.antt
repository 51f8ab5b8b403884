-- Which traffic key a member has.
use Rattle.std.specs.Prelude.{ℕ, List, ◌++◌, take, Option, None, Some}
use Rattle.sha2.specs.Sha256.{sha256}
use Rattle.group_terms.specs.declared.values.TrafficValue.{TrafficValue}
use Rattle.group_model.specs.declared.entries.Answer.{Answer}
use Rattle.group_model.specs.declared.entries.Answer.TheVariants.{KeyIs, Nothing}
use Rattle.member_store.specs.Stores.{Store}

-- the fingerprint of a traffic key: the first 8 octets of a hash (FIPS 180-4)
abbrev pub print_of : TrafficValue → List ℕ
print_of traffic = take 8 (sha256 (traffic.cipher_key ++ traffic.integrity_key))

-- which traffic key a store has, of which epoch, and the number of the last push that it accepted
abbrev pub key_of : Option Store → Answer
key_of None = Nothing
key_of (Some store) = KeyIs store.traffic_epoch store.sequence (print_of store.traffic)
