-- The octets of a journal: a commit mark and eight octets that say what the file is; then records, each a commit mark, a length of 4 octets, and a body of that
-- length; and a clear commit mark. A mark is set where its octet is 1. What comes after the first clear commit mark is not read.
use Rattle.std.specs.Prelude.{◌≡◌, ℕ, zero, suc, ◌+◌, ◌-◌, ◌==◌, ◌&&◌, nat_le, Bool, List, [], ◌∷◌, ◌++◌, length, take, drop, codes, Option, None, Some, Result}
use Rattle.std.specs.Prelude.{Ok, Err, if◌then◌else◌}
use Rattle.std.specs.Str.{bytes_eq}
use Rattle.byteorder.specs.Endian.{big_from, big_bytes}
use Rattle.journal_gates.specs.Heads.{most_octets}

-- what the file begins with, once its first commit mark is set
abbrev pub name_text : List ℕ
name_text = codes "GDOIJRNL"

-- a record after its commit mark
abbrev pub record_text : List ℕ → List ℕ
record_text body = big_bytes 4 (length body) ++ body

-- the body of a record, whose length and octets come next; none where they are not whole, or the length is past its limit
abbrev pub body_next : List ℕ → Option (List ℕ)
body_next rest =
    let size = big_from 0 4 rest in
    if nat_le 4 (length rest) && (nat_le size most_octets && nat_le size (length rest - 4)) then Some (take size (drop 4 rest))
    else None

-- the bodies with these in front, where there are any
abbrev pub with_front : List (List ℕ) → Result (List (List ℕ)) ℕ → Result (List (List ℕ)) ℕ
with_front before (Ok bodies) = Ok (before ++ bodies)
with_front before (Err place) = Err place

-- the bodies, one more in front, or the place of the commit mark at which there is none
abbrev pub record_then : ℕ → Option (List ℕ) → (List ℕ → Result (List (List ℕ)) ℕ) → Result (List (List ℕ)) ℕ
record_then at None later = Err at
record_then at (Some body) later = with_front (body ∷ []) (later body)

-- The bodies of the records from a commit mark on, which has a place; or the place of the first commit mark at which the file is no journal. As many steps
-- as there are octets are enough.
abbrev pub records_from : ℕ → ℕ → List ℕ → Result (List (List ℕ)) ℕ
records_from zero at rest = Err at
records_from (suc steps) at [] = Err at
records_from (suc steps) at (gate ∷ rest) =
    if gate == 1 then record_then at (body_next rest) (λ body. records_from steps (at + 5 + length body) (drop (4 + length body) rest))
    else Ok []

-- at a place of a file there is a set commit mark, and a whole record with this body
abbrev pub IsRecordAt : List ℕ → ℕ → List ℕ → Type 0
IsRecordAt file at body = (rest : List ℕ) × (drop at file ≡ 1 ∷ rest) × (body_next rest ≡ Some body)

-- records with these bodies come one after the other, from one place of a file to another
abbrev pub AreRecordsFrom : List ℕ → ℕ → List (List ℕ) → ℕ → Type 0
AreRecordsFrom file from [] to = from ≡ to
AreRecordsFrom file from (body ∷ bodies) to = IsRecordAt file from body × AreRecordsFrom file (from + 5 + length body) bodies to

-- the bodies of the records from the commit mark at a place of a file on
abbrev pub bodies_from : List ℕ → ℕ → Result (List (List ℕ)) ℕ
bodies_from file at = records_from (length file) at (drop at file)

-- the first commit mark is set, and the file is a journal by its name
abbrev pub is_named : List ℕ → Bool
is_named image = bytes_eq (take 9 image) (1 ∷ name_text)

-- the bodies of a journal's records, or the first place at which the image is none
abbrev pub records : List ℕ → Result (List (List ℕ)) ℕ
records image = if is_named image then bodies_from image 9 else Err 0

-- records with these bodies, one after the other, each commit mark set
abbrev pub records_text : List (List ℕ) → List ℕ
records_text [] = []
records_text (body ∷ bodies) = 1 ∷ (record_text body ++ records_text bodies)

-- a journal with these bodies up to its clear commit mark
abbrev pub front_text : List (List ℕ) → List ℕ
front_text bodies = 1 ∷ (name_text ++ records_text bodies)
