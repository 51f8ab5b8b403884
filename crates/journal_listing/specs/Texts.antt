-- The text of a listing: a line of its group, a line for each batch, and a line of how the journal ends.
use Rattle.std.specs.Prelude.{ℕ, List, [], ◌∷◌, ◌++◌, Option, None, Some, codes, if◌then◌else◌}
use Rattle.std.specs.List.{flat_map}
use Rattle.std.specs.Fmt.{decimal}
use Rattle.hex.specs.Hex.{encode_lower}
use Rattle.group_terms.specs.Names.{is_name}
use Rattle.group_terms.specs.declared.changes.Change.{Change}
use Rattle.group_terms.specs.declared.changes.Change.TheVariants.{Out, In}
use Rattle.group_records.specs.declared.heads.Head.{Head}
use Rattle.journal_listing.specs.declared.rows.JournalEnd.{JournalEnd}
use Rattle.journal_listing.specs.declared.rows.JournalEnd.TheVariants.{Whole, Begun, NotAJournal}
use Rattle.journal_listing.specs.declared.rows.ListedBatch.{ListedBatch}
use Rattle.journal_listing.specs.declared.rows.Listing.{Listing}
use Rattle.script_text.specs.Report.{line_with}

-- The name of a group, whose octets may be any (RFC 2407 section 4.6.2): as it is where a member could have it, and else in hex.
abbrev pub name_text : List ℕ → List ℕ
name_text name = if is_name name then name else codes "hex:" ++ encode_lower name

-- the depth of the key tree, how far epochs and sequence numbers may go, and the group's name
abbrev pub head_line : Head → List ℕ
head_line head = line_with (codes "depth" ∷ decimal head.depth ∷ codes "limit" ∷ decimal head.limit ∷ codes "name" ∷ name_text head.name ∷ [])

-- the line of a journal's group, or no line where the journal has no head
abbrev pub head_lines : Option Head → List ℕ
head_lines None = []
head_lines (Some head) = head_line head

-- who went, and who came
abbrev pub change_text : Change → List ℕ
change_text (Out member) = codes " out " ++ member
change_text (In member) = codes " in " ++ member

-- the numbers of a batch: its epoch, the number of the last push after it, and how many positions of the tree have new keys
abbrev pub counts_text : ListedBatch → List ℕ
counts_text batch =
    codes "epoch " ++ (decimal batch.epoch ++ (codes " sequence " ++ (decimal batch.sequence ++ (codes " keys " ++ decimal batch.keys))))

-- the line of a batch: its numbers, and who went and who came
abbrev pub batch_line : ListedBatch → List ℕ
batch_line batch = counts_text batch ++ (flat_map change_text batch.changes ++ 10 ∷ [])

-- a line of how the journal ends, with the place where it does
abbrev pub place_line : List ℕ → ℕ → List ℕ
place_line front at = front ++ (decimal at ++ 10 ∷ [])

-- the line of how a journal ends: it is whole, or has a record that was begun and not closed, or is no journal
abbrev pub end_line : JournalEnd → List ℕ
end_line Whole = line_with (codes "whole" ∷ [])
end_line (Begun at) = place_line (codes "a record begun and not closed at ") at
end_line (NotAJournal at) = place_line (codes "not a journal at ") at

-- the text of a whole listing: the line of the group, the lines of the batches in their order, and the line of the end
abbrev pub listing_text : Listing → List ℕ
listing_text listing = head_lines listing.head ++ (flat_map batch_line listing.batches ++ end_line listing.end)

-- what is said where there are words
abbrev pub usage_text : List ℕ
usage_text = line_with (codes "gdoi_journal takes no words, and a journal on standard input" ∷ [])
