-- What comes of listing the journal that a source has.
use Rattle.std.specs.Prelude.{◌≡◌, ◌⊎◌, ℕ, List, Some}
use Rattle.gd_edges.specs.Shown.{Shown}
use Rattle.group_terms.specs.Faults.{Rose}
use Rattle.journal_listing.specs.Listings.{IsListingOf}
use Rattle.journal_listing.specs.Texts.{listing_text}
use Rattle.journal_listing.specs.declared.rows.JournalEnd.{JournalEnd}
use Rattle.journal_listing.specs.declared.rows.JournalEnd.TheVariants.{Whole as WholeJournal, Begun, NotAJournal}
use Rattle.journal_listing.specs.declared.rows.Listing.{Listing}
use Rattle.run_report.specs.Reports.{BreaksOff, Puts}
use Rattle.run_report.specs.declared.endings.Ending.{Ending}
use Rattle.run_report.specs.declared.endings.Ending.TheVariants.{Whole, Source, Memory, NotOpened}

-- how listing a journal that ends so is to end
abbrev pub due_after : JournalEnd → Ending
due_after WholeJournal = Whole
due_after (Begun at) = Whole
due_after (NotAJournal at) = NotOpened

-- a text was put, and the ending is the one that was due; or the text broke off
abbrev pub TextEnds : Ending → Ending → Shown → Shown → List ℕ → Type 0
TextEnds due ending was now text = ((due ≡ ending) × Puts was now text) ⊎ BreaksOff ending was now text

-- the text of a file was put, which has all that is listed of it
abbrev pub ListsFile : List ℕ → Ending → Shown → Shown → Type 0
ListsFile file ending was now = (listing : Listing) × IsListingOf file listing × TextEnds (due_after listing.end) ending was now (listing_text listing)

-- all octets that a source had were taken, where it exposes them, and no call failed
pub record TakesAll (had left : Shown) (file : List ℕ) : Type 0 where
  pub all : (octets : List ℕ) → had.octets ≡ Some octets → file ≡ octets
  pub no_fault : left.faults ≡ had.faults

-- all that a source has was taken, and listed; or the source failed, or memory ran out, and nothing was put
abbrev pub Lists : Shown → Shown → Ending → Shown → Shown → Type 0
Lists had left ending was now =
    ((file : List ℕ) × TakesAll had left file × ListsFile file ending was now)
    ⊎ (((ending ≡ Source) × Rose had.faults left.faults × (now ≡ was)) ⊎ ((ending ≡ Memory) × (now ≡ was)))
