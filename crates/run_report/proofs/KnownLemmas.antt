-- What is put into a sink, step after step.
use Rattle.std.proofs.Common.{◌≡◌, ℕ, List, [], ◌∷◌, ◌++◌, Option, ap, sym, ◌∙◌, refl, subst, arith}
use Rattle.std.specs.Io.KnownBytes.{Appends}
use Rattle.std.proofs.KnownBytes.{Appends-nil, Appends-trans}
use Rattle.std.proofs.lemmas.List.{append_assoc, append-nil, length-append}
use Rattle.std.proofs.lemmas.List.Concat.{flat_map-append}
use Rattle.group_terms.specs.Faults.{Rose}
use Rattle.gd_edges.specs.Shown.{Shown}
use Rattle.group_model.specs.declared.entries.Entry.{Entry}
use Rattle.script_text.specs.Report.{entry_text, entries_text}
use Rattle.run_report.specs.declared.endings.Ending.{Ending}
use Rattle.run_report.specs.declared.endings.Ending.TheVariants.{Sink}
use Rattle.run_report.specs.Reports.{Puts, AppendsPart, BreaksOff, ReportBreaksOff}

pub Puts-none : (known : Shown) → Puts known known []
Puts-none known = record { appended = Appends-nil known.octets; no_fault = refl }

pub Puts-then : (u v w : Shown) (a b : List ℕ) → Puts u v a → Puts v w b → Puts u w (a ++ b)
Puts-then u v w a b h k = record { appended = Appends-trans u.octets v.octets w.octets a b h.appended k.appended; no_fault = k.no_fault ∙ h.no_fault }

-- the reports of entries, and of more after them
pub Puts-entries : (u v w : Shown) (entries more : List Entry) → Puts u v (entries_text entries) → Puts v w (entries_text more)
    → Puts u w (entries_text (entries ++ more))
Puts-entries u v w entries more h k =
    subst (Puts u w) (sym (flat_map-append entry_text entries more)) (Puts-then u v w (entries_text entries) (entries_text more) h k)

pub Puts-entry : (u v : Shown) (entry : Entry) → Puts u v (entry_text entry) → Puts u v (entries_text (entry ∷ []))
Puts-entry u v entry h = subst (Puts u v) (sym (append-nil (entry_text entry))) h

-- a part of a text whose front was put before
AppendsPart-after : (was known now : Option (List ℕ)) (front line others text : List ℕ) → Appends was known front → text ≡ front ++ (line ++ others)
    → AppendsPart known now line → AppendsPart was now text
AppendsPart-after was known now front line others text told parts h = record {
  part = front ++ h.part;
  missing = h.missing ++ others;
  parts = parts ∙ ap (λ line. front ++ (line ++ others)) h.parts ∙ ap (λ rest. front ++ rest) (append_assoc h.part h.missing others)
      ∙ sym (append_assoc front h.part (h.missing ++ others));
  some = omega (arith, h.some, length-append h.missing others);
  appended = Appends-trans was known now front h.part told h.appended;
}

-- a text whose front was put, and whose next piece broke off
pub BreaksOff-after : (was known now : Shown) (front line others text : List ℕ) → Puts was known front → text ≡ front ++ (line ++ others)
    → BreaksOff Sink known now line → BreaksOff Sink was now text
BreaksOff-after was known now front line others text puts parts h = (
  subst (λ faults. Rose faults now.faults) puts.no_fault h.0,
  AppendsPart-after was.octets known.octets now.octets front line others text puts.appended parts h.1,
)

-- the report of one entry broke off
pub ReportBreaksOff-one : (ending : Ending) (was now : Shown) (entry : Entry) → BreaksOff ending was now (entry_text entry)
    → ReportBreaksOff ending was now (entry ∷ [])
ReportBreaksOff-one ending was now entry h = record { reported = []; last = entry; parts = refl; middle = was; puts = Puts-none was; breaks = h }

-- that of the last of some entries
pub ReportBreaksOff-last : (ending : Ending) (u v w : Shown) (entries : List Entry) (entry : Entry) → Puts u v (entries_text entries)
    → BreaksOff ending v w (entry_text entry) → ReportBreaksOff ending u w (entries ++ entry ∷ [])
ReportBreaksOff-last ending u v w entries entry h k = record { reported = entries; last = entry; parts = refl; middle = v; puts = h; breaks = k }
