-- A chain, payload after payload: what is known of one that was read.
use Rattle.std.proofs.Common.{◌≡◌, ℕ, ◌+◌, ◌≤◌, List, [], ◌∷◌, length, take, drop, Result, Ok, Err, IfOk, IfErr, refl, sym, ap, ◌∙◌, subst}
use Rattle.std.proofs.Common.{arith}
use Rattle.std.specs.List.{All}
use Rattle.std.proofs.lemmas.List.{drop-drop, length-drop}
use Rattle.std.proofs.lemmas.List.Elements.{All-nil, All-cons}
use Rattle.group_terms.specs.declared.wires.WireFault.{WireFault}
use Rattle.gd_wire.specs.declared.chains.ChainFault.{ChainFault}
use Rattle.gd_wire.specs.declared.chains.Part.{Part}
use Rattle.gd_wire.specs.declared.chains.Named.{Named}
use Rattle.gd_wire.specs.Readings.{Cursor, Gives, value_of, from_start}
use Rattle.gd_wire.specs.Chains.{PartFits, GoesThrough, body_of, after_parts, payload_then, no_payload, payload, chain_end, chain_from, chain}
use Rattle.gd_wire.proofs.PartLemmas.{IsPayload, payload_read}

-- A chain was read up to a place: what is left of it from there, after the payloads before, is the whole.
pub record Reaches (first : ℕ) (due : List ℕ) (start : Cursor) (count : ℕ) (named : Named) (cursor : Cursor) (before : List Part) : Type 0
  where
    pub counted : length before ≡ count
    pub whole : after_parts before (chain_from (drop count due) named cursor) ≡ chain first due start

pub at_start : (text : List ℕ) (base : ℕ) → GoesThrough text base (from_start base text)
at_start text base = record { base_is = refl; within = omega arith; left = refl }

module _ (text : List ℕ) (base kind : ℕ) (named : Named) (cursor : Cursor) (read : (Part × Named) × Cursor)
    (reads : GoesThrough text base cursor) (is : IsPayload kind named cursor read) where
  -- a payload lies in that text, and so does what comes after it
  part_fits : PartFits text base read.0.0
  part_fits =
      let room = ap length reads.left ∙ length-drop cursor.at text in
      let fits = is.fits in
      let within = reads.within in
      record { within = omega (arith, is.start); place = omega (arith, is.at, is.start, reads.base_is) }

  pub reads_on : GoesThrough text base read.1
  reads_on =
      let room = ap length reads.left ∙ length-drop cursor.at text in
      let fits = is.fits in
      let within = reads.within in
      record {
        base_is = is.base ∙ reads.base_is;
        within = omega (arith, is.place);
        left = is.left ∙ ap (λ octets. drop read.0.0.length (drop 4 octets)) reads.left
            ∙ ap (drop read.0.0.length) (drop-drop 4 cursor.at text)
            ∙ drop-drop read.0.0.length (cursor.at + 4) text ∙ ap (λ place. drop place text) (sym is.place);
      }

  pub body_is : take read.0.0.length (drop 4 cursor.left) ≡ body_of text read.0.0
  body_is =
      ap (λ octets. take read.0.0.length (drop 4 octets)) reads.left ∙ ap (take read.0.0.length) (drop-drop 4 cursor.at text)
      ∙ ap (λ place. take read.0.0.length (drop place text)) (sym is.start)

-- what a call that read a payload knows of it
pub payload_lies : (text : List ℕ) (base kind : ℕ) (named : Named) (cursor : Cursor) (result : Result (Part × Named) WireFault) (now : Cursor)
    → GoesThrough text base cursor → Gives result now (payload kind named cursor)
    → IfOk result (λ read. PartFits text base read.0 × GoesThrough text base now)
payload_lies text base kind named cursor (Ok read) now through gives =
    let is = payload_read kind named cursor.base cursor.at cursor.left (read, now) gives in
    (part_fits text base kind named cursor (read, now) through is, reads_on text base kind named cursor (read, now) through is)
payload_lies text base kind named cursor (Err fault) now through gives = _

-- and it went on
pub payload_rises : (kind : ℕ) (named : Named) (cursor : Cursor) (result : Result (Part × Named) WireFault) (now : Cursor)
    → Gives result now (payload kind named cursor) → IfOk result (λ read. cursor.at ≤ now.at)
payload_rises kind named cursor (Ok read) now gives =
    let is = payload_read kind named cursor.base cursor.at cursor.left (read, now) gives in
    omega (arith, is.place)
payload_rises kind named cursor (Err fault) now gives = _

-- ---- each payload that was read lies in the text

abbrev PartsFit : List ℕ → ℕ → Result (List Part) ChainFault → Type 0
PartsFit text base (Ok parts) = All (PartFits text base) parts
PartsFit text base (Err stop) = All (PartFits text base) stop.before

parts_more : (text : List ℕ) (base : ℕ) (part : Part) → PartFits text base part → (later : Result (List Part) ChainFault)
    → PartsFit text base later → PartsFit text base (after_parts (part ∷ []) later)
parts_more text base part fits (Ok parts) all = All-cons (PartFits text base) part parts fits all
parts_more text base part fits (Err stop) all = All-cons (PartFits text base) part stop.before fits all

parts_none : (text : List ℕ) (base : ℕ) (ended : Result (Unit {0}) WireFault) → PartsFit text base (no_payload ended)
parts_none text base (Ok read) = All-nil (PartFits text base)
parts_none text base (Err fault) = All-nil (PartFits text base)

parts_fit : (text : List ℕ) (base : ℕ) (due : List ℕ) (named : Named) (cursor : Cursor) → GoesThrough text base cursor
    → PartsFit text base (chain_from due named cursor)
parts_fit text base [] named cursor reads = parts_none text base (value_of (chain_end named cursor))
parts_fit text base (kind ∷ due) named cursor reads =
    elim (payload kind named cursor) as (λ result. payload kind named cursor ≡ result → PartsFit text base
    (payload_then result (chain_from due))) [
      | Ok read ↦ λ found.
          let is = payload_read kind named cursor.base cursor.at cursor.left read found in
          parts_more text base read.0.0 (part_fits text base kind named cursor read reads is) (chain_from due read.0.1 read.1)
          (parts_fit text base due read.0.1 read.1 (reads_on text base kind named cursor read reads is))
      | Err fault ↦ λ found. All-nil (PartFits text base)
    ] refl

-- and so do those of a text that is read from its start
pub parts_lie : (text : List ℕ) (base first : ℕ) (due : List ℕ) (answer : Result (List Part) ChainFault)
    → answer ≡ chain first due (from_start base text)
    → IfOk answer (λ parts. All (PartFits text base) parts) × IfErr answer (λ stop. All (PartFits text base) stop.before)
parts_lie text base first due answer same =
    lies answer (subst (PartsFit text base) (sym same) (parts_fit text base due (record { kind = first; at = 16 }) (from_start base text)
    (at_start text base)))
  where
    lies : (answer : Result (List Part) ChainFault) → PartsFit text base answer
        → IfOk answer (λ parts. All (PartFits text base) parts) × IfErr answer (λ stop. All (PartFits text base) stop.before)
    lies (Ok parts) all = (all, tt)
    lies (Err stop) all = (tt, all)
