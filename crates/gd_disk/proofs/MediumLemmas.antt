-- What a crash may leave after one event more.
use Rattle.std.proofs.Common.{Result, Ok, Err, OnOk, OnErr, ◌≡◌, inl, inr, ⊎_elim, ℕ, ◌^◌, ◌≤◌, List, [], ◌∷◌, ◌++◌, length, reverse, take, drop, sym, ◌∙◌, ap, subst, arith, take-append-drop}
use Rattle.std.proofs.lemmas.List.{reverse-append}
use Rattle.gd_disk.specs.Disks.{Torn, Cut, Follows, Narrows, Elapses, written}
use Rattle.gd_disk.specs.Media.{Medium, MayLeave, LeftSince, before, failing, wrote, shortened, synced}
use Rattle.gd_disk.specs.Private.Bounds.{Reaches, LiesWithin}
use Rattle.gd_disk.specs.MediaLaws.{image_stays}
use Rattle.gd_disk.specs.declared.events.Event.{Event}
use Rattle.gd_disk.specs.declared.events.Event.TheVariants.{Wrote, Shortened, Synced}
use Rattle.gd_disk.proofs.TornLemmas.{Torn-same, Torn-written, undone-written, Cut-same, Cut-taken}

-- what a crash may leave of a medium
abbrev pub Left : Medium → List ℕ → Type 0
Left medium = MayLeave medium.image medium.events

-- time goes on from octets and events to others
abbrev pub GoesOn : List ℕ → List Event → List ℕ → List Event → Type 0
GoesOn old events new later =
    Elapses (length events) (length later) (LeftSince old events) (LeftSince new later) (MayLeave new later)

-- a write, with what undoes it
abbrev pub noted : ℕ → List ℕ → List ℕ → Event
noted at octets image = Wrote at octets (take (length octets) (drop at image))

-- time goes on by one event
Elapses-event : (event : Event) (old new : List ℕ) (events : List Event) → before event new ≡ old
    → GoesOn old events new (event ∷ events)
Elapses-event event old new events undone = record {
  later = omega arith;
  nothing_else = λ t c le. ⊎_elim (λ now. inr now) (λ left. inl (subst (λ (l : List ℕ). LeftSince l events t c) undone left.1));
  keeps = λ t c le left. inr (le, subst (λ (l : List ℕ). LeftSince l events t c) (sym undone) left);
}

Follows-write : (at : ℕ) (image octets : List ℕ) (events : List Event) → at ≤ length image
    → Follows (Torn at (length octets)) (MayLeave image events) (MayLeave (written image at octets) (noted at octets image ∷ events))
Follows-write at image octets events within c (inl now) =
    let torn : Torn at (length octets) image (written image at octets) = Torn-written at image octets within in
    (image, image_stays image events, subst (λ (l : List ℕ). Torn at (length octets) image l) (sym now) torn)
Follows-write at image octets events within c (inr torn) =
    (torn.0, subst (λ (l : List ℕ). MayLeave l events torn.0) (undone-written image at octets within) torn.1, torn.2)

Follows-cut : (to : ℕ) (image : List ℕ) (events : List Event) → to ≤ length image
    → Follows (Cut to) (MayLeave image events) (MayLeave (take to image) (Shortened to (drop to image) ∷ events))
Follows-cut to image events within c (inl now) =
    (image, image_stays image events, subst (λ (l : List ℕ). Cut to image l) (sym now) (Cut-taken to image within))
Follows-cut to image events within c (inr torn) =
    (torn.0, subst (λ (l : List ℕ). MayLeave l events torn.0) (take-append-drop to image) torn.1, torn.2)

Narrows-sync : (image : List ℕ) (events : List Event) → Narrows (MayLeave image events) (MayLeave image (Synced ∷ events))
Narrows-sync image events c (inl now) = subst (λ (l : List ℕ). MayLeave image events l) (sym now) (image_stays image events)
Narrows-sync image events c (inr none) = absurd none

-- what both ends of a call lead to
pub either : {T E P Q X : Type 0} (result : Result T E) → OnOk result P → OnErr result Q → (P → X) → (Q → X) → X
either (Ok value) done failed by_done by_failed = by_done done
either (Err error) done failed by_done by_failed = by_failed failed

pub write_follows : (old new : Medium) (at : ℕ) (octets : List ℕ) → at ≤ length old.image → new ≡ wrote old at octets
    → Follows (Torn at (length octets)) (Left old) (Left new)
write_follows old new at octets within done =
    let follows = Follows-write at old.image octets old.events within in
    subst (λ (m : Medium). Follows (Torn at (length octets)) (Left old) (Left m)) (sym done) follows

pub no_write_follows : (old new : Medium) (at n : ℕ) → new ≡ failing old → Follows (Torn at n) (Left old) (Left new)
no_write_follows old new at n failed =
    subst (λ (m : Medium). Follows (Torn at n) (Left old) (Left m)) (sym failed) (λ c left. (c, left, Torn-same at n c))

pub cut_follows : (old new : Medium) (to : ℕ) → to ≤ length old.image → new ≡ shortened old to → Follows (Cut to) (Left old) (Left new)
cut_follows old new to within done =
    subst (λ (m : Medium). Follows (Cut to) (Left old) (Left m)) (sym done) (Follows-cut to old.image old.events within)

pub no_cut_follows : (old new : Medium) (to : ℕ) → new ≡ failing old → Follows (Cut to) (Left old) (Left new)
no_cut_follows old new to failed =
    subst (λ (m : Medium). Follows (Cut to) (Left old) (Left m)) (sym failed) (λ c left. (c, left, Cut-same to c))

pub sync_narrows : (old new : Medium) → new ≡ synced old → Narrows (Left old) (Left new)
sync_narrows old new done = subst (λ (m : Medium). Narrows (Left old) (Left m)) (sym done) (Narrows-sync old.image old.events)

pub no_sync_narrows : (old new : Medium) → new ≡ failing old → Narrows (Left old) (Left new)
no_sync_narrows old new failed = subst (λ (m : Medium). Narrows (Left old) (Left m)) (sym failed) (λ c left. left)

pub write_goes_on : (old new : Medium) (at : ℕ) (octets : List ℕ) → at ≤ length old.image → new ≡ wrote old at octets
    → GoesOn old.image old.events new.image new.events
write_goes_on old new at octets within done =
    let event = noted at octets old.image in
    let undone = undone-written old.image at octets within in
    subst
    (λ (m : Medium). GoesOn old.image old.events m.image m.events)
    (sym done)
    (Elapses-event event old.image (written old.image at octets) old.events undone)

pub no_call_goes_on : (old new : Medium) → new ≡ failing old → GoesOn old.image old.events new.image new.events
no_call_goes_on old new failed = subst
    (λ (m : Medium). GoesOn old.image old.events m.image m.events)
    (sym failed)
    (record { later = omega arith; nothing_else = λ t c le left. inl left; keeps = λ t c le left. left })

-- one event more, within the bound
pub LiesWithin-event : (event : Event) (old new : List ℕ) (events later : List Event) → before event new ≡ old
    → later ≡ events ++ event ∷ [] → length new ≤ 2 ^ 62 → Reaches event
    → LiesWithin old (reverse events) → LiesWithin new (reverse later)
LiesWithin-event event old new events later undone more short reaches lies =
    let newest : reverse later ≡ event ∷ reverse events = ap reverse more ∙ reverse-append events (event ∷ []) in
    let earlier : LiesWithin (before event new) (reverse events) =
    subst (λ (l : List ℕ). LiesWithin l (reverse events)) (sym undone) lies in
    subst (λ (l : List Event). LiesWithin new l) (sym newest) (short, (reaches, earlier.0, earlier.1))

-- what a crash may leave is within the bound
pub left_within : (image : List ℕ) (events : List Event) → LiesWithin image events
    → (c : List ℕ) → MayLeave image events c → length c ≤ 2 ^ 62
left_within image [] lies c is = omega (arith, ap length is)
left_within image (event ∷ earlier) lies c (inl is) = omega (arith, ap length is)
left_within image (Wrote at octets undo ∷ earlier) lies c (inr torn) =
    let before_it = left_within (before (Wrote at octets undo) image) earlier (lies.1.1, lies.1.2) torn.0 torn.1 in
    omega (arith, torn.2.no_longer, before_it, lies.1.0)
left_within image (Shortened to undo ∷ earlier) lies c (inr torn) =
    let before_it = left_within (before (Shortened to undo) image) earlier (lies.1.1, lies.1.2) torn.0 torn.1 in
    omega (arith, torn.2.no_longer, before_it, lies.1.0)
left_within image (Synced ∷ earlier) lies c (inr none) = absurd none
