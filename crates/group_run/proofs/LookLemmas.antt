-- Looks of a block are noted, one after the other.
use Rattle.std.proofs.Common.{◌≡◌, ◌∙◌, ℕ, ◌+◌, ◌<◌, length, get_or, List, [], ◌∷◌, ◌++◌, take, drop, None, Some, refl, sym, ap, subst, append_assoc}
use Rattle.std.specs.List.{All}
use Rattle.std.proofs.lemmas.List.{append-nil, drop_more, take-append-drop, take_more}
use Rattle.std.proofs.lemmas.List.Elements.{All-cons, All-head, All-nil, All-tail, All-weaker, filter_map-append}
use Rattle.epoch_board.specs.declared.pairs.Seen.{Seen}
use Rattle.gd_disk.specs.declared.disks.Disk.{Ghosts as DiskGhosts}
use Rattle.gd_edges.specs.declared.draws.Draws.{Ghosts as DrawGhosts}
use Rattle.group_model.specs.declared.entries.Entry.{Entry}
use Rattle.register_workers.specs.declared.lines.BlockLine.{BlockLine}
use Rattle.group_run.specs.Blocks.{Looks, LooksAll, Point, seen_in}
use Rattle.group_run.specs.Places.{IsServedAt, Reaches, ReachesServed}
use Rattle.group_run.specs.Private.Afters.{StopsInLooks}
use Rattle.register_workers.specs.LooksShown.{WasShown}
use Rattle.group_run.specs.Stays.{MailStays}
use Rattle.group_run.specs.Views.{View}

-- what was shown was shown, once there are more entries
pub shown_still : (entries more : List Entry) (pairs : List Seen) → All (WasShown entries) pairs → All (WasShown (entries ++ more)) pairs
shown_still entries more pairs shown =
    All-weaker (WasShown entries) (WasShown (entries ++ more))
    (λ seen was. record { upto = was.upto; later = was.later ++ more; are = ap (λ before. before ++ more) was.are ∙ append_assoc was.upto was.later more; is = was.is })
    pairs shown

pub shown_in : {old new : List Entry} (more : List Entry) (pairs : List Seen) → new ≡ old ++ more → All (WasShown old) pairs → All (WasShown new) pairs
shown_in {old} {new} more pairs same shown = subst (λ entries. All (WasShown entries) pairs) (sym same) (shown_still old more pairs shown)

-- what the first lines showed, and one more
pub seen_more : (lines : List BlockLine) (line : BlockLine) → seen_in (lines ++ line ∷ []) ≡ seen_in lines ++ seen_in (line ∷ [])
seen_more lines line = filter_map-append (λ (line : BlockLine). line.seen) lines (line ∷ [])

pub seen_parts : (n : ℕ) (lines : List BlockLine) → seen_in lines ≡ seen_in (take n lines) ++ seen_in (drop n lines)
seen_parts n lines =
    ap seen_in (sym (take-append-drop n lines)) ∙ filter_map-append (λ (line : BlockLine). line.seen) (take n lines) (drop n lines)

-- ---- what a line showed

pub all_front : {A : Type 0} (P : A → Type 0) (xs ys : List A) → All P (xs ++ ys) → All P xs
all_front P [] ys all = All-nil P
all_front P (x ∷ xs) ys all = All-cons P x xs (All-head P x (xs ++ ys) all) (all_front P xs ys (All-tail P x (xs ++ ys) all))

pub all_behind : {A : Type 0} (P : A → Type 0) (xs ys : List A) → All P (xs ++ ys) → All P ys
all_behind P [] ys all = all
all_behind P (x ∷ xs) ys all = all_behind P xs ys (All-tail P x (xs ++ ys) all)

pub shown_at : (P : Seen → Type 0) (lines : List BlockLine) (i : ℕ) (line : BlockLine) → i < length lines → line ≡ get_or lines i line → All P (seen_in lines)
    → All P (seen_in (line ∷ []))
shown_at P lines i line less is all =
    let parts : drop i lines ≡ line ∷ drop (i + 1) lines = drop_more lines i line less ∙ ap (λ line. line ∷ drop (i + 1) lines) (sym is) in
    all_front P (seen_in (line ∷ [])) (seen_in (drop (i + 1) lines))
    (subst (All P) (ap seen_in parts ∙ filter_map-append (λ (line : BlockLine). line.seen) (line ∷ []) (drop (i + 1) lines))
    (all_behind P (seen_in (take i lines)) (seen_in (drop i lines)) (subst (All P) (seen_parts i lines) all)))

pub shown_here : (entries : List Entry) (line : BlockLine) (seen : Seen) → line.seen ≡ Some seen → All (WasShown entries) (seen_in (line ∷ []))
    → WasShown entries seen
shown_here entries line seen is shown =
    All-head (WasShown entries) seen []
    (subst (λ seen. All (WasShown entries) (seen_in (record line { seen = seen } ∷ []))) is shown)

module _ {D : Type 0} (d : DiskGhosts D) where
  looks_then : (front later : List Seen) (old mid new : Point D) → LooksAll d front old mid → LooksAll d later mid new → LooksAll d (front ++ later) old new
  looks_then [] later old mid new same looks = subst (λ (at : Point D). LooksAll d later at new) same looks
  looks_then (seen ∷ front) later old mid new looks more = (looks.0, looks.1, looks_then front later looks.0 mid new looks.2 more)

module _ {D G R : Type 0} (d : DiskGhosts D) (draws : DrawGhosts R) where
  -- one line
  pub no_look : (held : View D G R) (line : BlockLine) → line.seen ≡ None → Reaches d draws (LooksAll d (seen_in (line ∷ []))) held held
  no_look held line none = subst (λ seen. Reaches d draws (LooksAll d (seen_in (record line { seen = seen } ∷ []))) held held) (sym none) (λ point at. (point, refl, at))

  pub one_look : (old new : View D G R) (line : BlockLine) (seen : Seen) → line.seen ≡ Some seen → Reaches d draws (Looks d seen) old new
      → Reaches d draws (LooksAll d (seen_in (line ∷ []))) old new
  one_look old new line seen is looks =
      subst (λ seen. Reaches d draws (LooksAll d (seen_in (record line { seen = seen } ∷ []))) old new) (sym is)
      (λ point at. let made = looks point at in (made.0, (made.0, made.1, refl), made.2))

  -- so many lines
  pub record AreNotedSo (lines : List BlockLine) (old new : View D G R) : Type 0 where
    pub looks : Reaches d draws (LooksAll d (seen_in lines)) old new
    pub stays : MailStays old new
    pub server : new.server ≡ old.server
    pub more : List Entry
    pub grown : new.entries ≡ old.entries ++ more

  pub none_noted : (held : View D G R) → AreNotedSo [] held held
  none_noted held = record {
    looks = λ point at. (point, refl, at);
    stays = record { rules_stay = record { rules = refl; place = refl }; mail = refl };
    server = refl;
    more = [];
    grown = sym (append-nil held.entries);
  }

  module _ (lines : List BlockLine) (start mid new : View D G R) (noted : AreNotedSo lines start mid) where
    pub noted_more : (line : BlockLine) → Reaches d draws (LooksAll d (seen_in (line ∷ []))) mid new → MailStays mid new → new.server ≡ mid.server
        → (more : List Entry) × (new.entries ≡ mid.entries ++ more) → AreNotedSo (lines ++ line ∷ []) start new
    noted_more line looks stays server grown = record {
      looks = subst (λ pairs. Reaches d draws (LooksAll d pairs) start new) (sym (seen_more lines line)) (λ point at.
          let first = noted.looks point at in
          let second = looks first.0 first.2 in
          (second.0, looks_then d (seen_in lines) (seen_in (line ∷ [])) point first.0 second.0 first.1 second.1, second.2));
      stays = record {
        rules_stay = record {
          rules = stays.rules_stay.rules ∙ noted.stays.rules_stay.rules;
          place = stays.rules_stay.place ∙ noted.stays.rules_stay.place;
        };
        mail = stays.mail ∙ noted.stays.mail;
      };
      server = server ∙ noted.server;
      more = noted.more ++ grown.0;
      grown = grown.1 ∙ ap (λ entries. entries ++ grown.0) noted.grown ∙ append_assoc start.entries noted.more grown.0;
    }

    -- memory ran out after them
    pub noted_short : (all : List BlockLine) (later : List Seen) → seen_in all ≡ seen_in lines ++ later → new ≡ mid
        → ReachesServed d draws (StopsInLooks d (seen_in all)) start new
    noted_short all later are same point at =
        let made = noted.looks point at in (
          made.0,
          record { front = seen_in lines; later = later; are = are; looks = made.1 },
          subst (λ (held : View D G R). IsServedAt d draws held made.0) (sym same) made.2.served,
        )

    -- one more of them
    pub noted_at : (all : List BlockLine) (i : ℕ) (line : BlockLine) → lines ≡ take i all → i < length all → line ≡ get_or all i line
        → Reaches d draws (LooksAll d (seen_in (line ∷ []))) mid new → MailStays mid new → new.server ≡ mid.server
        → (more : List Entry) × (new.entries ≡ mid.entries ++ more) → AreNotedSo (take (i + 1) all) start new
    noted_at all i line are less is looks stays server grown =
        subst (λ lines. AreNotedSo lines start new)
        (sym (take_more all i line less ∙ (λ k. sym are k ++ sym is k ∷ []))) (noted_more line looks stays server grown)
