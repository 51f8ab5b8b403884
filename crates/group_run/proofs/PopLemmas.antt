-- What turns left on its way is read from the end of a list of its places.
use Rattle.std.proofs.Common.{◌≡◌, ◌∙◌, ⊎_elim, inl, inr, ℕ, zero, suc, ◌+◌, Bool, true, false, List, [], ◌∷◌, ◌++◌, length, drop, map, reverse, Option, None, Some, slice_get, refl, sym, ap, subst, arith, append_assoc}
use Rattle.std.specs.List.{All}
use Rattle.std.specs.Option.{option_and_then, option_map}
use Rattle.std.proofs.lemmas.List.{append-nil, reverse-append}
use Rattle.std.proofs.lemmas.List.Elements.{All-head, All-tail, All-weaker}
use Rattle.std.proofs.lemmas.Option.{none-some}
use Rattle.gd_disk.specs.declared.disks.Disk.{Ghosts as DiskGhosts}
use Rattle.gd_edges.specs.declared.draws.Draws.{Ghosts as DrawGhosts}
use Rattle.gd_edges.specs.declared.signers.Signer.{Ghosts as SignerGhosts}
use Rattle.group_terms.specs.Names.{Name}
use Rattle.group_model.specs.declared.entries.Entry.{Entry}
use Rattle.group_steps.specs.Devices.{Keying}
use Rattle.member_steps.specs.Members.{Mail, Members, with_mail_left}
use Rattle.server_steps.specs.Serves.{GoesOn}
use Rattle.group_run.specs.Blocks.{Left, Point, Reads, ReadsOne, marked, marked_first}
use Rattle.group_run.specs.Mails.{mail_in}
use Rattle.group_run.specs.Places.{keys_of}
use Rattle.group_run.specs.Private.Afters.{AreLeftAt, HasReadLeft, HasStoppedLeft, HaveReadLefts, HaveStoppedLefts, IsLeftAt, IsToPeer, ReadsMarked, StaysBeside, mails_of, owns_of}
use Rattle.group_run.specs.Private.Lefts.{left_at, left_with, lefts_at}
use Rattle.group_run.specs.Private.Places.{IsAtBefore, ReachesFrom}
use Rattle.group_run.specs.Views.{View}
use Rattle.group_run.specs.declared.lefts.LeftAt.{LeftAt}
use Rattle.group_run.proofs.ReachLemmas.{goes_then, same_keys}
use Rattle.group_run.proofs.RestLemmas.{reads_more}

-- ---- lists

get_more : {A : Type 0} (xs ys : List A) (i : ℕ) (x : A) → slice_get xs i ≡ Some x → slice_get (xs ++ ys) i ≡ Some x
get_more [] ys i x is = absurd (none-some x is)
get_more (y ∷ xs) ys zero x is = is
get_more (y ∷ xs) ys (suc i) x is = get_more xs ys i x is

abbrev first_found : List (Option Left) → Option Left
first_found [] = None
first_found (found ∷ later) = found

drop_one_more : {A : Type 0} (n : ℕ) (xs : List A) → drop (suc n) xs ≡ drop 1 (drop n xs)
drop_one_more zero xs = refl
drop_one_more (suc n) [] = refl
drop_one_more (suc n) (x ∷ xs) = drop_one_more n xs

-- ---- what is at places, once there are more entries

left_more : (entries more : List Entry) (place : LeftAt) (left : Left) → left_at entries place ≡ Some left → left_at (entries ++ more) place ≡ Some left
left_more entries more place left is = by_entry (slice_get entries place.place) refl is
  where
    by_entry : (found : Option Entry) → slice_get entries place.place ≡ found
        → option_and_then (λ (entry : Entry). option_map (left_with place.lost) (slice_get (mail_in entry) place.at)) found ≡ Some left
        → left_at (entries ++ more) place ≡ Some left
    by_entry None there is = absurd (none-some left is)
    by_entry (Some entry) there is =
        ap (option_and_then (λ (entry : Entry). option_map (left_with place.lost) (slice_get (mail_in entry) place.at)))
        (get_more entries more place.place entry there)
        ∙ is

pub lefts_more : (entries more : List Entry) (places : List LeftAt) (lefts : List Left) → map (left_at entries) places ≡ map Some lefts
    → map (left_at (entries ++ more)) places ≡ map Some lefts
lefts_more entries more [] lefts are = are
lefts_more entries more (place ∷ places) [] are = absurd (omega (arith, ap length are))
lefts_more entries more (place ∷ places) (left ∷ lefts) are =
    λ i. left_more entries more place left (ap first_found are) i ∷ lefts_more entries more places lefts (ap (drop 1) are) i

-- ---- the last place

-- what is at the last place, and at the others
record ArePopped (entries : List Entry) (places : List LeftAt) (place : LeftAt) (lefts : List Left) : Type 0 where
  one : Left
  others : List Left
  are : lefts ≡ one ∷ others
  first : left_at entries place ≡ Some one
  there : lefts_at entries places ≡ map Some others

popped : (entries : List Entry) (all places : List LeftAt) (place : LeftAt) (lefts : List Left) → all ≡ places ++ place ∷ []
    → lefts_at entries all ≡ map Some lefts → ArePopped entries places place lefts
popped entries all places place lefts is are =
    by_lefts lefts (sym (ap (lefts_at entries) is ∙ ap (map (left_at entries)) (reverse-append places (place ∷ []))) ∙ are)
  where
    by_lefts : (lefts : List Left) → left_at entries place ∷ lefts_at entries places ≡ map Some lefts → ArePopped entries places place lefts
    by_lefts [] none = absurd (omega (arith, ap length none))
    by_lefts (one ∷ others) are = record { one = one; others = others; are = refl; first = ap first_found are; there = ap (drop 1) are }

-- ---- marks

one_mark : (own : Bool) (owns : List Bool) (mail : List Mail) (members : Members)
    → marked_first (own ∷ []) mail members ≡ marked_first (own ∷ owns) mail members
one_mark true owns [] members = refl
one_mark true owns (mail ∷ later) members = refl
one_mark false owns mail members = refl

-- ---- one after the other

module _ {D G R : Type 0} (d : DiskGhosts D) (g : SignerGhosts G) (draws : DrawGhosts R) where
  -- Of these some were read, and the others are at these places.
  pub record HaveSome (start now : View D G R) (places : List LeftAt) (lefts : List Left) (block : ℕ → List ℕ) (group : Name) : Type 0 where
    pub count : ℕ
    pub others : List Left
    pub many : length lefts ≡ count + length others
    pub marks : drop count (owns_of lefts) ≡ owns_of others
    pub there : lefts_at now.entries places ≡ map Some others
    pub reads : ReachesFrom d draws (mails_of lefts) (mails_of others) (Reads d g (keys_of draws start block group) count (owns_of lefts)) start now

  pub record IsPopping (start now : View D G R) (all places : List LeftAt) : Type 0 where
    pub beside : StaysBeside start now
    pub goes_on : GoesOn draws start.server now.server
    pub left : List Left
    pub are : AreLeftAt now.members.all now.entries places left
    pub some : (lefts : List Left) (block : ℕ → List ℕ) (group : Name) → lefts_at start.entries all ≡ map Some lefts
        → HaveSome start now places lefts block group

  pub popping_begins : (start : View D G R) (all : List LeftAt) (left : List Left) → AreLeftAt start.members.all start.entries all left
      → IsPopping start start all all
  popping_begins start all left are = record {
    beside = record { rules = record { rules = refl; place = refl }; peers = λ name. refl; more = []; grown = sym (append-nil start.entries) };
    goes_on = record { signer = refl; blocks = λ k. refl };
    left = left;
    are = are;
    some = λ lefts block group there. record {
      count = 0;
      others = lefts;
      many = omega arith;
      marks = refl;
      there = there;
      reads = λ point at. (point, refl, at);
    };
  }

  module _ (start now new : View D G R) (all before places : List LeftAt) (place : LeftAt) (popping : IsPopping start now all before)
      (is : before ≡ places ++ place ∷ []) where
    here : ArePopped now.entries places place popping.left
    here = popped now.entries before places place popping.left is popping.are.there

    to_peers : All (IsToPeer now.members.all) (here.one ∷ here.others)
    to_peers = subst (All (IsToPeer now.members.all)) here.are popping.are.to_peers

    -- there is one to read
    pub one_left : (one : Left) × IsLeftAt now.members.all now.entries place one
    one_left = (here.one, record { there = here.first; to_peer = All-head (IsToPeer now.members.all) here.one here.others to_peers })

    -- with the keys, and the mark, that it has among all of them
    marked_so : (out : Bool) (lefts : List Left) (block : ℕ → List ℕ) (group : Name) (some : HaveSome start now before lefts block group)
        (one : ArePopped now.entries places place some.others) (p q : Point D) → ReadsMarked d g (keys_of draws now block group) out one.one.own p q
        → ReadsOne d g (keys_of draws start block group) out (marked (drop some.count (owns_of lefts)) p.present) p q
    marked_so out lefts block group some one p q reads =
        let owns : drop some.count (owns_of lefts) ≡ one.one.own ∷ owns_of one.others = some.marks ∙ ap owns_of one.are in
        subst (λ (members : Members). ReadsOne d g (keys_of draws start block group) out members p q)
        (one_mark one.one.own (owns_of one.others) p.present.mail p.present ∙ ap (λ (marks : List Bool). marked marks p.present) (sym owns))
        (subst (λ (by : Keying G). ReadsMarked d g by out one.one.own p q) (same_keys draws start now popping.goes_on block group) reads)

    popped_at : (lefts : List Left) (block : ℕ → List ℕ) (group : Name) (some : HaveSome start now before lefts block group)
        → ArePopped now.entries places place some.others
    popped_at lefts block group some = popped now.entries before places place some.others is some.there

    -- it is at the place of the first
    at_first : (lefts : List Left) (one : ArePopped now.entries places place lefts) (p : Point D) → IsAtBefore d draws (mails_of lefts) now p
        → IsAtBefore d draws (one.one.mail ∷ mails_of one.others) now p
    at_first lefts one p at = subst (λ (lefts : List Left). IsAtBefore d draws (mails_of lefts) now p) one.are at

    module _ (read : HasReadLeft d g draws place now new) where
      still_there : (lefts : List Left) → lefts_at now.entries places ≡ map Some lefts → lefts_at new.entries places ≡ map Some lefts
      still_there lefts there =
          subst (λ (entries : List Entry). lefts_at entries places ≡ map Some lefts) (sym read.beside.grown)
          (lefts_more now.entries read.beside.more (reverse places) lefts there)

      some_more : (lefts : List Left) (block : ℕ → List ℕ) (group : Name) → HaveSome start now before lefts block group
          → HaveSome start new places lefts block group
      some_more lefts block group some =
          let one = popped_at lefts block group some in
          record {
            count = suc some.count;
            others = one.others;
            many = omega (arith, some.many, ap length one.are);
            marks = drop_one_more some.count (owns_of lefts) ∙ ap (drop 1) (some.marks ∙ ap owns_of one.are);
            there = still_there one.others one.there;
            reads = λ point at.
                let first = some.reads point at in
                let second = read.reads one.one (mails_of one.others) block group one.first first.0 (at_first some.others one first.0 first.2) in (
                  second.0,
                  reads_more d g (keys_of draws start block group) some.count (owns_of lefts) point first.0 second.0 first.1
                      (marked_so false lefts block group some one first.0 second.0 second.1),
                  second.2,
                );
          }

      pub popping_more : GoesOn draws now.server new.server → IsPopping start new all places
      popping_more goes = record {
        beside = record {
          rules = record {
            rules = read.beside.rules.rules ∙ popping.beside.rules.rules;
            place = read.beside.rules.place ∙ popping.beside.rules.place;
          };
          peers = λ name. read.beside.peers name ∙ popping.beside.peers name;
          more = popping.beside.more ++ read.beside.more;
          grown = read.beside.grown ∙ ap (λ (entries : List Entry). entries ++ read.beside.more) popping.beside.grown
              ∙ append_assoc start.entries popping.beside.more read.beside.more;
        };
        goes_on = goes_then draws popping.goes_on goes;
        left = here.others;
        are = record {
          there = still_there here.others here.there;
          to_peers = All-weaker (IsToPeer now.members.all) (IsToPeer new.members.all) (λ (left : Left) is. read.beside.peers left.mail.0 ∙ is) here.others
              (All-tail (IsToPeer now.members.all) here.one here.others to_peers);
        };
        some = λ lefts block group there. some_more lefts block group (popping.some lefts block group there);
      }

    -- memory ran out
    pub popping_stops : HasStoppedLeft d g draws place now new → HaveStoppedLefts d g draws all start new
    popping_stops stopped = record {
      reads = λ lefts block group there point at.
          let some = popping.some lefts block group there in
          let one = popped_at lefts block group some in
          let first = some.reads point at in
          let second = stopped.reads one.one (mails_of one.others) block group one.first first.0 (at_first some.others one first.0 first.2) in (
            second.0,
            record {
              count = some.count;
              mid = first.0;
              reads = first.1;
              last = ⊎_elim (λ same. inl same) (λ reads. inr (marked_so true lefts block group some one first.0 second.0 reads)) second.1;
            },
            second.2,
          );
    }

  -- none is left
  module _ (start now : View D G R) (all places : List LeftAt) (none : places ≡ []) (popping : IsPopping start now all places) where
    none_there : (lefts : List Left) → lefts_at now.entries places ≡ map Some lefts → lefts ≡ []
    none_there lefts there = by_lefts lefts (sym (ap (lefts_at now.entries) none) ∙ there)
      where
        by_lefts : (lefts : List Left) → lefts_at now.entries [] ≡ map Some lefts → lefts ≡ []
        by_lefts [] there = refl
        by_lefts (left ∷ lefts) there = absurd (omega (arith, ap length there))

    pub popping_ends : HaveReadLefts d g draws all start now
    popping_ends = record {
      beside = popping.beside;
      reads = λ lefts block group there point at.
          let some = popping.some lefts block group there in
          let no_others = none_there some.others some.there in
          let made = some.reads point at in
          let all_of : some.count ≡ length lefts = omega (arith, some.many, ap length no_others) in (
            made.0,
            subst (λ (k : ℕ). Reads d g (keys_of draws start block group) k (owns_of lefts) point made.0) all_of made.1,
            record {
              served = made.2.served;
              present = made.2.present ∙ ap (λ (lefts : List Left). with_mail_left now.members (mails_of lefts ++ now.members.mail)) no_others;
            },
          );
    }
