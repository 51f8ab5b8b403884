-- What is on its way, once an entry was added or a datagram was taken.
use Rattle.std.proofs.Common.{◌≡◌, ◌∙◌, ℕ, zero, suc, ◌+◌, ◌<◌, ◌≤◌, List, [], ◌∷◌, ◌++◌, length, drop, flat_map, refl, sym, ap, subst, arith}
use Rattle.std.proofs.Common.{None, Some, slice_get, get_or, true, ltb, T, append-nil}
use Rattle.std.specs.List.{All}
use Rattle.std.proofs.lemmas.List.Concat.{flat_map-append}
use Rattle.std.proofs.lemmas.List.Elements.{All-append}
use lib.Dec.{ltb→lt}
use Rattle.std.proofs.lemmas.Option.{none-some, same_Some, slice_get_read}
use Rattle.group_model.specs.declared.entries.Answer.{Answer}
use Rattle.group_model.specs.declared.entries.Asked.{Asked}
use Rattle.group_model.specs.declared.entries.Entry.{Entry}
use Rattle.group_peers.specs.declared.members.Peer.{Peer}
use Rattle.member_steps.specs.Members.{Mail}
use Rattle.member_steps.specs.Views.{View as MemberView, members_with}
use Rattle.group_run.specs.Mails.{first_of, mail_in, mail_of_answer, mail_since}
use Rattle.group_run.specs.Private.Kept.{GoesToPeer, IsReadable, IsWithin, members_at}
use Rattle.group_run.specs.declared.unread.Unread.{Unread}
use Rattle.group_run.proofs.AddLemmas.{IsAdded}

-- ---- lists

pub longer : {A : Type 0} (xs ys : List A) → length (xs ++ ys) ≡ length xs + length ys
longer [] ys = omega arith
longer (x ∷ xs) ys = omega (arith, longer xs ys)

drop_in_front : {A : Type 0} (n : ℕ) (xs ys : List A) → n ≤ length xs → drop n (xs ++ ys) ≡ drop n xs ++ ys
drop_in_front zero xs ys le = refl
drop_in_front (suc n) [] ys le = absurd (omega arith)
drop_in_front (suc n) (x ∷ xs) ys le = drop_in_front n xs ys (omega arith)

drop_behind : {A : Type 0} (n k : ℕ) (xs ys : List A) → n ≡ length xs + k → drop n (xs ++ ys) ≡ drop k ys
drop_behind n k [] ys is = ap (λ at. drop at ys) (omega (arith, is))
drop_behind zero k (x ∷ xs) ys is = absurd (omega (arith, is))
drop_behind (suc n) k (x ∷ xs) ys is = drop_behind n k xs ys (omega (arith, is))

drop_all : {A : Type 0} (n : ℕ) (xs : List A) → length xs ≤ n → drop n xs ≡ []
drop_all zero [] le = refl
drop_all (suc n) [] le = refl
drop_all zero (x ∷ xs) le = absurd (omega arith)
drop_all (suc n) (x ∷ xs) le = drop_all n xs (omega arith)

drop_one : {A : Type 0} (n : ℕ) (xs : List A) → drop (suc n) xs ≡ drop (suc zero) (drop n xs)
drop_one zero xs = refl
drop_one (suc n) [] = refl
drop_one (suc n) (x ∷ xs) = drop_one n xs

drop_at : {A : Type 0} (n : ℕ) (xs : List A) (x : A) → slice_get xs n ≡ Some x → drop n xs ≡ x ∷ drop (suc n) xs
drop_at n [] x is = absurd (none-some x is)
drop_at zero (y ∷ xs) x is = ap (λ z. z ∷ xs) (same_Some y x is)
drop_at (suc n) (y ∷ xs) x is = drop_at n xs x is

left_over : {A : Type 0} (n : ℕ) (xs : List A) → n ≤ length xs → length (drop n xs) + n ≡ length xs
left_over zero xs le = omega arith
left_over (suc n) [] le = absurd (omega arith)
left_over (suc n) (x ∷ xs) le = omega (arith, left_over n xs (omega arith))

-- what is read at a place is there
pub read_there : {A : Type 0} (i : ℕ) (xs : List A) (x : A) → true ≡ ltb i (length xs) → x ≡ get_or xs i x → slice_get xs i ≡ Some x
read_there i xs x less is = slice_get_read xs (length xs) i x refl (ltb→lt i (length xs) (subst T less tt)) is

-- ---- the first of some datagrams

first_at : (n : ℕ) (xs ys : List Mail) → n < length xs → first_of (drop n (xs ++ ys)) ≡ slice_get xs n
first_at n [] ys lt = absurd (omega arith)
first_at zero (x ∷ xs) ys lt = refl
first_at (suc n) (x ∷ xs) ys lt = first_at n xs ys (omega arith)

pub first_is : (list : List Mail) (mail : Mail) → Some mail ≡ first_of list → list ≡ mail ∷ drop (suc zero) list
first_is [] mail is = absurd (none-some mail (sym is))
first_is (first ∷ list) mail is = ap (λ one. one ∷ list) (same_Some first mail (sym is))

pub none_is : (list : List Mail) → None ≡ first_of list → list ≡ []
none_is [] is = refl
none_is (mail ∷ list) is = absurd (none-some mail is)

-- ---- one entry more

module _ (entries : List Entry) (entry : Entry) (unread : Unread) (within : IsWithin entries unread) where
  whole : flat_map mail_in (drop unread.place (entries ++ entry ∷ [])) ≡ flat_map mail_in (drop unread.place entries) ++ (mail_in entry ++ [])
  whole =
      ap (flat_map mail_in) (drop_in_front unread.place entries (entry ∷ []) within.place)
      ∙ flat_map-append mail_in (drop unread.place entries) (entry ∷ [])

  pub mail_more : mail_since (entries ++ entry ∷ []) unread.place unread.taken ≡ mail_since entries unread.place unread.taken ++ mail_in entry
  mail_more =
      ap (drop unread.taken) whole
      ∙ ap (λ more. drop unread.taken (flat_map mail_in (drop unread.place entries) ++ more)) (append-nil (mail_in entry))
      ∙ drop_in_front unread.taken (flat_map mail_in (drop unread.place entries)) (mail_in entry) within.taken

  pub within_more : IsWithin (entries ++ entry ∷ []) unread
  within_more = record {
    place = omega (arith, within.place, longer entries (entry ∷ []));
    taken = subst (λ mail. unread.taken ≤ length mail) (sym whole)
        (omega (arith, within.taken, longer (flat_map mail_in (drop unread.place entries)) (mail_in entry ++ [])));
  }

-- a request that sends nothing
pub record IsUnsent (request : Asked) (answer : Answer) : Type 0 where
  pub none : mail_of_answer request answer ≡ []

module _ {request : Asked} {answer : Answer} {place : ℕ} {before after : List Entry} (unread : Unread) (within : IsWithin before unread)
    (is : IsAdded request answer place before after) where
  pub mail_after : mail_since after unread.place unread.taken ≡ mail_since before unread.place unread.taken ++ mail_of_answer request answer
  mail_after = ap (λ entries. mail_since entries unread.place unread.taken) is.whole ∙ mail_more before _ unread within

  pub mail_still : IsUnsent request answer → mail_since after unread.place unread.taken ≡ mail_since before unread.place unread.taken
  mail_still unsent =
      mail_after ∙ ap (λ more. mail_since before unread.place unread.taken ++ more) unsent.none ∙ append-nil (mail_since before unread.place unread.taken)

  pub members_still : (view : MemberView) → IsUnsent request answer → members_at view after unread ≡ members_at view before unread
  members_still view unsent = ap (members_with view) (mail_still unsent)

  pub readable_after : (peers : List Peer) → All (GoesToPeer peers) (mail_since before unread.place unread.taken)
      → All (GoesToPeer peers) (mail_of_answer request answer) → IsReadable peers after unread
  readable_after peers old new = record {
    within = subst (λ entries. IsWithin entries unread) (sym is.whole) (within_more before _ unread within);
    to_peers = subst (All (GoesToPeer peers)) (sym mail_after)
        (All-append (GoesToPeer peers) (mail_since before unread.place unread.taken) (mail_of_answer request answer) old new);
  }

-- ---- nothing

pub nothing_unread : (entries : List Entry) → mail_since entries (length entries) 0 ≡ []
nothing_unread entries = ap (λ left. drop 0 (flat_map mail_in left)) (drop_all (length entries) entries (omega arith))

pub nothing_unread_at : (entries looked : List Entry) → looked ≡ entries → mail_since entries (length looked) 0 ≡ []
nothing_unread_at entries looked same = ap (λ looked. mail_since entries (length looked) 0) same ∙ nothing_unread entries

-- ---- the cursor

-- it is at an entry
module _ (entries : List Entry) (unread : Unread) (entry : Entry) (within : IsWithin entries unread) (is_there : slice_get entries unread.place ≡ Some entry) where
  here : flat_map mail_in (drop unread.place entries) ≡ mail_in entry ++ flat_map mail_in (drop (suc unread.place) entries)
  here = ap (flat_map mail_in) (drop_at unread.place entries entry is_there)

  pub first_here : unread.taken < length (mail_in entry) → first_of (mail_since entries unread.place unread.taken) ≡ slice_get (mail_in entry) unread.taken
  first_here less = ap (λ mail. first_of (drop unread.taken mail)) here ∙ first_at unread.taken (mail_in entry) _ less

  module _ (place left : ℕ) (next : place ≡ suc unread.place) (sum : unread.taken ≡ length (mail_in entry) + left) where
    pub past : mail_since entries place left ≡ mail_since entries unread.place unread.taken
    past =
        ap (λ at. mail_since entries at left) next
        ∙ sym (ap (drop unread.taken) here ∙ drop_behind unread.taken left (mail_in entry) (flat_map mail_in (drop (suc unread.place) entries)) sum)

    pub within_past : unread.place < length entries → IsWithin entries (record { place = place; taken = left })
    within_past less = record {
      place = omega (arith, next, less);
      taken = subst (λ at. left ≤ length (flat_map mail_in (drop at entries))) (sym next)
          (omega (
            arith,
            sum,
            subst (λ mail. unread.taken ≤ length mail) here within.taken,
            longer (mail_in entry) (flat_map mail_in (drop (suc unread.place) entries)),
          ));
    }

-- it is at the end
pub none_here : (entries : List Entry) (unread : Unread) → length entries ≤ unread.place → first_of (mail_since entries unread.place unread.taken) ≡ None
none_here entries unread le =
    ap (λ left. first_of (drop unread.taken (flat_map mail_in left))) (drop_all unread.place entries le)
    ∙ ap first_of (drop_all unread.taken [] (omega arith))

-- ---- one datagram is taken

-- the cursor once more was taken
abbrev pub after_one : Unread → Unread
after_one unread = record { place = unread.place; taken = unread.taken + 1 }

module _ (entries : List Entry) (unread : Unread) (mail : Mail) (is_first : Some mail ≡ first_of (mail_since entries unread.place unread.taken)) where
  pub rest_of : mail_since entries unread.place unread.taken ≡ mail ∷ mail_since entries unread.place (unread.taken + 1)
  rest_of =
      first_is (mail_since entries unread.place unread.taken) mail is_first
      ∙ ap (λ later. mail ∷ later)
      (sym (drop_one unread.taken (flat_map mail_in (drop unread.place entries))) ∙ ap (λ n. mail_since entries unread.place n) next)
    where
      next : suc unread.taken ≡ unread.taken + 1
      next = omega arith

  pub within_one : IsWithin entries unread → IsWithin entries (after_one unread)
  within_one within = record {
    place = within.place;
    taken = omega (arith, ap length rest_of, left_over unread.taken (flat_map mail_in (drop unread.place entries)) within.taken);
  }
