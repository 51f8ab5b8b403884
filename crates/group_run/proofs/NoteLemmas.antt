-- Pushes of turns that are noted one after the other.
use Rattle.std.proofs.Common.{◌≡◌, ◌∙◌, ℕ, ◌+◌, ◌*◌, ◌<◌, ◌≤◌, Bool, true, false, cond, List, [], ◌∷◌, ◌++◌, length, drop, take, get_or, None, refl, sym, ap, subst, arith}
use Rattle.std.specs.Prelude.{count_by}
use Rattle.std.specs.List.{All}
use Rattle.std.proofs.lemmas.Bool.{false≢true}
use Rattle.std.proofs.lemmas.List.{drop_more, length-take-le, take_more}
use Rattle.std.proofs.lemmas.List.Elements.{All-head, All-tail}
use Rattle.std.proofs.lemmas.List.Sums.{sum_by-cons}
use Rattle.group_model.specs.declared.entries.Answer.{Answer}
use Rattle.group_model.specs.declared.entries.Answer.TheVariants.{Batched, Opened}
use Rattle.group_model.specs.declared.entries.Entry.{Entry}
use Rattle.group_model.specs.declared.entries.Output.{Output}
use Rattle.server_steps.specs.Sent.{pair_by}
use Rattle.group_run.specs.Private.Turned.{is_batch, made_batch, opens}

-- an answer to neither a batch nor an opening sends no pair
pub no_pair : (answer : Answer) → ((output : Output) → answer ≡ Batched output → ⊥) → opens answer ≡ false → pair_by answer ≡ None
no_pair (Batched output) other closed = absurd (other output refl)
no_pair (Opened seen resent) other closed = absurd (false≢true (sym closed))
no_pair answer other closed = refl

-- a batch counts
abbrev weight : Bool → ℕ
weight b = cond b 1 0

-- ---- the turn at a place

module _ (entries : List Entry) (entry : Entry) (place : ℕ) (less : place < length entries) (is : entry ≡ get_or entries place entry) where
  rest_is : drop place entries ≡ entry ∷ drop (place + 1) entries
  rest_is = drop_more entries place entry less ∙ ap (λ entry. entry ∷ drop (place + 1) entries) (sym is)

  pub take_is : take (place + 1) entries ≡ take place entries ++ entry ∷ []
  take_is = take_more entries place entry less ∙ ap (λ entry. take place entries ++ entry ∷ []) (sym is)

  pub taken : length (take place entries) ≡ place
  taken = length-take-le place entries (omega (arith, less))

  module _ (P : Entry → Type 0) (all : All P (drop place entries)) where
    pub here : P entry
    here = All-head P entry (drop (place + 1) entries) (subst (All P) rest_is all)

    pub later : All P (drop (place + 1) entries)
    later = All-tail P entry (drop (place + 1) entries) (subst (All P) rest_is all)

  counted : count_by made_batch (drop place entries) ≡ weight (is_batch entry.answer) + count_by made_batch (drop (place + 1) entries)
  counted = ap (count_by made_batch) rest_is ∙ sum_by-cons (λ (entry : Entry). cond (made_batch entry) 1 0) entry (drop (place + 1) entries)

  -- there is room for it
  pub room_here : (spare : ℕ) → 2 * count_by made_batch (drop place entries) ≤ spare → is_batch entry.answer ≡ true → 2 ≤ spare
  room_here spare room one =
      by_weight (weight (is_batch entry.answer)) (ap weight one) (subst (λ n. 2 * n ≤ spare) counted room)
    where
      by_weight : (n : ℕ) → n ≡ 1 → 2 * (n + count_by made_batch (drop (place + 1) entries)) ≤ spare → 2 ≤ spare
      by_weight n is room = omega (arith, is, room)

  -- and for those after it
  pub room_later : (spare left : ℕ) → 2 * count_by made_batch (drop place entries) ≤ spare → spare ≤ left + cond (is_batch entry.answer) 2 0
      → 2 * count_by made_batch (drop (place + 1) entries) ≤ left
  room_later spare left room used =
      by_test (is_batch entry.answer) (count_by made_batch (drop (place + 1) entries)) (subst (λ n. 2 * n ≤ spare) counted room) used
    where
      by_test : (b : Bool) (n : ℕ) → 2 * (weight b + n) ≤ spare → spare ≤ left + cond b 2 0 → 2 * n ≤ left
      by_test true n room used = omega (arith, room, used)
      by_test false n room used = omega (arith, room, used)
