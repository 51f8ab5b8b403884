-- What looks showed is what a first part of the history showed last.
use Rattle.std.proofs.Common.{◌≡◌, ◌∙◌, ◌==◌, ◌%◌, ◌+◌, ◌<◌, ◌≤◌, ℕ, Bool, true, false, List, [], ◌∷◌, ◌++◌, Option, None, Some, arith, refl, sym, ap, subst}
use Rattle.std.specs.Prelude.{IfSome, length, slice_index_or, if◌then◌else◌}
use Rattle.std.specs.List.{AllByRecursion, cons_option}
use Rattle.std.proofs.Common.{mod-lt}
use Rattle.std.proofs.lemmas.Bool.Decides.{Decides-eqb}
use Rattle.std.proofs.lemmas.List.Elements.{All-from_recursion}
use Rattle.desk.specs.declared.calls.Call.{Call}
use Rattle.epoch_board.specs.Pairs.{last_pair}
use Rattle.epoch_board.specs.declared.pairs.Seen.{Seen}
use Rattle.group_model.specs.declared.entries.Entry.{Entry}
use Rattle.group_steps.specs.Shows.{pair_shown, pairs_shown}
use Rattle.register_workers.specs.LooksShown.{LooksWereShown, ShowsOnly, WasShown}
use Rattle.register_workers.specs.Workers.{RanAll, RanBy, turns_in}
use Rattle.register_workers.specs.declared.lines.BlockAsk.{BlockAsk}
use Rattle.register_workers.specs.declared.lines.BlockAsk.TheVariants.{Now}
use Rattle.register_workers.specs.declared.lines.BlockLine.{BlockLine}
use Rattle.register_workers.proofs.OwnLemmas.{has}
use Rattle.work_shares.specs.Shares.{share, share_from}

-- ---- first parts

-- these are the pairs of a first part
pub record IsShownBy (history : List Entry) (pairs : List Seen) : Type 0 where
  pub upto : List Entry
  pub later : List Entry
  pub are : history ≡ upto ++ later
  pub is : pairs ≡ pairs_shown upto

abbrev tail : List Seen → List Seen
tail [] = []
tail (first ∷ rest) = rest

abbrev head_or : Seen → List Seen → Seen
head_or other [] = other
head_or other (first ∷ rest) = first

first_part : (history : List Entry) (pairs more : List Seen) → pairs_shown history ≡ pairs ++ more → IsShownBy history pairs
first_part history [] more is = record { upto = []; later = history; are = refl; is = refl }
first_part [] (pair ∷ pairs) more is = absurd (cc is)
first_part (entry ∷ history) (pair ∷ pairs) more is =
    by_pair (pair_shown entry.answer) refl is (λ pairs more is. first_part history pairs more is)
  where
    by_pair : (shown : Option Seen) → pair_shown entry.answer ≡ shown → cons_option shown (pairs_shown history) ≡ (pair ∷ pairs) ++ more
        → ((pairs more : List Seen) → pairs_shown history ≡ pairs ++ more → IsShownBy history pairs) → IsShownBy (entry ∷ history) (pair ∷ pairs)
    by_pair None at is part_of =
        let part = part_of (pair ∷ pairs) more is in
        record {
          upto = entry ∷ part.upto;
          later = part.later;
          are = ap (λ (rest : List Entry). entry ∷ rest) part.are;
          is = part.is ∙ sym (ap (λ (shown : Option Seen). cons_option shown (pairs_shown part.upto)) at);
        }
    by_pair (Some first) at is part_of =
        let part = part_of pairs more (ap tail is) in
        record {
          upto = entry ∷ part.upto;
          later = part.later;
          are = ap (λ (rest : List Entry). entry ∷ rest) part.are;
          is = ap (λ (first : Seen). first ∷ pairs) (sym (ap (head_or pair) is)) ∙ ap (λ (rest : List Seen). first ∷ rest) part.is
              ∙ sym (ap (λ (shown : Option Seen). cons_option shown (pairs_shown part.upto)) at);
        }

-- ---- a worker

module _ (short : Bool) (begun : ℕ) (history : List Entry) where
  one_shown : (asked : BlockAsk) (line : BlockLine) (known : List Seen) (calls : List (Call Entry)) (new : BlockLine) (later : List Seen)
      → RanBy begun history (pairs_shown history) short asked line known calls new later → ShowsOnly history new
  one_shown Now line known calls new later looks =
      let part = first_part history later looks.within.0 looks.within.1 in
      subst (ShowsOnly history) (sym looks.now)
      (record { upto = part.upto; later = part.later; are = part.are; is = ap last_pair part.is })
  one_shown asked line known calls new later takes =
      subst (λ (seen : Option Seen). IfSome seen (λ (seen : Seen). WasShown history seen))
      (sym (has short line.asked (record line { seen = None }) (turns_in calls) new takes.becomes).seen) tt

  all_shown : (lines : List BlockLine) (known : List Seen) (calls : List (Call Entry)) (news : List BlockLine) (later : List Seen)
      → RanAll begun history (pairs_shown history) short lines known calls news later → AllByRecursion (ShowsOnly history) news
  all_shown [] known calls news later ran = subst (AllByRecursion (ShowsOnly history)) (sym ran.1) tt
  all_shown (line ∷ lines) known calls news later (own, rest, new, others, next, are, is, ran, more) =
      subst (AllByRecursion (ShowsOnly history)) (sym is)
      (one_shown line.asked line known own new next ran, all_shown lines next rest others later more)

-- ---- all of them

module _ {X : Type 0} (P : X → Type 0) (n : ℕ) (some : 1 ≤ n) where
  either_tail : (b : Bool) (x : X) (mine : List X) → AllByRecursion P (if b then x ∷ mine else mine) → AllByRecursion P mine
  either_tail true x mine all = all.1
  either_tail false x mine all = all

  pub of_all : (xs : List X) (at : ℕ) → ((w : ℕ) → w < n → AllByRecursion P (share_from n w at xs)) → AllByRecursion P xs
  of_all [] at each = tt
  of_all (x ∷ xs) at each =
      let w = at % n in
      let mine = subst (λ b. AllByRecursion P (if b then x ∷ share_from n w (at + 1) xs else share_from n w (at + 1) xs)) ((Decides-eqb w w).1 refl)
      (each w (mod-lt at (omega (arith, some)))) in
      (mine.0, of_all xs (at + 1) (λ v less. either_tail (at % n == v) x (share_from n v (at + 1) xs) (each v less)))

pub were_shown : LooksWereShown
were_shown short workers before turns lines news calls some worked =
    All-from_recursion (ShowsOnly (before ++ turns)) news (of_all (ShowsOnly (before ++ turns)) workers some news 0 of_worker)
  where
    of_worker : (w : ℕ) → w < workers → AllByRecursion (ShowsOnly (before ++ turns)) (share_from workers w 0 news)
    of_worker w less =
        let of = worked w less in
        all_shown short (length before) (before ++ turns) (share workers w lines) (pairs_shown before) (slice_index_or calls w []) (share workers w news)
        of.known of.ran
