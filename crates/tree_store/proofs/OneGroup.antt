-- A file has one group at the most.
-- Records at their places (`AreRecordsFrom`), not the reading that they give, which says nothing of them where it breaks off later.
use Rattle.std.proofs.Common.{◌≡◌, ◌∙◌, ◌⊎◌, inl, inr, ⊎_elim, ℕ, ◌+◌, ◌≤◌, List, [], ◌∷◌, ◌++◌, length, true, Some, Result, Ok, Err, refl, sym, ap, subst, arith}
use Rattle.group_records.specs.declared.batches.Stored.{Stored}
use Rattle.group_records.specs.declared.heads.Head.{Head}
use Rattle.group_records.specs.Records.{Record, a_head, a_batch, IsReadAs, IsHeadOf}
use Rattle.group_records.proofs.OnceLemmas.{head_once, read_once}
use Rattle.tree_journal.specs.Records.{records, bodies_from, body_next, is_named, with_front, AreRecordsFrom, IsRecordAt}
use Rattle.tree_store.specs.Groups.{IsAfter, IsNoneAfter, AreRecordsOf, IsGroup, IsNoGroup, HasNoHead, HasNoneAt}
use Rattle.tree_store.proofs.GroupLemmas.{Laws, front_read, named_records}

-- a head and batches in records that were read
Has : Head → List Stored → Result (List (List ℕ)) ℕ → Type 0
Has head list (Err place) = ⊥
Has head list (Ok []) = ⊥
Has head list (Ok (first ∷ bodies)) = IsHeadOf first head × AreRecordsOf head [] bodies list

has : (file : List ℕ) (head : Head) (list : List Stored) → IsGroup file head list → Has head list (records file)
unfolding Has
has file head list (first, bodies, are, is_head, batches) = subst (Has head list) (sym are) (is_head, batches)

-- a record leads from batches to the same ones
after_once : (head : Head) (before : List Stored) (next : Record) (one other : List Stored) → IsAfter head before next one → IsAfter head before next other
    → one ≡ other
after_once head before (a_head next) one other is was = absurd is
after_once head before (a_batch stored) one other is was = is.1 ∙ sym was.1

step_once : (head : Head) (before : List Stored) (body : List ℕ) (next also : Record) (one other : List Stored) → IsReadAs body next → IsReadAs body also
    → IsAfter head before next one → IsAfter head before also other → one ≡ other
step_once head before body next also one other read found is was =
    after_once head before next one other is (subst (λ (said : Record). IsAfter head before said other) (sym (read_once body next also read found)) was)

-- and so do records one after the other
same_batches : (head : Head) (before : List Stored) (bodies : List (List ℕ)) (list others : List Stored)
    → AreRecordsOf head before bodies list → AreRecordsOf head before bodies others → list ≡ others
same_batches head before [] list others one other = one ∙ sym other
same_batches head before (body ∷ bodies) list others (next, mid, read, step, rest) (also, then_mid, found, leads, more) =
    let same : mid ≡ then_mid = step_once head before body next also mid then_mid read found step leads in
    same_batches head then_mid bodies list others (subst (λ (from : List Stored). AreRecordsOf head from bodies list) same rest) more

both : (read : Result (List (List ℕ)) ℕ) (head other : Head) (list others : List Stored) → Has head list read → Has other others read
    → (head ≡ other) × (list ≡ others)
unfolding Has
both (Err place) head other list others one two = absurd one
both (Ok []) head other list others one two = absurd one
both (Ok (first ∷ bodies)) head other list others one two =
    let same : head ≡ other = head_once first head other one.0 two.0 in
    (same, same_batches head [] bodies list others one.1 (subst (λ (h : Head). AreRecordsOf h [] bodies others) (sym same) two.1))

pub one_group : (file : List ℕ) (head other : Head) (list others : List Stored) → IsGroup file head list → IsGroup file other others
    → (head ≡ other) × (list ≡ others)
one_group file head other list others one two = both (records file) head other list others (has file head list one) (has file other others two)

-- of records with these first ones the next one leads on from the batches of those
next_leads : (head : Head) (before : List Stored) (bodies : List (List ℕ)) (firsts list : List Stored) (body : List ℕ) (later : List (List ℕ))
    → AreRecordsOf head before bodies firsts → AreRecordsOf head before (bodies ++ body ∷ later) list
    → (next : Record) × (after : List Stored) × IsReadAs body next × IsAfter head firsts next after
next_leads head before [] firsts list body later are (next, after, read, step, rest) =
    (next, after, read, subst (λ (from : List Stored). IsAfter head from next after) (sym are) step)
next_leads head before (first ∷ bodies) firsts list body later (next, mid, read, step, rest) (also, then_mid, found, leads, more) =
    let same : mid ≡ then_mid = step_once head before first next also mid then_mid read found step leads in
    next_leads head mid bodies firsts list body later rest
    (subst (λ (from : List Stored). AreRecordsOf head from (bodies ++ body ∷ later) list) (sym same) more)

-- after these batches of a group there is a record that may come, or none at all
no_other : (head other : Head) (list firsts : List Stored) (first body : List ℕ) (bodies : List (List ℕ)) (rest : Result (List (List ℕ)) ℕ)
    → Has head list (with_front (first ∷ bodies) (with_front (body ∷ []) rest)) → IsHeadOf first other → AreRecordsOf other [] bodies firsts
    → IsNoneAfter other firsts body → ⊥
unfolding Has
no_other head other list firsts first body bodies (Err place) is is_head are none = is
no_other head other list firsts first body bodies (Ok later) is is_head are none =
    let same : head ≡ other = head_once first head other is.0 is_head in
    let found = next_leads other [] bodies firsts list body later are (subst (λ (h : Head). AreRecordsOf h [] (bodies ++ body ∷ later) list) same is.1) in
    none found.0 found.1 found.2 found.3

-- a place has one record at the most
one_record : (file : List ℕ) (at : ℕ) (body other : List ℕ) → IsRecordAt file at body → IsRecordAt file at other → body ≡ other
one_record file at body other (rest, text, read) (others, also, found) =
    let same : rest ≡ others = cc (text, also) in
    let both_read : Some body ≡ Some other = sym read ∙ ap body_next same ∙ found in
    cc both_read

-- of two runs of records from one place, one has a record more where the other ends
Ahead : List ℕ → ℕ → List (List ℕ) → List (List ℕ) → Type 0
Ahead file at bodies others = (body : List ℕ) × (later : List (List ℕ)) × (others ≡ bodies ++ body ∷ later) × IsRecordAt file at body

further : (file : List ℕ) (at : ℕ) (first next : List ℕ) (bodies others : List (List ℕ)) → next ≡ first → Ahead file at bodies others
    → Ahead file at (first ∷ bodies) (next ∷ others)
unfolding Ahead
further file at first next bodies others same (body, later, are, there) = (body, later, (λ i. same i ∷ are i), there)

run_on : (file : List ℕ) (from at other : ℕ) (bodies others : List (List ℕ)) → AreRecordsFrom file from bodies at → AreRecordsFrom file from others other
    → (at ≡ other) ⊎ (Ahead file at bodies others ⊎ Ahead file other others bodies)
unfolding Ahead
run_on file from at other [] [] here there = inl (sym here ∙ there)
run_on file from at other [] (next ∷ others) here (there, rest) =
    inr (inl (next, others, refl, subst (λ (k : ℕ). IsRecordAt file k next) here there))
run_on file from at other (first ∷ bodies) [] (there, rest) here =
    inr (inr (first, bodies, refl, subst (λ (k : ℕ). IsRecordAt file k first) here there))
run_on file from at other (first ∷ bodies) (next ∷ others) (there, rest) (too, more) =
    let same : next ≡ first = one_record file from next first too there in
    ⊎_elim inl (λ one. inr (⊎_elim (λ more. inl (further file at first next bodies others same more))
    (λ more. inr (further file other next first others bodies (sym same) more)) one))
    (run_on file (from + 5 + length first) at other bodies others rest
    (subst (λ (body : List ℕ). AreRecordsFrom file (from + 5 + length body) others other) same more))

module _ (laws : Laws) where
  front_breaks : (before : List (List ℕ)) (read : Result (List (List ℕ)) ℕ) (place : ℕ) → with_front before read ≡ Err place → read ≡ Err place
  front_breaks before (Ok bodies) place is = absurd (cc is)
  front_breaks before (Err at) place is = is

  -- a file with a record at a place does not break off before it
  record_breaks : (file : List ℕ) (at place : ℕ) (body : List ℕ) → IsRecordAt file at body → bodies_from file at ≡ Err place → at + 5 ≤ place
  record_breaks file at place body there broken =
      let after : ℕ = at + (5 + length body) in
      let later = front_breaks (body ∷ []) (bodies_from file after) place (sym (laws.next file at body there) ∙ broken) in
      let order : at + (5 + length body) ≤ place = laws.breaks file after place later in
      omega arith

  -- where no record may come there is none that does
  none_comes : (file : List ℕ) (head : Head) (before : List Stored) (at : ℕ) (body : List ℕ) (next : Record) (after : List Stored) → HasNoneAt file head before at
      → IsRecordAt file at body → IsReadAs body next → IsAfter head before next after → ⊥
  none_comes file head before at body next after (inl broken) there read step =
      let past : at + 5 ≤ at = record_breaks file at at body there broken in
      omega arith
  none_comes file head before at body next after (inr (other, too, none)) there read step =
      none next after (subst (λ (text : List ℕ). IsReadAs text next) (one_record file at body other there too) read) step

  -- so it is not the beginning of a longer one
  not_ahead : (file : List ℕ) (at : ℕ) (head other : Head) (list more : List Stored) (first next : List ℕ) (bodies others : List (List ℕ))
      → IsHeadOf first head → IsHeadOf next other → AreRecordsOf head [] bodies list → AreRecordsOf other [] others more
      → HasNoneAt file head list at → Ahead file at (first ∷ bodies) (next ∷ others) → ⊥
  unfolding Ahead
  not_ahead file at head other list more first next bodies others is_head is_other are too none (body, later, same, there) =
      let same_first : next ≡ first = cc same in
      let rest : others ≡ bodies ++ body ∷ later = cc same in
      let read : IsHeadOf first other = subst (λ (text : List ℕ). IsHeadOf text other) same_first is_other in
      let same_head : other ≡ head = head_once first other head read is_head in
      let all : AreRecordsOf head [] (bodies ++ body ∷ later) more =
      subst (λ (h : Head). AreRecordsOf h [] (bodies ++ body ∷ later) more) same_head (subst (λ (b : List (List ℕ)). AreRecordsOf other [] b more) rest too) in
      let found = next_leads head [] bodies list more body later are all in
      none_comes file head list at body found.0 found.1 none there found.2 found.3

  -- a file that begins as a group's has a head
  headed : (file : List ℕ) (first : List ℕ) (head : Head) → is_named file ≡ true → IsRecordAt file 9 first → IsHeadOf first head → HasNoHead file → ⊥
  headed file first head named there is_head (inl none) =
      empty (bodies_from file (9 + (5 + length first))) (sym (laws.next file 9 first there) ∙ sym (named_records file named) ∙ none)
    where
      empty : (rest : Result (List (List ℕ)) ℕ) → with_front (first ∷ []) rest ≡ Ok [] → ⊥
      empty (Ok later) is = cc is
      empty (Err place) is = cc is
  headed file first head named there is_head (inr (inl broken)) =
      let past : 9 + 5 ≤ 9 = record_breaks file 9 9 first there (sym (named_records file named) ∙ broken) in
      omega arith
  headed file first head named there is_head (inr (inr (body, read, too, none))) =
      none head (subst (λ (text : List ℕ). IsHeadOf text head) (one_record file 9 first body there too) is_head)

  -- and its name
  begun : (file first : List ℕ) → records file ≡ bodies_from file 9 → IsRecordAt file 9 first → records file ≡ Err 0 → ⊥
  begun file first named there broken =
      let past : 9 + 5 ≤ 0 = record_breaks file 9 0 first there (sym named ∙ broken) in
      omega arith

  has_begun : (file : List ℕ) → HasNoHead file → records file ≡ Err 0 → ⊥
  has_begun file (inl none) broken = cc (none, broken)
  has_begun file (inr (inl other)) broken = cc (other, broken)
  has_begun file (inr (inr (body, named, there, none))) broken = begun file body named there broken

  -- a file is no group's at one place at the most
  pub one_place : (file : List ℕ) (at other : ℕ) → IsNoGroup file at → IsNoGroup file other → at ≡ other
  one_place file at other (inl one) (inl two) = one.0 ∙ sym two.0
  one_place file at other (inl one) (inr (inl two)) = absurd (has_begun file two.1 one.1)
  one_place file at other (inl one) (inr (inr (head, list, (first, bodies, named, stand, is_head, are), none))) =
      absurd (begun file first (named_records file named) stand.0 one.1)
  one_place file at other (inr (inl one)) (inl two) = absurd (has_begun file one.1 two.1)
  one_place file at other (inr (inl one)) (inr (inl two)) = one.0 ∙ sym two.0
  one_place file at other (inr (inl one)) (inr (inr (head, list, (first, bodies, named, stand, is_head, are), none))) =
      absurd (headed file first head named stand.0 is_head one.1)
  one_place file at other (inr (inr (head, list, (first, bodies, named, stand, is_head, are), none))) (inl two) =
      absurd (begun file first (named_records file named) stand.0 two.1)
  one_place file at other (inr (inr (head, list, (first, bodies, named, stand, is_head, are), none))) (inr (inl two)) =
      absurd (headed file first head named stand.0 is_head two.1)
  one_place file at other (inr (inr (head, list, (first, bodies, named, stand, is_head, are), none)))
      (inr (inr (next_head, more, (next, others, too, run, is_next, batches), no_more))) =
      ⊎_elim (λ same. same) (λ ahead. absurd (⊎_elim
      (not_ahead file at head next_head list more first next bodies others is_head is_next are batches none)
      (not_ahead file other next_head head more list next first others bodies is_next is_head batches are no_more) ahead))
      (run_on file 9 at other (first ∷ bodies) (next ∷ others) stand run)

  no_head : (head : Head) (list : List Stored) (file : List ℕ) → Has head list (records file) → HasNoHead file → ⊥
  unfolding Has
  no_head head list file is (inl none) = subst (Has head list) none is
  no_head head list file is (inr (inl none)) = subst (Has head list) none is
  no_head head list file is (inr (inr (body, named, there, none))) =
      first_none (bodies_from file (9 + (5 + length body))) (subst (Has head list) (named ∙ laws.next file 9 body there) is)
    where
      first_none : (rest : Result (List (List ℕ)) ℕ) → Has head list (with_front (body ∷ []) rest) → ⊥
      first_none (Err place) has_it = has_it
      first_none (Ok later) has_it = none head has_it.0

  pub not_none : (file : List ℕ) (head : Head) (list : List Stored) (at : ℕ) → IsGroup file head list → IsNoGroup file at → ⊥
  unfolding Has
  not_none file head list at is (inl (zero, none)) = subst (Has head list) none (has file head list is)
  not_none file head list at is (inr (inl (nine, none))) = no_head head list file (has file head list is) none
  not_none file head list at is (inr (inr (other, firsts, (first, bodies, named, stand, is_head, batches), inl broken))) =
      subst (Has head list) (front_read laws.all file at (first ∷ bodies) named stand ∙ ap (with_front (first ∷ bodies)) broken) (has file head list is)
  not_none file head list at is (inr (inr (other, firsts, (first, bodies, named, stand, is_head, batches), inr (body, there, none)))) =
      no_other head other list firsts first body bodies (bodies_from file (at + (5 + length body)))
      (subst (Has head list) (front_read laws.all file at (first ∷ bodies) named stand ∙ ap (with_front (first ∷ bodies)) (laws.next file at body there))
      (has file head list is)) is_head batches none
