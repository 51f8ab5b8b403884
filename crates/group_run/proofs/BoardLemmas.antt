-- What a board shows of one entry more.
use Rattle.std.proofs.Common.{◌≡◌, ◌∙◌, ◌+◌, ℕ, zero, suc, List, [], ◌∷◌, ◌++◌, None, Some, take, arith, ap, sym}
use Rattle.std.specs.Prelude.{slice_get}
use Rattle.std.proofs.lemmas.List.Elements.{filter_map-append}
use Rattle.group_model.specs.declared.entries.Entry.{Entry}
use Rattle.group_steps.specs.Shows.{pair_shown, pairs_shown}

take_suc : (entries : List Entry) (n : ℕ) (entry : Entry) → slice_get entries n ≡ Some entry → take (suc n) entries ≡ take n entries ++ entry ∷ []
take_suc [] n entry is = absurd (apart is)
  where
    apart : None ≡ Some entry → ⊥
    apart e = cc
take_suc (first ∷ entries) zero entry is = cc
take_suc (first ∷ entries) (suc n) entry is = ap (λ front. first ∷ front) (take_suc entries n entry is)

pub one_more_shown : (entries : List Entry) (n : ℕ) (entry : Entry) → slice_get entries n ≡ Some entry
    → pairs_shown (take n entries) ++ pairs_shown (entry ∷ []) ≡ pairs_shown (take (n + 1) entries)
one_more_shown entries n entry is =
    let next : suc n ≡ n + 1 = omega arith in
    sym (filter_map-append (λ (entry : Entry). pair_shown entry.answer) (take n entries) (entry ∷ []))
    ∙ ap pairs_shown (sym (take_suc entries n entry is) ∙ ap (λ n. take n entries) next)
