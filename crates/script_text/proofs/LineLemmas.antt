-- Words and names, one after the other.
use Rattle.std.proofs.Common.{◌≡◌, ℕ, ◌<◌, ◌≤◌, false, cond, List, [], ◌∷◌, ◌++◌, Option, Some, None, length, refl, ap, sym, ◌∙◌, arith, inl, inr}
use Rattle.std.specs.Prelude.{nat_le, ◌&&◌, codes}
use Rattle.std.specs.List.{flat_map, join_with_byte}
use Rattle.std.specs.Option.{option_map, option_and_then}
use Rattle.std.proofs.lemmas.Bool.{cases_Bool, and_from, and_right, le-leb, leb-true, false_from_ne_true}
use Rattle.std.proofs.lemmas.List.{append-nil, append_assoc}
use Rattle.std.proofs.lemmas.Option.{none-some, same_Some}
use Rattle.group_terms.specs.Names.{Name, name_of}
use Rattle.script_text.specs.Lines.{names_of, members_of}
use Rattle.script_text.specs.Report.{line_with}

-- a first word, others, and a last one
pub joined : (first last : List ℕ) (names : List (List ℕ)) → join_with_byte 32 (first ∷ (names ++ last ∷ [])) ≡ first ++ (flat_map (λ name. 32 ∷ name) names ++ 32 ∷ last)
joined first last [] = refl
joined first last (name ∷ names) = ap (λ rest. first ++ 32 ∷ rest) (joined name last names ∙ sym (append_assoc name (flat_map (λ name. 32 ∷ name) names) (32 ∷ last)))

-- a first word, and others after it
pub joined_after : (first : List ℕ) (words : List (List ℕ)) → join_with_byte 32 (first ∷ words) ≡ first ++ flat_map (λ word. 32 ∷ word) words
joined_after first [] = sym (append-nil first)
joined_after first (word ∷ words) = ap (λ rest. first ++ 32 ∷ rest) (joined_after word words)

-- names that were read have a first one and others
read_both : (first : Option Name) (others : Option (List Name)) (names : List Name) → option_and_then (λ name. option_map (λ rest. name ∷ rest) others) first ≡ Some names → (name : Name) × (rest : List Name) × (first ≡ Some name) × (others ≡ Some rest) × (name ∷ rest ≡ names)
read_both None others names h = absurd (none-some names h)
read_both (Some name) None names h = absurd (none-some names h)
read_both (Some name) (Some rest) names h = (name, rest, refl, refl, same_Some (name ∷ rest) names h)

-- one word more that is a name
pub names_of-more : (done : List (List ℕ)) (names : List Name) (word : List ℕ) (name : Name) → names_of done ≡ Some names → name_of word ≡ Some name → names_of (done ++ word ∷ []) ≡ Some (names ++ name ∷ [])
names_of-more [] names word name h k =
    ap (option_and_then (λ name. option_map (λ rest. name ∷ rest) (names_of []))) k ∙ ap (λ none. Some (none ++ name ∷ [])) (same_Some [] names h)
names_of-more (first ∷ done) names word name h k =
    let both = read_both (name_of first) (names_of done) names h in
    let rest = names_of-more done both.1 word name both.3 k in
    ap (option_and_then (λ name. option_map (λ rest. name ∷ rest) (names_of (done ++ word ∷ [])))) both.2
    ∙ ap (option_map (λ rest. both.0 ∷ rest)) rest ∙ ap (λ all. Some (all ++ name ∷ [])) both.4

none_behind : (first : Option Name) (others : Option (List Name)) → others ≡ None → option_and_then (λ name. option_map (λ rest. name ∷ rest) others) first ≡ None
none_behind None others h = refl
none_behind (Some name) others h = ap (option_map (λ rest. name ∷ rest)) h

-- a word that is none
pub names_of-none : (done : List (List ℕ)) (word : List ℕ) (others : List (List ℕ)) → name_of word ≡ None → names_of (done ++ word ∷ others) ≡ None
names_of-none [] word others h = ap (option_and_then (λ name. option_map (λ names. name ∷ names) (names_of others))) h
names_of-none (first ∷ done) word others h = none_behind (name_of first) (names_of (done ++ word ∷ others)) (names_of-none done word others h)

pub members_of-none : (words : List (List ℕ)) → names_of words ≡ None → members_of words ≡ None
members_of-none words h = elim (cases_Bool (nat_le 1 (length words) && nat_le (length words) 8)) [
  | inl fits ↦ ap (λ b. cond b (names_of words) None) fits ∙ h
  | inr bad ↦ ap (λ b. cond b (names_of words) None) bad
]

pub members_of-many : (words : List (List ℕ)) → 8 < length words → members_of words ≡ None
members_of-many words many = ap (λ b. cond b (names_of words) None) (and_right (nat_le 1 (length words)) (nat_le (length words) 8) (leb_no (length words) 8 many))
  where
    leb_no : (a b : ℕ) → b < a → nat_le a b ≡ false
    leb_no a b h = false_from_ne_true (nat_le a b) (λ within. omega (arith, leb-true a b within, h))

pub members_of-some : (words : List (List ℕ)) → 1 ≤ length words → length words ≤ 8 → members_of words ≡ names_of words
members_of-some words some few = ap (λ b. cond b (names_of words) None) (and_from _ _ (le-leb 1 (length words) some) (le-leb (length words) 8 few))

-- the line of a derivation, piece by piece
pub derive_pieces : (out number last : List ℕ) (names : List (List ℕ)) → (((out ++ codes "derive ") ++ number) ++ flat_map (λ name. 32 ∷ name) names) ++ 32 ∷ (last ++ 10 ∷ []) ≡ out ++ line_with (codes "derive" ∷ number ∷ (names ++ last ∷ []))
derive_pieces out number last names =
    let behind = flat_map (λ name. 32 ∷ name) names in
    let end = 32 ∷ (last ++ 10 ∷ []) in
    append_assoc ((out ++ codes "derive ") ++ number) behind end
    ∙ append_assoc (out ++ codes "derive ") number (behind ++ end)
    ∙ append_assoc out (codes "derive ") (number ++ (behind ++ end))
    ∙ ap (λ rest. out ++ (codes "derive " ++ rest)) (ap (λ rest. number ++ rest) (sym (append_assoc behind (32 ∷ last) (10 ∷ []))) ∙ sym (append_assoc number (behind ++ 32 ∷ last) (10 ∷ [])))
    ∙ ap (λ rest. out ++ (codes "derive " ++ (rest ++ 10 ∷ []))) (sym (joined number last names))

-- the line of a push that is given, piece by piece
pub delivery_pieces : (out m push number end : List ℕ) → (out ++ (m ++ (push ++ number))) ++ end ≡ out ++ (m ++ (push ++ (number ++ end)))
delivery_pieces out m push number end =
    append_assoc out (m ++ (push ++ number)) end
    ∙ ap (λ rest. out ++ rest) (append_assoc m (push ++ number) end ∙ ap (λ rest. m ++ rest) (append_assoc push number end))
