-- How a text is cut into words from its front.
use Rattle.std.proofs.Common.{◌≡◌, ℕ, ◌<◌, true, false, List, [], ◌∷◌, filter, take, drop, length, refl, sym, ap, ◌∙◌, inl, inr, arith}
use Rattle.std.proofs.Math.Numerals.{one-add}
use Rattle.std.proofs.lemmas.Bool.{cases_Bool}
use Rattle.std.proofs.lemmas.List.{nil_from_length}
use Rattle.std.specs.List.{slice_split, onto_first, prefix_len, position_or_len}
use Rattle.script_text.specs.Words.{is_space, is_word, words_of}

-- the pieces after the first one, given what comes after that from its space on
abbrev pieces_behind : List ℕ → List (List ℕ)
pieces_behind [] = []
pieces_behind (c ∷ cs) = slice_split is_space cs

-- a text is cut at its first space
abbrev CutsFirst : List ℕ → Type 0
CutsFirst text = slice_split is_space text
    ≡ take (position_or_len is_space text) text ∷ pieces_behind (drop (position_or_len is_space text) text)

first-space : (c : ℕ) (cs : List ℕ) → is_space c ≡ true → CutsFirst (c ∷ cs)
first-space c cs e = rw e refl

first-other : (c : ℕ) (cs : List ℕ) → is_space c ≡ false → CutsFirst cs → CutsFirst (c ∷ cs)
first-other c cs e h = rw (e, one-add) (ap (onto_first c) h)

slice_split-first : (text : List ℕ) → CutsFirst text
slice_split-first [] = refl
slice_split-first (c ∷ cs) =
    elim (cases_Bool (is_space c)) [ inl e ↦ first-space c cs e | inr e ↦ first-other c cs e (slice_split-first cs) ]

-- from its first space on, a text has the words that come after that space
abbrev HasRest : List ℕ → Type 0
HasRest text = filter is_word (pieces_behind (drop (position_or_len is_space text) text))
    ≡ words_of (drop (position_or_len is_space text) text)

rest-space : (c : ℕ) (cs : List ℕ) → is_space c ≡ true → HasRest (c ∷ cs)
unfolding words_of
rest-space c cs e = rw e (rw e refl)

rest-other : (c : ℕ) (cs : List ℕ) → is_space c ≡ false → HasRest cs → HasRest (c ∷ cs)
rest-other c cs e h = rw (e, one-add) h

words_of-rest : (text : List ℕ) → HasRest text
unfolding words_of
words_of-rest [] = refl
words_of-rest (c ∷ cs) =
    elim (cases_Bool (is_space c)) [ inl e ↦ rest-space c cs e | inr e ↦ rest-other c cs e (words_of-rest cs) ]

-- a text that does not begin with a space begins with a word
abbrev BeginsWith : List ℕ → Type 0
BeginsWith text = 0 < position_or_len is_space text
    → words_of text ≡ take (position_or_len is_space text) text ∷ words_of (drop (position_or_len is_space text) text)

with-space : (c : ℕ) (cs : List ℕ) → is_space c ≡ true → BeginsWith (c ∷ cs)
with-space c cs e = rw e (λ h. absurd (omega (arith, h)))

with-other : (c : ℕ) (cs : List ℕ) → is_space c ≡ false → BeginsWith (c ∷ cs)
unfolding words_of
with-other c cs e _ = rw (e, one-add, slice_split-first cs, words_of-rest cs) refl

words_of-at_word : (text : List ℕ) → BeginsWith text
words_of-at_word [] = λ h. absurd (omega (arith, h))
words_of-at_word (c ∷ cs) = elim (cases_Bool (is_space c)) [ inl e ↦ with-space c cs e | inr e ↦ with-other c cs e ]

-- spaces before the first word count for nothing
abbrev SkipsSpaces : List ℕ → Type 0
SkipsSpaces text = words_of (drop (prefix_len is_space text) text) ≡ words_of text

skips-space : (c : ℕ) (cs : List ℕ) → is_space c ≡ true → SkipsSpaces cs → SkipsSpaces (c ∷ cs)
unfolding words_of
skips-space c cs e h = rw (e, one-add) h

skips-other : (c : ℕ) (cs : List ℕ) → is_space c ≡ false → SkipsSpaces (c ∷ cs)
skips-other c cs e = rw e refl

words_of-behind_spaces : (text : List ℕ) → SkipsSpaces text
words_of-behind_spaces [] = refl
words_of-behind_spaces (c ∷ cs) =
    elim (cases_Bool (is_space c)) [ inl e ↦ skips-space c cs e (words_of-behind_spaces cs) | inr e ↦ skips-other c cs e ]

-- after the spaces a word begins, if anything comes there
abbrev BeginsWord : List ℕ → Type 0
BeginsWord text = 0 < length (drop (prefix_len is_space text) text)
    → 0 < position_or_len is_space (drop (prefix_len is_space text) text)

begins-space : (c : ℕ) (cs : List ℕ) → is_space c ≡ true → BeginsWord cs → BeginsWord (c ∷ cs)
begins-space c cs e h = rw (e, one-add) h

begins-other : (c : ℕ) (cs : List ℕ) → is_space c ≡ false → BeginsWord (c ∷ cs)
begins-other c cs e = rw e (λ _. rw e (omega arith))

position_or_len-behind_spaces : (text : List ℕ) → BeginsWord text
position_or_len-behind_spaces [] = λ h. h
position_or_len-behind_spaces (c ∷ cs) =
    elim (cases_Bool (is_space c)) [ inl e ↦ begins-space c cs e (position_or_len-behind_spaces cs) | inr e ↦ begins-other c cs e ]

-- where nothing comes after the spaces, there is no word
pub words_of-only_spaces : (text rest : List ℕ) → rest ≡ drop (prefix_len is_space text) text → length rest ≡ 0 → words_of text ≡ []
unfolding words_of
words_of-only_spaces text rest e h =
    sym (words_of-behind_spaces text) ∙ (ap words_of (sym e) ∙ ap words_of (nil_from_length rest h))

-- the first word, and what comes after it
pub words_of-next : (text rest : List ℕ) → rest ≡ drop (prefix_len is_space text) text → 0 < length rest
    → words_of text ≡ take (position_or_len is_space rest) rest ∷ words_of (drop (position_or_len is_space rest) rest)
words_of-next text rest e h =
    let begins : 0 < position_or_len is_space rest = rw e (position_or_len-behind_spaces text (rw (← e) h)) in
    sym (words_of-behind_spaces text) ∙ (ap words_of (sym e) ∙ words_of-at_word rest begins)
