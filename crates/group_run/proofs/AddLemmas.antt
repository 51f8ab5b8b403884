-- Entries that are added to a history. Reserving room, reading the place, making the entry and adding it give four equations; `added` puts them together once,
-- and each request takes that record.
use Rattle.std.proofs.Common.{◌≡◌, ◌∙◌, ℕ, List, [], ◌∷◌, ◌++◌, ap}
use Rattle.group_model.specs.declared.entries.Answer.{Answer}
use Rattle.group_model.specs.declared.entries.Asked.{Asked}
use Rattle.group_model.specs.declared.entries.Entry.{Entry}
use Rattle.server_steps.specs.Entries.{noted}

-- the entry of a request with this answer is the last one of a history
pub record IsAdded (request : Asked) (answer : Answer) (place : ℕ) (before after : List Entry) : Type 0 where
  pub whole : after ≡ before ++ noted request answer place ∷ []

pub added : {request : Asked} {answer : Answer} {at place : ℕ} {before reserved after : List Entry} {entry : Entry} → reserved ≡ before → at ≡ place
    → entry ≡ noted request answer at → after ≡ reserved ++ entry ∷ [] → IsAdded request answer place before after
added {request} {answer} {at} {place} {before} {reserved} {after} {entry} same same_place is more = record {
  whole = more ∙ ap (λ front. front ++ entry ∷ []) same ∙ ap (λ last. before ++ last ∷ []) (is ∙ ap (noted request answer) same_place);
}
