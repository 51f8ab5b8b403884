-- What is known of what a history sent.
use Rattle.std.specs.Prelude.{◌≡◌, ℕ, ◌≤◌, List, length, take}
use Rattle.group_terms.specs.declared.keys.Wrap.{Wrap}
use Rattle.group_model.specs.declared.entries.Entry.{Entry}
use Rattle.group_model.specs.Derivations.{pairs_sent}
use Rattle.sym_closure.specs.Firsts.{HasSame}

-- how many entries were taken in, and the pairs that are kept
pub record Known : Type 0 where
  pub count : ℕ
  pub pairs : List Wrap

-- a history begins with the entries that were taken in, and the pairs are what these sent, in any order
pub record Knows (known : Known) (entries : List Entry) : Type 0 where
  pub begun : known.count ≤ length entries
  pub sent : HasSame (pairs_sent (take known.count entries)) known.pairs

-- all of a history was taken in
pub record KnowsAll (known : Known) (entries : List Entry) : Type 0 where
  pub knows : Knows known entries
  pub whole : known.count ≡ length entries
