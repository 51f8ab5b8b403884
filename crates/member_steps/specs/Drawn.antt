-- What is drawn for members, block by block. The order is our choice.
use Rattle.std.specs.Prelude.{ℕ, List, ◌++◌, take}
use Rattle.group_terms.specs.Names.{Name}
use Rattle.group_terms.specs.declared.phases.Phase1.{Phase1}
use Rattle.group_values.specs.Drawing.{next_place, place_after, with_high_bit}

-- draws with these blocks
module _ (block : ℕ → List ℕ) where
  -- For the phase 1 SA of a member (RFC 2409 section 5) its cookies, SKEYID_a in two blocks, the key, and the last block that phase 1 encrypted. So an
  -- SA is drawn, in place of agreed on.
  abbrev pub phase_drawn : ℕ → Name → Phase1
  phase_drawn place m = record {
    member = m;
    cookies = block place;
    skeyid_a = block (place_after 1 place) ++ block (place_after 2 place);
    key = block (place_after 3 place);
    last = block (place_after 4 place);
  }

  -- for a pull (RFC 6407 section 3.2) a message id, which is not zero since its highest bit is set, and a nonce
  abbrev pub message_drawn : ℕ → List ℕ
  message_drawn place = with_high_bit (take 4 (block place))

  abbrev pub nonce_drawn : ℕ → List ℕ
  nonce_drawn place = block (next_place place)
