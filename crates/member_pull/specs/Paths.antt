-- The root's key of a path that a pull gives (RFC 6407 section 5.6.3.1).
use Rattle.std.specs.Prelude.{◌-◌, List, [], length, slice_index_or}
use Rattle.group_terms.specs.declared.paths.PathKey.{PathKey}

-- in place of a key where there is none; a path that a pull gives has two at least
abbrev pub no_key : PathKey
no_key = record { id = 0; made = 0; value = record { iv = []; key = [] } }

-- the key of the root, which is the last one of a path
abbrev pub root_of : List PathKey → PathKey
root_of path = slice_index_or path (length path - 1) no_key
