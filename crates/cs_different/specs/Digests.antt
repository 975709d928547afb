-- Digests of trees: numbers that are equal for equal trees.
use Rattle.std.specs.Prelude.{ℕ, ◌*◌, ◌%◌, ◌^◌, bit_xor, List, Option, None, Some, fold, unwrap_or}
use Rattle.std.specs.List.{range_with_len}
use Rattle.std.specs.Option.{option_map}
use Rattle.cs_names.specs.declared.limits.TheConstants.{FILE_BYTES}
use Rattle.cs_tree_model.specs.declared.record.MetadataBuf.{MetadataBuf}
use Rattle.cs_tree_model.specs.Record.{metadata_of}
use Rattle.cs_tree_model.specs.Tree.{NameBytes, Tree, bytes_at, name_numbered, parent_numbered}
use Rattle.cs_tree_model.specs.Tree.{record_numbered}
use Rattle.cs_different.specs.declared.digest.TheConstants.{PRIME}

-- the digest of a sequence with one more part
unfoldable pub with_part : ℕ → ℕ → ℕ
with_part digest part = (bit_xor digest part * PRIME) % 2 ^ 64

abbrev pub with_name : ℕ → Option NameBytes → ℕ
with_name digest None = digest
with_name digest (Some name) = fold with_part digest name

abbrev pub with_metadata : ℕ → Option MetadataBuf → ℕ
with_metadata digest None = digest
with_metadata digest (Some m) = with_part (fold with_part (fold with_part digest m.owner) m.group)
    m.mode

abbrev pub with_bytes : ℕ → Option (List ℕ) → ℕ
with_bytes digest None = digest
with_bytes digest (Some bytes) = fold with_part digest bytes

-- the digest of a sequence with what a tree has under a number
unfoldable pub digest_at : Tree → ℕ → ℕ → ℕ
digest_at tree digest number =
    with_bytes
    (with_metadata (with_name (with_part digest (unwrap_or (parent_numbered tree number) 0))
    (name_numbered tree number))
    (option_map metadata_of (record_numbered tree number)))
    (bytes_at tree number 0 FILE_BYTES)

-- the digest of all that the tree has, number by number
unfoldable pub digest_of : Tree → ℕ
digest_of tree = fold (digest_at tree) 0 (range_with_len 0 tree.next)
