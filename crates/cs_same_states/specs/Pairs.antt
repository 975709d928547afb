-- Two sets of a trace's micro-operations, and what both leave of a file.
use Rattle.std.specs.Prelude.{◌≡◌, ◌<◌, ℕ, true, List, length, slice_index_or}
use Rattle.std.specs.List.{All}
use Rattle.cs_start.specs.declared.rights.Rights.{Rights}
use Rattle.cs_micro.specs.declared.micro_op.MicroOp.{MicroOp}
use Rattle.cs_micro.specs.Micros.{micros_in}
use Rattle.cs_apm.specs.Atlases.{AreMakings, AreStarts, IsAtlas, atlas_in, content_before}
use Rattle.cs_apm.specs.Contents.{IsSmall, content_left}
use Rattle.cs_apm.specs.Orders.{needs_of}
use Rattle.cs_apm.specs.Owners.{directory_left, owner_left}
use Rattle.cs_sets.specs.Sets.{IsAllowed}
use Rattle.cs_apm.specs.States.{Content, directories_of, no_rights, owners_of}
use Rattle.cs_state.specs.Windows.{byte_of}
use Rattle.cs_same_states.specs.Reaching.{floor_in, reaches}
use Rattle.cs_same_states.specs.declared.pairs.Pair.{Pair}

-- the tables are the trace's, and both sets are of its micro-operations
pub record IsPair (p : Pair) : Type 0 where
  pub starts : AreStarts p.trace.now p.tables.now.starts.items
  pub makings : AreMakings p.ops.now p.tables.now.makings.items
  pub owners : p.tables.now.owners.items ≡ owners_of p.trace.now p.ops.now
  pub directories : p.tables.now.directories.items ≡ directories_of p.trace.now p.ops.now
  pub small : All IsSmall p.ops.now
  pub first : All (λ place. place < length p.ops.now) p.places.now
  pub second : All (λ place. place < length p.ops.now) p.others.now

-- a crash may leave both sets of the trace's micro-operations, and the tables are the trace's
pub record AreAllowed (p : Pair) : Type 0 where
  pub ops : p.ops.now ≡ (micros_in p.trace.now).ops
  pub atlas : IsAtlas p.trace.now (micros_in p.trace.now) (atlas_in p.tables.now)
  pub first : IsAllowed (needs_of (micros_in p.trace.now)) (length (micros_in p.trace.now).ops)
      p.places.now
  pub second : IsAllowed (needs_of (micros_in p.trace.now)) (length (micros_in p.trace.now).ops)
      p.others.now

-- what a set leaves of the file
abbrev pub content_by : Pair → List ℕ → ℕ → Content
content_by p places n = content_left n (content_before p.trace.now p.ops.now n) p.ops.now places

abbrev pub first_content : Pair → ℕ → Content
first_content p n = content_by p p.places.now n

abbrev pub second_content : Pair → ℕ → Content
second_content p n = content_by p p.others.now n

-- what a set leaves of the owner, group and permissions of the file
abbrev pub owner_by : Pair → List ℕ → ℕ → Rights
owner_by p places n =
    owner_left n (slice_index_or p.tables.now.owners.items n no_rights) p.ops.now places

abbrev pub first_owner : Pair → ℕ → Rights
first_owner p n = owner_by p p.places.now n

abbrev pub second_owner : Pair → ℕ → Rights
second_owner p n = owner_by p p.others.now n

-- what a set leaves of the owner, group and permissions of the directory
abbrev pub directory_by : Pair → List ℕ → ℕ → Rights
directory_by p places d =
    directory_left d (slice_index_or p.tables.now.directories.items d no_rights) p.ops.now places

abbrev pub first_directory : Pair → ℕ → Rights
first_directory p d = directory_by p p.places.now d

abbrev pub second_directory : Pair → ℕ → Rights
second_directory p d = directory_by p p.others.now d

-- both leave the same size, owner, group and permissions of the file, and the same bytes in the
-- part that the micro-operation can change
pub record IsSettled (p : Pair) (n : ℕ) (o : MicroOp) : Type 0 where
  pub size : (first_content p n).size ≡ (second_content p n).size
  pub owner : first_owner p n ≡ second_owner p n
  pub bytes : (i : ℕ) → i < (first_content p n).size → reaches (floor_in p.ops.now n) n i o ≡ true
      → byte_of (first_content p n) i ≡ byte_of (second_content p n) i
