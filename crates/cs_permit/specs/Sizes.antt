-- Qids and stats that a reply can have.
use Rattle.std.specs.Prelude.{◌≡◌, ℕ, ◌≤◌, true, List, length}
use Rattle.cs_wire.specs.declared.message.Qid.{Qid}
use Rattle.cs_wire.specs.Fields.{Shape, Two, Four, Eight, Boxed, IsIn, Value, is_text}
use Rattle.cs_wire.specs.Fields.{bytes_of_field, ◌▸◌}
use Rattle.cs_wire.specs.Messages.{qid_shape, stat_shape, qid_of}

-- each number of a qid is in its range
abbrev pub IsQid : Qid → Type 0
IsQid qid = IsIn qid_shape (qid_of qid)

-- a text that a message can have, of at most so many bytes
pub record IsShown (most : ℕ) (text : List ℕ) : Type 0 where
  pub short : length text ≤ most
  pub is_text : is_text text ≡ true

-- the fields of a stat before its texts
abbrev pub numbers_shape : Shape
numbers_shape = Two ▸ Four ▸ qid_shape ▸ Four ▸ Four ▸ Four ▸ Eight

-- a stat that a reply can have, of at most so many bytes
pub record IsStat (most : ℕ) (stat : Value stat_shape) : Type 0 where
  pub fits : IsIn (Boxed stat_shape) stat
  pub small : length (bytes_of_field (Boxed stat_shape) stat) ≤ most
