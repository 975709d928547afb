-- The rules of a wstat.
use Rattle.std.specs.Prelude.{ℕ, ◌==◌, not, ◌&&◌, ◌||◌, Bool, List, [], ◌∷◌, ◌++◌, nat_lt, bit_and}
use Rattle.std.specs.Prelude.{Option, is_err, is_some, option_and_then}
use Rattle.std.specs.Option.{option_map_or}
use Rattle.cs_names.specs.declared.limits.TheConstants.{FILE_BYTES}
use Rattle.cs_names.specs.declared.rule_id.RuleId.TheVariants.{Q2, Q3, Q4, Q5, Q6, Q7, Q8, Q9, Q10}
use Rattle.cs_names.specs.declared.rule_id.RuleId.TheVariants.{Q11, Q12, Q13, Q14}
use Rattle.cs_names.specs.Legal.{name_in}
use Rattle.cs_tree_model.specs.declared.mode.TheConstants.{DMDIR}
use Rattle.cs_tree_model.specs.declared.record.MetadataBuf.{MetadataBuf}
use Rattle.cs_tree_model.specs.Tree.{NameBytes, Tree, number_in, parent_numbered}
use Rattle.cs_users.specs.declared.rights.Right.TheVariants.{Write}
use Rattle.cs_users.specs.Members.{is_known, is_leader, is_member}
use Rattle.cs_users.specs.Rights.{owns}
use Rattle.cs_users.specs.Rows.{Row}
use Rattle.cs_permit.specs.declared.call.WstatCall.{WstatCall}
use Rattle.cs_permit.specs.Modes.{given_bits, has_bit_outside, is_append_or_exclusive}
use Rattle.cs_permit.specs.Changes.{changes_attributes, changes_fixed, if_new, new_group}
use Rattle.cs_permit.specs.Changes.{new_length, new_mode, new_name}
use Rattle.cs_permit.specs.Refusals.{Check}
use Rattle.cs_permit.specs.Rules.{file_at, is_directory, is_gone, may_access, on_file, parent_lacks}

-- the number of the file of that name in the directory of the file n
abbrev pub number_of_sibling : Tree → ℕ → NameBytes → Option ℕ
number_of_sibling t n x = option_and_then (λ d. number_in t d x) (parent_numbered t n)

-- a bit outside those that may be given, or DMDIR changed, or a directory with DMAPPEND or DMEXCL
abbrev pub is_bad_mode : MetadataBuf → ℕ → Bool
is_bad_mode file mode =
    has_bit_outside given_bits mode
    || not (bit_and mode DMDIR == bit_and file.mode DMDIR)
    || is_directory file && is_append_or_exclusive mode

-- the user owns the file, or leads its group
abbrev pub is_owner_or_leader : List Row → List ℕ → MetadataBuf → Bool
is_owner_or_leader us u file = owns u file.owner || is_leader us u file.group

-- the user is an owner who is a member of the new group, or leads both groups
abbrev pub may_give : List Row → List ℕ → MetadataBuf → List ℕ → Bool
may_give us u file group =
    owns u file.owner && is_member us u group
    || is_leader us u file.group && is_leader us u group

-- a new name
unfoldable pub name_rules : Tree → List Row → WstatCall → List Check
name_rules t us c =
    -- root can't be renamed
    (Q4, if_new (new_name t c) (λ x. c.number == 0))
    -- bad name: a new name that isn't legal
    ∷ (Q5, if_new (new_name t c) (λ x. is_err (name_in x)))
    -- no write right in the parent: a new name without w in the parent
    ∷ (Q6, if_new (new_name t c) (λ x. parent_lacks t us c.user Write c.number))
    -- name exists
    ∷ (Q7, if_new (new_name t c) (λ x. is_some (number_of_sibling t c.number x)))
    ∷ []

-- a new length
unfoldable pub length_rules : List Row → WstatCall → MetadataBuf → List Check
length_rules us c file =
    -- directory has no length: a length other than 0
    (Q8, if_new (new_length c file) (λ n. is_directory file))
    -- no write right: a new length without w on the file
    ∷ (Q9, if_new (new_length c file) (λ n. not (may_access us c.user Write file)))
    -- file too large: a new length above FILE_BYTES
    ∷ (Q10, if_new (new_length c file) (λ n. nat_lt FILE_BYTES n))
    ∷ []

-- a new mode or mtime
unfoldable pub mode_rules : List Row → WstatCall → MetadataBuf → List Check
mode_rules us c file =
    -- bad mode
    (Q11, if_new (new_mode c file) (is_bad_mode file))
    -- not owner or leader: a new mode or mtime; the user neither owns the file nor leads its group
    ∷ (Q12, changes_attributes c file && not (is_owner_or_leader us c.user file))
    ∷ []

-- a new group
unfoldable pub group_rules : List Row → WstatCall → MetadataBuf → List Check
group_rules us c file =
    -- unknown group: a new gid that isn't known
    (Q13, if_new (new_group c file) (λ group. not (is_known us group)))
    -- no right to the group: a new gid; the user is neither an owner who is a member of the new
    -- group, nor leader of both groups
    ∷ (Q14, if_new (new_group c file) (λ group. not (may_give us c.user file group)))
    ∷ []

-- the fields that can be changed
abbrev pub field_rules : Tree → List Row → WstatCall → MetadataBuf → List Check
field_rules t us c file =
    name_rules t us c ++ length_rules us c file ++ mode_rules us c file ++ group_rules us c file

-- a wstat
abbrev pub wstat_rules : Tree → List Row → WstatCall → List Check
wstat_rules t us c =
    -- file is gone
    (Q2, is_gone t c.number)
    -- field can't be changed: type, dev, qid, atime, uid or muid changes
    ∷ (Q3, on_file t c.number (changes_fixed c))
    ∷ option_map_or (field_rules t us c) (file_at t c.number) []
