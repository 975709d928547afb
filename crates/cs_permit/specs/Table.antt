-- The rules of every request on a connection's fids, in their order.
use Rattle.std.specs.Prelude.{ℕ, ◌==◌, not, ◌&&◌, ◌||◌, Bool, false, List, [], ◌∷◌, nat_le, Option}
use Rattle.std.specs.Prelude.{is_err, is_none, is_some, option_and_then}
use Rattle.std.specs.FinMap.{get, len}
use Rattle.std.specs.Option.{option_map, option_map_or}
use Rattle.cs_fids.specs.declared.fid.TheConstants.{NOFID}
use Rattle.cs_fids.specs.Entries.{as_opened}
use Rattle.cs_fids.specs.Tables.{FidMap}
use Rattle.cs_names.specs.declared.limits.TheConstants.{FIDS}
use Rattle.cs_names.specs.declared.rule_id.RuleId.{RuleId}
use Rattle.cs_names.specs.declared.rule_id.RuleId.TheVariants.{A1, A2, A3, K1, K2, K3, K4, O1, O2}
use Rattle.cs_names.specs.declared.rule_id.RuleId.TheVariants.{O3, C1, C2, C3, C4, C5, G1, G2, E1}
use Rattle.cs_names.specs.declared.rule_id.RuleId.TheVariants.{E2, M1, N1, H1, Q1}
use Rattle.cs_names.specs.Legal.{name_in}
use Rattle.cs_permit.specs.declared.request.Request.{Request}
use Rattle.cs_permit.specs.declared.request.Request.TheVariants.{Attach, Walk, Open, Create, Read}
use Rattle.cs_permit.specs.declared.request.Request.TheVariants.{Write, Clunk, Remove, Stat, Wstat}
use Rattle.cs_permit.specs.Modes.{are_bad_permissions, covers_read, covers_write, is_bad_open_mode}
use Rattle.cs_permit.specs.Refusals.{Check, first_failing}
use Rattle.cs_permit.specs.TreeNames.{tree_name_in}

-- no fid has the number
abbrev pub is_unknown : FidMap → ℕ → Bool
is_unknown fids fid = is_none (get fids fid)

-- the mode of the fid's open, if it is open
abbrev pub open_mode : FidMap → ℕ → Option ℕ
open_mode fids fid =
    option_map (λ opened. opened.state.mode) (option_and_then as_opened (get fids fid))

-- the fid is open
abbrev pub is_open : FidMap → ℕ → Bool
is_open fids fid = is_some (open_mode fids fid)

-- the fid is open in a mode that covers a read
abbrev pub may_be_read : FidMap → ℕ → Bool
may_be_read fids fid = option_map_or covers_read (open_mode fids fid) false

-- and in one that covers a write
abbrev pub may_be_written : FidMap → ℕ → Bool
may_be_written fids fid = option_map_or covers_write (open_mode fids fid) false

-- FIDS fids are there
abbrev pub is_full : FidMap → Bool
is_full fids = nat_le FIDS (len fids)

-- an attach
abbrev pub attach_table_rules : FidMap → ℕ → ℕ → List ℕ → List Check
attach_table_rules fids fid afid aname =
    -- fid not free: fid in use or NOFID, or FIDS fids are there
    (A1, is_some (get fids fid) || fid == NOFID || is_full fids)
    -- authentication fid given: afid isn't NOFID
    ∷ (A2, not (afid == NOFID))
    -- bad tree name: aname isn't a state's number, a slash and a run's name
    ∷ (A3, is_none (tree_name_in aname))
    ∷ []

-- a walk
abbrev pub walk_table_rules : FidMap → ℕ → ℕ → List Check
walk_table_rules fids fid newfid =
    -- unknown fid
    (K1, is_unknown fids fid)
    -- fid is open
    ∷ (K2, is_open fids fid)
    -- new fid not free: newfid is NOFID, or in use and not fid
    ∷ (K3, newfid == NOFID || is_some (get fids newfid) && not (newfid == fid))
    -- no room for fids: newfid isn't fid, and FIDS fids are there
    ∷ (K4, not (newfid == fid) && is_full fids)
    ∷ []

-- an open
abbrev pub open_table_rules : FidMap → ℕ → ℕ → List Check
open_table_rules fids fid mode =
    -- unknown fid
    (O1, is_unknown fids fid)
    -- fid is open
    ∷ (O2, is_open fids fid)
    -- bad mode: a bit outside 0x53
    ∷ (O3, is_bad_open_mode mode)
    ∷ []

-- a create
abbrev pub create_table_rules : FidMap → ℕ → List ℕ → ℕ → ℕ → List Check
create_table_rules fids fid name perm mode =
    -- unknown fid
    (C1, is_unknown fids fid)
    -- fid is open
    ∷ (C2, is_open fids fid)
    -- bad mode: a bit outside 0x53
    ∷ (C3, is_bad_open_mode mode)
    -- bad name: one that isn't legal
    ∷ (C4, is_err (name_in name))
    -- bad permissions
    ∷ (C5, are_bad_permissions perm mode)
    ∷ []

-- a read
abbrev pub read_table_rules : FidMap → ℕ → List Check
read_table_rules fids fid =
    -- unknown fid
    (G1, is_unknown fids fid)
    -- not open for reading
    ∷ (G2, not (may_be_read fids fid))
    ∷ []

-- a write
abbrev pub write_table_rules : FidMap → ℕ → List Check
write_table_rules fids fid =
    -- unknown fid
    (E1, is_unknown fids fid)
    -- not open for writing
    ∷ (E2, not (may_be_written fids fid))
    ∷ []

-- the rules of each request; for most only that the fid is known
abbrev pub table_rules : FidMap → Request → List Check
table_rules fids (Attach fid afid aname) = attach_table_rules fids fid afid aname.now
table_rules fids (Walk fid newfid) = walk_table_rules fids fid newfid
table_rules fids (Open fid mode) = open_table_rules fids fid mode
table_rules fids (Create fid name perm mode) = create_table_rules fids fid name.now perm mode
table_rules fids (Read fid) = read_table_rules fids fid
table_rules fids (Write fid) = write_table_rules fids fid
table_rules fids (Clunk fid) = (N1, is_unknown fids fid) ∷ []
table_rules fids (Remove fid) = (M1, is_unknown fids fid) ∷ []
table_rules fids (Stat fid) = (H1, is_unknown fids fid) ∷ []
table_rules fids (Wstat fid) = (Q1, is_unknown fids fid) ∷ []

-- the first rule of the request that fails
unfoldable pub first_table_rule : FidMap → Request → Option RuleId
first_table_rule fids request = first_failing (table_rules fids request)
