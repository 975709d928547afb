-- The requests of a rename onto a name that is taken.
use Rattle.std.specs.Prelude.{◌==◌, ◌&&◌, ℕ, Bool, List, [], ◌∷◌, length, nat_le}
use Rattle.cs_wire.specs.declared.kind.TKind.TheVariants as tk
use Rattle.cs_wire.specs.declared.message.Qid.{Qid}
use Rattle.cs_wire.specs.Fields.{Value}
use Rattle.cs_wire.specs.Messages.{Message, requests, stat_shape}
use Rattle.cs_linux.specs.declared.requests.TheConstants.{OWN_FID, QTDIR}

-- a Tstat (stat(5))
abbrev pub tstat : (tag fid : ℕ) → Message requests
tstat tag fid = record { kind = tk.Stat; tag = tag; fields = fid }

-- a Twalk to the rename's own fid (walk(5))
abbrev pub twalk : (tag fid : ℕ) → List (List ℕ) → Message requests
twalk tag fid names = record { kind = tk.Walk; tag = tag; fields = (fid, (OWN_FID, names)) }

-- a Tremove of that fid (remove(5))
abbrev pub tremove : (tag : ℕ) → Message requests
tremove tag = record { kind = tk.Remove; tag = tag; fields = OWN_FID }

-- a Tclunk of that fid (clunk(5))
abbrev pub tclunk : (tag : ℕ) → Message requests
tclunk tag = record { kind = tk.Clunk; tag = tag; fields = OWN_FID }

-- a Twstat (stat(5))
abbrev pub twstat : (tag fid : ℕ) → Value stat_shape → Message requests
twstat tag fid stat = record { kind = tk.Wstat; tag = tag; fields = (fid, stat) }

-- the stat asks for a new name, and says "don't touch" of all else (stat(5))
abbrev pub asks_name_alone : Value stat_shape → Bool
asks_name_alone (
  kind,
  (
    dev,
    ((qid_kind, (vers, path)), (mode, (atime, (mtime, (size, (name, (uid, (gid, muid)))))))),
  ),
) =
    (kind == 65535) && (dev == 4294967295)
    && (qid_kind == 255) && (vers == 4294967295) && (path == 18446744073709551615)
    && (mode == 4294967295) && (atime == 4294967295) && (mtime == 4294967295)
    && (size == 18446744073709551615)
    && (length uid == 0) && (length gid == 0) && (length muid == 0)

-- the name of one dot, which no walk passes
abbrev pub dot : List ℕ
dot = 46 ∷ []

-- the file is a directory (intro(5))
abbrev pub is_directory : Qid → Bool
is_directory qid = nat_le QTDIR qid.kind
