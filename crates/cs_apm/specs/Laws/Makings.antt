-- Legal micro-operations by their places, and what makes a directory.
use Rattle.std.proofs.Common.{◌≡◌, ◌≢◌, ℕ, zero, suc, ◌+◌, ◌<◌, ◌==◌, true}
use Rattle.std.proofs.Common.{List, [], ◌∷◌, ◌++◌, Option, None, Some, refl, sym, ap}
use Rattle.std.proofs.Common.{◌∙◌, subst, arith, length}
use Rattle.std.proofs.lemmas.Bool.{false≢true}
use Rattle.std.specs.Prelude.{if◌then◌else◌, is_none}
use Rattle.cs_entries.specs.declared.node.Node.{Node}
use Rattle.cs_entries.specs.declared.node.Node.TheVariants.{Directory, File}
use Rattle.cs_entries.specs.DirEntries.{entry_of, root_home}
use Rattle.cs_entries.specs.declared.entry.Entry.{Entry}
use Rattle.cs_entries.specs.Entries.{EntryOp, Create}
use Rattle.cs_entries.specs.Entries.{MovesDirectory, all}
use Rattle.cs_entries.specs.Tables.{table_after, table_of}
use Rattle.cs_entries.specs.Laws.One.{same_number}
use Rattle.cs_trace_lines.specs.Versions.{is_fourth}
use Rattle.cs_trace_lines.specs.declared.version.Version.{Version}
use Rattle.cs_trace.specs.Operations.{number_for}
use Rattle.cs_micro.specs.Legal.{AreLegal, IsLegal, Made, entry_op, homes_after, made_after}
use Rattle.cs_micro.specs.declared.micro_op.MicroOp.{MicroOp}
use Rattle.cs_micro.specs.declared.micro_op.MicroOp.TheVariants.{CreateDirEntry, DeleteDirEntry}
use Rattle.cs_micro.specs.declared.micro_op.MicroOp.TheVariants.{MoveDirEntry, LinkDirEntry}
use Rattle.cs_micro.specs.declared.micro_op.MicroOp.TheVariants.{ChangeFileSize, WriteBlock}
use Rattle.cs_micro.specs.declared.micro_op.MicroOp.TheVariants.{SetAttr, Say}
use Rattle.cs_apm.specs.Rules.{entry_op_at, op_at}

-- what is made after the first k
abbrev pub made_at : Made → List MicroOp → ℕ → Made
made_at m ops zero = m
made_at m ops (suc k) = made_after (made_at m ops k) (op_at ops k)

pub made_first : (m : Made) (o : MicroOp) (ops : List MicroOp) (k : ℕ)
    → made_at m (o ∷ ops) (suc k) ≡ made_at (made_after m o) ops k
made_first m o ops zero = refl
made_first m o ops (suc k) = ap (λ w. made_after w (op_at ops k)) (made_first m o ops k)

pub legal_at : (version : Version) (m : Made) (ops : List MicroOp) → AreLegal version m ops
    → (k : ℕ) → k < length ops → IsLegal version (made_at m ops k) (op_at ops k)
legal_at version m [] h k lt = absurd (omega (arith, lt))
legal_at version m (o ∷ ops) h zero lt = h.0
legal_at version m (o ∷ ops) h (suc k) lt =
    subst (λ w. IsLegal version w (op_at ops k)) (sym (made_first m o ops k))
    (legal_at version (made_after m o) ops h.1 k (omega (arith, lt)))

pub entries_at : (m : Made) (ops : List MicroOp) (k : ℕ)
    → (made_at m ops k).entries ≡ table_of all m.entries (entry_op_at ops) k
entries_at m ops zero = refl
entries_at m ops (suc k) = ap (λ t. table_after t (entry_op_at ops k)) (entries_at m ops k)

-- ---- what is made

abbrev created_entry : EntryOp → Entry
created_entry (Create e node) = e
created_entry _ = root_home

abbrev created_node : EntryOp → Option Node
created_node (Create e node) = Some node
created_node _ = None

-- a micro-operation that makes a directory has the number that the version gives it, and the entry
-- is the home of a new number
pub record IsMaking (version : Version) (homes : List Entry) (o : MicroOp) (e : Entry) (d : ℕ)
    : Type 0 where
  pub number : d ≡ number_for version homes e
  pub next : homes_after homes o ≡ (if d == length homes then homes ++ e ∷ [] else homes)

no_making : (o : EntryOp) (e : Entry) (d : ℕ) → created_node o ≡ None → o ≢ Create e (Directory d)
no_making o e d none is = false≢true (sym (ap (λ w. is_none (created_node w)) is) ∙ ap is_none none)

pub making_by : (version : Version) (m : Made) (o : MicroOp) (e : Entry) (d : ℕ) → IsLegal version m o
    → entry_op o ≡ Create e (Directory d) → IsMaking version m.homes o e d
making_by version m (CreateDirEntry f node rights bytes) e d legal is = by node legal refl
  where
    here : entry_of f ≡ e
    here = ap created_entry is

    there : Some node ≡ Some (Directory d)
    there = ap created_node is

    by : (n : Node) → IsLegal version m (CreateDirEntry f n rights bytes) → node ≡ n
        → IsMaking version m.homes (CreateDirEntry f node rights bytes) e d
    by (Directory c) l at =
        (let c_is : c ≡ d = same_number c d (ap Some (sym at) ∙ there) in
        record {
          number = sym c_is ∙ l.fitting.0.0 ∙ ap (number_for version m.homes) here;
          next =
              ap (λ n. homes_after m.homes (CreateDirEntry f n rights bytes)) at
              ∙ ap (λ n. if n == length m.homes then m.homes ++ entry_of f ∷ [] else m.homes) c_is
              ∙ ap (λ g. if d == length m.homes then m.homes ++ g ∷ [] else m.homes) here;
        })
    by (File kind file) l at = absurd (no_file (ap Some (sym at) ∙ there))
      where
        no_file : Some (File kind file) ≡ Some (Directory d) → ⊥
        no_file h = absurd (cc)
making_by version m (LinkDirEntry f kind file old half) e d legal is =
    absurd (no_making (entry_op (LinkDirEntry f kind file old half)) e d refl is)
making_by version m (DeleteDirEntry f node) e d legal is =
    absurd (no_making (entry_op (DeleteDirEntry f node)) e d refl is)
making_by version m (MoveDirEntry a b node old) e d legal is =
    absurd (no_making (entry_op (MoveDirEntry a b node old)) e d refl is)
making_by version m (ChangeFileSize file to) e d legal is =
    absurd (no_making (entry_op (ChangeFileSize file to)) e d refl is)
making_by version m (WriteBlock file block start at bytes) e d legal is =
    absurd (no_making (entry_op (WriteBlock file block start at bytes)) e d refl is)
making_by version m (SetAttr target rights) e d legal is =
    absurd (no_making (entry_op (SetAttr target rights)) e d refl is)
making_by version m Say e d legal is = absurd (no_making (entry_op Say) e d refl is)

-- a move of a directory is legal only in the fourth version
pub move_by : (version : Version) (m : Made) (o : MicroOp) → IsLegal version m o
    → MovesDirectory (entry_op o) → is_fourth version ≡ true
move_by version m (MoveDirEntry a b (Directory d) None) legal moves = legal.fitting
move_by version m (MoveDirEntry a b (Directory d) (Some (Directory c))) legal moves = legal.fitting
move_by version m (MoveDirEntry a b (Directory d) (Some (File kind file))) legal moves =
    absurd legal.fitting
move_by version m (MoveDirEntry a b (File kind file) old) legal moves = absurd moves
move_by version m (LinkDirEntry f kind file old half) legal moves = absurd moves
move_by version m (CreateDirEntry f node rights bytes) legal moves = absurd moves
move_by version m (DeleteDirEntry f node) legal moves = absurd moves
move_by version m (ChangeFileSize file to) legal moves = absurd moves
move_by version m (WriteBlock file block start at bytes) legal moves = absurd moves
move_by version m (SetAttr target rights) legal moves = absurd moves
move_by version m Say legal moves = absurd moves
