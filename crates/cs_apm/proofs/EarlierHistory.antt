-- The entries of a trace of a version before the fourth, over time.
use Rattle.std.proofs.Common.{◌≡◌, ◌≢◌, ℕ, zero, suc, ◌+◌, ◌<◌, ◌≤◌, true, false, List, ◌⊎◌, None, Some}
use Rattle.std.proofs.Common.{sym, ◌∙◌, subst, arith, length, ⊎_elim}
use Rattle.std.proofs.lemmas.Bool.{false≢true}
use Rattle.cs_entries.specs.declared.entry.Entry.{Entry}
use Rattle.cs_entries.specs.declared.node.Node.TheVariants.{Directory, File}
use Rattle.cs_entries.specs.Entries.{Entries, EntryOp, Create, after}
use Rattle.cs_entries.specs.Legal.{IsHeld, IsTree, IsLegal as IsLegalEntryOp}
use Rattle.cs_entries.specs.Tables.{held_in}
use Rattle.cs_entries.specs.Laws.Records.{table_step}
use Rattle.cs_entries.specs.Laws.Trees.{tree_after}
use Rattle.cs_trace.specs.Traces.{AreHomes}
use Rattle.cs_trace_lines.specs.Versions.{is_fourth}
use Rattle.cs_trace_lines.specs.declared.version.Version.{Version}
use Rattle.cs_micro.specs.declared.micro_op.MicroOp.{MicroOp}
use Rattle.cs_micro.specs.declared.micro_op.MicroOp.TheVariants.{CreateDirEntry, DeleteDirEntry, MoveDirEntry, LinkDirEntry, ChangeFileSize}
use Rattle.cs_micro.specs.declared.micro_op.MicroOp.TheVariants.{WriteBlock, SetAttr, Say}
use Rattle.cs_micro.specs.Legal.{AreLegal, IsLegal, Made, entry_op}
use Rattle.cs_apm.specs.Laws.Homes.{few, fixed}
use Rattle.cs_apm.specs.Laws.Numbers.{number_at_start, number_made, number_of}
use Rattle.cs_apm.specs.Laws.Makings.{legal_at, made_at}
use Rattle.cs_apm.specs.Rules.{entry_op_at, is_first_half, op_at}
use Rattle.cs_apm.specs.States.{directories_made}
use Rattle.cs_apm.proofs.EarlierPaths.{IsPlaced}
use Rattle.cs_apm.proofs.EarlierRules.{IsPlain}
use Rattle.cs_apm.proofs.EarlierTimes.{IsHistory, come, directory_cases}

plain_of : (version : Version) (m : Made) (o : MicroOp) → is_fourth version ≡ false → is_first_half o ≡ false → IsLegal version m o
    → IsPlain o
plain_of version m (MoveDirEntry a b (Directory d) None) early whole legal = false≢true (sym early ∙ legal.fitting)
plain_of version m (MoveDirEntry a b (Directory d) (Some (Directory c))) early whole legal = false≢true (sym early ∙ legal.fitting)
plain_of version m (MoveDirEntry a b (Directory d) (Some (File kind file))) early whole legal = legal.fitting
plain_of version m (MoveDirEntry a b (File kind file) None) early whole legal = tt
plain_of version m (MoveDirEntry a b (File kind file) (Some (Directory d))) early whole legal = legal.fitting
plain_of version m (MoveDirEntry a b (File kind file) (Some (File other number))) early whole legal = tt
plain_of version m (LinkDirEntry e kind file old true) early whole legal = false≢true (sym whole)
plain_of version m (LinkDirEntry e kind file old false) early whole legal = tt
plain_of version m (CreateDirEntry e node rights bytes) early whole legal = tt
plain_of version m (DeleteDirEntry e node) early whole legal = tt
plain_of version m (ChangeFileSize file to) early whole legal = tt
plain_of version m (WriteBlock file block start at bytes) early whole legal = tt
plain_of version m (SetAttr target rights) early whole legal = tt
plain_of version m Say early whole legal = tt

module _ (version : Version) (m : Made) (ops : List MicroOp) (legal : AreLegal version m ops) (homes : AreHomes m.entries m.homes)
    (tree : IsTree (held_in m.entries)) (early : is_fourth version ≡ false)
    (used : (d : ℕ) → 0 < d → d < length m.homes → IsHeld (held_in m.entries) d)
    (whole : (k : ℕ) → is_first_half (op_at ops k) ≡ false) where
  abbrev n : ℕ
  n = length ops

  abbrev pub E : ℕ → Entries
  E k = held_in (made_at m ops k).entries

  abbrev pub home : ℕ → Entry
  home = (fixed version m ops legal homes early).home

  abbrev pub number : Entry → ℕ
  number = number_of version m ops legal homes

  plain : (k : ℕ) → k < n → IsPlain (op_at ops k)
  plain k low = plain_of version (made_at m ops k) (op_at ops k) early (whole k) (legal_at version m ops legal k low)

  entry_legal : (k : ℕ) → k < n → IsLegalEntryOp (E k) (entry_op_at ops k)
  entry_legal k low = (legal_at version m ops legal k low).entry

  step : (k : ℕ) → k < n → (e : Entry) → E (suc k) e ≡ after (E k) (entry_op_at ops k) e
  step k low e = table_step (made_at m ops k).entries (entry_op_at ops k) (entry_legal k low) e

  placed : (k : ℕ) → k ≤ n → IsPlaced home number (E k)
  placed zero low = record {
    tree = tree;
    at_home = (fixed version m ops legal homes early).first;
    numbered = number_at_start version m ops legal homes;
  }
  placed (suc k) low =
      (let before = placed k (omega (arith, low)) in
      let high : k < n = omega (arith, low) in
      record {
        tree = subst IsTree (λ i e. sym (step k high e) i) (tree_after (E k) (entry_op_at ops k) before.tree (entry_legal k high));
        at_home = λ e d held. ⊎_elim
            (λ (was : E k e ≡ Some (Directory d)). before.at_home e d was)
            (λ (other : E k e ≢ Some (Directory d)).
            (fixed version m ops legal homes early).made k e d high
            (come (E k) (op_at ops k) e d (entry_legal k high) (plain k high) other (sym (step k high e) ∙ held)))
            (directory_cases (E k e) d);
        numbered = λ e d held. ⊎_elim
            (λ (was : E k e ≡ Some (Directory d)). before.numbered e d was)
            (λ (other : E k e ≢ Some (Directory d)).
            number_made version m ops legal homes early used k e d high
            (come (E k) (op_at ops k) e d (entry_legal k high) (plain k high) other (sym (step k high e) ∙ held)))
            (directory_cases (E k e) d);
      })

  pub history : IsHistory ops home number E
  history = record {
    placed = placed;
    step = step;
    legal = entry_legal;
    named = λ k low. (legal_at version m ops legal k low).named;
    plain = plain;
  }

  -- each directory's number is below that of all of them
  pub known : (k : ℕ) → k ≤ n → (e : Entry) (d : ℕ) → E k e ≡ Some (Directory d) → d < length m.homes + length (directories_made ops)
  known zero low e d held = (few version m ops legal homes).first e d held
  known (suc k) low e d held =
      (let high : k < n = omega (arith, low) in
      ⊎_elim
      (λ (was : E k e ≡ Some (Directory d)). known k (omega (arith, low)) e d was)
      (λ (other : E k e ≢ Some (Directory d)).
      (few version m ops legal homes).made k e d high
      (come (E k) (op_at ops k) e d (entry_legal k high) (plain k high) other (sym (step k high e) ∙ held)))
      (directory_cases (E k e) d))
