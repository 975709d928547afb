-- What the steps of a file say of each state: its size, and the bytes of each page.
use Rattle.std.proofs.Common.{◌≡◌, ℕ, ◌<◌, Bool, true, List, [], ◌∷◌, Some, sym, ap, ◌∙◌, subst, arith, length, map, get_or}
use Rattle.std.proofs.lemmas.List.{get_or_default}
use Rattle.std.proofs.lemmas.List.Elements.{All-cons, All-nil}
use Rattle.std.proofs.lemmas.Option.{slice_get-get_or}
use Rattle.std.specs.List.{All}
use Rattle.std.specs.Prelude.{fold, slice_get}
use Rattle.cs_trace_lines.specs.declared.version.Version.{Version}
use Rattle.cs_micro.specs.declared.micro_op.MicroOp.{MicroOp}
use Rattle.cs_micro.specs.declared.micro_op.MicroOp.TheVariants.{ChangeFileSize, WriteBlock, Say}
use Rattle.cs_micro.specs.Legal.{AreLegal, IsLegal, Made, made_after}
use Rattle.cs_micro.specs.Laws.Pages.{one_in_one_page}
use Rattle.cs_apm.specs.Laws.Small.{most_large}
use Rattle.cs_apm.specs.Contents.{content_left}
use Rattle.cs_apm.specs.Rules.{op_at}
use Rattle.cs_apm.specs.States.{Content}
use Rattle.cs_state.specs.declared.file_steps.FileSteps.{FileSteps}
use Rattle.cs_state.specs.declared.parts.Parts.{Parts}
use Rattle.cs_state.specs.Parts.{bytes_before, file_in, AreMembers, AreParts}
use Rattle.cs_state.specs.Shares.{numbers_that_pass, mark_at}
use Rattle.cs_state.specs.Steps.{members_in, resizes, row_at, struck_by, touches, AgreeIn, AreFileSteps, IsFitting}
use Rattle.cs_state.specs.Windows.{size_after, whole_content}
use Rattle.cs_state.proofs.Pages.{agree}
use Rattle.cs_state.proofs.Filing.{has_flag, left_of}
use Rattle.cs_state.proofs.Including.{size_needed}
use Rattle.cs_state.proofs.Lasting.{closed_under}
use Rattle.cs_paths.proofs.Listing.{ids_are}
use Rattle.cs_state.proofs.Showing.{left_size}

fitting : (version : Version) (m : Made) (o : MicroOp) → IsLegal version m o → IsFitting o
fitting version m (ChangeFileSize file to) h =
    (let a = h.fitting.1 in let b = most_large version in omega (arith, a, b))
fitting version m (WriteBlock file block start at bytes) h =
    one_in_one_page version m (WriteBlock file block start at bytes) h
fitting version m _ h = tt

all_fitting : (version : Version) (m : Made) (ops : List MicroOp) → AreLegal version m ops → All IsFitting ops
all_fitting version m [] h = All-nil IsFitting
all_fitting version m (o ∷ ops) h =
    All-cons IsFitting o ops (fitting version m o h.0) (all_fitting version (made_after m o) ops h.1)

module _ (parts : Parts) (h : AreParts parts) (file : ℕ) (known : file < length parts.tables.owners.items) (members : List Bool)
    (set : AreMembers parts members) where
  abbrev ops : List MicroOp
  ops = parts.micros.ops

  abbrev start : List ℕ
  start = bytes_before parts file

  abbrev left : Content
  left = file_in parts (members_in members) file

  pub size_is : left.size ≡ fold (size_after file) (length start) (map (op_at ops) (members_in members))
  size_is =
      sym (ap (λ (f : Content). f.size) (left_of parts h file (members_in members) known)) ∙ left_size file (whole_content start) ops
      (members_in members)

  module _ (steps : FileSteps) (read : steps ≡ get_or parts.steps.items file steps)
      (changed : slice_get parts.tables.changed.items file ≡ Some true) where
    pub are : AreFileSteps file (length start) ops steps
    are =
        let there = has_flag parts h file (members_in members) known in
        let long = h.steps.long in
        h.steps.each file steps (slice_get-get_or parts.steps.items file steps (omega (arith, there, long)) ∙ ap Some (sym read)) changed

    pub inside : (page : ℕ) → All (λ place. place < length ops) (row_at steps page)
    inside page = subst (All (λ place. place < length ops)) (sym (are.rows page))
        (λ i e low. subst (λ v. v < length ops)
        (get_or_default (numbers_that_pass (touches file (length start) ops (Some page)) (length ops)) i 0 e low)
        (ids_are (touches file (length start) ops (Some page)) (length ops) i low).0)

    pub agrees : (page : ℕ) → AgreeIn page (struck_by ops members (whole_content start) (row_at steps page)) left
    agrees page = subst (λ r. AgreeIn page (struck_by ops members (whole_content start) r) left) (sym (are.rows page))
        (subst (λ f. AgreeIn page
        (struck_by ops members (whole_content start) (numbers_that_pass (touches file (length start) ops (Some page)) (length ops))) f)
        (ap (λ k. content_left file (whole_content start) ops (numbers_that_pass (mark_at members) k)) (sym set.long) ∙ left_of parts h file
        (members_in members) known)
        (agree file (whole_content start) ops members (length ops) page
        (λ k low. all_fitting parts.trace.version _ ops h.whole.atlas.legal.legal k Say low)
        (closed_under parts.micros (length ops) members set.allowed (resizes file) (size_needed parts.micros file))))
