-- What a set leaves of a file, from the bytes that it has at the start.
use Rattle.std.proofs.Common.{◌≡◌, ℕ, zero, suc, ◌-◌, ◌<◌, ◌≤◌, Bool, false, List, [], ◌∷◌, ◌++◌, refl, sym, ap, ◌∙◌, subst, arith, ⊎_elim, length, take}
use Rattle.std.proofs.Common.{replicate, get_or}
use Rattle.std.proofs.lemmas.Bool.{cases_lt}
use Rattle.std.proofs.lemmas.List.{get_or-map, get_or_past, get_or_read, length-map}
use Rattle.cs_start.specs.declared.rights.Rights.{Rights}
use Rattle.cs_trace.specs.Traces.{Trace}
use Rattle.cs_tree_model.specs.declared.record.Record.{Record}
use Rattle.cs_tree_model.specs.Tree.{Path}
use Rattle.cs_entries.specs.declared.node.Node.TheVariants.{Directory, File}
use Rattle.cs_micro.specs.declared.micro_op.MicroOp.{MicroOp}
use Rattle.cs_micro.specs.declared.micro_op.MicroOp.TheVariants.{CreateDirEntry, DeleteDirEntry, MoveDirEntry, LinkDirEntry, ChangeFileSize}
use Rattle.cs_micro.specs.declared.micro_op.MicroOp.TheVariants.{WriteBlock, SetAttr, Say}
use Rattle.cs_apm.specs.Atlases.{content_before, content_made, AreMakings, AreStarts}
use Rattle.cs_apm.specs.Contents.{content_left}
use Rattle.cs_apm.specs.Owners.{directory_left, owner_left}
use Rattle.cs_apm.specs.Rules.{op_at}
use Rattle.cs_apm.specs.States.{Content, bytes_of, files_made, no_content, no_record, no_rights, visible}
use Rattle.cs_apm.proofs.Before.{left_file, made_before, start_before, unflagged}
use Rattle.cs_apm.proofs.Owning.{left_directory, left_owner}
use Rattle.cs_state.specs.declared.parts.Parts.{Parts}
use Rattle.cs_state.specs.Parts.{AreParts, bytes_before, directory_in, file_in, owner_in}
use Rattle.cs_state.specs.Windows.{whole_content}

-- a file that is made has no hidden bytes
whole_made : (ops : List MicroOp) (n : ℕ)
    → whole_content (get_or (files_made ops) n no_content).bytes ≡ get_or (files_made ops) n no_content
whole_made [] n = refl
whole_made (CreateDirEntry e (File kind file) rights bytes ∷ ops) zero = refl
whole_made (CreateDirEntry e (File kind file) rights bytes ∷ ops) (suc n) = whole_made ops n
whole_made (CreateDirEntry e (Directory d) rights bytes ∷ ops) n = whole_made ops n
whole_made (DeleteDirEntry e node ∷ ops) n = whole_made ops n
whole_made (MoveDirEntry a b node old ∷ ops) n = whole_made ops n
whole_made (LinkDirEntry e kind file old half ∷ ops) n = whole_made ops n
whole_made (ChangeFileSize file size ∷ ops) n = whole_made ops n
whole_made (WriteBlock file block start at bytes ∷ ops) n = whole_made ops n
whole_made (SetAttr target rights ∷ ops) n = whole_made ops n
whole_made (Say ∷ ops) n = whole_made ops n

module _ (t : Trace) (ops : List MicroOp) (starts : List ℕ) (are : AreStarts t starts) (file : ℕ) where
  abbrev start_record : Path × Record
  start_record = get_or t.records (get_or starts file 0) no_record

  abbrev made_later : Content
  made_later = get_or (files_made ops) (file - length starts) no_content

  made : length starts ≤ file → made_later ≡ content_before t ops file
  made high = made_before t ops starts are file made_later high refl

  start : file < length starts → whole_content (bytes_of start_record.1) ≡ content_before t ops file
  start low =
      start_before t ops starts are file start_record (bytes_of start_record.1) (whole_content (bytes_of start_record.1)) low refl refl refl

  pub bytes_made_later : length starts ≤ file → made_later.bytes ≡ (content_before t ops file).bytes
  bytes_made_later high = ap (λ (f : Content). f.bytes) (made high)

  pub start_bytes : file < length starts → bytes_of start_record.1 ≡ (content_before t ops file).bytes
  start_bytes low = ap (λ (f : Content). f.bytes) (start low)

  pub whole_before : whole_content (content_before t ops file).bytes ≡ content_before t ops file
  whole_before = ⊎_elim
      (λ (low : file < length starts). subst (λ (v : Content). whole_content v.bytes ≡ v) (start low) refl)
      (λ (high : length starts ≤ file). subst (λ (v : Content). whole_content v.bytes ≡ v) (made high)
      (whole_made ops (file - length starts)))
      (cases_lt file (length starts))

module _ (parts : Parts) (h : AreParts parts) (file : ℕ) (places : List ℕ) (known : file < length parts.tables.owners.items) where
  same_before : whole_content (bytes_before parts file) ≡ content_before parts.trace parts.micros.ops file
  same_before = whole_before parts.trace parts.micros.ops parts.tables.starts.items h.whole.atlas.starts file

  pub left_of : content_left file (whole_content (bytes_before parts file)) parts.micros.ops places ≡ file_in parts places file
  left_of = ap (λ f. content_left file f parts.micros.ops places) same_before
      ∙ left_file parts.trace parts.micros.ops places file (subst (λ os. file < length os) h.whole.atlas.owners known)

  -- and of its owner, group and permissions, from those that it was made with
  pub owner_of_left : (made : Rights) → made ≡ get_or parts.tables.owners.items file made
      → owner_left file made parts.micros.ops places ≡ owner_in parts places file
  owner_of_left made read =
      let low = subst (λ os. file < length os) h.whole.atlas.owners known in
      ap (λ r. owner_left file r parts.micros.ops places)
      (get_or_read parts.tables.owners.items file made known read no_rights ∙ ap (λ os. get_or os file no_rights) h.whole.atlas.owners)
      ∙ left_owner parts.trace parts.micros.ops places file low

  pub has_flag : file < length parts.tables.changed.items
  has_flag = (let long = h.whole.atlas.changed.long in let same = ap length h.whole.atlas.owners in omega (arith, known, long, same))

  -- a file that nothing changes stays
  pub left_same : (flag : Bool) → flag ≡ get_or parts.tables.changed.items file flag → flag ≡ false
      → whole_content (bytes_before parts file) ≡ file_in parts places file
  left_same flag read none =
      unflagged file _ parts.micros.ops parts.tables.changed.items flag (whole_content (bytes_before parts file)) places
      h.whole.atlas.changed has_flag (get_or_read parts.tables.changed.items file flag has_flag read false) none
      ∙ left_of

  -- and shows what it showed
  pub visible_same : (flag : Bool) → flag ≡ get_or parts.tables.changed.items file flag → flag ≡ false
      → bytes_before parts file ≡ visible (file_in parts places file)
  visible_same flag read none =
      sym (take_whole (bytes_before parts file) (replicate (length (bytes_before parts file)) 0)) ∙ ap visible (left_same flag read none)
    where
      take_whole : (xs ys : List ℕ) → take (length xs) (xs ++ ys) ≡ xs
      take_whole [] ys = refl
      take_whole (x ∷ xs) ys = ap (λ zs. x ∷ zs) (take_whole xs ys)

-- the file of each making
module _ (ops : List MicroOp) (makings : List ℕ) (are : AreMakings ops makings) (n : ℕ) where
  pub made_at : n < length makings → content_made (op_at ops (get_or makings n 0)) ≡ get_or (files_made ops) n no_content
  made_at low =
      sym (get_or-map (λ k. content_made (op_at ops k)) makings n 0 no_content low) ∙ ap (λ fs. get_or fs n no_content) are.made

  pub made_past : length makings ≤ n → no_content ≡ get_or (files_made ops) n no_content
  made_past high =
      sym (get_or_past (files_made ops) n no_content
      (let l = length-map makings (λ k. content_made (op_at ops k)) in let same = ap length are.made in omega (arith, high, l, same)))

-- what a set leaves of a directory's owner, group and permissions, from those that it was made with
module _ (parts : Parts) (h : AreParts parts) (directory : ℕ) (places : List ℕ) (known : directory < length parts.tables.directories.items)
  where
    pub directory_of_left : (made : Rights) → made ≡ get_or parts.tables.directories.items directory made
        → directory_left directory made parts.micros.ops places ≡ directory_in parts places directory
    directory_of_left made read =
        let low = subst (λ all. directory < length all) h.whole.atlas.directories known in
        ap (λ r. directory_left directory r parts.micros.ops places)
        (get_or_read parts.tables.directories.items directory made known read no_rights
        ∙ ap (λ all. get_or all directory no_rights) h.whole.atlas.directories)
        ∙ left_directory parts.trace parts.micros.ops places directory low
