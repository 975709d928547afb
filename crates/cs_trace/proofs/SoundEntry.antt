-- One entry more at the start leaves a sound state: its parts.
use Rattle.std.proofs.Common.{◌≡◌, ◌≢◌, ◌⊎◌, ℕ, true, false, List, [], ◌∷◌, ◌++◌, length, None, Some}
use Rattle.std.proofs.Common.{refl, sym, ap, ◌∙◌, subst, ⊎_elim, inl, inr}
use Rattle.std.proofs.lemmas.Option.{same_Some}
use Rattle.std.specs.FinMap.{get, insert}
use Rattle.std.specs.List.{slice_get}
use Rattle.cs_entries.specs.DirEntries.{root_home}
use Rattle.cs_entries.specs.declared.entry.Entry.{Entry}
use Rattle.cs_entries.specs.Laws.Records.{entry_exact, entry_total}
use Rattle.cs_entries.specs.Entries.{entry_eq}
use Rattle.cs_entries.specs.Laws.One.{entry_cases}
use Rattle.cs_entries.specs.Tables.{Table}
use Rattle.cs_entries.specs.declared.node.FileKind.{FileKind}
use Rattle.cs_entries.specs.declared.node.Node.{Node}
use Rattle.cs_entries.specs.declared.node.Node.TheVariants.{Directory, File}
use Rattle.cs_start.specs.Entries.{StartEntries}
use Rattle.cs_start.specs.declared.entry.StartEntry.{StartEntry}
use Rattle.cs_tree_model.specs.Laws.Paths.{path_exact, path_total}
use Rattle.cs_tree_model.specs.Maps.Changes.{get-insert_same, get-insert_other}
use Rattle.cs_tree_model.specs.Tree.{Path}
use Rattle.cs_trace.specs.Traces.{AreHomes}
use Rattle.cs_trace.specs.Putting.{homes_with}
use Rattle.cs_trace.proofs.Sound.{AreFound, HasOwn}
use Rattle.cs_trace.proofs.SoundOperations.{slice_get-push, slice_get-push_new, slice_get-push_old}
use Rattle.cs_trace.proofs.SoundStarts.{each_of}

no_value : {X : Type 0} (x : X) → None ≡ Some x → ⊥
no_value x h = cc

-- ---- the homes of directories

module _ (t : Table) (homes : List Entry) (old : AreHomes t homes)
    (stay : (d : ℕ) (e : Entry) → slice_get homes d ≡ Some e → (d ≡ 0) ⊎ (get t e ≡ Some (Directory d)))
    (rooted : slice_get homes 0 ≡ Some root_home) (e : Entry) (free : get t e ≡ None) where
  -- what an entry holds now is new or was there
  held_cases : (node : Node) (f : Entry) (held : Node) → get (insert t e node) f ≡ Some held
      → ((f ≡ e) × (node ≡ held)) ⊎ (get t f ≡ Some held)
  held_cases node f held is = ⊎_elim
      (λ (one : (entry_eq f e ≡ true) × (f ≡ e)).
      inl (
        one.1,
        same_Some node held (sym (get-insert_same entry_total entry_exact t e node)
            ∙ ap (get (insert t e node)) (sym one.1) ∙ is),
      ))
      (λ (two : (entry_eq f e ≡ false) × (f ≢ e)). inr (sym (get-insert_other entry_total entry_exact t f e node two.1) ∙ is))
      (entry_cases f e)

  pub homes_next : (node : Node) → ((d : ℕ) → node ≡ Directory d → d ≡ length homes) → AreHomes (insert t e node) (homes_with homes e node)
  homes_next (Directory c) next = record {
    root = slice_get-push_old homes e 0 root_home rooted;
    each = λ f d held. ⊎_elim
        (λ (new : (f ≡ e) × (Directory c ≡ Directory d)).
        subst (λ k. slice_get (homes ++ e ∷ []) k ≡ Some f) (sym (next c refl) ∙ same_number c d new.1)
        (slice_get-push_new homes e ∙ ap Some (sym new.0)))
        (λ (was : get t f ≡ Some (Directory d)). slice_get-push_old homes e d f (old.each f d was))
        (held_cases (Directory c) f (Directory d) held);
  }
    where
      same_number : (a b : ℕ) → Directory a ≡ Directory b → a ≡ b
      same_number a b h = cc
  homes_next (File kind file) next = record {
    root = rooted;
    each = λ f d held. ⊎_elim
        (λ (new : (f ≡ e) × (File kind file ≡ Directory d)). absurd (no_directory d new.1))
        (λ (was : get t f ≡ Some (Directory d)). old.each f d was)
        (held_cases (File kind file) f (Directory d) held);
  }
    where
      no_directory : (d : ℕ) → File kind file ≡ Directory d → ⊥
      no_directory d h = cc

  kept : (node : Node) (d : ℕ) (f : Entry) → (d ≡ 0) ⊎ (get t f ≡ Some (Directory d))
      → (d ≡ 0) ⊎ (get (insert t e node) f ≡ Some (Directory d))
  kept node d f was = ⊎_elim
      (λ (root : d ≡ 0). inl root)
      (λ (held : get t f ≡ Some (Directory d)).
      inr (get-insert_other entry_total entry_exact t f e node
      (λ same. no_value (Directory d) (sym free ∙ ap (get t) (sym same) ∙ held)) ∙ held))
      was

  pub stay_next : (node : Node) → ((d : ℕ) → node ≡ Directory d → d ≡ length homes) → (d : ℕ) (f : Entry)
      → slice_get (homes_with homes e node) d ≡ Some f → (d ≡ 0) ⊎ (get (insert t e node) f ≡ Some (Directory d))
  stay_next (File kind file) next d f at = kept (File kind file) d f (stay d f at)
  stay_next (Directory c) next d f at = ⊎_elim
      (λ (was : slice_get homes d ≡ Some f). kept (Directory c) d f (stay d f was))
      (λ (new : (d ≡ length homes) × (f ≡ e)).
      inr (ap (get (insert t e (Directory c))) new.1 ∙ get-insert_same entry_total entry_exact t e (Directory c)
      ∙ ap (λ k. Some (Directory k)) (next c refl ∙ sym new.0)))
      (slice_get-push homes e d f at)

-- ---- the files by their paths

module _ (m : StartEntries) (files : List Path) (p : Path) (free : get m p ≡ None) (f : StartEntry)
    (own : (kind : FileKind) (file : ℕ) → f.node ≡ File kind file → (file ≡ length files) × (f.own ≡ true)) where
  abbrev next : StartEntries
  next = insert m p f

  old_path : (q : Path) (g : StartEntry) → get m q ≡ Some g → get next q ≡ Some g
  old_path q g there =
      get-insert_other path_total path_exact m q p f (λ same. no_value g (sym free ∙ ap (get m) (sym same) ∙ there)) ∙ there

  pub found_push : (kind : FileKind) (file : ℕ) → f.node ≡ File kind file → AreFound files m → AreFound (files ++ p ∷ []) next
  found_push kind file is found =
      each_of m p f (λ q g. (k : FileKind) (n : ℕ) → g.node ≡ File k n → HasOwn (files ++ p ∷ []) next g n)
      (λ k n same. record {
        own = p;
        at = ap (slice_get (files ++ p ∷ [])) (own k n same).0 ∙ slice_get-push_new files p;
        entry = get-insert_same path_total path_exact m p f ∙ ap (λ b. Some (record f { own = b })) (own k n same).1;
      })
      (λ q g _ there k n same.
      (let old = found q g there k n same in
      record {
        own = old.own;
        at = slice_get-push_old files p n old.own old.at;
        entry = old_path old.own (record g { own = true }) old.entry;
      }))

  pub found_kept : (d : ℕ) → f.node ≡ Directory d → AreFound files m → AreFound files next
  found_kept d is found =
      each_of m p f (λ q g. (k : FileKind) (n : ℕ) → g.node ≡ File k n → HasOwn files next g n)
      (λ k n same. absurd (no_file k n (sym is ∙ same)))
      (λ q g _ there k n same.
      (let old = found q g there k n same in
      record { own = old.own; at = old.at; entry = old_path old.own (record g { own = true }) old.entry }))
    where
      no_file : (k : FileKind) (n : ℕ) → Directory d ≡ File k n → ⊥
      no_file k n h = cc
