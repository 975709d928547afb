-- One file after a step.
use Rattle.std.proofs.Common.{◌≡◌, ◌+◌, ℕ, List, [], Option, None, Some, refl, sym, ap, ◌∙◌, subst, unwrap_or, true, false, if◌then◌else◌}
use Rattle.std.proofs.Common.{length}
use Rattle.std.proofs.lemmas.List.FromFn.{length-map-range_with_len}
use Rattle.std.specs.FinMap.{FinMap, empty, get, get-empty}
use Rattle.std.specs.Option.{option_map}
use Rattle.cs_tree_model.specs.declared.change.Change.{Change}
use Rattle.cs_tree_model.specs.declared.change.New.{New}
use Rattle.cs_tree_model.specs.declared.change.Stamp.{Stamp}
use Rattle.cs_tree_model.specs.declared.record.Kind.TheVariants as kinds
use Rattle.cs_tree_model.specs.declared.record.Record.{Record}
use Rattle.cs_tree_model.specs.Effects.{new_content, new_record, bytes_after_write, record_with_length, record_with_stamp}
use Rattle.cs_tree_model.specs.Mode.{is_directory_mode}
use Rattle.cs_tree_model.specs.Record.{kind_of}
use Rattle.cs_tree_model.specs.Tree.{name_cmp}
use Rattle.cs_tree_model.specs.declared.record.Kind.{Kind}
use Rattle.cs_overlay.specs.declared.node.Body.{Body}
use Rattle.cs_tree_model.specs.Stores.{changed_record, record_with_length_if_named, stamped_write}
use Rattle.cs_tree_model.specs.Table.{with_file}
use Rattle.cs_overlay.specs.declared.node.Body.TheVariants.{Directory, File}
use Rattle.cs_overlay.specs.declared.node.Node.{Node}
use Rattle.cs_overlay.specs.declared.patched.Patched.{Patched}
use Rattle.cs_overlay.specs.Files.{file_byte, file_bytes, NothingHidden}
use Rattle.cs_overlay.specs.Layers.{content_over, shape_over, own_in, with_attributes, with_stamp, HidesPast, IsNewFile, IsStep}

module _ (low : Option (List ℕ)) (n : ℕ) where
  pub step_on : (f g : Record → Record) (d e v : Node) → IsStep low n f d e → IsStep low n g e v → IsStep low n (λ r. g (f r)) d v
  step_on f g d e v one two = record {
    shape = two.shape ∙ (λ i. with_file (one.shape i) (g (one.shape i).file));
    own = λ x. two.own x ∙ one.own x;
    name = two.name ∙ one.name;
    node = λ h. two.node (one.node h);
  }

  -- ---- bytes in a file

  module _ (d : Node) (k : ℕ) (w : List ℕ) (s : Stamp) where
    pub written_step : (p q : Patched) → d.body ≡ File p → NothingHidden (unwrap_or low []) q
        → file_bytes (unwrap_or low []) q ≡ bytes_after_write k w (file_bytes (unwrap_or low []) p)
        → IsStep low n (stamped_write k w s) d (with_stamp (record d {
          metadata = record d.metadata { kind = kinds.File q.size };
          body = File q;
        }) s)
    written_step p q is hides bytes = record {
      shape = λ i. record (shape_over low d) {
        file = record (record_with_stamp s (shape_over low d).file) {
          content =
              (ap Some bytes ∙ sym (ap (λ b. option_map (bytes_after_write k w) (content_over low b)) is)) i;
        };
      };
      own = λ x. sym (ap (λ b. own_in b x) is);
      name = refl;
      node = λ h. record {
        kind = ap kinds.File (sym (length-map-range_with_len (file_byte (unwrap_or low []) q) 0 q.size));
        named = h.named;
        hides = hides;
      };
    }

    pub unwritten_step : content_over low d.body ≡ None → IsStep low n (stamped_write k w s) d (with_stamp d s)
    unwritten_step none = record {
      shape = λ i. record (shape_over low d) {
        file = record (record_with_stamp s (shape_over low d).file) {
          content =
              (none ∙ sym (ap (option_map (bytes_after_write k w)) none)) i;
        };
      };
      own = λ x. refl;
      name = refl;
      node = λ h. record { kind = h.kind; named = h.named; hides = h.hides };
    }

  -- ---- fields

  module _ (c : Change) (s : Stamp) (d : Node) where
    -- the fields but the length, of a record that has its length
    abbrev rest : Option (List ℕ) → Record → Record
    rest group r = record r {
      vers = r.vers + 1;
      group = unwrap_or group r.group;
      mode = unwrap_or c.mode r.mode;
      mtime = unwrap_or c.mtime r.mtime;
    }

    rest_step : (e : Node) (group : Option (List ℕ)) → IsStep low n (rest group) e (with_attributes e c.mode group c.mtime)
    rest_step e group = record {
      shape = refl;
      own = λ x. refl;
      name = refl;
      node = λ h. record { kind = h.kind; named = h.named; hides = h.hides };
    }

    abbrev fields : Option ℕ → Option (List ℕ) → Record → Record
    fields length group r = (let w = record_with_length_if_named length s r in record w {
      group = unwrap_or group w.group;
      mode = unwrap_or c.mode w.mode;
      mtime = unwrap_or c.mtime w.mtime;
    })

    pub sized_step : (m : ℕ) (e : Node) (group : Option (List ℕ)) → c.length ≡ Some m → group ≡ c.group
        → IsStep low n (λ r. record (record_with_length m r) { mtime = s.now; muid = s.user }) d e
        → IsStep low n (changed_record c s) d (with_attributes e c.mode group c.mtime)
    sized_step m e group length is one =
        subst (λ f. IsStep low n f d (with_attributes e c.mode group c.mtime)) (λ i. fields (sym length i) (is i))
        (step_on (λ r. record (record_with_length m r) {
          mtime = s.now;
          muid = s.user;
        }) (rest group) d e (with_attributes e c.mode group c.mtime) one (rest_step e group))

    pub unsized_step : (group : Option (List ℕ)) → c.length ≡ None → group ≡ c.group
        → IsStep low n (changed_record c s) d (with_attributes d c.mode group c.mtime)
    unsized_step group length is =
        subst (λ f. IsStep low n f d (with_attributes d c.mode group c.mtime)) (λ i. fields (sym length i) (is i)) (rest_step d group)

-- ---- a new file

module _ (parent number : ℕ) (name group : List ℕ) (w : New) (s : Stamp) (owner muid : List ℕ) (owner_is : owner ≡ s.user)
    (muid_is : muid ≡ s.user) where
  abbrev made : Kind → Body → Node
  made kind body = record {
    parent = parent;
    name = Some name;
    metadata = record {
      number = number;
      vers = 0;
      owner = owner;
      group = group;
      mode = w.mode;
      atime = s.now;
      mtime = s.now;
      muid = muid;
      kind = kind;
    };
    body = body;
  }

  of_body : (kind : Kind) (body : Body) → content_over None body ≡ new_content w.mode → kind ≡ kind_of (content_over None body)
      → HidesPast None body → ((x : List ℕ) → own_in body x ≡ None) → IsNewFile parent name (new_record number group w s) (made kind body)
  of_body kind body content is hides own = record {
    shape = λ i. record {
      parent = parent;
      name = name;
      file = record (new_record number group w s) { owner = owner_is i; muid = muid_is i; content = content i };
    };
    node = λ n. record { kind = is; named = λ z. refl; hides = hides };
    own = own;
  }

  pub new_directory : (b : Kind × Body) (names : FinMap name_cmp (Option ℕ)) → names ≡ empty → b ≡ (kinds.Directory, Directory names)
      → is_directory_mode w.mode ≡ true → IsNewFile parent name (new_record number group w s) (made b.0 b.1)
  new_directory b names none is mode = subst (λ p. IsNewFile parent name (new_record number group w s) (made p.0 p.1)) (sym is)
      (of_body kinds.Directory (Directory names) (sym (ap (λ t. if t then None else Some []) mode)) refl tt
      (λ x. ap (λ m. get m x) none ∙ get-empty name_cmp x))

  pub new_plain : (b : Kind × Body) (p : Patched) → file_bytes [] p ≡ [] → NothingHidden [] p → b ≡ (kinds.File 0, File p)
      → is_directory_mode w.mode ≡ false → IsNewFile parent name (new_record number group w s) (made b.0 b.1)
  new_plain b p none hides is mode = subst (λ q. IsNewFile parent name (new_record number group w s) (made q.0 q.1)) (sym is)
      (of_body (kinds.File 0) (File p) (ap Some none ∙ sym (ap (λ t. if t then None else Some []) mode))
      (ap (λ v. kinds.File (length v)) (sym none)) hides (λ x. refl))
