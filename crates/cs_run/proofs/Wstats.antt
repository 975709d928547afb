-- What the rules of a wstat say of the change that it asks for, if none fails.
use Rattle.std.proofs.Common.{◌≡◌, ◌≢◌, ◌<◌, ◌≤◌, ◌^◌, ◌==◌, ◌||◌, ℕ, Bool, true, false, not, List, [], Option, None, Some, IsSome, IfSome}
use Rattle.std.proofs.Common.{refl, sym, ap, ◌∙◌, subst, arith, bit_and}
use Rattle.std.proofs.lemmas.Bool.{false≢true, ltb-false, or_parts}
use Rattle.std.proofs.lemmas.Bool.Decides.{nat_tests}
use Rattle.std.proofs.lemmas.Option.{IfSome_then}
use Rattle.std.specs.Option.{is_some, option_map, option_map_or, option_and_then}
use Rattle.cs_names.specs.declared.limits.TheConstants.{FILE_BYTES}
use Rattle.cs_permit.specs.Changes.{if_new, new_length, new_mode, new_name}
use Rattle.cs_permit.specs.Refusals.{AllPass}
use Rattle.cs_permit.specs.Rules.{file_at, is_directory}
use Rattle.cs_permit.specs.Wstats.{field_rules, group_rules, is_bad_mode, length_rules, mode_rules, name_rules}
use Rattle.cs_permit.specs.Wstats.{number_of_sibling, wstat_rules}
use Rattle.cs_permit.specs.declared.call.WstatCall.{WstatCall}
use Rattle.cs_run.proofs.Trees.{file_has_bytes}
use Rattle.cs_run.specs.Effects.{requested_change, change_of}
use Rattle.cs_tree_model.specs.Mode.{is_directory_mode}
use Rattle.cs_tree_model.specs.Record.{metadata_of}
use Rattle.cs_tree_model.specs.Stores.{KeepsKind}
use Rattle.cs_tree_model.specs.Tree.{NameBytes, Tree, content_numbered, number_in, parent_numbered, record_numbered}
use Rattle.cs_tree_model.specs.declared.change.Change.{Change}
use Rattle.cs_tree_model.specs.declared.mode.TheConstants.{DMDIR}
use Rattle.cs_tree_model.specs.declared.record.MetadataBuf.{MetadataBuf}
use Rattle.cs_tree_model.specs.declared.record.Record.{Record}
use Rattle.cs_users.specs.Rows.{Row}

-- a test that no new value fails
passes : {A : Type 0} (o : Option A) (test : A → Bool) → if_new o test ≡ false → IfSome o (λ a. test a ≡ false)
passes None test e = tt
passes (Some a) test e = e

some_then : {A : Type 0} (o : Option A) (Q : Type 0) → IfSome o (λ _. Q) → IsSome o → Q
some_then None Q h some = absurd (false≢true some)
some_then (Some a) Q h some = h

middle : (a b c : Bool) → a || b || c ≡ false → b ≡ false
middle a b c e = (or_parts a b (or_parts (a || b) c e).0).1

same_by : (a b : ℕ) → not (a == b) ≡ false → a ≡ b
same_by a b e = grind (arith, nat_tests)

-- the file that is changed, and the rules of its fields that pass
record Granted (t : Tree) (us : List Row) (c : WstatCall) (x : Change) : Type 0 where
  file : MetadataBuf
  there : file_at t c.number ≡ Some file
  same : change_of t c file ≡ x
  pass : AllPass (field_rules t us c file)

module _ (t : Tree) (us : List Row) (c : WstatCall) (x : Change) (pass : AllPass (wstat_rules t us c))
    (is : requested_change t c ≡ Some x) where
  granted : Granted t us c x
  granted = by (file_at t c.number) refl is pass.1.1
    where
      by : (o : Option MetadataBuf) → file_at t c.number ≡ o → option_map (change_of t c) o ≡ Some x
          → AllPass (option_map_or (field_rules t us c) o []) → Granted t us c x
      by None e s h = absurd (false≢true (ap is_some s))
      by (Some f) e s h = record { file = f; there = e; same = (let two : Some (change_of t c f) ≡ Some x = s in cc); pass = h }

  pub length_of_file : IsSome x.length → IsSome (content_numbered t c.number)
  unfolding name_rules length_rules mode_rules group_rules
  length_of_file some =
      let g = granted in
      file_has_bytes t c.number g.file g.there
      (some_then (new_length c g.file) (is_directory g.file ≡ false)
      (passes (new_length c g.file) (λ n. is_directory g.file) g.pass.1.1.1.1.0)
      (subst (λ (y : Change). IsSome y.length) (sym g.same) some))

  pub length_has_room : IfSome x.length (λ n. n < 2 ^ 63)
  unfolding name_rules length_rules mode_rules group_rules
  length_has_room =
      let g = granted in
      subst (λ (y : Change). IfSome y.length (λ n. n < 2 ^ 63)) g.same
      (IfSome_then (new_length c g.file) (passes (new_length c g.file) _ g.pass.1.1.1.1.1.1.0)
      (λ n e. (let few : n ≤ FILE_BYTES = ltb-false FILE_BYTES n e in omega arith)))

  pub mode_keeps_kind : KeepsKind x (record_numbered t c.number)
  unfolding name_rules length_rules mode_rules group_rules
  mode_keeps_kind =
      let g = granted in
      subst (λ (y : Change). KeepsKind y (record_numbered t c.number)) g.same
      (IfSome_then (new_mode c g.file) (passes (new_mode c g.file) (is_bad_mode g.file) g.pass.1.1.1.1.1.1.1.0)
      (λ mode e. by g mode (same_by _ _ (middle _ _ _ e)) (record_numbered t c.number) g.there))
    where
      by : (g : Granted t us c x) (mode : ℕ) → bit_and mode DMDIR ≡ bit_and g.file.mode DMDIR → (o : Option Record)
          → option_map metadata_of o ≡ Some g.file → IfSome o (λ r. is_directory_mode mode ≡ is_directory_mode r.mode)
      by g mode e None s = tt
      by g mode e (Some r) s = (let one : metadata_of r ≡ g.file = (let two : Some (metadata_of r) ≡ Some g.file = s in cc) in
          ap (λ bits. not (bits == 0)) (e ∙ ap (λ (f : MetadataBuf). bit_and f.mode DMDIR) (sym one)))

  pub name_not_of_root : IsSome x.name → c.number ≢ 0
  unfolding name_rules length_rules mode_rules group_rules
  name_not_of_root some root =
      let g = granted in
      let e = some_then (new_name t c) ((c.number == 0) ≡ false) (passes (new_name t c) (λ y. c.number == 0) g.pass.0)
      (subst (λ (y : Change). IsSome y.name) (sym g.same) some) in
      absurd (false≢true (sym e ∙ ap (λ n. n == 0) root))

  pub name_is_free : IfSome x.name (λ y. IfSome (parent_numbered t c.number) (λ d. number_in t d y ≡ None))
  unfolding name_rules length_rules mode_rules group_rules
  name_is_free =
      let g = granted in
      subst (λ (y : Change). IfSome y.name (λ y. IfSome (parent_numbered t c.number) (λ d. number_in t d y ≡ None))) g.same
      (IfSome_then (new_name t c) (passes (new_name t c) (λ y. is_some (number_of_sibling t c.number y)) g.pass.1.1.1.0)
      (λ y e. by y (parent_numbered t c.number) e))
    where
      none : (o : Option ℕ) → is_some o ≡ false → o ≡ None
      none o e = grind arith

      by : (y : NameBytes) (o : Option ℕ) → is_some (option_and_then (λ d. number_in t d y) o) ≡ false
          → IfSome o (λ d. number_in t d y ≡ None)
      by y None e = tt
      by y (Some d) e = none (number_in t d y) e
