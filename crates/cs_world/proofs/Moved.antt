-- A connection whose runs have other places: what its table of fids says, and what it asks, is the same except for the places.
use Rattle.std.proofs.Common.{◌≡◌, ◌∙◌, ℕ, ◌==◌, not, ◌&&◌, ◌||◌, Bool, true, false, cond, List, [], ◌∷◌, length, Option, None, Some, Ok}
use Rattle.std.proofs.Common.{Err, refl, sym, ap}
use Rattle.std.specs.Prelude.{is_err, is_none, is_some, nat_le, option_and_then}
use Rattle.std.specs.Option.{option_map, option_map_or}
use Rattle.std.specs.Cmp.{nat_cmp_total}
use Rattle.std.specs.FinMap.{empty, entries, get, insert, remove, len, get-empty, get-insert, get-remove, len-entries, same_map}
use Rattle.std.specs.FinMap.{nat_cmp-IsAntisymmetric}
use Rattle.std.specs.Ordering.{eq_by_cmp, nat_cmp}
use Rattle.std.proofs.lemmas.List.{length-map}
use Rattle.cs_fids.specs.declared.entry.FidEntry.{FidEntry}
use Rattle.cs_fids.specs.declared.entry.FidEntry.TheVariants as entry
use Rattle.cs_fids.specs.declared.fid.Opened.{Opened}
use Rattle.cs_fids.specs.declared.fid.Walked.{Walked}
use Rattle.cs_fids.specs.declared.fid.TheConstants.{NOFID}
use Rattle.cs_fids.specs.Entries.{as_opened, as_walked, number_of, pass_of, run_of, user_of}
use Rattle.cs_fids.specs.FidOf.{FidOf}
use Rattle.cs_fids.specs.Tables.{FidMap, first_open, least_open}
use Rattle.cs_names.specs.declared.limits.TheConstants.{FIDS}
use Rattle.cs_names.specs.declared.rule_id.RuleId.TheVariants.{A1, A2, A3, K1, K2, K3, K4, O1, O2, O3, C1, C2, C3, C4, C5, G1, G2, E1, E2}
use Rattle.cs_names.specs.Legal.{name_in}
use Rattle.cs_permit.specs.Modes.{are_bad_permissions, covers_read, covers_write, is_bad_open_mode}
use Rattle.cs_permit.specs.Table.{attach_table_rules, create_table_rules, is_full, is_unknown, open_mode, open_table_rules}
use Rattle.cs_permit.specs.Table.{read_table_rules, walk_table_rules, write_table_rules}
use Rattle.cs_permit.specs.TreeNames.{tree_name_in}
use Rattle.cs_session.specs.declared.reply.Reply.{Reply}
use Rattle.cs_session.specs.Decisions.{opened_at, walked_at}
use Rattle.cs_session.specs.Questions.{Question, FindRun, AttachTo, CallOn, PortAnswer, FindAnswer, AttachAnswer, CallAnswer}
use Rattle.cs_session.specs.Sessions.{SessionState, empty_session}
use Rattle.cs_session.specs.Steps.{FirstMove, Done, Asks}
use Rattle.cs_tree_model.specs.Maps.Values.{map_entries, entries-map_values, get-map_values}
use Rattle.cs_world.specs.Places.{entry_with_places, fid_with_places, fids_with_places, with_places}

-- ---- questions and answers

abbrev pub moved_question : (ℕ → ℕ) → Question → Question
moved_question f (FindRun state_name run_name) = FindRun state_name run_name
moved_question f (AttachTo now place call) = AttachTo now (f place) call
moved_question f (CallOn now place pass call) = CallOn now (f place) pass call

abbrev pub moved_front : (ℕ → ℕ) → FirstMove → FirstMove
moved_front f (Done reply s) = Done reply (with_places f s)
moved_front f (Asks q) = Asks (moved_question f q)

abbrev pub moved_told : (ℕ → ℕ) → PortAnswer → PortAnswer
moved_told f (FindAnswer (Ok place)) = FindAnswer (Ok (f place))
moved_told f (FindAnswer (Err fault)) = FindAnswer (Err fault)
moved_told f (AttachAnswer x) = AttachAnswer x
moved_told f (CallAnswer answer) = CallAnswer answer

abbrev pub moved_reply : (ℕ → ℕ) → Reply × SessionState → Reply × SessionState
moved_reply f x = (x.0, with_places f x.1)

abbrev pub moved_left : (ℕ → ℕ) → Reply × FidMap → Reply × FidMap
moved_left f x = (x.0, fids_with_places f x.1)

module _ (f : ℕ → ℕ) where
  -- ---- tables

  pub get_moved : (fids : FidMap) (k : ℕ) → get (fids_with_places f fids) k ≡ option_map (entry_with_places f) (get fids k)
  get_moved fids k = get-map_values nat_cmp (entry_with_places f) fids k

  len_moved : (fids : FidMap) → len (fids_with_places f fids) ≡ len fids
  len_moved fids =
      len-entries (fids_with_places f fids) ∙ ap length (entries-map_values nat_cmp (entry_with_places f) fids) ∙ length-map (entries fids)
      (λ (e : ℕ × FidEntry). (e.0, entry_with_places f e.1)) ∙ sym (len-entries fids)

  within_cond : (b : Bool) (e : Option FidEntry) (o : Option FidEntry)
      → option_map (entry_with_places f) (cond b e o) ≡ cond b (option_map (entry_with_places f) e) (option_map (entry_with_places f) o)
  within_cond true e o = refl
  within_cond false e o = refl

  pub insert_moved : (fids : FidMap) (k : ℕ) (e : FidEntry)
      → fids_with_places f (insert fids k e) ≡ insert (fids_with_places f fids) k (entry_with_places f e)
  insert_moved fids k e = same_map nat_cmp_total nat_cmp-IsAntisymmetric _ _ (λ q.
      get_moved (insert fids k e) q ∙ ap (option_map (entry_with_places f)) (get-insert nat_cmp_total fids k e q) ∙ within_cond
      (eq_by_cmp nat_cmp q k) (Some e) (get fids q)
      ∙ ap (cond (eq_by_cmp nat_cmp q k) (Some (entry_with_places f e))) (sym (get_moved fids q)) ∙ sym
      (get-insert nat_cmp_total (fids_with_places f fids) k (entry_with_places f e) q))

  pub remove_moved : (fids : FidMap) (k : ℕ) → fids_with_places f (remove fids k) ≡ remove (fids_with_places f fids) k
  remove_moved fids k = same_map nat_cmp_total nat_cmp-IsAntisymmetric _ _ (λ q.
      get_moved (remove fids k) q ∙ ap (option_map (entry_with_places f)) (get-remove nat_cmp_total fids k q) ∙ within_cond
      (eq_by_cmp nat_cmp q k) None (get fids q)
      ∙ ap (cond (eq_by_cmp nat_cmp q k) None) (sym (get_moved fids q)) ∙ sym (get-remove nat_cmp_total (fids_with_places f fids) k q))

  empty_moved : fids_with_places f empty ≡ empty
  empty_moved =
      same_map nat_cmp_total nat_cmp-IsAntisymmetric _ _
      (λ q. get_moved empty q ∙ ap (option_map (entry_with_places f)) (get-empty nat_cmp q) ∙ sym (get-empty nat_cmp q))

  first_moved : (es : List (ℕ × FidEntry)) → first_open (map_entries (entry_with_places f) es) ≡ first_open es
  first_moved [] = refl
  first_moved ((n, entry.Walked x) ∷ es) = first_moved es
  first_moved ((n, entry.Opened x) ∷ es) = refl

  pub least_moved : (fids : FidMap) → least_open (fids_with_places f fids) ≡ least_open fids
  least_moved fids = ap first_open (entries-map_values nat_cmp (entry_with_places f) fids) ∙ first_moved (entries fids)

  pub blank_moved : (msize : Option ℕ) → with_places f (empty_session msize) ≡ empty_session msize
  blank_moved msize i = record { msize = msize; awaited = None; fids = empty_moved i }

  -- ---- an entry

  walked_by : (o : Option FidEntry)
      → option_and_then as_walked (option_map (entry_with_places f) o) ≡ option_map (fid_with_places f) (option_and_then as_walked o)
  walked_by None = refl
  walked_by (Some (entry.Walked x)) = refl
  walked_by (Some (entry.Opened x)) = refl

  opened_by : (o : Option FidEntry)
      → option_and_then as_opened (option_map (entry_with_places f) o) ≡ option_map (fid_with_places f) (option_and_then as_opened o)
  opened_by None = refl
  opened_by (Some (entry.Walked x)) = refl
  opened_by (Some (entry.Opened x)) = refl

  mode_by : (o : Option (FidOf Opened))
      → option_map (λ (x : FidOf Opened). x.state.mode) (option_map (fid_with_places f) o)
      ≡ option_map (λ (x : FidOf Opened). x.state.mode) o
  mode_by None = refl
  mode_by (Some x) = refl

  none_by : {A : Type 0} (g : A → A) (o : Option A) → is_none (option_map g o) ≡ is_none o
  none_by g None = refl
  none_by g (Some x) = refl

  pub some_by : {A : Type 0} (g : A → A) (o : Option A) → is_some (option_map g o) ≡ is_some o
  some_by g None = refl
  some_by g (Some x) = refl

  module _ (fids : FidMap) where
    pub walked_moved : (k : ℕ) → walked_at (fids_with_places f fids) k ≡ option_map (fid_with_places f) (walked_at fids k)
    walked_moved k = ap (option_and_then as_walked) (get_moved fids k) ∙ walked_by (get fids k)

    pub opened_moved : (k : ℕ) → opened_at (fids_with_places f fids) k ≡ option_map (fid_with_places f) (opened_at fids k)
    opened_moved k = ap (option_and_then as_opened) (get_moved fids k) ∙ opened_by (get fids k)

    pub unknown : (k : ℕ) → is_unknown (fids_with_places f fids) k ≡ is_unknown fids k
    unknown k = ap (λ (o : Option FidEntry). is_none o) (get_moved fids k) ∙ none_by (entry_with_places f) (get fids k)

    known : (k : ℕ) → is_some (get (fids_with_places f fids) k) ≡ is_some (get fids k)
    known k = ap (λ (o : Option FidEntry). is_some o) (get_moved fids k) ∙ some_by (entry_with_places f) (get fids k)

    pub mode : (k : ℕ) → open_mode (fids_with_places f fids) k ≡ open_mode fids k
    mode k = ap (option_map (λ (x : FidOf Opened). x.state.mode)) (opened_moved k) ∙ mode_by (opened_at fids k)

    full : is_full (fids_with_places f fids) ≡ is_full fids
    full = ap (nat_le FIDS) (len_moved fids)

    -- ---- the connection's rules

    pub attach_rules : (fid afid : ℕ) (aname : List ℕ)
        → attach_table_rules (fids_with_places f fids) fid afid aname ≡ attach_table_rules fids fid afid aname
    attach_rules fid afid aname i =
        (A1, known fid i || fid == NOFID || full i) ∷ (A2, not (afid == NOFID)) ∷ (A3, is_none (tree_name_in aname)) ∷ []

    pub walk_rules : (fid newfid : ℕ) → walk_table_rules (fids_with_places f fids) fid newfid ≡ walk_table_rules fids fid newfid
    walk_rules fid newfid i =
        (K1, unknown fid i) ∷ (K2, is_some (mode fid i)) ∷ (K3, newfid == NOFID || known newfid i && not (newfid == fid))
        ∷ (K4, not (newfid == fid) && full i) ∷ []

    pub open_rules : (fid by : ℕ) → open_table_rules (fids_with_places f fids) fid by ≡ open_table_rules fids fid by
    open_rules fid by i = (O1, unknown fid i) ∷ (O2, is_some (mode fid i)) ∷ (O3, is_bad_open_mode by) ∷ []

    pub create_rules : (fid : ℕ) (name : List ℕ) (perm by : ℕ)
        → create_table_rules (fids_with_places f fids) fid name perm by ≡ create_table_rules fids fid name perm by
    create_rules fid name perm by i =
        (C1, unknown fid i) ∷ (C2, is_some (mode fid i)) ∷ (C3, is_bad_open_mode by) ∷ (C4, is_err (name_in name))
        ∷ (C5, are_bad_permissions perm by) ∷ []

    pub read_rules : (fid : ℕ) → read_table_rules (fids_with_places f fids) fid ≡ read_table_rules fids fid
    read_rules fid i = (G1, unknown fid i) ∷ (G2, not (option_map_or covers_read (mode fid i) false)) ∷ []

    pub write_rules : (fid : ℕ) → write_table_rules (fids_with_places f fids) fid ≡ write_table_rules fids fid
    write_rules fid i = (E1, unknown fid i) ∷ (E2, not (option_map_or covers_write (mode fid i) false)) ∷ []

  -- ---- questions

  pub asks : {A : Type 0} (ask : A → Question) (g : A → A) → ((x : A) → ask (g x) ≡ moved_question f (ask x)) → (o : Option A)
      → option_map ask (option_map g o) ≡ option_map (moved_question f) (option_map ask o)
  asks ask g each None = refl
  asks ask g each (Some x) = ap Some (each x)

  module _ (now : ℕ) (fids : FidMap) where
    pub of_walked : (call : FidOf Walked → _) → ((x : FidOf Walked) → call (fid_with_places f x) ≡ call x) → (k : ℕ)
        → option_map (λ (x : FidOf Walked). CallOn now x.run x.pass (call x)) (walked_at (fids_with_places f fids) k)
        ≡ option_map (moved_question f) (option_map (λ (x : FidOf Walked). CallOn now x.run x.pass (call x)) (walked_at fids k))
    of_walked call same k =
        ap (option_map (λ (x : FidOf Walked). CallOn now x.run x.pass (call x))) (walked_moved fids k) ∙ asks
        (λ (x : FidOf Walked). CallOn now x.run x.pass (call x)) (fid_with_places f) (λ x. ap (CallOn now (f x.run) x.pass) (same x))
        (walked_at fids k)

    pub of_opened : (call : FidOf Opened → _) → ((x : FidOf Opened) → call (fid_with_places f x) ≡ call x) → (k : ℕ)
        → option_map (λ (x : FidOf Opened). CallOn now x.run x.pass (call x)) (opened_at (fids_with_places f fids) k)
        ≡ option_map (moved_question f) (option_map (λ (x : FidOf Opened). CallOn now x.run x.pass (call x)) (opened_at fids k))
    of_opened call same k =
        ap (option_map (λ (x : FidOf Opened). CallOn now x.run x.pass (call x))) (opened_moved fids k) ∙ asks
        (λ (x : FidOf Opened). CallOn now x.run x.pass (call x)) (fid_with_places f) (λ x. ap (CallOn now (f x.run) x.pass) (same x))
        (opened_at fids k)

    entry_asks : (call : FidEntry → _) → ((x : FidEntry) → call (entry_with_places f x) ≡ call x) → (x : FidEntry)
        → CallOn now (run_of (entry_with_places f x)) (pass_of (entry_with_places f x)) (call (entry_with_places f x))
        ≡ CallOn now (f (run_of x)) (pass_of x) (call x)
    entry_asks call same (entry.Walked x) = ap (CallOn now (f x.run) x.pass) (same (entry.Walked x))
    entry_asks call same (entry.Opened x) = ap (CallOn now (f x.run) x.pass) (same (entry.Opened x))

    pub of_entry : (call : FidEntry → _) → ((x : FidEntry) → call (entry_with_places f x) ≡ call x) → (k : ℕ)
        → option_map (λ (x : FidEntry). CallOn now (run_of x) (pass_of x) (call x)) (get (fids_with_places f fids) k)
        ≡ option_map (moved_question f) (option_map (λ (x : FidEntry). CallOn now (run_of x) (pass_of x) (call x)) (get fids k))
    of_entry call same k =
        ap (option_map (λ (x : FidEntry). CallOn now (run_of x) (pass_of x) (call x))) (get_moved fids k) ∙ asks
        (λ (x : FidEntry). CallOn now (run_of x) (pass_of x) (call x)) (entry_with_places f) (entry_asks call same) (get fids k)

  pub number_same : (x : FidEntry) → number_of (entry_with_places f x) ≡ number_of x
  number_same (entry.Walked x) = refl
  number_same (entry.Opened x) = refl

  pub user_same : (x : FidEntry) → user_of (entry_with_places f x) ≡ user_of x
  user_same (entry.Walked x) = refl
  user_same (entry.Opened x) = refl

  pub open_same : (x : FidEntry)
      → option_map (λ (y : FidOf Opened). y.state.open_number) (as_opened (entry_with_places f x))
      ≡ option_map (λ (y : FidOf Opened). y.state.open_number) (as_opened x)
  open_same (entry.Walked x) = refl
  open_same (entry.Opened x) = refl
