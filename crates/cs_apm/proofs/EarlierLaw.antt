-- The law of the versions before the fourth.
use Rattle.std.proofs.Common.{◌≡◌, ℕ, ◌+◌, ◌<◌, ◌≤◌, Bool, false, List, [], ◌∷◌, ◌++◌, inr, Option, None, Some}
use Rattle.std.proofs.Common.{refl, sym, ap, ◌∙◌, subst, arith, length, length-append, map, get_or}
use Rattle.std.proofs.lemmas.List.{map-append}
use Rattle.std.proofs.lemmas.List.FromFn.{length-map-range_with_len}
use Rattle.std.proofs.lemmas.Option.{get_or_from_slice_get, slice_get_within}
use Rattle.std.specs.FinMap.{get}
use Rattle.std.specs.List.{All, range_with_len}
use Rattle.std.specs.List.Sorted.{IsStrictlySortedBy}
use Rattle.std.specs.Option.{option_map_or}
use Rattle.std.specs.Prelude.{fold}
use Rattle.cs_tree_model.specs.declared.record.Record.{Record}
use Rattle.cs_tree_model.specs.Tree.{Path, path_cmp}
use Rattle.cs_entries.specs.declared.entry.Entry.{Entry}
use Rattle.cs_entries.specs.declared.node.FileKind.TheVariants.{Symlink}
use Rattle.cs_entries.specs.declared.node.Node.TheVariants.{Directory, File}
use Rattle.cs_entries.specs.DirEntries.{root_home}
use Rattle.cs_entries.specs.Entries.{Entries}
use Rattle.cs_entries.specs.Legal.{IsHeld, IsTree}
use Rattle.cs_entries.specs.Paths.{at_path}
use Rattle.cs_entries.specs.Sets.{HasNeeds}
use Rattle.cs_entries.specs.Tables.{held_in, paths_in, table_of}
use Rattle.cs_entries.specs.Laws.Allowed.{allowed_has}
use Rattle.cs_entries.specs.Laws.Paths.{entry_path}
use Rattle.cs_entries.specs.Laws.States.{state_leads, table_held}
use Rattle.cs_trace_lines.specs.Versions.{profile_of}
use Rattle.cs_trace.specs.Earlier.Same.{trace_before}
use Rattle.cs_trace.specs.Limits.{most_bytes}
use Rattle.cs_trace.specs.Operations.{FileSystem}
use Rattle.cs_trace.specs.Traces.{AreLegalFromStart, Trace, directory_count, record_in, start_sizes, start_table}
use Rattle.cs_micro.specs.declared.micro_op.MicroOp.{MicroOp}
use Rattle.cs_micro.specs.declared.sync_point.SyncPoint.{SyncPoint}
use Rattle.cs_micro.specs.Earlier.Micros as micros_before
use Rattle.cs_micro.specs.Earlier.Same.{micros_as_before, op_before}
use Rattle.cs_micro.specs.Legal.{AreLegal, Made}
use Rattle.cs_micro.specs.Micros.{micros_in}
use Rattle.cs_micro.proofs.Legality.{AreSmall, all_legal, made_of}
use Rattle.cs_sets.specs.Chains.{by_chain}
use Rattle.cs_sets.specs.Sets.{IsAllowed, is_member}
use Rattle.cs_apm.specs.Earlier.Rules as rules_before
use Rattle.cs_apm.specs.Earlier.Same.{IsAsBefore, IsOfEarlierVersion, needed_before}
use Rattle.cs_apm.specs.Earlier.States as before
use Rattle.cs_apm.specs.Laws.Homes.{few, fixed, legal_entries}
use Rattle.cs_apm.specs.Laws.Members.{members_run, run}
use Rattle.cs_apm.specs.Laws.Trees.{entries_closed, entries_left, inside, long_left}
use Rattle.cs_apm.specs.Orders.{needs_of}
use Rattle.cs_apm.specs.Rules.{entry_op_at, is_first_half, op_at}
use Rattle.cs_apm.specs.States.{State, content_at, content_of, crash_state_of, directories_made, directory_owner, files_made, no_content, nodes_left, owner_at, start_state, state_after, state_of, with_created}
use Rattle.cs_apm.proofs.EarlierHistory.{E, history, home, known, number}
use Rattle.cs_apm.proofs.EarlierLeft.{F, IsWithoutLinks, alike_at, without_links}
use Rattle.cs_apm.proofs.EarlierOrder.{same_chains}
use Rattle.cs_apm.proofs.EarlierStart.{start_alike}
use Rattle.cs_apm.proofs.EarlierStates.{AreAlike}
use Rattle.cs_apm.proofs.EarlierSyncs.{AreNamedSyncs}
use Rattle.cs_apm.proofs.EarlierTrace.{named_syncs, no_halves, none_at}
use Rattle.cs_apm.proofs.EarlierWhole.{after_before, content_before, files_alike, files_before, files_made_before, owners_alike, owners_made_before}
use Rattle.cs_apm.proofs.EarlierWhole.{same_fold, trees_alike}
use Rattle.cs_apm.proofs.Homing.{ascending_of}

module _ (t : Trace) (early : IsOfEarlierVersion t) (tree : IsTree (held_in (start_table t))) (legal : AreLegalFromStart t)
    (small : All (λ size. size ≤ most_bytes t.version) (start_sizes t)) (each : length t.nodes ≡ length t.records)
    (sorted : IsStrictlySortedBy path_cmp (map (λ e. e.0) t.records))
    (broken : micros_as_before (micros_in t) ≡ micros_before.micros_in (trace_before t)) where
  abbrev fs : FileSystem
  fs = record { entries = start_table t; sizes = start_sizes t; homes = legal.homes }

  abbrev m : Made
  m = made_of fs

  abbrev ops : List MicroOp
  ops = (micros_in t).ops

  abbrev syncs : List SyncPoint
  syncs = (micros_in t).syncs

  abbrev n : ℕ
  n = length ops

  small_files : AreSmall t.version fs
  small_files file size is =
      subst (λ s. s ≤ most_bytes t.version) (get_or_from_slice_get (start_sizes t) file size 0 is)
      (small file 0 (slice_get_within (start_sizes t) file size is))

  micro_legal : AreLegal t.version m ops
  micro_legal = all_legal t.version fs t.operations small_files legal.legal

  used : (d : ℕ) → 0 < d → d < length m.homes → IsHeld (held_in m.entries) d
  used d some low = early.numbers d some (subst (λ k. d < k) legal.many low)

  whole : (k : ℕ) → is_first_half (op_at ops k) ≡ false
  whole = none_at ops (no_halves t.version early.version t.operations)

  abbrev at_times : ℕ → Entries
  at_times = E t.version m ops micro_legal legal.are tree early.version used whole

  abbrev at_home : ℕ → Entry
  at_home = home t.version m ops micro_legal legal.are tree early.version used whole

  abbrev numbered : Entry → ℕ
  numbered = number t.version m ops micro_legal legal.are tree early.version used whole

  all_named : AreNamedSyncs at_times n syncs
  all_named = named_syncs t.version fs small_files t.operations legal.legal early.syncs

  chains : (i k : ℕ) → k < n → by_chain (needs_of (micros_in t)) i k ≡ by_chain (needed_before t) i k
  chains i k low =
      same_chains ops syncs t.version at_home numbered at_times
      (history t.version m ops micro_legal legal.are tree early.version used whole) early.version early.profile all_named i k low
      ∙ ap (λ (x : micros_before.Micros). by_chain (rules_before.needs x.ops x.syncs x.version) i k) broken

  -- ---- states

  abbrev first : State
  first = with_created (start_state t) ops

  abbrev old : before.State
  old = before.with_created (before.start_state (trace_before t)) (map op_before ops)

  content_same : (p : Path) → content_before (content_at t.records p) ≡ before.content_at t.records p
  content_same p = by (record_in t.records p)
    where
      by : (o : Option Record) → content_before (option_map_or content_of o no_content) ≡ option_map_or before.content_of o
          before.no_content
      by None = refl
      by (Some r) = refl

  files_mapped : (ps : List Path) → files_before (map (content_at t.records) ps) ≡ map (before.content_at t.records) ps
  files_mapped [] = refl
  files_mapped (p ∷ ps) = λ i. content_same p i ∷ files_mapped ps i

  files_same : files_before first.files ≡ old.files
  files_same =
      map-append content_before (map (content_at t.records) t.files) (files_made ops)
      ∙ (λ i. files_mapped t.files i ++ files_made_before t.version early.version m ops micro_legal i)

  owners_same : first.owners ≡ old.owners
  owners_same = ap (λ v. map (owner_at t.records) t.files ++ v) (owners_made_before ops)

  as_many : length (start_state t).directories ≡ length m.homes
  as_many = length-map-range_with_len (directory_owner t) 0 (directory_count t.nodes) ∙ sym legal.many

  known_low : (k d : ℕ) (e : Entry) → k ≤ n → at_times k e ≡ Some (Directory d) → d < length first.directories
  known_low k d e low held =
      let below = known t.version m ops micro_legal legal.are tree early.version used whole k low e d held in
      omega (arith, below, as_many, length-append (start_state t).directories (directories_made ops))

  rooted : 0 < length first.directories
  rooted =
      let some = slice_get_within m.homes 0 root_home legal.are.root in
      omega (arith, some, as_many, length-append (start_state t).directories (directories_made ops))

  begins : AreAlike first.directories (held_in m.entries) old.paths
  begins =
      start_alike t legal.homes legal.are legal.many each (ascending_of (map (λ e. e.0) t.records) sorted) tree early.leads
      (directories_made ops)

  no_links : IsWithoutLinks (held_in m.entries)
  no_links e file held =
      (let w = entry_path (held_in m.entries) tree e (File Symlink file) held in
      early.files (w.0 ++ e.name ∷ []) file (sym (early.leads (w.0 ++ e.name ∷ [])) ∙ w.2))

  module _ (places : List ℕ) (allowed : IsAllowed (needs_of (micros_in t)) n places) where
    abbrev has : ℕ → Bool
    has = is_member places

    has_needs : HasNeeds (entry_op_at ops) has
    has_needs =
        allowed_has (held_in m.entries) (entry_op_at ops) n has
        (entries_closed ops syncs t.version (profile_of t.version) n places allowed)
        (inside ops (needs_of (micros_in t)) n places allowed)
        (inr (fixed t.version m ops micro_legal legal.are early.version))

    abbrev left_entries : Entries
    left_entries = F t.version m ops micro_legal legal.are tree early.version used whole has has_needs n

    abbrev members : List MicroOp
    members = map (op_at ops) places

    left_alike : AreAlike (fold state_after first members).directories left_entries (fold after_before old members).paths
    left_alike =
        subst (λ (s : State). AreAlike s.directories left_entries (fold after_before old members).paths)
        (sym (members_run state_after first ops n places allowed.ascending allowed.in_range))
        (subst (λ (o : before.State). AreAlike (run state_after has first ops n).directories left_entries o.paths)
        (sym (members_run after_before old ops n places allowed.ascending allowed.in_range))
        (alike_at t.version m ops micro_legal legal.are tree early.version used whole has has_needs first old known_low rooted begins n
        (omega arith)))

    leads_left : (q : Path) → get (nodes_left (state_of (start_state t) ops places)) q ≡ at_path left_entries q
    leads_left q =
        (λ i. get (paths_in (deep i + 1) (table i)) q)
        ∙ state_leads m.entries (entry_op_at ops) n (length m.homes + length (directories_made ops)) has tree
        (legal_entries t.version m ops micro_legal legal.are)
        (inr (fixed t.version m ops micro_legal legal.are early.version)) (few t.version m ops micro_legal legal.are)
        (inside ops (needs_of (micros_in t)) n places allowed) (entries_closed ops syncs t.version (profile_of t.version) n places allowed)
        q
        ∙ ap (λ (held : Entries). at_path held q) (λ i e.
        table_held m.entries (entry_op_at ops) n (length m.homes + length (directories_made ops)) has tree
        (legal_entries t.version m ops micro_legal legal.are)
        (inr (fixed t.version m ops micro_legal legal.are early.version)) (few t.version m ops micro_legal legal.are)
        (inside ops (needs_of (micros_in t)) n places allowed) (entries_closed ops syncs t.version (profile_of t.version) n places allowed)
        n (omega arith) e i)
      where
        deep : length (state_of (start_state t) ops places).directories ≡ length m.homes + length (directories_made ops)
        deep = long_left (start_state t) m ops syncs t.version (profile_of t.version) places tree refl legal.are as_many micro_legal allowed

        table : (state_of (start_state t) ops places).entries ≡ table_of has m.entries (entry_op_at ops) n
        table = entries_left (start_state t) m ops syncs t.version (profile_of t.version) places tree refl legal.are as_many micro_legal
            allowed

    states : crash_state_of t (micros_in t) places ≡ before.crash_state_of (trace_before t) (micros_before.micros_in (trace_before t))
        places
    unfolding state_of before.state_of
    states =
        trees_alike (fold state_after first members) (fold after_before old members) (nodes_left (fold state_after first members))
        left_entries
        (without_links t.version m ops micro_legal legal.are tree early.version used whole has has_needs no_links n (omega arith))
        leads_left left_alike (files_alike first old files_same members) (owners_alike first old owners_same members)
        ∙ ap before.tree_of_state (sym (same_fold old ops places))
        ∙ ap (λ (x : micros_before.Micros). before.crash_state_of (trace_before t) x places) broken

  pub as_before : IsAsBefore t
  as_before = record { chains = chains; states = states }
