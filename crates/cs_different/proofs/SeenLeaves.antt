-- What is seen of an allowed set leaves what the set leaves.
use Rattle.std.proofs.Common.{◌≡◌, ℕ, zero, suc, ◌+◌, ◌<◌, ◌≤◌, Bool, true, false, cond, Option, None, Some}
use Rattle.std.proofs.Common.{List, refl, sym, ap, ◌∙◌, subst, arith, ⊎_elim, length, get_or, fold, map}
use Rattle.std.proofs.lemmas.Bool.{cases_Bool, cases_lt, false≢true}
use Rattle.std.specs.FinMap.{get, same_map}
use Rattle.std.specs.Option.{option_map}
use Rattle.cs_tree_model.specs.declared.mode.TheConstants.{DMDIR}
use Rattle.cs_tree_model.specs.Fresh.{fresh}
use Rattle.cs_tree_model.specs.Laws.Paths.{path_exact, path_total}
use Rattle.cs_tree_model.specs.Maps.Values.{get-map_values}
use Rattle.cs_tree_model.specs.Tree.{Path, path_cmp}
use Rattle.cs_entries.specs.declared.entry.Entry.{Entry}
use Rattle.cs_entries.specs.declared.node.Node.{Node}
use Rattle.cs_entries.specs.declared.node.Node.TheVariants.{Directory, File}
use Rattle.cs_entries.specs.Tables.{Table, paths_in}
use Rattle.cs_start.specs.declared.rights.Rights.{Rights}
use Rattle.cs_micro.specs.declared.micro_op.MicroOp.{MicroOp}
use Rattle.cs_micro.specs.declared.micro_op.MicroOp.TheVariants.{ChangeFileSize}
use Rattle.cs_micro.specs.declared.micro_op.MicroOp.TheVariants.{WriteBlock}
use Rattle.cs_apm.specs.Atlases.{content_before}
use Rattle.cs_apm.specs.Contents.{changes_file, content_after, content_after_op}
use Rattle.cs_apm.specs.Owners.{owner_after}
use Rattle.cs_apm.specs.Rules.{op_at}
use Rattle.cs_sets.specs.Sets.{is_member}
use Rattle.cs_apm.specs.States.{Content, State, directories_after, entries_after, kind_bit, no_content, no_rights, nodes_left, record_of}
use Rattle.cs_apm.specs.States.{records_of, start_state, state_after, state_of, visible, with_created, record_with}
use Rattle.cs_apm.specs.Laws.Members.{run}
use Rattle.cs_plan.specs.Scenes.{Scene, is_say, micros_of, says_of}
use Rattle.cs_same_states.specs.Reaching.{changed_file}
use Rattle.cs_same_states.specs.Slots.{file_in}
use Rattle.cs_same_states.proofs.Bytes.{same_visible}
use Rattle.cs_sets.specs.Following.{chosen}
use Rattle.cs_different.specs.Sets.{IsLeavable, LeaveSame, says_left, tree_left}
use Rattle.cs_different.specs.Wants.{IsGrower, IsMaker, Wants, WantsGrower, WantsMaker}
use Rattle.cs_different.proofs.Bytes.{AreSameBelow, after_same, past_same, same_itself}
use Rattle.cs_different.proofs.Counting.{count_less}
use Rattle.cs_different.proofs.Dropping.{changes_changed, idle_directories, idle_entries, idle_owner, idle_say, maker_idle, number_is}
use Rattle.cs_different.proofs.Files.{directories_at, entries_at, file_at, no_file, no_owner, owner_at}
use Rattle.cs_different.proofs.Named.{held_somewhere}
use Rattle.cs_different.proofs.Running.{chosen_run, run_less, seen_by, seen_has, unseen_lacks}
use Rattle.cs_different.proofs.Sizes.{sizes_small}
use Rattle.cs_different.proofs.Unnamed.{unnamed_run}

module _ (s : Scene) (wants : ℕ → ℕ → Bool) (are : (z k : ℕ) → wants z k ≡ true → Wants s z k) (places : List ℕ)
    (allowed : IsLeavable s places) where
  abbrev ops : List MicroOp
  ops = (micros_of s).ops

  abbrev n : ℕ
  n = length ops

  abbrev start : State
  start = with_created (start_state s.trace) ops

  abbrev has : ℕ → Bool
  has = is_member places

  abbrev seen : ℕ → Bool
  seen = seen_by wants has n

  -- a place that isn't seen wants one that isn't
  dropped : (k : ℕ) → k < n → has k ≡ true → seen k ≡ false → (z : ℕ) × (z < n) × (seen z ≡ false) × Wants s z k
  dropped k low t f =
      let w = unseen_lacks wants has n k low t f in
      let l = w.1 in
      (w.0, omega (arith, l, low), w.3, are w.0 k w.2)

  wants_file : (z k : ℕ) → Wants s z k → (f : ℕ) × (changed_file (op_at ops k) ≡ Some f)
  wants_file z k w = ⊎_elim
      (λ (a : WantsMaker s z k). (a.file, a.changes))
      (λ (b : WantsGrower s z k). (b.file, ap changed_file b.writes))
      w.1

  changes_something : (k : ℕ) → k < n → has k ≡ true → seen k ≡ false → (f : ℕ) × (changed_file (op_at ops k) ≡ Some f)
  changes_something k low t f = (let d = dropped k low t f in wants_file d.0 k d.3)

  -- what makes a file is seen
  maker_seen : (f z : ℕ) → z < n → IsMaker (start_state s.trace).entries ops f z → has z ≡ true → seen z ≡ true
  maker_seen f z low maker t = ⊎_elim
      (λ (yes : seen z ≡ true). yes)
      (λ (none : seen z ≡ false). (let c = changes_something z low t none in absurd (maker_idle (op_at ops z) f c.0 maker.made c.1)))
      (cases_Bool (seen z))

  -- ---- entries and directories

  pub entries_same : run entries_after seen start.entries ops n ≡ run entries_after has start.entries ops n
  entries_same =
      run_less entries_after seen has start.entries ops n (λ i low t. seen_has wants has n i low t)
      (λ i low t f m. (let c = changes_something i low t f in idle_entries (op_at ops i) c.0 c.1 m))

  pub directories_same : run directories_after seen start.directories ops n ≡ run directories_after has start.directories ops n
  directories_same =
      run_less directories_after seen has start.directories ops n (λ i low t. seen_has wants has n i low t)
      (λ i low t f all. (let c = changes_something i low t f in idle_directories (op_at ops i) c.0 c.1 all))

  -- ---- a file that an entry holds

  module _ (f : ℕ) (entry : Entry) (named : file_in (get (run entries_after has start.entries ops n) entry) ≡ Some f) where
    maker_there : (z : ℕ) → IsMaker (start_state s.trace).entries ops f z → has z ≡ true
    maker_there z maker = ⊎_elim
        (λ (yes : has z ≡ true). yes)
        (λ (lacks : has z ≡ false). absurd (unnamed_run f has start.entries ops z maker lacks n entry named))
        (cases_Bool (has z))

    -- a place of the file that isn't seen writes past every size
    record IsPast (k : ℕ) : Type 0 where
      pub block : ℕ
      pub start' : ℕ
      pub at : ℕ
      pub bytes : List ℕ
      pub writes : op_at ops k ≡ WriteBlock f block start' at bytes
      pub place : ℕ
      pub grower : IsGrower (content_before s.trace ops f).size ops f (start' + at) place
      pub lacks : has place ≡ false

    past_maker : (k z : ℕ) → z < n → seen z ≡ false → changed_file (op_at ops k) ≡ Some f → WantsMaker s z k → ⊥
    past_maker k z low none changes w =
        let same : w.file ≡ f = number_is w.file f (sym w.changes ∙ changes) in
        let maker : IsMaker (start_state s.trace).entries ops f z =
        subst (λ v. IsMaker (start_state s.trace).entries ops v z) same w.maker in
        false≢true (sym none ∙ maker_seen f z low maker (maker_there z maker))

    past : (k : ℕ) → k < n → has k ≡ true → seen k ≡ false → changed_file (op_at ops k) ≡ Some f → IsPast k
    past k low t none changes =
        let d = dropped k low t none in
        ⊎_elim
        (λ (w : WantsMaker s d.0 k). absurd (past_maker k d.0 d.1 d.2 changes w))
        (λ (w : WantsGrower s d.0 k). grown d.0 d.1 d.2 w)
        d.3.1
      where
        grown : (z : ℕ) → z < n → seen z ≡ false → WantsGrower s z k → IsPast k
        grown z low none w =
            let same : w.file ≡ f = number_is w.file f (sym (ap changed_file w.writes) ∙ changes) in
            record {
              block = w.block;
              start' = w.start;
              at = w.at;
              bytes = w.bytes;
              writes = w.writes ∙ ap (λ v. WriteBlock v w.block w.start w.at w.bytes) same;
              place = z;
              grower = subst (λ v. IsGrower (content_before s.trace ops v).size ops v (w.start + w.at) z) same w.grower;
              lacks = ⊎_elim
                  (λ (yes : has z ≡ true). absurd (again z low none yes (ap changed_file w.grower.grows
                  ∙ ap Some same) w.grower.to w.grower.grows))
                  (λ (lacking : has z ≡ false). lacking)
                  (cases_Bool (has z));
            }
          where
            again : (z : ℕ) → z < n → seen z ≡ false → has z ≡ true → changed_file (op_at ops z) ≡ Some f → (to : ℕ) → {g : ℕ}
                → op_at ops z ≡ ChangeFileSize g to → ⊥
            again z low none t changes to grows =
                let d = dropped z low t none in
                ⊎_elim
                (λ (w : WantsMaker s d.0 z). past_maker z d.0 d.1 d.2 changes w)
                (λ (w : WantsGrower s d.0 z). (let e = sym grows ∙ w.writes in cc e))
                d.3.1

    pub owner_same : (r : Rights) → run (owner_after f) seen r ops n ≡ run (owner_after f) has r ops n
    owner_same r =
        run_less (owner_after f) seen has r ops n (λ i low t. seen_has wants has n i low t)
        (λ i low t none o. idle_owner (op_at ops i) f
        (λ changes. (let p = past i low t none changes in (p.block, p.start', p.at, p.bytes, p.writes))) o)

    module _ (c : Content) (sized : c.size ≡ (content_before s.trace ops f).size) where
      abbrev limit : ℕ
      limit = (run (content_after f) has c ops n).size

      below : (k : ℕ) → k ≤ n → AreSameBelow limit (run (content_after f) has c ops k) (run (content_after f) seen c ops k)
      below zero le = same_itself limit c
      below (suc k) le =
          let low : k < n = omega (arith, le) in
          let rest = below k (omega (arith, le)) in
          let a = run (content_after f) has c ops k in
          let b = run (content_after f) seen c ops k in
          let o = op_at ops k in
          ⊎_elim
          (λ (t : has k ≡ true). ⊎_elim
          (λ (yes : seen k ≡ true).
          subst (λ v. AreSameBelow limit (cond v (content_after f a o) a) (cond (seen k) (content_after f b o) b)) (sym t)
          (subst (λ v. AreSameBelow limit (content_after f a o) (cond v (content_after f b o) b)) (sym yes)
          (after_same f limit o a b rest)))
          (λ (none : seen k ≡ false).
          subst (λ v. AreSameBelow limit (cond v (content_after f a o) a) (cond (seen k) (content_after f b o) b)) (sym t)
          (subst (λ v. AreSameBelow limit (content_after f a o) (cond v (content_after f b o) b)) (sym none)
          (skipped k low t none a b rest)))
          (cases_Bool (seen k)))
          (λ (g : has k ≡ false).
          subst (λ v. AreSameBelow limit (cond v (content_after f a o) a) (cond (seen k) (content_after f b o) b)) (sym g)
          (subst (λ v. AreSameBelow limit a (cond v (content_after f b o) b)) (sym (unseen k low g)) rest))
          (cases_Bool (has k))
        where
          unseen : (k : ℕ) → k < n → has k ≡ false → seen k ≡ false
          unseen k low g = ⊎_elim
              (λ (yes : seen k ≡ true). absurd (false≢true (sym g ∙ seen_has wants has n k low yes)))
              (λ (none : seen k ≡ false). none)
              (cases_Bool (seen k))

          skipped : (k : ℕ) → k < n → has k ≡ true → seen k ≡ false → (a b : Content) → AreSameBelow limit a b
              → AreSameBelow limit (content_after f a (op_at ops k)) b
          skipped k low t none a b rest = ⊎_elim
              (λ (yes : changes_file f (op_at ops k) ≡ true).
              (let p = past k low t none (changes_changed (op_at ops k) f yes) in
              let high = sizes_small (micros_of s) n places allowed f (p.start' + p.at) p.place
              (content_before s.trace ops f).size p.grower p.lacks c sized n in
              subst (λ v. AreSameBelow limit (cond v (content_after_op a (op_at ops k)) a) b) (sym yes)
              (subst (λ o. AreSameBelow limit (content_after_op a o) b) (sym p.writes) (past_same limit
              (p.start' + p.at) p.bytes a b high rest))))
              (λ (other : changes_file f (op_at ops k) ≡ false).
              subst (λ v. AreSameBelow limit (cond v (content_after_op a (op_at ops k)) a) b) (sym other) rest)
              (cases_Bool (changes_file f (op_at ops k)))

      pub content_same : visible (run (content_after f) has c ops n) ≡ visible (run (content_after f) seen c ops n)
      content_same =
          let same = below n (omega arith) in
          same_visible (run (content_after f) has c ops n) (run (content_after f) seen c ops n) same.size same.bytes

  -- ---- the whole state

  module _ (listed : places ≡ chosen has n) where
    abbrev few : List ℕ
    few = chosen seen n

    abbrev all_left : State
    all_left = fold state_after start (map (op_at ops) places)

    abbrev few_left : State
    few_left = fold state_after start (map (op_at ops) few)

    all_entries : all_left.entries ≡ run entries_after has start.entries ops n
    all_entries =
        entries_at start (map (op_at ops) places) ∙ ap (λ v. fold entries_after start.entries (map (op_at ops) v)) listed
        ∙ chosen_run entries_after has start.entries ops n

    few_entries : few_left.entries ≡ run entries_after has start.entries ops n
    few_entries = entries_at start (map (op_at ops) few) ∙ chosen_run entries_after seen start.entries ops n ∙ entries_same

    same_entries : all_left.entries ≡ few_left.entries
    same_entries = all_entries ∙ sym few_entries

    same_directories : all_left.directories ≡ few_left.directories
    same_directories =
        directories_at start (map (op_at ops) places) ∙ ap (λ v. fold directories_after start.directories (map (op_at ops) v)) listed
        ∙ chosen_run directories_after has start.directories ops n
        ∙ sym (directories_at start (map (op_at ops) few) ∙ chosen_run directories_after seen start.directories ops n ∙ directories_same)

    visible_same : (f : ℕ) (entry : Entry) → file_in (get (run entries_after has start.entries ops n) entry) ≡ Some f
        → visible (get_or all_left.files f no_content) ≡ visible (get_or few_left.files f no_content)
    visible_same f entry named = ⊎_elim
        (λ (low : f < length start.files).
        (let c = get_or start.files f no_content in
        ap visible (file_at start ops places f low ∙ ap (λ v. fold (content_after f) c (map (op_at ops) v)) listed
        ∙ chosen_run (content_after f) has c ops n)
        ∙ content_same f entry named c refl
        ∙ sym (ap visible (file_at start ops few f low ∙ chosen_run (content_after f) seen c ops n))))
        (λ (high : length start.files ≤ f).
        ap visible (no_file start (map (op_at ops) places) f high ∙ sym (no_file start (map (op_at ops) few) f high)))
        (cases_lt f (length start.files))

    owners_same : (f : ℕ) (entry : Entry) → file_in (get (run entries_after has start.entries ops n) entry) ≡ Some f
        → get_or all_left.owners f no_rights ≡ get_or few_left.owners f no_rights
    owners_same f entry named = ⊎_elim
        (λ (low : f < length start.owners).
        (let r = get_or start.owners f no_rights in
        owner_at start (map (op_at ops) places) f low ∙ ap (λ v. fold (owner_after f) r (map (op_at ops) v)) listed
        ∙ chosen_run (owner_after f) has r ops n
        ∙ sym (owner_same f entry named r)
        ∙ sym (owner_at start (map (op_at ops) few) f low ∙ chosen_run (owner_after f) seen r ops n)))
        (λ (high : length start.owners ≤ f).
        no_owner start (map (op_at ops) places) f high ∙ sym (no_owner start (map (op_at ops) few) f high))
        (cases_lt f (length start.owners))

    node_same : (path : Path) (o : Option Node) → get (nodes_left all_left) path ≡ o
        → option_map (record_of all_left) o ≡ option_map (record_of few_left) o
    node_same path None at = refl
    node_same path (Some (Directory d)) at = λ i. Some (record_with (get_or (same_directories i) d no_rights) DMDIR None)
    node_same path (Some (File kind f)) at =
        (let held = held_somewhere all_left.entries (length all_left.directories + 1) path kind f at in
        let named : file_in (get (run entries_after has start.entries ops n) held.0) ≡ Some f =
        ap (λ (m : Table). file_in (get m held.0)) (sym all_entries) ∙ ap file_in held.1 in
        λ i. Some (record_with (owners_same f held.0 named i) (kind_bit kind) (Some (visible_same f held.0 named i))))

    same_nodes : nodes_left all_left ≡ nodes_left few_left
    same_nodes = λ i. paths_in (length (same_directories i) + 1) (same_entries i)

    records_same : records_of all_left ≡ records_of few_left
    records_same = same_map path_total path_exact _ _ (λ q.
        get-map_values path_cmp (record_of all_left) (nodes_left all_left) q
        ∙ node_same q (get (nodes_left all_left) q) refl
        ∙ ap (λ m. option_map (record_of few_left) (get m q)) same_nodes
        ∙ sym (get-map_values path_cmp (record_of few_left) (nodes_left few_left) q))

    trees_same : tree_left s places ≡ tree_left s few
    unfolding state_of
    trees_same = ap fresh records_same

    says_same : says_left s places ≡ says_left s few
    says_same =
        ap (says_of ops) listed
        ∙ sym (count_less (λ place. is_say (op_at ops place)) seen has n (λ i low t. seen_has wants has n i low t)
        (λ i low t f. (let c = changes_something i low t f in idle_say (op_at ops i) c.0 c.1)))

    pub seen_leaves : LeaveSame s places few
    seen_leaves = record { trees = trees_same; says = says_same }
