-- The home of each directory: the place of an entry that it may have, by whatever may have it.
use Rattle.std.proofs.Common.{◌≡◌, ◌≢◌, ℕ, zero, suc, ◌+◌, ◌<◌, ◌≤◌, List, [], ◌∷◌, None, Some, refl, sym, ap, ◌∙◌, subst, arith}
use Rattle.std.proofs.Common.{⊎_elim, length, replicate, get_or-set_same, get_or-set_other, length-set}
use Rattle.std.proofs.lemmas.Bool.{cases_eq}
use Rattle.std.proofs.lemmas.List.{length-replicate}
use Rattle.std.specs.Prelude.{fold, slice_set}
use Rattle.cs_entries.specs.declared.entry.Entry.{Entry}
use Rattle.cs_entries.specs.declared.node.Node.TheVariants.{Directory, File}
use Rattle.cs_entries.specs.Laws.One.{no_node}
use Rattle.cs_apm.specs.Slots.{Slot, entry_at, slot_at, step_at}
use Rattle.cs_apm.specs.declared.slot.Step.{Step}
use Rattle.cs_apm.specs.declared.slot.Step.TheVariants.{Set, Move, Other}
use Rattle.cs_paths.specs.Marks.{kept_at}
use Rattle.cs_paths.specs.PathOrders.{home_after, homes_from, homes_in, with_home}

-- ---- lengths

long_with : (homes : List ℕ) (place : ℕ) (s : Slot) → length (with_home homes place s) ≡ length homes
long_with homes place None = refl
long_with homes place (Some (Directory d)) = length-set homes d place
long_with homes place (Some (File kind file)) = refl

long_from : (homes : List ℕ) (place : ℕ) (ss : List Slot) → length (homes_from homes place ss) ≡ length homes
long_from homes place [] = refl
long_from homes place (s ∷ ss) = long_from (with_home homes place s) (place + 1) ss ∙ long_with homes place s

long_after : (homes : List ℕ) (steps : List Step) → length (fold home_after homes steps) ≡ length homes
long_after homes [] = refl
long_after homes (Set i s ∷ steps) = long_after (with_home homes i s) steps ∙ long_with homes i s
long_after homes (Move i j ∷ steps) = long_after homes steps
long_after homes (Other ∷ steps) = long_after homes steps

pub long_homes : (count : ℕ) (slots : List Slot) (steps : List Step) → length (homes_in count slots steps) ≡ count
long_homes count slots steps =
    long_after (homes_from (replicate count 0) 0 slots) steps ∙ long_from (replicate count 0) 0 slots ∙ length-replicate count 0

-- ---- places in range

-- they are below `most`; one past the end counts as 0
abbrev pub AreLow : ℕ → List ℕ → Type 0
AreLow most xs = (d : ℕ) → kept_at xs d < most

pub low_set : (most : ℕ) (xs : List ℕ) (c j : ℕ) → j < most → AreLow most xs → AreLow most (slice_set xs c j)
low_set most [] c j lt low d = low d
low_set most (x ∷ xs) zero j lt low zero = lt
low_set most (x ∷ xs) zero j lt low (suc d) = low (suc d)
low_set most (x ∷ xs) (suc c) j lt low zero = low 0
low_set most (x ∷ xs) (suc c) j lt low (suc d) = low_set most xs c j lt (λ k. low (suc k)) d

low_with : (most : ℕ) (homes : List ℕ) (place : ℕ) (s : Slot) → place < most → AreLow most homes → AreLow most (with_home homes place s)
low_with most homes place None lt low = low
low_with most homes place (Some (Directory c)) lt low = low_set most homes c place lt low
low_with most homes place (Some (File kind file)) lt low = low

low_from : (most : ℕ) (homes : List ℕ) (place : ℕ) (ss : List Slot) → place + length ss ≤ most → AreLow most homes
    → AreLow most (homes_from homes place ss)
low_from most homes place [] le low = low
low_from most homes place (s ∷ ss) le low =
    low_from most (with_home homes place s) (place + 1) ss (omega (arith, le)) (low_with most homes place s (omega (arith, le)) low)

-- what a step puts is put at a place in range
abbrev pub SetsLow : ℕ → Step → Type 0
SetsLow most (Set i s) = i < most
SetsLow most (Move i j) = j < most
SetsLow most Other = Unit {0}

low_after : (most : ℕ) (homes : List ℕ) (steps : List Step) → ((k : ℕ) → SetsLow most (step_at steps k)) → AreLow most homes
    → AreLow most (fold home_after homes steps)
low_after most homes [] all low = low
low_after most homes (Set i s ∷ steps) all low =
    low_after most (with_home homes i s) steps (λ k. all (suc k)) (low_with most homes i s (all 0) low)
low_after most homes (Move i j ∷ steps) all low = low_after most homes steps (λ k. all (suc k)) low
low_after most homes (Other ∷ steps) all low = low_after most homes steps (λ k. all (suc k)) low

low_zeros : (most count : ℕ) → 0 < most → AreLow most (replicate count 0)
low_zeros most zero lt d = lt
low_zeros most (suc count) lt zero = lt
low_zeros most (suc count) lt (suc d) = low_zeros most count lt d

pub low_homes : (most count : ℕ) (slots : List Slot) (steps : List Step) → 0 < most → length slots ≤ most
    → ((k : ℕ) → SetsLow most (step_at steps k)) → AreLow most (homes_in count slots steps)
low_homes most count slots steps some le all =
    low_after most (homes_from (replicate count 0) 0 slots) steps all
    (low_from most (replicate count 0) 0 slots (omega (arith, le)) (low_zeros most count some))

-- ---- what is at home

module _ (entries : List Entry) (May : ℕ → Entry → Type 0) where
  -- the directory's home may be its own
  abbrev Has : List ℕ → ℕ → Type 0
  Has homes d = May d (entry_at entries (kept_at homes d))

  -- what is put at the place may be there
  abbrev Fits : ℕ → Slot → Type 0
  Fits place s = (c : ℕ) → s ≡ Some (Directory c) → May c (entry_at entries place)

  noted : (homes : List ℕ) (place d : ℕ) (s : Slot) → Fits place s → s ≡ Some (Directory d) → d < length homes
      → Has (with_home homes place s) d
  noted homes place d s fits is low =
      subst (λ w. Has (with_home homes place w) d) (sym is)
      (subst (λ p. May d (entry_at entries p)) (sym (get_or-set_same homes d place 0 low)) (fits d is))

  keeps : (homes : List ℕ) (place d : ℕ) (s : Slot) → Fits place s → d < length homes → Has homes d → Has (with_home homes place s) d
  keeps homes place d None fits low has = has
  keeps homes place d (Some (Directory c)) fits low has = ⊎_elim
      (λ (e : d ≡ c). noted homes place d (Some (Directory c)) fits (ap (λ k. Some (Directory k)) (sym e)) low)
      (λ (e : d ≢ c). subst (λ p. May d (entry_at entries p)) (sym (get_or-set_other homes c d place 0 e)) has)
      (cases_eq d c)
  keeps homes place d (Some (File kind file)) fits low has = has

  -- ---- the slots of the start

  -- each directory that a slot has may be there; the first slot has this place
  abbrev pub AllFit : ℕ → List Slot → Type 0
  AllFit place ss = (i : ℕ) → Fits (place + i) (slot_at ss i)

  rest_fit : (place : ℕ) (s : Slot) (ss : List Slot) → AllFit place (s ∷ ss) → AllFit (place + 1) ss
  rest_fit place s ss all i c is =
      (let e : place + suc i ≡ place + 1 + i = omega arith in subst (λ p. May c (entry_at entries p)) e (all (suc i) c is))

  first_fits : (place : ℕ) (s : Slot) (ss : List Slot) → AllFit place (s ∷ ss) → Fits place s
  first_fits place s ss all c is =
      (let e : place + 0 ≡ place = omega arith in subst (λ p. May c (entry_at entries p)) e (all 0 c is))

  from_kept : (homes : List ℕ) (place d : ℕ) (ss : List Slot) → AllFit place ss → d < length homes → Has homes d
      → Has (homes_from homes place ss) d
  from_kept homes place d [] all low has = has
  from_kept homes place d (s ∷ ss) all low has =
      from_kept (with_home homes place s) (place + 1) d ss (rest_fit place s ss all)
      (subst (λ k. d < k) (sym (long_with homes place s)) low) (keeps homes place d s (first_fits place s ss all) low has)

  from_found : (homes : List ℕ) (place d i : ℕ) (ss : List Slot) → AllFit place ss → d < length homes
      → slot_at ss i ≡ Some (Directory d) → Has (homes_from homes place ss) d
  from_found homes place d i [] all low is = absurd (no_node (Directory d) is)
  from_found homes place d zero (s ∷ ss) all low is =
      from_kept (with_home homes place s) (place + 1) d ss (rest_fit place s ss all)
      (subst (λ k. d < k) (sym (long_with homes place s)) low) (noted homes place d s (first_fits place s ss all) is low)
  from_found homes place d (suc i) (s ∷ ss) all low is =
      from_found (with_home homes place s) (place + 1) d i ss (rest_fit place s ss all)
      (subst (λ k. d < k) (sym (long_with homes place s)) low) is

  -- ---- the steps

  abbrev pub StepFits : Step → Type 0
  StepFits (Set i s) = Fits i s
  StepFits (Move i j) = Unit {0}
  StepFits Other = Unit {0}

  step_kept : (homes : List ℕ) (d : ℕ) (step : Step) → StepFits step → d < length homes → Has homes d → Has (home_after homes step) d
  step_kept homes d (Set i s) fits low has = keeps homes i d s fits low has
  step_kept homes d (Move i j) fits low has = has
  step_kept homes d Other fits low has = has

  long_step : (homes : List ℕ) (step : Step) → length (home_after homes step) ≡ length homes
  long_step homes (Set i s) = long_with homes i s
  long_step homes (Move i j) = refl
  long_step homes Other = refl

  after_kept : (homes : List ℕ) (d : ℕ) (steps : List Step) → ((k : ℕ) → StepFits (step_at steps k)) → d < length homes → Has homes d
      → Has (fold home_after homes steps) d
  after_kept homes d [] all low has = has
  after_kept homes d (step ∷ steps) all low has =
      after_kept (home_after homes step) d steps (λ k. all (suc k)) (subst (λ k. d < k) (sym (long_step homes step)) low)
      (step_kept homes d step (all 0) low has)

  after_found : (homes : List ℕ) (d k i : ℕ) (steps : List Step) → ((k : ℕ) → StepFits (step_at steps k)) → d < length homes
      → step_at steps k ≡ Set i (Some (Directory d)) → Has (fold home_after homes steps) d
  after_found homes d k i [] all low is = absurd (cc)
  after_found homes d zero i (step ∷ steps) all low is =
      after_kept (home_after homes step) d steps (λ k. all (suc k)) (subst (λ k. d < k) (sym (long_step homes step)) low)
      (subst (λ w. Has (home_after homes w) d) (sym is)
      (noted homes i d (Some (Directory d)) (subst StepFits is (all 0)) refl low))
  after_found homes d (suc k) i (step ∷ steps) all low is =
      after_found (home_after homes step) d k i steps (λ k. all (suc k)) (subst (λ k. d < k) (sym (long_step homes step)) low) is

  -- ---- all

  module _ (count d : ℕ) (low : d < count) (slots : List Slot) (steps : List Step) (fit : AllFit 0 slots)
      (all : (k : ℕ) → StepFits (step_at steps k)) where
    low_first : d < length {A = ℕ} (replicate count 0)
    low_first = subst (λ k. d < k) (sym (length-replicate count 0)) low

    low_start : d < length {A = ℕ} (homes_from (replicate count 0) 0 slots)
    low_start = subst (λ k. d < k) (sym (long_from (replicate count 0) 0 slots)) low_first

    -- a directory of the start is where it may be
    pub home_first : (i : ℕ) → slot_at slots i ≡ Some (Directory d) → Has (homes_in count slots steps) d
    home_first i is =
        after_kept (homes_from (replicate count 0) 0 slots) d steps all low_start
        (from_found (replicate count 0) 0 d i slots fit low_first is)

    -- and so is one that a step puts there
    pub home_made : (k i : ℕ) → step_at steps k ≡ Set i (Some (Directory d)) → Has (homes_in count slots steps) d
    home_made k i is = after_found (homes_from (replicate count 0) 0 slots) d k i steps all low_start is
