-- What the list of inputs is, by its options.
use Rattle.std.specs.Prelude.{◌≡◌, ◌||◌, ◌++◌, ℕ, Bool, true, false, List, length, slice_index}
use Rattle.std.specs.Prelude.{Option}
use Rattle.std.specs.List.{All, enumerate_from, flat_map}
use Rattle.cs_sets.specs.Orders.{needs_in}
use Rattle.cs_apm.specs.Rules.{op_at}
use Rattle.cs_list.specs.Json.{op_line, state_line}
use Rattle.cs_list.specs.Lines.{lines_of}
use Rattle.cs_list.specs.Paths.{IsPathAt}
use Rattle.cs_picks.specs.Families.{least_with}
use Rattle.cs_plan.specs.Plans.{set_in}
use Rattle.cs_list.specs.Profiles.{HasProfiles}
use Rattle.cs_list.specs.declared.profiles.Profiles.{Profiles}
use Rattle.cs_same_states.specs.Firsts.{AreFirsts}
use Rattle.cs_inputs.specs.Scenes.{IsScene, IsSceneWith}
use Rattle.cs_inputs.specs.declared.inputs.Inputs.{Inputs}
use Rattle.cs_options.specs.declared.list.ListOptions.{ListOptions}
use Rattle.cs_plan.specs.Lists.{list_text, recipe_at, says_by}
use Rattle.cs_plan.specs.Scenes.{Scene, micros_of, order_in}

-- ---- the scene

abbrev pub asks_family : ListOptions → Bool
asks_family options = options.lost || options.files

-- the scene of the inputs, with more picks if a family is asked for
abbrev pub IsSceneIf : Bool → Inputs → Scene → Type 0
IsSceneIf false inputs scene = IsScene inputs scene
IsSceneIf true inputs scene = (more : List (List ℕ)) × IsSceneWith inputs more scene

-- the scene that is listed
abbrev pub IsListed : Inputs → ListOptions → Scene → Type 0
IsListed inputs options scene = IsSceneIf (asks_family options) inputs scene

-- ---- lines of JSON

-- the object of the micro-operation at a place, with its line of the trace and a path of its file
abbrev pub op_object : Scene → List ℕ → ℕ × Option (List (List ℕ)) → List ℕ
op_object s lines e =
    op_line s.trace.version e.0 (op_at (micros_of s).ops e.0) e.1 (slice_index lines e.0)
    (least_with (needs_in (order_in s)) e.0)

-- the objects of all micro-operations
abbrev pub op_objects : Scene → List ℕ → List (Option (List (List ℕ))) → List ℕ
op_objects s lines paths = flat_map (op_object s lines) (enumerate_from 0 paths)

-- the object of the state of a number, which has these profiles, with the first state that has its
-- tree
abbrev pub state_object : Scene → List ℕ → ℕ × Profiles → List ℕ
state_object s firsts e =
    state_line e.0 (recipe_at s e.0) (says_by s (recipe_at s e.0)) (slice_index firsts e.0) e.1

-- the objects of all states
abbrev pub state_objects : Scene → List ℕ → List Profiles → List ℕ
state_objects s firsts profiles = flat_map (state_object s firsts) (enumerate_from 0 profiles)

-- the profiles are those of the state of a number
abbrev pub AreProfilesOf : Scene → ℕ → Profiles → Type 0
AreProfilesOf s number profiles =
    HasProfiles (micros_of s) (set_in (order_in s) (recipe_at s number)) profiles

-- the text is the objects of the first micro-operations, each with its path
pub record AreObjects (s : Scene) (lines : List ℕ) (count : ℕ) (text : List ℕ) : Type 0 where
  pub paths : List (Option (List (List ℕ)))
  pub long : length paths ≡ count
  pub each : All (λ (e : ℕ × Option (List (List ℕ))). IsPathAt s e.0 e.1) (enumerate_from 0 paths)
  pub spelled : text ≡ op_objects s lines paths

-- the text is the objects of the first states, each with its profiles
pub record AreStateObjects (s : Scene) (firsts : List ℕ) (count : ℕ) (text : List ℕ) : Type 0 where
  pub profiles : List Profiles
  pub long : length profiles ≡ count
  pub each : All (λ (e : ℕ × Profiles). AreProfilesOf s e.0 e.1) (enumerate_from 0 profiles)
  pub spelled : text ≡ state_objects s firsts profiles

-- the text is the objects of all micro-operations and of all states, with the line of each
-- micro-operation, and a state with an equal tree for each state
pub record IsJson (trace : List ℕ) (s : Scene) (text : List ℕ) : Type 0 where
  pub objects : List ℕ
  pub states : List ℕ
  pub firsts : List ℕ
  pub are_objects : AreObjects s (lines_of trace s.trace) (length (micros_of s).ops) objects
  pub are_states : AreStateObjects s firsts (length s.plan) states
  pub are_firsts : AreFirsts s firsts
  pub spelled : text ≡ objects ++ states

-- ---- the text

-- an option asks for more in a line, or for JSON
abbrev pub is_marked : ListOptions → Bool
is_marked options = options.lines || (options.same || options.json)

-- the text of a scene's list; of the plain list with lines and equal states nothing is said
pub record IsText (options : ListOptions) (trace : List ℕ) (scene : Scene) (text : List ℕ)
    : Type 0 where
  pub plain : is_marked options ≡ false → text ≡ list_text scene
  pub json : options.json ≡ true → IsJson trace scene text

-- the text of the inputs' list
pub record IsListing (inputs : Inputs) (options : ListOptions) (text : List ℕ) : Type 0 where
  pub scene : Scene
  pub listed : IsListed inputs options scene
  pub spelled : IsText options inputs.trace.now scene text
