-- The files of an overlay by number, over those of a lower tree.
use Rattle.std.specs.Prelude.{◌≡◌, ◌≢◌, ◌≤◌, ◌<◌, ◌+◌, ◌^◌, ◌==◌, ℕ, cond, List, [], Option, None}
use Rattle.std.specs.Prelude.{Some, IsSome, unwrap_or}
use Rattle.std.specs.Option.{option_map, option_map_or}
use Rattle.std.specs.FinMap.{get, insert}
use Rattle.cs_tree_model.specs.declared.change.Stamp.{Stamp}
use Rattle.cs_tree_model.specs.declared.record.Record.{Record}
use Rattle.cs_tree_model.specs.declared.record.MetadataBuf.{MetadataBuf}
use Rattle.cs_tree_model.specs.Laws.Counts.{count_below}
use Rattle.cs_tree_model.specs.Lookups.{Lookup, IsIndexed}
use Rattle.cs_tree_model.specs.Record.{kind_of, metadata_of, metadata_with_attributes}
use Rattle.cs_tree_model.specs.Record.{metadata_with_stamp, record_of}
use Rattle.cs_tree_model.specs.Table as table
use Rattle.cs_tree_model.specs.Table.{Nodes, node_in}
use Rattle.cs_tree_model.specs.Tree.{IsTree, NameBytes, Tree, content_numbered, name_numbered}
use Rattle.cs_tree_model.specs.Tree.{number_in, parent_numbered, record_numbered}
use Rattle.cs_overlay.specs.declared.node.Body.{Body}
use Rattle.cs_overlay.specs.declared.node.Body.TheVariants.{Directory, File}
use Rattle.cs_overlay.specs.declared.node.Node.{Node}
use Rattle.cs_overlay.specs.Files.{file_bytes, NothingHidden}

-- the overlay's entry at each number: none, a removed file's, or a node
abbrev pub Upper : Type 0
Upper = ℕ → Option (Option Node)

-- ---- a node over the lower file of its number, of which `low` are the bytes

abbrev pub content_over : Option (List ℕ) → Body → Option (List ℕ)
content_over low (Directory names) = None
content_over low (File p) = Some (file_bytes (unwrap_or low []) p)

-- what was cut off shows no more
abbrev pub HidesPast : Option (List ℕ) → Body → Type 0
HidesPast low (Directory names) = Unit {0}
HidesPast low (File p) = NothingHidden (unwrap_or low []) p

-- a node as the model has it; the root's name is empty there
abbrev pub shape_over : Option (List ℕ) → Node → table.Node
shape_over low node = record {
  parent = node.parent;
  name = unwrap_or node.name [];
  file = record_of node.metadata (content_over low node.body);
}

-- a node's metadata say its kind, and each node but the root has a name
pub record IsNode (low : Option (List ℕ)) (number : ℕ) (node : Node) : Type 0 where
  pub kind : node.metadata.kind ≡ kind_of (content_over low node.body)
  pub named : number ≢ 0 → IsSome node.name
  pub hides : HidesPast low node.body

-- the directory's own answer for a name: none, that no file has it, or which file has it
abbrev pub own_in : Body → NameBytes → Option (Option ℕ)
own_in (Directory names) name = get names name
own_in (File p) name = None

-- the number of the file of that name: the directory's own answer, or else the tree's
abbrev pub said_over : Tree → ℕ → NameBytes → Option (Option ℕ) → Option ℕ
said_over tree directory name said = option_map_or (λ o. o) said (number_in tree directory name)

-- ---- what an entry of the overlay makes of a number

abbrev pub layer_at : Tree → ℕ → Option (Option Node) → Option table.Node
layer_at tree number None = node_in tree number
layer_at tree number (Some o) = option_map (shape_over (content_numbered tree number)) o

abbrev pub found_at : Tree → ℕ → NameBytes → Option (Option Node) → Option ℕ
found_at tree directory name None = number_in tree directory name
found_at tree directory name (Some None) = None
found_at tree directory name (Some (Some d)) = said_over tree directory name (own_in d.body name)

abbrev pub metadata_at : Tree → ℕ → Option (Option Node) → Option MetadataBuf
metadata_at tree number None = option_map metadata_of (record_numbered tree number)
metadata_at tree number (Some None) = None
metadata_at tree number (Some (Some d)) = Some d.metadata

abbrev pub parent_at : Tree → ℕ → Option (Option Node) → Option ℕ
parent_at tree number None = parent_numbered tree number
parent_at tree number (Some None) = None
parent_at tree number (Some (Some d)) = Some d.parent

abbrev pub own_name_at : Tree → ℕ → Option (Option Node) → Option NameBytes
own_name_at tree number None = name_numbered tree number
own_name_at tree number (Some None) = None
own_name_at tree number (Some (Some d)) = d.name

abbrev pub content_at : Tree → ℕ → Option (Option Node) → Option (List ℕ)
content_at tree number None = content_numbered tree number
content_at tree number (Some None) = None
content_at tree number (Some (Some d)) = content_over (content_numbered tree number) d.body

-- ---- the whole

-- the table of the overlay's files over a tree's
abbrev pub layers : Tree → Upper → Nodes
layers tree upper n = layer_at tree n (upper n)

-- the number of the file of that name in the directory
abbrev pub layered_lookup : Tree → Upper → Lookup
layered_lookup tree upper u x = found_at tree u x (upper u)

abbrev pub AreNodes : Tree → Upper → Type 0
AreNodes tree upper =
    (n : ℕ) (d : Node) → upper n ≡ Some (Some d) → IsNode (content_numbered tree n) n d

-- the overlay's files over a tree make a tree, which gives no number again
pub record IsOver (t : Tree) (upper : Upper) (next count : ℕ) : Type 0 where
  pub tree : IsTree t
  pub above : t.next ≤ next
  pub indexed : IsIndexed (layers t upper) (layered_lookup t upper) next
  pub nodes : AreNodes t upper
  pub counted : count ≡ count_below (layers t upper) next

-- ---- growths that no read shows

-- the overlay after it shows the same, with nodes perhaps where it had none
pub record SameLayers (tree : Tree) (upper after : Upper) : Type 0 where
  pub layer : (n : ℕ) → layers tree after n ≡ layers tree upper n
  pub finds : (u : ℕ) (x : NameBytes)
      → layered_lookup tree after u x ≡ layered_lookup tree upper u x
  pub nodes : AreNodes tree upper → AreNodes tree after

-- the overlay has a node for the number
abbrev pub HasNode : Upper → ℕ → Type 0
HasNode upper number = (d : Node) × (upper number ≡ Some (Some d))

-- if the overlay had a node for a number, it has one after it
abbrev pub KeepsNodes : Upper → Upper → Type 0
KeepsNodes upper after = (n : ℕ) → HasNode upper n → HasNode after n

-- a node that shows what the lower tree has at the number
pub record IsCopy (tree : Tree) (number : ℕ) (d : Node) : Type 0 where
  pub shape : node_in tree number ≡ Some (shape_over (content_numbered tree number) d)
  pub node : IsNode (content_numbered tree number) number d
  pub own : (x : NameBytes) → own_in d.body x ≡ None

-- the node of a file that the lower tree doesn't have
pub record IsNewFile (parent : ℕ) (name : NameBytes) (file : Record) (d : Node) : Type 0 where
  pub shape : shape_over None d ≡ record { parent = parent; name = name; file = file }
  pub node : (n : ℕ) → IsNode None n d
  pub own : (x : NameBytes) → own_in d.body x ≡ None

-- ---- one node after a step

-- a directory with the answer o for the name
abbrev pub body_with : Body → NameBytes → Option ℕ → Body
body_with (Directory names) name o = Directory (insert names name o)
body_with (File p) name o = File p

abbrev pub with_answer : Node → NameBytes → Option ℕ → Node
with_answer node name o = record node { body = body_with node.body name o }

-- a node that was stamped
abbrev pub with_stamp : Node → Stamp → Node
with_stamp node stamp = record node { metadata = metadata_with_stamp node.metadata stamp }

-- a node under another name
abbrev pub with_name : Node → NameBytes → Node
with_name node name = record node { name = Some name }

-- a file with the attributes that are given
abbrev pub with_attributes : Node → Option ℕ → Option (List ℕ) → Option ℕ → Node
with_attributes node mode group mtime = record node {
  metadata = metadata_with_attributes node.metadata mode group mtime;
}

-- e is the file d with f of its record, and has the same answers for names
pub record IsStep (low : Option (List ℕ)) (number : ℕ) (f : Record → Record)
    (d e : Node) : Type 0 where
  pub shape : shape_over low e ≡ table.with_file (shape_over low d) (f (shape_over low d).file)
  pub own : (x : NameBytes) → own_in e.body x ≡ own_in d.body x
  pub name : e.name ≡ d.name
  pub node : IsNode low number d → IsNode low number e

-- ---- the overlay after a step

-- with the slot at the number
abbrev pub with_at : Upper → ℕ → Option (Option Node) → Upper
with_at upper number slot asked = cond (number == asked) slot (upper asked)

-- with f of the node of the number, if it is there
abbrev pub step_at : Upper → ℕ → (Node → Node) → Upper
step_at upper number f = with_at upper number (option_map (option_map f) (upper number))

-- both answer the same
abbrev pub SameNodes : Upper → Upper → Type 0
SameNodes upper after = (q : ℕ) → after q ≡ upper q

-- after it the overlay has at the number the same file, with f of its record
pub record StepsAt (tree : Tree) (number : ℕ) (f : Record → Record)
    (upper after : Upper) : Type 0 where
  pub was : Node
  pub here : upper number ≡ Some (Some was)
  pub is : Node
  pub step : IsStep (content_numbered tree number) number f was is
  pub goes : SameNodes (with_at upper number (Some (Some is))) after

-- the version of the node can grow
abbrev pub CanStampNode : Upper → ℕ → Type 0
CanStampNode upper number = (d : Node) → upper number ≡ Some (Some d) → d.metadata.vers + 1 < 2 ^ 32

-- if a length is given, the node is a file
abbrev pub IsFileIf : Option ℕ → Tree → Upper → ℕ → Type 0
IsFileIf length tree upper number =
    (d : Node) → upper number ≡ Some (Some d) → IsSome length
    → IsSome (content_over (content_numbered tree number) d.body)

-- the directory has its own answers for both names
abbrev pub SaysBoth : Upper → ℕ → NameBytes → NameBytes → Type 0
SaysBoth upper directory x y =
    (d : Node) × (upper directory ≡ Some (Some d)) × IsSome (own_in d.body x)
    × IsSome (own_in d.body y)
