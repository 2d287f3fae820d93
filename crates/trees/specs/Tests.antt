-- The refusals of each call that its arguments and the shelf decide, in number order.
use Rattle.std.specs.Prelude.{◌≡◌, ℕ, suc, ◌+◌, Bool, true, false, if◌then◌else◌, not, ◌&&◌, ◌||◌, List, [], ◌∷◌, length, Some, None, Option, ◌==◌, nat_eq, nat_le, nat_lt}
use Rattle.names.specs.Names.{good_name}
use Rattle.rules.specs.Meaning.{Meaning}
use Rattle.trees.specs.declared.codes.Refusal.{Refusal}
use Rattle.trees.specs.declared.codes.Refusal.TheVariants.{Lent, Slot, Empty, Taken, Same, Path, Kind, Index, Name, Leaf, Depth, Room, MarkOpen, NoMark}
use Rattle.trees.specs.declared.head.Head.{Head}
use Rattle.trees.specs.Tree.{Tree, node, Forest, empty, code, named, unnamed, count, height, most_levels}
use Rattle.trees.specs.Place.{find}
use Rattle.trees.specs.State.{State, slot, nodes, free_cells, fit_sizes}
use Rattle.trees.specs.Calls.{Call, new_leaf, new_node, insert, push, put_at, remove_at, set_variant, copy, drop_tree, lay, lay_whole, ask_equal, ask_compare, ask_hash, index_of, look, name_at, mark, keep, roll_back, Outcome, refused}

-- a test that refuses if it holds, and the refusal
pub record Test : Type 0 where
  pub bad : Bool
  pub refusal : Refusal

-- if the test holds, the call is refused so
abbrev pub ◌by◌ : Bool → Refusal → Test
bad by r = record { bad = bad; refusal = r }

infix 70 ◌by◌
-- the first test that holds refuses, with nothing changed; if none does, the outcome stands
abbrev pub unless : State → List ℕ → List Test → Outcome → Outcome
unless s row [] o = o
unless s row (t ∷ ts) o = if t.bad then refused s t.refusal row else unless s row ts o

-- every test was passed
abbrev pub Passed : List Test → Type 0
Passed [] = Unit {0}
Passed (t ∷ ts) = (t.bad ≡ false) × Passed ts

-- a slot over 15
abbrev pub over : ℕ → Bool
over i = nat_lt 15 i

-- there is none
abbrev pub is_none : {A : Type 0} → Option A → Bool
is_none None = true
is_none (Some x) = false

-- there is one
abbrev pub is_some : {A : Type 0} → Option A → Bool
is_some None = false
is_some (Some x) = true

-- the slot is empty
abbrev pub vacant : State → ℕ → Bool
vacant s i = is_none (slot s.slots i)

-- the slot holds a tree
abbrev pub taken : State → ℕ → Bool
taken s i = is_some (slot s.slots i)

-- the node at the path in the slot
abbrev pub node_at : State → ℕ → List ℕ → Option Tree
node_at s i path = find (slot s.slots i) path

-- the node is not one that the call works on
abbrev pub unfit : (Head → Bool) → Option Tree → Bool
unfit test None = true
unfit test (Some (node h f)) = not (test h)

-- the children of the node, if there is one
abbrev pub children : Option Tree → Forest
children None = empty
children (Some (node h f)) = f

-- the levels of a slot's tree
abbrev pub levels_of : Option Tree → ℕ
levels_of None = 0
levels_of (Some t) = height t

-- the tree of slot j, put under the node at the path, would have a 17th level: that node's level is the path's length and 1
abbrev pub too_deep : State → List ℕ → ℕ → Bool
too_deep s path j = nat_lt most_levels (suc (length path) + levels_of (slot s.slots j))

-- a code 1 to 6
abbrev pub node_code : ℕ → Bool
node_code n = nat_le 1 n && nat_le n 6

-- a code 4 to 6
abbrev pub enum_code : ℕ → Bool
enum_code n = nat_le 4 n && nat_le n 6

-- the node is an enum
abbrev pub is_enum : Head → Bool
is_enum h = enum_code (code h)

-- the node is a List
abbrev pub is_list : Head → Bool
is_list h = code h == 3

-- the node is a Struct or a List
abbrev pub struct_or_list : Head → Bool
struct_or_list h = code h == 1 || code h == 3

-- a path row under 15 positions
abbrev pub short_path_row : List ℕ → Bool
short_path_row row = nat_lt (length row) 15

-- a name row under 32 bytes
abbrev pub short_name_row : List ℕ → Bool
short_name_row row = nat_lt (length row) 32

-- the refusal of the call that tests the lent sizes
abbrev pub size_tests : ℕ → ℕ → List Test
size_tests cells saved = not (fit_sizes cells saved) by Lent ∷ []

-- the refusals of each call, in number order
abbrev pub tests : Meaning → State → Call → List Test
tests m s (new_leaf i tag value) =
    over i by Slot ∷
    taken s i by Taken ∷
    not (m.admits (record { tag = tag; value = value })) by Leaf ∷
    nat_le (free_cells s) 0 by Room ∷
    []
tests m s (new_node i n name index) =
    over i by Slot ∷
    taken s i by Taken ∷
    not (node_code n) by Kind ∷
    (enum_code n && not (good_name name)) by Name ∷
    nat_le (free_cells s) 0 by Room ∷
    []
tests m s (insert i path j name) =
    (over i || over j) by Slot ∷
    (vacant s i || vacant s j) by Empty ∷
    nat_eq i j by Same ∷
    is_none (node_at s i path) by Path ∷
    unfit named (node_at s i path) by Kind ∷
    not (good_name name) by Name ∷
    too_deep s path j by Depth ∷
    []
tests m s (push i path j) =
    (over i || over j) by Slot ∷
    (vacant s i || vacant s j) by Empty ∷
    nat_eq i j by Same ∷
    is_none (node_at s i path) by Path ∷
    unfit unnamed (node_at s i path) by Kind ∷
    too_deep s path j by Depth ∷
    []
tests m s (put_at i path j index) =
    (over i || over j) by Slot ∷
    (vacant s i || vacant s j) by Empty ∷
    nat_eq i j by Same ∷
    is_none (node_at s i path) by Path ∷
    unfit is_list (node_at s i path) by Kind ∷
    nat_lt (count (children (node_at s i path))) index by Index ∷
    too_deep s path j by Depth ∷
    []
tests m s (remove_at i path j index) =
    (over i || over j) by Slot ∷
    vacant s i by Empty ∷
    taken s j by Taken ∷
    is_none (node_at s i path) by Path ∷
    unfit struct_or_list (node_at s i path) by Kind ∷
    nat_le (count (children (node_at s i path))) index by Index ∷
    []
tests m s (set_variant i path n name index) =
    over i by Slot ∷
    vacant s i by Empty ∷
    is_none (node_at s i path) by Path ∷
    (unfit is_enum (node_at s i path) || not (enum_code n)) by Kind ∷
    not (good_name name) by Name ∷
    []
tests m s (copy i j) =
    (over i || over j) by Slot ∷
    vacant s i by Empty ∷
    taken s j by Taken ∷
    nat_lt (free_cells s) (nodes (slot s.slots i)) by Room ∷
    []
tests m s (drop_tree i) =
    over i by Slot ∷
    vacant s i by Empty ∷
    []
tests m s (lay i j row) =
    short_path_row row by Lent ∷
    (over i || over j) by Slot ∷
    (vacant s i || vacant s j) by Empty ∷
    nat_eq i j by Same ∷
    []
tests m s (lay_whole i j row) =
    short_path_row row by Lent ∷
    (over i || over j) by Slot ∷
    (vacant s i || vacant s j) by Empty ∷
    nat_eq i j by Same ∷
    is_some s.saved by MarkOpen ∷
    []
tests m s (ask_equal i j) =
    (over i || over j) by Slot ∷
    (vacant s i || vacant s j) by Empty ∷
    []
tests m s (ask_compare i j) =
    (over i || over j) by Slot ∷
    (vacant s i || vacant s j) by Empty ∷
    []
tests m s (ask_hash i) =
    over i by Slot ∷
    vacant s i by Empty ∷
    []
tests m s (index_of i path name) =
    over i by Slot ∷
    vacant s i by Empty ∷
    is_none (node_at s i path) by Path ∷
    not (good_name name) by Name ∷
    []
tests m s (look i path row) =
    short_name_row row by Lent ∷
    over i by Slot ∷
    vacant s i by Empty ∷
    is_none (node_at s i path) by Path ∷
    []
tests m s (name_at i path index row) =
    short_name_row row by Lent ∷
    over i by Slot ∷
    vacant s i by Empty ∷
    is_none (node_at s i path) by Path ∷
    nat_le (count (children (node_at s i path))) index by Index ∷
    []
tests m s mark = is_some s.saved by MarkOpen ∷ []
tests m s keep = is_none s.saved by NoMark ∷ []
tests m s roll_back = is_none s.saved by NoMark ∷ []
