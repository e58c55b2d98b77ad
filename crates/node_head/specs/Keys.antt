-- The keys of a head, and the reading of a number or a text at one.
use Rattle.std.specs.Prelude.{ℕ, ℤ, pos, negsuc, ◌+◌, ◌-◌, ◌&&◌, ◌||◌, nat_eq, nat_le, codes, Bool, List, ◌++◌, if◌then◌else◌, Option, Some, None, Ok, Err, unwrap_or, option_and_then}
use lib.Pointwise.{pointwise}
use Rattle.std.specs.Fmt.{decimal}
use Rattle.std.specs.declared.result.Result.{Result}
use Rattle.relay_base.specs.declared.limits.TheConstants.{POINT_CODES}
use Rattle.relay_base.specs.Giving.{◌>>=◌}
use Rattle.toml.specs.Data.{Data, Items, no_items, item, Members, no_members, member, get_member, as_integer, as_str, as_array, as_table}
use Rattle.node_head.specs.declared.fault.HeadFault.{HeadFault}
use Rattle.node_head.specs.declared.fault.HeadKind.TheVariants as kind
use Rattle.node_head.specs.declared.section.Bounds.{Bounds}
use Rattle.node_head.specs.declared.section.Place.{Place}
use Rattle.node_head.specs.declared.section.Place.TheVariants.{Top, Timers, Nth}
use Rattle.node_head.specs.declared.section.TableArray.{TableArray}
use Rattle.node_head.specs.declared.section.TableArray.TheVariants.{Rows, Replicates}
use Rattle.node_head.specs.Refusals.{fault, or_fault}

-- the key of an array of tables
abbrev pub array_key : TableArray → List ℕ
array_key Rows = codes "row"
array_key Replicates = codes "replicate"

-- a key as a fault names it
unfoldable pub path : Place → List ℕ → List ℕ
path Top key = key
path Timers key = codes "timers." ++ key
path (Nth array n) key = array_key array ++ (codes "." ++ (decimal n ++ (codes "." ++ key)))

-- the two texts are the same
abbrev pub same : List ℕ → List ℕ → Bool
same text other = pointwise nat_eq text other

-- the keys that are stated for each table
abbrev pub is_stated : Place → List ℕ → Bool
is_stated Top key =
    same key (codes "point") || same key (codes "users")
    || same key (codes "conn_lanes") || same key (codes "data_lanes") || same key (codes "links")
    || same key (codes "credit") || same key (codes "concerned") || same key (codes "timers")
    || same key (codes "row") || same key (codes "replicate") || same key (codes "short")
is_stated Timers key =
    same key (codes "connect") || same key (codes "ias") || same key (codes "iar") || same key (codes "rel")
    || same key (codes "repeat") || same key (codes "int") || same key (codes "reset") || same key (codes "reassembly")
    || same key (codes "freeze") || same key (codes "status") || same key (codes "status_max") || same key (codes "coord")
is_stated (Nth Rows n) key =
    same key (codes "gti") || same key (codes "tt") || same key (codes "np") || same key (codes "nai")
    || same key (codes "digits") || same key (codes "first") || same key (codes "second")
is_stated (Nth Replicates n) key = same key (codes "ssn") || same key (codes "point")

-- no key of the table is unknown, or the first one is the fault: the keys of a table ascend
unfoldable pub known_keys : Place → Members → Result (Unit {0}) HeadFault
known_keys place no_members = Ok tt
known_keys place (member key d ms) =
    if is_stated place key then known_keys place ms else Err (fault kind.Unknown (path place key))

-- the members of a table; none where it is no table
abbrev pub members_at : Option Data → Members
members_at d = unwrap_or (option_and_then as_table d) no_members

-- the items of an array; none where it is no array
abbrev pub items_at : Option Data → Items
items_at d = unwrap_or (option_and_then as_array d) no_items

-- the same of each table in an array, counted from this number
unfoldable pub known_tables : TableArray → ℕ → Items → Result (Unit {0}) HeadFault
known_tables array n no_items = Ok tt
known_tables array n (item d ds) = do
  known ← known_keys (Nth array n) (members_at (Some d))
  known_tables array (n + 1) ds

-- the tables of an array that stands at its key
abbrev pub known_array : TableArray → Members → Result (Unit {0}) HeadFault
known_array array ms = known_tables array 1 (items_at (get_member (array_key array) ms))

-- the keys of the timers
abbrev pub known_timers : Members → Result (Unit {0}) HeadFault
known_timers ms = known_keys Timers (members_at (get_member (codes "timers") ms))

-- no key is unknown: those of the top level first, then those of the timers, of each row, and of each replicate
unfoldable pub all_known : Members → Result (Unit {0}) HeadFault
all_known ms = do
  top ← known_keys Top ms
  timers ← known_timers ms
  rows ← known_array Rows ms
  known_array Replicates ms

-- the number, where it is from the one to the other
abbrev pub number_in : ℕ → ℕ → ℤ → Option ℕ
number_in least most (pos n) = if nat_le least n && nat_le n most then Some n else None
number_in least most (negsuc n) = None

-- an integer without a default, and one with
abbrev pub required : ℕ → ℕ → Bounds
required least most = record { default = None; least = least; most = most }

abbrev pub usual : ℕ → ℕ → ℕ → Bounds
usual default least most = record { default = Some default; least = least; most = most }

-- an integer within its bounds; its default where it is absent
abbrev pub number_value : List ℕ → Bounds → Option Data → Result ℕ HeadFault
number_value key bounds None = or_fault bounds.default (fault kind.Missing key)
number_value key bounds (Some d) = do
  number ← or_fault (as_integer d) (fault kind.Kind key)
  or_fault (number_in bounds.least bounds.most number) (fault kind.Range key)

unfoldable pub number_at : Place → Members → List ℕ → Bounds → Result ℕ HeadFault
number_at place ms key bounds = number_value (path place key) bounds (get_member key ms)

-- a point code
unfoldable pub point_at : Place → Members → Result ℕ HeadFault
point_at place ms = number_at place ms (codes "point") (required 0 (POINT_CODES - 1))

-- a text that must be there
abbrev pub text_value : List ℕ → Option Data → Result (List ℕ) HeadFault
text_value key None = Err (fault kind.Missing key)
text_value key (Some d) = or_fault (as_str d) (fault kind.Kind key)

unfoldable pub text_at : Place → Members → List ℕ → Result (List ℕ) HeadFault
text_at place ms key = text_value (path place key) (get_member key ms)
