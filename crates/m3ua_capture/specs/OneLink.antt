-- The head of an input whose events come on one link: the range of `links` is 1 to 1, and is tested at its place among the keys.
use Rattle.std.specs.Prelude.{ℕ, ℤ, pos, negsuc, ◌==◌, ◌&&◌, ◌||◌, not, nat_lt, codes, Bool, true, false, List, [], ◌∷◌, if◌then◌else◌, Option, Some, None, Ok, Err, option_and_then}
use Rattle.std.specs.Str.{is_utf8}
use Rattle.std.specs.declared.result.Result.{Result}
use Rattle.toml.specs.Data.{Members, get_member, as_integer}
use Rattle.toml.specs.Parse.{parse_document}
use Rattle.node_head.specs.declared.head.Head.{Head}
use Rattle.node_head.specs.declared.fault.HeadFault.{HeadFault}
use Rattle.node_head.specs.declared.fault.HeadKind.{HeadKind}
use Rattle.node_head.specs.declared.fault.HeadKind.TheVariants as kind
use Rattle.node_head.specs.Head.{head_of}
use Rattle.node_head.specs.Keys.{same}
use Rattle.node_head.specs.Lines.{lines, is_mark, joined}
use Rattle.node_head.specs.Refusals.{fault}

-- ---- how many links a head states

-- the lines before the first mark
unfoldable pub lines_before : List (List ℕ) → List (List ℕ)
lines_before [] = []
lines_before (line ∷ more) = if is_mark line then [] else line ∷ lines_before more

abbrev pub head_text : List ℕ → List ℕ
head_text bytes = joined (lines_before (lines bytes))

abbrev pub integer_at : List ℕ → Members → Option ℤ
integer_at key ms = option_and_then as_integer (get_member key ms)

unfoldable pub links_in : List ℕ → Option ℤ
links_in text = if is_utf8 text then option_and_then (integer_at (codes "links")) (parse_document text) else None

abbrev pub is_many : Option ℤ → Bool
is_many None = false
is_many (Some (pos n)) = nat_lt 1 n
is_many (Some (negsuc n)) = false

abbrev pub states_many_links : List ℕ → Bool
states_many_links bytes = is_many (links_in (head_text bytes))

-- ---- the head, or its first fault

abbrev pub many_links : HeadFault
many_links = fault kind.Range (codes "links")

-- the fault is of a key's value; the key is one of those up to `links`
abbrev pub is_of_value : HeadKind → Bool
is_of_value kind.End = false
is_of_value kind.Text = false
is_of_value kind.Unknown = false
is_of_value kind.Missing = true
is_of_value kind.Kind = true
is_of_value kind.Range = true

abbrev pub is_up_to_links : List ℕ → Bool
is_up_to_links key =
    same key (codes "point") || same key (codes "users") || same key (codes "conn_lanes") || same key (codes "data_lanes") || same key (codes "links")

-- it is found behind the number of links
abbrev pub is_behind_links : HeadFault → Bool
is_behind_links found = is_of_value found.kind && not (is_up_to_links found.key)

-- the first fault, where more links than one are a fault too
abbrev pub first_fault : List ℕ → HeadFault → HeadFault
first_fault bytes found = if is_behind_links found && states_many_links bytes then many_links else found

abbrev pub with_one_link : Head → Result Head HeadFault
with_one_link head = if head.links == 1 then Ok head else Err many_links

abbrev pub one_link : List ℕ → Result Head HeadFault → Result Head HeadFault
one_link bytes (Ok head) = with_one_link head
one_link bytes (Err found) = Err (first_fault bytes found)

unfoldable pub one_link_head : List ℕ → Result Head HeadFault
one_link_head bytes = one_link bytes (head_of bytes)
